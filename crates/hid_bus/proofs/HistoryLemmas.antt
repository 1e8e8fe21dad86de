-- After its history a link state stands, and has reported, as the outcomes of its round history say.
use Rattle.std.proofs.Common.{◌≡◌, ◌++◌, ℕ, suc, ◌+◌, ◌<◌, ◌≤◌, Bool, true, false, not, ◌&&◌, List, [], ◌∷◌, Option, Some, None, Result, Ok, Err, refl, ap, sym, ◌∙◌, subst, inl, inr, ◌⊎◌, cond, append_assoc, arith}
use Rattle.std.specs.Prelude.{if◌then◌else◌, nat_le}
use Rattle.std.proofs.lemmas.Bool.Decides.{nat_tests}
use Rattle.hid_layout.specs.Controls.{Item}
use Rattle.hid_snapshots.specs.declared.control_state.ControlState.{ControlState}
use Rattle.hid_snapshots.specs.declared.change.Change.{Change}
use Rattle.hid_snapshots.specs.declared.fault.ChangeFault.{ChangeFault}
use Rattle.hid_snapshots.specs.declared.event.Event.{Event}
use Rattle.hid_snapshots.specs.ControlStates.{blank}
use Rattle.hid_snapshots.specs.Pieces.{pieces_of}
use Rattle.hid_snapshots.specs.Snapshots.{snapshot_after}
use Rattle.hid_snapshots.specs.Views.{view_after_part, changes_between, drops_between}
use Rattle.usb_transact.specs.declared.transaction.Fate.{Fate}
use Rattle.usb_transact.specs.declared.transaction.Fate.TheVariants.{Clean, TokenLost, ReplyLost, AckLost}
use Rattle.hid_snapshots.proofs.PieceLemmas.{some_piece}
use Rattle.hid_bus.specs.ReportState.{ReportState, initial_reports, first_due, due_where, after_change, after_frame, with_idle, no_idle, with_abort, after_opening}
use Rattle.hid_bus.specs.Rounds.{Changes, Frame, Polls, Round, RoundHistory, new_round, is_clean, closed_count, is_host_ahead_after, is_host_ahead_after_all, crossed_count, pieces_closed, pieces_crossed, has_crossed, has_closed, with_poll, part_events, with_opened_round, rounds_closed_by_poll, history_after_poll}
use Rattle.hid_bus.specs.LinkState.{LinkState, OpenRound, has_all_pieces, first_open_piece, with_open_report, state_after_answer, poll_events}
use Rattle.hid_bus.specs.DeviceHistory.{BusEvent, Own, Idles, Configures, Halts, Clears, Resets, LinkOutcome, RoundEnded, rounds_as_outcomes, outcomes_of_events, history_after_all, crossed_round_events, view_after_round, aborted_round_events, lost_round_events, events_of_outcomes, view_after_outcomes, flipped_toggle, toggle_after_round, toggle_after_outcomes, state_after_all, events_of_history}
use Rattle.hid_bus.specs.HistoryState.{FollowsHistory}

abbrev pub history : ReportState → Option Round → Bool → RoundHistory
history d current halted = record { reports = d; current = current; halted = halted }

abbrev pub link : ReportState → Option OpenRound → Bool → List ControlState → Bool → LinkState
link d current odd view halted = record { reports = d; current = current; toggle = odd; view = view; halted = halted }

-- a round with this piece at hand
abbrev pub open_at : Round → ℕ → Bool → OpenRound
open_at r piece crossed = record { report = r.report; pieces = r.pieces; piece = piece; crossed = crossed }

-- ---- toggles

pub flips_one : (n : ℕ) (odd : Bool) → flipped_toggle (n + 1) odd ≡ not (flipped_toggle n odd)
flips_one n odd = ap (λ (k : ℕ). flipped_toggle k odd) (let e : n + 1 ≡ suc n = omega arith in e)

expects_open : (piece : ℕ) (crossed odd : Bool)
    → cond crossed (not (flipped_toggle piece odd)) (flipped_toggle piece odd)
    ≡ flipped_toggle (crossed_count piece crossed) odd
expects_open piece true odd = sym (flips_one piece odd)
expects_open piece false odd = refl

-- ---- one more poll

-- the piece at hand then
abbrev closed_after : ℕ → Fate → ℕ
closed_after piece Clean = piece + 1
closed_after piece TokenLost = piece
closed_after piece ReplyLost = piece
closed_after piece AckLost = piece

one_more : (a b : ℕ) → a + (b + 1) ≡ (a + b) + 1
one_more a b = omega arith

closed_push : (polls : List Fate) (fate : Fate)
    → closed_count (polls ++ fate ∷ []) ≡ closed_after (closed_count polls) fate
closed_push [] Clean = refl
closed_push [] TokenLost = refl
closed_push [] ReplyLost = refl
closed_push [] AckLost = refl
closed_push (x ∷ polls) Clean =
    ap (λ (n : ℕ). cond (is_clean x) 1 0 + n) (closed_push polls Clean)
    ∙ one_more (cond (is_clean x) 1 0) (closed_count polls)
closed_push (x ∷ polls) TokenLost = ap (λ (n : ℕ). cond (is_clean x) 1 0 + n) (closed_push polls TokenLost)
closed_push (x ∷ polls) ReplyLost = ap (λ (n : ℕ). cond (is_clean x) 1 0 + n) (closed_push polls ReplyLost)
closed_push (x ∷ polls) AckLost = ap (λ (n : ℕ). cond (is_clean x) 1 0 + n) (closed_push polls AckLost)

ahead_push : (ahead : Bool) (polls : List Fate) (fate : Fate)
    → is_host_ahead_after_all ahead (polls ++ fate ∷ []) ≡ is_host_ahead_after (is_host_ahead_after_all ahead polls) fate
ahead_push ahead [] fate = refl
ahead_push ahead (x ∷ polls) fate = ahead_push (is_host_ahead_after ahead x) polls fate

-- An open round, as the round history and as the link state have it: the piece at hand, whether that one has crossed,
-- and whether all have.
pub record Links (r : Round) (piece : ℕ) (crossed whole : Bool) (d : ReportState) : Type 0 where
  piece_is : piece ≡ pieces_closed r
  ahead_is : crossed ≡ is_host_ahead_after_all false r.polls
  unclosed : piece < r.pieces
  whole_is : has_crossed r ≡ whole
  parts : r.parts ≡ d.fixed

whether_crossed : (r : Round) (piece : ℕ) (crossed : Bool) → piece ≡ pieces_closed r
    → crossed ≡ is_host_ahead_after_all false r.polls → has_crossed r ≡ nat_le r.pieces (crossed_count piece crossed)
whether_crossed r piece crossed closed ahead =
    ap (λ (b : Bool). nat_le r.pieces (crossed_count (pieces_closed r) b)) (sym ahead)
    ∙ ap (λ (n : ℕ). nat_le r.pieces (crossed_count n crossed)) (sym closed)

whether_closed : (r : Round) (piece : ℕ) (crossed whole : Bool) (d : ReportState) (fate : Fate)
    → Links r piece crossed whole d → has_closed (with_poll r fate) ≡ nat_le r.pieces (closed_after piece fate)
whether_closed r piece crossed whole d fate l = ap (nat_le r.pieces) (closed_push r.polls fate ∙ ap (λ (n : ℕ). closed_after n fate) (sym l.piece_is))

links_on : (r : Round) (piece : ℕ) (crossed whole : Bool) (d : ReportState) (fate : Fate) (whole_then : Bool)
    → Links r piece crossed whole d → closed_after piece fate < r.pieces
    → nat_le r.pieces (crossed_count (closed_after piece fate) (is_host_ahead_after crossed fate)) ≡ whole_then
    → Links (with_poll r fate) (closed_after piece fate) (is_host_ahead_after crossed fate) whole_then d
links_on r piece crossed whole d fate whole_then l within is =
    let closed : closed_after piece fate ≡ pieces_closed (with_poll r fate) =
    ap (λ (n : ℕ). closed_after n fate) l.piece_is ∙ sym (closed_push r.polls fate) in
    let ahead : is_host_ahead_after crossed fate ≡ is_host_ahead_after_all false (r.polls ++ fate ∷ []) =
    ap (λ (b : Bool). is_host_ahead_after b fate) l.ahead_is ∙ sym (ahead_push false r.polls fate) in
    record {
      piece_is = closed;
      ahead_is = ahead;
      unclosed = within;
      whole_is =
          whether_crossed (with_poll r fate) (closed_after piece fate) (is_host_ahead_after crossed fate) closed ahead
          ∙ is;
      parts = l.parts;
    }

-- whether all have crossed, by the piece at hand
whole_by : (r : Round) (piece : ℕ) (crossed whole : Bool) (d : ReportState) → Links r piece crossed whole d
    → nat_le r.pieces (crossed_count piece crossed) ≡ whole
whole_by r piece crossed whole d l = sym (whether_crossed r piece crossed l.piece_is l.ahead_is) ∙ l.whole_is

above : (n m : ℕ) → m < n → nat_le n m ≡ false
above n m h = grind (arith, nat_tests)

last_or_not : (n m : ℕ) → ((nat_le n m ≡ true) × (n ≤ m)) ⊎ ((nat_le n m ≡ false) × (m < n))
last_or_not n m = grind (arith, nat_tests)

whole_at : (n piece : ℕ) (crossed : Bool) → piece < n
    → crossed && nat_le n (piece + 1) ≡ nat_le n (crossed_count piece crossed)
whole_at n piece true within = refl
whole_at n piece false within = sym (above n piece within)

-- whether the open round of a link state has crossed as a whole, by the piece at hand
whole_open : (r : Round) (piece : ℕ) (crossed whole : Bool) (d : ReportState) → Links r piece crossed whole d
    → has_all_pieces (open_at r piece crossed) ≡ whole
whole_open r piece crossed whole d l = whole_at r.pieces piece crossed l.unclosed ∙ whole_by r piece crossed whole d l

and_true : (b : Bool) → b && true ≡ b
and_true true = refl
and_true false = refl

and_false : (b : Bool) → b && false ≡ false
and_false true = refl
and_false false = refl

-- of the last piece the round has crossed where that has, and of an earlier one it hasn't
whole_last : (r : Round) (piece : ℕ) (crossed whole : Bool) (d : ReportState) → Links r piece crossed whole d
    → nat_le r.pieces (piece + 1) ≡ true → crossed ≡ whole
whole_last r piece crossed whole d l last = sym (and_true crossed) ∙ ap (λ (b : Bool). crossed && b) (sym last) ∙ whole_open r piece crossed whole d l

not_whole : (r : Round) (piece : ℕ) (crossed whole : Bool) (d : ReportState) → Links r piece crossed whole d
    → nat_le r.pieces (piece + 1) ≡ false → whole ≡ false
not_whole r piece crossed whole d l more = sym (whole_open r piece crossed whole d l) ∙ ap (λ (b : Bool). crossed && b) more ∙ and_false crossed

-- a poll by which nothing closes leaves it open, with the same piece at hand
stays_open : (r : Round) (piece : ℕ) (crossed whole : Bool) (d : ReportState) (fate : Fate)
    → Links r piece crossed whole d → closed_after piece fate ≡ piece → has_closed (with_poll r fate) ≡ false
stays_open r piece crossed whole d fate l same =
    whether_closed r piece crossed whole d fate l ∙ above r.pieces (closed_after piece fate) (subst (λ (n : ℕ). n < r.pieces) (sym same) l.unclosed)

relink : (r : Round) (piece : ℕ) (crossed whole : Bool) (d e : ReportState) → e.fixed ≡ d.fixed
    → Links r piece crossed whole d → Links r piece crossed whole e
relink r piece crossed whole d e same l = record { piece_is = l.piece_is; ahead_is = l.ahead_is; unclosed = l.unclosed; whole_is = l.whole_is; parts = l.parts ∙ sym same }

-- a change leaves the parts that were fixed last
fixed_stays : (items : List Item) (d : ReportState) (c : Change) → (after_change items d c).fixed ≡ d.fixed
fixed_stays items d c =
    elim (snapshot_after items d.snapshot c) as
    (λ (x : Result (List ControlState) ChangeFault).
    (elim x as
    (λ _. ReportState) [
      | Ok states ↦
          record { snapshot = states; fixed = d.fixed; frames = d.frames; idle = d.idle; aborted = d.aborted }
      | Err fault ↦
          d
    ]).fixed ≡ d.fixed)
    [ Ok states ↦ refl | Err fault ↦ refl ]

-- what happens to a link state of which this was told already, and what comes of this course
abbrev pub Lives : List Item → List BusEvent → Bool → List ControlState → List Event → LinkState → RoundHistory → Type 0
Lives items bus_events odd view told s c =
    FollowsHistory items view odd (outcomes_of_events items bus_events c) (history_after_all items bus_events c)
    (told ++ events_of_history items s bus_events) (state_after_all items s bus_events)

-- Of a link state with an open round, which hasn't crossed, or has: then it was reported, and the host's view took
-- it. The toggle was changed with each piece that closed, and no halt stands while a round is open.
abbrev pub Partway : List Item → List BusEvent → Type 0
Partway items bus_events =
    (d : ReportState) (odd : Bool) (view : List ControlState) (r : Round) (piece : ℕ) (crossed whole : Bool)
    → Links r piece crossed whole d
    → Lives items bus_events odd view (crossed_round_events items view whole r)
    (link d (Some (open_at r piece crossed)) (flipped_toggle piece odd) (view_after_round items view whole r) false)
    (history d (Some r) false)

-- The histories from link states without an open round, halted or not, and from those with one.
pub record Delivers (items : List Item) (bus_events : List BusEvent) : Type 0 where
  pub quiet : (d : ReportState) (odd : Bool) (view : List ControlState) (halted : Bool)
      → Lives items bus_events odd view [] (link d None odd view halted) (history d None halted)
  pub partway : Partway items bus_events

-- a round that closed has crossed, and is told first; its toggles were changed once for each piece
closes : (items : List Item) (odd odd_then : Bool) (view : List ControlState) (r : Round)
    (outcomes : List LinkOutcome) (c : RoundHistory) (told : List Event) (s : LinkState) → has_crossed r ≡ true
    → odd_then ≡ flipped_toggle (pieces_closed r) odd → odd_then ≡ flipped_toggle (pieces_crossed r) odd
    → FollowsHistory items (view_after_part items r.report view r.parts) odd_then outcomes c told s
    → FollowsHistory items view odd (RoundEnded r ∷ outcomes) c (part_events items r.report view r.parts ++ told) s
closes items odd odd_then view r outcomes c told s crossed closed_is crossed_is h = record {
  events = ap (λ (es : List Event). part_events items r.report view r.parts ++ es) h.events
      ∙ sym (ap
      (λ (b : Bool). crossed_round_events items view b r
      ++ events_of_outcomes items (view_after_round items view b r) outcomes) crossed);
  reports = h.reports;
  open_round = h.open_round;
  part = h.part;
  view = h.view
      ∙ sym (ap (λ (b : Bool). view_after_outcomes items (view_after_round items view b r) outcomes) crossed);
  halted = h.halted;
  toggle = h.toggle ∙ ap (λ (b : Bool). toggle_after_outcomes pieces_closed b outcomes) closed_is;
  expects = λ going. h.expects going ∙ ap (λ (b : Bool). toggle_after_outcomes pieces_crossed b outcomes) crossed_is;
}

none : (items : List Item) → Delivers items []
none items = record {
  quiet = λ d odd view halted. record {
    events = refl;
    reports = refl;
    open_round = refl;
    part = tt;
    view =
        refl;
    halted = refl;
    toggle = refl;
    expects = λ going. refl;
  };
  partway = λ d odd view r piece crossed whole l. record {
    events = ap (λ (b : Bool). crossed_round_events items view b r ++ []) (sym l.whole_is);
    reports = refl;
    open_round = ap (λ (n : ℕ). Some (open_at r n crossed)) l.piece_is ∙ ap (λ (b : Bool). Some (open_at r (pieces_closed r) b)) l.ahead_is;
    part = l.parts;
    view = ap (λ (b : Bool). view_after_round items view b r) (sym l.whole_is);
    halted = refl;
    toggle = ap (λ (n : ℕ). flipped_toggle n odd) l.piece_is;
    expects =
        λ going. expects_open piece crossed odd
        ∙ ap (λ (n : ℕ). flipped_toggle (crossed_count n crossed) odd) l.piece_is
        ∙ ap (λ (b : Bool). flipped_toggle (crossed_count (pieces_closed r) b) odd) l.ahead_is;
  };
}

change : (items : List Item) (c : Change) (bus_events : List BusEvent) → Delivers items bus_events
    → Delivers items (Own (Changes c) ∷ bus_events)
change items c bus_events rest = record {
  quiet = λ d odd view halted. rest.quiet (after_change items d c) odd view halted;
  partway = λ d odd view r piece crossed whole l.
      rest.partway (after_change items d c) odd view r piece crossed whole (relink r piece crossed whole d (after_change items d c) (fixed_stays items d c) l);
}

frame : (items : List Item) (bus_events : List BusEvent) → Delivers items bus_events
    → Delivers items (Own Frame ∷ bus_events)
frame items bus_events rest = record {
  quiet = λ d odd view halted. rest.quiet (after_frame d) odd view halted;
  partway = λ d odd view r piece crossed whole l. rest.partway (after_frame d) odd view r piece crossed whole (relink r piece crossed whole d (after_frame d) refl l);
}

-- idle times that are set, also while a round is open
idles : (items : List Item) (idle : List ℕ) (bus_events : List BusEvent) → Delivers items bus_events
    → Delivers items (Idles idle ∷ bus_events)
idles items idle bus_events rest = record {
  quiet = λ d odd view halted. rest.quiet (with_idle idle d) odd view halted;
  partway = λ d odd view r piece crossed whole l. rest.partway (with_idle idle d) odd view r piece crossed whole (relink r piece crossed whole d (with_idle idle d) refl l);
}

-- a configuration ends the open round, and both ends start again
abbrev Quietly : List Item → List BusEvent → Type 0
Quietly items bus_events =
    (d : ReportState) (odd : Bool) (view : List ControlState) (halted : Bool)
    → Lives items bus_events odd view [] (link d None odd view halted) (history d None halted)

configured_quiet : (items : List Item) (bus_events : List BusEvent) → Delivers items bus_events
    → Quietly items (Configures ∷ bus_events)
configured_quiet items bus_events rest d odd view halted =
    let h = rest.quiet (initial_reports items d.snapshot d.idle) false (blank items) false in
    record {
      events = h.events;
      reports = h.reports;
      open_round = h.open_round;
      part = h.part;
      view = h.view;
      halted =
          h.halted;
      toggle = h.toggle;
      expects = h.expects;
    }

configured_partway : (items : List Item) (bus_events : List BusEvent) → Delivers items bus_events
    → Partway items (Configures ∷ bus_events)
configured_partway items bus_events rest d odd view r piece crossed whole l =
    let anew : ReportState = initial_reports items d.snapshot d.idle in
    let outcomes : List LinkOutcome = outcomes_of_events items bus_events (history anew None false) in
    let h = rest.quiet anew false (blank items) false in
    record {
      events = ap (λ (es : List Event). crossed_round_events items view whole r ++ es) h.events
          ∙ ap (λ (b : Bool). crossed_round_events items view b r ++ events_of_outcomes items (blank items) outcomes)
          (sym l.whole_is);
      reports = h.reports;
      open_round = h.open_round;
      part = h.part;
      view = h.view;
      halted = h.halted;
      toggle = h.toggle;
      expects = h.expects;
    }

-- a reset too, and it tells what changes until the view is the initial one again
reset_quiet : (items : List Item) (bus_events : List BusEvent) → Delivers items bus_events
    → Quietly items (Resets ∷ bus_events)
reset_quiet items bus_events rest d odd view halted =
    let h = rest.quiet (initial_reports items d.snapshot (no_idle d.idle)) false (blank items) false in
    record {
      events = ap (λ (es : List Event). changes_between items view (blank items) ++ es) h.events;
      reports = h.reports;
      open_round = h.open_round;
      part = h.part;
      view = h.view;
      halted = h.halted;
      toggle = h.toggle;
      expects = h.expects;
    }

-- what is told of an open round at a reset, by whether it has crossed
gone_as : (items : List Item) (d : ReportState) (view : List ControlState) (r : Round) (crossed : Bool)
    (told behind : List Event) → r.parts ≡ d.fixed → told ≡ behind
    → crossed_round_events items view crossed r
    ++ (cond crossed (changes_between items (view_after_round items view crossed r) (blank items))
    (drops_between items r.report (view_after_round items view crossed r) (blank items) d.fixed) ++ told)
    ≡ lost_round_events items view crossed r ++ behind
gone_as items d view r true told behind parts same =
    sym (append_assoc (part_events items r.report view r.parts)
    (changes_between items (view_after_part items r.report view r.parts) (blank items)) told)
    ∙ ap (λ (es : List Event). lost_round_events items view true r ++ es) same
gone_as items d view r false told behind parts same =
    ap (λ (p : List ControlState). drops_between items r.report view (blank items) p ++ told) (sym parts)
    ∙ ap (λ (es : List Event). lost_round_events items view false r ++ es) same

reset_partway : (items : List Item) (bus_events : List BusEvent) → Delivers items bus_events
    → Partway items (Resets ∷ bus_events)
reset_partway items bus_events rest d odd view r piece crossed whole l =
    let anew : ReportState = initial_reports items d.snapshot (no_idle d.idle) in
    let outcomes : List LinkOutcome = outcomes_of_events items bus_events (history anew None false) in
    let h = rest.quiet anew false (blank items) false in
    let told : List Event = events_of_history items (link anew None false (blank items) false) bus_events in
    let now : List ControlState = view_after_round items view whole r in
    record {
      events = ap
          (λ (b : Bool). crossed_round_events items view whole r
          ++ (cond b (changes_between items now (blank items))
          (drops_between items r.report now (blank items) d.fixed) ++ told)) (whole_open r piece crossed whole d l)
          ∙ gone_as items d view r whole _ _ l.parts h.events
          ∙ ap (λ (b : Bool). lost_round_events items view b r ++ events_of_outcomes items (blank items) outcomes)
          (sym l.whole_is);
      reports = h.reports;
      open_round = h.open_round;
      part = h.part;
      view = h.view;
      halted = h.halted;
      toggle = h.toggle;
      expects = h.expects;
    }

-- a halt where no round is open, and a clear there
halted_quiet : (items : List Item) (bus_events : List BusEvent) → Delivers items bus_events
    → Quietly items (Halts ∷ bus_events)
halted_quiet items bus_events rest d odd view halted =
    let h = rest.quiet d odd view true in
    record {
      events = h.events;
      reports = h.reports;
      open_round = h.open_round;
      part = h.part;
      view = h.view;
      halted =
          h.halted;
      toggle = h.toggle;
      expects = h.expects;
    }

cleared_quiet : (items : List Item) (bus_events : List BusEvent) → Delivers items bus_events
    → Quietly items (Clears ∷ bus_events)
cleared_quiet items bus_events rest d odd view halted =
    let h = rest.quiet d false view false in
    record {
      events = h.events;
      reports = h.reports;
      open_round = h.open_round;
      part = h.part;
      view = h.view;
      halted =
          h.halted;
      toggle = h.toggle;
      expects = h.expects;
    }

-- what is told of an open round that is cut, by whether it has crossed
cut_as : (items : List Item) (d : ReportState) (view : List ControlState) (r : Round) (crossed : Bool)
    (told behind : List Event) → r.parts ≡ d.fixed → told ≡ behind
    → crossed_round_events items view crossed r
    ++ (cond crossed []
    (drops_between items r.report (view_after_round items view crossed r)
    (view_after_round items view crossed r) d.fixed) ++ told)
    ≡ aborted_round_events items view crossed r ++ behind
cut_as items d view r true told behind parts same = ap (λ (es : List Event). part_events items r.report view r.parts ++ es) same
cut_as items d view r false told behind parts same =
    ap (λ (p : List ControlState). drops_between items r.report view view p ++ told) (sym parts)
    ∙ ap (λ (es : List Event). aborted_round_events items view false r ++ es) same

cut_seen : (items : List Item) (view : List ControlState) (r : Round) (crossed : Bool) (outcomes : List LinkOutcome)
    → has_crossed r ≡ crossed
    → aborted_round_events items view crossed r
    ++ events_of_outcomes items (view_after_round items view crossed r) outcomes
    ≡ aborted_round_events items view (has_crossed r) r
    ++ events_of_outcomes items (view_after_round items view (has_crossed r) r) outcomes
cut_seen items view r crossed outcomes is =
    ap (λ (b : Bool). aborted_round_events items view b r
    ++ events_of_outcomes items (view_after_round items view b r) outcomes) (sym is)

-- Where a halted endpoint is halted no more, both toggles started again since.
toggles_anew : (items : List Item) (bus_events : List BusEvent) (d : ReportState) (changes : Round → ℕ) (x y : Bool)
    → (history_after_all items bus_events (history d None true)).halted ≡ false
    → toggle_after_outcomes changes x (outcomes_of_events items bus_events (history d None true))
    ≡ toggle_after_outcomes changes y (outcomes_of_events items bus_events (history d None true))
toggles_anew items [] d changes x y going = absurd (cc)
toggles_anew items (Own (Changes c) ∷ bus_events) d changes x y going =
    toggles_anew items bus_events (after_change items d c) changes x y going
toggles_anew items (Own Frame ∷ bus_events) d changes x y going =
    toggles_anew items bus_events (after_frame d) changes x y going
toggles_anew items (Own (Polls Clean) ∷ bus_events) d changes x y going =
    toggles_anew items bus_events d changes x y going
toggles_anew items (Own (Polls TokenLost) ∷ bus_events) d changes x y going =
    toggles_anew items bus_events d changes x y going
toggles_anew items (Own (Polls ReplyLost) ∷ bus_events) d changes x y going =
    toggles_anew items bus_events d changes x y going
toggles_anew items (Own (Polls AckLost) ∷ bus_events) d changes x y going =
    toggles_anew items bus_events d changes x y going
toggles_anew items (Idles idle ∷ bus_events) d changes x y going =
    toggles_anew items bus_events (with_idle idle d) changes x y going
toggles_anew items (Configures ∷ bus_events) d changes x y going = refl
toggles_anew items (Halts ∷ bus_events) d changes x y going = toggles_anew items bus_events d changes x y going
toggles_anew items (Clears ∷ bus_events) d changes x y going = refl
toggles_anew items (Resets ∷ bus_events) d changes x y going = refl

-- what a halt or a clear tells, by whether the round has crossed
cut_told_as : (items : List Item) (d : ReportState) (view : List ControlState) (r : Round) (piece : ℕ)
    (crossed whole : Bool) (told behind : List Event) → Links r piece crossed whole d → told ≡ behind
    → crossed_round_events items view whole r
    ++ (cond (has_all_pieces (open_at r piece crossed)) []
    (drops_between items r.report (view_after_round items view whole r) (view_after_round items view whole r) d.fixed)
    ++ told)
    ≡ aborted_round_events items view whole r ++ behind
cut_told_as items d view r piece crossed whole told behind l same =
    ap (λ (b : Bool). crossed_round_events items view whole r
    ++ (cond b []
    (drops_between items r.report (view_after_round items view whole r)
    (view_after_round items view whole r) d.fixed) ++ told)) (whole_open r piece crossed whole d l)
    ∙ cut_as items d view r whole told behind l.parts same

-- A halt ends the open round, and the host's toggle may be ahead until both start again.
halted_partway : (items : List Item) (bus_events : List BusEvent) → Delivers items bus_events
    → Partway items (Halts ∷ bus_events)
halted_partway items bus_events rest d odd view r piece crossed whole l =
    let due : ReportState = with_abort (Some r.report) d in
    let outcomes : List LinkOutcome = outcomes_of_events items bus_events (history due None true) in
    let h = rest.quiet due (flipped_toggle piece odd) (view_after_round items view whole r) true in
    record {
      events = cut_told_as items d view r piece crossed whole _ _ l h.events
          ∙ cut_seen items view r whole outcomes l.whole_is;
      reports = h.reports;
      open_round = h.open_round;
      part = h.part;
      view = h.view
          ∙ ap (λ (b : Bool). view_after_outcomes items (view_after_round items view b r) outcomes) (sym l.whole_is);
      halted = h.halted;
      toggle = h.toggle
          ∙ ap (λ (n : ℕ). toggle_after_outcomes pieces_closed (flipped_toggle n odd) outcomes) l.piece_is;
      expects = λ going. h.expects going
          ∙ toggles_anew items bus_events due pieces_crossed (flipped_toggle piece odd)
          (toggle_after_round pieces_crossed odd (Some r)) (sym h.halted ∙ going);
    }

-- a clear ends it too, and both toggles start again
cleared_partway : (items : List Item) (bus_events : List BusEvent) → Delivers items bus_events
    → Partway items (Clears ∷ bus_events)
cleared_partway items bus_events rest d odd view r piece crossed whole l =
    let due : ReportState = with_abort (Some r.report) d in
    let outcomes : List LinkOutcome = outcomes_of_events items bus_events (history due None false) in
    let h = rest.quiet due false (view_after_round items view whole r) false in
    record {
      events = cut_told_as items d view r piece crossed whole _ _ l h.events
          ∙ cut_seen items view r whole outcomes l.whole_is;
      reports = h.reports;
      open_round = h.open_round;
      part = h.part;
      view = h.view
          ∙ ap (λ (b : Bool). view_after_outcomes items (view_after_round items view b r) outcomes) (sym l.whole_is);
      halted = h.halted;
      toggle = h.toggle;
      expects = h.expects;
    }

-- ---- polls of an open round

none_more : (es : List Event) → es ++ [] ≡ es
none_more [] = refl
none_more (e ∷ es) = ap (λ (rest : List Event). e ∷ rest) (none_more es)

-- what happens to a device after a poll, whose round then closed or not
abbrev LivesPast : List Item → List BusEvent → Bool → List ControlState → List Event → LinkState → ReportState → Round
    → Bool → Type 0
LivesPast items bus_events odd view told s d r closes =
    let c : RoundHistory = history d (if closes then None else Some r) false in
    FollowsHistory items view odd
    (rounds_as_outcomes (if closes then r ∷ [] else []) ++ outcomes_of_events items bus_events c)
    (history_after_all items bus_events c) (told ++ events_of_history items s bus_events)
    (state_after_all items s bus_events)

-- what is reported so far, and at this poll, where the report is whole with it
abbrev told_at : List Item → ReportState → List ControlState → Round → Bool → Bool → List Event
told_at items d view r whole comp =
    crossed_round_events items view whole r
    ++ (if comp then part_events items r.report (view_after_round items view whole r) d.fixed else [])

abbrev seen_at : List Item → ReportState → List ControlState → Round → Bool → Bool → List ControlState
seen_at items d view r whole comp =
    if comp then view_after_part items r.report
    (view_after_round items view whole r) d.fixed else view_after_round items view whole r

-- what was reported before a poll, and at it
regrouped : (items : List Item) (bus_events : List BusEvent) (odd : Bool) (view : List ControlState) (r : Round)
    (whole comp : Bool) (s : LinkState) (d : ReportState) (now : Round) (closes : Bool)
    → LivesPast items bus_events odd view (told_at items d view r whole comp) s d now closes
    → (let c : RoundHistory = history d (if closes then None else Some now) false in
    FollowsHistory items view odd
    (rounds_as_outcomes (if closes then now ∷ [] else []) ++ outcomes_of_events items bus_events c)
    (history_after_all items bus_events c)
    (crossed_round_events items view whole r
    ++ ((if comp then part_events items r.report (view_after_round items view whole r) d.fixed else [])
    ++ events_of_history items s bus_events)) (state_after_all items s bus_events))
regrouped items bus_events odd view r whole comp s d now closes h =
    let c : RoundHistory = history d (if closes then None else Some now) false in
    subst (λ (es : List Event). FollowsHistory items view odd
    (rounds_as_outcomes (if closes then now ∷ [] else []) ++ outcomes_of_events items bus_events c)
    (history_after_all items bus_events c) es (state_after_all items s bus_events))
    (append_assoc (crossed_round_events items view whole r)
    (if comp then part_events items r.report (view_after_round items view whole r) d.fixed else [])
    (events_of_history items s bus_events)) h

-- the last piece closes the round
abbrev CleanLast : List Item → List BusEvent → ReportState → Bool → List ControlState → Round → ℕ → Bool → Bool → Bool
    → Bool → Type 0
CleanLast items bus_events d odd view r piece whole last comp closes =
    LivesPast items bus_events odd view (told_at items d view r whole comp)
    (link d (if last then None else Some (open_at r (piece + 1) false)) (not (flipped_toggle piece odd))
    (seen_at items d view r whole comp) false) d (with_poll r Clean) closes

clean_last : (items : List Item) (bus_events : List BusEvent) → Delivers items bus_events
    → (d : ReportState) (odd : Bool) (view : List ControlState) (r : Round) (piece : ℕ) (crossed whole : Bool)
    → Links r piece crossed whole d
    → nat_le r.pieces (piece + 1) ≡ true
    → CleanLast items bus_events d odd view r piece crossed true (not crossed) true
clean_last items bus_events rest d odd view r piece crossed whole l last = by_crossed crossed
  where
    outcomes : List LinkOutcome
    outcomes = outcomes_of_events items bus_events (history d None false)

    number : pieces_closed (with_poll r Clean) ≡ piece + 1
    number = closed_push r.polls Clean ∙ ap (λ (n : ℕ). n + 1) (sym l.piece_is)

    crossings : pieces_crossed (with_poll r Clean) ≡ piece + 1
    crossings =
        ap (λ (b : Bool). crossed_count (pieces_closed (with_poll r Clean)) b) (ahead_push false r.polls Clean)
        ∙ number

    -- the host's view after it, with the part as the round has it
    behind : List ControlState → LinkState
    behind parts = link d None (not (flipped_toggle piece odd)) (view_after_part items r.report view parts) false

    closed : FollowsHistory items view odd (RoundEnded (with_poll r Clean) ∷ outcomes)
        (history_after_all items bus_events (history d None false))
        (part_events items r.report view r.parts ++ events_of_history items (behind r.parts) bus_events)
        (state_after_all items (behind r.parts) bus_events)
    closed = closes items odd (not (flipped_toggle piece odd)) view (with_poll r Clean) outcomes
        (history_after_all items bus_events (history d None false)) _ _
        (ap (nat_le r.pieces) crossings ∙ last)
        (sym (flips_one piece odd) ∙ sym (ap (λ (n : ℕ). flipped_toggle n odd) number))
        (sym (flips_one piece odd) ∙ sym (ap (λ (n : ℕ). flipped_toggle n odd) crossings))
        (rest.quiet d (not (flipped_toggle piece odd)) (view_after_part items r.report view r.parts) false)

    by_crossed : (b : Bool) → CleanLast items bus_events d odd view r piece b true (not b) true
    by_crossed true =
        subst (λ (es : List Event). FollowsHistory items view odd (RoundEnded (with_poll r Clean) ∷ outcomes)
        (history_after_all items bus_events (history d None false))
        (es ++ events_of_history items (behind r.parts) bus_events)
        (state_after_all items (behind r.parts) bus_events))
        (sym (none_more (part_events items r.report view r.parts))) closed
    by_crossed false =
        subst (λ (p : List ControlState). FollowsHistory items view odd (RoundEnded (with_poll r Clean) ∷ outcomes)
        (history_after_all items bus_events (history d None false))
        (part_events items r.report view p ++ events_of_history items (behind p) bus_events)
        (state_after_all items (behind p) bus_events)) l.parts closed

-- an earlier piece leaves it open, with the next one at hand
clean_more : (items : List Item) (bus_events : List BusEvent) → Delivers items bus_events
    → (d : ReportState) (odd : Bool) (view : List ControlState) (r : Round) (piece : ℕ) (crossed whole : Bool)
    → Links r piece crossed whole d
    → piece + 1 < r.pieces → CleanLast items bus_events d odd view r piece false false false false
clean_more items bus_events rest d odd view r piece crossed whole l more =
    subst (λ (b : Bool). LivesPast items bus_events odd view []
    (link d (Some (open_at r (piece + 1) false)) b view false) d (with_poll r Clean) false) (flips_one piece odd)
    (rest.partway d odd view (with_poll r Clean) (piece + 1) false false
    (links_on r piece crossed whole d Clean false l more (above r.pieces (piece + 1) more)))

clean : (items : List Item) (bus_events : List BusEvent) → Delivers items bus_events
    → Partway items (Own (Polls Clean) ∷ bus_events)
clean items bus_events rest d odd view r piece crossed whole l =
    let closed : has_closed (with_poll r Clean) ≡ nat_le r.pieces (piece + 1) =
    whether_closed r piece crossed whole d Clean l in
    regrouped items bus_events odd view r whole (nat_le r.pieces (piece + 1) && not crossed)
    (link d (if nat_le r.pieces (piece + 1) then None else Some (open_at r (piece + 1) false))
    (not (flipped_toggle piece odd))
    (seen_at items d view r whole (nat_le r.pieces (piece + 1) && not crossed)) false)
    d (with_poll r Clean) (has_closed (with_poll r Clean))
    (elim (last_or_not r.pieces (piece + 1)) [
      | inl last ↦
          subst (λ (b : Bool). CleanLast items bus_events d odd view r piece whole b (b && not crossed)
          (has_closed (with_poll r Clean))) (sym last.0)
          (subst (λ (b : Bool). CleanLast items bus_events d odd view r piece whole true (not crossed) b)
          (sym (closed ∙ last.0))
          (subst (λ (b : Bool). CleanLast items bus_events d odd view r piece b true (not crossed) true)
          (whole_last r piece crossed whole d l last.0)
          (clean_last items bus_events rest d odd view r piece crossed whole l last.0)))
      | inr more ↦
          subst (λ (b : Bool). CleanLast items bus_events d odd view r piece whole b (b && not crossed)
          (has_closed (with_poll r Clean))) (sym more.0)
          (subst (λ (b : Bool). CleanLast items bus_events d odd view r piece whole false false b)
          (sym (closed ∙ more.0))
          (subst (λ (b : Bool). CleanLast items bus_events d odd view r piece b false false false)
          (sym (not_whole r piece crossed whole d l more.0))
          (clean_more items bus_events rest d odd view r piece crossed whole l more.1)))
    ])

-- where the acknowledgement is lost the piece at hand has crossed, and stays at hand
abbrev AckLast : List Item → List BusEvent → ReportState → Bool → List ControlState → Round → ℕ → Bool → Bool → Bool
    → Type 0
AckLast items bus_events d odd view r piece whole comp closes =
    LivesPast items bus_events odd view (told_at items d view r whole comp)
    (link d (Some (open_at r piece true)) (flipped_toggle piece odd) (seen_at items d view r whole comp) false) d
    (with_poll r AckLost) closes

ack_last : (items : List Item) (bus_events : List BusEvent) → Delivers items bus_events
    → (d : ReportState) (odd : Bool) (view : List ControlState) (r : Round) (piece : ℕ) (crossed whole : Bool)
    → Links r piece crossed whole d
    → nat_le r.pieces (piece + 1) ≡ true → AckLast items bus_events d odd view r piece crossed (not crossed) false
ack_last items bus_events rest d odd view r piece crossed whole l last = by_crossed crossed
  where
    linked : Links (with_poll r AckLost) piece true true d
    linked = links_on r piece crossed whole d AckLost true l l.unclosed last

    told : LivesPast items bus_events odd view (part_events items r.report view r.parts)
        (link d (Some (open_at r piece true)) (flipped_toggle piece odd)
        (view_after_part items r.report view r.parts) false) d (with_poll r AckLost) false
    told = rest.partway d odd view (with_poll r AckLost) piece true true linked

    by_crossed : (b : Bool) → AckLast items bus_events d odd view r piece b (not b) false
    by_crossed true =
        subst (λ (es : List Event). LivesPast items bus_events odd view es
        (link d (Some (open_at r piece true)) (flipped_toggle piece odd)
        (view_after_part items r.report view r.parts) false) d (with_poll r AckLost) false)
        (sym (none_more (part_events items r.report view r.parts))) told
    by_crossed false =
        subst (λ (p : List ControlState). LivesPast items bus_events odd view (part_events items r.report view p)
        (link d (Some (open_at r piece true)) (flipped_toggle piece odd)
        (view_after_part items r.report view p) false) d (with_poll r AckLost) false) l.parts told

ack_more : (items : List Item) (bus_events : List BusEvent) → Delivers items bus_events
    → (d : ReportState) (odd : Bool) (view : List ControlState) (r : Round) (piece : ℕ) (crossed whole : Bool)
    → Links r piece crossed whole d
    → nat_le r.pieces (piece + 1) ≡ false → AckLast items bus_events d odd view r piece false false false
ack_more items bus_events rest d odd view r piece crossed whole l more =
    rest.partway d odd view (with_poll r AckLost) piece true false
    (links_on r piece crossed whole d AckLost false l l.unclosed more)

ack_lost : (items : List Item) (bus_events : List BusEvent) → Delivers items bus_events
    → Partway items (Own (Polls AckLost) ∷ bus_events)
ack_lost items bus_events rest d odd view r piece crossed whole l =
    let stays : has_closed (with_poll r AckLost) ≡ false = stays_open r piece crossed whole d AckLost l refl in
    regrouped items bus_events odd view r whole (nat_le r.pieces (piece + 1) && not crossed)
    (link d (Some (open_at r piece true)) (flipped_toggle piece odd)
    (seen_at items d view r whole (nat_le r.pieces (piece + 1) && not crossed)) false)
    d (with_poll r AckLost) (has_closed (with_poll r AckLost))
    (subst (λ (b : Bool). AckLast items bus_events d odd view r piece whole
    (nat_le r.pieces (piece + 1) && not crossed) b) (sym stays)
    (elim (last_or_not r.pieces (piece + 1)) [
      | inl last ↦
          subst (λ (b : Bool). AckLast items bus_events d odd view r piece whole (b && not crossed) false)
          (sym last.0)
          (subst (λ (b : Bool). AckLast items bus_events d odd view r piece b (not crossed) false)
          (whole_last r piece crossed whole d l last.0)
          (ack_last items bus_events rest d odd view r piece crossed whole l last.0))
      | inr more ↦
          subst (λ (b : Bool). AckLast items bus_events d odd view r piece whole (b && not crossed) false)
          (sym more.0)
          (subst (λ (b : Bool). AckLast items bus_events d odd view r piece b false false)
          (sym (not_whole r piece crossed whole d l more.0))
          (ack_more items bus_events rest d odd view r piece crossed whole l more.0))
    ]))

-- where the token or the reply is lost nothing comes of it
token_lost : (items : List Item) (bus_events : List BusEvent) → Delivers items bus_events
    → Partway items (Own (Polls TokenLost) ∷ bus_events)
token_lost items bus_events rest d odd view r piece crossed whole l =
    subst (LivesPast items bus_events odd view (crossed_round_events items view whole r)
    (link d (Some (open_at r piece crossed)) (flipped_toggle piece odd)
    (view_after_round items view whole r) false) d (with_poll r TokenLost))
    (sym (stays_open r piece crossed whole d TokenLost l refl))
    (rest.partway d odd view (with_poll r TokenLost) piece crossed whole
    (links_on r piece crossed whole d TokenLost whole l l.unclosed (whole_by r piece crossed whole d l)))

reply_lost : (items : List Item) (bus_events : List BusEvent) → Delivers items bus_events
    → Partway items (Own (Polls ReplyLost) ∷ bus_events)
reply_lost items bus_events rest d odd view r piece crossed whole l =
    subst (LivesPast items bus_events odd view (crossed_round_events items view whole r)
    (link d (Some (open_at r piece crossed)) (flipped_toggle piece odd)
    (view_after_round items view whole r) false) d (with_poll r ReplyLost))
    (sym (stays_open r piece crossed whole d ReplyLost l refl))
    (rest.partway d odd view (with_poll r ReplyLost) piece crossed whole
    (links_on r piece crossed whole d ReplyLost whole l l.unclosed (whole_by r piece crossed whole d l)))

-- a poll that arrives where no round is open: it opens one where a report is due, which is then like an open one
abbrev Arrives : List Item → Fate → List BusEvent → ReportState → Bool → List ControlState → Bool → Option ℕ → Type 0
Arrives items fate bus_events d odd view halted due =
    let c : RoundHistory = history d None halted in
    let s : LinkState = link d None odd view halted in
    FollowsHistory items view odd
    (rounds_as_outcomes (rounds_closed_by_poll (with_opened_round items c due).current fate)
    ++ outcomes_of_events items bus_events (history_after_poll (with_opened_round items c due) fate))
    (history_after_all items bus_events (history_after_poll (with_opened_round items c due) fate))
    (poll_events items (with_open_report items s due) fate
    ++ events_of_history items (state_after_answer items (with_open_report items s due) fate) bus_events)
    (state_after_all items (state_after_answer items (with_open_report items s due) fate) bus_events)

-- by whether the endpoint is halted, and a report is due
if_due : (items : List Item) (d : ReportState) (halted : Bool) (P : Bool → Option ℕ → Type 0)
    → ((b : Bool) → P b None) → ((r : ℕ) → P false (Some r)) → P halted (due_where items halted d)
if_due items d true P not_due due = not_due true
if_due items d false P not_due due = elim (first_due items d) as (P false) [ None ↦ not_due false | Some r ↦ due r ]

-- a round that just opened has a piece
new_links : (items : List Item) (r : ℕ) (d : ReportState) → Links (new_round items r d) 0 false false d
new_links items r d = record { piece_is = refl; ahead_is = refl; unclosed = some_piece items r; whole_is = above (pieces_of items r) 0 (some_piece items r); parts = refl }

opened : (items : List Item) (fate : Fate) (bus_events : List BusEvent)
    → Partway items (Own (Polls fate) ∷ bus_events)
    → (d : ReportState) (odd : Bool) (view : List ControlState) (r : ℕ)
    → Lives items (Own (Polls fate) ∷ bus_events) odd view []
    (link (after_opening items r d) (Some (first_open_piece items r)) odd view false)
    (history (after_opening items r d) (Some (new_round items r (after_opening items r d))) false)
opened items fate bus_events partway d odd view r =
    partway (after_opening items r d) odd view (new_round items r (after_opening items r d)) 0 false false (new_links items r (after_opening items r d))

poll : (items : List Item) (fate : Fate) (bus_events : List BusEvent) → Delivers items bus_events
    → Delivers items (Own (Polls fate) ∷ bus_events)
poll items Clean bus_events rest = record {
  quiet = λ d odd view halted. if_due items d halted (Arrives items Clean bus_events d odd view)
      (rest.quiet d odd view) (opened items Clean bus_events (clean items bus_events rest) d odd view);
  partway = clean items bus_events rest;
}
poll items TokenLost bus_events rest = record { quiet = rest.quiet; partway = token_lost items bus_events rest }
poll items ReplyLost bus_events rest = record {
  quiet = λ d odd view halted. if_due items d halted (Arrives items ReplyLost bus_events d odd view)
      (rest.quiet d odd view) (opened items ReplyLost bus_events (reply_lost items bus_events rest) d odd view);
  partway = reply_lost items bus_events rest;
}
poll items AckLost bus_events rest = record {
  quiet = λ d odd view halted. if_due items d halted (Arrives items AckLost bus_events d odd view)
      (rest.quiet d odd view) (opened items AckLost bus_events (ack_lost items bus_events rest) d odd view);
  partway = ack_lost items bus_events rest;
}

pub delivers : (items : List Item) (bus_events : List BusEvent) → Delivers items bus_events
delivers items [] = none items
delivers items (Own (Changes c) ∷ bus_events) = change items c bus_events (delivers items bus_events)
delivers items (Own Frame ∷ bus_events) = frame items bus_events (delivers items bus_events)
delivers items (Own (Polls fate) ∷ bus_events) = poll items fate bus_events (delivers items bus_events)
delivers items (Idles idle ∷ bus_events) = idles items idle bus_events (delivers items bus_events)
delivers items (Configures ∷ bus_events) =
    let rest = delivers items bus_events in
    record { quiet = configured_quiet items bus_events rest; partway = configured_partway items bus_events rest }
delivers items (Halts ∷ bus_events) =
    let rest = delivers items bus_events in
    record { quiet = halted_quiet items bus_events rest; partway = halted_partway items bus_events rest }
delivers items (Clears ∷ bus_events) =
    let rest = delivers items bus_events in
    record { quiet = cleared_quiet items bus_events rest; partway = cleared_partway items bus_events rest }
delivers items (Resets ∷ bus_events) =
    let rest = delivers items bus_events in
    record { quiet = reset_quiet items bus_events rest; partway = reset_partway items bus_events rest }
