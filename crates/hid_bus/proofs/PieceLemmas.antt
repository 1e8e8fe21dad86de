-- Reports of one piece, the pieces before the last one, and the piece at hand.
use Rattle.std.proofs.Common.{◌≡◌, ℕ, ◌+◌, ◌<◌, ◌≤◌, Bool, true, false, not, ◌&&◌, ◌||◌, List, [], ◌∷◌, Option, Some, None, inl, inr, ◌⊎◌, refl, ap, sym, ◌∙◌, subst, cond, arith}
use Rattle.std.specs.Prelude.{nat_le, IfSome}
use Rattle.std.specs.List.{list_any}
use Rattle.std.proofs.lemmas.Bool.Decides.{nat_tests}
use Rattle.hid_layout.specs.Controls.{Item}
use Rattle.hid_snapshots.specs.declared.control_state.ControlState.{ControlState}
use Rattle.hid_snapshots.specs.Pieces.{pieces_for, pieces_of}
use Rattle.hid_snapshots.specs.Views.{view_after_part}
use Rattle.hid_snapshots.proofs.PieceLemmas.{some_piece}
use Rattle.usb_transact.specs.declared.transaction.Fate.{Fate}
use Rattle.usb_transact.specs.declared.transaction.Fate.TheVariants.{Clean, TokenLost, ReplyLost, AckLost}
use Rattle.hid_bus.specs.ReportState.{ReportState, due_where}
use Rattle.hid_bus.specs.Rounds.{Changes, Frame, Polls, Round, reaches_host, is_clean, closed_count, is_host_ahead_after_all, crossed_count, pieces_closed, pieces_crossed, has_crossed, has_closed, part_events}
use Rattle.hid_bus.specs.LinkState.{OpenRound, LinkState, HasPieces, is_last, piece_after, open_next, with_open_report, state_at_token, state_before_answer, state_after_answer}
use Rattle.hid_bus.specs.DeviceHistory.{BusEvent, Own, Idles, Configures, Halts, Clears, Resets, state_after, state_after_all}
use Rattle.hid_bus.specs.HistoryState.{IsQuietPoll}
use Rattle.hid_bus.proofs.HistoryLemmas.{link}

pub short_is_one : (bytes : ℕ) → bytes ≤ 64 → pieces_for bytes ≡ 1
short_is_one bytes short = omega (arith, short)

none_more : (n : ℕ) → 0 + n ≡ n
none_more n = omega arith

or_true : (b : Bool) → b || true ≡ true
or_true true = refl
or_true false = refl

some_crossed : (n : ℕ) (ahead : Bool) → nat_le 1 (crossed_count (1 + n) ahead) ≡ true
some_crossed n true = grind (arith, nat_tests)
some_crossed n false = grind (arith, nat_tests)

-- of polls of one piece, which had crossed before or not
one_crosses : (ahead : Bool) (polls : List Fate)
    → nat_le 1 (crossed_count (closed_count polls) (is_host_ahead_after_all ahead polls)) ≡ ahead
    || list_any reaches_host polls
one_crosses true [] = refl
one_crosses false [] = refl
one_crosses ahead (Clean ∷ polls) =
    some_crossed (closed_count polls) (is_host_ahead_after_all false polls) ∙ sym (or_true ahead)
one_crosses ahead (TokenLost ∷ polls) =
    ap (λ (n : ℕ). nat_le 1 (crossed_count n (is_host_ahead_after_all ahead polls))) (none_more (closed_count polls))
    ∙ one_crosses ahead polls
one_crosses ahead (ReplyLost ∷ polls) =
    ap (λ (n : ℕ). nat_le 1 (crossed_count n (is_host_ahead_after_all ahead polls))) (none_more (closed_count polls))
    ∙ one_crosses ahead polls
one_crosses ahead (AckLost ∷ polls) =
    ap (λ (n : ℕ). nat_le 1 (crossed_count n (is_host_ahead_after_all true polls))) (none_more (closed_count polls))
    ∙ one_crosses true polls ∙ sym (or_true ahead)

some_closed : (n : ℕ) → nat_le 1 (1 + n) ≡ true
some_closed n = grind (arith, nat_tests)

one_closes : (polls : List Fate) → nat_le 1 (closed_count polls) ≡ list_any is_clean polls
one_closes [] = refl
one_closes (Clean ∷ polls) = some_closed (closed_count polls)
one_closes (TokenLost ∷ polls) = ap (nat_le 1) (none_more (closed_count polls)) ∙ one_closes polls
one_closes (ReplyLost ∷ polls) = ap (nat_le 1) (none_more (closed_count polls)) ∙ one_closes polls
one_closes (AckLost ∷ polls) = ap (nat_le 1) (none_more (closed_count polls)) ∙ one_closes polls

pub short_crosses : (round : Round) → round.pieces ≡ 1 → has_crossed round ≡ list_any reaches_host round.polls
short_crosses round one = ap (λ (n : ℕ). nat_le n (pieces_crossed round)) one ∙ one_crosses false round.polls

pub short_closes : (round : Round) → round.pieces ≡ 1 → has_closed round ≡ list_any is_clean round.polls
short_closes round one = ap (λ (n : ℕ). nat_le n (pieces_closed round)) one ∙ one_closes round.polls

-- a piece before the last
earlier : (items : List Item) (d : ReportState) (round : OpenRound) (odd : Bool) (view : List ControlState)
    (halted : Bool)
    (fate : Fate) → is_last round ≡ false → IsQuietPoll items (link d (Some round) odd view halted) fate
earlier items d round odd view halted Clean more = (
  ap (λ (b : Bool). cond (b && not round.crossed) (part_events items round.report view d.fixed) []) more,
  ap (λ (b : Bool). cond (b && not round.crossed) (view_after_part items round.report view d.fixed) view) more,
)
earlier items d round odd view halted TokenLost more = (refl, refl)
earlier items d round odd view halted ReplyLost more = (refl, refl)
earlier items d round odd view halted AckLost more = (
  ap (λ (b : Bool). cond (b && not round.crossed) (part_events items round.report view d.fixed) []) more,
  ap (λ (b : Bool). cond (b && not round.crossed) (view_after_part items round.report view d.fixed) view) more,
)

pub earlier_is_quiet : (items : List Item) (s : LinkState) (round : OpenRound) (fate : Fate) → s.current ≡ Some round
    → is_last round ≡ false → IsQuietPoll items s fate
earlier_is_quiet items s round fate is more =
    subst (λ (o : Option OpenRound). IsQuietPoll items (link s.reports o s.toggle s.view s.halted) fate) (sym is)
    (earlier items s.reports round s.toggle s.view s.halted fate more)

-- ---- the piece at hand is one of its report's

abbrev IsPiece : List Item → OpenRound → Type 0
IsPiece items round = (round.pieces ≡ pieces_of items round.report) × (round.piece < round.pieces)

last_or_not : (n m : ℕ) → (nat_le n m ≡ true) ⊎ ((nat_le n m ≡ false) × (m < n))
last_or_not n m = grind (arith, nat_tests)

next_has : (items : List Item) (round : OpenRound) → IsPiece items round → IfSome (open_next round) (IsPiece items)
next_has items round has = elim (last_or_not round.pieces (round.piece + 1)) [
  | inl last ↦ subst (λ (b : Bool). IfSome (cond b None (Some (piece_after round))) (IsPiece items)) (sym last) tt
  | inr more ↦
      subst (λ (b : Bool). IfSome (cond b None (Some (piece_after round))) (IsPiece items)) (sym more.0)
      (has.0, more.1)
]

opened_by_has : (items : List Item) (d : ReportState) (odd : Bool) (view : List ControlState) (halted : Bool)
    (due : Option ℕ) → HasPieces items (with_open_report items (link d None odd view halted) due)
opened_by_has items d odd view halted None = tt
opened_by_has items d odd view halted (Some r) = (refl, some_piece items r)

opened_has : (items : List Item) (d : ReportState) (current : Option OpenRound) (odd : Bool)
    (view : List ControlState)
    (halted : Bool) → HasPieces items (link d current odd view halted)
    → HasPieces items (state_at_token items (link d current odd view halted))
opened_has items d (Some round) odd view halted has = has
opened_has items d None odd view halted has = opened_by_has items d odd view halted (due_where items halted d)

arrived_has : (items : List Item) (s : LinkState) (fate : Fate) → HasPieces items s
    → HasPieces items (state_before_answer items s fate)
arrived_has items s TokenLost has = has
arrived_has items s Clean has = opened_has items s.reports s.current s.toggle s.view s.halted has
arrived_has items s ReplyLost has = opened_has items s.reports s.current s.toggle s.view s.halted has
arrived_has items s AckLost has = opened_has items s.reports s.current s.toggle s.view s.halted has

answered_has : (items : List Item) (d : ReportState) (current : Option OpenRound) (odd : Bool)
    (view : List ControlState)
    (halted : Bool) (fate : Fate) → HasPieces items (link d current odd view halted)
    → HasPieces items (state_after_answer items (link d current odd view halted) fate)
answered_has items d None odd view halted fate has = tt
answered_has items d (Some round) odd view halted Clean has = next_has items round has
answered_has items d (Some round) odd view halted TokenLost has = has
answered_has items d (Some round) odd view halted ReplyLost has = has
answered_has items d (Some round) odd view halted AckLost has = has

bus_event_has : (items : List Item) (s : LinkState) (x : BusEvent) → HasPieces items s
    → HasPieces items (state_after items s x)
bus_event_has items s (Own (Changes change)) has = has
bus_event_has items s (Own Frame) has = has
bus_event_has items s (Own (Polls fate)) has =
    let t : LinkState = state_before_answer items s fate in
    answered_has items t.reports t.current t.toggle t.view t.halted fate (arrived_has items s fate has)
bus_event_has items s (Idles idle) has = has
bus_event_has items s Configures has = tt
bus_event_has items s Halts has = tt
bus_event_has items s Clears has = tt
bus_event_has items s Resets has = tt

pub lived_pieces : (items : List Item) (s : LinkState) (bus_events : List BusEvent) → HasPieces items s
    → HasPieces items (state_after_all items s bus_events)
lived_pieces items s [] has = has
lived_pieces items s (x ∷ bus_events) has =
    lived_pieces items (state_after items s x) bus_events (bus_event_has items s x has)

pub ruleset pieces = (short_is_one, short_crosses, short_closes, earlier_is_quiet)
