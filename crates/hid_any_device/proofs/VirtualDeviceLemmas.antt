-- The reports that cross of a virtual device are those of its rounds that do.
use Rattle.std.proofs.Common.{◌≡◌, ◌++◌, ℕ, zero, suc, ◌+◌, ◌-◌, ◌<◌, ◌≤◌, Bool, true, false, ◌&&◌, List, [], ◌∷◌, map, take, drop, Option, Some, None, refl, ap, sym, ◌∙◌, subst, cond, append_assoc, arith}
use Rattle.std.specs.Prelude.{nat_le}
use Rattle.std.specs.List.{filter}
use Rattle.std.proofs.lemmas.Bool.Decides.{nat_tests}
use Rattle.hid_layout.specs.Layout.{Contents}
use Rattle.hid_layout.specs.Controls.{Item, items_of}
use Rattle.hid_snapshots.specs.declared.control_state.ControlState.{ControlState}
use Rattle.usb_transact.specs.declared.transaction.Fate.{Fate}
use Rattle.usb_transact.specs.declared.transaction.Fate.TheVariants.{Clean, TokenLost, ReplyLost, AckLost}
use Rattle.hid_bus.specs.ReportState.{ReportState, after_change, after_frame, after_opening, due_where, initial_reports}
use Rattle.hid_bus.specs.Rounds.{Changes, Frame, OwnStep, Round, is_host_ahead_after, is_host_ahead_after_all, closed_count, crossed_count, crossed_rounds, initial_history, has_closed, has_crossed, is_clean, new_round, with_opened_round, part_events, pieces_closed, with_poll, open_rounds}
use Rattle.hid_bus.specs.Rounds as rounds
use Rattle.hid_any_device.specs.Sender.{Sends, ReportPieces, Last, More, bytes_of_pieces}
use Rattle.hid_any_device.specs.PipeSteps.{Polls}
use Rattle.hid_any_device.specs.SendQueue.{QueueState, piece_count, crossed_reports, queue_at_start}
use Rattle.hid_any_device.specs.ReportPieces.{cut_pieces}
use Rattle.hid_any_device.specs.VirtualDevice.{RoundsCross, PartsCross, WritesAllPieces, pipe_steps_in, bytes_of_round, opening_step, part_pieces, round_bytes}
use Rattle.hid_snapshots.specs.PartBytes.{part_bytes}
use Rattle.hid_snapshots.specs.Pieces.{pieces_of}
use Rattle.hid_snapshots.proofs.PieceLemmas.{some_piece}
use Rattle.std.proofs.lemmas.List.{take-append-drop}

abbrev lived : ReportState → Option Round → Bool → rounds.RoundHistory
lived d current halted = record { reports = d; current = current; halted = halted }

abbrev going : ReportPieces → List ℕ → Bool → QueueState
going q earlier ahead = record { queue = q ∷ []; earlier = earlier; crossed = ahead }

-- ---- counts

some_left : (q : ReportPieces) → 0 < piece_count q
some_left (Last bytes) = omega arith
some_left (More bytes rest) = omega arith

-- the pieces that are closed after one more poll
abbrev closed_after : ℕ → Fate → ℕ
closed_after n Clean = n + 1
closed_after n TokenLost = n
closed_after n ReplyLost = n
closed_after n AckLost = n

one_more : (a b : ℕ) → a + (b + 1) ≡ (a + b) + 1
one_more a b = omega arith

closed_push : (polls : List Fate) (fate : Fate)
    → closed_count (polls ++ fate ∷ []) ≡ closed_after (closed_count polls) fate
closed_push [] Clean = refl
closed_push [] TokenLost = refl
closed_push [] ReplyLost = refl
closed_push [] AckLost = refl
closed_push (x ∷ polls) Clean =
    ap (λ (n : ℕ). cond (is_clean x) 1 0 + n) (closed_push polls Clean)
    ∙ one_more (cond (is_clean x) 1 0) (closed_count polls)
closed_push (x ∷ polls) TokenLost = ap (λ (n : ℕ). cond (is_clean x) 1 0 + n) (closed_push polls TokenLost)
closed_push (x ∷ polls) ReplyLost = ap (λ (n : ℕ). cond (is_clean x) 1 0 + n) (closed_push polls ReplyLost)
closed_push (x ∷ polls) AckLost = ap (λ (n : ℕ). cond (is_clean x) 1 0 + n) (closed_push polls AckLost)

ahead_push : (ahead : Bool) (polls : List Fate) (fate : Fate)
    → is_host_ahead_after_all ahead (polls ++ fate ∷ []) ≡ is_host_ahead_after (is_host_ahead_after_all ahead polls) fate
ahead_push ahead [] fate = refl
ahead_push ahead (x ∷ polls) fate = ahead_push (is_host_ahead_after ahead x) polls fate

-- ---- an open round, and what is left of its report

record Linked (writes : ℕ → List ControlState → ReportPieces) (round : Round) (q : ReportPieces) (earlier : List ℕ)
    (ahead : Bool) : Type 0 where
  bytes : earlier ++ bytes_of_pieces q ≡ bytes_of_round writes round
  left : pieces_closed round + piece_count q ≡ round.pieces
  stands : is_host_ahead_after_all false round.polls ≡ ahead

-- the last piece is at hand
abbrev is_final : ReportPieces → Bool
is_final (Last bytes) = true
is_final (More bytes rest) = false

le_false : (n m : ℕ) → m < n → nat_le n m ≡ false
le_false n m lt = grind (arith, nat_tests, lt)

le_true : (n m : ℕ) → n ≤ m → nat_le n m ≡ true
le_true n m le = grind (arith, nat_tests, le)

crossed_at : (pieces closed : ℕ) (ahead : Bool) (q : ReportPieces) → closed + piece_count q ≡ pieces
    → nat_le pieces (crossed_count closed ahead) ≡ ahead && is_final q
crossed_at pieces closed true (Last bytes) left = le_true pieces (closed + 1) (omega (arith, left))
crossed_at pieces closed true (More bytes rest) left = le_false pieces (closed + 1) (omega (arith, left, some_left rest))
crossed_at pieces closed false q left = le_false pieces closed (omega (arith, left, some_left q))

crossed_is : (writes : ℕ → List ControlState → ReportPieces) (round : Round) (q : ReportPieces) (earlier : List ℕ) (ahead : Bool)
    → Linked writes round q earlier ahead → has_crossed round ≡ ahead && is_final q
crossed_is writes round q earlier ahead l =
    ap (λ (b : Bool). nat_le round.pieces (crossed_count (pieces_closed round) b)) l.stands
    ∙ crossed_at round.pieces (pieces_closed round) ahead q l.left

-- a poll that closes no piece
same_left : (writes : ℕ → List ControlState → ReportPieces) (round : Round) (q : ReportPieces) (earlier : List ℕ)
    (ahead now : Bool) (fate : Fate) → Linked writes round q earlier ahead
    → closed_after (pieces_closed round) fate ≡ pieces_closed round → is_host_ahead_after ahead fate ≡ now
    → Linked writes (with_poll round fate) q earlier now
same_left writes round q earlier ahead now fate l same is = record {
  bytes = l.bytes;
  left = ap (λ (n : ℕ). n + piece_count q) (closed_push round.polls fate ∙ same) ∙ l.left;
  stands = ahead_push false round.polls fate ∙ ap (λ (b : Bool). is_host_ahead_after b fate) l.stands ∙ is;
}

still_left : (writes : ℕ → List ControlState → ReportPieces) (round : Round) (q : ReportPieces) (earlier : List ℕ) (ahead : Bool)
    → Linked writes round q earlier ahead → has_closed round ≡ false
still_left writes round q earlier ahead l = le_false round.pieces (pieces_closed round) (omega (arith, l.left, some_left q))

-- one that closes a piece before the last
next_left : (writes : ℕ → List ControlState → ReportPieces) (round : Round) (bytes : List ℕ) (rest : ReportPieces)
    (earlier : List ℕ) (ahead : Bool) → Linked writes round (More bytes rest) earlier ahead
    → Linked writes (with_poll round Clean) rest (earlier ++ bytes) false
next_left writes round bytes rest earlier ahead l = record {
  bytes = append_assoc earlier bytes (bytes_of_pieces rest) ∙ l.bytes;
  left = omega (arith, closed_push round.polls Clean, l.left);
  stands = ahead_push false round.polls Clean;
}

none_left : (writes : ℕ → List ControlState → ReportPieces) (round : Round) (bytes earlier : List ℕ) (ahead : Bool)
    → Linked writes round (Last bytes) earlier ahead → has_closed (with_poll round Clean) ≡ true
none_left writes round bytes earlier ahead l =
    le_true round.pieces (pieces_closed (with_poll round Clean))
    (omega (arith, closed_push round.polls Clean, l.left))

all_crossed : (writes : ℕ → List ControlState → ReportPieces) (round : Round) (bytes earlier : List ℕ) (ahead : Bool)
    → Linked writes round (Last bytes) earlier ahead → has_crossed (with_poll round Clean) ≡ true
all_crossed writes round bytes earlier ahead l =
    ap (λ (b : Bool). nat_le round.pieces (crossed_count (pieces_closed (with_poll round Clean)) b))
    (ahead_push false round.polls Clean)
    ∙ le_true round.pieces (pieces_closed (with_poll round Clean))
    (omega (arith, closed_push round.polls Clean, l.left))

-- ---- the induction

-- what of the open round has crossed already
abbrev before : Bool → List ℕ → List (List ℕ)
before crossed bytes = cond crossed (bytes ∷ []) []

abbrev told_of : (ℕ → List ControlState → ReportPieces) → List Round → List (List ℕ)
told_of writes gone = map (bytes_of_round writes) (filter has_crossed gone)

abbrev Quietly : List Item → (ℕ → List ControlState → ReportPieces) → List OwnStep → Type 0
Quietly items writes steps =
    (d : ReportState) (halted : Bool)
    → crossed_reports queue_at_start (pipe_steps_in items writes (lived d None halted) steps)
    ≡ told_of writes (rounds.rounds items steps (lived d None halted))

abbrev Partway : List Item → (ℕ → List ControlState → ReportPieces) → List OwnStep → Type 0
Partway items writes steps =
    (d : ReportState) (halted : Bool) (round : Round) (q : ReportPieces) (earlier : List ℕ) (ahead : Bool)
    → Linked writes round q earlier ahead
    → before (ahead && is_final q) (bytes_of_round writes round)
    ++ crossed_reports (going q earlier ahead) (pipe_steps_in items writes (lived d (Some round) halted) steps)
    ≡ told_of writes (rounds.rounds items steps (lived d (Some round) halted))

record Follows (items : List Item) (writes : ℕ → List ControlState → ReportPieces) (steps : List OwnStep) : Type 0 where
  quiet : Quietly items writes steps
  partway : Partway items writes steps

-- after a poll, whose round then closed or not
abbrev Past : List Item → (ℕ → List ControlState → ReportPieces) → List OwnStep → List (List ℕ) → QueueState → ReportState
    → Bool → Round → Bool → Type 0
Past items writes steps told a d halted round closes =
    told ++ crossed_reports a (pipe_steps_in items writes (lived d (cond closes None (Some round)) halted) steps)
    ≡ told_of writes (cond closes (round ∷ []) [] ++ rounds.rounds items steps (lived d (cond closes None (Some round)) halted))

abbrev AtPoll : List Item → (ℕ → List ControlState → ReportPieces) → List OwnStep → Fate → Type 0
AtPoll items writes steps fate =
    (d : ReportState) (halted : Bool) (round : Round) (q : ReportPieces) (earlier : List ℕ) (ahead : Bool)
    → Linked writes round q earlier ahead
    → before (ahead && is_final q) (bytes_of_round writes round)
    ++ crossed_reports (going q earlier ahead)
    (Polls Sends fate
    ∷ pipe_steps_in items writes (rounds.history_after_poll (lived d (Some round) halted) fate) steps)
    ≡ told_of writes
    (rounds.rounds_closed_by_poll (Some round) fate
    ++ rounds.rounds items steps (rounds.history_after_poll (lived d (Some round) halted) fate))

at_poll : (items : List Item) (writes : ℕ → List ControlState → ReportPieces) (steps : List OwnStep) (fate : Fate)
    → Follows items writes steps → AtPoll items writes steps fate
at_poll items writes steps TokenLost rest d halted round q earlier ahead l =
    let now : Linked writes (with_poll round TokenLost) q earlier ahead =
    same_left writes round q earlier ahead ahead TokenLost l refl refl in
    subst (Past items writes steps (before (ahead && is_final q) (bytes_of_round writes round))
    (going q earlier ahead) d halted (with_poll round TokenLost))
    (sym (still_left writes (with_poll round TokenLost) q earlier ahead now))
    (rest.partway d halted (with_poll round TokenLost) q earlier ahead now)
at_poll items writes steps ReplyLost rest d halted round q earlier ahead l =
    let now : Linked writes (with_poll round ReplyLost) q earlier ahead =
    same_left writes round q earlier ahead ahead ReplyLost l refl refl in
    subst (Past items writes steps (before (ahead && is_final q) (bytes_of_round writes round))
    (going q earlier ahead) d halted (with_poll round ReplyLost))
    (sym (still_left writes (with_poll round ReplyLost) q earlier ahead now))
    (rest.partway d halted (with_poll round ReplyLost) q earlier ahead now)
at_poll items writes steps AckLost rest d halted round (Last bytes) earlier true l =
    let now : Linked writes (with_poll round AckLost) (Last bytes) earlier true =
    same_left writes round (Last bytes) earlier true true AckLost l refl refl in
    subst (Past items writes steps (bytes_of_round writes round ∷ []) (going (Last bytes) earlier true) d halted
    (with_poll round AckLost))
    (sym (still_left writes (with_poll round AckLost) (Last bytes) earlier true now))
    (rest.partway d halted (with_poll round AckLost) (Last bytes) earlier true now)
at_poll items writes steps AckLost rest d halted round (Last bytes) earlier false l =
    let now : Linked writes (with_poll round AckLost) (Last bytes) earlier true =
    same_left writes round (Last bytes) earlier false true AckLost l refl refl in
    subst (Past items writes steps ((earlier ++ bytes) ∷ []) (going (Last bytes) earlier true) d halted
    (with_poll round AckLost))
    (sym (still_left writes (with_poll round AckLost) (Last bytes) earlier true now))
    (ap (λ (all : List ℕ). all
    ∷ crossed_reports (going (Last bytes) earlier true)
    (pipe_steps_in items writes (lived d (Some (with_poll round AckLost)) halted) steps)) l.bytes
    ∙ rest.partway d halted (with_poll round AckLost) (Last bytes) earlier true now)
at_poll items writes steps AckLost rest d halted round (More bytes more) earlier true l =
    let now : Linked writes (with_poll round AckLost) (More bytes more) earlier true =
    same_left writes round (More bytes more) earlier true true AckLost l refl refl in
    subst (Past items writes steps [] (going (More bytes more) earlier true) d halted (with_poll round AckLost))
    (sym (still_left writes (with_poll round AckLost) (More bytes more) earlier true now))
    (rest.partway d halted (with_poll round AckLost) (More bytes more) earlier true now)
at_poll items writes steps AckLost rest d halted round (More bytes more) earlier false l =
    let now : Linked writes (with_poll round AckLost) (More bytes more) earlier true =
    same_left writes round (More bytes more) earlier false true AckLost l refl refl in
    subst (Past items writes steps [] (going (More bytes more) earlier true) d halted (with_poll round AckLost))
    (sym (still_left writes (with_poll round AckLost) (More bytes more) earlier true now))
    (rest.partway d halted (with_poll round AckLost) (More bytes more) earlier true now)
at_poll items writes steps Clean rest d halted round (More bytes more) earlier true l =
    let now : Linked writes (with_poll round Clean) more (earlier ++ bytes) false =
    next_left writes round bytes more earlier true l in
    subst (Past items writes steps [] (going more (earlier ++ bytes) false) d halted (with_poll round Clean))
    (sym (still_left writes (with_poll round Clean) more (earlier ++ bytes) false now))
    (rest.partway d halted (with_poll round Clean) more (earlier ++ bytes) false now)
at_poll items writes steps Clean rest d halted round (More bytes more) earlier false l =
    let now : Linked writes (with_poll round Clean) more (earlier ++ bytes) false =
    next_left writes round bytes more earlier false l in
    subst (Past items writes steps [] (going more (earlier ++ bytes) false) d halted (with_poll round Clean))
    (sym (still_left writes (with_poll round Clean) more (earlier ++ bytes) false now))
    (rest.partway d halted (with_poll round Clean) more (earlier ++ bytes) false now)
at_poll items writes steps Clean rest d halted round (Last bytes) earlier true l =
    let behind : List Round = rounds.rounds items steps (lived d None halted) in
    subst (Past items writes steps (bytes_of_round writes round ∷ []) queue_at_start d halted (with_poll round Clean))
    (sym (none_left writes round bytes earlier true l))
    (ap (λ (more : List (List ℕ)). bytes_of_round writes round ∷ more) (rest.quiet d halted)
    ∙ ap (λ (b : Bool). map (bytes_of_round writes)
    (cond b (with_poll round Clean ∷ filter has_crossed behind) (filter has_crossed behind)))
    (sym (all_crossed writes round bytes earlier true l)))
at_poll items writes steps Clean rest d halted round (Last bytes) earlier false l =
    let behind : List Round = rounds.rounds items steps (lived d None halted) in
    subst (Past items writes steps ((earlier ++ bytes) ∷ []) queue_at_start d halted (with_poll round Clean))
    (sym (none_left writes round bytes earlier false l))
    (ap (λ (all : List ℕ). all ∷ crossed_reports queue_at_start (pipe_steps_in items writes (lived d None halted) steps)) l.bytes
    ∙ ap (λ (more : List (List ℕ)). bytes_of_round writes round ∷ more) (rest.quiet d halted)
    ∙ ap (λ (b : Bool). map (bytes_of_round writes)
    (cond b (with_poll round Clean ∷ filter has_crossed behind) (filter has_crossed behind)))
    (sym (all_crossed writes round bytes earlier false l)))

-- a token that arrives where no round is open
abbrev Opened : List Item → (ℕ → List ControlState → ReportPieces) → List OwnStep → Fate → ReportState → Bool → Option ℕ
    → Type 0
Opened items writes steps fate d halted due =
    let c : rounds.RoundHistory = with_opened_round items (lived d None halted) due in
    crossed_reports queue_at_start
    ((opening_step writes None c.current ++ Polls Sends fate ∷ [])
    ++ pipe_steps_in items writes (rounds.history_after_poll c fate) steps)
    ≡ told_of writes
    (rounds.rounds_closed_by_poll c.current fate ++ rounds.rounds items steps (rounds.history_after_poll c fate))

-- NAK, whatever is lost of it
naks : (items : List Item) (writes : ℕ → List ControlState → ReportPieces) (steps : List OwnStep) (fate : Fate)
    (d : ReportState) (halted : Bool) → Follows items writes steps → Opened items writes steps fate d halted None
naks items writes steps Clean d halted rest = rest.quiet d halted
naks items writes steps TokenLost d halted rest = rest.quiet d halted
naks items writes steps ReplyLost d halted rest = rest.quiet d halted
naks items writes steps AckLost d halted rest = rest.quiet d halted

opened : (items : List Item) (writes : ℕ → List ControlState → ReportPieces) (steps : List OwnStep) (fate : Fate)
    (d : ReportState) (halted : Bool) (due : Option ℕ) → WritesAllPieces items writes → Follows items writes steps
    → Opened items writes steps fate d halted due
opened items writes steps fate d halted None pieces rest = naks items writes steps fate d halted rest
opened items writes steps fate d halted (Some r) pieces rest =
    let there : ReportState = after_opening items r d in
    let round : Round = new_round items r there in
    at_poll items writes steps fate rest there halted round (writes r there.fixed) [] false
    (record { bytes = refl; left = (let e : 0 + piece_count (writes r there.fixed) ≡ piece_count (writes r there.fixed) = omega arith in e) ∙ pieces r there.fixed; stands = refl })

quiet_on : (items : List Item) (writes : ℕ → List ControlState → ReportPieces) (x : OwnStep) (steps : List OwnStep)
    → WritesAllPieces items writes → Follows items writes steps → Quietly items writes (x ∷ steps)
quiet_on items writes (Changes change) steps pieces rest d halted = rest.quiet (after_change items d change) halted
quiet_on items writes Frame steps pieces rest d halted = rest.quiet (after_frame d) halted
quiet_on items writes (rounds.Polls TokenLost) steps pieces rest d halted = rest.quiet d halted
quiet_on items writes (rounds.Polls Clean) steps pieces rest d halted = opened items writes steps Clean d halted (due_where items halted d) pieces rest
quiet_on items writes (rounds.Polls ReplyLost) steps pieces rest d halted = opened items writes steps ReplyLost d halted (due_where items halted d) pieces rest
quiet_on items writes (rounds.Polls AckLost) steps pieces rest d halted = opened items writes steps AckLost d halted (due_where items halted d) pieces rest

partway_on : (items : List Item) (writes : ℕ → List ControlState → ReportPieces) (x : OwnStep) (steps : List OwnStep)
    → Follows items writes steps → Partway items writes (x ∷ steps)
partway_on items writes (Changes change) steps rest d halted round q earlier ahead l = rest.partway (after_change items d change) halted round q earlier ahead l
partway_on items writes Frame steps rest d halted round q earlier ahead l = rest.partway (after_frame d) halted round q earlier ahead l
partway_on items writes (rounds.Polls TokenLost) steps rest d halted round q earlier ahead l = at_poll items writes steps TokenLost rest d halted round q earlier ahead l
partway_on items writes (rounds.Polls Clean) steps rest d halted round q earlier ahead l = at_poll items writes steps Clean rest d halted round q earlier ahead l
partway_on items writes (rounds.Polls ReplyLost) steps rest d halted round q earlier ahead l = at_poll items writes steps ReplyLost rest d halted round q earlier ahead l
partway_on items writes (rounds.Polls AckLost) steps rest d halted round q earlier ahead l = at_poll items writes steps AckLost rest d halted round q earlier ahead l

-- where nothing more happens
at_end : (writes : ℕ → List ControlState → ReportPieces) (round : Round) (crossed : Bool) → has_crossed round ≡ crossed
    → before crossed (bytes_of_round writes round) ++ [] ≡ told_of writes (round ∷ [])
at_end writes round true is = ap (λ (b : Bool). map (bytes_of_round writes) (cond b (round ∷ []) [])) (sym is)
at_end writes round false is = ap (λ (b : Bool). map (bytes_of_round writes) (cond b (round ∷ []) [])) (sym is)

follows : (items : List Item) (writes : ℕ → List ControlState → ReportPieces) (steps : List OwnStep)
    → WritesAllPieces items writes → Follows items writes steps
follows items writes [] pieces = record {
  quiet = λ d halted. refl;
  partway = λ d halted round q earlier ahead l. at_end writes round (ahead && is_final q) (crossed_is writes round q earlier ahead l);
}
follows items writes (x ∷ steps) pieces =
    let rest : Follows items writes steps = follows items writes steps pieces in
    record { quiet = quiet_on items writes x steps pieces rest; partway = partway_on items writes x steps rest }

pub crosses_by_rounds : (items : List Item) (writes : ℕ → List ControlState → ReportPieces) (snapshot : List ControlState)
    (idle : List ℕ) (steps : List OwnStep) → WritesAllPieces items writes
    → RoundsCross items writes snapshot idle steps
crosses_by_rounds items writes snapshot idle steps pieces =
    (follows items writes steps pieces).quiet (initial_reports items snapshot idle) false

-- ---- reports as a virtual device writes them

count_cut : (n : ℕ) (bytes : List ℕ) → piece_count (cut_pieces 64 n bytes) ≡ n + 1
count_cut zero bytes = refl
count_cut (suc n) bytes = ap (λ (k : ℕ). 1 + k) (count_cut n (drop 64 bytes)) ∙ (let e : 1 + (n + 1) ≡ suc n + 1 = omega arith in e)

joined_cut : (n : ℕ) (bytes : List ℕ) → bytes_of_pieces (cut_pieces 64 n bytes) ≡ bytes
joined_cut zero bytes = refl
joined_cut (suc n) bytes = ap (λ (rest : List ℕ). take 64 bytes ++ rest) (joined_cut n (drop 64 bytes)) ∙ take-append-drop 64 bytes

own_pieces : (layout : Contents) → WritesAllPieces (items_of layout) (part_pieces layout)
own_pieces layout r parts =
    let some : 0 < pieces_of (items_of layout) r = some_piece (items_of layout) r in
    count_cut (pieces_of (items_of layout) r - 1) (part_bytes layout r parts) ∙ (let e : pieces_of (items_of layout) r - 1 + 1 ≡ pieces_of (items_of layout) r = omega (arith, some) in e)

same_bytes : (layout : Contents) (gone : List Round) → map (bytes_of_round (part_pieces layout)) gone ≡ map (round_bytes layout) gone
same_bytes layout [] = refl
same_bytes layout (round ∷ gone) =
    ap (λ (first : List ℕ). first ∷ map (bytes_of_round (part_pieces layout)) gone) (joined_cut (pieces_of (items_of layout) round.report - 1) (round_bytes layout round))
    ∙ ap (λ (rest : List (List ℕ)). round_bytes layout round ∷ rest) (same_bytes layout gone)

pub parts_cross : (layout : Contents) (snapshot : List ControlState) (idle : List ℕ) (steps : List OwnStep)
    → PartsCross layout snapshot idle steps
parts_cross layout snapshot idle steps =
    crosses_by_rounds (items_of layout) (part_pieces layout) snapshot idle steps (own_pieces layout)
    ∙ same_bytes layout (crossed_rounds (items_of layout) snapshot idle steps)
