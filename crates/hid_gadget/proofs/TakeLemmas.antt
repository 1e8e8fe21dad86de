-- Taking the pieces of the open round that fit, one after the other.
use Rattle.std.proofs.Common.{◌≡◌, ◌∙◌, ℕ, zero, suc, ◌+◌, ◌-◌, ◌*◌, ◌/◌, ◌<◌, ◌≤◌, true, List, [], ◌∷◌, ◌++◌, length, take, Option, Some, refl, ap, sym, subst, arith}
use Rattle.std.specs.Prelude.{IsSome, if◌then◌else◌, nat_le}
use Rattle.std.proofs.lemmas.List.{length-append, length-drop}
use Rattle.hid_report_descriptor.specs.declared.report.Report.{Report}
use Rattle.hid_layout.specs.Controls.{is_input, items_of}
use Rattle.hid_layout.specs.Reports.{IsLayout, report_bytes}
use Rattle.hid_snapshots.specs.Parts.{IsInput}
use Rattle.hid_snapshots.specs.PartBytes.{part_bytes}
use Rattle.hid_snapshots.specs.Pieces.{piece_of, pieces_for, pieces_of}
use Rattle.hid_snapshots.proofs.PieceLemmas.{collected_more, pieces_are}
use Rattle.hid_device.specs.Core.{AreBytesOf, CoreState, IsBelow, IsPiece, IsSound, SendsPart}
use Rattle.hid_device.specs.Inputs.{input_count}
use Rattle.hid_gadget.specs.Rooms.{with_front}
use Rattle.hid_gadget.specs.WholeReports.{bytes_left, core_after_poll, core_after_polls, fitting_pieces, piece_at_hand}
use Rattle.hid_gadget.proofs.PollLemmas.{fitting_room, fitting_within, open_at, piece_behind, polled_some, polls_more}
use Rattle.hid_gadget.proofs.RoomLemmas.{front_long, more_in_front}

-- ---- the report of the open round

-- an Input report is one of the reports
input_within : (reports : List Report) (r : ℕ) → is_input reports r ≡ true → r < length reports
input_within [] r h = absurd (cc)
input_within (x ∷ reports) zero h = omega arith
input_within (x ∷ reports) (suc r) h = omega (arith, input_within reports r h)

pub is_input_open : (core : CoreState) (r : ℕ) → IsSound core → core.current ≡ Some r → IsInput core.layout r
is_input_open core r sound opened =
    sound.inputs_first.first r (subst (IsBelow (input_count core.layout.reports)) opened sound.of_input)

pub within_open : (core : CoreState) (r : ℕ) → IsSound core → core.current ≡ Some r → r < length core.layout.reports
within_open core r sound opened = input_within core.layout.reports r (is_input_open core r sound opened)

-- how many bytes it has
pub long_open : (core : CoreState) (r : ℕ) → IsSound core → core.current ≡ Some r
    → length (part_bytes core.layout r core.reports.fixed) ≡ report_bytes core.layout r
long_open core r sound opened =
    let sends : AreBytesOf core.layout core.reports.fixed r (part_bytes core.layout r core.reports.fixed) =
    subst (SendsPart core.layout core.reports.fixed) opened sound.sends in
    sends.shows.whole

-- which of its pieces goes out
piece_open : (core : CoreState) (r : ℕ) → IsSound core → core.current ≡ Some r → core.piece < pieces_of (items_of core.layout) r
piece_open core r sound opened = subst (λ (o : Option ℕ). IsPiece (items_of core.layout) o core.piece) opened sound.piece

-- the pieces that fit are left of it
pub fits_open : (core : CoreState) (r room count : ℕ) → IsSound core → IsLayout core.layout → core.current ≡ Some r
    → count ≡ fitting_pieces room (bytes_left core r) → core.piece + count ≤ pieces_of (items_of core.layout) r
fits_open core r room count sound laid opened is =
    let bytes = part_bytes core.layout r core.reports.fixed in
    let left : length (bytes_left core r) ≡ length bytes - 64 * core.piece = length-drop (64 * core.piece) bytes in
    let pieces : pieces_of (items_of core.layout) r ≡ pieces_for (length bytes) =
    pieces_are core.layout r laid (is_input_open core r sound opened) ∙ ap pieces_for (sym (long_open core r sound opened)) in
    fitting_within room (length bytes) (pieces_of (items_of core.layout) r) core.piece count pieces (piece_open core r sound opened)
    (is ∙ ap (λ (n : ℕ). if nat_le n room then pieces_for n else room / 64) left)

-- ---- the round after some of its polls

-- a round that is still open
record IsStillOpen (core : CoreState) (r i : ℕ) : Type 0 where
  configured : (core_after_polls i core).is_configured ≡ core.is_configured
  current : (core_after_polls i core).current ≡ Some r
  hand : piece_at_hand (core_after_polls i core) ≡ piece_of (bytes_left core r) i

still_open_at : (i : ℕ) (c : CoreState) (r : ℕ) → c.piece + i < pieces_of (items_of c.layout) r
    → IsStillOpen (open_at c r c.piece c.toggle) r i
still_open_at i c r more =
    let after = polled_some i c r c.piece c.toggle more in
    record {
      configured = ap (λ (x : CoreState). x.is_configured) after;
      current = ap (λ (x : CoreState). x.current) after;
      hand = ap piece_at_hand after ∙ piece_behind (part_bytes c.layout r c.reports.fixed) c.piece i;
    }

still_open : (i : ℕ) (core : CoreState) (r : ℕ) → core.current ≡ Some r → core.piece + i < pieces_of (items_of core.layout) r
    → IsStillOpen core r i
still_open i core r opened more =
    let is : open_at core r core.piece core.toggle ≡ core =
    ap (λ (o : Option ℕ). let c : CoreState = record core { current = o } in c) (sym opened) in
    subst (λ (c : CoreState). IsStillOpen c r i) is (still_open_at i core r more)

-- ---- a piece that is taken

-- the core, the room and the count after some pieces were taken, and after one more
pub record TakesPiece (core : CoreState) (r : ℕ) (room : List ℕ) (i : ℕ) (now : CoreState) (filled : List ℕ) (taken : ℕ) : Type 0 where
  pub configured : now.is_configured ≡ core.is_configured
  pub current : IsSome now.current
  pub fits : taken + length (piece_at_hand now) ≤ length filled
  pub core_more : core_after_poll now ≡ core_after_polls (i + 1) core
  pub room_more : with_front (take taken filled ++ piece_at_hand now) filled
      ≡ with_front (take (64 * (i + 1)) (bytes_left core r)) room
  pub taken_more : taken + length (piece_at_hand now) ≡ length (take (64 * (i + 1)) (bytes_left core r))

pub takes_piece : (core : CoreState) (r : ℕ) (room : List ℕ) (count i : ℕ) (now : CoreState) (filled : List ℕ) (taken : ℕ)
    → IsSound core → IsLayout core.layout → core.current ≡ Some r → count ≡ fitting_pieces (length room) (bytes_left core r) → i < count
    → now ≡ core_after_polls i core → filled ≡ with_front (take (64 * i) (bytes_left core r)) room
    → taken ≡ length (take (64 * i) (bytes_left core r)) → TakesPiece core r room i now filled taken
takes_piece core r room count i now filled taken sound laid opened is more now_is filled_is taken_is =
    let left = bytes_left core r in
    let before = take (64 * i) left in
    let all = fits_open core r (length room) count sound laid opened is in
    let there = still_open i core r opened (omega (arith, all, more)) in
    let hand : piece_at_hand now ≡ piece_of left i = ap piece_at_hand now_is ∙ there.hand in
    let with_piece : before ++ piece_of left i ≡ take (64 * (i + 1)) left = collected_more left i in
    let long : length (before ++ piece_at_hand now) ≡ length before + length (piece_at_hand now) = length-append before (piece_at_hand now) in
    let taken_more : taken + length (piece_at_hand now) ≡ length (take (64 * (i + 1)) left) =
    ap (λ (n : ℕ). n + length (piece_at_hand now)) taken_is ∙ sym long
    ∙ ap (λ (l : List ℕ). length (before ++ l)) hand ∙ ap (λ (l : List ℕ). length l) with_piece in
    let small : length before ≤ length room = fitting_room (length room) left i (omega (arith, more, is)) in
    let enough : length (take (64 * (i + 1)) left) ≤ length room = fitting_room (length room) left (i + 1) (omega (arith, more, is)) in
    let same_room : length filled ≡ length room = ap (λ (l : List ℕ). length l) filled_is ∙ front_long before room small in
    record {
      configured = ap (λ (x : CoreState). x.is_configured) now_is ∙ there.configured;
      current = subst IsSome (sym (ap (λ (x : CoreState). x.current) now_is ∙ there.current)) refl;
      fits = omega (arith, taken_more, enough, same_room);
      core_more = ap core_after_poll now_is ∙ sym (polls_more i core)
          ∙ ap (λ (n : ℕ). core_after_polls n core) (let e : suc i ≡ i + 1 = omega arith in e);
      room_more = ap (λ (l : List ℕ). with_front (take taken l ++ piece_at_hand now) l) filled_is
          ∙ more_in_front before (piece_at_hand now) room taken taken_is
          ∙ ap (λ (l : List ℕ). with_front (before ++ l) room) hand
          ∙ ap (λ (l : List ℕ). with_front l room) with_piece;
      taken_more = taken_more;
    }
