-- How interrupt transfers end, and the polls that they are.
use Rattle.std.proofs.Common.{◌≡◌, ◌∙◌, ℕ, zero, suc, ◌+◌, ◌-◌, ◌*◌, ◌/◌, ◌<◌, ◌≤◌, ◌==◌, Bool, true, false, not, List, [], ◌++◌, length, take, drop, Option, None, Some, refl, ap, sym, subst, append-nil, arith}
use Rattle.std.specs.Prelude.{if◌then◌else◌, nat_le, unwrap_or}
use Rattle.std.proofs.Math.Seq.{take-add}
use Rattle.std.proofs.lemmas.Bool.Decides.{nat_tests}
use Rattle.std.proofs.lemmas.List.{drop-drop, length-take}
use Rattle.usb_packet.specs.declared.packet.Packet.TheVariants.{Nak, Stall}
use Rattle.usb_transact.specs.Device.{answer_with}
use Rattle.hid_layout.specs.Controls.{items_of}
use Rattle.hid_snapshots.specs.PartBytes.{part_bytes}
use Rattle.hid_snapshots.specs.Pieces.{is_last_piece, piece_of, pieces_for, pieces_of}
use Rattle.hid_bus.specs.ReportState.{due_where}
use Rattle.hid_device.specs.Core.{CoreState, IsSound, core_after_ack, core_after_due, core_at_poll, core_with_due_round, piece_armed, poll_response}
use Rattle.hid_gadget.specs.declared.outcomes.Poll.{Poll}
use Rattle.hid_gadget.specs.declared.outcomes.Poll.TheVariants.{Done, Nothing, Stalled, TooSmall}
use Rattle.hid_gadget.specs.WholeReports.{IsOfPolls, TakesNothing, answer_data, bytes_fitting, bytes_left, bytes_taken, core_after_poll, core_after_polls, core_after_report, end_of_pieces, end_of_round, fitting_pieces, piece_at_hand, pieces_fitting, pieces_taken, polled_data, report_result}
use Rattle.hid_gadget.proofs.PollLemmas.{open_at, polled_more}
use Rattle.hid_gadget.proofs.SoundLemmas.{laid_by, sound_at_poll}
use Rattle.hid_gadget.proofs.TakeLemmas.{fits_open}

-- ---- ends

-- a transfer that is done takes a piece at least
ends_done : (count n : ℕ) (bytes : List ℕ) → end_of_pieces count bytes ≡ Done n → (0 < count) × (n ≡ length bytes)
ends_done count n bytes is = by_test (count == 0) refl is
  where
    by_test : (b : Bool) → (count == 0) ≡ b → (if b then TooSmall else Done (length bytes)) ≡ Done n → (0 < count) × (n ≡ length bytes)
    by_test true e h = absurd (cc)
    by_test false e h = (grind (arith, nat_tests, e), (let same : n ≡ length bytes = cc in same))

-- where a piece is taken a transfer is done
pub done_by : (count : ℕ) (bytes : List ℕ) → 0 < count → end_of_pieces count bytes ≡ Done (length bytes)
done_by count bytes some =
    let e : (count == 0) ≡ false = grind (arith, nat_tests, some) in
    ap (λ (b : Bool). let p : Poll = if b then TooSmall else Done (length bytes) in p) e

ends_small : (count : ℕ) (bytes : List ℕ) → end_of_pieces count bytes ≡ TooSmall → count ≡ 0
ends_small count bytes is = by_test (count == 0) refl is
  where
    by_test : (b : Bool) → (count == 0) ≡ b → (if b then TooSmall else Done (length bytes)) ≡ TooSmall → count ≡ 0
    by_test true e h = grind (arith, nat_tests, e)
    by_test false e h = absurd (cc)

not_nothing : (count : ℕ) (bytes : List ℕ) → end_of_pieces count bytes ≡ Nothing → ⊥
not_nothing count bytes is = by_test (count == 0) is
  where
    by_test : (b : Bool) → (if b then TooSmall else Done (length bytes)) ≡ Nothing → ⊥
    by_test true h = absurd (cc)
    by_test false h = absurd (cc)

not_stalled : (count : ℕ) (bytes : List ℕ) → end_of_pieces count bytes ≡ Stalled → ⊥
not_stalled count bytes is = by_test (count == 0) is
  where
    by_test : (b : Bool) → (if b then TooSmall else Done (length bytes)) ≡ Stalled → ⊥
    by_test true h = absurd (cc)
    by_test false h = absurd (cc)

-- ---- data of polls

-- the data of a piece, of an endpoint that isn't halted
data_of_piece : (halted toggle : Bool) (bytes : List ℕ) → halted ≡ false → answer_data (answer_with halted toggle (Some bytes)) ≡ bytes
data_of_piece true toggle bytes going = absurd (cc)
data_of_piece false toggle bytes going = refl

left_more : (bytes : List ℕ) (piece n : ℕ)
    → take 64 (drop (64 * piece) bytes) ++ take (64 * n) (drop (64 * (piece + 1)) bytes) ≡ take (64 * suc n) (drop (64 * piece) bytes)
left_more bytes piece n =
    ap (λ (l : List ℕ). take 64 (drop (64 * piece) bytes) ++ take (64 * n) l)
    (ap (λ (k : ℕ). drop k bytes) (let e : 64 * (piece + 1) ≡ 64 * piece + 64 = omega arith in e) ∙ sym (drop-drop 64 (64 * piece) bytes))
    ∙ sym (take-add 64 (64 * n) (drop (64 * piece) bytes))
    ∙ ap (λ (k : ℕ). take k (drop (64 * piece) bytes)) (let e : 64 + 64 * n ≡ 64 * suc n = omega arith in e)

-- the polls of an open round bring what is left of it
polled_open : (n : ℕ) (c : CoreState) (r piece : ℕ) (toggle : Bool) → c.halted ≡ false → piece + n ≤ pieces_of (items_of c.layout) r
    → polled_data n (open_at c r piece toggle) ≡ take (64 * n) (drop (64 * piece) (part_bytes c.layout r c.reports.fixed))
polled_open zero c r piece toggle going few = refl
polled_open (suc zero) c r piece toggle going few =
    let bytes = part_bytes c.layout r c.reports.fixed in
    append-nil (answer_data (answer_with c.halted toggle (Some (piece_of bytes piece))))
    ∙ data_of_piece c.halted toggle (piece_of bytes piece) going
polled_open (suc (suc n)) c r piece toggle going few =
    let bytes = part_bytes c.layout r c.reports.fixed in
    let more : is_last_piece (items_of c.layout) r piece ≡ false =
    (let l : nat_le (pieces_of (items_of c.layout) r) (piece + 1) ≡ false = grind (arith, nat_tests, few) in l) in
    ap (λ (l : List ℕ). l ++ polled_data (suc n) (core_after_poll (open_at c r piece toggle)))
    (data_of_piece c.halted toggle (piece_of bytes piece) going)
    ∙ ap (λ (x : CoreState). piece_of bytes piece ++ polled_data (suc n) x) (polled_more c r piece toggle more)
    ∙ ap (λ (l : List ℕ). piece_of bytes piece ++ l) (polled_open (suc n) c r (piece + 1) (not toggle) going (omega (arith, few)))
    ∙ left_more bytes piece (suc n)

-- ---- a transfer, once a round was opened where one is due

-- a token finds the round that it opened
pub opened_again : (core : CoreState) (r : ℕ) → (core_at_poll core).current ≡ Some r → core_at_poll (core_at_poll core) ≡ core_at_poll core
opened_again core r is = ap (λ (o : Option ℕ). core_after_due (core_at_poll core) o) is

-- its data are those of polls from then on
polls_again : (core opened : CoreState) (n : ℕ) → core_at_poll core ≡ opened → core_at_poll opened ≡ opened → polled_data n core ≡ polled_data n opened
polls_again core opened zero at again = refl
polls_again core opened (suc n) at again =
    ap (λ (x : CoreState). answer_data (poll_response x) ++ polled_data n (core_after_ack x)) (at ∙ sym again)

after_again : (core opened : CoreState) (n : ℕ) → core_at_poll core ≡ opened → core_at_poll opened ≡ opened → 0 < n
    → core_after_polls n opened ≡ core_after_polls n core
after_again core opened zero at again some = absurd (omega (arith, some))
after_again core opened (suc n) at again some = ap (λ (x : CoreState). core_after_polls n (core_after_ack x)) (again ∙ sym at)

-- what holds of a transfer once its round is open
record EndsAsPolls (core opened : CoreState) (current : Option ℕ) (room : ℕ) : Type 0 where
  bytes : bytes_fitting room opened current ≡ polled_data (pieces_fitting room opened current) core
  some : (n : ℕ) → end_of_round room opened current ≡ Done n
      → (0 < pieces_fitting room opened current) × (n ≡ length (bytes_fitting room opened current))
  after : 0 < pieces_fitting room opened current
      → core_after_polls (pieces_fitting room opened current) opened ≡ core_after_polls (pieces_fitting room opened current) core
  nothing : end_of_round room opened current ≡ Nothing
      → (poll_response opened ≡ Nak) × (core_after_polls (pieces_fitting room opened current) opened ≡ opened)
  stalled : end_of_round room opened current ≡ Stalled
      → (poll_response opened ≡ Stall) × (core_after_polls (pieces_fitting room opened current) opened ≡ opened)
  too_small : end_of_round room opened current ≡ TooSmall
      → (room < length (answer_data (poll_response opened))) × (core_after_polls (pieces_fitting room opened current) opened ≡ opened)

ends_silent : (core c : CoreState) (room : ℕ) → EndsAsPolls core (record c { current = None }) None room
ends_silent core c room = by_halt c.halted
  where
    by_halt : (b : Bool) → EndsAsPolls core (record c { current = None; halted = b }) None room
    by_halt true = record {
      bytes = refl;
      some = λ n is. absurd (cc);
      after = λ some. absurd (omega (arith, some));
      nothing = λ is. absurd (cc);
      stalled = λ is. (refl, refl);
      too_small = λ is. absurd (cc);
    }
    by_halt false = record {
      bytes = refl;
      some = λ n is. absurd (cc);
      after = λ some. absurd (omega (arith, some));
      nothing = λ is. (refl, refl);
      stalled = λ is. absurd (cc);
      too_small = λ is. absurd (cc);
    }

-- where no piece fits, the one that goes out has more bytes than there is room for
none_fits : (room : ℕ) (left : List ℕ) → fitting_pieces room left ≡ 0 → room < length (take 64 left)
none_fits room left none = either (nat_le (length left) room) refl
  where
    either : (b : Bool) → nat_le (length left) room ≡ b → room < length (take 64 left)
    either true e =
        let some : (length left - 1) / 64 + 1 ≡ 0 = sym (ap (λ (b : Bool). if b then pieces_for (length left) else room / 64) e) ∙ none in
        absurd (omega (arith, some))
    either false e =
        let over : room < length left = grind (arith, nat_tests, e) in
        let small : room / 64 ≡ 0 = sym (ap (λ (b : Bool). if b then pieces_for (length left) else room / 64) e) ∙ none in
        omega (arith, over, small, length-take 64 left)

-- where there is room for it, a piece fits
one_fits : (room : ℕ) (left : List ℕ) → length (take 64 left) ≤ room → 0 < fitting_pieces room left
one_fits room left fits = either (nat_le (length left) room) refl
  where
    either : (b : Bool) → nat_le (length left) room ≡ b → 0 < fitting_pieces room left
    either true e =
        let is : fitting_pieces room left ≡ (length left - 1) / 64 + 1 = ap (λ (b : Bool). if b then pieces_for (length left) else room / 64) e in
        omega (arith, is)
    either false e =
        let over : room < length left = grind (arith, nat_tests, e) in
        let is : fitting_pieces room left ≡ room / 64 = ap (λ (b : Bool). if b then pieces_for (length left) else room / 64) e in
        omega (arith, over, is, fits, length-take 64 left)

ends_open : (core c : CoreState) (r room : ℕ) → IsSound (record c { current = Some r })
    → core_at_poll core ≡ record c { current = Some r } → EndsAsPolls core (record c { current = Some r }) (Some r) room
ends_open core c r room sound at =
    let opened : CoreState = record c { current = Some r } in
    let bytes = part_bytes c.layout r c.reports.fixed in
    let left = bytes_left opened r in
    let count = fitting_pieces room left in
    let few : c.piece + count ≤ pieces_of (items_of c.layout) r = fits_open opened r room count sound (laid_by opened sound) refl refl in
    record {
      bytes = sym (polled_open count c r c.piece c.toggle sound.quiet few) ∙ sym (polls_again core opened count at refl);
      some = λ n is. ends_done count n (take (64 * count) left) is;
      after = λ some. after_again core opened count at refl some;
      nothing = λ is. absurd (not_nothing count (take (64 * count) left) is);
      stalled = λ is. absurd (not_stalled count (take (64 * count) left) is);
      too_small = λ is.
          let none : count ≡ 0 = ends_small count (take (64 * count) left) is in
          let sent : answer_data (poll_response opened) ≡ piece_of bytes c.piece = data_of_piece c.halted c.toggle (piece_of bytes c.piece) sound.quiet in (
            subst (λ (l : List ℕ). room < length l) (sym sent) (none_fits room left none),
            ap (λ (n : ℕ). core_after_polls n opened) none,
          );
    }

ends_as : (core c : CoreState) (o : Option ℕ) (room : ℕ) → IsSound (record c { current = o }) → core_at_poll core ≡ record c { current = o }
    → EndsAsPolls core (record c { current = o }) o room
ends_as core c None room sound at = ends_silent core c room
ends_as core c (Some r) room sound at = ends_open core c r room sound at

-- a configured gadget
abbrev configured : CoreState → CoreState
configured c = record c { is_configured = true }

of_polls_configured : (c : CoreState) (room : ℕ) → IsSound (configured c) → IsOfPolls (configured c) room
of_polls_configured c room sound =
    let core = configured c in
    let opened = core_at_poll core in
    let ends = ends_as core opened opened.current room (sound_at_poll core sound) refl in
    record {
      bytes = ends.bytes;
      some = ends.some;
      after = ends.after;
      nothing = ends.nothing;
      stalled = ends.stalled;
      too_small = ends.too_small;
    }

pub of_polls : (core : CoreState) (room : ℕ) → IsSound core → core.is_configured ≡ true → IsOfPolls core room
of_polls core room sound is =
    let same : configured core ≡ core = ap (λ (b : Bool). let d : CoreState = record core { is_configured = b } in d) (sym is) in
    subst (λ (c : CoreState). IsOfPolls c room) same
    (of_polls_configured core room (subst IsSound (sym same) sound))

-- ---- a room that is too small

-- what holds of a round of which no piece fits the room, and of the same round with another one
takes_none : (c : CoreState) (r room later : ℕ) → (core_at_poll (configured c)).current ≡ Some r
    → fitting_pieces room (bytes_left (core_at_poll (configured c)) r) ≡ 0 → TakesNothing (configured c) room later
takes_none c r room later is none =
    let core = configured c in
    let opened = core_at_poll core in
    let count : pieces_taken core room ≡ 0 = ap (pieces_fitting room opened) is ∙ none in
    let stays : core_after_report core room ≡ opened = ap (λ (n : ℕ). core_after_polls n opened) count in
    let again : core_at_poll opened ≡ opened = opened_again core r is in
    let asks : configured opened ≡ opened = at_poll_configured core.current in
    let left = bytes_left opened r in
    record {
      none = ap (bytes_fitting room opened) is ∙ ap (λ (n : ℕ). take (64 * n) left) none;
      result = ap (λ (x : CoreState). report_result x later) (stays ∙ sym asks)
          ∙ ap (λ (x : CoreState). end_of_round later x x.current) (ap core_at_poll asks ∙ again);
      bytes = ap (λ (x : CoreState). bytes_taken x later) (stays ∙ sym asks)
          ∙ ap (λ (x : CoreState). bytes_fitting later x x.current) (ap core_at_poll asks ∙ again);
      after = ap (λ (x : CoreState). core_after_report x later) (stays ∙ sym asks)
          ∙ ap (λ (x : CoreState). core_after_polls (pieces_fitting later x x.current) x) (ap core_at_poll asks ∙ again);
      fits = λ room_for.
          let hand : piece_at_hand opened ≡ take 64 left = hand_is opened r is in
          let some : 0 < fitting_pieces later left = one_fits later left (subst (λ (l : List ℕ). length l ≤ later) hand room_for) in
          ap (end_of_round later opened) is ∙ done_by (fitting_pieces later left) (bytes_fitting later opened (Some r)) some
          ∙ ap (λ (o : Option ℕ). Done (length (bytes_fitting later opened o))) (sym is);
    }
  where
    at_poll_configured : (o : Option ℕ) → configured (core_after_due (configured c) o) ≡ core_after_due (configured c) o
    at_poll_configured (Some q) = refl
    at_poll_configured None = by_due (due_where (items_of c.layout) c.halted c.reports)
      where
        by_due : (o : Option ℕ) → configured (core_with_due_round (configured c) o) ≡ core_with_due_round (configured c) o
        by_due None = refl
        by_due (Some q) = refl

    hand_is : (opened : CoreState) (q : ℕ) → opened.current ≡ Some q → piece_at_hand opened ≡ take 64 (bytes_left opened q)
    hand_is opened q opens = ap (λ (o : Option ℕ). unwrap_or (piece_armed opened.layout opened.reports.fixed o opened.piece) []) opens

-- which round it was
small_of : (c : CoreState) (o : Option ℕ) (room : ℕ) → end_of_round room c o ≡ TooSmall
    → (r : ℕ) × ((o ≡ Some r) × (fitting_pieces room (bytes_left c r) ≡ 0))
small_of c None room is = by_halt c.halted is
  where
    by_halt : (b : Bool) → (if b then Stalled else Nothing) ≡ TooSmall → (r : ℕ) × ((None ≡ Some r) × (fitting_pieces room (bytes_left c r) ≡ 0))
    by_halt true h = absurd (cc)
    by_halt false h = absurd (cc)
small_of c (Some r) room is = (r, (refl, ends_small (fitting_pieces room (bytes_left c r)) (bytes_fitting room c (Some r)) is))

takes_nothing_configured : (c : CoreState) (room later : ℕ) → report_result (configured c) room ≡ TooSmall → TakesNothing (configured c) room later
takes_nothing_configured c room later is =
    let opened = core_at_poll (configured c) in
    let round = small_of opened opened.current room is in
    takes_none c round.0 room later round.1.0 round.1.1

pub takes_nothing : (core : CoreState) (room later : ℕ) → report_result core room ≡ TooSmall → TakesNothing core room later
takes_nothing core room later is = by_configured core.is_configured refl is
  where
    by_configured : (b : Bool) → core.is_configured ≡ b → (if b then end_of_round room (core_at_poll core) (core_at_poll core).current else Nothing) ≡ TooSmall
        → TakesNothing core room later
    by_configured false e h = absurd (cc)
    by_configured true e h =
        let same : configured core ≡ core = ap (λ (b : Bool). let d : CoreState = record core { is_configured = b } in d) (sym e) in
        subst (λ (x : CoreState). TakesNothing x room later) same
        (takes_nothing_configured core room later (ap (λ (x : CoreState). report_result x room) same ∙ is))
