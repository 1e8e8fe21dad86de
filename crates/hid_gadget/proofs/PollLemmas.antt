-- Polls of which nothing is lost take the pieces of the open round one after the other.
use Rattle.std.proofs.Common.{◌≡◌, ◌∙◌, ℕ, zero, suc, ◌+◌, ◌-◌, ◌*◌, ◌/◌, ◌<◌, ◌≤◌, Bool, true, false, not, cond, List, length, take, drop, Some, None, refl, ap, sym, arith}
use Rattle.std.specs.Prelude.{if◌then◌else◌, nat_le, unwrap_or}
use Rattle.std.proofs.lemmas.Bool.Decides.{nat_tests}
use Rattle.std.proofs.lemmas.List.{drop-drop, length-take}
use Rattle.hid_layout.specs.Controls.{items_of}
use Rattle.hid_snapshots.specs.Pieces.{is_last_piece, piece_of, pieces_for, pieces_of}
use Rattle.hid_device.specs.Core.{CoreState, round_after_piece}
use Rattle.hid_gadget.specs.WholeReports.{core_after_poll, core_after_polls, fitting_pieces}

-- ---- the open round after some polls

-- a core with an open round, of which this piece goes out
abbrev pub open_at : CoreState → ℕ → ℕ → Bool → CoreState
open_at c r piece toggle = record c { current = Some r; piece = piece; toggle = toggle }

-- a core whose round is closed
abbrev pub closed_with : CoreState → Bool → CoreState
closed_with c toggle = record c { current = None; piece = 0; toggle = toggle }

-- a poll of a piece, by whether it is the last one
abbrev polled_as : CoreState → ℕ → ℕ → Bool → Bool → CoreState
polled_as c r piece toggle last = record c {
  current = round_after_piece (Some r) (cond last None (Some (piece + 1)));
  piece = unwrap_or (cond last None (Some (piece + 1))) 0;
  toggle = not toggle;
}

pub polled_more : (c : CoreState) (r piece : ℕ) (toggle : Bool) → is_last_piece (items_of c.layout) r piece ≡ false
    → core_after_poll (open_at c r piece toggle) ≡ open_at c r (piece + 1) (not toggle)
polled_more c r piece toggle more = ap (polled_as c r piece toggle) more

pub polled_last : (c : CoreState) (r piece : ℕ) (toggle : Bool) → is_last_piece (items_of c.layout) r piece ≡ true
    → core_after_poll (open_at c r piece toggle) ≡ closed_with c (not toggle)
polled_last c r piece toggle last = ap (polled_as c r piece toggle) last

-- a toggle that changes so often
abbrev pub flips : ℕ → Bool → Bool
flips zero toggle = toggle
flips (suc n) toggle = flips n (not toggle)

not_last : (pieces piece n : ℕ) → piece + suc n < pieces → nat_le pieces (piece + 1) ≡ false
not_last pieces piece n more = grind (arith, nat_tests, more)

-- polls before the last piece
pub polled_some : (n : ℕ) (c : CoreState) (r piece : ℕ) (toggle : Bool) → piece + n < pieces_of (items_of c.layout) r
    → core_after_polls n (open_at c r piece toggle) ≡ open_at c r (piece + n) (flips n toggle)
polled_some zero c r piece toggle more =
    ap (λ (k : ℕ). open_at c r k toggle) (let e : piece ≡ piece + 0 = omega arith in e)
polled_some (suc n) c r piece toggle more =
    ap (core_after_polls n) (polled_more c r piece toggle (not_last (pieces_of (items_of c.layout) r) piece n more))
    ∙ polled_some n c r (piece + 1) (not toggle) (omega (arith, more))
    ∙ ap (λ (k : ℕ). open_at c r k (flips n (not toggle))) (let e : piece + 1 + n ≡ piece + suc n = omega arith in e)

is_last_of : (pieces piece n : ℕ) → piece + suc n ≡ pieces → nat_le pieces (piece + n + 1) ≡ true
is_last_of pieces piece n all = grind (arith, nat_tests, all)

-- one poll more
pub polls_more : (n : ℕ) (core : CoreState) → core_after_polls (suc n) core ≡ core_after_poll (core_after_polls n core)
polls_more zero core = refl
polls_more (suc n) core = polls_more n (core_after_poll core)

-- with the last piece the round closes
pub polled_all : (n : ℕ) (c : CoreState) (r piece : ℕ) (toggle : Bool) → piece + suc n ≡ pieces_of (items_of c.layout) r
    → core_after_polls (suc n) (open_at c r piece toggle) ≡ closed_with c (flips (suc n) toggle)
polled_all zero c r piece toggle all =
    polled_last c r piece toggle (let l : nat_le (pieces_of (items_of c.layout) r) (piece + 1) ≡ true = grind (arith, nat_tests, all) in l)
polled_all (suc n) c r piece toggle all =
    ap (core_after_polls (suc n)) (polled_more c r piece toggle (not_last (pieces_of (items_of c.layout) r) piece n (omega (arith, all))))
    ∙ polled_all n c r (piece + 1) (not toggle) (omega (arith, all))

-- ---- what fits

-- what is left of a round fits in as many pieces as are left of it
pub fitting_within : (room len pieces piece count : ℕ) → pieces ≡ pieces_for len → piece < pieces
    → count ≡ (if nat_le (len - 64 * piece) room then pieces_for (len - 64 * piece) else room / 64)
    → piece + count ≤ pieces
fitting_within room len pieces piece count all there is = either (nat_le (len - 64 * piece) room) refl
  where
    either : (b : Bool) → nat_le (len - 64 * piece) room ≡ b → piece + count ≤ pieces
    either true fits =
        let c : count ≡ (len - 64 * piece - 1) / 64 + 1 =
        is ∙ ap (λ (b : Bool). if b then (len - 64 * piece - 1) / 64 + 1 else room / 64) fits in
        omega (arith, all, there, c)
    either false over =
        let c : count ≡ room / 64 = is ∙ ap (λ (b : Bool). if b then pieces_for (len - 64 * piece) else room / 64) over in
        let more : room < len - 64 * piece = grind (arith, nat_tests, over) in
        omega (arith, all, there, c, more)

-- the bytes of the pieces that fit are no more than the room
pub fitting_room : (room : ℕ) (bytes : List ℕ) (n : ℕ) → n ≤ fitting_pieces room bytes → length (take (64 * n) bytes) ≤ room
fitting_room room bytes n few = either (nat_le (length bytes) room) refl
  where
    either : (b : Bool) → nat_le (length bytes) room ≡ b → length (take (64 * n) bytes) ≤ room
    either true fits =
        let small : length bytes ≤ room = grind (arith, nat_tests, fits) in
        omega (arith, small, length-take (64 * n) bytes)
    either false over =
        let c : fitting_pieces room bytes ≡ room / 64 = ap (λ (b : Bool). if b then pieces_for (length bytes) else room / 64) over in
        omega (arith, few, c, length-take (64 * n) bytes)

-- the piece behind some of the bytes that are left
pub piece_behind : (bytes : List ℕ) (piece n : ℕ) → piece_of bytes (piece + n) ≡ piece_of (drop (64 * piece) bytes) n
piece_behind bytes piece n =
    ap (take 64) (ap (λ (k : ℕ). drop k bytes) (let e : 64 * (piece + n) ≡ 64 * piece + 64 * n = omega arith in e)
    ∙ sym (drop-drop (64 * n) (64 * piece) bytes))
