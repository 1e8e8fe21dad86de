-- A number that is put into the bytes of a report leaves its Report ID.
use Rattle.std.proofs.Common.{◌≡◌, ℕ, ◌+◌, ◌/◌, ◌%◌, ◌<◌, ◌≤◌, ◌⊎◌, inl, inr, List, slice_index, refl, sym, ap, ◌∙◌, arith}
use Rattle.std.specs.Int.{bit_at}
use Rattle.std.proofs.lemmas.Nat.Bits.{same_from_bits_below}
use Rattle.hid_fields.specs.Field.{bit_of, IsOutside}
use Rattle.hidstack_session.specs.declared.element.HidElement.{HidElement}
use Rattle.hidstack_session.specs.Elements.{IsNamed}

-- bit n of the first byte
first_bits : (xs : List ℕ) (n : ℕ) → n < 8 → bit_of xs n ≡ bit_at (slice_index xs 0) n
first_bits xs n low =
    let quotient : n / 8 ≡ 0 = omega (arith, low) in
    let rest : n % 8 ≡ n = omega (arith, low) in
    ap (λ (k : ℕ). bit_at (slice_index xs k) (n % 8)) quotient ∙ ap (bit_at (slice_index xs 0)) rest

-- bytes with the same first bits have the same first byte
first_byte_stays : (xs ys : List ℕ) → slice_index xs 0 < 256 → slice_index ys 0 < 256
    → ((n : ℕ) → n < 8 → bit_of ys n ≡ bit_of xs n) → slice_index ys 0 ≡ slice_index xs 0
first_byte_stays xs ys small small' each =
    same_from_bits_below 8 (slice_index ys 0) (slice_index xs 0) small' small
    (λ n low. sym (first_bits ys n low) ∙ each n low ∙ first_bits xs n low)

-- bytes are of the element's report still
pub named_still : (element : HidElement) (xs ys : List ℕ) → element.report < 256 → slice_index ys 0 < 256
    → (element.report ≡ 0) ⊎ (8 ≤ element.bit)
    → ((n : ℕ) → IsOutside element.bit element.width n → bit_of ys n ≡ bit_of xs n)
    → IsNamed element xs → IsNamed element ys
named_still element xs ys small small' (inl none) others named = inl none
named_still element xs ys small small' (inr after) others (inl none) = inl none
named_still element xs ys small small' (inr after) others (inr same) =
    inr (first_byte_stays xs ys (omega (arith, same, small)) small' (λ n low. others n (inl (omega (arith, low, after)))) ∙ same)
