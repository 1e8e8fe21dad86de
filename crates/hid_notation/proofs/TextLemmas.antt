-- What is printed of a number in hex.
use Rattle.std.proofs.Common.{zero, suc, ◌≡◌, ℕ, ◌-◌, ◌/◌, ◌%◌, ◌^◌, ◌<◌, ◌≤◌, true, false, List, [], ◌∷◌, length, sym, ap, ◌∙◌, arith, append-nil, ⊎_elim, subst}
use Rattle.std.specs.Fmt.{digits, digit_glyph, padded_integral, format_spec, char_count}
use Rattle.std.proofs.lemmas.Fmt.{hex_byte, hex_one_digit, digits_is_IsNumeral}
use Rattle.std.proofs.lemmas.Int.Digits.{digits_value-lt}
use Rattle.std.proofs.lemmas.Bool.{cases_lt, cond-true, cond-false, lt-ltb, le-ltb}
use Rattle.hid_notation.specs.Text.{hex_text}

-- two digits or more stand as they are
long_enough : (text : List ℕ) → 2 ≤ length text → padded_integral (format_spec 32 0 4 2 (2 ^ 64 - 1)) false [] text ≡ text
unfolding padded_integral char_count
long_enough [] two = absurd (omega arith)
long_enough (x ∷ []) two = absurd (omega arith)
long_enough (x ∷ y ∷ text) two = let none : 2 - suc (suc (length text)) ≡ 0 = omega arith in rw (none, append-nil)

more_than_one : (k n : ℕ) → n < 16 ^ k → 16 ≤ n → 2 ≤ k
more_than_one zero n below large = absurd (omega arith)
more_than_one (suc zero) n below large = absurd (omega arith)
more_than_one (suc (suc k)) n below large = omega arith

two_digits : (n : ℕ) → 16 ≤ n → n < 65536 → 2 ≤ length (digits 16 true n)
two_digits n large small =
    let numeral = digits_is_IsNumeral 16 true (omega arith) (omega arith) n (omega arith) in
    let bound : n < 16 ^ length (digits 16 true n) = subst (λ m. m < 16 ^ length (digits 16 true n)) numeral.1 (digits_value-lt 16 (digits 16 true n) numeral.0.1) in
    more_than_one (length (digits 16 true n)) n bound large

-- what `{:02X}` writes
pub hex_padded : (n : ℕ) → n < 65536 → padded_integral (format_spec 32 0 4 2 (2 ^ 64 - 1)) false [] (digits 16 true n) ≡ hex_text n
unfolding hex_text
hex_padded n small = ⊎_elim
    (λ one. let high : n / 16 ≡ 0 = omega arith in
    let low : n % 16 ≡ n = omega arith in
    let first : 48 ∷ digits 16 true n ≡ 48 ∷ digit_glyph true n ∷ [] = ap (λ ds. 48 ∷ ds) (hex_one_digit true n one) in
    hex_byte true n (omega arith) ∙ rw (high, low) (sym first ∙ sym (cond-true _ _ _ (lt-ltb n 16 one))))
    (λ two. long_enough (digits 16 true n) (two_digits n two small) ∙ sym (cond-false _ _ _ (le-ltb n 16 two)))
    (cases_lt n 16)

-- a byte has two digits
pub byte_in_digits : (n : ℕ) → n < 256 → hex_text n ≡ digit_glyph true (n / 16) ∷ digit_glyph true (n % 16) ∷ []
byte_in_digits n small = sym (hex_padded n (omega arith)) ∙ hex_byte true n small
