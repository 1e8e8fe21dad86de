-- Bytes as they are printed, a sequence at a time.
use Rattle.std.proofs.Common.{◌≡◌, refl, zero, suc, ℕ, ◌+◌, ◌<◌, ◌≤◌, ◌-◌, ◌^◌, List, [], ◌∷◌, ◌++◌, length, take, drop, sym, ap, ◌∙◌, arith, append_assoc, true, false}
use Rattle.std.proofs.Padding.{padded_integral_zeros}
use Rattle.std.specs.Fmt.{digits, padded_integral, format_spec}
use Rattle.std.specs.Str.Lossy.{utf8_valid_len, utf8_invalid_len}
use Rattle.std.proofs.lemmas.Bool.{cond-false, ne_eqb}
use Rattle.std.proofs.lemmas.List.{length-append, take_at, drop_at}
use Rattle.command_words.specs.Names.{number_digits, name_text, bytes_text, shown_within}

-- what is printed of a number of sequences: the text in front, what is none, and what follows
pub shown_step : (more : ℕ) (bytes valid invalid rest : List ℕ) → bytes ≡ valid ++ (invalid ++ rest) → length rest < length bytes
    → length valid ≡ utf8_valid_len bytes → length invalid ≡ utf8_invalid_len (drop (utf8_valid_len bytes) bytes)
    → shown_within (suc more) bytes ≡ name_text valid ++ (bytes_text invalid ++ shown_within more rest)
unfolding shown_within
shown_step more bytes valid invalid rest parts fewer valid_len invalid_len =
    let n = utf8_valid_len bytes in
    let m = utf8_invalid_len (drop n bytes) in
    let front : take n bytes ≡ valid = ap (take n) parts ∙ take_at valid _ n valid_len in
    let behind : drop n bytes ≡ invalid ++ rest = ap (drop n) parts ∙ drop_at valid _ n valid_len in
    let none : take m (drop n bytes) ≡ invalid = ap (take m) behind ∙ take_at invalid rest m invalid_len in
    let both : length (valid ++ invalid) ≡ n + m = omega (arith, length-append valid invalid) in
    let later : drop (n + m) bytes ≡ rest = ap (drop (n + m)) (parts ∙ sym (append_assoc valid invalid rest)) ∙ drop_at _ rest _ both in
    cond-false _ _ _ (ne_eqb (length bytes) 0 (omega arith)) ∙ (λ i. name_text (front i) ++ (bytes_text (none i) ++ shown_within more (later i)))

-- what is printed of bytes is the text in front, the numbers of others, and what is printed of the rest
pub shown_on : (more : ℕ) (bytes valid invalid rest : List ℕ) → length bytes ≤ more → bytes ≡ valid ++ (invalid ++ rest) → length rest < length bytes
    → length valid ≡ utf8_valid_len bytes → length invalid ≡ utf8_invalid_len (drop (utf8_valid_len bytes) bytes)
    → (less : ℕ) × (length rest ≤ less) × (shown_within more bytes ≡ name_text valid ++ (bytes_text invalid ++ shown_within less rest))
shown_on zero bytes valid invalid rest within parts fewer valid_len invalid_len = absurd (omega arith)
shown_on (suc less) bytes valid invalid rest within parts fewer valid_len invalid_len =
    (less, omega arith, shown_step less bytes valid invalid rest parts fewer valid_len invalid_len)

-- nothing is printed of no bytes
pub shown_nothing : (more : ℕ) (bytes : List ℕ) → length bytes ≡ 0 → shown_within more bytes ≡ []
unfolding shown_within
shown_nothing zero bytes none = refl
shown_nothing (suc more) [] none = refl
shown_nothing (suc more) (b ∷ bs) none = absurd (omega arith)

-- what `{:02X}` writes of a number
pub escaped_digits : (c : ℕ) → padded_integral (format_spec 32 0 4 2 (2 ^ 64 - 1)) false [] (digits 16 true c) ≡ number_digits c
escaped_digits c = padded_integral_zeros (format_spec 32 0 4 2 (2 ^ 64 - 1)) (digits 16 true c) refl refl
