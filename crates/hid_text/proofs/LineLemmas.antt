-- The first line of a text.
use Rattle.std.proofs.Common.{◌≡◌, ℕ, ◌-◌, ◌<◌, Bool, true, false, nat_eq, cond, List, [], ◌∷◌, ◌++◌, length, refl, sym, ap, ◌∙◌, arith}
use Rattle.std.specs.List.{slice_split, onto_first, All}
use Rattle.std.specs.Str.Lines.{lines, lines_of_parts, strip_carriage_return}
use Rattle.std.proofs.lemmas.List.Splits.{slice_split_at}
use Rattle.std.proofs.lemmas.List.Elements.{All-nil, All-cons, All-get_or}
use Rattle.std.proofs.lemmas.Bool.{and_parts, leb-true, ne_eqb, cond-false}
use Rattle.hid_text.proofs.PlainLemmas.{is_plain}

-- there is a part
pub some_part : (p : ℕ → Bool) (xs : List ℕ) → (y : List ℕ) × (ys : List (List ℕ)) × (slice_split p xs ≡ y ∷ ys)
some_part p [] = ([], [], refl)
some_part p (x ∷ xs) =
    let more = some_part p xs in
    elim (p x) as (λ b. (y : List ℕ) × (ys : List (List ℕ)) × (cond b ([] ∷ slice_split p xs) (onto_first x (slice_split p xs)) ≡ y ∷ ys)) [
      | true ↦ ([], slice_split p xs, refl)
      | false ↦ (x ∷ more.0, more.1, ap (onto_first x) more.2)
    ]

-- what ends with a line feed is a line before the others
pub lines_first : (line rest : List ℕ) → All (λ b. nat_eq b 10 ≡ false) line → lines (line ++ 10 ∷ rest) ≡ strip_carriage_return line ∷ lines rest
lines_first line rest whole =
    let more = some_part (λ b. nat_eq b 10) rest in
    let split = slice_split_at (λ b. nat_eq b 10) line 10 rest whole refl in
    ap lines_of_parts split ∙ ap (λ parts. lines_of_parts (line ∷ parts)) more.2 ∙ ap (λ parts. strip_carriage_return line ∷ lines_of_parts parts) (sym more.2)

-- each byte is another than this one, which is below a space
other_bytes : (c : ℕ) → c < 32 → (line : List ℕ) → is_plain line ≡ true → All (λ b. nat_eq b c ≡ false) line
other_bytes c below [] h = All-nil (λ b. nat_eq b c ≡ false)
other_bytes c below (b ∷ line) h =
    let parts = and_parts _ _ h in
    let above = leb-true 32 b parts.0 in
    All-cons (λ b. nat_eq b c ≡ false) b line (ne_eqb b c (λ e. omega (arith, below, above, e))) (other_bytes c below line parts.1)

kept_line : (line : List ℕ) → is_plain line ≡ true → strip_carriage_return line ≡ line
kept_line [] h = refl
kept_line (b ∷ line) h =
    let last = All-get_or (λ b. nat_eq b 13 ≡ false) (b ∷ line) (length (b ∷ line) - 1) 0 (omega arith) (other_bytes 13 (omega arith) (b ∷ line) h) in
    cond-false _ _ _ last

-- a line without control characters stands first among the lines as it is
pub plain_first : (line rest : List ℕ) → is_plain line ≡ true → lines (line ++ 10 ∷ rest) ≡ line ∷ lines rest
plain_first line rest h = lines_first line rest (other_bytes 10 (omega arith) line h) ∙ ap (λ l. l ∷ lines rest) (kept_line line h)
