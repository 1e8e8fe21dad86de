-- Bytes that come in pieces, cut into lines.
use Rattle.std.proofs.Common.{◌≡◌, ℕ, ◌+◌, ◌-◌, ◌<◌, ◌≤◌, Bool, false, List, [], ◌∷◌, ◌++◌, length, length-append, take, refl, sym, ap, ◌∙◌, arith, append-nil, append_assoc, nat_eq, get_or}
use Rattle.std.specs.List.{slice_split, onto_first, All}
use Rattle.std.specs.Str.Lines.{lines, lines_of_parts, strip_carriage_return}
use Rattle.std.proofs.lemmas.List.Splits.{slice_split_none, slice_split-cons_no}
use Rattle.std.proofs.lemmas.List.Elements.{All-head, All-tail, All-append}
use Rattle.std.proofs.lemmas.List.{length-take-le}
use Rattle.std.proofs.lemmas.Bool.{cond-false, cond_both, ne_eqb}
use Rattle.hid_text.specs.Lines.{IsUnbroken, GivesLines}
use Rattle.hid_text.proofs.LineLemmas.{some_part, lines_first}

pub unbroken_after : (front more : List ℕ) → IsUnbroken front → IsUnbroken more → IsUnbroken (front ++ more)
unbroken_after = All-append (λ b. nat_eq b 10 ≡ false)

-- what comes after a line feed
pub behind_line : (bytes before rest last behind : List ℕ) → bytes ≡ before ++ rest → rest ≡ last ++ 10 ∷ behind
    → bytes ≡ (before ++ (last ++ 10 ∷ [])) ++ behind
behind_line bytes before rest last behind parts feed =
    parts ∙ ap (λ l. before ++ l) (feed ∙ sym (append_assoc last (10 ∷ []) behind)) ∙ sym (append_assoc before (last ++ 10 ∷ []) behind)

pub shorter_behind : (rest last behind : List ℕ) → rest ≡ last ++ 10 ∷ behind → length behind + 1 ≤ length rest
shorter_behind rest last behind feed = omega (arith, ap length feed, length-append last (10 ∷ behind))

-- ---- lines that end

-- no bytes
pub gives_nothing : (begun : List ℕ) → GivesLines begun [] [] begun
gives_nothing begun = λ more. refl

-- bytes after others
pub gives_more : (begun between left a b : List ℕ) (first others : List (List ℕ)) → GivesLines begun a first between
    → GivesLines between b others left → GivesLines begun (a ++ b) (first ++ others) left
gives_more begun between left a b first others h k = λ more.
    ap (λ l. lines (begun ++ l)) (append_assoc a b more) ∙ h (b ++ more) ∙ ap (λ l. first ++ l) (k more) ∙ sym (append_assoc first others (lines (left ++ more)))

-- bytes that are kept
pub gives_none : (begun bytes : List ℕ) → GivesLines begun bytes [] (begun ++ bytes)
gives_none begun bytes = λ more. ap lines (sym (append_assoc begun bytes more))

-- the last bytes of a line, and its line feed
pub gives_line : (begun last line : List ℕ) → IsUnbroken begun → IsUnbroken last → line ≡ strip_carriage_return (begun ++ last)
    → GivesLines begun (last ++ 10 ∷ []) (line ∷ []) []
gives_line begun last line whole apart same = λ more.
    ap (λ l. lines (begun ++ l)) (append_assoc last (10 ∷ []) more) ∙ ap lines (sym (append_assoc begun last (10 ∷ more)))
    ∙ lines_first (begun ++ last) more (unbroken_after begun last whole apart) ∙ ap (λ l. l ∷ lines more) (sym same)

-- the last line, which no line feed ends
pub last_line : (begun : List ℕ) → IsUnbroken begun → 0 < length begun → lines (begun ++ []) ≡ begun ∷ []
last_line begun whole some = ap lines (append-nil begun) ∙ ap lines_of_parts (slice_split_none (λ b. nat_eq b 10) begun whole)
    ∙ cond-false _ _ _ (ne_eqb (length begun) 0 (λ none. omega arith))

-- ---- a line that is too long

-- the first part goes on with what comes before any line feed
split_front : (p : ℕ → Bool) (front rest y : List ℕ) (ys : List (List ℕ)) → All (λ b. p b ≡ false) front → slice_split p rest ≡ y ∷ ys → slice_split p (front ++ rest) ≡ (front ++ y) ∷ ys
split_front p [] rest y ys whole e = e
split_front p (x ∷ front) rest y ys whole e =
    slice_split-cons_no p x (front ++ rest) (All-head (λ b. p b ≡ false) x front whole) ∙ ap (onto_first x) (split_front p front rest y ys (All-tail (λ b. p b ≡ false) x front whole) e)

strip_long : (n : ℕ) (line : List ℕ) → n + 1 < length line → n < length (strip_carriage_return line)
strip_long n line long = cond_both (nat_eq (get_or line (length line - 1) 0) 13) (take (length line - 1) line) line (λ l. n < length l)
    (λ _. omega (arith, length-take-le (length line - 1) line (omega arith))) (λ _. omega arith)

long_part : (n : ℕ) (line : List ℕ) (ys : List (List ℕ)) → n + 1 < length line → (l : List ℕ) × (ls : List (List ℕ)) × (lines_of_parts (line ∷ ys) ≡ l ∷ ls) × (n < length l)
long_part n line [] long = (line, [], cond-false _ _ _ (ne_eqb (length line) 0 (λ none. omega arith)), omega arith)
long_part n line (y ∷ ys) long = (strip_carriage_return line, lines_of_parts (y ∷ ys), refl, strip_long n line long)

long_first : (n : ℕ) (front rest : List ℕ) → IsUnbroken front → n + 1 < length front → (l : List ℕ) × (ls : List (List ℕ)) × (lines (front ++ rest) ≡ l ∷ ls) × (n < length l)
long_first n front rest whole long =
    let part = some_part (λ b. nat_eq b 10) rest in
    let first = long_part n (front ++ part.0) part.1 (omega (arith, length-append front part.0)) in
    (first.0, first.1, ap lines_of_parts (split_front (λ b. nat_eq b 10) front rest part.0 part.1 whole part.2) ∙ first.2, first.3)

-- what begins with more bytes than a line and a carriage return have is a longer line, whatever comes then
pub long_line : (n : ℕ) (begun bytes more : List ℕ) → IsUnbroken begun → IsUnbroken bytes → n + 1 < length begun + length bytes
    → (line : List ℕ) × (others : List (List ℕ)) × (lines (begun ++ (bytes ++ more)) ≡ line ∷ others) × (n < length line)
long_line n begun bytes more whole apart long =
    let first = long_first n (begun ++ bytes) more (unbroken_after begun bytes whole apart) (omega (arith, length-append begun bytes)) in
    (first.0, first.1, ap lines (sym (append_assoc begun bytes more)) ∙ first.2, first.3)
