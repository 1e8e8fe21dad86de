-- The lines that wait, one by one.
use Rattle.std.proofs.Common.{◌≡◌, ℕ, ◌+◌, ◌-◌, ◌≤◌, Bool, true, false, List, [], ◌∷◌, ◌++◌, length, drop, min, Option, None, Some, cond, refl, sym, ap, ◌∙◌, arith, length-append, append_assoc}
use Rattle.std.proofs.lemmas.List.Splits.{slice_split_at, slice_split_none}
use Rattle.std.proofs.lemmas.List.{drop-drop, drop_at, length-drop}
use Rattle.std.proofs.Math.ListN.{drop_of_length-le}
use Rattle.hid_text.specs.Lines.{IsUnbroken}
use Rattle.hid_text.proofs.LineLemmas.{some_part}
use Rattle.lab_expectations.specs.Matching.{matches}
use Rattle.lab_expectations.specs.Expectations.{Outcome, Met, Other, Nothing, is_line_feed, parts_of, is_optional, plain, outcome, first_line, first_required, last_line}

-- a line, and the lines after it
line_first : (text line more : List ℕ) → IsUnbroken line → text ≡ line ++ 10 ∷ more → parts_of text ≡ line ∷ parts_of more
line_first text line more whole is = ap parts_of is ∙ slice_split_at is_line_feed line 10 more whole refl

-- the outcome at a line
abbrev step : List ℕ → List ℕ → Outcome → Outcome → Outcome
step expected line met passed = cond (matches expected (plain line)) met (cond (is_optional line) passed (Other line))

outcome_step : (expected line : List ℕ) (parts : List (List ℕ)) (next : List ℕ) (rest : List (List ℕ)) → parts ≡ next ∷ rest → outcome expected (line ∷ parts) ≡ step expected line (Met parts) (outcome expected parts)
unfolding outcome
outcome_step expected line parts next rest is = rw is refl

outcome_at : (expected text line more : List ℕ) → IsUnbroken line → text ≡ line ++ 10 ∷ more → outcome expected (parts_of text) ≡ step expected line (Met (parts_of more)) (outcome expected (parts_of more))
outcome_at expected text line more whole is =
    let parts = some_part is_line_feed more in
    ap (outcome expected) (line_first text line more whole is) ∙ outcome_step expected line (parts_of more) parts.0 parts.1 parts.2

-- the expected line
pub line_met : (expected text line more : List ℕ) (all : Outcome) (met : Bool) → outcome expected (parts_of text) ≡ all → IsUnbroken line → text ≡ line ++ 10 ∷ more
    → met ≡ matches expected (plain line) → met ≡ true → Met (parts_of more) ≡ all
line_met expected text line more all met is whole parts here agrees =
    sym (outcome_at expected text line more whole parts ∙ ap (λ t. cond t (Met (parts_of more)) (cond (is_optional line) (outcome expected (parts_of more)) (Other line))) (sym here ∙ agrees)) ∙ is

-- another line that has to be expected
pub line_other : (expected text line more : List ℕ) (all : Outcome) (met optional : Bool) → outcome expected (parts_of text) ≡ all → IsUnbroken line → text ≡ line ++ 10 ∷ more
    → met ≡ matches expected (plain line) → met ≡ false → optional ≡ is_optional line → optional ≡ false → Other line ≡ all
line_other expected text line more all met optional is whole parts here differs mark none =
    sym (outcome_at expected text line more whole parts ∙ ap (λ t. cond t (Met (parts_of more)) (cond (is_optional line) (outcome expected (parts_of more)) (Other line))) (sym here ∙ differs)
    ∙ ap (λ t. cond t (outcome expected (parts_of more)) (Other line)) (sym mark ∙ none)) ∙ is

-- a line that is passed over
pub line_passed : (expected text line more : List ℕ) (all : Outcome) (met optional : Bool) → outcome expected (parts_of text) ≡ all → IsUnbroken line → text ≡ line ++ 10 ∷ more
    → met ≡ matches expected (plain line) → met ≡ false → optional ≡ is_optional line → optional ≡ true → outcome expected (parts_of more) ≡ all
line_passed expected text line more all met optional is whole parts here differs mark some =
    sym (outcome_at expected text line more whole parts ∙ ap (λ t. cond t (Met (parts_of more)) (cond (is_optional line) (outcome expected (parts_of more)) (Other line))) (sym here ∙ differs)
    ∙ ap (λ t. cond t (outcome expected (parts_of more)) (Other line)) (sym mark ∙ some)) ∙ is

-- no line is left
pub lines_end : (expected text : List ℕ) (all : Outcome) → outcome expected (parts_of text) ≡ all → IsUnbroken text → Nothing ≡ all
unfolding outcome
lines_end expected text all is whole = sym (ap (outcome expected) (slice_split_none is_line_feed text whole)) ∙ is

-- ---- lines that have to be expected

required_step : (line : List ℕ) (parts : List (List ℕ)) (next : List ℕ) (rest : List (List ℕ)) → parts ≡ next ∷ rest → first_required (line ∷ parts) ≡ cond (is_optional line) (first_required parts) (Some line)
unfolding first_required
required_step line parts next rest is = rw is refl

required_at : (text line more : List ℕ) → IsUnbroken line → text ≡ line ++ 10 ∷ more → first_required (parts_of text) ≡ cond (is_optional line) (first_required (parts_of more)) (Some line)
required_at text line more whole is =
    let parts = some_part is_line_feed more in
    ap first_required (line_first text line more whole is) ∙ required_step line (parts_of more) parts.0 parts.1 parts.2

pub required_found : (text line more : List ℕ) (all : Option (List ℕ)) (optional : Bool) → first_required (parts_of text) ≡ all → IsUnbroken line → text ≡ line ++ 10 ∷ more
    → optional ≡ is_optional line → optional ≡ false → Some line ≡ all
required_found text line more all optional is whole parts mark none =
    sym (required_at text line more whole parts ∙ ap (λ t. cond t (first_required (parts_of more)) (Some line)) (sym mark ∙ none)) ∙ is

pub required_passed : (text line more : List ℕ) (all : Option (List ℕ)) (optional : Bool) → first_required (parts_of text) ≡ all → IsUnbroken line → text ≡ line ++ 10 ∷ more
    → optional ≡ is_optional line → optional ≡ true → first_required (parts_of more) ≡ all
required_passed text line more all optional is whole parts mark some =
    sym (required_at text line more whole parts ∙ ap (λ t. cond t (first_required (parts_of more)) (Some line)) (sym mark ∙ some)) ∙ is

pub required_end : (text : List ℕ) (all : Option (List ℕ)) → first_required (parts_of text) ≡ all → IsUnbroken text → None ≡ all
unfolding first_required
required_end text all is whole = sym (ap first_required (slice_split_none is_line_feed text whole)) ∙ is

-- ---- ends

one_more : (more : List ℕ) → length (10 ∷ more) ≡ 1 + length more
one_more more = omega arith

-- what stands after a line is the end of a text, as the line with it is
pub end_after : (text rest line more : List ℕ) → length rest ≤ length text → rest ≡ drop (length text - length rest) text → rest ≡ line ++ 10 ∷ more
    → (length more ≤ length text) × (more ≡ drop (length text - length more) text)
end_after text rest line more within is parts =
    let size : length rest ≡ length line + (1 + length more) = ap length parts ∙ length-append line (10 ∷ more) ∙ ap (λ n. length line + n) (one_more more) in
    let front : (line ++ 10 ∷ more) ≡ ((line ++ 10 ∷ []) ++ more) = sym (append_assoc line (10 ∷ []) more) in
    let long : length (line ++ 10 ∷ []) ≡ length line + 1 = length-append line (10 ∷ []) in
    let behind : drop (length line + 1) rest ≡ more = ap (drop (length line + 1)) (parts ∙ front) ∙ drop_at (line ++ 10 ∷ []) more (length line + 1) long in
    let place : (length text - length rest) + (length line + 1) ≡ length text - length more = omega (arith, size, within) in
    (omega (arith, size, within), sym behind ∙ ap (drop (length line + 1)) is ∙ drop-drop (length line + 1) (length text - length rest) text ∙ ap (λ n. drop n text) place)

-- the end of what stands behind a place
pub end_behind : (text rest : List ℕ) (from next : ℕ) → length rest ≤ length (drop (min from (length text)) text) → rest ≡ drop (length (drop (min from (length text)) text) - length rest) (drop (min from (length text)) text)
    → next ≡ length text - length rest → drop (min next (length text)) text ≡ rest
end_behind text rest from next within is at =
    let k = min from (length text) in
    let size : length (drop k text) ≡ length text - k = length-drop k text in
    let place : k + (length (drop k text) - length rest) ≡ min next (length text) = omega (arith, size, within, at) in
    ap (λ n. drop n text) (sym place) ∙ sym (drop-drop (length (drop k text) - length rest) k text) ∙ sym is

-- nothing stands behind the end
pub nothing_behind : (text : List ℕ) (from : ℕ) → length text ≤ from → [] ≡ drop (min from (length text)) text
nothing_behind text from past =
    let all : length text ≤ min from (length text) = omega (arith, past) in sym (drop_of_length-le text all)

-- ---- the first line

first_step : (line : List ℕ) (parts : List (List ℕ)) (next : List ℕ) (rest : List (List ℕ)) → parts ≡ next ∷ rest → first_line (line ∷ parts) ≡ Some (plain line)
first_step line parts next rest is = rw is refl

-- a line that others may follow is the first one
pub first_found : (text line more : List ℕ) → IsUnbroken line → text ≡ line ++ 10 ∷ more → Some (plain line) ≡ first_line (parts_of text)
first_found text line more whole is =
    let parts = some_part is_line_feed more in
    sym (ap first_line (line_first text line more whole is) ∙ first_step line (parts_of more) parts.0 parts.1 parts.2)

-- there is no line
pub first_none : (text : List ℕ) → IsUnbroken text → None ≡ first_line (parts_of text)
first_none text whole = sym (ap first_line (slice_split_none is_line_feed text whole))

-- ---- the last line

last_step : (before : Option (List ℕ)) (line : List ℕ) (parts : List (List ℕ)) (next : List ℕ) (rest : List (List ℕ)) → parts ≡ next ∷ rest → last_line before (line ∷ parts) ≡ last_line (Some (plain line)) parts
unfolding last_line
last_step before line parts next rest is = rw is refl

-- a line that isn't the last one
pub last_passed : (before : Option (List ℕ)) (text line more : List ℕ) (all : Option (List ℕ)) → last_line before (parts_of text) ≡ all → IsUnbroken line → text ≡ line ++ 10 ∷ more
    → last_line (Some (plain line)) (parts_of more) ≡ all
last_passed before text line more all is whole parts =
    let rest = some_part is_line_feed more in
    sym (ap (last_line before) (line_first text line more whole parts) ∙ last_step before line (parts_of more) rest.0 rest.1 rest.2) ∙ is

-- no line is left
pub last_end : (before : Option (List ℕ)) (text : List ℕ) (all : Option (List ℕ)) → last_line before (parts_of text) ≡ all → IsUnbroken text → before ≡ all
unfolding last_line
last_end before text all is whole = sym (ap (last_line before) (slice_split_none is_line_feed text whole)) ∙ is
