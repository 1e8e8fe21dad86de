-- Rows and lines of a dump, one after the other.
use Rattle.std.proofs.Common.{◌≡◌, ℕ, ◌+◌, ◌<◌, ◌≤◌, Bool, true, false, List, [], ◌∷◌, ◌++◌, length, take, drop, Option, None, Some, Result, Err, refl, sym, ap, ◌∙◌, arith, ⊎_elim}
use Rattle.std.specs.Prelude.{◌||◌, nat_le, if◌then◌else◌}
use Rattle.std.proofs.lemmas.Bool.{cases_Bool, cond-true, cond-false}
use Rattle.std.specs.Char.{is_ascii_whitespace}
use Rattle.std.specs.Option.{option_or}
use Rattle.hid_input.specs.declared.fault.InputFault.{InputFault}
use Rattle.hid_input.specs.declared.found.Found.{Found}
use Rattle.hid_input.specs.declared.found.Shape.TheVariants.{Dump}
use Rattle.hid_input.specs.Answer.{Reads}
use Rattle.hid_input.specs.Spelled.{some_answer}
use Rattle.hid_input.specs.Text.{without_space}
use Rattle.hid_input.specs.Words.{byte_of_pair}
use Rattle.hid_input.specs.Dump.{shows, begins_word, row_bytes, line_bytes, rows_bytes, based_bytes, dump_bytes, dump_answer}
use Rattle.hid_input.proofs.SpaceLemmas.{space_first, other_first, first_is_other}

pub row_behind_space : (long : Bool) (bytes text : List ℕ) → row_bytes long bytes (without_space text) ≡ row_bytes long bytes text
row_behind_space long bytes [] = refl
row_behind_space long bytes (high ∷ []) = ⊎_elim
    (λ (is : is_ascii_whitespace high ≡ true). rw (space_first high [] is) (rw is refl))
    (λ (no : is_ascii_whitespace high ≡ false). rw (other_first high [] no) refl) (cases_Bool (is_ascii_whitespace high))
row_behind_space long bytes (high ∷ low ∷ text) = ⊎_elim
    (λ (is : is_ascii_whitespace high ≡ true). rw (space_first high (low ∷ text) is) (rw is (row_behind_space long bytes (low ∷ text))))
    (λ (no : is_ascii_whitespace high ≡ false). rw (other_first high (low ∷ text) no) refl) (cases_Bool (is_ascii_whitespace high))

-- what a row has by its first pair
abbrev pub by_pair : Bool → List ℕ → List ℕ → Option ℕ → Option (List ℕ)
by_pair long bytes rest None = None
by_pair long bytes rest (Some byte) =
    if shows rest (bytes ++ byte ∷ []) then Some (bytes ++ byte ∷ []) else row_bytes (long || begins_word rest) (bytes ++ byte ∷ []) rest

pub row_pair : (long : Bool) (bytes text : List ℕ) → 2 ≤ length text → without_space text ≡ text
    → row_bytes long bytes text ≡ by_pair long bytes (drop 2 text) (byte_of_pair (take 2 text))
row_pair long bytes [] some begins = absurd (omega arith)
row_pair long bytes (high ∷ []) some begins = absurd (omega arith)
row_pair long bytes (high ∷ low ∷ text) some begins =
    let no = first_is_other high (low ∷ text) begins in
    rw no (elim (byte_of_pair (high ∷ low ∷ [])) as (λ o. elim o as (λ _. Option (List ℕ)) [
      | None ↦ None
      | Some byte ↦ if shows text (bytes ++ byte ∷ []) then Some (bytes ++ byte ∷ []) else row_bytes (long || begins_word text) (bytes ++ byte ∷ []) text
    ] ≡ by_pair long bytes text o) [
      | None ↦ refl
      | Some byte ↦ refl
    ])

-- one more pair, which the end of the row shows or not
pub row_shown : (long : Bool) (bytes text new : List ℕ) (byte : ℕ) → 2 ≤ length text → without_space text ≡ text → byte_of_pair (take 2 text) ≡ Some byte
    → new ≡ bytes ++ byte ∷ [] → shows (drop 2 text) new ≡ true → row_bytes long bytes text ≡ Some new
row_shown long bytes text new byte some begins is added shown =
    let here : shows (drop 2 text) (bytes ++ byte ∷ []) ≡ true = sym (ap (λ (b : List ℕ). shows (drop 2 text) b) added) ∙ shown in
    row_pair long bytes text some begins ∙ (ap (by_pair long bytes (drop 2 text)) is ∙ (cond-true (shows (drop 2 text) (bytes ++ byte ∷ [])) _ _ here ∙ ap Some (sym added)))

pub row_more : (long : Bool) (bytes text new : List ℕ) (byte : ℕ) → 2 ≤ length text → without_space text ≡ text → byte_of_pair (take 2 text) ≡ Some byte
    → new ≡ bytes ++ byte ∷ [] → shows (drop 2 text) new ≡ false → row_bytes long bytes text ≡ row_bytes (long || begins_word (drop 2 text)) new (drop 2 text)
row_more long bytes text new byte some begins is added shown =
    let here : shows (drop 2 text) (bytes ++ byte ∷ []) ≡ false = sym (ap (λ (b : List ℕ). shows (drop 2 text) b) added) ∙ shown in
    row_pair long bytes text some begins ∙ (ap (by_pair long bytes (drop 2 text)) is ∙ (cond-false (shows (drop 2 text) (bytes ++ byte ∷ [])) _ _ here
    ∙ ap (λ (b : List ℕ). row_bytes (long || begins_word (drop 2 text)) b (drop 2 text)) (sym added)))

pub row_end : (long : Bool) (bytes text : List ℕ) → length text < 2 → without_space text ≡ text
    → row_bytes long bytes text ≡ (if nat_le 1 (length text) then None else (if long then None else Some bytes))
row_end long bytes [] few begins = refl
row_end long bytes (high ∷ []) few begins = rw (first_is_other high [] begins) refl
row_end long bytes (high ∷ low ∷ text) few begins = absurd (omega arith)

-- one more line
pub rows_step : (base size : ℕ) (bytes line row : List ℕ) (lines : List (List ℕ)) → line_bytes base size (length bytes) line ≡ Some row
    → rows_bytes base size bytes (line ∷ lines) ≡ rows_bytes base size (bytes ++ row) lines
rows_step base size bytes line row lines is =
    ap (λ (read : Option (List ℕ)). elim read as (λ _. Option (List ℕ)) [
      | None ↦ None
      | Some more ↦ rows_bytes base size (bytes ++ more) lines
    ]) is

pub rows_refused : (base size : ℕ) (bytes line : List ℕ) (lines : List (List ℕ)) → line_bytes base size (length bytes) line ≡ None
    → rows_bytes base size bytes (line ∷ lines) ≡ None
rows_refused base size bytes line lines is =
    ap (λ (read : Option (List ℕ)). elim read as (λ _. Option (List ℕ)) [
      | None ↦ None
      | Some more ↦ rows_bytes base size (bytes ++ more) lines
    ]) is

-- one more base
pub base_refused : (base size : ℕ) (bases : List ℕ) (lines : List (List ℕ)) → rows_bytes base size [] lines ≡ None
    → based_bytes (base ∷ bases) size lines ≡ based_bytes bases size lines
base_refused base size bases lines is = ap (λ (o : Option (List ℕ)). option_or o (based_bytes bases size lines)) is

pub base_read : (base size : ℕ) (bases bytes : List ℕ) (lines : List (List ℕ)) → rows_bytes base size [] lines ≡ Some bytes
    → based_bytes (base ∷ bases) size lines ≡ Some bytes
base_read base size bases bytes lines is = ap (λ (o : Option (List ℕ)). option_or o (based_bytes bases size lines)) is

-- no base is that of a dump, or one is
pub no_dump : (text : List ℕ) (fault : InputFault) → dump_bytes text ≡ None → Reads (dump_answer text) (Err fault)
no_dump text fault is = rw is tt

pub whole_dump : (text bytes : List ℕ) (read : Result Found InputFault) → dump_bytes text ≡ Some bytes → Reads (some_answer Dump None bytes) read → Reads (dump_answer text) read
whole_dump text bytes read is whole = rw is whole
