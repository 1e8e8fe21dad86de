-- What is read of a file, by its shape (our choice: docs/INPUT-FORMS.md).
use Rattle.std.specs.Prelude.{◌≡◌, false, true, if◌then◌else◌, ◌==◌, Bool, not, List, [], ℕ, drop, position, Option, None, Some}
use Rattle.hid_input.specs.declared.found.Shape.TheVariants.{Binary, Hex}
use Rattle.hid_input.specs.declared.recorded.RecordedFault.{RecordedFault}
use Rattle.hid_input.specs.Answer.{Answer}
use Rattle.hid_input.specs.Dump.{dump_answer, is_dump}
use Rattle.hid_input.specs.Enclosed.{list_answer}
use Rattle.hid_input.specs.Named.{mark_place, named_answer, record_fault}
use Rattle.hid_input.specs.Plain.{without_quotes, plain, is_bare}
use Rattle.hid_input.specs.Spelled.{spelled_bytes, some_answer}
use Rattle.hid_input.specs.Strings.{strings_answer}
use Rattle.hid_input.specs.Text.{is_text, is_utf16, without_mark, lines_of}

-- the text of a file, without a byte order mark and the marks of quoted lines
abbrev pub text_of : List ℕ → List ℕ
text_of bytes = without_quotes (without_mark bytes)

-- what stands in code: strings if there is a backslash, else a list
abbrev pub code_answer : List ℕ → Option ℕ → Option Answer
code_answer text None = list_answer text
code_answer text (Some place) = strings_answer text place

-- text without comments: bytes alone, or in code
abbrev pub spelled_answer : List ℕ → Option (List ℕ) → Option Answer
spelled_answer text None = code_answer text (position (λ byte. byte == 92) text)
spelled_answer text (Some bytes) = some_answer Hex None bytes

abbrev pub plain_answer : List ℕ → Option Answer
plain_answer text = spelled_answer text (spelled_bytes text)

-- a text that is no dump: what a line names, or what it is without comments
abbrev pub other_answer : List ℕ → Option ℕ → Option Answer
other_answer text None = if is_bare text then plain_answer (plain text) else None
other_answer text (Some place) = named_answer text place

unfoldable pub text_answer : List ℕ → Option Answer
text_answer text = if is_dump text then dump_answer text else other_answer text (mark_place 0 (lines_of text))

-- what is to be read of the bytes of a file
abbrev pub answer_in : List ℕ → Option Answer
answer_in bytes =
    if is_utf16 bytes then None
    else (if not (is_text (without_mark bytes)) then Some (Binary, (bytes, None)) else text_answer (text_of bytes))

-- why a line of a text, which begins at a place, has none by R: or H:
abbrev pub record_fault_at : List ℕ → Option ℕ → Option RecordedFault
record_fault_at text None = None
record_fault_at text (Some place) = record_fault (lines_of (drop place text))

-- why the first line of a text that names a descriptor has none by R: or H:
unfoldable pub record_fault_in : List ℕ → Option RecordedFault
record_fault_in text = if is_dump text then None else record_fault_at text (mark_place 0 (lines_of text))

-- a file of text
pub record IsTextFile (bytes : List ℕ) : Type 0 where
  pub no_utf16 : is_utf16 bytes ≡ false
  pub text : is_text (without_mark bytes) ≡ true

-- a text has white space and comments alone
pub record IsEmpty (text : List ℕ) : Type 0 where
  pub no_dump : is_dump text ≡ false
  pub no_mark : mark_place 0 (lines_of text) ≡ None
  pub bare : is_bare text ≡ true
  pub none : spelled_bytes (plain text) ≡ Some []
