-- Descriptors that a line of the text names (our choice: docs/INPUT-FORMS.md).
use Rattle.std.specs.Prelude.{◌≡◌, ◌⊎◌, ℕ, ◌==◌, ◌+◌, ◌-◌, ◌^◌, min, Bool, true, false, not, ◌&&◌, ◌||◌, nat_eq, List, [], ◌∷◌, ◌++◌, length, take, drop, if◌then◌else◌, is_some, Option, None, Some, Result, Ok, Err, ⊤, codes}
use Rattle.std.specs.List.{list_all, starts_with}
use Rattle.std.specs.Option.{option_and_then, unwrap_or}
use Rattle.std.specs.Char.{is_ascii_hexdigit, is_ascii_whitespace}
use Rattle.hid_input.specs.declared.fault.InputCause.TheVariants.{Memory, Recorded}
use Rattle.hid_input.specs.declared.fault.InputFault.{InputFault}
use Rattle.hid_input.specs.declared.found.Found.{Found}
use Rattle.hid_input.specs.declared.found.Shape.{Shape}
use Rattle.hid_input.specs.declared.found.Shape.TheVariants.{Recording, Block, Items, List as InList}
use Rattle.hid_input.specs.declared.recorded.RecordedFault.{RecordedFault}
use Rattle.hid_input.specs.declared.words.Reading.TheVariants.{Runs}
use Rattle.hid_input.specs.declared.words.Parting.TheVariants.{Space}
use Rattle.hid_input.specs.Answer.{Answer}
use Rattle.hid_input.specs.Items.{length_in, is_unavailable, is_lsusb, item_line_bytes}
use Rattle.hid_input.specs.Recorded.{after_letter, after_property, recorded_bytes, hex_of, is_descriptor, is_stream, has_time, is_libinput, is_beside}
use Rattle.hid_input.specs.Spelled.{spelled_bytes, some_answer}
use Rattle.hid_input.specs.Text.{is_empty_line, line_at, lines_of, split_at, without_space}
use Rattle.hid_input.specs.Words.{text_bytes}

-- the shape of the descriptor that a line names: R: and H:, a heading of usbhid-dump, a length of lsusb or that it read none, hid: of libinput
abbrev pub mark_of : List ℕ → Option Shape
mark_of line =
    if is_some (after_letter line) || is_some (after_property line) then Some Recording
    else (if is_descriptor line then Some Block
    else (if is_some (length_in line) || is_unavailable line then Some Items
    else (if starts_with nat_eq (without_space line) (codes "hid: [") then Some InList else None)))

-- where the first line that names a descriptor begins, of lines from a place on
abbrev pub mark_place : ℕ → List (List ℕ) → Option ℕ
mark_place at [] = None
mark_place at (line ∷ lines) = if is_some (mark_of line) then Some at else mark_place (at + length line + 1) lines

-- a line has hex and white space alone
abbrev pub is_hex : List ℕ → Bool
is_hex line = list_all (λ byte. is_ascii_hexdigit byte || is_ascii_whitespace byte) line

-- a line is a heading of usbhid-dump: its word, and a time
abbrev pub is_heading : List ℕ → Bool
is_heading line = (is_descriptor line || is_stream line) && has_time line

-- a line may stand in a text with a descriptor of a shape, perhaps below a heading of usbhid-dump
abbrev pub may_stand : Shape → Bool → List ℕ → Bool
may_stand Recording is_block line = is_beside line
may_stand Block is_block line = (is_block && is_hex line) || (is_empty_line line || is_heading line)
may_stand Items is_block line = is_lsusb line
may_stand shape is_block line = true

-- each of lines may stand there, and no second one names a descriptor
abbrev pub stand_from : Shape → Bool → Bool → List (List ℕ) → Bool
stand_from shape has_mark is_block [] = true
stand_from shape has_mark is_block (line ∷ lines) =
    not (is_some (mark_of line) && has_mark)
    && (may_stand shape is_block line
    && stand_from shape (has_mark || is_some (mark_of line)) (is_heading line || (is_block && not (is_empty_line line))) lines)

-- each line of a text may stand there, and one alone names a descriptor
abbrev pub stand : Shape → List ℕ → Bool
stand shape text = stand_from shape false false (lines_of text)

-- the bytes of a line that has them after its mark
abbrev pub line_by : Option (List ℕ) → List ℕ → Result (List ℕ) RecordedFault
line_by (Some text) line = recorded_bytes text
line_by None line = hex_of (unwrap_or (after_property line) [])

abbrev pub line_bytes : List ℕ → Result (List ℕ) RecordedFault
line_bytes line = line_by (after_letter line) line

-- the bytes of a line below one that names a descriptor
abbrev pub shape_bytes : Shape → List ℕ → Option (List ℕ)
shape_bytes Items line = item_line_bytes line
shape_bytes shape line = text_bytes Runs Space line

-- a line ends the lines of a descriptor of usbhid-dump: an empty one
abbrev pub ends_rows : Shape → List ℕ → Bool
ends_rows Items line = false
ends_rows shape line = is_empty_line line

-- usbhid-dump writes 16 bytes a line, but for the last
abbrev pub is_short : Shape → List ℕ → Bool
is_short Block bytes = not (length bytes == 16)
is_short shape bytes = false

-- a number of 64 bits, or the greatest
abbrev pub next_number : ℕ → ℕ
next_number number = min (number + 1) (2 ^ 64 - 1)

-- the lines of a descriptor, after some bytes, a line of this number and perhaps the last line: their bytes, and the number of the last
-- line with bytes
abbrev pub rows_from : Shape → Bool → List ℕ → ℕ → ℕ → List (List ℕ) → Option (List ℕ × ℕ)
rows_from shape was_short bytes number last [] = Some (bytes, last)
rows_from shape was_short bytes number last (line ∷ lines) =
    if ends_rows shape line then Some (bytes, last)
    else (if was_short then None else elim (shape_bytes shape line) [
      | None ↦ None
      | Some row ↦ rows_from shape (is_short shape row) (bytes ++ row) (next_number number) (if length row == 0 then last else next_number number) lines
    ])

-- the descriptor that a line has by R: or H:
abbrev pub record_answer : List ℕ → Result (List ℕ) RecordedFault → Option Answer
record_answer text (Err fault) = None
record_answer text (Ok bytes) = if stand Recording text then Some (Recording, (bytes, None)) else None

-- bytes are as many as a line says that says so
abbrev pub is_counted : Option ℕ → List ℕ → Bool
is_counted None bytes = true
is_counted (Some said) bytes = said == length bytes

-- the descriptor in the lines below one of this number, if all other lines may stand there
abbrev pub rows_answer : Shape → List ℕ → ℕ → Option ℕ → Option (List ℕ × ℕ) → Option Answer
rows_answer shape text number said None = None
rows_answer shape text number said (Some rows) =
    if is_counted said rows.0 && stand shape text then some_answer shape (Some (next_number number, rows.1)) rows.0 else None

-- the descriptor in the lines below one of this number, which may say how many bytes it has
abbrev pub below_answer : Shape → List ℕ → ℕ → Option ℕ → List (List ℕ) → Option Answer
below_answer shape text number said below = rows_answer shape text number said (rows_from shape false [] number number below)

-- the first line of a text is empty
abbrev pub ends_line : List (List ℕ) → Bool
ends_line [] = true
ends_line (line ∷ lines) = is_empty_line line

-- the number of the line in which a list ends that begins in a line of this number
abbrev pub end_line : ℕ → List ℕ → ℕ
end_line number list = min (number + (line_at list (length list) - 1)) (2 ^ 64 - 1)

-- the descriptor in the list of a libinput record, after which its last line ends
abbrev pub yaml_to : List ℕ → ℕ → Option (List ℕ × List ℕ) → Option Answer
yaml_to text number None = None
yaml_to text number (Some parts) =
    if ends_line (lines_of parts.1) && (is_libinput text && stand InList text)
    then option_and_then (some_answer InList (Some (number, end_line number parts.0))) (spelled_bytes parts.0) else None

abbrev pub yaml_answer : List ℕ → ℕ → Option (List ℕ × List ℕ) → Option Answer
yaml_answer text number None = None
yaml_answer text number (Some parts) = yaml_to text number (split_at 93 parts.1)

-- the descriptor that a line of this number and mark names, with these lines below it, in a text that has this rest from there on
abbrev pub by_mark : Option Shape → List ℕ → ℕ → List ℕ → List ℕ → List (List ℕ) → Option Answer
by_mark (Some Recording) text number rest line below = record_answer text (line_bytes line)
by_mark (Some Block) text number rest line below = below_answer Block text number None below
by_mark (Some Items) text number rest line below =
    if is_some (length_in line) then below_answer Items text number (length_in line) below else None
by_mark shape text number rest line below = yaml_answer text number (split_at 91 rest)

-- the descriptor that the first of lines names, in a text where it begins at a place
abbrev pub lines_answer : List ℕ → ℕ → List (List ℕ) → Option Answer
lines_answer text place [] = None
lines_answer text place (line ∷ below) = by_mark (mark_of line) text (line_at text place) (drop place text) line below

-- the descriptor that the line at a place of a text names
abbrev pub named_answer : List ℕ → ℕ → Option Answer
named_answer text place = lines_answer text place (lines_of (drop place text))

-- why a line that has bytes after its mark has none
abbrev pub fault_of : Result (List ℕ) RecordedFault → Option RecordedFault
fault_of (Ok bytes) = None
fault_of (Err fault) = Some fault

abbrev pub fault_in : Option Shape → List ℕ → Option RecordedFault
fault_in (Some Recording) line = fault_of (line_bytes line)
fault_in shape line = None

-- why the first of lines has none
abbrev pub record_fault : List (List ℕ) → Option RecordedFault
record_fault [] = None
record_fault (line ∷ below) = fault_in (mark_of line) line

-- a refusal has the cause of a fault of R: or H:, or memory ran out
abbrev pub IsRecordFault : RecordedFault → Result Found InputFault → Type 0
IsRecordFault cause (Ok found) = ⊥
IsRecordFault cause (Err fault) = (fault.cause ≡ Memory) ⊎ (fault.cause ≡ Recorded cause)

-- a refusal has a cause, if one is meant, or memory ran out
abbrev pub HasFault : Option RecordedFault → Result Found InputFault → Type 0
HasFault None result = ⊤
HasFault (Some cause) result = IsRecordFault cause result
