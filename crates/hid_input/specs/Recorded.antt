-- Lines of hid-recorder, usbhid-dump and umockdev (our choice: docs/RECORDINGS.md).
use Rattle.std.specs.Prelude.{◌≡◌, ◌⊎◌, ℕ, ◌==◌, ◌+◌, Bool, true, false, not, ◌&&◌, ◌||◌, nat_le, nat_eq, List, [], ◌∷◌, length, slice_index, if◌then◌else◌, Option, None, Some, is_some, Result, Ok, Err, codes}
use Rattle.std.specs.List.{starts_with, list_all, list_any, find, ends_with}
use Rattle.std.specs.Str.{bytes_eq}
use Rattle.std.specs.Option.{option_map, option_and_then}
use Rattle.std.specs.Char.{is_ascii_digit, is_ascii_whitespace}
use Rattle.hid_input.specs.declared.recorded.RecordedFault.{RecordedFault}
use Rattle.hid_input.specs.declared.recorded.RecordedFault.TheVariants.{NoCount, BadHex, BadCount, Memory}
use Rattle.hid_input.specs.declared.words.Reading.TheVariants.{Runs}
use Rattle.hid_input.specs.declared.words.Parting.TheVariants.{Space}
use Rattle.hid_input.specs.Known.{begins_text}
use Rattle.hid_input.specs.Text.{trimmed_text, is_text, without_mark, lines_of, is_empty_line, without_space, from_space, first_word, behind_part, split_at}
use Rattle.hid_input.specs.Words.{number_of, byte_of_pair, text_bytes}

-- how many pairs of hex digits a text has before what is none
abbrev pub pairs_before : List ℕ → ℕ
pairs_before [] = 0
pairs_before (high ∷ []) = 0
pairs_before (high ∷ low ∷ rest) =
    if is_ascii_whitespace high then pairs_before (low ∷ rest)
    else (if is_some (byte_of_pair (high ∷ low ∷ [])) then pairs_before rest + 1 else 0)

-- the bytes of a line, or that the byte at a position of it isn't two hex digits
abbrev pub bytes_or_bad : ℕ → Option (List ℕ) → Result (List ℕ) RecordedFault
bytes_or_bad at None = Err (BadHex at)
bytes_or_bad at (Some bytes) = Ok bytes

-- the bytes of words of hex. Example: 05 01 and 0501 are 05 01
abbrev pub hex_of : List ℕ → Result (List ℕ) RecordedFault
hex_of text = bytes_or_bad (pairs_before text) (text_bytes Runs Space text)

-- bytes are as many as a number says
abbrev pub if_counted : Option ℕ → Result (List ℕ) RecordedFault → Result (List ℕ) RecordedFault
if_counted None read = Err NoCount
if_counted (Some said) (Err fault) = Err fault
if_counted (Some said) (Ok bytes) = if length bytes == said then Ok bytes else Err (BadCount said (length bytes))

-- the bytes of COUNT HEX. Example: 2 05 01 is 05 01
abbrev pub recorded_bytes : List ℕ → Result (List ℕ) RecordedFault
recorded_bytes text = if_counted (number_of 10 (first_word text)) (hex_of (from_space (without_space text)))

-- why nothing is read: memory ran out, or as is meant
abbrev pub IsFault : RecordedFault → Result (List ℕ) RecordedFault → Type 0
IsFault fault meant = (fault ≡ Memory) ⊎ (meant ≡ Err fault)

-- what stands after the R: of a line, whatever white space is in front
abbrev pub after_letter : List ℕ → Option (List ℕ)
after_letter line = behind_part (codes "R:") (without_space line)

-- what stands after H: report_descriptor= of a line of umockdev, whatever white space is in front
abbrev pub after_property : List ℕ → Option (List ℕ)
after_property line = behind_part (codes "H: report_descriptor=") (without_space line)

-- a letter of hid-recorder's lines: D, E, I, N, P or R
abbrev pub is_record_letter : ℕ → Bool
is_record_letter byte = (byte == 68) || ((byte == 69) || ((byte == 73) || ((byte == 78) || ((byte == 80) || (byte == 82)))))

-- a text begins with such a letter and a colon
abbrev pub begins_with_letter : (ℕ → Bool) → List ℕ → Bool
begins_with_letter is_letter text = nat_le 2 (length text) && (is_letter (slice_index text 0) && (slice_index text 1 == 58))

-- a line is one that usbhid-dump prints before a descriptor, or of reports
abbrev pub is_descriptor : List ℕ → Bool
is_descriptor line = ends_with nat_eq (first_word line) (codes ":DESCRIPTOR")

abbrev pub is_stream : List ℕ → Bool
is_stream line = ends_with nat_eq (first_word line) (codes ":STREAM")

-- after the first word of a line there is at most one more, of digits and points
abbrev pub has_time : List ℕ → Bool
has_time line = list_all (λ byte. is_ascii_digit byte || (byte == 46)) (trimmed_text (from_space (without_space line)))

-- a line is one of a recording, whatever white space stands before it
abbrev pub is_record : List ℕ → Bool
is_record line = begins_with_letter is_record_letter (without_space line) || (is_descriptor line || is_stream line)

-- some line of a text is one of a recording
abbrev pub has_record : List ℕ → Bool
has_record text = list_any is_record (lines_of text)

-- a line says nothing: it has white space alone, or begins with the sign of a comment, #
abbrev pub is_passed : List ℕ → Bool
is_passed line = is_empty_line line || (nat_le 1 (length line) && (slice_index line 0 == 35))

-- a letter of a line beside an R: line or one of umockdev: also A, H, L or S
abbrev pub is_beside_letter : ℕ → Bool
is_beside_letter byte =
    is_record_letter byte || ((byte == 65) || ((byte == 72) || ((byte == 76) || (byte == 83))))

-- a line may be beside an R: line: it says nothing, or begins with such a letter and a colon
abbrev pub is_beside : List ℕ → Bool
is_beside line = is_passed (without_space line) || begins_with_letter is_beside_letter (without_space line)

-- a line, if there is one, is one of a recording
abbrev pub is_record_or_none : Option (List ℕ) → Bool
is_record_or_none None = true
is_record_or_none (Some line) = is_record line

-- the first line that says something is one of a recording, or no line does
abbrev pub begins_recording : List ℕ → Bool
begins_recording text = is_record_or_none (find (λ line. not (is_passed line)) (lines_of text))

-- a text is a libinput record: its first line that says something has a version, and one line is libinput:
abbrev pub is_libinput_line : List ℕ → Bool
is_libinput_line line = bytes_eq (trimmed_text line) (codes "libinput:")

abbrev pub is_version : Option (List ℕ) → Bool
is_version None = false
is_version (Some line) = starts_with nat_eq line (codes "version: ")

abbrev pub is_libinput : List ℕ → Bool
is_libinput text = is_version (find (λ line. not (is_passed line)) (lines_of text)) && list_any is_libinput_line (lines_of text)

-- bytes are the text of a recording, whose first bytes are characters if others are control characters
abbrev pub is_recording : List ℕ → Bool
is_recording bytes = (is_text (without_mark bytes) || begins_text (without_mark bytes)) && has_record (without_mark bytes)
