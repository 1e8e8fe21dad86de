-- What a line of a recording says (our choice: docs/RECORDINGS.md; the letters are those of hid-recorder).
use Rattle.std.specs.Prelude.{◌≡◌, ℕ, ◌==◌, Bool, ◌&&◌, ◌||◌, nat_le, List, [], ◌∷◌, length, if◌then◌else◌, Option, None, Some, option_and_then, ok_or, Result, Ok, Err, MatchResult}
use Rattle.std.specs.Global.{Vec}
use Rattle.std.specs.List.{slice_split}
use Rattle.hid_text.specs.Words.{Word, words_of, after_word}
use Rattle.hid_input.specs.Recorded.{recorded_bytes}
use Rattle.hid_input.specs.declared.recorded.RecordedFault.{RecordedFault}
use Rattle.hid_input.specs.declared.recorded.RecordedFault.TheVariants as recorded
use Rattle.hid_recording.specs.declared.dump.Address.{Address}
use Rattle.hid_recording.specs.declared.dump.Content.{Content}
use Rattle.hid_recording.specs.declared.dump.Content.TheVariants as contents
use Rattle.hid_recording.specs.declared.fault.Cause.{Cause}
use Rattle.hid_recording.specs.declared.fault.Refusal.{Refusal}
use Rattle.hid_recording.specs.declared.fault.Refusal.TheVariants.{Syntax, NoCount, BadCount, BadHex, BadDevice, BadTime}
use Rattle.hid_recording.specs.declared.record.Record.{Record}
use Rattle.hid_recording.specs.declared.record.Record.TheVariants as records
use Rattle.hid_recording.specs.Words.{IsNone, spelled_bytes, decimal_of, device_of_word, time_of, is_colon, address_of, content_of}

-- what a line says: nothing, or nothing but the end of a dump; which device the next lines are of; its report
-- descriptor, or why the bytes of one can't be read, with the interface that it is of, if it is a dump; a report and
-- when it came; that a dump begins; or bytes of one, or the first that isn't hex
pub data LineMeaning : Type 0 where
  Nothing : LineMeaning
  Blank : LineMeaning
  Device : ℕ → LineMeaning
  Descriptor : List ℕ → LineMeaning
  Unread : Option Address → Refusal → LineMeaning
  Report : List ℕ → List ℕ → LineMeaning
  Begins : Address → Content → List ℕ → LineMeaning
  Bytes : Result (List ℕ) Refusal → LineMeaning

-- the bytes that were read, or why there are none
abbrev pub items_of : Result (Vec ℕ) Refusal → Result (List ℕ) Refusal
items_of (Ok bytes) = Ok bytes.items
items_of (Err refusal) = Err refusal

-- what a record says
abbrev pub meaning_of_record : Record → LineMeaning
meaning_of_record records.Nothing = Nothing
meaning_of_record records.Blank = Blank
meaning_of_record (records.Device device) = Device device.number
meaning_of_record (records.Descriptor bytes) = Descriptor bytes.items
meaning_of_record (records.Unread interface refusal) = Unread interface refusal
meaning_of_record (records.Report time bytes) = Report time.now bytes.items
meaning_of_record (records.Begins address content time) = Begins address content time.now
meaning_of_record (records.Bytes bytes) = Bytes (items_of bytes)

-- the word of a text that has no other
unfoldable pub only_word : List Word → Option Word
only_word (word ∷ []) = Some word
only_word _ = None

-- why a count, if there is one, isn't that of the bytes that were found: both numbers
abbrev pub miscount : Option ℕ → ℕ → Option Refusal
miscount None found = Some NoCount
miscount (Some said) found = if said == found then None else Some (BadCount said found)

-- bytes, where nothing is against them
abbrev pub unless_refused : Option Refusal → List ℕ → Result (List ℕ) Refusal
unless_refused None bytes = Ok bytes
unless_refused (Some refusal) bytes = Err refusal

-- the bytes that were read, where they are as many as a count, if there is one, says
abbrev pub bytes_if_counted : Option ℕ → Result (List ℕ) Refusal → Result (List ℕ) Refusal
bytes_if_counted said (Ok bytes) = unless_refused (miscount said (length bytes)) bytes
bytes_if_counted said (Err refusal) = Err refusal

-- the bytes that a text spells, if they are as many as a word counts. Example: 2 05 is R4
abbrev pub counted_bytes : Word → List ℕ → Result (List ℕ) Refusal
counted_bytes count text = bytes_if_counted (decimal_of count) (spelled_bytes text)

-- what is said of the bytes that were read, or why there are none
abbrev pub map_bytes : (List ℕ → LineMeaning) → Result (List ℕ) Refusal → Result LineMeaning Refusal
map_bytes make (Ok bytes) = Ok (make bytes)
map_bytes make (Err refusal) = Err refusal

-- a device; BadDevice where there is none
abbrev pub device_or_refusal : Option ℕ → Result LineMeaning Refusal
device_or_refusal None = Err BadDevice
device_or_refusal (Some device) = Ok (Device device)

-- what the words after `D:` say: DEVICE
abbrev pub device_record : List Word → Result LineMeaning Refusal
device_record words = device_or_refusal (option_and_then device_of_word (only_word words))

-- the bytes of a descriptor, or why there are none. (No text is out of memory.)
abbrev pub descriptor_or_unread : Result (List ℕ) RecordedFault → LineMeaning
descriptor_or_unread (Ok bytes) = Descriptor bytes
descriptor_or_unread (Err recorded.NoCount) = Unread None NoCount
descriptor_or_unread (Err (recorded.BadHex at)) = Unread None (BadHex at)
descriptor_or_unread (Err (recorded.BadCount said found)) = Unread None (BadCount said found)
descriptor_or_unread (Err recorded.Memory) = Nothing

-- what a text after `R:` says: COUNT BYTES
abbrev pub descriptor_record : List ℕ → LineMeaning
descriptor_record text = descriptor_or_unread (recorded_bytes text)

-- what came at a time; BadTime where there is no time
abbrev pub report_at_time : Option (List ℕ) → Word → List ℕ → Result LineMeaning Refusal
report_at_time None count text = Err BadTime
report_at_time (Some time) count text = map_bytes (Report time) (counted_bytes count text)

-- the report that a text spells, if it has a time and a count in front: the first two of some words
abbrev pub report_behind : List Word → List ℕ → Result LineMeaning Refusal
report_behind (time ∷ count ∷ words) text = report_at_time (time_of time) count text
report_behind _ text = Err NoCount

-- what a text after `E:` says: TIME COUNT BYTES
abbrev pub report_record : List ℕ → Result LineMeaning Refusal
report_record text = report_behind (words_of text) (after_word (after_word text))

-- what a text after a letter says: N, P and I name a device, D numbers it, R has its descriptor, E a report
unfoldable pub text_record : ℕ → List ℕ → Result LineMeaning Refusal
text_record letter text =
    if letter == 78 || letter == 80 || letter == 73 then Ok Nothing
    else if letter == 68 then device_record (words_of text)
    else if letter == 82 then Ok (descriptor_record text)
    else if letter == 69 then report_record text
    else Err Syntax

-- a letter with a colon after it, and a text
abbrev pub letter_record : ℕ → List ℕ → Result LineMeaning Refusal
letter_record letter [] = Err Syntax
letter_record letter (colon ∷ rest) = if colon == 58 then text_record letter rest else Err Syntax

-- what the text after a space says: HEX, of a dump
abbrev pub dump_record : List ℕ → Result LineMeaning Refusal
dump_record text = Ok (Bytes (spelled_bytes text))

-- the time that a word says, if there is one: Syntax where there is no word, BadTime where it is no time
abbrev pub time_or_refusal : Option Word → Result (List ℕ) Refusal
time_or_refusal None = Err Syntax
time_or_refusal (Some word) = ok_or (time_of word) BadTime

-- the words after the address in the head of a dump: TIME, and nothing more
abbrev pub time_record : List Word → Result (List ℕ) Refusal
time_record words = time_or_refusal (only_word words)

-- a dump of an interface, or why it doesn't begin: then a descriptor can't be read
abbrev pub dump_begin : Address → Content → Result (List ℕ) Refusal → Result LineMeaning Refusal
dump_begin address content (Ok time) = Ok (Begins address content time)
dump_begin address contents.Descriptor (Err refusal) = Ok (Unread (Some address) refusal)
dump_begin address contents.Stream (Err refusal) = Err refusal

-- a dump of an interface and a content; Syntax where one of them is missing, else what its time allows
abbrev pub dump_begin_of : Option Address → Option Content → Result (List ℕ) Refusal
    → Result LineMeaning Refusal
dump_begin_of None content time = Err Syntax
dump_begin_of (Some address) None time = Err Syntax
dump_begin_of (Some address) (Some content) time = dump_begin address content time

-- the parts of an address, and what stands after them
abbrev pub begins_at : List Word → Result (List ℕ) Refusal → Result LineMeaning Refusal
begins_at (bus ∷ device ∷ interface ∷ content ∷ []) time =
    dump_begin_of (address_of bus device interface) (content_of content) time
begins_at _ time = Err Syntax

-- what the head of a dump says: BUS:DEVICE:INTERFACE:CONTENT TIME
abbrev pub header_record : List Word → Result LineMeaning Refusal
header_record (address ∷ time) = begins_at (slice_split is_colon address) (time_record time)
header_record [] = Err Syntax

-- a digit
abbrev pub is_digit : ℕ → Bool
is_digit b = nat_le 48 b && nat_le b 57

-- what a line of a recording says: nothing; which device comes; its descriptor, or why that can't be read; a report and
-- its time; the head, bytes or end of a dump; or the first refusal. An empty line ends a dump, and one that begins with
-- `#` says nothing; a space stands before the bytes of a dump, and a digit begins its head. Example: R: 2 05 is R4
unfoldable pub record_of : List ℕ → Result LineMeaning Refusal
record_of [] = Ok Blank
record_of (first ∷ rest) =
    if first == 35 then Ok Nothing
    else if first == 32 then dump_record rest
    else if is_digit first then header_record (words_of (first ∷ rest))
    else letter_record first rest

-- what was read is what was meant
abbrev pub ReadsRecord : Result Record Cause → Result LineMeaning Refusal → Type 0
ReadsRecord result meant =
    MatchResult result (λ record'. meant ≡ Ok (meaning_of_record record')) (λ cause. IsNone cause meant)
