-- Which calls take memory: of these alone the cause may be that it ran out (our choice: docs/RECORDINGS.md, R10).
use Rattle.std.specs.Prelude.{◌≡◌, ℕ, ◌==◌, ◌+◌, nat_lt, Bool, true, false, not, ◌&&◌, ◌||◌, List, [], ◌∷◌, length, if◌then◌else◌, Option, None, Some, Result, Ok, Err, is_ok, is_some, slice_get}
use Rattle.hid_report_descriptor.specs.declared.fault.Cause.{Cause as LayoutCause}
use Rattle.hid_report_descriptor.specs.declared.fault.Cause.TheVariants.{ReportTooLong}
use Rattle.hid_usages.specs.Reading.{report_named}
use Rattle.hid_recording.specs.declared.dump.Content.{Content}
use Rattle.hid_recording.specs.declared.dump.Content.TheVariants as contents
use Rattle.hid_recording.specs.declared.fault.Cause.{Cause}
use Rattle.hid_recording.specs.declared.fault.Cause.TheVariants.{Memory}
use Rattle.hid_recording.specs.declared.fault.Refusal.{Refusal}
use Rattle.hid_recording.specs.Dumps.{number_of_address}
use Rattle.hid_recording.specs.LineOutput.{member_in_slot, member_of, after_dump}
use Rattle.hid_recording.specs.Records.{LineMeaning, Nothing, Blank, Device, Descriptor, Unread, Report, Begins, Bytes, is_digit, record_of}
use Rattle.hid_recording.specs.Session.{Session, PlayedDevice}
use Rattle.hid_recording.specs.Words.{time_of}

-- memory ran out only in a call that takes some
abbrev pub RunsOutIf : {X : Type 0} → Bool → Result X Cause → Type 0
RunsOutIf takes result = result ≡ Err Memory → takes ≡ true

-- a refusal takes memory for its line, which a strict run doesn't print
abbrev pub refusal_allocates : Session → Bool
refusal_allocates session = not session.options.strict

-- ---- descriptors

-- whether a cause is that of a report that is too long, which its refusal names
abbrev pub is_long_report : LayoutCause → Bool
is_long_report ReportTooLong = true
is_long_report _ = false

-- the refusal of a descriptor takes memory for its line, and to name a report
abbrev pub layout_refusal_allocates : Session → LayoutCause → Bool
layout_refusal_allocates session cause = refusal_allocates session || is_long_report cause

-- a descriptor takes memory unless it is too long, which is a refusal
abbrev pub descriptor_allocates : Session → List ℕ → Bool
descriptor_allocates session bytes = if nat_lt 4096 (length bytes) then refusal_allocates session else true

-- whether a device that may be named has a descriptor: there is memory for what it lets go of
abbrev pub holds_named : Session → Option ℕ → Bool
holds_named session None = false
holds_named session (Some device) = is_some (member_of session device)

-- a descriptor takes memory for what its device lets go of, and for itself
abbrev pub description_allocates : Session → List ℕ → Bool
description_allocates session bytes =
    holds_named session (Some session.current) || descriptor_allocates session bytes

-- ---- reports

-- whether the bytes name a report of a device; false where there is no device
abbrev pub names_report : List ℕ → Option PlayedDevice → Bool
names_report bytes None = false
names_report bytes (Some member) = is_ok (report_named member.layout bytes)

-- bytes take memory for the report that they name, and for a refusal
abbrev pub report_allocates : Session → List ℕ → Bool
report_allocates session bytes =
    names_report bytes (member_in_slot (slice_get session.devices session.current))
    || refusal_allocates session

-- ---- dumps

-- the head of a dump takes memory if its interface has a number
abbrev pub dump_head_allocates : Session → Option ℕ → Bool
dump_head_allocates session None = refusal_allocates session
dump_head_allocates session (Some device) = true

-- bytes that no dump has are passed over, or refused
abbrev pub stray_bytes_allocate : Session → Bool
stray_bytes_allocate session = if session.gathered.is_dropped then false else refusal_allocates session

-- bytes of a dump take memory unless they are refused, or no dump is open
abbrev pub dump_bytes_allocate : Session → Result (List ℕ) Refusal → Option Content → Bool
dump_bytes_allocate session bytes None = stray_bytes_allocate session
dump_bytes_allocate session (Err refusal) (Some content) = refusal_allocates session
dump_bytes_allocate session (Ok bytes) (Some content) =
    if nat_lt 16384 (length session.gathered.bytes + length bytes) then refusal_allocates session else true

-- whether chunks of a device are joined: there is one, of which no part of a report may be missing
abbrev pub is_joined : Option PlayedDevice → Bool
is_joined None = false
is_joined (Some member) = not member.in_doubt

-- a chunk takes memory where it is joined to what came before, and for a refusal
abbrev pub chunk_allocates : Session → Bool
chunk_allocates session =
    is_joined (member_in_slot (slice_get session.devices session.current)) || refusal_allocates session

-- whether the chunk of a dump takes memory; a dump without a valid time is refused
abbrev pub stream_allocates : Session → Option (List ℕ) → Bool
stream_allocates session None = refusal_allocates session
stream_allocates session (Some time) = chunk_allocates session

-- the end of a dump takes memory if one is open, for what it is
abbrev pub dump_end_allocates : Session → Option Content → Bool
dump_end_allocates session None = false
dump_end_allocates session (Some contents.Descriptor) =
    description_allocates (after_dump session) session.gathered.bytes
dump_end_allocates session (Some contents.Stream) =
    stream_allocates (after_dump session) (time_of session.gathered.time)

-- ---- lines

-- a colon stands in front
abbrev pub has_colon : List ℕ → Bool
has_colon [] = false
has_colon (first ∷ rest) = first == 58

-- a line may take memory for its bytes: after a space, a digit, or a letter and a colon; a remark has none
abbrev pub has_words : List ℕ → Bool
has_words [] = false
has_words (first ∷ rest) = not (first == 35) && (first == 32 || is_digit first || has_colon rest)

-- whether what is said takes memory
abbrev pub record_allocates : Session → Result LineMeaning Refusal → Bool
record_allocates session (Ok Nothing) = false
record_allocates session (Ok Blank) = dump_end_allocates session session.gathered.content
record_allocates session (Ok (Device device)) = false
record_allocates session (Ok (Descriptor bytes)) = description_allocates session bytes
record_allocates session (Ok (Unread interface refusal)) = refusal_allocates session
record_allocates session (Ok (Report time bytes)) = report_allocates session bytes
record_allocates session (Ok (Begins address content time)) =
    dump_head_allocates session (number_of_address session.addresses address)
record_allocates session (Ok (Bytes bytes)) = dump_bytes_allocate session bytes session.gathered.content
record_allocates session (Err refusal) = refusal_allocates session

-- a line that isn't too long takes memory for its bytes, and for what it says
abbrev pub short_line_allocates : Session → List ℕ → Bool
short_line_allocates session line = has_words line || record_allocates session (record_of line)

-- a line takes memory unless it is too long
abbrev pub line_allocates : Session → List ℕ → Bool
line_allocates session line = if nat_lt 65536 (length line) then false else short_line_allocates session line
