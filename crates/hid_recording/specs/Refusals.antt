-- Refusals as they are printed (our choice: docs/RECORDINGS.md).
use Rattle.std.specs.Prelude.{ℕ, ◌==◌, List, [], ◌∷◌, ◌++◌, if◌then◌else◌, codes}
use Rattle.std.specs.Fmt.{decimal}
use Rattle.hid_snapshots.specs.declared.fault.ReportFault.{ReportFault}
use Rattle.hid_snapshots.specs.declared.fault.ReportFault.TheVariants.{Short, UnknownReport}
use Rattle.hid_notation.specs.Causes.{layout_refusal_text}
use Rattle.hid_usages.specs.Faults.{report_code}
use Rattle.hid_recording.specs.EventJson.{counted_word, refusal_tokens, json_text}
use Rattle.hid_recording.specs.declared.fault.Refusal.{Refusal}
use Rattle.hid_recording.specs.declared.counted.Counted.{Counted}
use Rattle.hid_recording.specs.declared.options.Options.{Options}
use Rattle.hid_recording.specs.declared.fault.Refusal.TheVariants.{Syntax, BadHex, NoCount, BadCount, Truncated, BadDevice, BadTime, NoLayout, Unended, DumpTooLong, TooManyDevices, PartMissing, Layout, Report}
use Rattle.hid_recording.specs.declared.fault.Cause.{Cause}
use Rattle.hid_recording.specs.declared.fault.Cause.TheVariants as causes

-- why a report is refused
abbrev pub report_words : ReportFault → List ℕ
report_words Short = codes "the report is too short"
report_words UnknownReport = codes "the device has no such Input report"

-- how many bytes there are, in words
abbrev pub bytes_text : ℕ → List ℕ
bytes_text found =
    if found == 1 then codes ", there is 1 byte" else codes ", there are " ++ (decimal found ++ codes " bytes")

-- a refusal as its code, and words
abbrev pub refusal_text : Refusal → List ℕ
refusal_text Syntax = codes "R1: no line of a recording"
refusal_text (BadHex at) = codes "R3 at " ++ (decimal at ++ codes ": a byte isn't two hex digits")
refusal_text NoCount = codes "R4: the count is missing, or no number"
refusal_text (BadCount said found) = codes "R4: the count says " ++ (decimal said ++ bytes_text found)
refusal_text Truncated = codes "R4: the frame was cut off when it was captured"
refusal_text BadDevice = codes "R5: the device isn't a number from 0 to 15"
refusal_text BadTime = codes "R6: the time isn't digits and points, 32 at most"
refusal_text NoLayout = codes "R7: the device has no descriptor"
refusal_text Unended = codes "R12: no empty line ends the dump before"
refusal_text DumpTooLong = codes "R13: a dump of over 16384 bytes"
refusal_text TooManyDevices = codes "R14: over 16 interfaces"
refusal_text PartMissing = codes "R15: a part of the report may be missing"
refusal_text (Layout fault report) = layout_refusal_text fault report
refusal_text (Report fault) = report_code fault ++ codes ": " ++ report_words fault

-- what ends a run, as its code and words
abbrev pub cause_text : Cause → List ℕ
cause_text (causes.Refused refusal) = refusal_text refusal
cause_text causes.LineTooLong = codes "R2: a line of over 65536 bytes"
cause_text causes.Read = codes "R8: the recording can't be read"
cause_text causes.Write = codes "R9: its text can't be written"
cause_text causes.Memory = codes "R10: out of memory"
cause_text causes.TooManyReads = codes "R11: the end didn't come in 1000000000000 reads"
cause_text causes.Unended = codes "R12: no empty line ends the last dump"

-- The line of a refusal: line N: CODE: WORDS, of a capture frame N: CODE: WORDS, or with --json an object. Example: line 1: R4: the
-- count says 14, there are 13 bytes
abbrev pub refusal_line : Options → Counted → ℕ → Refusal → List ℕ
refusal_line options counted place refusal =
    if options.json then json_text (refusal_tokens counted place (refusal_text refusal))
    else counted_word counted ++ 32 ∷ decimal place ++ codes ": " ++ refusal_text refusal ++ 10 ∷ []
