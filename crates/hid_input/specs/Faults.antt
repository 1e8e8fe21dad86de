-- Why a file has no descriptor, of the whole text or of a line of it (our choice: docs/INPUT-FORMS.md).
use Rattle.std.specs.Prelude.{ℕ, List, [], ◌++◌, Option, None, Some, codes}
use Rattle.std.specs.Fmt.{decimal}
use Rattle.hid_input.specs.declared.fault.InputCause.{InputCause}
use Rattle.hid_input.specs.declared.fault.InputCause.TheVariants.{NotWhole, NoByte, Recorded, Several, Beside, Unclear, WordOrder, Offset, DumpLine, OtherLine, Unavailable, Utf16, NoDescriptor, Memory}
use Rattle.hid_input.specs.declared.fault.InputFault.{InputFault}
use Rattle.hid_input.specs.declared.recorded.RecordedFault.{RecordedFault}
use Rattle.hid_input.specs.declared.recorded.RecordedFault.TheVariants as recorded
use Rattle.hid_input.specs.declared.whole.DescriptorCause.{DescriptorCause}
use Rattle.hid_input.specs.declared.whole.DescriptorCause.TheVariants.{Truncated, EndWithout, Unclosed, Other}
use Rattle.hid_input.specs.declared.whole.DescriptorFault.{DescriptorFault}

-- what is wrong with the whole text
abbrev pub of_text : InputCause → InputFault
of_text cause = record { line = None; cause = cause }

-- what is wrong with a line
abbrev pub of_line : ℕ → InputCause → InputFault
of_line line cause = record { line = Some line; cause = cause }

-- why bytes aren't one whole descriptor, in words
abbrev pub descriptor_words : DescriptorCause → ℕ → List ℕ
descriptor_words Truncated at = codes "L1 at " ++ (decimal at ++ codes ": an item is cut off")
descriptor_words EndWithout at = codes "L6 at " ++ (decimal at ++ codes ": an End Collection without its Collection")
descriptor_words Unclosed at = codes "L7 at " ++ (decimal at ++ codes ": a Collection is open at the end")
descriptor_words Other at = codes "byte " ++ (decimal at ++ codes ": no report descriptor goes on so")

-- a fault of a descriptor, in words
abbrev pub descriptor_text : DescriptorFault → List ℕ
descriptor_text fault = descriptor_words fault.cause fault.at

-- a fault of COUNT HEX, in words
abbrev pub recorded_text : RecordedFault → List ℕ
recorded_text recorded.NoCount = codes "the count is missing, or no number"
recorded_text (recorded.BadHex at) = codes "byte " ++ (decimal at ++ codes " isn't two hex digits")
recorded_text (recorded.BadCount said found) = codes "the count is " ++ (decimal said ++ (codes ", that of the bytes " ++ decimal found))
recorded_text recorded.Memory = codes "out of memory"

-- the way out of each refusal but those of dumps, of which it would take the offsets for bytes
abbrev pub way_out : List ℕ
way_out = codes "; convert it: xxd -r -p FILE | hidmap"

-- the cause of a fault, in words, and the way out
abbrev pub cause_text : InputCause → List ℕ
cause_text (NotWhole fault) = codes "no whole descriptor: " ++ (descriptor_text fault ++ way_out)
cause_text (NoByte column) = codes "column " ++ (decimal column ++ (codes ": neither a byte nor a comment of // or #" ++ way_out))
cause_text (Recorded fault) = recorded_text fault ++ way_out
cause_text (Several first second) =
    codes "two descriptors, from lines " ++ (decimal first ++ (codes " and " ++ (decimal second ++ (codes ": give one alone" ++ way_out))))
cause_text Beside = codes "an operator, a call or other bytes beside it: give the bytes alone" ++ way_out
cause_text Unclear = codes "a comment, a string, a line or a directive without a clear end" ++ way_out
cause_text WordOrder = codes "the order of bytes isn't known: try xxd or od -v -A x -t x1"
cause_text Offset = codes "the offset isn't the number of bytes in front of it"
cause_text DumpLine = codes "neither an offset with bytes nor their characters: try xxd or od -v -A x -t x1"
cause_text OtherLine = codes "a line that isn't of the program that wrote the others" ++ way_out
cause_text Unavailable = codes "lsusb couldn't read the descriptor: /sys/class/hidraw has it" ++ way_out
cause_text Utf16 = codes "text of UTF-16: write it as UTF-8" ++ way_out
cause_text NoDescriptor = codes "text without a descriptor" ++ way_out
cause_text Memory = codes "out of memory"

-- the line of a fault in words, or nothing where the whole text is meant
abbrev pub line_text : Option ℕ → List ℕ
line_text None = []
line_text (Some line) = codes "line " ++ (decimal line ++ codes ": ")

-- a fault in words: its line, if one is meant, and its cause
abbrev pub fault_text : InputFault → List ℕ
fault_text fault = line_text fault.line ++ cause_text fault.cause
