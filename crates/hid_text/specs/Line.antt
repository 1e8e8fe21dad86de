-- What a line says (our choice: the script language of docs/SCRIPT.md).
use Rattle.std.specs.Prelude.{◌==◌, ℕ, List, [], ◌∷◌, length, nat_lt, slice_index, Option, None, Some, Result, Ok, Err, codes, if◌then◌else◌}
use Rattle.hid_requests.specs.declared.boot.Boot.{Boot}
use Rattle.hid_bus.specs.declared.start.Start.{Start}
use Rattle.hid_text.specs.declared.line.Keyword.{Keyword}
use Rattle.hid_text.specs.declared.line.Keyword.TheVariants as keywords
use Rattle.hid_text.specs.declared.line.Line.{Line}
use Rattle.hid_text.specs.declared.line.Line.TheVariants.{Nothing, Layout, Values, Device, Step}
use Rattle.hid_text.specs.declared.fault.LineFault.{LineFault}
use Rattle.hid_text.specs.declared.fault.LineFault.TheVariants.{Syntax, LineTooLong}
use Rattle.hid_text.specs.Words.{Word, words_of, look_up, hex_of}
use Rattle.hid_text.specs.Arguments.{or_syntax, with_bytes, both, start_of, boot_of}
use Rattle.hid_text.specs.Requests.{begin_meaning}
use Rattle.hid_text.specs.declared.short.ShortLine.{ShortLine}
use Rattle.hid_text.specs.Short.{short_meaning}

-- the first word of a line
abbrev pub keyword_of : Word → Option Keyword
keyword_of = look_up (
    (codes "layout", keywords.Layout) ∷ (codes "values", keywords.Values) ∷ (codes "device", keywords.Device)
    ∷ (codes "press", keywords.Press) ∷ (codes "release", keywords.Release) ∷ (codes "null", keywords.Null)
    ∷ (codes "set", keywords.Set) ∷ (codes "move", keywords.Move) ∷ (codes "frame", keywords.Frame)
    ∷ (codes "poll", keywords.Poll) ∷ (codes "control", keywords.Control) ∷ (codes "begin", keywords.Begin)
    ∷ (codes "reset", keywords.Reset) ∷ (codes "halt", keywords.Halt) ∷ [])

-- a device and its descriptor: START and KIND are looked at before the hex words
abbrev pub attachment : Option (Start × Boot) → List Word → Result Line LineFault
attachment None hex = Err Syntax
attachment (Some said) hex = with_bytes (Device said.0 said.1) (hex_of hex)

-- START KIND HEX
unfoldable pub device_meaning : List Word → Result Line LineFault
device_meaning (start ∷ kind ∷ hex) = attachment (both (start_of start) (boot_of kind)) hex
device_meaning _ = Err Syntax

-- what the words after the first one say
unfoldable pub words_meaning : Keyword → List Word → Result Line LineFault
words_meaning keywords.Layout words = with_bytes Layout (hex_of words)
words_meaning keywords.Values words = with_bytes Values (hex_of words)
words_meaning keywords.Device words = device_meaning words
words_meaning keywords.Begin words = begin_meaning words
words_meaning keyword words = or_syntax Step (short_meaning keyword words)

-- a line that begins with another word is none of the script's
abbrev pub keyword_meaning : Option Keyword → List Word → Result Line LineFault
keyword_meaning None words = Err Syntax
keyword_meaning (Some keyword) words = words_meaning keyword words

-- a line without words, or whose first word begins with `#`, does nothing
unfoldable pub line_meaning : List Word → Result Line LineFault
line_meaning [] = Ok Nothing
line_meaning (first ∷ words) =
    if slice_index first 0 == 35 then Ok Nothing else keyword_meaning (keyword_of first) words

-- the meaning of a line: nothing, or the line form of its first word with what the others say, or the first cause for
-- which it is refused. One of more than 1,024 bytes is refused whatever it says. Example: values 0 is X3
unfoldable pub meaning_of : List ℕ → Result Line LineFault
meaning_of line = if nat_lt 1024 (length line) then Err LineTooLong else line_meaning (words_of line)

-- the short line that a line says, if it says one
abbrev pub short_of : Result Line LineFault → Option ShortLine
short_of (Ok (Step short)) = Some short
short_of (Ok _) = None
short_of (Err fault) = None
