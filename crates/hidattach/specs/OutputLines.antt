-- The lines of a file of Output reports (our choice: docs/USBIP.md).
use Rattle.std.specs.Prelude.{⊤, ◌≡◌, ◌<◌, ℕ, ◌==◌, Bool, false, List, [], ◌∷◌, ◌++◌, codes, length, if◌then◌else◌, Option, Some, None, Result, Ok, Err}
use Rattle.std.specs.Global.{Vec}
use Rattle.std.specs.Str.{bytes_eq}
use Rattle.hid_text.specs.Lines.{IsUnbroken}
use Rattle.hid_text.specs.Words.{Word, hex_of}
use Rattle.hid_recording.specs.Words.{decimal_of}
use Rattle.hidattach.specs.declared.output_lines.LineFault.{LineFault}
use Rattle.hidattach.specs.declared.output_lines.LineFault.TheVariants.{Unread, Memory}
use Rattle.hidattach.specs.declared.output_lines.OutputLine.{OutputLine}
use Rattle.hidattach.specs.declared.output_lines.OutputLine.TheVariants as lines

-- what a line says: nothing, or an Output report of an interface, which it may name
pub data Meaning : Type 0 where
  Nothing : Meaning
  Report : (interface : Option ℕ) → (bytes : List ℕ) → Meaning

-- an Output report with these bytes, if there are any
abbrev pub with_bytes : Option ℕ → Option (List ℕ) → Option Meaning
with_bytes interface None = None
with_bytes interface (Some bytes) = Some (Report interface bytes)

-- an Output report with the bytes that words in hex encode
abbrev pub report_line : Option ℕ → List Word → Option Meaning
report_line interface words = with_bytes interface (hex_of words)

-- the place that a word names: decimal digits
abbrev pub place_of_word : Word → Option ℕ
place_of_word word = decimal_of word

-- an Output report of the interface that is named, if one is
abbrev pub report_at : Option ℕ → List Word → Option Meaning
report_at None words = None
report_at (Some place) words = report_line (Some place) words

-- what stands after `interface`: its place, and the bytes
abbrev pub interface_line : List Word → Option Meaning
interface_line [] = None
interface_line (number ∷ words) = report_at (place_of_word number) words

-- a word begins with #
abbrev pub is_remark : Word → Bool
is_remark [] = false
is_remark (byte ∷ bytes) = byte == 35

-- What the words of a line say, if they say something. Example: interface 1 04 FF
abbrev pub line_of_words : List Word → Option Meaning
line_of_words [] = Some Nothing
line_of_words (word ∷ words) =
    if is_remark word then Some Nothing
    else (if bytes_eq word (codes "interface") then interface_line words else report_line None (word ∷ words))

-- what was read of a line is what it says
abbrev pub Says : OutputLine → Meaning → Type 0
Says lines.Nothing Nothing = ⊤
Says lines.Nothing (Report interface bytes) = ⊥
Says (lines.Bytes interface bytes) Nothing = ⊥
Says (lines.Bytes interface bytes) (Report named said) = (interface ≡ named) × (bytes.items ≡ said)

-- A line is read as what it says; or it says nothing that can be read, or memory ran out.
abbrev pub ReadsLine : Result OutputLine LineFault → Option Meaning → Type 0
ReadsLine (Ok line) None = ⊥
ReadsLine (Ok line) (Some meaning) = Says line meaning
ReadsLine (Err Unread) meaning = meaning ≡ None
ReadsLine (Err Memory) meaning = ⊤

-- The first line of what came is taken, with its end; where none came whole, nothing is.
abbrev pub LineTaken : Option (Vec ℕ) → List ℕ → List ℕ → Type 0
LineTaken None before after = IsUnbroken before × (after ≡ before)
LineTaken (Some line) before after = IsUnbroken line.items × (before ≡ line.items ++ 10 ∷ after)

-- More came of the file. It is refused only where what came before is the beginning of a line of over 65,536 bytes.
abbrev pub Added : Result (Unit {0}) LineFault → List ℕ → List ℕ → List ℕ → Type 0
Added (Ok done) more before after = after ≡ before ++ more
Added (Err Unread) more before after = IsUnbroken before × (65536 < length before)
Added (Err Memory) more before after = ⊤
