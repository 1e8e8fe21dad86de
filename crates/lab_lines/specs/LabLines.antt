-- What a line of the bench says, or which word of it is wrong (our choice: docs/LAB.md).
use Rattle.std.specs.Prelude.{◌≡◌, ℕ, ◌==◌, false, nat_le, nat_lt, List, [], ◌∷◌, length, drop, slice_index, if◌then◌else◌, Option, None, Some, Result, Ok, Err, codes, ℤ}
use Rattle.std.specs.Str.{bytes_eq}
use Rattle.hid_requests.specs.declared.boot.Boot.{Boot}
use Rattle.hid_bus.specs.declared.start.Start.{Start}
use Rattle.hid_text.specs.declared.change_kind.ChangeKind.{ChangeKind}
use Rattle.hid_text.specs.declared.change_kind.ChangeKind.TheVariants.{Press, Release, Null, Set, Move}
use Rattle.hid_text.specs.declared.short.ShortLine.{ShortLine}
use Rattle.hid_text.specs.Words.{Word, words_of, after_word, look_up}
use Rattle.hid_text.specs.Numbers.{device_of, count_of, number_of, short_number_of, signed_of_word, amount_of}
use Rattle.hid_text.specs.Arguments.{start_of, boot_of}
use Rattle.hid_text.specs.Line.{meaning_of, short_of}
use Rattle.lab_lines.specs.declared.expected.Expected.{Expected}
use Rattle.lab_lines.specs.declared.expected.Expected.TheVariants as place
use Rattle.lab_lines.specs.declared.lab_line.LabLine.{LabLine}
use Rattle.lab_lines.specs.declared.lab_line.LabLine.TheVariants as declared_line
use Rattle.lab_lines.specs.declared.lab_line.Unread.{Unread}
use Rattle.lab_lines.specs.declared.lab_line.Unread.TheVariants as unread
use Rattle.lab_lines.specs.declared.lab_line.LabKeyword.{LabKeyword}
use Rattle.lab_lines.specs.declared.lab_line.LabKeyword.TheVariants as keyword
use Rattle.lab_lines.specs.declared.lab_line.ChangeWord.{ChangeWord}
use Rattle.lab_lines.specs.declared.lab_line.ChangeWord.TheVariants as change
use Rattle.lab_lines.specs.ControlNames.{Named, named_of, control_name_of}
use Rattle.lab_lines.specs.Typing.{trim, text_in_quotes, untyped_rest}

-- What a line says: nothing; what a line of hidrun says; or one of the lines that the bench has besides.
pub data Said : Type 0 where
  Nothing : Said
  Script : List ℕ → Said
  Short : ShortLine → Said
  Layout : List Word → Said
  Values : List Word → Said
  Device : Start → Boot → List Word → Said
  DeviceFile : Start → Boot → List ℕ → Said
  Change : ℕ → Named → ChangeKind → Said
  Click : ℕ → Named → Said
  Typing : ℕ → List ℕ → Said
  Lose : ℕ → ℕ → ℕ → Said
  Repeat : ℕ → Said
  End : Said
  Expect : List Word → Said
  ExpectNone : Said
  ExpectAny : Said
  Wait : ℕ → Said
  Include : List ℕ → Said

-- why a line can't be read: it is too long, or a word isn't what is expected in its place
pub data Refusal : Type 0 where
  TooLong : Refusal
  Wrong : Word → Expected → Refusal

-- what a value of a line stands for
abbrev pub said_of : LabLine → Said
said_of declared_line.Nothing = Nothing
said_of (declared_line.Script line) = Script line.now
said_of (declared_line.Short short) = Short short
said_of (declared_line.Layout hex) = Layout (words_of hex.now)
said_of (declared_line.Values hex) = Values (words_of hex.now)
said_of (declared_line.Device start boot hex) = Device start boot (words_of hex.now)
said_of (declared_line.DeviceFile start boot name) = DeviceFile start boot name.now
said_of (declared_line.Change dev control wanted) = Change dev (named_of control) wanted
said_of (declared_line.Click dev control) = Click dev (named_of control)
said_of (declared_line.Type dev text) = Typing dev text.rest.now
said_of (declared_line.Lose dev percent seed) = Lose dev percent seed
said_of (declared_line.Repeat count) = Repeat count
said_of declared_line.End = End
said_of (declared_line.Expect line) = Expect (words_of line.now)
said_of declared_line.ExpectNone = ExpectNone
said_of declared_line.ExpectAny = ExpectAny
said_of (declared_line.Wait count) = Wait count
said_of (declared_line.Include name) = Include name.now

-- what a value of a refusal stands for
abbrev pub refusal_of : Unread → Refusal
refusal_of unread.TooLong = TooLong
refusal_of (unread.Word word expected) = Wrong word.now expected

-- what came of reading a line
abbrev pub reading : {A B : Type 0} → (A → B) → Result A Unread → Result B Refusal
reading view (Ok said) = Ok (view said)
reading view (Err cause) = Err (refusal_of cause)

infixl 10 ◌>>=◌
-- one place after the other: the first one that is wrong refuses the line
abbrev pub ◌>>=◌ : {A B : Type 0} → Result A Refusal → (A → Result B Refusal) → Result B Refusal
Ok said >>= more = more said
Err cause >>= more = Err cause

-- a word that is understood, or that isn't what is expected
abbrev pub word_meaning : {A : Type 0} → Expected → Word → Option A → Result A Refusal
word_meaning expected word None = Err (Wrong word expected)
word_meaning expected word (Some said) = Ok said

-- the first of some words, which has to be there
abbrev pub first_of : Expected → List Word → Result Word Refusal
first_of expected [] = Err (Wrong [] expected)
first_of expected (word ∷ more) = Ok word

-- what the first word of a text says in its place
abbrev pub at_place : {A : Type 0} → Expected → (Word → Option A) → List ℕ → Result A Refusal
at_place expected read text = first_of expected (words_of text) >>= (λ word. word_meaning expected word (read word))

-- no word is left
abbrev pub said_at_end : Said → List Word → Result Said Refusal
said_at_end said [] = Ok said
said_at_end said (word ∷ more) = Err (Wrong word place.End)

-- D
abbrev pub device_at : List ℕ → Result ℕ Refusal
device_at = at_place place.Device device_of

-- D C
unfoldable pub click_meaning : List ℕ → Result Said Refusal
click_meaning text =
    device_at text >>= (λ dev. at_place place.Control control_name_of (after_word text)
    >>= (λ control. said_at_end (Click dev control) (words_of (after_word (after_word text)))))

-- nothing stands after a text
abbrev pub typing_end : Said → List Word → Result Said Refusal
typing_end said [] = Ok said
typing_end said (word ∷ more) = Err (Wrong word place.TextEnd)

-- a text between quotes, of characters that keys type, and the words after it
abbrev pub typing_of : ℕ → List ℕ → List Word → Option (List ℕ) → Result Said Refusal
typing_of dev bytes words None = typing_end (Typing dev bytes) words
typing_of dev bytes words (Some rest) = Err (Wrong rest place.Character)

-- what stands between quotes, and after them
abbrev pub typing : ℕ → List ℕ → Option (List ℕ × List ℕ) → Result Said Refusal
typing dev text None = Err (Wrong text place.Text)
typing dev text (Some parts) = typing_of dev parts.0 (words_of parts.1) (untyped_rest parts.0)

-- D "TEXT"
unfoldable pub type_meaning : List ℕ → Result Said Refusal
type_meaning text = device_at text >>= (λ dev. typing dev (trim (after_word text)) (text_in_quotes (trim (after_word text))))

-- a number up to 100
abbrev pub in_percent : Option ℕ → Option ℕ
in_percent None = None
in_percent (Some n) = if nat_le n 100 then Some n else None

-- PERCENT
abbrev pub percent_of : Word → Option ℕ
percent_of word = in_percent (number_of 10 word)

-- D PERCENT SEED
unfoldable pub lose_meaning : List ℕ → Result Said Refusal
lose_meaning text =
    device_at text >>= (λ dev. at_place place.Percent percent_of (after_word text)
    >>= (λ percent. at_place place.Seed short_number_of (after_word (after_word text))
    >>= (λ seed. said_at_end (Lose dev percent seed) (words_of (after_word (after_word (after_word text)))))))

-- a count alone
unfoldable pub count_meaning : (ℕ → Said) → List ℕ → Result Said Refusal
count_meaning make text =
    at_place place.Count count_of text >>= (λ count. said_at_end (make count) (words_of (after_word text)))

-- LINE, none, or any
unfoldable pub expect_meaning : List Word → Result Said Refusal
expect_meaning [] = Err (Wrong [] place.Line)
expect_meaning (word ∷ more) =
    if bytes_eq word (codes "none") then said_at_end ExpectNone more
    else if bytes_eq word (codes "any") then said_at_end ExpectAny more else Ok (Expect (word ∷ more))

-- a name of a file
abbrev pub file_name : List ℕ → Result Said Refusal
file_name [] = Err (Wrong [] place.File)
file_name (b ∷ name) = Ok (Include (b ∷ name))

-- FILE
abbrev pub include_meaning : List ℕ → Result Said Refusal
include_meaning text = file_name (trim text)

-- the first word of a line that hidrun doesn't have
abbrev pub lab_keyword_of : Word → Option LabKeyword
lab_keyword_of = look_up (
    (codes "click", keyword.Click) ∷ (codes "type", keyword.Type) ∷ (codes "lose", keyword.Lose)
    ∷ (codes "repeat", keyword.Repeat) ∷ (codes "end", keyword.End) ∷ (codes "expect", keyword.Expect)
    ∷ (codes "wait", keyword.Wait) ∷ (codes "include", keyword.Include) ∷ [])

-- what stands after such a word
unfoldable pub new_meaning : LabKeyword → List ℕ → Result Said Refusal
new_meaning keyword.Click text = click_meaning text
new_meaning keyword.Type text = type_meaning text
new_meaning keyword.Lose text = lose_meaning text
new_meaning keyword.Expect text = expect_meaning (words_of text)
new_meaning keyword.Include text = include_meaning text
new_meaning keyword.Repeat text = count_meaning Repeat text
new_meaning keyword.Wait text = count_meaning Wait text
new_meaning keyword.End text = said_at_end End (words_of text)

-- the first word of a line that changes a control
abbrev pub change_word_of : Word → Option ChangeWord
change_word_of = look_up (
    (codes "press", change.Press) ∷ (codes "release", change.Release) ∷ (codes "null", change.Null)
    ∷ (codes "set", change.Set) ∷ (codes "move", change.Move) ∷ [])

-- what is done with a control, where the last word may be a number
abbrev pub wanted_at : ChangeWord → List ℕ → Result (ChangeKind × List ℕ) Refusal
wanted_at change.Press text = Ok (Press, text)
wanted_at change.Release text = Ok (Release, text)
wanted_at change.Null text = Ok (Null, text)
wanted_at change.Set text = at_place place.Number signed_of_word text >>= (λ value. Ok (Set value, after_word text))
wanted_at change.Move text = at_place place.Amount amount_of text >>= (λ by. Ok (Move by, after_word text))

-- D C, and a number after `set` and `move`
unfoldable pub change_meaning : ChangeWord → List ℕ → Result Said Refusal
change_meaning word text =
    device_at text >>= (λ dev. at_place place.Control control_name_of (after_word text)
    >>= (λ control. wanted_at word (after_word (after_word text))
    >>= (λ wanted. said_at_end (Change dev control wanted.0) (words_of wanted.1))))

-- a descriptor: that of a file after @, else words of hex. In a line that hidrun takes it is read as there.
abbrev pub descriptor : List ℕ → Start → Boot → List ℕ → Result Said Refusal
descriptor line start boot text =
    if slice_index text 0 == 64
    then (if length text == 1 then Err (Wrong [] place.File) else Ok (DeviceFile start boot (drop 1 text)))
    else if nat_lt 1024 (length line) then Ok (Device start boot (words_of text)) else Ok (Script line)

-- START KIND HEX or START KIND @FILE
unfoldable pub attachment_meaning : List ℕ → List ℕ → Result Said Refusal
attachment_meaning line text =
    at_place place.Start start_of text >>= (λ start. at_place place.Kind boot_of (after_word text)
    >>= (λ boot. descriptor line start boot (trim (after_word (after_word text)))))

-- a line of over 1,024 bytes: layout and values alone have so many
abbrev pub long_meaning : Word → List ℕ → Result Said Refusal
long_meaning first text =
    if bytes_eq first (codes "layout") then Ok (Layout (words_of text))
    else if bytes_eq first (codes "values") then Ok (Values (words_of text)) else Err TooLong

-- a line that changes no control and attaches no device: one that hidrun takes is read as there
abbrev pub script_meaning : List ℕ → Word → List ℕ → Result Said Refusal
script_meaning line first text = if nat_lt 1024 (length line) then long_meaning first text else Ok (Script line)

-- a line with a first word that hidrun may have
abbrev pub old_meaning : List ℕ → Word → List ℕ → Option ChangeWord → Result Said Refusal
old_meaning line first text (Some word) = change_meaning word text
old_meaning line first text None =
    if bytes_eq first (codes "device") then attachment_meaning line text else script_meaning line first text

-- a line by its first word
abbrev pub by_keyword : List ℕ → Word → List ℕ → Option LabKeyword → Result Said Refusal
by_keyword line first text (Some keyword) = new_meaning keyword text
by_keyword line first text None = old_meaning line first text (change_word_of first)

-- a line that isn't short: without words, or with a first one that begins with `#`, it says nothing
unfoldable pub other_meaning : List ℕ → List Word → Result Said Refusal
other_meaning line [] = Ok Nothing
other_meaning line (first ∷ more) =
    if slice_index first 0 == 35 then Ok Nothing
    else by_keyword line first (after_word line) (lab_keyword_of first)

-- a first word that is left to hidrun: of no new line, no change, no device and no comment
pub record IsWordOfHidrun (word : Word) : Type 0 where
  pub new : lab_keyword_of word ≡ None
  pub change : change_word_of word ≡ None
  pub device : bytes_eq word (codes "device") ≡ false
  pub comment : (slice_index word 0 == 35) ≡ false

-- a line that is short says what it says to hidrun
abbrev pub short_or : Option ShortLine → Result Said Refusal → Result Said Refusal
short_or (Some short) other = Ok (Short short)
short_or None other = other

-- what a line of the bench says, or why it can't be read. Example: click 1 Keyboard_A clicks a control that is named; click 8
-- is wrong at 8, where a device is expected
unfoldable pub lab_meaning : List ℕ → Result Said Refusal
lab_meaning line =
    if nat_lt 16384 (length line) then Err TooLong
    else short_or (short_of (meaning_of line)) (other_meaning line (words_of line))
