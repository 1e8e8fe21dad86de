-- Files that aren't played, and what they are (our choice: docs/RECORDINGS.md).
use Rattle.std.specs.Prelude.{ℕ, ◌==◌, ◌&&◌, not, Bool, true, false, List, [], ◌∷◌, nat_eq, is_some, if◌then◌else◌, codes}
use Rattle.std.specs.List.{slice_split, list_any, starts_with}
use Rattle.std.specs.Str.{bytes_eq}
use Rattle.hid_input.specs.Known.{known_text}
use Rattle.hid_input.specs.declared.known.KnownFile.{KnownFile}
use Rattle.hid_input.specs.declared.known.KnownFile.TheVariants.{Capture, UsbDescriptors}
use Rattle.hid_text.specs.Numbers.{count_of}
use Rattle.hid_text.specs.Words.{Word, words_of}
use Rattle.hidplay.specs.declared.other.OtherFile.{OtherFile}
use Rattle.hidplay.specs.declared.other.OtherFile.TheVariants.{Known, Script, Text, NoRecording, Umockdev}

-- What a file is that is known by its first bytes, in words: a capture is known so only where a descriptor is wanted.
abbrev pub other_known_text : KnownFile → List ℕ
other_known_text Capture = codes "a capture, where a descriptor is wanted"
other_known_text UsbDescriptors = known_text UsbDescriptors

-- what a file is, and which program reads it, in words
abbrev pub other_text : OtherFile → List ℕ
other_text (Known file) = other_known_text file
other_text Script = codes "a script: hidlab runs it"
other_text Text = codes "text, not a descriptor: write it without control characters, as UTF-8"
other_text NoRecording = codes "neither a recording nor a descriptor: hidplay --help says what is read"
other_text Umockdev = codes "a recording of umockdev, whose E: lines are properties: hid-recorder writes reports"

-- a text begins as umockdev writes the path of a device
abbrev pub is_umockdev : List ℕ → Bool
is_umockdev text = starts_with nat_eq text (codes "P: /devices")

-- the words that lines of scripts begin with (docs/SCRIPT.md and docs/LAB.md)
abbrev pub keywords : List Word
keywords =
    codes "layout" ∷ codes "values" ∷ codes "device" ∷ codes "press" ∷ codes "release" ∷ codes "set" ∷ codes "null"
    ∷ codes "move" ∷ codes "frame" ∷ codes "poll" ∷ codes "begin" ∷ codes "control" ∷ codes "reset" ∷ codes "halt"
    ∷ codes "click" ∷ codes "type" ∷ codes "lose" ∷ codes "repeat" ∷ codes "expect" ∷ codes "wait" ∷ codes "include" ∷ []

-- a word is one of others
abbrev pub is_one_of : List Word → Word → Bool
is_one_of words word = list_any (λ known. bytes_eq known word) words

-- a word that begins with #
abbrev pub is_comment : Word → Bool
is_comment [] = false
is_comment (first ∷ rest) = first == 35

-- a line of these words says nothing: it has none, or is a comment
abbrev pub says_nothing : List Word → Bool
says_nothing [] = true
says_nothing (word ∷ words) = is_comment word

-- words are none, or one that is a count
abbrev pub is_count : List Word → Bool
is_count [] = true
is_count (word ∷ []) = is_some (count_of word)
is_count (word ∷ second ∷ more) = false

-- Whether a line of these words begins a script; where it says nothing, what comes later. After `frame` nothing but a count may
-- stand: tshark prints such a word too.
abbrev pub begins_script : List Word → Bool → Bool
begins_script [] later = later
begins_script (word ∷ words) later =
    if is_comment word then later else (if bytes_eq word (codes "frame") && not (is_count words) then false else is_one_of keywords word)

-- the first of some lines that says something begins with a keyword
unfoldable pub are_script : List (List ℕ) → Bool
are_script [] = false
are_script (line ∷ lines) = begins_script (words_of line) (are_script lines)

-- a text is a script by its first word, comments left out
abbrev pub is_script : List ℕ → Bool
is_script text = are_script (slice_split (λ b. b == 10) text)
