-- What the words of a recording's lines say (our choice: docs/RECORDINGS.md).
use Rattle.std.specs.Borrow.{Bor}
use Rattle.std.specs.Prelude.{⊤, ◌≡◌, ℕ, ◌+◌, ◌==◌, ◌-◌, ◌^◌, Bool, true, not, ◌&&◌, ◌||◌, nat_le, List, [], ◌∷◌, ◌++◌, length, min, if◌then◌else◌, Option, None, Some, is_some, ok_or, Result, Ok, Err, codes}
use Rattle.std.specs.List.{list_all}
use Rattle.std.specs.Option.{option_map}
use Rattle.std.specs.Result.{result_ok}
use Rattle.std.specs.Str.{bytes_eq}
use Rattle.hex.specs.Hex.{decode_of}
use Rattle.hex.specs.declared.error.FromHexError.{FromHexError}
use Rattle.hid_text.specs.Words.{Word, is_blank, words_of, after_word, hex_of, pair_of}
use Rattle.hid_text.specs.Numbers.{number_of}
use Rattle.hid_recording.specs.declared.dump.Address.{Address}
use Rattle.hid_recording.specs.declared.dump.Content.{Content}
use Rattle.hid_recording.specs.declared.dump.Content.TheVariants as contents
use Rattle.hid_recording.specs.declared.fault.Cause.{Cause}
use Rattle.hid_recording.specs.declared.fault.Cause.TheVariants.{Refused, LineTooLong, Read, Write, Memory, TooManyReads, Unended}
use Rattle.hid_recording.specs.declared.fault.Refusal.{Refusal}
use Rattle.hid_recording.specs.declared.fault.Refusal.TheVariants.{BadHex}

-- how many bytes of a word stand before the first that isn't two hex digits, or before its end
unfoldable pub bytes_before : Word → ℕ
bytes_before (high ∷ low ∷ rest) = if is_some (pair_of high low) then bytes_before rest + 1 else 0
bytes_before _ = 0

-- how many bytes stand before the first that isn't two hex digits: all of a word that is whole, and some of one that isn't
abbrev pub bad_byte_from : Result (List ℕ) FromHexError → Word → ℕ → ℕ
bad_byte_from (Ok bytes) word behind = length bytes + behind
bad_byte_from (Err cause) word behind = bytes_before word

-- how many bytes of words stand before the first that isn't two hex digits. Example: of 05 010g it is 2
unfoldable pub bad_byte : List Word → ℕ
bad_byte [] = 0
bad_byte (word ∷ words) = bad_byte_from (decode_of word) word (bad_byte words)

-- the bytes that words of hex encode, or the first that isn't two digits
abbrev pub bytes_of : List Word → Result (List ℕ) Refusal
bytes_of words = ok_or (hex_of words) (BadHex (bad_byte words))

-- why nothing was read: out of memory, or the one refusal
abbrev pub IsNone : {X : Type 0} → Cause → Result X Refusal → Type 0
IsNone Memory meant = ⊤
IsNone (Refused refusal) meant = meant ≡ Err refusal
IsNone LineTooLong meant = ⊥
IsNone Read meant = ⊥
IsNone Write meant = ⊥
IsNone TooManyReads meant = ⊥
IsNone Unended meant = ⊥

-- why a word has no bytes, after so many bytes: out of memory, or it isn't pairs of hex digits
abbrev pub IsNoHex : Cause → ℕ → Word → Type 0
IsNoHex Memory count word = ⊤
IsNoHex cause count word = (cause ≡ Refused (BadHex (count + bytes_before word))) × (result_ok (decode_of word) ≡ None)

-- The bytes that a text spells, or the first that isn't two digits: words of hex with blanks between them. Example: 05 01A1 is 05 01 A1
abbrev pub spelled_bytes : List ℕ → Result (List ℕ) Refusal
spelled_bytes text = bytes_of (words_of text)

-- a text ends, or a blank comes: a word before it is at its end
abbrev pub ends_word : List ℕ → Bool
ends_word [] = true
ends_word (next ∷ rest) = is_blank next

-- words begin with two hex digits that encode a byte, before others
abbrev pub BeginsWithPair : List Word → ℕ → List Word → Type 0
BeginsWithPair words byte others =
    (word : Word) × (words ≡ word ∷ others) × (result_ok (decode_of word) ≡ Some (byte ∷ []))

-- bytes grew by those that a word encodes; or why they didn't
abbrev pub AddsBytes : List ℕ → List ℕ → Word → Result (Unit {0}) Cause → Type 0
AddsBytes old new word (Ok _) = (more : List ℕ) × (result_ok (decode_of word) ≡ Some more) × (new ≡ old ++ more)
AddsBytes old new word (Err cause) = IsNoHex cause (length old) word

-- bytes grew by those that the first of some words encodes, before others; there is no word; or why they didn't
abbrev pub AddsFirst : List ℕ → List ℕ → List Word → Result (Option (Bor (List ℕ))) Cause → Type 0
AddsFirst old new words (Ok None) = (words ≡ []) × (new ≡ old)
AddsFirst old new words (Ok (Some text)) =
    (word : Word) × (more : List ℕ) × (words ≡ word ∷ words_of text.now) × (result_ok (decode_of word) ≡ Some more) × (new ≡ old ++ more)
AddsFirst old new words (Err cause) = (word : Word) × (others : List Word) × (words ≡ word ∷ others) × IsNoHex cause (length old) word

-- the number that decimal digits encode, 2 to the 64 less 1 at most
abbrev pub decimal_of : Word → Option ℕ
decimal_of word = option_map (λ n. min n (2 ^ 64 - 1)) (number_of 10 word)

-- a number, if it is a device's; none where there is no number or a greater one
abbrev pub in_devices : Option ℕ → Option ℕ
in_devices None = None
in_devices (Some n) = if nat_le n 15 then Some n else None

-- the device that a word names: 0 to 15
abbrev pub device_of_word : Word → Option ℕ
device_of_word word = in_devices (decimal_of word)

-- a digit or a point
abbrev pub is_time_byte : ℕ → Bool
is_time_byte b = (nat_le 48 b && nat_le b 57) || b == 46

-- the byte is neither a digit nor a point
abbrev pub is_no_time_byte : ℕ → Bool
is_no_time_byte b = not (is_time_byte b)

-- a word of digits and points
abbrev pub is_time : Word → Bool
is_time word = list_all is_time_byte word

-- the time that a word encodes, as it is: digits and points, 32 at most
abbrev pub time_of : Word → Option (List ℕ)
time_of word = if is_time word && nat_le (length word) 32 then Some word else None

-- a text begins with a time, before what is left
abbrev pub BeginsWithTime : List ℕ → List ℕ → List ℕ → Type 0
BeginsWithTime text time left =
    (words_of text ≡ time ∷ words_of left) × (after_word text ≡ left) × (time_of time ≡ Some time)

-- a text begins with a word that says a count, before what is left
abbrev pub BeginsWithCount : List ℕ → ℕ → List ℕ → Type 0
BeginsWithCount text count left =
    (word : Word) × (words_of text ≡ word ∷ words_of left) × (after_word text ≡ left) × (decimal_of word ≡ Some count)

-- what parts the numbers of an address
abbrev pub is_colon : ℕ → Bool
is_colon b = b == 58

-- an address of three numbers, if there are all
abbrev pub address_from : Option ℕ → Option ℕ → Option ℕ → Option Address
address_from None device interface = None
address_from (Some bus) None interface = None
address_from (Some bus) (Some device) None = None
address_from (Some bus) (Some device) (Some interface) =
    Some (record { bus = bus; device = device; interface = interface })

-- the interface of a device on a bus that three words name
abbrev pub address_of : Word → Word → Word → Option Address
address_of bus device interface = address_from (decimal_of bus) (decimal_of device) (decimal_of interface)

-- what a dump is of, by its word
abbrev pub content_of : Word → Option Content
content_of word =
    if bytes_eq word (codes "DESCRIPTOR") then Some contents.Descriptor
    else if bytes_eq word (codes "STREAM") then Some contents.Stream else None
