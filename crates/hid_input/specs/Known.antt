-- Files that are known by their first bytes, and are no report descriptors (our choice: docs/INPUT-FORMS.md).
use Rattle.std.specs.Prelude.{ℕ, ◌==◌, Bool, ◌&&◌, ◌||◌, nat_le, List, [], ◌∷◌, length, slice_index, take, drop, if◌then◌else◌, Option, None, Some, codes, nat_eq}
use Rattle.std.specs.List.{starts_with, list_all}
use Rattle.std.specs.Char.{is_ascii_whitespace}
use Rattle.hid_input.specs.declared.known.KnownFile.{KnownFile}
use Rattle.hid_input.specs.declared.known.KnownFile.TheVariants.{Capture, UsbDescriptors}

-- bytes begin with these
abbrev pub begins : List ℕ → List ℕ → Bool
begins part bytes = starts_with nat_eq bytes part

-- what a file is by its first bytes: a capture of pcap, in either order of bytes and either unit of time, or of pcapng; a device
-- descriptor of 18 bytes, or a configuration of 9 bytes with an interface of 9 after it (USB 2.0, 9.6.1, 9.6.3 and 9.6.5)
abbrev pub known_file : List ℕ → Option KnownFile
known_file bytes =
    if begins (0xD4 ∷ 0xC3 ∷ 0xB2 ∷ 0xA1 ∷ []) bytes
    || (begins (0xA1 ∷ 0xB2 ∷ 0xC3 ∷ 0xD4 ∷ []) bytes
    || (begins (0x4D ∷ 0x3C ∷ 0xB2 ∷ 0xA1 ∷ []) bytes
    || (begins (0xA1 ∷ 0xB2 ∷ 0x3C ∷ 0x4D ∷ []) bytes || begins (0x0A ∷ 0x0D ∷ 0x0D ∷ 0x0A ∷ []) bytes))) then Some Capture
    else (if (begins (0x12 ∷ 0x01 ∷ []) bytes && nat_le 18 (length bytes))
    || (begins (0x09 ∷ 0x02 ∷ []) bytes && (nat_le 18 (length bytes) && begins (0x09 ∷ 0x04 ∷ []) (drop 9 bytes))) then Some UsbDescriptors else None)

-- a character of ASCII that is printed
abbrev pub is_printed : ℕ → Bool
is_printed byte = nat_le 32 byte && nat_le byte 126

-- a byte of text with control characters: a character, white space, a zero as UTF-16 has it, or ESC
abbrev pub is_written : ℕ → Bool
is_written byte = is_printed byte || (is_ascii_whitespace byte || ((byte == 0) || (byte == 27)))

-- bytes begin as text does: the first eight are characters, white space, zeros or ESC, and one of the first two is printed
abbrev pub begins_text : List ℕ → Bool
begins_text bytes =
    nat_le 8 (length bytes)
    && ((is_printed (slice_index bytes 0) || is_printed (slice_index bytes 1)) && list_all is_written (take 8 bytes))

-- what it is, and what can be done, in words
abbrev pub known_text : KnownFile → List ℕ
known_text Capture = codes "a capture of a bus: hidplay reads it"
known_text UsbDescriptors = codes "USB descriptors: /sys/class/hidraw has report descriptors"
