-- A binary report descriptor as a line of a recording (our choice: docs/RECORDINGS.md).
use Rattle.std.specs.Prelude.{ℕ, List, ◌++◌, length, codes}
use Rattle.std.specs.Fmt.{decimal}
use Rattle.hid_notation.specs.Text.{bytes_text}

-- a binary descriptor as a line of a recording. Example: R: 2 05 01
abbrev pub descriptor_line : List ℕ → List ℕ
descriptor_line bytes = codes "R: " ++ decimal (length bytes) ++ bytes_text bytes
