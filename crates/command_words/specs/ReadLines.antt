-- Which lines of a file were read as its descriptor (our choice: docs/INPUT-FORMS.md).
use Rattle.std.specs.Prelude.{ℕ, ◌==◌, List, [], ◌++◌, codes, if◌then◌else◌}
use Rattle.std.specs.Fmt.{decimal}
use Rattle.command_words.specs.declared.read_lines.ReadLines.{ReadLines}

-- the ending of a word for more than one thing
abbrev pub plural : ℕ → List ℕ
plural count = if count == 1 then [] else codes "s"

-- the lines, which may be one. Example: line 3, and lines 3 to 7
abbrev pub lines_text : ℕ → ℕ → List ℕ
lines_text first last =
    if first == last then codes "line " ++ decimal first
    else codes "lines " ++ (decimal first ++ (codes " to " ++ decimal last))

-- how many bytes were read, and from where. Example: 50 bytes from lines 3 to 7
abbrev pub read_text : ReadLines → List ℕ
read_text read = decimal read.count ++ (codes " byte" ++ (plural read.count ++ (codes " from " ++ lines_text read.first read.last)))
