-- Words in lines of n columns, and how high they make a row (our choice: docs/PICTURES.md).
use Rattle.std.specs.Prelude.{ℕ, zero, suc, ◌+◌, ◌-◌, ◌*◌, ◌^◌, min, max, ◌==◌, nat_lt, List, [], ◌∷◌, length, slice_get, unwrap_or, take, drop, if◌then◌else◌, Option, None, Some}
use Rattle.hid_layout.specs.Layout.{Contents}
use Rattle.hid_notation.specs.Text.{concat_below}
use Rattle.hid_drawing.specs.declared.brackets.Bracket.{Bracket}
use Rattle.hid_drawing.specs.declared.pieces.ByteSlice.{ByteSlice}
use Rattle.hid_drawing.specs.Words.{piece_name, part_details}
use Rattle.hid_drawing.specs.declared.lines.TheConstants.{NAME_COLUMNS, MIN_LINES}
use Rattle.hid_drawing.specs.declared.lines.Medium.{Medium}
use Rattle.hid_drawing.specs.declared.lines.Medium.TheVariants.{Svg, Characters}
use Rattle.hid_drawing.specs.BracketNames.{bracket_name}

-- the byte at a place, and a space after the end
abbrev pub byte_at : List ℕ → ℕ → ℕ
byte_at words k = unwrap_or (slice_get words k) 32

-- the last place from 1 on, of the columns and the one after them, that has a space; 0 where none has one
abbrev pub last_space : List ℕ → ℕ → ℕ
last_space words zero = 0
last_space words (suc n) = if byte_at words (suc n) == 32 then suc n else last_space words n

-- a line ends at the last space that has room, and where there is none it is full
abbrev pub first_width : List ℕ → ℕ → ℕ
first_width words columns =
    min (if last_space words columns == 0 then columns else last_space words columns) (length words)

-- words without the space in front of them: the space at which a line was broken is in neither line
abbrev pub without_space : List ℕ → List ℕ
without_space [] = []
without_space (byte ∷ rest) = if byte == 32 then rest else byte ∷ rest

-- what follows the first line of words
abbrev pub after_line : List ℕ → ℕ → List ℕ
after_line words columns = without_space (drop (first_width words columns) words)

-- what follows the first n lines of words
abbrev pub after_lines : List ℕ → ℕ → ℕ → List ℕ
after_lines words columns zero = words
after_lines words columns (suc k) = after_line (after_lines words columns k) columns

-- the line after k others
abbrev pub line_at : List ℕ → ℕ → ℕ → List ℕ
line_at words columns k =
    take (first_width (after_lines words columns k) columns) (after_lines words columns k)

-- how many of the first n lines have words
abbrev pub lines_below : List ℕ → ℕ → ℕ → ℕ
lines_below words columns zero = 0
lines_below words columns (suc n) =
    min (lines_below words columns n + (if length (after_lines words columns n) == 0 then 0 else 1))
    (2 ^ 16 - 1)

-- how many lines words take: each has a byte at least
abbrev pub line_count : List ℕ → ℕ → ℕ
line_count words columns = lines_below words columns (length words)

-- how many columns a cell has: so many for each bit in characters, with its side, and fourteen narrow ones in a drawing
abbrev pub columns_of : Medium → ByteSlice → ℕ
columns_of Svg piece = 14 * (piece.high - piece.low) - 2
columns_of (Characters columns) piece = columns * (piece.high - piece.low) - 1

-- how many lines two texts take, one below the other
abbrev pub both_counts : List ℕ → List ℕ → ℕ → ℕ
both_counts name details columns = min (line_count name columns + line_count details columns) (2 ^ 16 - 1)

-- how many lines a cell has: its name, and what is said of it
abbrev pub piece_lines : Contents → ℕ → Medium → ByteSlice → ℕ
piece_lines layout r medium piece =
    both_counts (piece_name layout piece) (part_details layout r piece.part) (columns_of medium piece)

-- how many lines a piece has in a byte: none where it lies in another one
abbrev pub byte_lines : Contents → ℕ → Medium → ℕ → ByteSlice → ℕ
byte_lines layout r medium byte piece = if piece.byte == byte then piece_lines layout r medium piece else 0

-- the most of some lines and of those of the pieces
abbrev pub most_lines : Contents → ℕ → Medium → ℕ → ℕ → List ByteSlice → ℕ
most_lines layout r medium byte lines [] = lines
most_lines layout r medium byte lines (piece ∷ pieces) =
    most_lines layout r medium byte (max lines (byte_lines layout r medium byte piece)) pieces

-- how many lines a row has: those of its cells, and no less than two
abbrev pub row_lines : Contents → ℕ → Medium → ℕ → List ByteSlice → ℕ
row_lines layout r medium byte pieces = most_lines layout r medium byte MIN_LINES pieces

-- a line of a cell: of its name, and below that of what is said of it. A line ends at the last space that has room, or
-- when it is full. Example: Keyboard LeftControl in nine columns has three lines
abbrev pub name_line_of : List ℕ → List ℕ → ℕ → ℕ → List ℕ
name_line_of name details columns k =
    if nat_lt k (line_count name columns) then line_at name columns k
    else line_at details columns (k - line_count name columns)

-- how many lines the name of a bracket has, where it begins in the byte
abbrev pub name_lines : Contents → ℕ → Option Bracket → ℕ
name_lines layout byte None = 0
name_lines layout byte (Some bracket) =
    if bracket.first == byte then line_count (bracket_name layout bracket) NAME_COLUMNS else 0

-- how many lines the names of the first k brackets have beside the byte
abbrev pub lines_in_front : Contents → List Bracket → ℕ → ℕ → ℕ
lines_in_front layout brackets byte zero = 0
lines_in_front layout brackets byte (suc k) =
    min (lines_in_front layout brackets byte k + name_lines layout byte (slice_get brackets k)) (2 ^ 16 - 1)

-- how many lines a row of a drawing has, for its cells and for the names of the brackets beside it
abbrev pub drawn_lines : Contents → ℕ → List Bracket → List ByteSlice → ℕ → ℕ
drawn_lines layout r brackets pieces byte =
    max (row_lines layout r Svg byte pieces) (lines_in_front layout brackets byte (length brackets))

-- the numbers of lines of the rows of a drawing
abbrev pub rows_of : Contents → ℕ → ℕ → List Bracket → List ByteSlice → List ℕ
rows_of layout r bytes brackets pieces =
    concat_below bytes (λ byte. drawn_lines layout r brackets pieces byte ∷ [])
