-- The picture of a report in characters: a row for each byte, and some columns for each bit (our choice: docs/PICTURES.md).
use Rattle.std.specs.Prelude.{ℕ, ◌+◌, ◌-◌, ◌/◌, min, max, Bool, ◌==◌, ◌&&◌, ◌||◌, nat_le, nat_lt, List, [], ◌∷◌, ◌++◌, length, slice_get, if◌then◌else◌, Option, None, Some, codes}
use Rattle.std.specs.List.{flat_map, list_any}
use Rattle.std.specs.Fmt.{decimal}
use Rattle.hid_report_descriptor.specs.Usages.{Entry}
use Rattle.hid_report_descriptor.specs.declared.report.Report.{Report}
use Rattle.hid_layout.specs.declared.main_item.MainItem.{MainItem}
use Rattle.hid_layout.specs.Layout.{Contents}
use Rattle.hid_layout.specs.Reports.{first_bit, report_bytes}
use Rattle.hid_notation.specs.Text.{concat_below}
use Rattle.hid_drawing.specs.declared.brackets.Bracket.{Bracket}
use Rattle.hid_drawing.specs.declared.pieces.ByteSlice.{ByteSlice}
use Rattle.hid_drawing.specs.declared.glyphs.TheConstants as glyphs
use Rattle.hid_drawing.specs.declared.terminal.TheConstants.{MAX_DRAWN, LEAST_COLUMNS, MOST_COLUMNS, NO_PICTURE}
use Rattle.hid_drawing.specs.Escape.{printable_byte}
use Rattle.hid_drawing.specs.Brackets.{bracket_depth}
use Rattle.hid_drawing.specs.declared.lines.Medium.TheVariants.{Characters}
use Rattle.hid_drawing.specs.Lines.{byte_at, columns_of, name_line_of, row_lines}
use Rattle.hid_drawing.specs.BracketNames.{bracket_name}
use Rattle.hid_drawing.specs.Words.{report_title, count_text, piece_name, part_details, entry_text, bit_text, flags_text, is_input_item}

-- words in this many columns: what has room, and spaces
unfoldable pub padded_words : List ℕ → ℕ → List ℕ
padded_words words columns = concat_below columns (λ k. printable_byte (byte_at words k) ∷ [])

-- whether a cell of a byte begins or ends in front of a bit
abbrev pub is_edge : List ByteSlice → ℕ → ℕ → Bool
is_edge pieces byte k = list_any (λ piece. (piece.byte == byte) && ((piece.low == k) || (piece.high == k))) pieces

-- whether a cell of the byte before begins or ends in front of a bit
abbrev pub is_edge_above : List ByteSlice → ℕ → ℕ → Bool
is_edge_above pieces byte k = nat_lt 0 byte && is_edge pieces (byte - 1) k

-- the character at an end of the line above a byte
abbrev pub end_corner : Bool → Bool → List ℕ → List ℕ → List ℕ → List ℕ
end_corner above below both first last = if above && below then both else if below then first else last

-- the character in front of a bit on the line above a byte
abbrev pub corner : ℕ → Bool → Bool → List ℕ
corner k above below =
    if k == 8 then end_corner above below glyphs.LEFT_BOTH.now glyphs.LEFT_FIRST.now glyphs.LEFT_LAST.now
    else if k == 0 then end_corner above below glyphs.RIGHT_BOTH.now glyphs.RIGHT_FIRST.now glyphs.RIGHT_LAST.now
    else if above then (if below then glyphs.CROSS.now else glyphs.UPWARD.now)
    else (if below then glyphs.DOWNWARD.now else glyphs.FLAT.now)

-- the corner in front of a bit
unfoldable pub corner_at : List ByteSlice → ℕ → ℕ → List ℕ
corner_at pieces byte k = corner k (is_edge_above pieces byte k) (is_edge pieces byte k)

-- how many columns a bit has: as many as eight bits, the number in front of them, their last side and the brackets have room
-- for, but six at least and ten at most
abbrev pub bit_columns : ℕ → ℕ → ℕ
bit_columns width depth = min (max (((width - 4) - depth) / 8) LEAST_COLUMNS) MOST_COLUMNS

-- what stands after a corner, as wide as a bit with it
unfoldable pub bit_line : ℕ → List ℕ
bit_line columns = concat_below (columns - 1) (λ i. glyphs.FLAT.now)

-- the line above a byte, bit 7 first
unfoldable pub edge_line : ℕ → List ByteSlice → ℕ → List ℕ
edge_line columns pieces byte =
    concat_below 8 (λ i. corner_at pieces byte (8 - i) ++ bit_line columns) ++ corner_at pieces byte 0

-- whether a bracket of a level holds a byte
abbrev pub is_held : List Bracket → ℕ → ℕ → Bool
is_held brackets level byte =
    list_any (λ bracket. (bracket.level == level) && (nat_le bracket.first byte && nat_le byte bracket.last)) brackets

-- one bracket of a level holds both a byte and the one in front of it
abbrev pub is_held_on : List Bracket → ℕ → ℕ → Bool
is_held_on brackets level byte =
    list_any (λ bracket. (bracket.level == level) && (nat_lt bracket.first byte && nat_le byte bracket.last)) brackets

-- the character of a bracket on the line above a byte: it goes on, or one ends, or one begins
abbrev pub bracket_corner : Bool → Bool → Bool → List ℕ
bracket_corner on above below =
    if on then glyphs.SIDE.now
    else if above then (if below then glyphs.RIGHT_BOTH.now else glyphs.BRACKET_LAST.now)
    else (if below then glyphs.BRACKET_FIRST.now else glyphs.BLANK.now)

-- the bracket of a level on the line above a byte
unfoldable pub bracket_corner_at : List Bracket → ℕ → ℕ → List ℕ
bracket_corner_at brackets level byte =
    bracket_corner (is_held_on brackets level byte) (nat_lt 0 byte && is_held brackets level (byte - 1))
    (is_held brackets level byte)

-- the brackets on the line above a byte, the innermost first
unfoldable pub bracket_corners : List Bracket → ℕ → ℕ → List ℕ
bracket_corners brackets depth byte = concat_below depth (λ i. bracket_corner_at brackets (depth - i) byte)

-- the bracket of a level beside a byte
abbrev pub side_at : List Bracket → ℕ → ℕ → List ℕ
side_at brackets level byte = if is_held brackets level byte then glyphs.SIDE.now else glyphs.BLANK.now

-- the brackets beside a byte, the innermost first
unfoldable pub sides : List Bracket → ℕ → ℕ → List ℕ
sides brackets depth byte = concat_below depth (λ i. side_at brackets (depth - i) byte)

-- a line of a cell: its name, and below it what is said of it
unfoldable pub cell_line : ℕ → Contents → ℕ → ℕ → ByteSlice → List ℕ
cell_line columns layout r k piece =
    glyphs.SIDE.now
    ++ padded_words
    (name_line_of (piece_name layout piece) (part_details layout r piece.part) (columns_of (Characters columns) piece) k)
    (columns_of (Characters columns) piece)

-- a line of a piece that lies in the byte; no text for another piece or none
abbrev pub byte_cell : ℕ → Contents → ℕ → ℕ → ℕ → Option ByteSlice → List ℕ
byte_cell columns layout r k byte None = []
byte_cell columns layout r k byte (Some piece) = if piece.byte == byte then cell_line columns layout r k piece else []

-- a line of the cells of a byte, the last one first
unfoldable pub cells_line : ℕ → Contents → ℕ → ℕ → ℕ → List ByteSlice → List ℕ
cells_line columns layout r k byte pieces =
    concat_below (length pieces) (λ i. byte_cell columns layout r k byte (slice_get pieces ((length pieces - 1) - i)))

-- the line above a row
unfoldable pub line_above : ℕ → ℕ → List Bracket → List ByteSlice → List ℕ
line_above columns byte brackets pieces =
    codes "   " ++ edge_line columns pieces byte ++ bracket_corners brackets (bracket_depth brackets) byte ++ 10 ∷ []

-- the number of a byte, at the right of two columns
abbrev pub two_columns : ℕ → List ℕ
two_columns byte = (if nat_lt byte 10 then codes " " else []) ++ decimal byte

-- the number of a byte, of n, in three columns: a space stands after it where none of them has three digits
unfoldable pub row_number : ℕ → ℕ → List ℕ
row_number bytes byte =
    if nat_le bytes 100 then two_columns byte ++ codes " "
    else if nat_lt byte 100 then 32 ∷ two_columns byte
    else decimal byte

-- what stands in front of a line of a row: the number of the byte in front of the first
abbrev pub line_number : ℕ → ℕ → ℕ → List ℕ
line_number bytes byte k = if k == 0 then row_number bytes byte else codes "   "

-- a line of a row
unfoldable pub row_line : ℕ → Contents → ℕ → ℕ → ℕ → List Bracket → List ByteSlice → ℕ → List ℕ
row_line columns layout r bytes byte brackets pieces k =
    line_number bytes byte k ++ cells_line columns layout r k byte pieces ++ glyphs.SIDE.now
    ++ sides brackets (bracket_depth brackets) byte ++ 10 ∷ []

-- a row: the line above it, and the lines of its cells
unfoldable pub row_text : ℕ → Contents → ℕ → ℕ → List Bracket → List ByteSlice → ℕ → List ℕ
row_text columns layout r bytes brackets pieces byte =
    line_above columns byte brackets pieces
    ++ concat_below (row_lines layout r (Characters columns) byte pieces) (row_line columns layout r bytes byte brackets pieces)

-- the name of a bracket and its bytes
unfoldable pub bracket_words : Contents → Bracket → List ℕ
bracket_words layout bracket =
    bracket_name layout bracket ++ codes ": bytes " ++ decimal bracket.first ++ codes " to " ++ decimal bracket.last

-- a bracket by its name and its bytes, indented by its level as far as the width has room for it
unfoldable pub bracket_line : ℕ → Contents → Bracket → List ℕ
bracket_line width layout bracket =
    concat_below (min (bracket.level - 1) ((width - length (bracket_words layout bracket)) / 2)) (λ i. codes "  ")
    ++ bracket_words layout bracket ++ 10 ∷ []

-- the usages of a field, a line each
unfoldable pub usage_lines : List Entry → List ℕ
usage_lines entries = flat_map (λ entry. codes "  " ++ entry_text entry ++ 10 ∷ []) entries

-- an item of the report: its number, where it begins, its flags and its usages
unfoldable pub item_lines : Contents → ℕ → MainItem → List Entry → List ℕ
item_lines layout i item entries =
    codes "field " ++ decimal i ++ codes ": " ++ bit_text (first_bit layout + item.offset) ++ 10 ∷ 32 ∷ 32 ∷
    flags_text (is_input_item layout item) item.flags.0 ++ 10 ∷ usage_lines entries

-- the lines of an item that stands in the report; no text for another item or none
abbrev pub field_lines : Contents → ℕ → ℕ → Option MainItem → Option (List Entry) → List ℕ
field_lines layout r i (Some item) (Some entries) = if item.report == r then item_lines layout i item entries else []
field_lines layout r i _ _ = []

-- the fields of a report
unfoldable pub fields_text : Contents → ℕ → List ℕ
fields_text layout r =
    concat_below (length layout.items)
    (λ i. field_lines layout r i (slice_get layout.items i) (slice_get layout.entries i))

-- what the picture of a report begins with
unfoldable pub terminal_head : Bool → ℕ → Report → List ℕ
terminal_head numbered bytes report =
    report_title numbered report ++ 58 ∷ 32 ∷ count_text bytes (codes "byte") ++ 10 ∷ []

-- the rows of a report
unfoldable pub rows_text : ℕ → Contents → ℕ → ℕ → List Bracket → List ByteSlice → List ℕ
rows_text columns layout r bytes brackets pieces =
    concat_below bytes (row_text columns layout r bytes brackets pieces) ++ line_above columns bytes brackets pieces

-- the numbers of the bits, each where its bit begins, after a word in front of the first
unfoldable pub bit_ruler : ℕ → List ℕ
bit_ruler columns =
    codes "    " ++ padded_words (codes "bit 7") columns
    ++ concat_below 6 (λ i. padded_words ((54 - i) ∷ []) columns) ++ codes "0\n"

-- the numbers of the bits, and the rows of a report
unfoldable pub numbered_rows : ℕ → Contents → ℕ → ℕ → List Bracket → List ByteSlice → List ℕ
numbered_rows columns layout r bytes brackets pieces =
    bit_ruler columns ++ rows_text columns layout r bytes brackets pieces

-- the rows of a report of at most 1,000 bytes; a longer one isn't drawn
abbrev pub drawn_text : ℕ → Contents → ℕ → ℕ → List Bracket → List ByteSlice → List ℕ
drawn_text columns layout r bytes brackets pieces =
    if nat_lt MAX_DRAWN bytes then NO_PICTURE.now
    else numbered_rows columns layout r bytes brackets pieces

-- the brackets of a report
unfoldable pub bracket_lines : ℕ → Contents → List Bracket → List ℕ
bracket_lines width layout brackets = flat_map (λ bracket. bracket_line width layout bracket) brackets

-- the picture of a report of n bytes
unfoldable pub terminal_of : ℕ → Contents → ℕ → ℕ → List Bracket → List ByteSlice → Report → List ℕ
terminal_of width layout r bytes brackets pieces report =
    terminal_head layout.numbered bytes report ++ drawn_text (bit_columns width (bracket_depth brackets)) layout r bytes brackets pieces
    ++ bracket_lines width layout brackets ++ fields_text layout r

-- the picture in characters of the report at a place, or nothing if there is none
abbrev pub terminal_at : ℕ → Contents → ℕ → List Bracket → List ByteSlice → Option Report → List ℕ
terminal_at width layout r brackets pieces None = []
terminal_at width layout r brackets pieces (Some report) =
    terminal_of width layout r (report_bytes layout r) brackets pieces report
