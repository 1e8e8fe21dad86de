-- The picture of a report: a row of eight bits for each byte, bit 7 at the left as in the tables of the standard (HID
-- 1.11, B.1 and 8.3; colors and measures are our choice: docs/PICTURES.md).
use Rattle.std.specs.Prelude.{ℕ, ◌+◌, ◌-◌, ◌*◌, ◌%◌, Bool, nat_lt, if◌then◌else◌, List, [], ◌∷◌, ◌++◌, length, slice_get, Option, None, Some, codes}
use Rattle.std.specs.List.{flat_map}
use Rattle.std.specs.Fmt.{decimal}
use Rattle.hid_report_descriptor.specs.declared.report.Report.{Report}
use Rattle.hid_report_descriptor.specs.declared.shape.Shape.{Shape}
use Rattle.hid_report_descriptor.specs.declared.shape.Shape.TheVariants.{Padding, Variable, Array}
use Rattle.hid_layout.specs.declared.main_item.MainItem.{MainItem}
use Rattle.hid_layout.specs.Layout.{Contents}
use Rattle.hid_layout.specs.Reports.{report_bytes}
use Rattle.hid_notation.specs.Text.{concat_below}
use Rattle.hid_drawing.specs.declared.brackets.Bracket.{Bracket}
use Rattle.hid_drawing.specs.declared.pieces.BitSource.{BitSource}
use Rattle.hid_drawing.specs.declared.pieces.BitSource.TheVariants.{ReportId, Field, FinalPadding}
use Rattle.hid_drawing.specs.declared.pieces.ByteSlice.{ByteSlice}
use Rattle.hid_drawing.specs.declared.areas.Area.{Area}
use Rattle.hid_drawing.specs.declared.svg.TheConstants.{STYLE, OPENING, EDGE}
use Rattle.hid_drawing.specs.declared.areas.TheConstants.{LINE, RIGHT}
use Rattle.hid_drawing.specs.declared.lines.TheConstants.{NAME_COLUMNS}
use Rattle.hid_drawing.specs.Escape.{escaped_words}
use Rattle.hid_drawing.specs.Brackets.{bracket_depth}
use Rattle.hid_drawing.specs.Words.{report_title, count_text, piece_name, part_details, part_flags, place_text}
use Rattle.hid_drawing.specs.Areas.{left_of, cell_height, row_top, piece_area, bracket_area, bit_middle, name_left}
use Rattle.hid_drawing.specs.declared.lines.Medium.TheVariants.{Svg}
use Rattle.hid_drawing.specs.Lines.{line_count, both_counts, columns_of, name_line_of, lines_in_front, rows_of}
use Rattle.hid_drawing.specs.BracketNames.{bracket_name}

-- where an area lies, as attributes
unfoldable pub area_text : Area → List ℕ
area_text b =
    codes " x='" ++ decimal b.x ++ codes "' y='" ++ decimal b.y ++ codes "' width='" ++ decimal b.width
    ++ codes "' height='" ++ decimal b.height ++ codes "'"

-- the color of a listed item: one of six, and another one for padding
abbrev pub color_class : ℕ → Shape → List ℕ
color_class item Padding = codes "p"
color_class item Variable = 107 ∷ decimal (item % 6)
color_class item Array = 107 ∷ decimal (item % 6)

-- the class of a listed item, and the target of its cell's link; no text where there is no item
abbrev pub field_class : ℕ → Option MainItem → List ℕ
field_class item None = []
field_class item (Some main) =
    codes " class='" ++ color_class item main.shape ++ codes " f" ++ decimal item ++ codes "' href='#f" ++ decimal item
    ++ codes "'"

-- the class of a part
unfoldable pub part_class : Contents → BitSource → List ℕ
part_class layout ReportId = codes " class='i'"
part_class layout FinalPadding = codes " class='p'"
part_class layout (Field item element) = field_class item (slice_get layout.items item)

-- what is said of a part after its place: the filler has nothing, and only fields have flags
unfoldable pub part_description : Contents → ℕ → BitSource → List ℕ
part_description layout r ReportId = codes "; " ++ part_details layout r ReportId
part_description layout r FinalPadding = []
part_description layout r (Field i j) =
    codes "; " ++ part_details layout r (Field i j) ++ codes "; " ++ part_flags layout (Field i j)

-- what a cell is read as: its name, its place, what is said of it and its flags
unfoldable pub cell_title : Contents → ℕ → ByteSlice → List ℕ
cell_title layout r piece =
    codes "<title>" ++ escaped_words (piece_name layout piece) ++ codes ": " ++ place_text piece
    ++ part_description layout r piece.part ++ codes "</title>"

-- the class of a line: a name, or what is said of it
abbrev pub line_class : ℕ → ℕ → List ℕ
line_class count k = if nat_lt k count then codes "n" else codes "d"

-- the opening tag of a line of a cell: its class and its place
unfoldable pub line_head : ℕ → ℕ → ℕ → List ℕ
line_head count k y =
    codes "<text class='" ++ line_class count k ++ codes "' x='6' y='" ++ decimal y ++ codes "'>"

-- a line of two texts, one below the other
unfoldable pub text_line : List ℕ → List ℕ → ℕ → ℕ → List ℕ
text_line name details columns k =
    line_head (line_count name columns) k (15 + LINE * k)
    ++ escaped_words (name_line_of name details columns k)
    ++ codes "</text>"

-- the lines of two texts
unfoldable pub text_lines : List ℕ → List ℕ → ℕ → List ℕ
text_lines name details columns =
    concat_below (both_counts name details columns) (text_line name details columns)

-- what a cell shows: its name, and what is said of it
unfoldable pub cell_words : Contents → ℕ → ByteSlice → List ℕ
cell_words layout r piece =
    text_lines (piece_name layout piece) (part_details layout r piece.part) (columns_of Svg piece)

-- the edge of a cell
unfoldable pub edge_text : ℕ → List ℕ
edge_text height = EDGE.now ++ decimal (height - 2) ++ codes "' rx='3'/>"

-- a cell begins with its class, and with the area in which it lies
unfoldable pub cell_head : Contents → ℕ → List ℕ → ByteSlice → List ℕ
cell_head layout depth rows piece =
    codes "<a" ++ part_class layout piece.part ++ codes "><svg" ++ area_text (piece_area depth rows piece)
    ++ edge_text (cell_height rows piece.byte)

-- a cell stands where its piece says
unfoldable pub cell_text : Contents → ℕ → ℕ → List ℕ → ByteSlice → List ℕ
cell_text layout r depth rows piece =
    cell_head layout depth rows piece ++ cell_title layout r piece ++ cell_words layout r piece
    ++ codes "</svg></a>" ++ 10 ∷ []

-- what a bracket is read as
unfoldable pub bracket_title : Contents → Bracket → List ℕ
bracket_title layout bracket =
    codes "<g><title>" ++ escaped_words (bracket_name layout bracket) ++ codes ": bytes " ++ decimal bracket.first
    ++ codes " to "
    ++ decimal bracket.last ++ codes "</title>"

-- the opening tag of a name beside a bracket: its place
unfoldable pub label_head : ℕ → ℕ → List ℕ
label_head x y = codes "<text class='o' x='" ++ decimal x ++ codes "' y='" ++ decimal y ++ codes "'>"

-- a line of the name beside a bracket
unfoldable pub label_line : ℕ → ℕ → List ℕ → ℕ → List ℕ
label_line depth top name k =
    label_head (name_left depth) (top + LINE * k) ++ escaped_words (name_line_of name [] NAME_COLUMNS k)
    ++ codes "</text>"

-- the lines of the name beside a bracket
unfoldable pub label_lines : ℕ → ℕ → List ℕ → List ℕ
label_lines depth top name =
    concat_below (line_count name NAME_COLUMNS) (label_line depth top name) ++ codes "</g>" ++ 10 ∷ []

-- the name beside a bracket stands at its first byte, below n other lines
unfoldable pub bracket_label : Contents → ℕ → List ℕ → ℕ → Bracket → List ℕ
bracket_label layout depth rows front bracket =
    label_lines depth (row_top depth rows bracket.first + 11 + LINE * front) (bracket_name layout bracket)

-- the bracket of a collection, with its name beside it
unfoldable pub bracket_text : Contents → ℕ → List ℕ → ℕ → Bracket → List ℕ
bracket_text layout depth rows front bracket =
    bracket_title layout bracket ++ codes "<rect class='o' rx='4'" ++ area_text (bracket_area depth rows bracket) ++ codes "/>"
    ++ bracket_label layout depth rows front bracket

-- A bracket, with its name below those of the brackets in front of it that begin in its first byte; no text for no bracket.
unfoldable pub bracket_backdrop : Contents → ℕ → List ℕ → List Bracket → ℕ → Option Bracket → List ℕ
bracket_backdrop layout depth rows brackets k None = []
bracket_backdrop layout depth rows brackets k (Some bracket) =
    bracket_text layout depth rows (lines_in_front layout brackets bracket.first k) bracket

-- the number above a bit
unfoldable pub bit_number : ℕ → ℕ → List ℕ
bit_number left k =
    codes "<text class='r' text-anchor='middle' x='" ++ decimal (bit_middle left k) ++ codes "' y='14'>" ++ decimal k
    ++ codes "</text>"

-- the number beside a byte
unfoldable pub byte_number : ℕ → List ℕ → ℕ → List ℕ
byte_number depth rows b =
    codes "<text class='r' x='0' y='" ++ decimal (row_top depth rows b + 22) ++ codes "'>byte " ++ decimal b
    ++ codes "</text>"

-- the numbers above the bits
unfoldable pub bit_ruler : ℕ → List ℕ
bit_ruler left = concat_below 8 (bit_number left)

-- the numbers beside the bytes
unfoldable pub byte_ruler : ℕ → List ℕ → ℕ → List ℕ
byte_ruler depth rows bytes = concat_below bytes (byte_number depth rows)

-- the rulers of a report
unfoldable pub rulers : ℕ → List ℕ → ℕ → List ℕ
rulers depth rows bytes = bit_ruler (left_of depth) ++ byte_ruler depth rows bytes ++ 10 ∷ []

-- the measures of a picture
unfoldable pub measures : ℕ → ℕ → List ℕ
measures width height = codes " viewBox='0 0 " ++ decimal width ++ 32 ∷ decimal height ++ codes "'>"

-- a picture of this width and height
unfoldable pub opening : ℕ → ℕ → List ℕ
opening width height = OPENING.now ++ measures width height

-- what a picture is
unfoldable pub description : Bool → ℕ → Report → List ℕ
description numbered bytes report =
    codes "<title>" ++ report_title numbered report ++ codes "</title><desc>"
    ++ count_text bytes (codes "byte")
    ++ codes ", a row each, bit 7 at the left; each cell is a field.</desc>"

-- what a picture begins with
unfoldable pub picture_head : Bool → ℕ → List ℕ → ℕ → Report → List ℕ
picture_head numbered depth rows bytes report =
    opening (name_left depth + RIGHT) (row_top depth rows bytes) ++ description numbered bytes report
    ++ codes "<style>" ++ STYLE.now ++ codes "</style>" ++ 10 ∷ []

-- the brackets of a report
unfoldable pub brackets_text : Contents → ℕ → List ℕ → List Bracket → List ℕ
brackets_text layout depth rows brackets =
    concat_below (length brackets) (λ k. bracket_backdrop layout depth rows brackets k (slice_get brackets k))

-- the cells of a report
unfoldable pub cells_text : Contents → ℕ → ℕ → List ℕ → List ByteSlice → List ℕ
cells_text layout r depth rows pieces = flat_map (λ piece. cell_text layout r depth rows piece) pieces

-- the picture of a report of n bytes, by its brackets, its pieces and the lines of its rows
unfoldable pub picture_by : Contents → ℕ → ℕ → List Bracket → List ByteSlice → Report → ℕ → List ℕ → List ℕ
picture_by layout r bytes brackets pieces report depth rows =
    picture_head layout.numbered depth rows bytes report ++ codes "<g id='g" ++ decimal r ++ codes "'>"
    ++ rulers depth rows bytes ++ brackets_text layout depth rows brackets ++ cells_text layout r depth rows pieces
    ++ codes "</g></svg>" ++ 10 ∷ []

-- the picture of a report of n bytes, by its brackets and its pieces
unfoldable pub picture_of : Contents → ℕ → ℕ → List Bracket → List ByteSlice → Report → List ℕ
picture_of layout r bytes brackets pieces report =
    picture_by layout r bytes brackets pieces report (bracket_depth brackets) (rows_of layout r bytes brackets pieces)

-- the picture of the report at a place, or nothing if there is none
abbrev pub picture_at : Contents → ℕ → List Bracket → List ByteSlice → Option Report → List ℕ
picture_at layout r brackets pieces None = []
picture_at layout r brackets pieces (Some report) = picture_of layout r (report_bytes layout r) brackets pieces report
