-- The page of a descriptor: the picture of each report, its fields as a table, and the items with their places (our
-- choice: docs/PICTURES.md).
use Rattle.std.specs.Prelude.{ℕ, ◌+◌, Bool, not, ◌==◌, ◌&&◌, nat_le, List, [], ◌∷◌, ◌++◌, length, slice_get, take, if◌then◌else◌, Option, None, Some, codes, pos, int_lt}
use Rattle.std.specs.List.{flat_map}
use Rattle.std.specs.Fmt.{decimal, signed_decimal}
use Rattle.hid_report_descriptor.specs.Usages.{Entry}
use Rattle.hid_report_descriptor.specs.declared.collection.Collection.{Collection}
use Rattle.hid_report_descriptor.specs.declared.report.Report.{Report}
use Rattle.hid_report_descriptor.specs.declared.shape.Shape.{Shape}
use Rattle.hid_report_descriptor.specs.declared.shape.Shape.TheVariants.{Padding, Variable, Array}
use Rattle.hid_items.specs.declared.encoding.Item.{Item}
use Rattle.hid_layout.specs.Layout.{Contents}
use Rattle.hid_layout.specs.Reports.{first_bit, report_bytes}
use Rattle.hid_layout.specs.declared.main_item.MainItem.{MainItem}
use Rattle.hid_notation.specs.Text.{concat_below}
use Rattle.hid_drawing.specs.declared.terminal.TheConstants.{MAX_DRAWN}
use Rattle.hid_page.specs.declared.item_table.TheConstants.{TABLE_END}
use Rattle.hid_page.specs.declared.page.TheConstants.{HEAD, ACCEPTED, REFUSED, END, NO_PICTURE}
use Rattle.hid_page.specs.declared.field_table.TheConstants.{FIELDS_HEAD, NEXT, MARK}
use Rattle.hid_drawing.specs.Escape.{escaped_words}
use Rattle.hid_drawing.specs.Brackets.{brackets_of, main_at}
use Rattle.hid_drawing.specs.Items.{item_place}
use Rattle.hid_page.specs.ItemTable.{item_table}
use Rattle.hid_page.specs.Windows.{windows}
use Rattle.hid_page.specs.ItemNumbers.{item_number_at, signed_number_at, exponent_at}
use Rattle.hid_page.specs.declared.units.TheConstants.{UNIT}
use Rattle.hid_page.specs.Units.{unit_words}
use Rattle.hid_drawing.specs.Origins.{is_origin, listed_places, global_place}
use Rattle.hid_drawing.specs.Pieces.{pieces_of}
use Rattle.hid_drawing.specs.Svg.{picture_at}
use Rattle.hid_drawing.specs.Terminal.{terminal_at}
use Rattle.hid_drawing.specs.Words.{count_text, bit_text, flags_text, is_input_item, collection_words, entry_text, padding_name, report_title}

-- which rows a field points at: its own, when it is pointed at or chosen
unfoldable pub mark_head : ℕ → List ℕ
mark_head i =
    codes "body:has(.f" ++ decimal i ++ codes ":hover,.f" ++ decimal i ++ codes ":focus,#f" ++ decimal i
    ++ codes ":target) :is(#f" ++ decimal i

-- the row of an item that made fields of a main item
abbrev pub mark_at : List Item → ℕ → ℕ → List ℕ
mark_at items m k =
    if is_origin items m k then codes ",#at" ++ decimal (item_place (slice_get items k)) else []

-- the rows of the items that made fields of a main item
unfoldable pub marks_of : List Item → ℕ → List ℕ
marks_of items m = concat_below (length items) (mark_at items m)

-- a field marks the rows of the items that made it
unfoldable pub mark_rule : List Item → List ℕ → ℕ → List ℕ
mark_rule items mains i = mark_head i ++ marks_of items (main_at mains i) ++ MARK.now

-- what each field marks
unfoldable pub mark_rules : List Item → List ℕ → List ℕ
mark_rules items mains = concat_below (length mains) (mark_rule items mains)

-- the number of a field, to which its cells lead
unfoldable pub number_cell : ℕ → List ℕ
number_cell i =
    codes "<tr id='f" ++ decimal i ++ codes "' class='f" ++ decimal i ++ codes "'><th scope='row'>" ++ decimal i
    ++ codes "</th><td>"

-- how many elements of how many bits
unfoldable pub size_cell : MainItem → List ℕ
size_cell item = decimal item.count ++ codes " &times; " ++ count_text item.size (codes "bit")

-- the usages of a field
unfoldable pub usages_cell : List Entry → List ℕ
usages_cell entries = flat_map (λ entry. escaped_words (entry_text entry) ++ codes "<br>") entries

-- the usages of a field, or what padding is called
abbrev pub meaning_cell : MainItem → Shape → List Entry → List ℕ
meaning_cell item Padding entries = padding_name item
meaning_cell item Variable entries = usages_cell entries
meaning_cell item Array entries = usages_cell entries

-- a range, and whether its numbers have a sign
unfoldable pub limits_text : MainItem → List ℕ
limits_text item =
    signed_decimal item.min ++ codes " to " ++ signed_decimal item.max
    ++ (if int_lt item.min (pos 0) then codes ", signed" else codes ", unsigned")

-- the exponent of a unit, where it isn't 0
abbrev pub times_text : List Item → Option ℕ → List ℕ
times_text items place =
    if item_number_at items place == 0 then [] else codes " &times; 10^" ++ signed_decimal (exponent_at items place)

-- the unit in force at a main item with its exponent; none where it is None
unfoldable pub unit_at : List Item → ℕ → List ℕ
unit_at items m =
    let unit = item_number_at items (global_place items m UNIT) in
    if unit == 0 then [] else unit_words unit ++ times_text items (global_place items m 0x54)

-- a physical range with its unit, by the places of its ends
unfoldable pub physical_range : List Item → ℕ → Option ℕ → Option ℕ → List ℕ
physical_range items m low high =
    codes "<br>physical " ++ signed_decimal (signed_number_at items low) ++ codes " to "
    ++ signed_decimal (signed_number_at items high) ++ unit_at items m

-- a physical range is set: its ends aren't both 0, which stands for the logical one (HID 1.11, 6.2.2.7)
abbrev pub is_physical : List Item → Option ℕ → Option ℕ → Bool
is_physical items low high = not ((item_number_at items low == 0) && (item_number_at items high == 0))

-- the physical range in force at a main item, where one is set
unfoldable pub physical_text : List Item → ℕ → List ℕ
physical_text items m =
    let low = global_place items m 0x34 in
    let high = global_place items m 0x44 in
    if is_physical items low high then physical_range items m low high else []

-- the ranges of a field that isn't padding: of its numbers, and the physical one
abbrev pub range_cell : List Item → ℕ → Shape → MainItem → List ℕ
range_cell items m Padding item = []
range_cell items m Variable item = limits_text item ++ physical_text items m
range_cell items m Array item = limits_text item ++ physical_text items m

-- the collections round a field
unfoldable pub path_cell : List Collection → List ℕ
path_cell path = flat_map (λ collection. escaped_words (collection_words collection) ++ codes "<br>") path

-- a link to an item
unfoldable pub item_link : ℕ → List ℕ
item_link at = codes "<a href='#at" ++ decimal at ++ codes "'>" ++ decimal at ++ codes "</a> "

-- a link to an item that made fields of a main item
abbrev pub link_at : List Item → ℕ → ℕ → List ℕ
link_at items m k = if is_origin items m k then item_link (item_place (slice_get items k)) else []

-- links to the items that made fields of a main item
unfoldable pub links_cell : List Item → ℕ → List ℕ
links_cell items m = concat_below (length items) (link_at items m)

-- where a field stands: its number, its first bit and its size
unfoldable pub place_cells : Contents → ℕ → MainItem → List ℕ
place_cells layout i item =
    number_cell i ++ bit_text (first_bit layout + item.offset) ++ NEXT.now ++ size_cell item ++ NEXT.now

-- what a field means: its usages, its ranges and its flags
unfoldable pub meaning_cells : List Item → ℕ → Bool → MainItem → List Entry → List ℕ
meaning_cells items m input item entries =
    meaning_cell item item.shape entries ++ NEXT.now ++ range_cell items m item.shape item ++ NEXT.now
    ++ flags_text input item.flags.0 ++ NEXT.now

-- where a field comes from: the collections round it, and its items
unfoldable pub origin_cells : List Item → ℕ → List Collection → List ℕ
origin_cells items m path = path_cell path ++ NEXT.now ++ links_cell items m ++ codes "</td></tr>" ++ 10 ∷ []

-- the row of a field
unfoldable pub field_row : Contents → List Item → List ℕ → ℕ → MainItem → List Entry → List Collection → List ℕ
field_row layout items mains i item entries path =
    place_cells layout i item ++ meaning_cells items (main_at mains i) (is_input_item layout item) item entries
    ++ origin_cells items (main_at mains i) path

-- the row of a listed item that stands in the report; no text for another item or none
abbrev pub field_row_at : Contents → List Item → List ℕ → ℕ → ℕ
    → Option MainItem → Option (List Entry) → Option (List Collection) → List ℕ
field_row_at layout items mains r i (Some item) (Some entries) (Some path) =
    if item.report == r then field_row layout items mains i item entries path else []
field_row_at layout items mains r i _ _ _ = []

-- the row of the listed item at a place
abbrev pub field_row_of : Contents → List Item → List ℕ → ℕ → ℕ → List ℕ
field_row_of layout items mains r i =
    field_row_at layout items mains r i (slice_get layout.items i) (slice_get layout.entries i)
    (slice_get layout.paths i)

-- the rows of a report's fields
unfoldable pub field_rows : Contents → List Item → List ℕ → ℕ → List ℕ
field_rows layout items mains r = concat_below (length layout.items) (field_row_of layout items mains r)

-- the fields of a report as a table
unfoldable pub field_table : Contents → List Item → List ℕ → ℕ → List ℕ
field_table layout items mains r = FIELDS_HEAD.now ++ field_rows layout items mains r ++ TABLE_END.now

-- the heading of a report
unfoldable pub heading : Bool → ℕ → Report → List ℕ
heading numbered bytes report =
    codes "<h2>" ++ report_title numbered report ++ codes ": " ++ count_text bytes (codes "byte")
    ++ codes "</h2>"
    ++ 10 ∷ []

-- the heading of a report; no text where there is none
abbrev pub heading_at : Contents → ℕ → Option Report → List ℕ
heading_at layout r None = []
heading_at layout r (Some report) = heading layout.numbered (report_bytes layout r) report

-- the picture of a report alone
unfoldable pub svg_of : Contents → List Item → List ℕ → ℕ → List ℕ
svg_of layout items mains r =
    picture_at layout r (brackets_of layout items mains r) (pieces_of layout r) (slice_get layout.reports r)

-- a report is drawn that has at most 1,000 bytes
abbrev pub is_drawn : Contents → ℕ → Bool
is_drawn layout r = nat_le (report_bytes layout r) MAX_DRAWN

-- the picture of a report in characters
unfoldable pub characters_of : ℕ → Contents → List Item → List ℕ → ℕ → List ℕ
characters_of width layout items mains r =
    terminal_at width layout r (brackets_of layout items mains r) (pieces_of layout r) (slice_get layout.reports r)

-- the windows of a report's picture
unfoldable pub windows_of : Contents → List Item → List ℕ → ℕ → List ℕ
windows_of layout items mains r = windows layout r (brackets_of layout items mains r) (pieces_of layout r)

-- the picture of a report and its windows, or that it isn't drawn
abbrev pub figure_of : Contents → List Item → List ℕ → ℕ → List ℕ
figure_of layout items mains r =
    if is_drawn layout r then svg_of layout items mains r ++ windows_of layout items mains r else NO_PICTURE.now

-- what a page has of a report
unfoldable pub section : Contents → List Item → List ℕ → ℕ → List ℕ
section layout items mains r =
    heading_at layout r (slice_get layout.reports r) ++ figure_of layout items mains r
    ++ field_table layout items mains r

-- what a page has of the reports
unfoldable pub sections : Contents → List Item → List ℕ → List ℕ
sections layout items mains = concat_below (length layout.reports) (section layout items mains)

-- the places of the main items with bits
abbrev pub mains_of : List Item → List ℕ
mains_of items = listed_places items (length items)

-- the page of a layout and the items of its descriptor
unfoldable pub page_of : Contents → List Item → List ℕ → List ℕ
page_of layout items mains =
    HEAD.now ++ mark_rules items mains ++ ACCEPTED.now ++ sections layout items mains
    ++ item_table items ++ END.now

-- why a descriptor is refused
unfoldable pub refusal_page : List ℕ → List ℕ
refusal_page words = escaped_words words ++ codes "</p>" ++ 10 ∷ []

-- the page of a descriptor that is refused: the words of the refusal, and the items up to its place
unfoldable pub refused_page : List Item → ℕ → List ℕ → List ℕ
refused_page items count words =
    HEAD.now ++ REFUSED.now ++ refusal_page words ++ item_table (take count items) ++ END.now
