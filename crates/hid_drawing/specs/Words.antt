-- What is said of fields, collections and reports, in words (HID 1.11, 6.2.2.5 and 6.2.2.6; the words are our choice:
-- docs/PICTURES.md).
use Rattle.std.specs.Prelude.{ℕ, ◌+◌, ◌-◌, ◌*◌, ◌/◌, ◌%◌, Bool, true, false, ◌==◌, ◌&&◌, nat_le, nat_lt, not, min, bit_and, List, [], ◌∷◌, ◌++◌, length, slice_get, if◌then◌else◌, Option, None, Some, codes}
use Rattle.std.specs.List.{flat_map}
use Rattle.std.specs.Fmt.{decimal, signed_decimal}
use Rattle.hid_report_descriptor.specs.declared.limits.TheConstants.{MAX_WIDTH}
use Rattle.hid_report_descriptor.specs.Flags.{has_flag, CONSTANT, RELATIVE, NULL_STATE}
use Rattle.hid_report_descriptor.specs.Usages.{Entry, usage_list}
use Rattle.hid_report_descriptor.specs.declared.collection.Collection.{Collection}
use Rattle.hid_report_descriptor.specs.declared.report.Report.{Report}
use Rattle.hid_report_descriptor.specs.declared.report.ReportKind.{ReportKind}
use Rattle.hid_report_descriptor.specs.declared.report.ReportKind.TheVariants.{Input, Output, Feature}
use Rattle.hid_report_descriptor.specs.declared.shape.Shape.{Shape}
use Rattle.hid_report_descriptor.specs.declared.shape.Shape.TheVariants.{Padding, Variable, Array}
use Rattle.hid_report_descriptor.specs.declared.usage.Usage.{Usage}
use Rattle.hid_layout.specs.declared.main_item.MainItem.{MainItem}
use Rattle.hid_layout.specs.Layout.{Contents}
use Rattle.hid_layout.specs.Reports.{usage_of}
use Rattle.hid_drawing.specs.declared.pieces.BitSource.{BitSource}
use Rattle.hid_drawing.specs.declared.pieces.BitSource.TheVariants.{ReportId, Field, FinalPadding}
use Rattle.hid_drawing.specs.declared.pieces.ByteSlice.{ByteSlice}
use Rattle.hid_drawing.specs.declared.captions.TheConstants.{FLAG_WORDS}
use Rattle.hid_drawing.specs.Label.{usage_label}

-- what a flag says: the second text where it is 1
abbrev pub flag_words : ℕ → ℕ → List ℕ → List ℕ → List ℕ
flag_words flags flag clear set = if bit_and flags flag == 0 then clear else set

-- what bit 7 says: in an Input item it is reserved (6.2.2.5)
abbrev pub bit_7_words : Bool → List ℕ
bit_7_words input = if input then codes ", reserved" else codes ", volatile"

-- what the flags of an Input item say, or of an Output or Feature item
unfoldable pub flags_text : Bool → ℕ → List ℕ
flags_text input flags =
    flat_map (λ row. flag_words flags row.0 row.1.now row.2.now) FLAG_WORDS
    ++ flag_words flags 0x080 [] (bit_7_words input) ++ flag_words flags 0x100 [] (codes ", buffered bytes")

-- whether these are Input reports
abbrev pub is_input_report : ReportKind → Bool
is_input_report Input = true
is_input_report Output = false
is_input_report Feature = false

-- whether an optional report is an Input report; false for none
abbrev pub is_input_at : Option Report → Bool
is_input_at None = false
is_input_at (Some report) = is_input_report report.kind

-- whether an item stands in an Input report
abbrev pub is_input_item : Contents → MainItem → Bool
is_input_item layout item = is_input_at (slice_get layout.reports item.report)

-- the name of a kind of reports
abbrev pub kind_name : ReportKind → List ℕ
kind_name Input = codes "Input"
kind_name Output = codes "Output"
kind_name Feature = codes "Feature"

-- a report by its kind, and by its ID where reports have one
unfoldable pub report_title : Bool → Report → List ℕ
report_title numbered report =
    kind_name report.kind ++ codes " report" ++ (if numbered then 32 ∷ decimal report.id else [])

-- a number of things, in words
unfoldable pub count_text : ℕ → List ℕ → List ℕ
count_text count thing = decimal count ++ 32 ∷ thing ++ (if count == 1 then [] else codes "s")

-- the name of a kind of collections
abbrev pub collection_name : ℕ → List ℕ
collection_name kind =
    if kind == 0 then codes "Physical"
    else if kind == 1 then codes "Application"
    else if kind == 2 then codes "Logical"
    else if kind == 3 then codes "Report"
    else if kind == 4 then codes "Named Array"
    else if kind == 5 then codes "Usage Switch"
    else if kind == 6 then codes "Usage Modifier"
    else if nat_le kind 127 then codes "Reserved"
    else codes "Vendor-defined"

-- what a collection is for, in front of its kind
abbrev pub purpose_text : Option Usage → List ℕ
purpose_text None = []
purpose_text (Some usage) = usage_label usage ++ 32 ∷ []

-- a collection by its usage and its kind. Example: Mouse (Application)
unfoldable pub collection_words : Collection → List ℕ
collection_words collection = purpose_text collection.usage ++ 40 ∷ collection_name collection.kind ++ 41 ∷ []

-- a range of usages by its ends, or the one usage of a range with equal ends
unfoldable pub entry_text : Entry → List ℕ
entry_text entry =
    if (entry.0.page == entry.1.page) && (entry.0.id == entry.1.id) then usage_label entry.0
    else usage_label entry.0 ++ codes " to " ++ usage_label entry.1

-- the usages from the first one of a range to the last one of the ranges after it, in words
abbrev pub choice_from : Usage → Usage → List Entry → List ℕ
choice_from first last [] = entry_text (first, last)
choice_from first last (entry ∷ more) = choice_from first entry.1 more

-- what the fields of an array choose from
abbrev pub choice_text : List Entry → List ℕ
choice_text [] = []
choice_text (entry ∷ more) = choice_from entry.0 entry.1 more

-- the text of a usage; empty where there is none
abbrev pub usage_words : Option Usage → List ℕ
usage_words None = []
usage_words (Some usage) = usage_label usage

-- the usage of a field of a variable item: the last one again where they are fewer
abbrev pub field_usage : Contents → ℕ → ℕ → List Entry → Option Usage
field_usage layout i j entries = usage_of layout i (min j (length (usage_list entries) - 1))

-- what fields without controls are called: of some the bits are data, but more than a number has
unfoldable pub padding_name : MainItem → List ℕ
padding_name item =
    if nat_lt MAX_WIDTH item.size && not (has_flag CONSTANT item.flags.0) then codes "too wide to be a number"
    else codes "padding"

-- what a field is called
abbrev pub name_in : Contents → ℕ → ℕ → MainItem → Shape → List Entry → List ℕ
name_in layout i j item Padding entries = padding_name item
name_in layout i j item Variable entries = usage_words (field_usage layout i j entries)
name_in layout i j item Array entries = choice_text entries

-- what a field of an item is called; no text where there is no item
abbrev pub field_name : Contents → ℕ → ℕ → Option MainItem → Option (List Entry) → List ℕ
field_name layout i j (Some item) (Some entries) = name_in layout i j item item.shape entries
field_name layout i j _ _ = []

-- what a part of a report is called
abbrev pub part_name : Contents → BitSource → List ℕ
part_name layout ReportId = codes "Report ID"
part_name layout FinalPadding = codes "unused"
part_name layout (Field i j) = field_name layout i j (slice_get layout.items i) (slice_get layout.entries i)

-- which bits of its field a piece has, where it hasn't all of them
abbrev pub share_text : ByteSlice → List ℕ
share_text piece =
    if (piece.high - piece.low) == piece.width then []
    else codes ", bits " ++ decimal piece.front ++ codes " to "
    ++ decimal ((piece.front + (piece.high - piece.low)) - 1)

-- what a piece is called
unfoldable pub piece_name : Contents → ByteSlice → List ℕ
piece_name layout piece = part_name layout piece.part ++ share_text piece

-- a range, and what sets its numbers apart
abbrev pub range_words : MainItem → List ℕ
range_words item =
    signed_decimal item.min ++ codes ".." ++ signed_decimal item.max
    ++ (if has_flag RELATIVE item.flags.0 then codes " relative" else [])
    ++ (if has_flag NULL_STATE item.flags.0 then codes " null" else [])

-- what is said of an item's fields
abbrev pub details_in : Shape → MainItem → List ℕ
details_in Padding item = count_text (item.size * item.count) (codes "bit")
details_in Variable item = range_words item
details_in Array item = range_words item

-- what is said of the fields of an item; no text where there is no item
abbrev pub item_details : Option MainItem → List ℕ
item_details None = []
item_details (Some item) = details_in item.shape item

-- the ID of a report; no text where there is no report
abbrev pub id_text : Option Report → List ℕ
id_text None = []
id_text (Some report) = decimal report.id

-- what is said of a part of the report r
unfoldable pub part_details : Contents → ℕ → BitSource → List ℕ
part_details layout r ReportId = id_text (slice_get layout.reports r)
part_details layout r FinalPadding = []
part_details layout r (Field i j) = item_details (slice_get layout.items i)

-- the flags of an item; no text where there is no item
abbrev pub item_flags : Contents → Option MainItem → List ℕ
item_flags layout None = []
item_flags layout (Some item) = flags_text (is_input_item layout item) item.flags.0

-- the flags of a part
unfoldable pub part_flags : Contents → BitSource → List ℕ
part_flags layout ReportId = []
part_flags layout FinalPadding = []
part_flags layout (Field i j) = item_flags layout (slice_get layout.items i)

-- a bit by its byte, and its place there
unfoldable pub bit_text : ℕ → List ℕ
bit_text bit = codes "byte " ++ decimal (bit / 8) ++ codes ", bit " ++ decimal (bit % 8)

-- the bits of a byte that a piece has
unfoldable pub place_text : ByteSlice → List ℕ
place_text piece =
    codes "byte " ++ decimal piece.byte
    ++ (if (piece.high - piece.low) == 1 then codes ", bit " ++ decimal piece.low
    else codes ", bits " ++ decimal piece.low ++ codes " to " ++ decimal (piece.high - 1))
