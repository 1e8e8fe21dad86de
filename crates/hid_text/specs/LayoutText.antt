-- A layout as it is printed (our choice: docs/SCRIPT.md).
use Rattle.std.specs.Prelude.{ℕ, Bool, List, [], ◌∷◌, ◌++◌, ◌==◌, length, if◌then◌else◌, Option, None, Some, slice_get, codes}
use Rattle.std.specs.List.{flat_map}
use Rattle.std.specs.Fmt.{decimal, signed_decimal}
use Rattle.hid_report_descriptor.specs.declared.report.ReportKind.{ReportKind}
use Rattle.hid_report_descriptor.specs.declared.report.ReportKind.TheVariants.{Input, Output, Feature}
use Rattle.hid_report_descriptor.specs.declared.report.Report.{Report}
use Rattle.hid_layout.specs.declared.main_item.MainItem.{MainItem}
use Rattle.hid_report_descriptor.specs.declared.shape.Shape.{Shape}
use Rattle.hid_report_descriptor.specs.declared.shape.Shape.TheVariants.{Padding, Variable, Array}
use Rattle.hid_report_descriptor.specs.declared.collection.Collection.{Collection}
use Rattle.hid_layout.specs.Layout.{Contents}
use Rattle.hid_report_descriptor.specs.Flags.{has_flag, RELATIVE, NULL_STATE}
use Rattle.hid_layout.specs.Reports.{report_bytes}
use Rattle.hid_report_descriptor.specs.Usages.{Entry}
use Rattle.hid_notation.specs.Text.{usage_or_dash, range_text, concat_below}

-- the name of a kind of reports
abbrev pub kind_word : ReportKind → List ℕ
kind_word Input = codes "input"
kind_word Output = codes "output"
kind_word Feature = codes "feature"

-- KIND ID of a report
abbrev pub report_name : Report → List ℕ
report_name report = kind_word report.kind ++ 32 ∷ decimal report.id

-- report KIND ID bytes N
abbrev pub report_line : Report → ℕ → List ℕ
report_line report size = codes "report " ++ report_name report ++ codes " bytes " ++ decimal size ++ 10 ∷ []

-- Padding and arrays are named so whatever their flags are.
abbrev pub shape_word : Shape → Bool → List ℕ
shape_word Padding relative = codes "padding"
shape_word Array relative = codes "array"
shape_word Variable relative = if relative then codes "relative" else codes "variable"

-- the range of an item, after ` null` where Null State is set
abbrev pub range_words : MainItem → List ℕ
range_words item =
    (if has_flag NULL_STATE item.flags.0 then codes " null" else [])
    ++ 32 ∷ signed_decimal item.min ++ codes ".." ++ signed_decimal item.max

-- each usage entry after a space
abbrev pub entries_text : List Entry → List ℕ
entries_text entries = flat_map (λ entry. 32 ∷ range_text entry) entries

-- what is said of an item that is no padding
abbrev pub details_text : Shape → MainItem → List Entry → List ℕ
details_text Padding item entries = []
details_text Variable item entries = range_words item ++ entries_text entries
details_text Array item entries = range_words item ++ entries_text entries

-- KIND/U
abbrev pub collection_text : Collection → List ℕ
collection_text collection = decimal collection.kind ++ 47 ∷ usage_or_dash collection.usage

-- collections, each after a space
abbrev pub spaced_collections : List Collection → List ℕ
spaced_collections collections = flat_map (λ c. 32 ∷ collection_text c) collections

-- the collections from the outermost on, where there are some
abbrev pub path_text : List Collection → List ℕ
path_text [] = []
path_text (collection ∷ inner) = codes " in" ++ spaced_collections (collection ∷ inner)

-- the collections from the outermost on, with a space between two of them. Example: 1/0D:04 2/0D:22
abbrev pub collections_text : List Collection → List ℕ
collections_text [] = []
collections_text (outermost ∷ inner) = collection_text outermost ++ spaced_collections inner

-- item I KIND ID at BIT SIZExCOUNT SHAPE
unfoldable pub item_head : ℕ → Report → MainItem → List ℕ
item_head i report item =
    codes "item " ++ decimal i ++ 32 ∷ report_name report ++ codes " at " ++ decimal item.offset
    ++ 32 ∷ decimal item.size ++ 120 ∷ decimal item.count
    ++ 32 ∷ shape_word item.shape (has_flag RELATIVE item.flags.0)

-- an item, and what else is said of it
abbrev pub item_line : ℕ → Report → MainItem → List Entry → List Collection → List ℕ
item_line i report item entries path =
    item_head i report item ++ details_text item.shape item entries ++ path_text path ++ 10 ∷ []

-- the line of a report, by its number
abbrev pub report_text_at : Contents → ℕ → Option Report → List ℕ
report_text_at layout r None = []
report_text_at layout r (Some report) = report_line report (report_bytes layout r)

-- the line of an item that stands in a report, by its number
abbrev pub item_in : Contents → ℕ → MainItem
    → Option Report → Option (List Entry) → Option (List Collection) → List ℕ
item_in layout i item (Some report) (Some entries) (Some path) = item_line i report item entries path
item_in layout i item _ _ _ = []

-- the line of the listed item at a place, if there is one
abbrev pub item_text_at : Contents → ℕ → Option MainItem → List ℕ
item_text_at layout i None = []
item_text_at layout i (Some item) =
    item_in layout i item (slice_get layout.reports item.report) (slice_get layout.entries i) (slice_get layout.paths i)

-- a line for each report, and then one for each item
unfoldable pub layout_lines : Contents → List ℕ
layout_lines layout =
    concat_below (length layout.reports) (λ r. report_text_at layout r (slice_get layout.reports r))
    ++ concat_below (length layout.items) (λ i. item_text_at layout i (slice_get layout.items i))

-- the text of a layout: a line for each report, then a line for each item; no reports if there is none. Example: item 0
-- input 0 at 0 1x3 variable 0..1 09:01-09:03 in 1/01:02 0/-
unfoldable pub layout_text : Contents → List ℕ
layout_text layout = if length layout.reports == 0 then codes "no reports" ++ 10 ∷ [] else layout_lines layout
