-- A layout and the values of a report, with the names of usages (our choice: docs/RECORDINGS.md; the names: HID Usage Tables).
use Rattle.std.specs.Prelude.{ℕ, ℤ, List, [], ◌∷◌, ◌++◌, ◌==◌, ◌&&◌, length, if◌then◌else◌, Option, None, Some, slice_get, codes}
use Rattle.std.specs.List.{flat_map}
use Rattle.std.specs.Fmt.{decimal, signed_decimal}
use Rattle.hid_names.specs.Names.{Name, name_of, name_text}
use Rattle.hid_report_descriptor.specs.declared.collection.Collection.{Collection}
use Rattle.hid_report_descriptor.specs.declared.report.Report.{Report}
use Rattle.hid_report_descriptor.specs.declared.shape.Shape.{Shape}
use Rattle.hid_report_descriptor.specs.declared.shape.Shape.TheVariants.{Padding, Variable, Array}
use Rattle.hid_report_descriptor.specs.declared.usage.Usage.{Usage}
use Rattle.hid_report_descriptor.specs.Usages.{Entry, usage_list}
use Rattle.hid_layout.specs.declared.main_item.Element.{Element}
use Rattle.hid_layout.specs.declared.main_item.MainItem.{MainItem}
use Rattle.hid_layout.specs.Layout.{Contents}
use Rattle.hid_layout.specs.Reports.{element_in}
use Rattle.hid_notation.specs.Text.{usage_text, usage_or_dash, concat_below}
use Rattle.hid_usages.specs.Reading.{element_number}
use Rattle.hid_text.specs.LayoutText.{item_head, range_words, report_text_at}
use Rattle.hid_text.specs.ValuesText.{usage_shown}

-- ---- layouts

-- a name in parentheses, after a space
abbrev pub in_parentheses : Option Name → List ℕ
in_parentheses None = []
in_parentheses (Some name) = 32 ∷ 40 ∷ name_text name ++ 41 ∷ []

-- a usage and its name, where it has one. Example: 01:30 (X)
abbrev pub named_usage : Usage → List ℕ
named_usage usage = usage_text usage ++ in_parentheses (name_of usage.page usage.id)

-- a range of usages by its ends, or the one usage of a range with equal ends
unfoldable pub named_range : Entry → List ℕ
named_range entry =
    named_usage entry.0
    ++ (if (entry.0.page == entry.1.page) && (entry.0.id == entry.1.id) then [] else 45 ∷ named_usage entry.1)

-- each usage entry after a space
abbrev pub named_entries : List Entry → List ℕ
named_entries entries = flat_map (λ entry. 32 ∷ named_range entry) entries

-- what is said of an item that is no padding
abbrev pub named_details : Shape → MainItem → List Entry → List ℕ
named_details Padding item entries = []
named_details Variable item entries = range_words item ++ named_entries entries
named_details Array item entries = range_words item ++ named_entries entries

-- a usage and its name, or a dash
abbrev pub named_or_dash : Option Usage → List ℕ
named_or_dash None = 45 ∷ []
named_or_dash (Some usage) = named_usage usage

-- a collection by its kind and its usage. Example: 1/01:02 (Mouse)
abbrev pub named_collection : Collection → List ℕ
named_collection collection = decimal collection.kind ++ 47 ∷ named_or_dash collection.usage

-- collections, each after a space
abbrev pub named_collections : List Collection → List ℕ
named_collections collections = flat_map (λ c. 32 ∷ named_collection c) collections

-- the collections from the outermost on, where there are some
abbrev pub named_path : List Collection → List ℕ
named_path [] = []
named_path (collection ∷ inner) = codes " in" ++ named_collections (collection ∷ inner)

-- an item, and what else is said of it
abbrev pub named_item : ℕ → Report → MainItem → List Entry → List Collection → List ℕ
named_item i report item entries path =
    item_head i report item ++ named_details item.shape item entries ++ named_path path ++ 10 ∷ []

-- the line of an item that stands in a report, by its number
abbrev pub named_item_in : Contents → ℕ → MainItem
    → Option Report → Option (List Entry) → Option (List Collection) → List ℕ
named_item_in layout i item (Some report) (Some entries) (Some path) = named_item i report item entries path
named_item_in layout i item _ _ _ = []

-- the line of the listed item at a place, if there is one
abbrev pub named_item_at : Contents → ℕ → Option MainItem → List ℕ
named_item_at layout i None = []
named_item_at layout i (Some item) =
    named_item_in layout i item (slice_get layout.reports item.report) (slice_get layout.entries i) (slice_get layout.paths i)

-- a line for each report, and then one for each item
unfoldable pub named_lines : Contents → List ℕ
named_lines layout =
    concat_below (length layout.reports) (λ r. report_text_at layout r (slice_get layout.reports r))
    ++ concat_below (length layout.items) (λ i. named_item_at layout i (slice_get layout.items i))

-- The text of a layout with the names of its usages. Example: item 0 input 0 at 0 1x3 variable 0..1 09:01 (Button 1)-09:03 (Button 3)
-- in 1/01:02 (Mouse) 0/-
unfoldable pub named_layout : Contents → List ℕ
named_layout layout = if length layout.reports == 0 then codes "no reports" ++ 10 ∷ [] else named_lines layout

-- ---- values

-- a name after a space
abbrev pub name_behind : Option Name → List ℕ
name_behind None = []
name_behind (Some name) = 32 ∷ name_text name

-- the name of a usage, after a space
abbrev pub name_of_shown : Option Usage → List ℕ
name_of_shown None = []
name_of_shown (Some usage) = name_behind (name_of usage.page usage.id)

-- value ITEM.ELEMENT N U NAME
unfoldable pub named_value : ℕ → ℕ → ℤ → Option Usage → List ℕ
named_value i j number usage =
    codes "value " ++ decimal i ++ 46 ∷ decimal j
    ++ 32 ∷ signed_decimal number ++ 32 ∷ usage_or_dash usage ++ name_of_shown usage ++ 10 ∷ []

-- the line of an element of an item
abbrev pub named_element : Contents → List ℕ → ℕ → ℕ → MainItem → List Usage → Option Element → List ℕ
named_element layout bytes i j item usages None = []
named_element layout bytes i j item usages (Some element) =
    let number = element_number layout bytes element in
    named_value i j number (usage_shown item.shape item usages j number)

-- the line of the element j of the item i, where it is a data element
abbrev pub named_value_in : Contents → List ℕ → ℕ → ℕ → Option MainItem → Option (List Entry) → List ℕ
named_value_in layout bytes i j (Some item) (Some entries) =
    named_element layout bytes i j item (usage_list entries) (element_in item j)
named_value_in layout bytes i j _ _ = []

-- the line of an element, by the places of its item and of itself
unfoldable pub named_value_at : Contents → List ℕ → ℕ → ℕ → List ℕ
named_value_at layout bytes i j =
    named_value_in layout bytes i j (slice_get layout.items i) (slice_get layout.entries i)

-- a line for each data element of the item i, where it stands in the report r
abbrev pub named_values_in : Contents → ℕ → List ℕ → ℕ → Option MainItem → List ℕ
named_values_in layout r bytes i None = []
named_values_in layout r bytes i (Some item) =
    if item.report == r then concat_below item.count (named_value_at layout bytes i) else []

-- the lines of an item's elements, by the place of the item
unfoldable pub named_values_at : Contents → ℕ → List ℕ → ℕ → List ℕ
named_values_at layout r bytes i = named_values_in layout r bytes i (slice_get layout.items i)

-- A line for each data element of the report r, with the name of its usage. Example: value 2.1 -127 01:31 Y
unfoldable pub named_values : Contents → ℕ → List ℕ → List ℕ
named_values layout r bytes = concat_below (length layout.items) (named_values_at layout r bytes)
