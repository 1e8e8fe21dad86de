-- The values of a report as they are printed (HID 1.11, 5.8 and 6.2.2.5; the text: our choice, docs/SCRIPT.md).
use Rattle.std.specs.Prelude.{ℕ, List, [], ◌∷◌, ◌++◌, ◌==◌, length, if◌then◌else◌, Option, None, Some, slice_get, codes, ℤ}
use Rattle.std.specs.Fmt.{decimal, signed_decimal}
use Rattle.hid_report_descriptor.specs.declared.usage.Usage.{Usage}
use Rattle.hid_layout.specs.declared.main_item.MainItem.{MainItem}
use Rattle.hid_report_descriptor.specs.declared.shape.Shape.{Shape}
use Rattle.hid_report_descriptor.specs.declared.shape.Shape.TheVariants.{Padding, Variable, Array}
use Rattle.hid_layout.specs.Layout.{Contents}
use Rattle.hid_layout.specs.declared.main_item.Element.{Element}
use Rattle.hid_layout.specs.Controls.{usage_of_element}
use Rattle.hid_layout.specs.Reports.{element_in}
use Rattle.hid_report_descriptor.specs.Usages.{Entry, usage_list}
use Rattle.hid_usages.specs.Reading.{usage_named, element_number}
use Rattle.hid_notation.specs.Text.{usage_or_dash, concat_below}

-- the usage that stands beside a value: of a variable item that of its place, of an array the one that the number names,
-- if it names one (HID 1.11, 6.2.2.5 and 6.2.2.8)
abbrev pub usage_shown : Shape → MainItem → List Usage → ℕ → ℤ → Option Usage
usage_shown Padding item usages j number = None
usage_shown Variable item usages j number = usage_of_element usages j
usage_shown Array item usages j number = usage_named item usages number

-- value ITEM.ELEMENT N U
unfoldable pub value_line : ℕ → ℕ → ℤ → Option Usage → List ℕ
value_line i j number usage =
    codes "value " ++ decimal i ++ 46 ∷ decimal j
    ++ 32 ∷ signed_decimal number ++ 32 ∷ usage_or_dash usage ++ 10 ∷ []

-- the line of an element of an item
abbrev pub element_line : Contents → List ℕ → ℕ → ℕ → MainItem → List Usage → Option Element → List ℕ
element_line layout bytes i j item usages None = []
element_line layout bytes i j item usages (Some element) =
    let number = element_number layout bytes element in
    value_line i j number (usage_shown item.shape item usages j number)

-- the line of the element j of the item i, where it is a data element
abbrev pub value_text_in : Contents → List ℕ → ℕ → ℕ → Option MainItem → Option (List Entry) → List ℕ
value_text_in layout bytes i j (Some item) (Some entries) =
    element_line layout bytes i j item (usage_list entries) (element_in item j)
value_text_in layout bytes i j _ _ = []

-- the line of an element, by the places of its item and of itself
unfoldable pub value_at : Contents → List ℕ → ℕ → ℕ → List ℕ
value_at layout bytes i j =
    value_text_in layout bytes i j (slice_get layout.items i) (slice_get layout.entries i)

-- a line for each data element of the item i, where it stands in the report r
abbrev pub values_in : Contents → ℕ → List ℕ → ℕ → Option MainItem → List ℕ
values_in layout r bytes i None = []
values_in layout r bytes i (Some item) =
    if item.report == r then concat_below item.count (value_at layout bytes i) else []

-- the lines of an item's elements, by the place of the item
unfoldable pub values_at : Contents → ℕ → List ℕ → ℕ → List ℕ
values_at layout r bytes i = values_in layout r bytes i (slice_get layout.items i)

-- a line for each data element of the report r, in the order of the layout. Example: value 2.1 -127 01:31
unfoldable pub values_text : Contents → ℕ → List ℕ → List ℕ
values_text layout r bytes = concat_below (length layout.items) (values_at layout r bytes)
