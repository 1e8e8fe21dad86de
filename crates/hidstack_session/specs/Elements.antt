-- Elements as records of numbers (HID 1.11, 5.8, 6.2.2.5 and 6.2.2.8; the record: our choice).
use Rattle.std.specs.Prelude.{◌≡◌, ℕ, ◌+◌, ◌*◌, ◌<◌, ◌≤◌, ◌==◌, ◌⊎◌, Bool, true, false, not, List, [], length, slice_get, slice_index, Option, Some, None, Result, Ok, Err, ℤ}
use Rattle.hid_fields.specs.Field.{pattern_of}
use Rattle.hid_fields.specs.Value.{value_of}
use Rattle.hid_report_descriptor.specs.Kinds.{rank}
use Rattle.hid_report_descriptor.specs.declared.usage.Usage.{Usage}
use Rattle.hid_report_descriptor.specs.declared.shape.Shape.{Shape}
use Rattle.hid_report_descriptor.specs.declared.shape.Shape.TheVariants.{Padding, Variable, Array}
use Rattle.hid_report_descriptor.specs.declared.limits.TheConstants.{MAX_WIDTH}
use Rattle.hid_report_descriptor.specs.Usages.{usage_list}
use Rattle.hid_snapshots.specs.declared.fault.ReportFault.{ReportFault}
use Rattle.hid_snapshots.specs.declared.fault.ReportFault.TheVariants.{Short, UnknownReport}
use Rattle.hid_layout.specs.Layout.{Contents}
use Rattle.hid_layout.specs.Controls.{usage_of_element}
use Rattle.hid_layout.specs.declared.main_item.MainItem.{MainItem}
use Rattle.hid_layout.specs.declared.main_item.Element.{Element}
use Rattle.hid_layout.specs.Reports.{first_bit, report_id, element_of}
use Rattle.hidstack_session.specs.declared.element.HidElement.{HidElement}

-- a usage that may be there, else 00:00
abbrev pub usage_or_zero : Option Usage → Usage
usage_or_zero None = record { page = 0; id = 0 }
usage_or_zero (Some usage) = usage

-- what is reported as the usage of an element: its own, and 00:00 of an array
abbrev pub usage_number : Shape → List Usage → ℕ → Usage
usage_number Variable usages j = usage_or_zero (usage_of_element usages j)
usage_number Padding usages j = usage_or_zero None
usage_number Array usages j = usage_or_zero None

-- a Boolean as a number: 1 for true
abbrev pub one_of : Bool → ℕ
one_of true = 1
one_of false = 0

-- 1 of an array
abbrev pub array_number : Shape → ℕ
array_number Array = 1
array_number Padding = 0
array_number Variable = 0

-- the kind of the report at a place: 0 Input, 1 Output, 2 Feature
abbrev pub kind_at : Contents → ℕ → ℕ
kind_at layout r = elim (slice_get layout.reports r) [ None ↦ 0 | Some report ↦ rank report.kind ]

-- the usages that the listed item at a place has
abbrev pub usage_entries_at : Contents → ℕ → List Usage
usage_entries_at layout i =
    elim (slice_get layout.entries i) [ None ↦ [] | Some entries ↦ usage_list entries ]

-- how many collections are open round the listed item at a place
abbrev pub depth_at : Contents → ℕ → ℕ
depth_at layout i = elim (slice_get layout.paths i) [ None ↦ 0 | Some path ↦ length path ]

-- the record of a data element of the listed item at a place
abbrev pub element_record : Contents → ℕ → ℕ → MainItem → Element → HidElement
element_record layout i j item element = record {
  min = element.min;
  max = element.max;
  item = i;
  index = j;
  collections = depth_at layout i;
  bit = first_bit layout + element.bit;
  width = element.width;
  usages = length (usage_entries_at layout i);
  page = (usage_number item.shape (usage_entries_at layout i) j).page;
  id = (usage_number item.shape (usage_entries_at layout i) j).id;
  flags = item.flags.0;
  kind = kind_at layout item.report;
  report = report_id layout item.report;
  is_signed = one_of element.signed;
  is_array = array_number item.shape;
  spare = 0;
}

-- the record of a data element that may be there, of a listed item that may be there
abbrev pub element_record_if : Contents → ℕ → ℕ → Option MainItem → Option Element → Option HidElement
element_record_if layout i j (Some item) (Some element) = Some (element_record layout i j item element)
element_record_if layout i j _ _ = None

-- the record of the data element at a place of the listed item at a place: where it lies, its range, flags and usage.
-- Example: Y of the boot mouse has bit 16, 8 bits, -127 to 127
abbrev pub element_at : Contents → ℕ → ℕ → Option HidElement
element_at layout i j = element_record_if layout i j (slice_get layout.items i) (element_of layout i j)

-- an element has 1 to 32 bits, which lie in the bytes
abbrev pub LiesIn : HidElement → List ℕ → Type 0
LiesIn element bytes =
    (0 < element.width) × (element.width ≤ MAX_WIDTH) × (element.bit + element.width ≤ 8 * length bytes)

-- the bytes are of the element's report: they begin with its Report ID, where it has one
abbrev pub IsNamed : HidElement → List ℕ → Type 0
IsNamed element bytes = (element.report ≡ 0) ⊎ (slice_index bytes 0 ≡ element.report)

-- the element is read in two's complement
abbrev pub is_signed : HidElement → Bool
is_signed element = not (element.is_signed == 0)

-- an element lies in the bytes of its report, or why it doesn't
abbrev pub IsFound : HidElement → List ℕ → Result (Unit {0}) ReportFault → Type 0
IsFound element bytes (Ok found) = LiesIn element bytes × IsNamed element bytes
IsFound element bytes (Err Short) = LiesIn element bytes → ⊥
IsFound element bytes (Err UnknownReport) = LiesIn element bytes × (IsNamed element bytes → ⊥)

-- the number of an element in the bytes of a report (5.8), or why there is none. Example: of 05 7F 81 at bit 16 it is
-- -127
abbrev pub HoldsNumber : HidElement → List ℕ → Result ℤ ReportFault → Type 0
HoldsNumber element bytes (Ok number) =
    LiesIn element bytes × IsNamed element bytes
    × (number ≡ value_of (pattern_of bytes element.bit element.width) element.width (is_signed element))
HoldsNumber element bytes (Err Short) = LiesIn element bytes → ⊥
HoldsNumber element bytes (Err UnknownReport) = LiesIn element bytes × (IsNamed element bytes → ⊥)
