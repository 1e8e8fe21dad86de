-- The reports of a layout, and what holds of every layout (HID 1.11, 5.6, 6.2.2.5, 6.2.2.7 and 8).
use Rattle.std.specs.Prelude.{◌≡◌, ℕ, ◌+◌, ◌*◌, ◌<◌, ◌≤◌, true, false, if◌then◌else◌, Option, not, ◌&&◌, ◌==◌, nat_lt, int_lt, List, length, slice_get, Some, None, pos, neg_ℤ, ◌^◌, ◌≤ℤ◌}
use Rattle.std.specs.List.{list_any}
use Rattle.hid_report_descriptor.specs.declared.limits.TheConstants.{MAX_ENTRIES, MAX_WIDTH, MAX_REAL_REPORT_BYTES}
use Rattle.hid_report_descriptor.specs.declared.limits.Limits.{Limits}
use Rattle.hid_report_descriptor.specs.declared.limits.Limits.TheVariants.{Bus}
use Rattle.hid_report_descriptor.specs.Limits.{longest_report}
use Rattle.hid_layout.specs.declared.main_item.MainItem.{MainItem}
use Rattle.hid_report_descriptor.specs.declared.report.Report.{Report}
use Rattle.hid_report_descriptor.specs.Fields.{is_padding}
use Rattle.hid_layout.specs.Layout.{Contents}
pub use Rattle.hid_layout.specs.Layout.{bits_of, report_bytes}
use Rattle.hid_layout.specs.Controls.{least_of, greatest_of}
use Rattle.hid_report_descriptor.specs.Usages.{Entry, usage_list}
use Rattle.hid_report_descriptor.specs.declared.usage.Usage.{Usage}
use Rattle.hid_layout.specs.declared.main_item.Element.{Element}
use Rattle.std.specs.Option.{option_and_then}

-- the first bit after the ID byte, where there is one
abbrev pub first_bit : Contents → ℕ
first_bit layout = if layout.numbered then 8 else 0

-- the usage at a place of the usage list of a listed item
abbrev pub usage_of : Contents → ℕ → ℕ → Option Usage
usage_of layout item index = option_and_then (λ es. slice_get (usage_list es) index) (slice_get layout.entries item)

-- the field at a place of an item: fields lie one after the other
abbrev pub field_at : MainItem → ℕ → Element
field_at item j = record {
  bit = item.offset + j * item.size;
  width = item.size;
  signed = int_lt item.min (pos 0);
  min = item.min;
  max = item.max;
}

-- the data field at a place: none of padding, and none past the last
abbrev pub element_in : MainItem → ℕ → Option Element
element_in item j =
    if not (is_padding item.shape) && nat_lt j item.count then Some (field_at item j) else None

-- the data field at a place of the listed item at a place: field j of an item lies j times its size after the item's
-- first one, and padding has none (6.2.2.5)
abbrev pub element_of : Contents → ℕ → ℕ → Option Element
element_of layout item j = option_and_then (λ found. element_in found j) (slice_get layout.items item)

-- the ID of the report at a place, 0 where there is none
abbrev pub report_id : Contents → ℕ → ℕ
report_id layout r = elim (slice_get layout.reports r) [ None ↦ 0 | Some report ↦ report.id ]

-- an item with data elements, of 1 to 32 bits each, whose range some pattern meets
pub record HasElements (item : MainItem) : Type 0 where
  pub some_bits : 0 < item.size
  pub narrow : item.size ≤ MAX_WIDTH
  pub some : 0 < item.count
  pub few : item.count ≤ 8 * MAX_REAL_REPORT_BYTES
  pub some_value : least_of item ≤ℤ greatest_of item
  pub not_low : neg_ℤ (pos (2 ^ 32)) ≤ℤ item.min
  pub not_high : item.min ≤ℤ pos (2 ^ 32)

-- What holds of every layout: the fields of a report lie one after another inside it, each report has an item, reports
-- are short, no two of them have the same kind and ID, and data fields have 1 to 32 bits and a range that a pattern
-- meets.
pub record IsLayout (layout : Contents) : Type 0 where
  pub entries_there : length layout.entries ≡ length layout.items
  pub few_entries : (i : ℕ) (es : List Entry) → slice_get layout.entries i ≡ Some es → length es ≤ MAX_ENTRIES
  pub some_usage : (i : ℕ) (item : MainItem) (es : List Entry)
      → slice_get layout.items i ≡ Some item → slice_get layout.entries i ≡ Some es → is_padding item.shape ≡ false
      → 0 < length (usage_list es)
  pub report_there : (i : ℕ) (item : MainItem) → slice_get layout.items i ≡ Some item
      → item.report < length layout.reports
  pub item_there : (r : ℕ) → r < length layout.reports
      → list_any (λ (item : MainItem). item.report == r) layout.items ≡ true
  pub elements : (i : ℕ) (item : MainItem) → slice_get layout.items i ≡ Some item
      → is_padding item.shape ≡ false → HasElements item
  pub apart : (i k : ℕ) (a b : MainItem)
      → i < k → slice_get layout.items i ≡ Some a → slice_get layout.items k ≡ Some b → a.report ≡ b.report
      → a.offset + a.size * a.count ≤ b.offset
  pub inside : (i : ℕ) (item : MainItem) → slice_get layout.items i ≡ Some item
      → first_bit layout + (item.offset + item.size * item.count) ≤ 8 * report_bytes layout item.report
  pub short : (r : ℕ) → report_bytes layout r ≤ MAX_REAL_REPORT_BYTES
  pub one_place : (r k : ℕ) (a b : Report)
      → slice_get layout.reports r ≡ Some a → slice_get layout.reports k ≡ Some b → a.kind ≡ b.kind → a.id ≡ b.id
      → r ≡ k
  pub byte_id : (r : ℕ) (report : Report) → slice_get layout.reports r ≡ Some report → report.id < 256
  pub unnumbered : (r : ℕ) (report : Report) → layout.numbered ≡ false
      → slice_get layout.reports r ≡ Some report → report.id ≡ 0

-- no report is longer than some limits allow
abbrev pub KeepsTo : Limits → Contents → Type 0
KeepsTo limits layout = (r : ℕ) → report_bytes layout r ≤ longest_report limits

-- a layout of a virtual device, or of its host
abbrev pub IsOfBus : Contents → Type 0
IsOfBus = KeepsTo Bus
