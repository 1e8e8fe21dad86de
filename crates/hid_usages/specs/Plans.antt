-- The plan of a report: of each of its items what reading needs (our choice).
use Rattle.std.specs.Prelude.{◌≡◌, ◌≢◌, ℕ, ◌+◌, ◌*◌, ◌<◌, ◌≤◌, ◌⊎◌, All, List, length, map, Option, Some, None, slice_get, if◌then◌else◌}
use Rattle.hid_report_descriptor.specs.declared.shape.Shape.{Shape}
use Rattle.hid_report_descriptor.specs.declared.shape.Shape.TheVariants.{Padding, Variable, Array}
use Rattle.hid_layout.specs.declared.control.ControlKind.{ControlKind}
use Rattle.hid_layout.specs.declared.control.ControlKind.TheVariants.{Switch, Value, NullValue, Relative}
use Rattle.hid_layout.specs.declared.main_item.MainItem.{MainItem}
use Rattle.hid_layout.specs.ArrayCodes.{plan_of}
use Rattle.hid_layout.specs.Controls.{element_kind}
use Rattle.hid_layout.specs.Layout.{Contents}
use Rattle.hid_layout.specs.Reports.{first_bit}
use Rattle.hid_usages.specs.declared.changed_bits.BitSpan.{BitSpan}
use Rattle.hid_usages.specs.declared.plan.ItemRange.{ItemRange}
use Rattle.hid_usages.specs.declared.plan.PlannedItem.{PlannedItem}
use Rattle.hid_usages.specs.declared.plan.ReportPlan.{ReportPlan}
use Rattle.hid_usages.specs.declared.plan.PlannedKind.{PlannedKind}
use Rattle.hid_usages.specs.declared.plan.PlannedKind.TheVariants as kind
use Rattle.hid_usages.specs.Bits.{are_bits}
use Rattle.hid_usages.specs.EventSources.{AreUsages}

-- as what controls of a kind are read
abbrev pub kind_of_controls : ControlKind → PlannedKind
kind_of_controls Switch = kind.Switches
kind_of_controls Value = kind.Values
kind_of_controls NullValue = kind.NullValues
kind_of_controls Relative = kind.Motions

-- as what the fields of an item of a shape are read: up to 32 switches of one bit each are one pattern
abbrev pub kind_of_shape : MainItem → Shape → PlannedKind
kind_of_shape item Padding = kind.Padding
kind_of_shape item Array = kind.Keys
kind_of_shape item Variable = if are_bits item then kind.Bits else kind_of_controls (element_kind item)

-- as what the fields of an item are read
abbrev pub planned_kind : MainItem → PlannedKind
planned_kind item = kind_of_shape item item.shape

-- the place of a planned item
abbrev pub place_of : PlannedItem → ℕ
place_of planned = planned.place

-- A planned item is as the item at its place: where its fields begin and end, as what they are read, and which usages its elements
-- have.
pub record IsPlannedItem (layout : Contents) (planned : PlannedItem) : Type 0 where
  pub item : MainItem
  pub listed : slice_get layout.items planned.place ≡ Some item
  pub first : planned.first ≡ first_bit layout + item.offset
  pub end : planned.end ≡ planned.first + item.size * item.count
  pub kind : planned.kind ≡ planned_kind item
  pub usages : AreUsages layout planned.place planned.usages

-- planned items stand in the order of their bits, and none overlaps the next
pub record IsInOrder (items : List PlannedItem) : Type 0 where
  pub forward : (k : ℕ) (item : PlannedItem) → slice_get items k ≡ Some item → item.first ≤ item.end
  pub apart : (j k : ℕ) (a b : PlannedItem) → j < k → slice_get items j ≡ Some a → slice_get items k ≡ Some b → a.end ≤ b.first

-- all planned items with motions stand in a range
pub record HoldsMotions (items : List PlannedItem) (range : ItemRange) : Type 0 where
  pub each : (k : ℕ) (item : PlannedItem) → slice_get items k ≡ Some item → item.kind ≡ kind.Motions
      → (range.first ≤ k) × (k < range.end)
  pub order : range.first ≤ range.end
  pub within : range.end ≤ length items

-- the bits of a planned item lie outside of the span, and it has no motions
pub record IsPassed (item : PlannedItem) (span : BitSpan) : Type 0 where
  pub outside : (item.end ≤ span.first) ⊎ (span.end ≤ item.first)
  pub absolute : item.kind ≢ kind.Motions

-- the planned items from one on, before an end, have no bits of a span, nor motions
abbrev pub ArePassed : List PlannedItem → BitSpan → ℕ → ℕ → Type 0
ArePassed items span from end =
    (k : ℕ) (item : PlannedItem) → slice_get items k ≡ Some item → from ≤ k → k < end → IsPassed item span

-- the planned items from one on have no bits of a span, nor motions, up to the one that is found, or up to an end
abbrev pub FindsUnpassed : List PlannedItem → BitSpan → ℕ → ℕ → Option ℕ → Type 0
FindsUnpassed items span from end None = ArePassed items span from end
FindsUnpassed items span from end (Some k) = (from ≤ k) × (k < end) × ArePassed items span from k

-- planned items outside of a range have no bits of a span, nor motions
pub record HoldsChanged (items : List PlannedItem) (span : BitSpan) (range : ItemRange) : Type 0 where
  pub order : range.first ≤ range.end
  pub within : range.end ≤ length items
  pub passed : (k : ℕ) (item : PlannedItem) → slice_get items k ≡ Some item → (k < range.first) ⊎ (range.end ≤ k)
      → IsPassed item span

-- the items of report r are planned, in order
pub record IsPlan (layout : Contents) (r : ℕ) (plan : ReportPlan) : Type 0 where
  pub places : map place_of plan.items.items ≡ plan_of layout r
  pub each : All (IsPlannedItem layout) plan.items.items
  pub order : IsInOrder plan.items.items
  pub motions : HoldsMotions plan.items.items plan.motions
