-- Elements of an item that numbers leave as they are, so that they needn't be read (our choice).
use Rattle.std.specs.Prelude.{◌≡◌, ℕ, ◌+◌, ◌*◌, ◌<◌, ◌≤◌, List, ℤ}
use Rattle.hid_fields.specs.Field.{bit_of}
use Rattle.hid_layout.specs.declared.control.ControlKind.{ControlKind}
use Rattle.hid_snapshots.specs.declared.control_state.ControlState.{ControlState}
use Rattle.hid_snapshots.specs.declared.control_state.ControlState.TheVariants.{Absent, Switches, Values, Motions, RollOver}
use Rattle.hid_snapshots.specs.ControlStates.{has_null}
use Rattle.hid_usages.specs.declared.elements.Carriable.{Carriable}
use Rattle.hid_usages.specs.declared.elements.ElementRange.{ElementRange}
use Rattle.hid_usages.specs.declared.value_range.Bounds.{Bounds}
use Rattle.hid_layout.specs.Reports.{report_bytes}
use Rattle.hid_usages.specs.declared.changed_bits.BitSpan.{BitSpan}
use Rattle.hid_usages.specs.declared.take.ListedItem.{ListedItem}
use Rattle.hid_usages.specs.Elements.{switch_by_number, value_by_number}
use Rattle.hid_usages.specs.Keeping.{KeepsOthers}
use Rattle.hid_usages.specs.ChangedBits.{IsOutsideSpan}
use Rattle.hid_usages.specs.Taking.{state_after_bytes}

-- how values of controls of a kind are read
abbrev pub carriable_of : ControlKind → Bounds → Carriable
carriable_of kind bounds = record { has_null = has_null kind; bounds = bounds }

-- the elements that are kept are left by their numbers, outside of a range
abbrev pub LeaveOthers : ControlKind → Bounds → List ℤ → ElementRange → ControlState → Type 0
LeaveOthers kind bounds numbers range Absent = Unit {0}
LeaveOthers kind bounds numbers range (Switches held) = KeepsOthers switch_by_number held numbers range
LeaveOthers kind bounds numbers range (Values held) = KeepsOthers (value_by_number (carriable_of kind bounds)) held numbers range
LeaveOthers kind bounds numbers range (Motions held) = Unit {0}
LeaveOthers kind bounds numbers range (RollOver held) = Unit {0}

-- The elements of a range have the bits of a span, of fields of a width that begin at a bit. Example: bit 9 alone, of fields of
-- eight bits from bit 0 on, is in the element at index 1
pub record HoldsSpan (at width count : ℕ) (span : BitSpan) (range : ElementRange) : Type 0 where
  pub first : range.first ≤ count
  pub end : range.end ≤ count
  pub before : (j : ℕ) → j < range.first → at + width * j + width ≤ span.first
  pub after : (j : ℕ) → range.end ≤ j → j < count → span.end ≤ at + width * j

-- outside of the span, the bits of a listed item's report are those of bytes that leave what is kept of the item
pub record KnowsListed (listed : ListedItem) (bytes : List ℕ) (span : BitSpan) (state : ControlState) : Type 0 where
  pub last : List ℕ
  pub same : (n : ℕ) → n < 8 * report_bytes listed.layout.now listed.item.now.report → IsOutsideSpan span n
      → bit_of bytes n ≡ bit_of last n
  pub left : (n : ℕ) → n < 8 * report_bytes listed.layout.now listed.item.now.report → IsOutsideSpan span n
      → state_after_bytes listed state last ≡ state
