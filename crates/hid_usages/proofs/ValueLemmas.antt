-- A number that changes a value, and its event.
use Rattle.std.proofs.Common.{◌≡◌, ◌≢◌, inl, inr, Bool, true, false, if◌then◌else◌, [], Option, Some, None, ℤ, refl, sym, ap}
use Rattle.std.specs.Ordering.{int_eq}
use Rattle.std.proofs.lemmas.Bool.{cases_Bool}
use Rattle.std.proofs.lemmas.Bool.Decides.{Decides-int_eq}
use Rattle.hid_report_descriptor.specs.declared.usage.Usage.{Usage}
use Rattle.hid_layout.specs.declared.control.ControlId.{ControlId}
use Rattle.hid_snapshots.specs.Events.{value_event}
use Rattle.hid_usages.specs.EventSources.{number_event, null_event}
use Rattle.hid_usages.specs.Reading.{is_in, read_value}

-- a number of the range is what the value becomes
pub number_read : (nullable : Bool) (least greatest : ℤ) (before : Option ℤ) (n : ℤ) → is_in least greatest n ≡ true → read_value nullable least greatest before n ≡ Some n
number_read nullable least greatest before n inside = ap (λ (b : Bool). if b then Some n else (if nullable then None else before)) inside

-- outside of the range a number leaves a value that can't be null
pub outside_read : (nullable : Bool) (least greatest : ℤ) (before : Option ℤ) (n : ℤ) → is_in least greatest n ≡ false → read_value nullable least greatest before n ≡ (if nullable then None else before)
outside_read nullable least greatest before n outside = ap (λ (b : Bool). if b then Some n else (if nullable then None else before)) outside

-- a number outside of the range that changes a value makes it null
pub null_read : (nullable : Bool) (least greatest : ℤ) (before : Option ℤ) (n : ℤ) → is_in least greatest n ≡ false → read_value nullable least greatest before n ≢ before → read_value nullable least greatest before n ≡ None
null_read true least greatest before n outside changed = outside_read true least greatest before n outside
null_read false least greatest before n outside changed = absurd (changed (outside_read false least greatest before n outside))

-- the event of another number
pub number_told : (c : ControlId) (u : Usage) (before : Option ℤ) (n : ℤ) → Some n ≢ before → value_event c u before (Some n) ≡ number_event c u n
number_told c u None n changed = refl
number_told c u (Some v) n changed = elim (cases_Bool (int_eq v n)) [
  | inl e ↦ absurd (changed (ap (λ (w : ℤ). Some w) (sym ((Decides-int_eq v n).0 e))))
  | inr e ↦ ap (λ (b : Bool). if b then [] else number_event c u n) e
]

-- the event of a value that becomes null
pub null_told : (c : ControlId) (u : Usage) (before : Option ℤ) → None ≢ before → value_event c u before None ≡ null_event c u
null_told c u None changed = absurd (changed refl)
null_told c u (Some v) changed = refl
