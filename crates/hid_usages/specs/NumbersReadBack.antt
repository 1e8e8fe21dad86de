-- That reading the numbers of a part gives the part (our choice).
use Rattle.std.specs.Prelude.{◌≡◌, ℕ, ◌+◌, ◌<◌, true, false, List, [], ◌∷◌, length, ℤ, pos, ◌+ℤ◌}
use Rattle.std.specs.Ordering.{int_eq}
use Rattle.std.specs.List.{list_any}
use Rattle.hid_layout.specs.declared.main_item.MainItem.{MainItem}
use Rattle.hid_report_descriptor.specs.declared.usage.Usage.{Usage}
use Rattle.hid_layout.specs.Controls.{Form, NoControls, Elements, Keys, Key}
use Rattle.hid_snapshots.specs.declared.control_state.ControlState.{ControlState}
use Rattle.hid_snapshots.specs.declared.control_state.ControlState.TheVariants.{Absent, Switches, Values, Motions, RollOver}
use Rattle.hid_snapshots.specs.Views.{seen_state}
use Rattle.hid_snapshots.specs.ControlStates.{are_values, are_motions, are_pressable}
use Rattle.hid_usages.specs.Reading.{is_in, has_null, read_state, names_rollover}
use Rattle.hid_snapshots.specs.Sending.{element_numbers, or_zero, null_number, empty_number, rollover_number}

-- the code names no key
abbrev pub names_no_key : ℤ → ℤ → ℕ → List Key → Type 0
names_no_key code min i [] = Unit {0}
names_no_key code min i (key ∷ keys) =
    (key.is_switch ≡ true → int_eq code (min +ℤ pos i) ≡ false) × names_no_key code min (i + 1) keys

-- What a part of an item is: values and motions that its fields can carry, pressed keys with an empty code that names
-- nothing, or more keys than elements with a rollover code.
abbrev pub IsPart : MainItem → List Usage → Form → ControlState → Type 0
IsPart item us (Elements kind least greatest usages) (Switches ps) = Unit {0}
IsPart item us (Elements kind least greatest usages) (Values vs) =
    are_values (has_null kind) least greatest vs
    × (has_null kind ≡ true → is_in least greatest (or_zero (null_number item)) ≡ false)
IsPart item us (Elements kind least greatest usages) (Motions ms) = are_motions least greatest ms
IsPart item us (Keys elements rolls keys) (Switches ps) =
    are_pressable keys ps × names_no_key (or_zero (empty_number item us)) item.min 0 keys
    × (list_any (names_rollover item us) (element_numbers item us (Keys elements rolls keys) (Switches ps))
    ≡ false)
IsPart item us (Keys elements rolls keys) (RollOver ps) =
    (0 < elements) × (names_rollover item us (or_zero (rollover_number item us)) ≡ true)
IsPart item us NoControls Absent = Unit {0}
IsPart item us _ _ = ⊥

-- what is kept of the item in a view has the shape of the part
abbrev pub IsLike : ControlState → ControlState → Type 0
IsLike (Switches bs) (Switches ps) = length bs ≡ length ps
IsLike (Values bs) (Values vs) = length bs ≡ length vs
IsLike (Switches bs) (RollOver ps) = Unit {0}
IsLike (Motions bs) (Motions ms) = Unit {0}
IsLike Absent (Motions ms) = Unit {0}
IsLike view Absent = Unit {0}
IsLike _ _ = ⊥

-- reading the numbers of a part in a view gives the view that sees the part
abbrev pub ReadsBack : Type 0
ReadsBack =
    (item : MainItem) (us : List Usage) (form : Form) (view part : ControlState) → IsPart item us form part
    → IsLike view part
    → read_state item us form view (element_numbers item us form part) ≡ seen_state view part
