-- What is kept of a listed item: which control states suit its controls, and how they are at first (HID 1.11, 5.10 and
-- 6.2.2.5).
use Rattle.std.specs.Prelude.{◌≡◌, ℕ, ◌≤◌, Bool, true, false, if◌then◌else◌, List, [], ◌∷◌, length, map, replicate, slice_get, count_by, Option, Some, None, ℤ, pos, negsuc}
use Rattle.hid_layout.specs.declared.control.Controls.{Controls}
use Rattle.hid_layout.specs.declared.control.Controls.TheVariants as head
use Rattle.hid_layout.specs.declared.control.ControlKind.{ControlKind}
use Rattle.hid_layout.specs.declared.control.ControlKind.TheVariants.{Switch, Value, NullValue, Relative}
use Rattle.hid_layout.specs.Controls.{Form, Elements, Keys, Item, Key, controls_of_form}
pub use Rattle.hid_layout.specs.Codes.{is_in}
pub use Rattle.hid_layout.specs.ControlKinds.{has_null}
use Rattle.hid_snapshots.specs.declared.control_state.ControlState.{ControlState}
use Rattle.hid_snapshots.specs.declared.control_state.ControlState.TheVariants.{Absent, Switches, Values, Motions, RollOver}

-- motion that isn't reported yet is kept as an i32
abbrev pub is_i32 : ℤ → Bool
is_i32 v = is_in (negsuc 0x7FFF_FFFF) (pos 0x7FFF_FFFF) v

-- how many places are pressed
abbrev pub switch_count : List Bool → ℕ
switch_count ps = count_by (λ p. p) ps

-- The first value of a control: null where it has null, else 0 where 0 can be sent, else the least value that can be
-- sent.
abbrev pub first_value : ControlKind → ℤ → ℤ → Option ℤ
first_value NullValue least greatest = None
first_value Switch least greatest = Some (if is_in least greatest (pos 0) then pos 0 else least)
first_value Value least greatest = Some (if is_in least greatest (pos 0) then pos 0 else least)
first_value Relative least greatest = Some (if is_in least greatest (pos 0) then pos 0 else least)

-- The control state of an item at first: nothing is pressed and nothing has moved.
abbrev pub blank_state : Controls → ControlState
blank_state head.None = Absent
blank_state (head.Elements Switch least greatest count) = Switches (replicate count false)
blank_state (head.Elements Value least greatest count) =
    Values (replicate count (first_value Value least greatest))
blank_state (head.Elements NullValue least greatest count) =
    Values (replicate count (first_value NullValue least greatest))
blank_state (head.Elements Relative least greatest count) = Motions (replicate count (pos 0))
blank_state (head.Keys elements rolls_over count) = Switches (replicate count false)

-- The control states of a layout of which nothing is pressed and nothing has moved. Example: a blank hat switch is null
abbrev pub blank : List Item → List ControlState
blank items = map (λ item. blank_state (controls_of_form item.form)) items

-- a control state has the room that the controls of its item need: one place for each element, or for each place of the
-- usage list
abbrev pub HasRoom : Controls → ControlState → Type 0
HasRoom head.None Absent = Unit {0}
HasRoom (head.Elements Switch least greatest count) (Switches ps) = length ps ≡ count
HasRoom (head.Elements Value least greatest count) (Values vs) = length vs ≡ count
HasRoom (head.Elements NullValue least greatest count) (Values vs) = length vs ≡ count
HasRoom (head.Elements Relative least greatest count) (Motions ms) = length ms ≡ count
HasRoom (head.Keys elements rolls_over count) (Switches ps) = length ps ≡ count
HasRoom (head.Keys elements rolls_over count) (RollOver ps) = length ps ≡ count
HasRoom _ _ = ⊥

-- a value that an element can carry; null only where the control has it
abbrev pub is_value : Bool → ℤ → ℤ → Option ℤ → Type 0
is_value null least greatest None = null ≡ true
is_value null least greatest (Some v) = is_in least greatest v ≡ true

-- each is a value that an element can carry, or null
abbrev pub are_values : Bool → ℤ → ℤ → List (Option ℤ) → Type 0
are_values null least greatest [] = Unit {0}
are_values null least greatest (v ∷ vs) = is_value null least greatest v × are_values null least greatest vs

-- each motion lies in this range
abbrev pub are_motions : ℤ → ℤ → List ℤ → Type 0
are_motions least greatest [] = Unit {0}
are_motions least greatest (m ∷ ms) = (is_in least greatest m ≡ true) × are_motions least greatest ms

-- only keys that an element can name are pressed
abbrev pub are_pressable : List Key → List Bool → Type 0
are_pressable [] [] = Unit {0}
are_pressable [] (p ∷ ps) = ⊥
are_pressable (key ∷ keys) [] = ⊥
are_pressable (key ∷ keys) (p ∷ ps) = (p ≡ true → key.is_switch ≡ true) × are_pressable keys ps

-- What a snapshot keeps of an item: values that its elements can carry, motions of 32 bits, and no more keys than
-- elements unless a code reports more.
abbrev pub InSnapshot : Form → ControlState → Type 0
InSnapshot (Elements kind least greatest usages) (Values vs) = are_values (has_null kind) least greatest vs
InSnapshot (Elements kind least greatest usages) (Motions ms) =
    are_motions (negsuc 0x7FFF_FFFF) (pos 0x7FFF_FFFF) ms
InSnapshot (Keys elements rolls_over keys) (Switches ps) =
    are_pressable keys ps × (rolls_over ≡ false → switch_count ps ≤ elements)
InSnapshot (Keys elements rolls_over keys) (RollOver ps) = ⊥
InSnapshot form state = Unit {0}

-- What a part shows of an item: values and motions that its elements can carry, and keys that have an element each,
-- unless a code reports more.
abbrev pub InPart : Form → ControlState → Type 0
InPart (Elements kind least greatest usages) (Values vs) = are_values (has_null kind) least greatest vs
InPart (Elements kind least greatest usages) (Motions ms) = are_motions least greatest ms
InPart (Keys elements rolls_over keys) (Switches ps) = are_pressable keys ps × (switch_count ps ≤ elements)
InPart (Keys elements rolls_over keys) (RollOver ps) = rolls_over ≡ true
InPart form state = Unit {0}

-- What a view keeps of an item: a key for each element at most.
abbrev pub InView : Form → ControlState → Type 0
InView (Keys elements rolls_over keys) (Switches ps) = switch_count ps ≤ elements
InView (Keys elements rolls_over keys) (RollOver ps) = ⊥
InView form state = Unit {0}

-- Control states that suit items: one for each item, with room for its controls, and with what may stand in it.
pub record FitControlStates (stands : Form → ControlState → Type 0) (items : List Item)
    (states : List ControlState) : Type 0 where
  pub one_each : length states ≡ length items
  pub room : (i : ℕ) (item : Item) (state : ControlState) → slice_get items i ≡ Some item
      → slice_get states i ≡ Some state → HasRoom (controls_of_form item.form) state
  pub suits : (i : ℕ) (item : Item) (state : ControlState) → slice_get items i ≡ Some item
      → slice_get states i ≡ Some state → stands item.form state

-- the control states of a snapshot suit these items
abbrev pub FitsSnapshot : List Item → List ControlState → Type 0
FitsSnapshot items states = FitControlStates InSnapshot items states

-- the parts that reports show suit these items
abbrev pub FitsShown : List Item → List ControlState → Type 0
FitsShown items states = FitControlStates InPart items states

-- the control states of a view suit these items
abbrev pub FitsView : List Item → List ControlState → Type 0
FitsView items states = FitControlStates InView items states
