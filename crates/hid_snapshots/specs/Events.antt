-- The events of one item between two views: of its place, its usages, and what is kept before and
-- after (our choice; HID 1.11, 6.2.2.5 on variable items and arrays).
use Rattle.std.specs.Prelude.{◌≡◌, ℕ, ◌+◌, ◌-◌, min, length, Bool, true, false, if◌then◌else◌, List, [], ◌∷◌, ◌++◌, map, Option, Some, None, ℤ, pos}
use Rattle.std.specs.List.{zip}
use Rattle.std.specs.Ordering.{int_eq}
use Rattle.hid_layout.specs.declared.control.ControlId.{ControlId}
use Rattle.hid_report_descriptor.specs.declared.usage.Usage.{Usage}
use Rattle.hid_layout.specs.Controls.{Form, NoControls, Elements, Keys, Key, form_at, items_of}
use Rattle.hid_layout.specs.Layout.{Contents}
use Rattle.hid_report_descriptor.specs.declared.shape.Shape.{Shape}
use Rattle.hid_report_descriptor.specs.declared.shape.Shape.TheVariants.{Padding, Variable, Array}
use Rattle.hid_snapshots.specs.declared.control_state.ControlState.{ControlState}
use Rattle.hid_snapshots.specs.declared.control_state.ControlState.TheVariants.{Absent, Switches, Values, Motions, RollOver}
use Rattle.hid_snapshots.specs.declared.event.Event.{Event}
use Rattle.hid_snapshots.specs.declared.event.Event.TheVariants as event

-- the control at an index of the item at a place
abbrev pub control_at : ℕ → ℕ → ControlId
control_at item index = record { item = item; index = index }

-- the event of a switch: it goes up or down; none where it stays
abbrev pub switch_event : ControlId → Usage → Bool → Bool → List Event
switch_event c u true false = event.Up c u ∷ []
switch_event c u false true = event.Down c u ∷ []
switch_event c u before after = []

-- the event of a value: what it is now, or that it is null now; none where it stays
abbrev pub value_event : ControlId → Usage → Option ℤ → Option ℤ → List Event
value_event c u None None = []
value_event c u (Some v) None = event.Null c u ∷ []
value_event c u None (Some w) = event.Value c u w ∷ []
value_event c u (Some v) (Some w) = if int_eq v w then [] else event.Value c u w ∷ []

-- the event of a motion: how far it goes; none where that is 0
abbrev pub motion_event : ControlId → Usage → ℤ → List Event
motion_event c u by = if int_eq by (pos 0) then [] else event.Motion c u by ∷ []

-- the event of a key that goes up, if it does
abbrev pub up_event : ControlId → Usage → Bool → Bool → List Event
up_event c u true false = event.Up c u ∷ []
up_event c u before after = []

-- the event of a key that goes down, if it does
abbrev pub down_event : ControlId → Usage → Bool → Bool → List Event
down_event c u false true = event.Down c u ∷ []
down_event c u before after = []

-- the events of the elements of one item, from index j on
abbrev pub element_list_events : {C : Type 0} → (ℕ → Usage → C → List Event) → ℕ → List Usage → List C
    → List Event
element_list_events f j [] cs = []
element_list_events f j (u ∷ us) [] = []
element_list_events f j (u ∷ us) (c ∷ cs) = f j u c ++ element_list_events f (j + 1) us cs

-- the events of an item's switches, by rising index
abbrev pub switch_events : ℕ → List Usage → List Bool → List Bool → List Event
switch_events i us bs xs = element_list_events (λ j u p. switch_event (control_at i j) u p.0 p.1) 0 us (zip bs xs)

-- the events of an item's values, by rising index
abbrev pub value_events : ℕ → List Usage → List (Option ℤ) → List (Option ℤ) → List Event
value_events i us bs xs = element_list_events (λ j u p. value_event (control_at i j) u p.0 p.1) 0 us (zip bs xs)

-- the events of an item's motions, by rising index
abbrev pub motion_events : ℕ → List Usage → List ℤ → List Event
motion_events i us ms = element_list_events (λ j u m. motion_event (control_at i j) u m) 0 us ms

-- which keys of an array go up, by rising place
abbrev pub ups : ℕ → List Usage → List Bool → List Bool → List Event
ups i us bs xs = element_list_events (λ j u p. up_event (control_at i j) u p.0 p.1) 0 us (zip bs xs)

-- which keys of an array go down, by rising place
abbrev pub downs : ℕ → List Usage → List Bool → List Bool → List Event
downs i us bs xs = element_list_events (λ j u p. down_event (control_at i j) u p.0 p.1) 0 us (zip bs xs)

-- the usages of an array's places
abbrev pub key_usages : List Key → List Usage
key_usages keys = map (λ key. key.usage) keys

-- the usages of an item's controls, by element or by place in the usage list
abbrev pub usages_of : Form → List Usage
usages_of NoControls = []
usages_of (Elements kind least greatest usages) = usages
usages_of (Keys elements rolls keys) = key_usages keys

-- the place in the usage list that has the usage of a control
abbrev pub usage_place : Shape → List Usage → ℕ → ℕ
usage_place Variable us j = min j (length us - 1)
usage_place Array us j = j
usage_place Padding us j = j

-- the usages of the controls of the listed item at a place
abbrev pub usages_at : Contents → ℕ → List Usage
usages_at layout i = usages_of (form_at (items_of layout) i)

-- the events of a variable item's elements where their control state changes
abbrev pub element_events : ℕ → List Usage → ControlState → ControlState → List Event
element_events i us (Switches bs) (Switches xs) = switch_events i us bs xs
element_events i us (Values bs) (Values xs) = value_events i us bs xs
element_events i us before after = []

-- the events of an array's keys where their control state changes: each release, and then each press
abbrev pub key_events : ℕ → List Usage → ControlState → ControlState → List Event
key_events i us (Switches bs) (Switches xs) = ups i us bs xs ++ downs i us bs xs
key_events i us before after = []

-- The events of an item where a view changes: of a variable item by rising index, of an array each release and then
-- each press.
abbrev pub change_events : ℕ → Form → ControlState → ControlState → List Event
change_events i NoControls before after = []
change_events i (Elements kind least greatest usages) before after = element_events i usages before after
change_events i (Keys elements rolls keys) before after = key_events i (key_usages keys) before after

-- a control state has n places
abbrev pub HasPlaces : ControlState → ℕ → Type 0
HasPlaces (Switches ps) n = length ps ≡ n
HasPlaces (Values vs) n = length vs ≡ n
HasPlaces (Motions ms) n = length ms ≡ n
HasPlaces (RollOver ps) n = length ps ≡ n
HasPlaces Absent n = Unit {0}
