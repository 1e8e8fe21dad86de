-- What a report shows of a snapshot, and when its controls call for it
-- (our choice; HID 1.11, 8 and appendix C on arrays).
use Rattle.std.specs.Prelude.{◌≡◌, length, ℕ, Bool, true, false, not, ◌&&◌, ◌||◌, ◌==◌, nat_lt, if◌then◌else◌, List, [], ◌∷◌, map, replicate, slice_get, unwrap_or, Option, Some, None, ℤ, pos, negsuc, ◌-ℤ◌}
use Rattle.std.specs.Int.{int_min, int_max}
use Rattle.std.specs.List.{list_any, list_all, zip}
use Rattle.std.specs.Ordering.{int_eq}
use Rattle.std.specs.Bool.{beq}
use Rattle.std.specs.Option.{option_eq}
use Rattle.std.specs.Cmp.Lexicographic.{pointwise}
use Rattle.hid_layout.specs.declared.control.Controls.{Controls}
use Rattle.hid_layout.specs.declared.control.Controls.TheVariants as head
use Rattle.hid_layout.specs.declared.control.ControlKind.TheVariants.{Relative}
use Rattle.hid_layout.specs.Layout.{Contents}
use Rattle.hid_layout.specs.Controls.{Item, controls_of_form, is_input, no_item}
use Rattle.hid_snapshots.specs.declared.control_state.ControlState.{ControlState}
use Rattle.hid_snapshots.specs.declared.control_state.ControlState.TheVariants.{Absent, Switches, Values, Motions, RollOver}
use Rattle.hid_layout.specs.declared.control.ControlId.{ControlId}
use Rattle.hid_snapshots.specs.Snapshots.{motion_in, state_at}
use Rattle.hid_snapshots.specs.ControlStates.{are_motions, is_in, blank_state, switch_count}

-- whether an item stands in the Input report of this number
abbrev pub is_of : ℕ → Item → Bool
is_of r item = elim item.report [ None ↦ false | Some n ↦ n == r ]

-- the report of this number is an Input report
abbrev pub IsInput : Contents → ℕ → Type 0
IsInput layout r = is_input layout.reports r ≡ true

-- the item at a place; one without controls after the last
abbrev pub item_at : List Item → ℕ → Item
item_at items i = unwrap_or (slice_get items i) no_item

-- the items' control states of two lists, put together item by item
abbrev pub by_item : {A : Type 0} → (Item → ControlState → ControlState → A) → List Item → List ControlState
    → List ControlState → List A
by_item f [] xs bs = []
by_item f (item ∷ items) [] bs = []
by_item f (item ∷ items) (a ∷ xs) [] = []
by_item f (item ∷ items) (a ∷ xs) (b ∷ bs) = f item a b ∷ by_item f items xs bs

-- what an element can carry of a motion
abbrev pub clamp : ℤ → ℤ → ℤ → ℤ
clamp least greatest m = int_max least (int_min greatest m)

-- A control state as its report shows it: motions clamped, and an array with more keys than elements rolled over.
abbrev pub shown_state : Controls → ControlState → ControlState
shown_state (head.Elements kind least greatest count) (Motions ms) = Motions (map (clamp least greatest) ms)
shown_state (head.Keys elements rolls_over count) (Switches ps) =
    if nat_lt elements (switch_count ps) then RollOver ps else Switches ps
shown_state controls state = state

-- The part of an item in report r, as it shows the state of the controls; another item's part stays.
abbrev pub shown_part_of : ℕ → Item → ControlState → ControlState → ControlState
shown_part_of r item state part =
    if is_of r item then shown_state (controls_of_form item.form) state else part

-- what a snapshot shows in the part of report r, and the parts of the others as they were: motions are clamped to what
-- elements carry, and an array with more keys than elements is rolled over. Example: 200 to the right shows 127
abbrev pub shown_parts : List Item → ℕ → List ControlState → List ControlState → List ControlState
shown_parts items r snapshot parts = by_item (shown_part_of r) items snapshot parts

-- a part without its motion: every motion is 0
abbrev pub without_motion : ControlState → ControlState
without_motion (Motions ms) = Motions (replicate (length ms) (pos 0))
without_motion part = part

-- The still part of a control state: what its report shows of it, with every motion 0.
abbrev pub still_of : ℕ → Item → ControlState → ControlState → ControlState
still_of r item state part =
    if is_of r item then without_motion (shown_state (controls_of_form item.form) state) else part

-- the still part of report r of a snapshot, with every motion 0, and the parts of the others as they were. Example:
-- button 1 and 200 to the right is 01 00 00
abbrev pub still_parts : List Item → ℕ → List ControlState → List ControlState → List ControlState
still_parts items r snapshot parts = by_item (still_of r) items snapshot parts

-- the part of an item: the still one if `true`, else as it is shown
abbrev pub part_shown : Bool → ℕ → Item → ControlState → ControlState → ControlState
part_shown true = still_of
part_shown false = shown_part_of

-- the parts of a blank snapshot
abbrev pub blank_parts : List Item → List ControlState
blank_parts items =
    map (λ item. shown_state (controls_of_form item.form) (blank_state (controls_of_form item.form))) items

-- what is left of each motion of a list, less that of another list
abbrev pub differences : List ℤ → List ℤ → List ℤ
differences ms ns = map (λ p. p.0 -ℤ p.1) (zip ms ns)

-- a control state less the motion that a part carries
abbrev pub minus_motion : ControlState → ControlState → ControlState
minus_motion (Motions ms) (Motions ns) = Motions (differences ms ns)
minus_motion state part = state

-- The state of an item's controls without the motion that its part carries, if the item is in report r.
abbrev pub without_motion_of : ℕ → Item → ControlState → ControlState → ControlState
without_motion_of r item state part = if is_of r item then minus_motion state part else state

-- the snapshot once the motion of the part of report r is taken out. Example: 73 stay of 200
abbrev pub without_part_motion : List Item → ℕ → List ControlState → List ControlState → List ControlState
without_part_motion items r snapshot parts = by_item (without_motion_of r) items snapshot parts

-- whether two lists have the same places pressed
abbrev pub same_flags : List Bool → List Bool → Bool
same_flags xs bs = pointwise beq xs bs

-- whether two lists have the same values, or null
abbrev pub same_values : List (Option ℤ) → List (Option ℤ) → Bool
same_values xs bs = pointwise (option_eq int_eq) xs bs

-- two still parts are the same: motions aside, and of an array that rolled over nothing else is
-- shown
abbrev pub is_same_still : ControlState → ControlState → Bool
is_same_still (Switches xs) (Switches bs) = same_flags xs bs
is_same_still (Values xs) (Values bs) = same_values xs bs
is_same_still (Motions xs) (Motions bs) = true
is_same_still (RollOver xs) (RollOver bs) = true
is_same_still Absent Absent = true
is_same_still a b = false

-- something has moved
abbrev pub has_motion : ControlState → Bool
has_motion (Motions ms) = list_any (λ m. not (int_eq m (pos 0))) ms
has_motion state = false

-- a part is still what its report shows of a control state, motion aside
abbrev pub is_shown : ControlState → Controls → ControlState → Bool
is_shown state controls part = is_same_still (shown_state controls state) part

-- The controls of report r call for it: its still part isn't the one that was fixed last, or something has moved.
abbrev pub calls_for : ℕ → Item → ControlState → ControlState → Bool
calls_for r item state part =
    is_of r item && (has_motion state || not (is_shown state (controls_of_form item.form) part))

-- Some control calls for report r: something has moved, or its still part isn't the one fixed last. Example: a key
-- pressed and released calls for nothing
abbrev pub is_changed : List Item → ℕ → List ControlState → List ControlState → Bool
is_changed items r snapshot parts = list_any (λ called. called) (by_item (calls_for r) items snapshot parts)

-- a control state can be copied into the room of another
abbrev pub HasRoomOf : ControlState → ControlState → Type 0
HasRoomOf (Switches xs) (Switches bs) = length bs ≡ length xs
HasRoomOf (Switches xs) (RollOver bs) = length bs ≡ length xs
HasRoomOf (Values xs) (Values bs) = length bs ≡ length xs
HasRoomOf (Motions xs) (Motions bs) = length bs ≡ length xs
HasRoomOf Absent Absent = Unit {0}
HasRoomOf _ _ = ⊥

-- an array with more keys than elements
abbrev pub rolled_state : ℕ → ControlState → ControlState
rolled_state elements (Switches ps) = if nat_lt elements (switch_count ps) then RollOver ps else Switches ps
rolled_state elements state = state

-- 0 can be sent as motion
abbrev pub has_zero : Controls → Bool
has_zero (head.Elements Relative least greatest count) = is_in least greatest (pos 0)
has_zero controls = true

-- every relative control can send 0
abbrev pub has_zeros : List Item → Bool
has_zeros items = list_all (λ item. has_zero (controls_of_form item.form)) items

-- motions of 32 bits
abbrev pub AreMotions : ControlState → Type 0
AreMotions (Motions ms) = are_motions (negsuc 0x7FFF_FFFF) (pos 0x7FFF_FFFF) ms
AreMotions state = Unit {0}

-- the motion of a control in the parts; 0 where it has none
abbrev pub motion_of : List ControlState → ControlId → ℤ
motion_of parts c = motion_in (state_at parts c.item) c.index
