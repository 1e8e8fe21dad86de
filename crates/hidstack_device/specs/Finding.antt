-- Which of the controls of a usage (HID 1.11, 6.2.2.8; our choice): by item, and in an item by place.
use Rattle.std.specs.Prelude.{◌≡◌, ℕ, zero, suc, ◌+◌, ◌≤◌, ◌==◌, ◌&&◌, Bool, true, false, if◌then◌else◌, List, Option, Some, None}
use Rattle.hid_report_descriptor.specs.declared.usage.Usage.{Usage}
use Rattle.hid_layout.specs.declared.control.ControlId.{ControlId}
use Rattle.hid_layout.specs.declared.control.Controls.{Controls}
use Rattle.hid_layout.specs.declared.control.Controls.TheVariants as head
use Rattle.hid_layout.specs.Controls.{Item, controls_of_form, form_at}
use Rattle.hid_layout.specs.Finding.{control_usage}
use Rattle.hidstack_device.specs.declared.find.InItem.{InItem}
use Rattle.hidstack_device.specs.declared.find.InItem.TheVariants.{At, After}

-- whether a usage that may be there is this one
abbrev pub is_usage : Usage → Option Usage → Bool
is_usage u None = false
is_usage u (Some v) = (v.page == u.page) && (v.id == u.id)

-- whether the control at a place has a usage
abbrev pub has_usage : List Item → Usage → ControlId → Bool
has_usage items u c = is_usage u (control_usage items c)

-- at how many places a control can stand among these controls
abbrev pub place_count : Controls → ℕ
place_count head.None = 0
place_count (head.Elements kind least greatest count) = count
place_count (head.Keys elements rolls_over count) = count

-- at how many places of a listed item a control can stand
abbrev pub places_of : List Item → ℕ → ℕ
places_of items i = place_count (controls_of_form (form_at items i))

-- 1 or 0
abbrev pub one_if : Bool → ℕ
one_if holds = if holds then 1 else 0

-- how many controls at the first places of a listed item have a usage
abbrev pub count_in : List Item → Usage → ℕ → ℕ → ℕ
count_in items u i zero = 0
count_in items u i (suc n) = count_in items u i n + one_if (has_usage items u (record { item = i; index = n }))

-- how many controls of the first listed items have a usage
abbrev pub count_before : List Item → Usage → ℕ → ℕ
count_before items u zero = 0
count_before items u (suc n) = count_before items u n + count_in items u n (places_of items n)

-- a control of a listed item has the usage, and comes after this many of the item that have it; or what is left of these
-- once the item's are counted
abbrev pub IsNthIn : List Item → Usage → ℕ → ℕ → InItem → Type 0
IsNthIn items u i nth (At j) = (has_usage items u (record { item = i; index = j }) ≡ true) × (count_in items u i j ≡ nth)
IsNthIn items u i nth (After left) = count_in items u i (places_of items i) + left ≡ nth

-- The control that has a usage and comes after this many that have it, by item and in an item by place; none where the
-- first items, of which there are n, have no more than these. Example: of a mouse's 01:30 the first, 0, is its X
abbrev pub IsNth : List Item → Usage → ℕ → ℕ → Option ControlId → Type 0
IsNth items u n nth (Some c) = (has_usage items u c ≡ true) × (count_before items u c.item + count_in items u c.item c.index ≡ nth)
IsNth items u n nth None = count_before items u n ≤ nth
