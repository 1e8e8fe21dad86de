-- How a line names a control, and which control that is (our choice: docs/LAB.md).
use Rattle.std.specs.Prelude.{◌≡◌, ◌<◌, ◌≤◌, ℕ, zero, suc, ◌+◌, ◌-◌, ◌==◌, ◌&&◌, ◌||◌, nat_le, nat_lt, Bool, true, false, List, [], ◌∷◌, ◌++◌, length, take, drop, if◌then◌else◌, Option, None, Some, position, slice_index, slice_get}
use Rattle.std.specs.List.{filter}
use Rattle.std.specs.Option.{option_map}
use Rattle.hid_report_descriptor.specs.declared.usage.Usage.{Usage}
use Rattle.hid_report_descriptor.specs.Usages.{Entry, entry_count}
use Rattle.hid_layout.specs.declared.control.ControlId.{ControlId}
use Rattle.hid_layout.specs.declared.control.Control.{Control}
use Rattle.hid_layout.specs.Layout.{Contents}
use Rattle.hid_layout.specs.Controls.{Item, Form, NoControls, Elements, Keys, control_in, control_of, items_of}
use Rattle.hid_text.specs.Words.{Word}
use Rattle.hid_text.specs.Numbers.{number_of, count_of, usage_of_word}
use Rattle.lab_lines.specs.declared.control_name.ControlName.{ControlName}
use Rattle.lab_lines.specs.declared.control_name.ControlName.TheVariants as declared_name
use Rattle.lab_lines.specs.declared.control_name.Sought.{Sought}
use Rattle.lab_lines.specs.declared.control_name.Sought.TheVariants as sought
use Rattle.hid_layout.specs.declared.control.Controls.{Controls}
use Rattle.hid_layout.specs.declared.control.Controls.TheVariants as controls
use Rattle.lab_lines.specs.Names.{names}

-- How a control is named: by its usage, or by a name of that, as the n-th from 1; or by its place.
pub data Named : Type 0 where
  OfUsage : Usage → ℕ → Named
  AtPlace : ControlId → Named
  OfName : Word → ℕ → Named

-- the name that a value of a control's name stands for
abbrev pub named_of : ControlName → Named
named_of (declared_name.Usage usage nth) = OfUsage usage nth
named_of (declared_name.Place control) = AtPlace control
named_of (declared_name.Named name nth) = OfName name.now nth

-- of two places the first one, if it is there
abbrev pub either : Option ℕ → Option ℕ → Option ℕ
either (Some place) other = Some place
either None other = other

-- the place of the last # so far, after one more byte
abbrev pub mark_after : Option ℕ → ℕ → ℕ → Option ℕ
mark_after mark at b = if b == 35 then Some at else mark

-- the place of the last # of a word
unfoldable pub last_mark : Word → Option ℕ
last_mark [] = None
last_mark (b ∷ word) = either (option_map suc (last_mark word)) (if b == 35 then Some 0 else None)

-- a word up to a mark, and the count after it, if something stands before the mark
abbrev pub count_at_mark : Word → ℕ → Option ℕ → Word × ℕ
count_at_mark word mark None = (word, 1)
count_at_mark word mark (Some nth) = if nat_lt 0 mark then (take mark word, nth) else (word, 1)

-- a word that may have a mark
abbrev pub split_at_mark : Word → Option ℕ → Word × ℕ
split_at_mark word None = (word, 1)
split_at_mark word (Some mark) = count_at_mark word mark (count_of (drop (mark + 1) word))

-- a word without its number, and the number: 1 where none stands there, as in Keyboard_#
abbrev pub split_number : Word → Word × ℕ
split_number word = split_at_mark word (last_mark word)

-- a number of at most five digits: an item has at most 65,536 places
abbrev pub index_of : Word → Option ℕ
index_of word = if nat_le (length word) 5 then number_of 10 word else None

-- what parts the two numbers of a place
abbrev pub is_point : ℕ → Bool
is_point b = b == 46

-- the control of two numbers, if both are there
abbrev pub place_from : Option ℕ → Option ℕ → Option ControlId
place_from (Some item) (Some index) = Some (record { item = item; index = index })
place_from (Some item) None = None
place_from None index = None

-- the numbers before and after a point
abbrev pub place_at : Word → Option ℕ → Option ControlId
place_at word None = None
place_at word (Some point) = place_from (index_of (take point word)) (index_of (drop (point + 1) word))

-- a place: 7.0
unfoldable pub place_of_word : Word → Option ControlId
place_of_word word = place_at word (position is_point word)

-- a letter, of either case
abbrev pub is_letter : ℕ → Bool
is_letter b = nat_le 65 b && nat_le b 90 || nat_le 97 b && nat_le b 122

-- a usage, else a place, else a name that begins with a letter
abbrev pub name_from : Word → ℕ → Option Usage → Option ControlId → Option Named
name_from front nth (Some usage) place = Some (OfUsage usage nth)
name_from front nth None (Some control) = Some (AtPlace control)
name_from front nth None None = if is_letter (slice_index front 0) then Some (OfName front nth) else None

-- how a word names a control, if it does. Example: 0D:42#2 is the second control with the usage 0D:42, and 7.0 the one at
-- place 0 of item 7
unfoldable pub control_name_of : Word → Option Named
control_name_of word =
    name_from (split_number word).0 (split_number word).1 (usage_of_word (split_number word).0) (place_of_word word)

-- how many places an item's controls may have
abbrev pub place_count : Form → ℕ
place_count NoControls = 0
place_count (Elements kind least greatest usages) = length usages
place_count (Keys elements rolls keys) = length keys

-- a control before others, if it is there
abbrev pub onto : ControlId → Option Control → List (ControlId × Usage) → List (ControlId × Usage)
onto id None more = more
onto id (Some control) more = (id, control.usage) ∷ more

-- the controls at so many places of an item, from one on, each with its usage
unfoldable pub controls_from : Form → ℕ → ℕ → ℕ → List (ControlId × Usage)
controls_from form item index zero = []
controls_from form item index (suc n) =
    onto (record { item = item; index = index }) (control_in form index) (controls_from form item (index + 1) n)

-- the controls of an item
abbrev pub item_controls : Form → ℕ → List (ControlId × Usage)
item_controls form item = controls_from form item 0 (place_count form)

-- the controls of items, the first of which has this number
unfoldable pub controls_of_items : ℕ → List Item → List (ControlId × Usage)
controls_of_items i [] = []
controls_of_items i (item ∷ more) = item_controls item.form i ++ controls_of_items (i + 1) more

-- the controls of a layout with their usages, by item and then by place in it
abbrev pub controls_of_layout : Contents → List (ControlId × Usage)
controls_of_layout layout = controls_of_items 0 (items_of layout)

-- two usages are the same
abbrev pub same_usage : Usage → Usage → Bool
same_usage a b = (a.page == b.page) && (a.id == b.id)

-- a usage is looked for: this one, or one with this name
abbrev pub sought_by : Sought → Usage → Bool
sought_by (sought.This this) usage = same_usage usage this
sought_by (sought.Named name) usage = names usage name.now

-- the usage at a place of a range isn't looked for
abbrev pub IsAnother : (Usage → Bool) → Entry → ℕ → Type 0
IsAnother sought entry j = sought (record { page = entry.0.page; id = entry.0.id + j }) ≡ false

-- the places of a range from one up to another, where no usage is that is looked for
abbrev pub AreOthers : (Usage → Bool) → Entry → ℕ → ℕ → Type 0
AreOthers sought entry from to = (j : ℕ) → from ≤ j → j < to → IsAnother sought entry j

-- the first place of a range, from one on, whose usage is looked for, if there is one
abbrev pub IsFirstPlace : (Usage → Bool) → Entry → ℕ → Option ℕ → Type 0
IsFirstPlace sought entry from (Some place) =
    (from ≤ place) × (place < entry_count entry) × AreOthers sought entry from place
    × (sought (record { page = entry.0.page; id = entry.0.id + place }) ≡ true)
IsFirstPlace sought entry from None = AreOthers sought entry from (entry_count entry)

-- a place of a usage list, if it is one, has a usage that is looked for
abbrev pub IsSought : (Usage → Bool) → List Usage → ℕ → Type 0
IsSought sought usages j = (u : Usage) → slice_get usages j ≡ Some u → sought u ≡ true

-- the places of a usage list from one up to another, where no usage is that is looked for
abbrev pub ArePassed : (Usage → Bool) → List Usage → ℕ → ℕ → Type 0
ArePassed sought usages from to =
    (j : ℕ) → from ≤ j → j < to → (u : Usage) × (slice_get usages j ≡ Some u) × (sought u ≡ false)

-- a control that is looked for stands there
abbrev pub is_found : Sought → Option Control → Bool
is_found sought None = false
is_found sought (Some control) = sought_by sought control.usage

-- how many places the controls of an item may have
abbrev pub places_of : Controls → ℕ
places_of controls.None = 0
places_of (controls.Elements kind least greatest count) = count
places_of (controls.Keys elements rolls count) = count

-- of the controls whose usage is looked for the n-th, from 1
abbrev pub nth_control : (Usage → Bool) → ℕ → List (ControlId × Usage) → Option ControlId
nth_control sought nth controls =
    option_map (λ c. c.0) (slice_get (filter (λ c. sought c.1) controls) (nth - 1))

-- a place where a control stands
abbrev pub if_there : ControlId → Option Control → Option ControlId
if_there id None = None
if_there id (Some control) = Some id

-- the control that is named: of those with the usage, or with a usage of this name, the n-th; or the one at the place. Example:
-- of two fingers 0D:42#2 is the tip switch of the second
unfoldable pub control_named : Contents → Named → Option ControlId
control_named layout (OfUsage usage nth) = nth_control (λ u. same_usage u usage) nth (controls_of_layout layout)
control_named layout (OfName name nth) = nth_control (λ u. names u name) nth (controls_of_layout layout)
control_named layout (AtPlace id) = if_there id (control_of (items_of layout) id)
