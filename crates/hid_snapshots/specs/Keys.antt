-- The pressed and held keys of an array, as words (our choice).
use Rattle.std.specs.Prelude.{◌≡◌, ℕ, Bool, true, false, List, [], length}
use Rattle.std.specs.Int.{div_ceil}
use Rattle.hid_layout.specs.Layout.{Contents}
use Rattle.hid_layout.specs.Controls.{Form, NoControls, Elements, Keys, Key, Item, form_at, items_of}
use Rattle.hid_layout.specs.declared.control.Controls.{Controls}
use Rattle.hid_layout.specs.declared.control.Controls.TheVariants as head
use Rattle.hid_snapshots.specs.declared.control_state.ControlState.{ControlState}
use Rattle.hid_snapshots.specs.declared.control_state.ControlState.TheVariants.{Absent, Switches, Values, Motions, RollOver}
use Rattle.hid_snapshots.specs.Words.{switch_words, is_bit}
use Rattle.hid_snapshots.specs.Snapshots.{state_at}

-- the places of an array's usage list
abbrev pub keys_of : Form → List Key
keys_of NoControls = []
keys_of (Elements kind least greatest usages) = []
keys_of (Keys elements rolls keys) = keys

-- the places of the usage list of the listed item at a place
abbrev pub keys_at : Contents → ℕ → List Key
keys_at layout i = keys_of (form_at (items_of layout) i)

-- the controls are the keys of an array
abbrev pub has_keys : Form → Bool
has_keys NoControls = false
has_keys (Elements kind least greatest usages) = false
has_keys (Keys elements rolls keys) = true

-- a listed item is an Input array
abbrev pub has_keys_at : List Item → ℕ → Bool
has_keys_at items i = has_keys (form_at items i)

-- the pressed places of a control state
abbrev pub pressed_places : ControlState → List Bool
pressed_places (Switches ps) = ps
pressed_places Absent = []
pressed_places (Values vs) = []
pressed_places (Motions ms) = []
pressed_places (RollOver ps) = []

-- the words of what is pressed at a listed item
abbrev pub key_words : List ControlState → ℕ → List ℕ
key_words states i = switch_words (pressed_places (state_at states i))

-- Bit i mod 64 of word i div 64 is 1 exactly where key i is pressed, and there are as many words as the places need.
pub record AreKeyWords (places : ℕ) (pressed : ℕ → Bool) (words : List ℕ) : Type 0 where
  pub count : length words ≡ div_ceil places 64
  pub bits : (i : ℕ) → is_bit words i ≡ pressed i

-- the controls, without their usages, are those of an array
abbrev pub is_array_head : Controls → Bool
is_array_head head.None = false
is_array_head (head.Elements kind least greatest count) = false
is_array_head (head.Keys elements rolls count) = true
