-- The keys that the elements of an array name, as they are read one by one (HID 1.11, 6.2.2.5 and appendix C).
use Rattle.std.specs.Prelude.{◌≡◌, ℕ, ◌<◌, ◌≤◌, Bool, true, false, not, List, [], ◌∷◌, ◌++◌, length, replicate, take, slice_get, Option, Some, ℤ}
use Rattle.std.specs.List.{list_any}
use Rattle.hid_report_descriptor.specs.declared.usage.Usage.{Usage}
use Rattle.hid_report_descriptor.specs.Usages.{usage_list}
use Rattle.hid_layout.specs.Controls.{Key, array_keys}
use Rattle.hid_layout.specs.Layout.{Contents}
use Rattle.hid_snapshots.specs.declared.control_state.ControlState.{ControlState}
use Rattle.hid_snapshots.specs.declared.control_state.ControlState.TheVariants.{Switches}
use Rattle.hid_snapshots.specs.declared.event.Event.{Event}
use Rattle.hid_snapshots.specs.Events.{ups, downs}
use Rattle.hid_snapshots.specs.Words.{is_on}
use Rattle.hid_usages.specs.declared.key_array.KeyArray.{KeyArray}
use Rattle.hid_usages.specs.Keeping.{NamesNoNewKey}
use Rattle.hid_usages.specs.Reading.{FitsFields, keys_at, named_keys_from, names_rollover, read_keys}

-- the usage list of an array
abbrev pub usages_of_array : KeyArray → List Usage
usages_of_array array = usage_list array.entries.now

-- the keys of an array, by place in its usage list
abbrev pub keys_of_array : KeyArray → List Key
keys_of_array array = array_keys array.item.now (usages_of_array array)

-- an element of the array names ErrorRollOver by this number
abbrev pub is_rollover_number : KeyArray → ℤ → Bool
is_rollover_number array = names_rollover array.item.now (usages_of_array array)

-- an array has the ranges of usages of the item at its place
pub record HasUsages (array : KeyArray) : Type 0 where
  pub there : array.place < length array.layout.now.items
  pub entries : slice_get array.layout.now.entries array.place ≡ Some array.entries.now

-- flags have one for each key of an array, and may have more
abbrev pub HasFlags : KeyArray → List Bool → Type 0
HasFlags array flags = length (keys_of_array array) ≤ length flags

-- an element of the array can have this number, and there is a flag for each key, and there may be more
pub record CanAdd (array : KeyArray) (number : ℤ) (flags : List Bool) : Type 0 where
  pub fits : FitsFields array.item.now number
  pub room : HasFlags array flags

-- the first flags, one for each key of an array, are set exactly for the keys that these numbers name
abbrev pub AreKeysNamed : KeyArray → List ℤ → List Bool → Type 0
AreKeysNamed array numbers flags =
    take (length (keys_of_array array)) flags ≡ named_keys_from array.item.now numbers 0 (keys_of_array array)

-- the flags of some numbers' keys become those of these numbers and one more
abbrev pub AddsNumber : KeyArray → List ℤ → ℤ → List Bool → List Bool → Type 0
AddsNumber array numbers number old new = AreKeysNamed array numbers old → AreKeysNamed array (numbers ++ number ∷ []) new

-- the key that a number names is added to the keys that any numbers name
abbrev pub AddsKey : KeyArray → ℤ → List Bool → List Bool → Type 0
AddsKey array number old new = (numbers : List ℤ) → AddsNumber array numbers number old new

-- adds the key of a number, where the key of the number before it is set already
abbrev pub AddsNextKey : KeyArray → Option ℤ → ℤ → List Bool → List Bool → Type 0
AddsNextKey array before number old new =
    (numbers : List ℤ) → NamesNoNewKey array.item.now numbers (keys_of_array array) before
    → AddsNumber array numbers number old new

-- flags past the array's keys stay, and the list keeps its length
pub record KeepsOtherFlags (array : KeyArray) (old new : List Bool) : Type 0 where
  pub others : (i : ℕ) → length (keys_of_array array) ≤ i → is_on new i ≡ is_on old i
  pub len : length new ≡ length old

-- no flag from a place on is set
abbrev pub NoneSetFrom : ℕ → List Bool → Type 0
NoneSetFrom n flags = (i : ℕ) → n ≤ i → is_on flags i ≡ false

-- the events of an array's keys, by the flags before and those after, which may be more: each release, and then each press
abbrev pub flag_events : ℕ → List Usage → List Bool → List Bool → List Event
flag_events i us before after = ups i us before after ++ downs i us before after

-- what is kept of an array at a place, of which these keys are held, once these numbers are read
abbrev pub keys_by_array : Contents → ℕ → KeyArray → List Bool → List ℤ → ControlState
keys_by_array layout i array held vs = read_keys array.item.now (usages_of_array array) (keys_at layout i) (Switches held) vs

-- flags have one for each key of an array, and may have more, and none is set
pub record AreClear (array : KeyArray) (flags : List Bool) : Type 0 where
  pub room : HasFlags array flags
  pub none : flags ≡ replicate (length flags) false

-- The numbers of an array's elements are read into flags: false where one names ErrorRollOver, else the keys that they
-- name are set. No flag after those of the keys is.
pub record ReadsNumbers (array : KeyArray) (numbers : List ℤ) (result : Bool) (old new : List Bool) : Type 0 where
  pub rolls : result ≡ not (list_any (is_rollover_number array) numbers)
  pub keys : result ≡ true → AreKeysNamed array numbers new
  pub others : NoneSetFrom (length (keys_of_array array)) new
  pub len : length new ≡ length old
