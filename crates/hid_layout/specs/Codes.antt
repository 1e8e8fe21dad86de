-- The codes of an item: the numbers by which its elements report null (HID 1.11, 5.10), that they are empty (our
-- choice), and that the array rolled over (HID Usage Tables, Keyboard/Keypad page).
use Rattle.std.specs.Prelude.{◌≡◌, ℕ, zero, suc, ◌+◌, ◌^◌, Bool, true, not, ◌&&◌, ◌||◌, if◌then◌else◌, List, slice_get, Option, Some, None, ℤ, pos, negsuc, ◌+ℤ◌, ◌-ℤ◌, int_le}
use Rattle.std.specs.Option.{option_map}
use Rattle.hid_fields.specs.Value.{value_of, is_negative}
use Rattle.hid_layout.specs.declared.main_item.MainItem.{MainItem}
use Rattle.hid_report_descriptor.specs.declared.usage.Usage.{Usage}
use Rattle.hid_layout.specs.declared.codes.Codes.{Codes}
use Rattle.hid_layout.specs.Controls.{is_key, rollover_from}
use Rattle.hid_report_descriptor.specs.Usages.{is_keyboard_error}

-- a number is in a range
abbrev pub is_in : ℤ → ℤ → ℤ → Bool
is_in least greatest v = int_le least v && int_le v greatest

-- a number that is not below 0
abbrev pub at_zero : ℤ → ℕ
at_zero (pos n) = n
at_zero (negsuc n) = 0

-- the place of an array's usage list that an element of this number names
abbrev pub place_named : MainItem → ℤ → Option ℕ
place_named item v = if is_in item.min item.max v then Some (at_zero (v -ℤ item.min)) else None

-- the number of a pattern in a field of the item
abbrev pub number_of_pattern : MainItem → ℕ → ℤ
number_of_pattern item pattern = value_of pattern item.size (is_negative item.min)

-- the least of n numbers, from one on, that passes
unfoldable pub first_passing : (ℕ → Bool) → ℕ → ℕ → Option ℕ
first_passing test n zero = None
first_passing test n (suc count) = if test n then Some n else first_passing test (n + 1) count

-- the least pattern of the item's width whose number passes
abbrev pub least_pattern : MainItem → (ℤ → Bool) → Option ℕ
least_pattern item test = first_passing (λ pattern. test (number_of_pattern item pattern)) 0 (2 ^ item.size)

-- the pattern by which null is sent: the least one out of range. Example: 8 of a hat switch from 0 to 7 in four bits
abbrev pub null_code : MainItem → Option ℕ
null_code item = least_pattern item (λ v. not (is_in item.min item.max v))

-- a number of an array names neither a key nor an error
abbrev pub names_nothing : MainItem → List Usage → ℤ → Bool
names_nothing item us v =
    elim (place_named item v) [
      | None ↦ true
      | Some i ↦ elim (slice_get us i) [ None ↦ true | Some u ↦ not (is_key item i u || is_keyboard_error u) ]
    ]

-- the pattern by which an empty element of an array is sent: the least one that names neither a key nor 07:01 to 07:03.
-- Example: 0 of the keyboard; none if 256 patterns name 256 keys
abbrev pub empty_code : MainItem → List Usage → Option ℕ
empty_code item us = least_pattern item (names_nothing item us)

-- the number that a code stands for
abbrev pub code_number : MainItem → Option ℕ → Option ℤ
code_number item code = option_map (number_of_pattern item) code

-- the number by which an element reports null
abbrev pub null_number : MainItem → Option ℤ
null_number item = code_number item (null_code item)

-- the number by which an element of an array reports no key
abbrev pub empty_number : MainItem → List Usage → Option ℤ
empty_number item us = code_number item (empty_code item us)

-- the number by which the elements of an array report that it rolled over: the least place of ErrorRollOver
abbrev pub rollover_number : MainItem → List Usage → Option ℤ
rollover_number item us = option_map (λ i. item.min +ℤ pos i) (rollover_from item 0 us)

-- the codes of an item with these usages: null is the least pattern whose number is out of the range; empty is the least
-- one that names neither a key nor 07:01 to 07:03; rollover is the number of the first encodable place with 07:01.
-- Example: the keyboard's empty code is 0, its rollover code 1
pub record AreCodes (item : MainItem) (us : List Usage) (codes : Codes) : Type 0 where
  pub for_null : codes.null ≡ null_number item
  pub for_empty : codes.empty ≡ empty_number item us
  pub for_rollover : codes.rollover ≡ rollover_number item us
