-- The numbers of the elements by which a report shows what is kept of an item
-- (HID 1.11, 5.10, 6.2.2.5 and appendix C).
use Rattle.std.specs.Prelude.{◌≡◌, ◌<◌, ◌≤◌, ℕ, ◌+◌, ◌-◌, Bool, true, false, List, [], ◌∷◌, ◌++◌, map, length, replicate, unwrap_or, Option, ℤ, pos, ◌+ℤ◌}
use Rattle.std.specs.Simd.Lanes.{mask_l}
use Rattle.hid_layout.specs.declared.main_item.MainItem.{MainItem}
use Rattle.hid_report_descriptor.specs.declared.usage.Usage.{Usage}
use Rattle.hid_layout.specs.Controls.{Form, Elements, Keys}
pub use Rattle.hid_snapshots.specs.ControlStates.{switch_count}
pub use Rattle.hid_layout.specs.Codes.{number_of_pattern, first_passing, least_pattern, null_code, names_nothing, empty_code, null_number, empty_number, rollover_number}
use Rattle.hid_snapshots.specs.declared.control_state.ControlState.{ControlState}
use Rattle.hid_snapshots.specs.declared.control_state.ControlState.TheVariants.{Switches, Values, Motions, RollOver}

-- a number, or 0 where there is none
abbrev pub or_zero : Option ℤ → ℤ
or_zero number = unwrap_or number (pos 0)

-- a switch is sent as 1 where it is pressed, else as 0
abbrev pub switch_number : Bool → ℤ
switch_number true = pos 1
switch_number false = pos 0

-- some switches, up to 32, are sent by these numbers, and the bits of the pattern are their states, the first one lowest
pub record IsPatternOf (numbers : List ℤ) (pattern : ℕ) : Type 0 where
  pub places : List Bool
  pub numbers_are : numbers ≡ map switch_number places
  pub some : 0 < length places
  pub few : length places ≤ 32
  pub is : pattern ≡ mask_l places

-- pressed keys by rising place
abbrev pub pressed_places_from : ℤ → ℕ → List Bool → List ℤ
pressed_places_from min i [] = []
pressed_places_from min i (true ∷ ps) = (min +ℤ pos i) ∷ pressed_places_from min (i + 1) ps
pressed_places_from min i (false ∷ ps) = pressed_places_from min (i + 1) ps

-- The numbers of an item's elements: of an array the pressed keys and then the empty code, or the
-- rollover code in each.
abbrev pub element_numbers : MainItem → List Usage → Form → ControlState → List ℤ
element_numbers item us (Elements kind least greatest usages) (Switches ps) = map switch_number ps
element_numbers item us (Elements kind least greatest usages) (Values vs) =
    map (λ v. unwrap_or v (or_zero (null_number item))) vs
element_numbers item us (Elements kind least greatest usages) (Motions ms) = ms
element_numbers item us (Keys elements rolls keys) (Switches ps) =
    pressed_places_from item.min 0 ps
    ++ replicate (elements - switch_count ps) (or_zero (empty_number item us))
element_numbers item us (Keys elements rolls keys) (RollOver ps) =
    replicate elements (or_zero (rollover_number item us))
element_numbers item us form state = []
