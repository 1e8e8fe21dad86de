-- The numbers that are drawn from what is kept of an item (our choice).
use Rattle.std.specs.Prelude.{◌^◌, ◌≤◌, List, ◌++◌, drop, map, length, replicate, unwrap_or, ℤ, pos, neg_ℤ, ◌≤ℤ◌}
use Rattle.hid_snapshots.specs.declared.numbers.TheConstants.{MAX_NUMBERS}
use Rattle.hid_snapshots.specs.declared.sent_numbers.Repeated.{Repeated}
use Rattle.hid_snapshots.specs.declared.sent_numbers.Source.{Source}
use Rattle.hid_snapshots.specs.declared.sent_numbers.Source.TheVariants.{Switches, Values, Motions, Keys, Same}
use Rattle.hid_snapshots.specs.Sending.{switch_number, pressed_places_from}

-- one number, this many times
abbrev pub repeats : Repeated → List ℤ
repeats then = replicate then.count then.number

-- the numbers that have yet to come
abbrev pub numbers_of : Source → List ℤ
numbers_of (Switches flags index) = map switch_number (drop index flags.now)
numbers_of (Values values index null) = map (λ v. unwrap_or v null) (drop index values.now)
numbers_of (Motions motions index) = drop index motions.now
numbers_of (Keys flags from min then) = pressed_places_from min from (drop from flags.now) ++ repeats then
numbers_of (Same then) = repeats then

-- an item has few elements
abbrev pub IsSource : Source → Type 0
IsSource (Switches flags index) = length flags.now ≤ MAX_NUMBERS
IsSource (Values values index null) = length values.now ≤ MAX_NUMBERS
IsSource (Motions motions index) = length motions.now ≤ MAX_NUMBERS
IsSource (Keys flags from min then) =
    (length flags.now ≤ MAX_NUMBERS) × (neg_ℤ (pos (2 ^ 32)) ≤ℤ min) × (min ≤ℤ pos (2 ^ 32))
IsSource (Same then) = Unit {0}
