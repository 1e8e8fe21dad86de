-- The elements of a variable item, read one by one: what each becomes by its number, and their events (our choice; HID
-- 1.11, 5.6 and 8).
use Rattle.std.specs.Prelude.{◌≡◌, ℕ, Bool, List, map, slice_get, slice_set, Option, Some, ℤ}
use Rattle.std.specs.List.{zip}
use Rattle.hid_report_descriptor.specs.declared.usage.Usage.{Usage}
use Rattle.hid_layout.specs.Layout.{Contents}
use Rattle.hid_snapshots.specs.declared.event.Event.{Event}
use Rattle.hid_snapshots.specs.Events.{usages_at, switch_events, value_events}
use Rattle.hid_usages.specs.declared.elements.Carriable.{Carriable}
use Rattle.hid_usages.specs.Reading.{read_switch, read_value}

-- a switch, as a number leaves it
abbrev pub switch_by_number : Bool × ℤ → Bool
switch_by_number = λ p. read_switch p.0 p.1

-- a value, as a number leaves it
abbrev pub value_by_number : Carriable → Option ℤ × ℤ → Option ℤ
value_by_number carriable = λ p. read_value carriable.has_null carriable.bounds.least carriable.bounds.greatest p.0 p.1

-- what each element becomes by its number
abbrev pub read_all : {A : Type 0} → (A × ℤ → A) → List A → List ℤ → List A
read_all read start numbers = map read (zip start numbers)

-- the events of an item's switches once their numbers are read
abbrev pub switch_events_read : Contents → ℕ → List Bool → List ℤ → List Event
switch_events_read layout item held numbers =
    switch_events item (usages_at layout item) held (read_all switch_by_number held numbers)

-- the events of an item's values once their numbers are read
abbrev pub value_events_read : Contents → ℕ → Carriable → List (Option ℤ) → List ℤ → List Event
value_events_read layout item carriable held numbers =
    value_events item (usages_at layout item) held (read_all (value_by_number carriable) held numbers)

-- the usage of the element at an index, and what is kept of it, have a property
abbrev pub OfElement : {A : Type 0} → Contents → ℕ → ℕ → List A → (Usage → A → Type 0) → Type 0
OfElement {A = A} layout item index held Property =
    (usage : Usage) (before : A) → slice_get (usages_at layout item) index ≡ Some usage → slice_get held index ≡ Some before
    → Property usage before

-- the element at an index becomes what this makes of it, and the others stay
abbrev pub BecomesAt : {A : Type 0} → ℕ → (A → A) → List A → List A → Type 0
BecomesAt {A = A} index change held held' =
    (before : A) → slice_get held index ≡ Some before → held' ≡ slice_set held index (change before)
