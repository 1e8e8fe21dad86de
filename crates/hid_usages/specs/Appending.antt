-- How events are appended: after those that are there, into reserved room (our choice).
use Rattle.std.specs.Prelude.{◌≡◌, ◌+◌, ◌≤◌, ◌++◌, length, List, Vec, vec_len, vec_capacity}
use Rattle.hid_snapshots.specs.declared.event.Event.{Event}

-- the list has reserved room for these events
abbrev pub HasSpace : {Z : Type 0} → Vec Event Z → List Event → Type 0
HasSpace out events = vec_len out + length events ≤ vec_capacity out

-- the events are appended, in the room that was there
pub record Appends {Z : Type 0} (before : Vec Event Z) (events : List Event) (after : Vec Event Z) : Type 0 where
  pub items : after.items ≡ before.items ++ events
  pub len : vec_len after ≡ vec_len before + length events
  pub room : vec_capacity after ≡ vec_capacity before
