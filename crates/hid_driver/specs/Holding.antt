-- What a driver holds of its device's controls: no call forgets it in silence (HID 1.11, 5.6; our choice).
use Rattle.std.specs.Prelude.{◌≡◌, ◌≢◌, ℕ, List, Option, Some, None, option_map, option_and_then, slice_get}
use Rattle.hid_driver.specs.declared.interface.Interface.{Interface}
use Rattle.hid_driver.specs.declared.outcome.Outcome.{Outcome}
use Rattle.hid_driver.specs.declared.state.DriverState.{DriverState}
use Rattle.hid_driver.specs.declared.state.DriverState.TheVariants.{Device, Length, Configuration, Configure, Idle, Report, Clear, Protocol, Asked, Ready, Refused}
use Rattle.hid_driver.specs.Driver.{DriverValue}
use Rattle.hid_driver.specs.Interfaces.{AreUnread, pipe_of}
use Rattle.hid_driver.specs.Pipe.{PipeState, pipe_after_outcome}

-- what the reports of the interface at a place come out of, once they are laid out
abbrev pub pipe_at : List Interface → ℕ → Option PipeState
pipe_at interfaces place = option_and_then (λ interface. pipe_of interface.reading) (slice_get interfaces place)

-- Each layout and each view that was there before is there after.
abbrev pub HoldsOn : List Interface → List Interface → Type 0
HoldsOn before after =
    (place : ℕ) (pipe : PipeState) → pipe_at before place ≡ Some pipe
    → (later : PipeState) × (pipe_at after place ≡ Some later) × (later.receiving.layout ≡ pipe.receiving.layout)
    × (later.receiving.view ≡ pipe.receiving.view)

-- what a driver asks for is what it doesn't have: the interfaces until their configuration is read, and the report
-- descriptor of an interface
abbrev pub IsDueIn : DriverState → List Interface → Type 0
IsDueIn Device interfaces = AreUnread interfaces
IsDueIn Length interfaces = AreUnread interfaces
IsDueIn (Configuration len) interfaces = AreUnread interfaces
IsDueIn (Configure number) interfaces = Unit {0}
IsDueIn (Idle place) interfaces = pipe_at interfaces place ≡ None
IsDueIn (Report place) interfaces = pipe_at interfaces place ≡ None
IsDueIn (Clear place) interfaces = Unit {0}
IsDueIn (Protocol place boot was_boot) interfaces = pipe_at interfaces place ≡ None
IsDueIn (Asked setup) interfaces = Unit {0}
IsDueIn Ready interfaces = Unit {0}
IsDueIn Refused interfaces = Unit {0}

-- a driver asks for no descriptor that it has read: neither its configuration, nor the report descriptor of an interface
abbrev pub IsDue : DriverValue → Type 0
IsDue driver = IsDueIn driver.state driver.interfaces

-- a call without events keeps all that is held
pub record KeepsAll (before after : DriverValue) : Type 0 where
  pub due : IsDue after
  pub held : HoldsOn before.interfaces after.interfaces

-- An interrupt transfer changes what is held of its own interface alone, by the transfer.
pub record ChangesOne (before : DriverValue) (place : ℕ) (outcome : Outcome) (after : DriverValue) : Type 0 where
  pub due : IsDue after
  pub own : pipe_at after.interfaces place ≡ option_map (λ pipe. pipe_after_outcome pipe outcome) (pipe_at before.interfaces place)
  pub others : (other : ℕ) → other ≢ place → pipe_at after.interfaces other ≡ pipe_at before.interfaces other

-- asking for a protocol changes what is held of that interface alone: nothing is held of it then
pub record ReleasesOne (before : DriverValue) (place : ℕ) (after : DriverValue) : Type 0 where
  pub due : IsDue after
  pub own : pipe_at after.interfaces place ≡ None
  pub others : (other : ℕ) → other ≢ place → pipe_at after.interfaces other ≡ pipe_at before.interfaces other
