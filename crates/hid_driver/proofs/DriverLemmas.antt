-- What the calls of a driver make of the interface at a place.
use Rattle.std.proofs.Common.{◌≡◌, ℕ, ◌<◌, ◌≤◌, refl, sym, ◌∙◌, ap, subst, Bool, List, [], length, get_or, map, Option, Some, None, Result, Ok, Err}
use Rattle.std.specs.Prelude.{slice_get, slice_set}
use Rattle.std.proofs.lemmas.List.{set-get_or}
use Rattle.std.proofs.lemmas.Option.{slice_get_past, slice_get_read}
use Rattle.hid_driver.specs.declared.fault.DriverFault.{DriverFault}
use Rattle.hid_driver.specs.declared.fault.DriverFault.TheVariants.{NoInterface}
use Rattle.hid_driver.specs.declared.interface.Interface.{Interface}
use Rattle.hid_driver.specs.declared.interface.Reading.{Reading}
use Rattle.hid_driver.specs.declared.interface.Reading.TheVariants.{Boot}
use Rattle.hid_driver.specs.declared.outcome.Outcome.{Outcome}
use Rattle.hid_driver.specs.declared.state.DriverState.{DriverState}
use Rattle.hid_driver.specs.declared.state.DriverState.TheVariants as states
use Rattle.hid_driver.specs.Driver.{DriverValue, driver_asking, events_asking, driver_after_outcome, driver_after_protocol, driver_after_protocol_of, driver_after_report, driver_by_protocol, driver_with_interfaces, events_by_protocol, events_of_interface, interface_after_outcome, outcome_of_interface, protocol_answer, protocol_events, protocol_events_of, protocol_of_interface, protocol_outcome, received_events, report_events, report_outcome, state_after_outcome}
use Rattle.hid_driver.specs.Interfaces.{SetsReading, is_boot, reading_events, reading_outcome}
use Rattle.hid_driver.specs.Moves.{driver_settled, driver_with_next, settled_at}
use Rattle.hid_driver.specs.Pipe.{event_of}
use Rattle.hid_driver.specs.Requests.{next_state}

-- an interrupt transfer of an interface that isn't there
pub record HasNoInterface (driver : DriverValue) (place : ℕ) (came : Outcome) : Type 0 where
  pub read : slice_get driver.interfaces place ≡ None
  pub outcome : report_outcome driver place came ≡ Err NoInterface
  pub after : driver_after_report driver place came ≡ driver
  pub received : received_events driver place came ≡ []
  pub events : report_events driver place came ≡ []

pub no_interface : (driver : DriverValue) (place : ℕ) (came : Outcome) → length driver.interfaces ≤ place → HasNoInterface driver place came
no_interface driver place came past =
    let none = slice_get_past driver.interfaces place past in
    record {
      read = none;
      outcome = ap (outcome_of_interface came) none;
      after = ap (driver_after_outcome driver place came) none;
      received = ap (events_of_interface came) none;
      events = ap (λ (o : Option Interface). map (event_of place) (events_of_interface came o)) none;
    }

-- the interface at a place
pub found_at : (driver : DriverValue) (place : ℕ) (interface : Interface) → place < length driver.interfaces
    → interface ≡ get_or driver.interfaces place interface → slice_get driver.interfaces place ≡ Some interface
found_at driver place interface within is = slice_get_read driver.interfaces (length driver.interfaces) place interface refl within is

-- an interrupt transfer of an interface that is there
pub record HasInterface (driver : DriverValue) (place : ℕ) (came : Outcome) (interface : Interface) : Type 0 where
  pub outcome : report_outcome driver place came ≡ reading_outcome interface.reading came
  pub after : driver_after_report driver place came
      ≡ driver_with_interfaces driver came (slice_set driver.interfaces place (interface_after_outcome interface came))
  pub received : received_events driver place came ≡ reading_events interface.reading came
  pub events : report_events driver place came ≡ map (event_of place) (reading_events interface.reading came)

pub an_interface : (driver : DriverValue) (place : ℕ) (came : Outcome) (interface : Interface) → place < length driver.interfaces
    → interface ≡ get_or driver.interfaces place interface → HasInterface driver place came interface
an_interface driver place came interface within is =
    let some = found_at driver place interface within is in
    record {
      outcome = ap (outcome_of_interface came) some;
      after = ap (driver_after_outcome driver place came) some;
      received = ap (events_of_interface came) some;
      events = ap (λ (o : Option Interface). map (event_of place) (events_of_interface came o)) some;
    }

-- the driver whose interface took a transfer
pub heard_is : (driver : DriverValue) (place : ℕ) (came : Outcome) (old new : Interface) (state : DriverState) → place < length driver.interfaces
    → old ≡ get_or driver.interfaces place old → new ≡ interface_after_outcome old came
    → state ≡ state_after_outcome driver.state came (slice_set driver.interfaces place new)
    → record driver { interfaces = slice_set driver.interfaces place new; state = state } ≡ driver_after_report driver place came
heard_is driver place came old new state within is after next =
    ap (λ (s : DriverState). record driver { interfaces = slice_set driver.interfaces place new; state = s }) next
    ∙ ap (λ (i : Interface). driver_with_interfaces driver came (slice_set driver.interfaces place i)) after
    ∙ sym (an_interface driver place came old within is).after

-- asking for a protocol of an interface that isn't there, and of one that is
pub record AsksNone (driver : DriverValue) (place : ℕ) (boot : Bool) : Type 0 where
  pub outcome : protocol_outcome driver place ≡ Err NoInterface
  pub after : driver_after_protocol driver place boot ≡ driver
  pub events : protocol_events driver place ≡ []

pub asks_none : (driver : DriverValue) (place : ℕ) (boot : Bool) → length driver.interfaces ≤ place → AsksNone driver place boot
asks_none driver place boot past =
    let none = slice_get_past driver.interfaces place past in
    record {
      outcome = ap (protocol_of_interface driver.state) none;
      after = ap (driver_after_protocol_of driver place boot) none;
      events = ap (protocol_events_of driver.state place) none;
    }

pub record AsksOne (driver : DriverValue) (place : ℕ) (boot : Bool) (interface : Interface) (answer : Result (Unit {0}) DriverFault) : Type 0
  where
    pub outcome : protocol_outcome driver place ≡ answer
    pub after : driver_after_protocol driver place boot ≡ driver_by_protocol driver place boot interface answer
    pub events : protocol_events driver place ≡ events_by_protocol place interface answer

pub asks_one : (driver : DriverValue) (place : ℕ) (boot : Bool) (interface : Interface) (answer : Result (Unit {0}) DriverFault)
    → place < length driver.interfaces → interface ≡ get_or driver.interfaces place interface → answer ≡ protocol_answer driver.state interface
    → AsksOne driver place boot interface answer
asks_one driver place boot interface answer within is answered =
    let some = found_at driver place interface within is in
    record {
      outcome = ap (protocol_of_interface driver.state) some ∙ sym answered;
      after = ap (driver_after_protocol_of driver place boot) some ∙ ap (driver_by_protocol driver place boot interface) (sym answered);
      events = ap (protocol_events_of driver.state place) some ∙ ap (events_by_protocol place interface) (sym answered);
    }

-- a driver whose interface at a place is settled
pub settled_is : (driver : DriverValue) (place : ℕ) (reading : Reading) (interfaces : List Interface) (state : DriverState)
    → SetsReading place reading driver.interfaces interfaces → state ≡ next_state interfaces
    → record driver { interfaces = interfaces; state = state } ≡ driver_settled place reading driver
settled_is driver place reading interfaces state sets next =
    ap (λ (s : DriverState). record driver { interfaces = interfaces; state = s }) next
    ∙ ap (driver_with_next driver) sets.2
    ∙ sym (ap (settled_at place reading driver) sets.1)

-- a driver that asks an interface for a protocol, once its view went back and it was closed
pub asking_is : (driver closed : DriverValue) (place : ℕ) (boot was_boot : Bool) (read old new : Interface) → place < length driver.interfaces
    → read ≡ get_or driver.interfaces place read → old ≡ get_or driver.interfaces place old → new ≡ old → was_boot ≡ is_boot read.reading
    → closed ≡ driver_settled place Boot (record driver { interfaces = slice_set driver.interfaces place new })
    → record closed { state = states.Protocol place boot was_boot } ≡ driver_asking driver place boot (slice_get driver.interfaces place)
asking_is driver closed place boot was_boot read old new within is_read is_old stays was closes =
    let some = found_at driver place read within is_read in
    let kept : slice_set driver.interfaces place new ≡ driver.interfaces =
    ap (λ (i : Interface). slice_set driver.interfaces place i) (stays ∙ is_old) ∙ set-get_or driver.interfaces place old in
    let ys : List Interface = slice_set driver.interfaces place (record read { reading = Boot }) in
    let settled : closed ≡ driver_with_next driver ys =
    closes ∙ ap (λ (xs : List Interface). driver_settled place Boot (record driver { interfaces = xs })) kept
    ∙ ap (settled_at place Boot driver) some in
    ap (λ (d : DriverValue). record d { state = states.Protocol place boot was_boot }) settled
    ∙ ap (λ (b : Bool). record driver { interfaces = ys; state = states.Protocol place boot b }) was
    ∙ sym (ap (driver_asking driver place boot) some)

-- a driver that was asked for a protocol, and asks for it
pub asks_ok : (driver : DriverValue) (place : ℕ) (boot : Bool) (interface : Interface) → place < length driver.interfaces
    → interface ≡ get_or driver.interfaces place interface → Ok tt ≡ protocol_answer driver.state interface
    → (driver_asking driver place boot (slice_get driver.interfaces place) ≡ driver_after_protocol driver place boot)
    × (events_asking place (slice_get driver.interfaces place) ≡ protocol_events driver place)
asks_ok driver place boot interface within is answered =
    let some = found_at driver place interface within is in
    let asks = asks_one driver place boot interface (Ok tt) within is answered in (
      ap (driver_asking driver place boot) some ∙ sym asks.after,
      ap (events_asking place) some ∙ sym asks.events,
    )

-- a place in a list is one in what a driver shows
pub within_shown : (shown driver : DriverValue) (place : ℕ) → shown ≡ driver → place < length driver.interfaces → place < length shown.interfaces
within_shown shown driver place same within = subst (λ (d : DriverValue). place < length d.interfaces) (sym same) within
