-- The room for events that the interfaces of a driver need after each call.
use Rattle.std.proofs.Common.{◌≡◌, ℕ, ◌+◌, ◌≤◌, refl, sym, subst, inl, inr, Bool, true, false, List, [], get_or, Option, Some, None, IfSome, Result, Ok, Err, OnOk, arith}
use Rattle.std.specs.Prelude.{slice_get, slice_set}
use Rattle.std.proofs.lemmas.Option.{get_or_from_slice_get, slice_get_within}
use Rattle.hid_layout.specs.Controls.{items_of, max_events}
use Rattle.hid_interfaces.specs.declared.interface.InterfaceInfo.{InterfaceInfo}
use Rattle.hid_driver.specs.declared.answers.NoPipe.{NoPipe}
use Rattle.hid_driver.specs.declared.answers.NoPipe.TheVariants as pipes
use Rattle.hid_driver.specs.declared.fault.DriverFault.{DriverFault}
use Rattle.hid_driver.specs.declared.fault.DriverFault.TheVariants.{Memory}
use Rattle.hid_driver.specs.declared.interface.Interface.{Interface}
use Rattle.hid_driver.specs.declared.interface.Reading.{Reading}
use Rattle.hid_driver.specs.declared.interface.Reading.TheVariants.{Open, Boot, Refused}
use Rattle.hid_driver.specs.declared.outcome.Outcome.{Outcome}
use Rattle.hid_driver.specs.declared.outcome.Outcome.TheVariants.{Done, Stalled, Failed}
use Rattle.hid_driver.specs.declared.state.DriverState.{DriverState}
use Rattle.hid_driver.specs.declared.state.DriverState.TheVariants as states
use Rattle.hid_driver.specs.declared.state.Moved.{Moved}
use Rattle.hid_driver.specs.Answers.{ReportCame, device_answer, length_answer, status_answer}
use Rattle.hid_driver.specs.Driver.{DriverValue, driver_after_outcome, driver_after_protocol, driver_after_protocol_of, driver_after_report, driver_by_protocol, interface_after_outcome, protocol_answer}
use Rattle.hid_driver.specs.Interfaces.{event_room, interfaces_after, reading_room, total_room}
use Rattle.hid_driver.specs.Moves.{ClearMovesOf, Goes, Moves, MovesAt, ProtocolMovesOf, ReportMovesOf, Settles, driver_refused, driver_with_configuration, flow_after_clear, interface_after_clear, reading_after_protocol, reading_in_protocol, settled_at}
use Rattle.hid_driver.specs.Pipe.{PipeState}
use Rattle.hid_driver.specs.Requests.{next_state}
use Rattle.hid_driver.proofs.InterfaceLemmas.{flow_room, heard_room, listed_unread, set_total, unread_total}
use Rattle.hidstack_host.specs.Hosts.{HasRoomFor, HasRoomIn, descriptor_came, descriptor_of}

-- a number of events is enough for a report by the report descriptor that came, if one came
abbrev HasRoomOf : ℕ → Outcome → Type 0
HasRoomOf most outcome = IfSome (descriptor_of outcome) (HasRoomFor most)

-- the interfaces of a driver give at most so many events more than those of the one before
abbrev Grows : ℕ → DriverValue → DriverValue → Type 0
Grows most before after = total_room after.interfaces ≤ total_room before.interfaces + most

stays : (most : ℕ) (before after : DriverValue) → after ≡ before → Grows most before after
stays most before after is = subst (Grows most before) (sym is) (omega arith)

refuses : (most : ℕ) (before after : DriverValue) (fault : DriverFault) → after ≡ driver_refused fault before → Grows most before after
refuses most before after Memory is = stays most before after is
refuses most before after fault is = subst (Grows most before) (sym is) (omega arith)

goes : {A : Type 0} (most : ℕ) (before : DriverValue) (next : A → DriverValue) (answer : Result A DriverFault) (result : Result Moved DriverFault)
    (after : DriverValue) → ((read : A) → Grows most before (next read)) → Goes before next answer result after → Grows most before after
goes most before next (Ok read) result after grows moved = subst (Grows most before) (sym moved.1) (grows read)
goes most before next (Err fault) result after grows moved = refuses most before after fault moved.1

-- one interface is changed
set_grows : (most : ℕ) (xs : List Interface) (place : ℕ) (old new : Interface) → slice_get xs place ≡ Some old
    → event_room new ≤ event_room old + most → total_room (slice_set xs place new) ≤ total_room xs + most
set_grows most xs place old new is few =
    let within = slice_get_within xs place old is in
    let here : old ≡ get_or xs place old = sym (get_or_from_slice_get xs place old old is) in
    let sums = set_total xs place new old within here in
    omega (arith, sums, few)

settles_at : (most place : ℕ) (reading : Reading) (before : DriverValue) (o : Option Interface) → slice_get before.interfaces place ≡ o
    → reading_room reading ≤ most → Grows most before (settled_at place reading before o)
settles_at most place reading before None is few = omega arith
settles_at most place reading before (Some interface) is few =
    set_grows most before.interfaces place interface (record interface { reading = reading }) is (omega (arith, few))

-- the room of an interface whose report descriptor came
came_grows : (most : ℕ) (info : InterfaceInfo) (outcome : Outcome) (pipe : PipeState) → HasRoomOf most outcome
    → ReportCame info outcome (Ok pipe) → max_events (items_of pipe.receiving.layout) ≤ most
came_grows most info (Done bytes) pipe room came =
    subst (λ (p : PipeState). max_events (items_of p.receiving.layout) ≤ most) (sym came.1.2) (room came.1.0 came.1.1)
came_grows most info Stalled pipe room came = cc
came_grows most info Failed pipe room came = cc

settles : (most place : ℕ) (before : DriverValue) (interface : Interface) (outcome : Outcome) (read : Result PipeState NoPipe)
    (result : Result Moved DriverFault) (after : DriverValue) → HasRoomOf most outcome → ReportCame interface.info outcome read
    → Settles place before read result after → Grows most before after
settles most place before interface outcome (Ok pipe) result after room came (inl settled) =
    subst (Grows most before) (sym settled.1)
    (settles_at most place (Open pipe) before (slice_get before.interfaces place) refl (came_grows most interface.info outcome pipe room came))
settles most place before interface outcome (Ok pipe) result after room came (inr stayed) = stays most before after stayed.1
settles most place before interface outcome (Err (pipes.Refused cause)) result after room came settled =
    subst (Grows most before) (sym settled.1) (settles_at most place (Refused cause) before (slice_get before.interfaces place) refl (omega arith))
settles most place before interface outcome (Err pipes.Memory) result after room came stayed = stays most before after stayed.1

reports : (most place : ℕ) (before : DriverValue) (outcome : Outcome) (result : Result Moved DriverFault) (after : DriverValue) (o : Option Interface)
    → HasRoomOf most outcome → ReportMovesOf place before outcome result after o → Grows most before after
reports most place before outcome result after None room moved = stays most before after moved.1
reports most place before outcome result after (Some interface) room moved =
    settles most place before interface outcome moved.0 result after room moved.1 moved.2

clears : (most place : ℕ) (before : DriverValue) (outcome : Outcome) (result : Result Moved DriverFault) (after : DriverValue) (o : Option Interface)
    → slice_get before.interfaces place ≡ o → ClearMovesOf place before outcome result after o → Grows most before after
clears most place before outcome result after None is moved = stays most before after moved.1
clears most place before outcome result after (Some interface) is moved =
    let same : reading_room (interface_after_clear outcome interface).reading ≡ reading_room interface.reading =
    flow_room (flow_after_clear outcome) interface.reading in
    subst (Grows most before) (sym moved.1)
    (set_grows most before.interfaces place interface (interface_after_clear outcome interface) is (omega (arith, same)))

-- an interface in a protocol, or in none that is known, gives no events
protocol_room : (boot : Bool) → reading_room (reading_in_protocol boot) ≤ 0
protocol_room true = omega arith
protocol_room false = omega arith

after_protocol_room : (boot was_boot : Bool) (outcome : Outcome) → reading_room (reading_after_protocol boot was_boot outcome) ≤ 0
after_protocol_room boot was_boot (Done bytes) = protocol_room boot
after_protocol_room boot was_boot Stalled = protocol_room was_boot
after_protocol_room boot was_boot Failed = omega arith

protocols : (most place : ℕ) (boot was_boot : Bool) (before : DriverValue) (outcome : Outcome) (result : Result Moved DriverFault)
    (after : DriverValue) (o : Option Interface) → ProtocolMovesOf place boot was_boot before outcome result after o → Grows most before after
protocols most place boot was_boot before outcome result after None moved = stays most before after moved.1
protocols most place boot was_boot before outcome result after (Some interface) moved =
    let none = after_protocol_room boot was_boot outcome in
    subst (Grows most before) (sym moved.1)
    (settles_at most place (reading_after_protocol boot was_boot outcome) before (slice_get before.interfaces place) refl (omega (arith, none)))

moves_grow : (state : DriverState) (most : ℕ) (before : DriverValue) (outcome : Outcome) (result : Result Moved DriverFault) (after : DriverValue)
    → HasRoomIn state most outcome → MovesAt state before outcome result after → Grows most before after
moves_grow states.Device most before outcome result after room moved =
    goes most before (λ info. record before { state = states.Length; device = Some info }) (device_answer outcome) result after (λ info. omega arith) moved
moves_grow states.Length most before outcome result after room moved =
    goes most before (λ len. record before { state = states.Configuration len }) (length_answer outcome) result after (λ len. omega arith) moved
moves_grow (states.Configuration len) most before outcome result after room (inl moved) =
    goes most before (driver_with_configuration before) moved.0 result after
    (λ configuration. let none = unread_total (interfaces_after [] configuration.interfaces.items) (listed_unread [] configuration.interfaces.items) in
    omega (arith, none)) moved.2
moves_grow (states.Configuration len) most before outcome result after room (inr stayed) = stays most before after stayed.1
moves_grow (states.Configure number) most before outcome result after room moved =
    goes most before (λ done. record before { state = next_state before.interfaces }) (status_answer outcome) result after (λ done. omega arith) moved
moves_grow (states.Idle place) most before outcome result after room moved = subst (Grows most before) (sym moved.1) (omega arith)
moves_grow (states.Report place) most before outcome result after room moved =
    reports most place before outcome result after (slice_get before.interfaces place) room moved
moves_grow (states.Clear place) most before outcome result after room moved =
    clears most place before outcome result after (slice_get before.interfaces place) refl moved
moves_grow (states.Protocol place boot was_boot) most before outcome result after room moved =
    protocols most place boot was_boot before outcome result after (slice_get before.interfaces place) moved
moves_grow (states.Asked setup) most before outcome result after room moved = subst (Grows most before) (sym moved.1) (omega arith)
moves_grow states.Ready most before outcome result after room moved = stays most before after moved.1
moves_grow states.Refused most before outcome result after room moved = stays most before after moved.1

-- after the outcome of a request there is room where there was room for what it may bring
pub done_grows : (most : ℕ) (before : DriverValue) (outcome : Outcome) (result : Result Moved DriverFault) (after : DriverValue)
    → HasRoomIn before.state most outcome → Moves before outcome result after → total_room after.interfaces ≤ total_room before.interfaces + most
done_grows most before outcome result after room moved = moves_grow before.state most before outcome result after room moved

-- a transfer leaves the room
heard_grows : (before : DriverValue) (place : ℕ) (outcome : Outcome) (o : Option Interface) → slice_get before.interfaces place ≡ o
    → Grows 0 before (driver_after_outcome before place outcome o)
heard_grows before place outcome None is = omega arith
heard_grows before place outcome (Some interface) is =
    let same = heard_room interface.reading outcome in
    set_grows 0 before.interfaces place interface (interface_after_outcome interface outcome) is (omega (arith, same))

pub report_stays : (before : DriverValue) (place : ℕ) (outcome : Outcome)
    → total_room (driver_after_report before place outcome).interfaces ≤ total_room before.interfaces
report_stays before place outcome =
    let few = heard_grows before place outcome (slice_get before.interfaces place) refl in omega (arith, few)

-- asking for a protocol needs no more room
asked_grows : (before : DriverValue) (place : ℕ) (boot : Bool) (interface : Interface) (answer : Result (Unit {0}) DriverFault)
    → slice_get before.interfaces place ≡ Some interface → Grows 0 before (driver_by_protocol before place boot interface answer)
asked_grows before place boot interface (Ok asks) is =
    set_grows 0 before.interfaces place interface (record interface { reading = Boot }) is (omega arith)
asked_grows before place boot interface (Err fault) is = omega arith

asked_grows_of : (before : DriverValue) (place : ℕ) (boot : Bool) (o : Option Interface) → slice_get before.interfaces place ≡ o
    → Grows 0 before (driver_after_protocol_of before place boot o)
asked_grows_of before place boot None is = omega arith
asked_grows_of before place boot (Some interface) is = asked_grows before place boot interface (protocol_answer before.state interface) is

pub protocol_shrinks : (before : DriverValue) (place : ℕ) (boot : Bool)
    → total_room (driver_after_protocol before place boot).interfaces ≤ total_room before.interfaces
protocol_shrinks before place boot =
    let few = asked_grows_of before place boot (slice_get before.interfaces place) refl in omega (arith, few)

-- room for a report descriptor that came is room for what came
pub room_came : {A E : Type 0} (result : Result A E) (state : DriverState) (outcome : Outcome) (descriptor : List ℕ) (before received events : ℕ)
    → descriptor_came state outcome ≡ Some descriptor
    → OnOk result ((most : ℕ) × HasRoomFor most descriptor × (before + most ≤ received) × (before + most ≤ events))
    → OnOk result ((most : ℕ) × HasRoomIn state most outcome × (before + most ≤ received) × (before + most ≤ events))
room_came (Ok done) state outcome descriptor before received events came room =
    (room.0, subst (λ (o : Option (List ℕ)). IfSome o (HasRoomFor room.0)) (sym came) room.1, room.2, room.3)
room_came (Err fault) state outcome descriptor before received events came room = tt
