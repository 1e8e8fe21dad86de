-- What ends a session with a USB/IP server (our choice: docs/USBIP.md).
use Rattle.std.specs.Prelude.{ℕ, Bool, true, false, not, ◌&&◌, List, ◌++◌, codes, if◌then◌else◌, Option, Some, None, Result, Ok, Err}
use Rattle.std.specs.List.{list_any}
use Rattle.hid_driver.specs.declared.fault.DriverFault.{DriverFault}
use Rattle.hid_driver.specs.declared.fault.DriverFault.TheVariants as drivers
use Rattle.hid_driver.specs.declared.interface.Interface.{Interface}
use Rattle.hid_driver.specs.declared.interface.InterfaceState.{InterfaceState}
use Rattle.hid_driver.specs.declared.interface.InterfaceState.TheVariants.{Waiting, Live, Halted, Stopped, Boot, Refused}
use Rattle.hid_driver.specs.declared.state.DriverState.{DriverState}
use Rattle.hid_driver.specs.declared.state.DriverState.TheVariants as states
use Rattle.hid_driver.specs.declared.state.Moved.{Moved}
use Rattle.hid_driver.specs.declared.state.Moved.TheVariants as moves
use Rattle.hid_driver.specs.Driver.{DriverValue}
use Rattle.hid_driver.specs.Faults.{fault_text}
use Rattle.hid_driver.specs.Interfaces.{state_shown}
use Rattle.usbip_import.specs.declared.fault.ImportFault.TheVariants as imports
use Rattle.usbip_import.specs.declared.stage.Told.{Told}
use Rattle.usbip_import.specs.declared.stage.Told.TheVariants as told
use Rattle.usbip_import.specs.Faults.{import_fault_text}
use Rattle.usbip_session.specs.declared.end.End.{End}
use Rattle.usbip_session.specs.declared.end.End.TheVariants.{Closed, Import, Device, Early, Late, Unread, Connection, Output, Requests}
use Rattle.usbip_session.specs.declared.end.End.TheVariants as ends
use Rattle.usbip_session.specs.Session.{SessionState, awaits_answer, is_between, is_ready, is_ready_state}
use Rattle.usbip_session.specs.Words.{driver_words, import_words}

-- what ends a session, as its code and words. Example: A3: the server has no such device
abbrev pub end_text : End → List ℕ
end_text Closed = codes "the server closed the connection"
end_text (Import fault) = import_fault_text fault ++ (codes ": " ++ import_words fault)
end_text (Device fault) = fault_text fault ++ (codes ": " ++ driver_words fault)
end_text Early = codes "A8: the connection ended too early"
end_text Late = codes "A9: an answer took too long"
end_text Unread = codes "A10: no interface of the device can be read"
end_text Connection = codes "A11: the connection can't be read or written"
end_text Output = codes "A12: the events can't be written"
end_text Requests = codes "A13: the file of Output reports can't be read"
end_text ends.Stopped = codes "A14: an interface's endpoint stays halted"

-- the reports of an interface in this state are read
abbrev pub is_live_state : InterfaceState → Bool
is_live_state Live = true
is_live_state Waiting = false
is_live_state Halted = false
is_live_state Stopped = false
is_live_state Boot = false
is_live_state (Refused cause) = false

-- the reports of an interface are read
abbrev pub is_live : Interface → Bool
is_live interface = is_live_state (state_shown interface.reading)

-- a driver has refused its device
abbrev pub is_refused : DriverState → Bool
is_refused states.Refused = true
is_refused _ = false

-- some interface is read
abbrev pub has_live : DriverValue → Bool
has_live driver = list_any is_live driver.interfaces

-- A driver waits for nothing, and no interface is read: nothing will come any more.
abbrev pub is_unread : DriverValue → Bool
is_unread driver = is_ready_state driver.state && not (has_live driver)

-- the session ends where no interface is read
abbrev pub end_if_unread : DriverValue → Option End
end_if_unread driver = if is_unread driver then Some Unread else None

-- a request that wasn't done ends the session where its device is refused by it, or where memory ran out
abbrev pub end_after_fault : DriverFault → DriverValue → Option End
end_after_fault drivers.Memory driver = Some (Import imports.Memory)
end_after_fault fault driver = if is_refused driver.state then Some (Device fault) else end_if_unread driver

-- an interface whose halt couldn't be cleared ends the session: what is held of it is released at the end alone
abbrev pub end_after_move : Moved → DriverValue → Option End
end_after_move (moves.Stopped place) driver = Some (if is_unread driver then Unread else ends.Stopped)
end_after_move moved driver = end_if_unread driver

-- what ends a session after a control transfer
abbrev pub end_after_control : Result Moved DriverFault → DriverValue → Option End
end_after_control (Ok moved) driver = end_after_move moved driver
end_after_control (Err fault) driver = end_after_fault fault driver

-- What ends a session after a message led to this, where its driver is this one then.
abbrev pub end_after : Told → DriverValue → Option End
end_after told.Onward driver = None
end_after (told.Control status result) driver = end_after_control result driver
end_after (told.Report place status result) driver = None

-- What ended a session whose connection was closed: nothing, where it was between two messages, and nothing was asked.
abbrev pub end_of_stream : SessionState → End
end_of_stream session =
    if is_between session && (is_ready session && not (awaits_answer session)) then Closed else Early
