-- What is reported while a session goes on (our choice: docs/USBIP.md).
use Rattle.std.specs.Prelude.{ℕ, Bool, true, false, List, ◌++◌, codes, slice_get, Option, Some, None, Ok, Err}
use Rattle.std.specs.Fmt.{decimal}
use Rattle.hid_driver.specs.declared.fault.DriverFault.{DriverFault}
use Rattle.hid_driver.specs.declared.interface.Interface.{Interface}
use Rattle.hid_driver.specs.declared.interface.InterfaceState.{InterfaceState}
use Rattle.hid_driver.specs.declared.interface.InterfaceState.TheVariants as states
use Rattle.hid_driver.specs.declared.state.Moved.{Moved}
use Rattle.hid_driver.specs.declared.state.Moved.TheVariants as moves
use Rattle.hid_driver.specs.Driver.{DriverValue}
use Rattle.hid_driver.specs.Faults.{cause_text, fault_text}
use Rattle.hid_driver.specs.Interfaces.{state_shown}
use Rattle.usbip_import.specs.declared.stage.Told.{Told}
use Rattle.usbip_import.specs.declared.stage.Told.TheVariants as told
use Rattle.usbip_session.specs.declared.notice.Notice.{Notice}
use Rattle.usbip_session.specs.declared.notice.Notice.TheVariants.{Live, Refused, Stopped, Request, Report}
use Rattle.usbip_session.specs.Words.{cause_words, driver_words}

-- a notice as it is printed. Example: interface 1: B5: it has no interrupt-IN endpoint
abbrev pub notice_text : Notice → List ℕ
notice_text (Live place) = codes "interface " ++ (decimal place ++ codes ": live")
notice_text (Refused place cause) =
    codes "interface " ++ (decimal place ++ (codes ": " ++ (cause_text cause ++ (codes ": " ++ cause_words cause))))
notice_text (Stopped place) = codes "interface " ++ (decimal place ++ codes ": stopped")
notice_text (Request fault) = codes "output: " ++ (fault_text fault ++ (codes ": " ++ driver_words fault))
notice_text (Report place fault) =
    codes "interface " ++ (decimal place ++ (codes ": " ++ (fault_text fault ++ (codes ": " ++ driver_words fault))))

-- what is reported of an interface in this state: why it can't be read, where it can't
abbrev pub refusal_in : ℕ → InterfaceState → Option Notice
refusal_in place (states.Refused cause) = Some (Refused place cause)
refusal_in place states.Waiting = None
refusal_in place states.Live = None
refusal_in place states.Halted = None
refusal_in place states.Stopped = None
refusal_in place states.Boot = None

-- what is reported of an interface, if there is one
abbrev pub refusal_at : ℕ → Option Interface → Option Notice
refusal_at place None = None
refusal_at place (Some interface) = refusal_in place (state_shown interface.reading)

-- why the interface at this place can't be read
abbrev pub refusal_of : ℕ → DriverValue → Option Notice
refusal_of place driver = refusal_at place (slice_get driver.interfaces place)

-- what is reported of a control transfer that is done: an interface is live, refused or stopped
abbrev pub notice_of_move : Moved → DriverValue → Option Notice
notice_of_move (moves.Live place) driver = Some (Live place)
notice_of_move (moves.Refused place) driver = refusal_of place driver
notice_of_move (moves.Stopped place) driver = Some (Stopped place)
notice_of_move moves.Onward driver = None
notice_of_move (moves.Cleared place) driver = None
notice_of_move moves.Answered driver = None

-- what is reported of a report that isn't read: nothing where its answer has no data, as with Linux
abbrev pub notice_of_report : Bool → ℕ → DriverFault → Option Notice
notice_of_report false place fault = None
notice_of_report true place fault = Some (Report place fault)

-- What is reported of what a message led to, which was the data of an answer or not: of a request that wasn't done, and of a
-- report that isn't read, why.
abbrev pub notice_of : Told → Bool → DriverValue → Option Notice
notice_of told.Onward has_data driver = None
notice_of (told.Control status (Ok moved)) has_data driver = notice_of_move moved driver
notice_of (told.Control status (Err fault)) has_data driver = Some (Request fault)
notice_of (told.Report place status (Ok done)) has_data driver = None
notice_of (told.Report place status (Err fault)) has_data driver = notice_of_report has_data place fault
