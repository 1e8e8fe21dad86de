-- Reports written, what is held let go, and the boot descriptors (our choice; a number in a report: hidstack_session).
use Rattle.std.specs.Prelude.{◌≡◌, ℕ, ◌==◌, if◌then◌else◌, ℤ, List, position, Option, Some, None, Result, Ok, Err}
use Rattle.hid_layout.specs.Layout.{Contents}
use Rattle.hid_layout.specs.declared.boot.TheConstants.{KEYBOARD, MOUSE}
use Rattle.hid_snapshots.specs.declared.fault.ReportFault.TheVariants.{Short, UnknownReport}
use Rattle.hid_snapshots.specs.Encoding.{bare_report}
use Rattle.hidstack_session.specs.declared.element.HidElement.{HidElement}
use Rattle.hidstack_session.specs.declared.event.HidEvent.{HidEvent}
use Rattle.hidstack_session.specs.declared.writing.PutFault.{PutFault}
use Rattle.hidstack_session.specs.declared.writing.PutFault.TheVariants.{Refused, OutOfRange}
use Rattle.hidstack_session.specs.Sessions.{Releases, room_of}
use Rattle.hidstack_session.specs.States.{SessionState}
use Rattle.hidstack_session.specs.Writing.{PutsNumber, is_report_named}
use Rattle.hidstack.specs.declared.status.TheConstants.{OK, CLOSED, NO_ROOM, SHORT, UNKNOWN, NONE, RANGE}
use Rattle.hidstack.specs.declared.writing.TheConstants.{BOOT_KEYBOARD, BOOT_MOUSE}
use Rattle.hidstack.specs.Texts.{Leaves, TextIsReturned}

-- the status of a number that is written, or isn't
abbrev pub put_status : Result (Unit {0}) PutFault → ℕ
put_status (Ok put) = OK
put_status (Err (Refused Short)) = SHORT
put_status (Err (Refused UnknownReport)) = UNKNOWN
put_status (Err OutOfRange) = RANGE

-- the number is written in these bytes, or the status says why it isn't
abbrev pub PutAnswers : HidElement → ℤ → List ℕ → ℕ → List ℕ → Type 0
PutAnswers element value bytes status bytes' =
    (answer : Result (Unit {0}) PutFault) × PutsNumber element value bytes answer bytes' × (status ≡ put_status answer)

-- a report of zeros of the report at this place, where there is one
abbrev pub BlankOf : Contents → Option ℕ → List ℕ → ℕ → List ℕ → ℕ → Type 0
BlankOf layout (Some r) out status out' told = TextIsReturned (bare_report layout r) out status out' told
BlankOf layout None out status out' told = Leaves NONE out status out' told

-- the report of zeros of this kind and ID is written, or too long and nothing is; or there is no such report
abbrev pub BlankIsReturned : Contents → ℕ → ℕ → List ℕ → ℕ → List ℕ → ℕ → Type 0
BlankIsReturned layout kind id = BlankOf layout (position (is_report_named kind id) layout.reports)

-- the report of zeros of an open handle's device; a closed one is refused, and nothing is written
abbrev pub BlanksHandle : Option SessionState → ℕ → ℕ → List ℕ → ℕ → List ℕ → ℕ → Type 0
BlanksHandle None kind id out status out' told = Leaves CLOSED out status out' told
BlanksHandle (Some s) kind id out status out' told = BlankIsReturned s.layout kind id out status out' told

-- the status of what is held let go: none where the table has too few places
abbrev pub release_status : Option ℕ → ℕ
release_status (Some count) = OK
release_status None = NO_ROOM

-- how many events were reported; of a table with too few places how many it needs
abbrev pub release_count : SessionState → Option ℕ → ℕ
release_count s (Some count) = count
release_count s None = room_of s

-- An open handle's session lets go of all that is held. A closed one is refused, and nothing changes.
abbrev pub ReleasesHandle : Option SessionState → List HidEvent → ℕ → Option SessionState → List HidEvent → ℕ → Type 0
ReleasesHandle None out status after out' count = (status ≡ CLOSED) × (after ≡ None) × (out' ≡ out) × (count ≡ 0)
ReleasesHandle (Some s) out status after out' count =
    (answer : Option ℕ) × (s' : SessionState) × Releases s out answer s' out' × (after ≡ Some s')
    × (status ≡ release_status answer) × (count ≡ release_count s answer)

-- the boot descriptor of this bInterfaceProtocol, where it has one (HID 1.11, 4.3, E.6 and E.10)
abbrev pub boot_descriptor : ℕ → Option (List ℕ)
boot_descriptor protocol =
    if protocol == BOOT_KEYBOARD then Some KEYBOARD
    else if protocol == BOOT_MOUSE then Some MOUSE
    else None

-- a text that may be there is written, or too long and nothing is; or there is none
abbrev pub BytesAreReturned : Option (List ℕ) → List ℕ → ℕ → List ℕ → ℕ → Type 0
BytesAreReturned (Some bytes) out status out' told = TextIsReturned bytes out status out' told
BytesAreReturned None out status out' told = Leaves NONE out status out' told

-- the boot descriptor of this bInterfaceProtocol is written, or too long and nothing is; or there is none
abbrev pub BootIsReturned : ℕ → List ℕ → ℕ → List ℕ → ℕ → Type 0
BootIsReturned protocol = BytesAreReturned (boot_descriptor protocol)
