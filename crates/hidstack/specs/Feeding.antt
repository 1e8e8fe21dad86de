-- What a report makes of a handle (our choice).
use Rattle.std.specs.Prelude.{◌≡◌, ℕ, List, Option, Some, None, Result, Ok, Err}
use Rattle.hid_snapshots.specs.declared.fault.ReportFault.TheVariants.{Short, UnknownReport}
use Rattle.hidstack_session.specs.declared.event.HidEvent.{HidEvent}
use Rattle.hidstack_session.specs.declared.session.FeedFault.{FeedFault}
use Rattle.hidstack_session.specs.declared.session.FeedFault.TheVariants.{NoRoom, Refused}
use Rattle.hidstack_session.specs.States.{SessionState}
use Rattle.hidstack_session.specs.Sessions.{Feeds, room_of}
use Rattle.hidstack.specs.declared.status.TheConstants.{OK, CLOSED, NO_ROOM, SHORT, UNKNOWN}

-- the status of an answer
abbrev pub status_of : Result ℕ FeedFault → ℕ
status_of (Ok _) = OK
status_of (Err NoRoom) = NO_ROOM
status_of (Err (Refused Short)) = SHORT
status_of (Err (Refused UnknownReport)) = UNKNOWN

-- how many events were reported; of a table with too few places how many it needs
abbrev pub event_count : SessionState → Result ℕ FeedFault → ℕ
event_count s (Ok count) = count
event_count s (Err NoRoom) = room_of s
event_count s (Err (Refused fault)) = 0

-- An open handle's session is fed. A closed one is refused, and nothing changes.
abbrev pub FeedsHandle : Option SessionState → List ℕ → List HidEvent → ℕ → Option SessionState
    → List HidEvent → ℕ → Type 0
FeedsHandle None bytes out status after out' count = (status ≡ CLOSED) × (after ≡ None) × (out' ≡ out) × (count ≡ 0)
FeedsHandle (Some s) bytes out status after out' count =
    (answer : Result ℕ FeedFault) × (s' : SessionState) × Feeds s bytes out answer s' out' × (after ≡ Some s')
    × (status ≡ status_of answer) × (count ≡ event_count s answer)
