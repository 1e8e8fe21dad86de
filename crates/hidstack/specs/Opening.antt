-- What opening a handle makes of it (our choice).
use Rattle.std.specs.Prelude.{◌≡◌, ℕ, ◌<◌, ◌⊎◌, List, length, Option, Some, None}
use Rattle.hid_report_descriptor.specs.declared.fault.Cause.{Cause}
use Rattle.hid_report_descriptor.specs.declared.fault.Cause.TheVariants.{Truncated}
use Rattle.hid_report_descriptor.specs.Real.{Explains}
use Rattle.hidstack_session.specs.Causes.{cause_number}
use Rattle.hidstack_session.specs.Elements.{one_of}
use Rattle.hidstack_session.specs.States.{SessionState}
use Rattle.hidstack_session.specs.Sessions.{IsFirst, room_of}
use Rattle.hidstack.specs.declared.session.HidOpened.{HidOpened}

-- what is returned of a session that was opened
abbrev pub opened_result : SessionState → HidOpened
opened_result s = record {
  at = 0;
  room = room_of s;
  reports = length s.layout.reports;
  items = length s.layout.items;
  cause = 0;
  numbered = one_of s.layout.numbered;
}

-- what is returned of a refusal
abbrev pub refused_result : ℕ → ℕ → HidOpened
refused_result cause at = record { at = at; room = 0; reports = 0; items = 0; cause = cause; numbered = 0 }

-- the handle was closed, the descriptor has a byte, and the handle has a session of which nothing was read yet
abbrev pub Opens : Option SessionState → List ℕ → Option SessionState → HidOpened → Type 0
Opens before bytes after told =
    (before ≡ None) × (0 < length bytes) × (s : SessionState) × (after ≡ Some s) × IsFirst bytes s × (told ≡ opened_result s)

-- A descriptor isn't opened: it has no byte, which is L1 at 0 (our choice: a file that couldn't be read is no device without
-- controls); or this is its one refusal; or memory ran out.
abbrev pub IsUnopened : List ℕ → Cause → ℕ → Type 0
IsUnopened bytes cause at =
    ((length bytes ≡ 0) × (cause ≡ Truncated) × (at ≡ 0)) ⊎ ((0 < length bytes) × Explains bytes cause at)

-- the handle was closed and is so, and this is why
abbrev pub Refuses : Option SessionState → List ℕ → Option SessionState → HidOpened → Type 0
Refuses before bytes after told =
    (before ≡ None) × (after ≡ None) × (cause : Cause) × (at : ℕ) × IsUnopened bytes cause at
    × (told ≡ refused_result (cause_number cause) at)

-- the handle was open and stays as it was, and so does what was reported
abbrev pub IsBusy : Option SessionState → Option SessionState → HidOpened → HidOpened → Type 0
IsBusy before after told told' = (s : SessionState) × (before ≡ Some s) × (after ≡ Some s) × (told' ≡ told)
