-- The exit status of a run (our choice: docs/RECORDINGS.md).
use Rattle.std.specs.Prelude.{ℕ, nat_lt, ◌&&◌, Bool, true, false, if◌then◌else◌, List, Result, Ok, Err}
use Rattle.std.specs.List.{list_any}
use Rattle.hid_capture.specs.declared.undescribed.UndescribedEndpoint.{UndescribedEndpoint}
use Rattle.hid_recording.specs.declared.summary.Summary.{Summary}
use Rattle.hid_recording.specs.declared.fault.Cause.{Cause}
use Rattle.hid_recording.specs.declared.fault.Cause.TheVariants.{Refused, LineTooLong, Read, Write, Memory, TooManyReads, Unended}
use Rattle.hidplay.specs.declared.fault.FileFault.{FileFault}
use Rattle.hidplay.specs.declared.fault.Why.{Why}
use Rattle.hidplay.specs.declared.fault.Why.TheVariants.{Recording, Capture, Descriptor, Other}

-- the exit status of a cause: 1 if a line is refused, 3 if the cause lies outside of the recording
abbrev pub cause_status : Cause → ℕ
cause_status (Refused refusal) = 1
cause_status LineTooLong = 1
cause_status Read = 3
cause_status Write = 3
cause_status Memory = 3
cause_status TooManyReads = 3
cause_status Unended = 1

-- the exit status of what ended a file: 1 if it is a capture or a descriptor that can't be read, or a file that isn't played
abbrev pub why_status : Why → ℕ
why_status (Recording cause) = cause_status cause
why_status (Capture cause) = 1
why_status (Descriptor cause) = 1
why_status (Other file) = 1

-- the exit status of a run: 0 if nothing was refused, 1 if a line is refused or too long, a dump isn't ended or a capture can't
-- be read, 3 if the file, the writer or memory failed
abbrev pub status_of : Result Summary FileFault → ℕ
status_of (Ok summary) = if nat_lt 0 summary.refused then 1 else 0
status_of (Err fault) = why_status fault.why

-- what ends all files: standard output failed, or a refusal of a strict run
abbrev pub ends_all_by : Bool → Cause → Bool
ends_all_by strict (Refused refusal) = strict
ends_all_by strict LineTooLong = strict
ends_all_by strict Unended = strict
ends_all_by strict Write = true
ends_all_by strict Read = false
ends_all_by strict Memory = false
ends_all_by strict TooManyReads = false

-- what ends all files, of recordings and of captures
abbrev pub ends_all_for : Bool → Why → Bool
ends_all_for strict (Recording cause) = ends_all_by strict cause
ends_all_for strict (Capture cause) = strict
ends_all_for strict (Descriptor cause) = strict
ends_all_for strict (Other file) = strict

-- whether no further file is begun: standard output failed, or a strict run met a refusal
abbrev pub ends_all : Bool → Result Summary FileFault → Bool
ends_all strict (Ok summary) = false
ends_all strict (Err fault) = ends_all_for strict fault.why

-- a strict run met reports of HID interfaces without a descriptor: they are like a refusal
abbrev pub lacks_descriptor : Bool → List UndescribedEndpoint → Bool
lacks_descriptor strict undescribed = strict && list_any (λ one. one.is_hid) undescribed

-- the exit status of such reports
abbrev pub lack_status : Bool → ℕ
lack_status lacks = if lacks then 1 else 0

-- a file that was played to its end had a report descriptor
abbrev pub has_descriptor : Result Summary FileFault → Bool
has_descriptor (Ok summary) = nat_lt 0 summary.descriptors
has_descriptor (Err fault) = false
