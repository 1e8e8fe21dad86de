-- How long something is awaited, and how long transfers fail (our choice: docs/USBIP.md).
use Rattle.std.specs.Prelude.{ℕ, ◌+◌, ◌-◌, ◌==◌, ◌||◌, min, Bool, true, false, nat_le, nat_lt, if◌then◌else◌, Option, Some, None, unwrap_or, Result, Ok, Err}
use Rattle.hid_driver.specs.declared.fault.DriverFault.{DriverFault}
use Rattle.hid_driver.specs.declared.fault.DriverFault.TheVariants.{Failed}
use Rattle.usbip.specs.declared.message.Status.{Status}
use Rattle.usbip.specs.declared.message.Status.TheVariants as statuses
use Rattle.usbip_import.specs.declared.stage.Told.{Told}
use Rattle.usbip_import.specs.declared.stage.Told.TheVariants as told
use Rattle.usbip_session.specs.declared.notice.Notice.{Notice}
use Rattle.usbip_session.specs.declared.notice.Notice.TheVariants.{Report}
use Rattle.usbip_session.specs.declared.timer.Answer.{Answer}
use Rattle.usbip_session.specs.declared.timer.Answer.TheVariants as answers
use Rattle.usbip_session.specs.declared.timer.FailedRow.{FailedRow}

-- since when something is awaited: where it already was, since then
abbrev pub since_after : Bool → ℕ → Option ℕ → Option ℕ
since_after false now since = None
since_after true now since = Some (unwrap_or since now)

-- Something is awaited for longer than a limit. Example: with a limit of 10, and awaited since 5, it is late at 16
abbrev pub is_late : Option ℕ → ℕ → ℕ → Bool
is_late None now limit = false
is_late (Some since) now limit = nat_lt limit (now - since)

-- a row that begins with a failure at this time
abbrev pub row_from : ℕ → FailedRow
row_from now = record { first = now; last = now; bursts = 1 }

-- a row with a failure at this time: one that comes over a second after the last one begins a burst. 16 are counted at most.
abbrev pub row_with : ℕ → Option FailedRow → FailedRow
row_with now None = row_from now
row_with now (Some row) =
    if nat_lt 1000 (now - row.last) then record { first = now; last = now; bursts = min (row.bursts + 1) 16 }
    else record row { last = now }

-- The row of failures of an interface after an answer: a report that is read ends it, and an answer without one leaves it.
abbrev pub row_after : Answer → ℕ → Option FailedRow → Option FailedRow
row_after answers.Failed now row = Some (row_with now row)
row_after answers.Nothing now row = row
row_after answers.Report now row = None

-- what a transfer that is done brought: a report, if it has data and the driver read them
abbrev pub answer_done : Bool → Result (Unit {0}) DriverFault → Answer
answer_done true (Ok read) = answers.Report
answer_done true (Err fault) = answers.Nothing
answer_done false result = answers.Nothing

-- what a transfer for a report brought, which ended so
abbrev pub answer_with : Status → Bool → Result (Unit {0}) DriverFault → Answer
answer_with statuses.Success has_data result = answer_done has_data result
answer_with status has_data result = answers.Failed

-- What a message brought that led to this, and was the data of an answer or not. No other transfer than one for a report counts.
abbrev pub answer_of : Told → Bool → Answer
answer_of told.Onward has_data = answers.Nothing
answer_of (told.Control status result) has_data = answers.Nothing
answer_of (told.Report place status result) has_data = answer_with status has_data result

-- Transfers fail without an end: for longer than a limit in a burst, or in 16 bursts. Example: 16 failures, two seconds apart
abbrev pub is_endless : Option FailedRow → ℕ → Bool
is_endless None limit = false
is_endless (Some row) limit = nat_lt limit (row.last - row.first) || nat_le 16 row.bursts

-- What is reported of an answer that makes this row of that one: that the transfer failed, where a burst begins.
abbrev pub notice_of_row : ℕ → Option FailedRow → Option FailedRow → Option Notice
notice_of_row place before None = None
notice_of_row place None (Some after) = Some (Report place Failed)
notice_of_row place (Some before) (Some after) = if before.first == after.first then None else Some (Report place Failed)
