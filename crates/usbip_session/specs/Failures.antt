-- Failures of an interface, one after another, with no report between them (our choice: docs/USBIP.md).
use Rattle.std.specs.Prelude.{⊤, ◌≡◌, ◌≤◌, ℕ, ◌+◌, ◌-◌, min, false, List, [], ◌∷◌, Option}
use Rattle.usbip_session.specs.declared.timer.Answer.{Answer}
use Rattle.usbip_session.specs.declared.timer.Answer.TheVariants.{Failed, Nothing, Report}
use Rattle.usbip_session.specs.declared.timer.FailedRow.{FailedRow}
use Rattle.usbip_session.specs.Timers.{is_endless, row_after}

-- Times after a first one, each at least a gap after the one before.
abbrev pub AreApart : ℕ → ℕ → List ℕ → Type 0
AreApart gap last [] = ⊤
AreApart gap last (now ∷ times) = (last + gap ≤ now) × AreApart gap now times

-- The session goes on through these answers at their times: after none of them the row is endless.
abbrev pub GoesOn : ℕ → Option FailedRow → List (Answer × ℕ) → Type 0
GoesOn limit row [] = ⊤
GoesOn limit row ((answer, now) ∷ rest) =
    (is_endless (row_after answer now row) limit ≡ false) × GoesOn limit (row_after answer now row) rest

-- None of these answers brought a report.
abbrev pub BringNoReport : List (Answer × ℕ) → Type 0
BringNoReport [] = ⊤
BringNoReport ((Failed, now) ∷ rest) = BringNoReport rest
BringNoReport ((Nothing, now) ∷ rest) = BringNoReport rest
BringNoReport ((Report, now) ∷ rest) = ⊥

-- The times of the failures among these answers.
abbrev pub failure_times : List (Answer × ℕ) → List ℕ
failure_times [] = []
failure_times ((Failed, now) ∷ rest) = now ∷ failure_times rest
failure_times ((Nothing, now) ∷ rest) = failure_times rest
failure_times ((Report, now) ∷ rest) = failure_times rest

-- In milliseconds, how long failures at these times take, where at most 1,001 count of each wait for the next one.
abbrev pub failing_time : ℕ → List ℕ → ℕ
failing_time last [] = 0
failing_time last (now ∷ times) = min (now - last) 1001 + failing_time now times
