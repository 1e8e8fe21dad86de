-- What a run of a live device wrote and answered (our choice: docs/RECORDINGS.md).
use Rattle.std.specs.Prelude.{◌≡◌, ◌⊎◌, ℕ, true, List, [], ◌∷◌, ◌++◌, Option, Result, Ok, Err, IfSome}
use Rattle.std.specs.Io.KnownBytes.{Appends}
use Rattle.hid_recording.specs.declared.counted.Counted.TheVariants.{Reports}
use Rattle.hid_recording.specs.declared.fault.Cause.{Cause}
use Rattle.hid_recording.specs.declared.fault.Cause.TheVariants as causes
use Rattle.hid_recording.specs.declared.live.LiveFault.{LiveFault}
use Rattle.hid_recording.specs.declared.options.Options.{Options}
use Rattle.hid_recording.specs.declared.summary.Summary.{Summary}
use Rattle.hid_recording.specs.Acts.{Descriptor, Report, Disconnection, ActsGive, ActsEnd}
use Rattle.hid_recording.specs.CaptureRuns.{IsOutside}
use Rattle.hid_recording.specs.LineOutput.{with_line_counted}
use Rattle.hid_recording.specs.LiveReports.{TimedReport}
use Rattle.hid_recording.specs.Moments.{time_text}
use Rattle.hid_recording.specs.Player.{summary_of}
use Rattle.hid_recording.specs.Session.{Session, at_first, with_options, saturating_sum}

-- ---- reports

-- a report of the device is counted, and this is its text
abbrev pub ReportGives : Session → TimedReport → List ℕ → Session → Type 0
ReportGives session report text next =
    ActsGive (time_text report.time) (with_line_counted session) (Report 0 report.bytes ∷ []) text next

-- reports, one after the other, and their texts, joined, are this text
abbrev pub ReportsGive : Session → List TimedReport → List ℕ → Session → Type 0
ReportsGive session [] text last = (text ≡ []) × (last ≡ session)
ReportsGive session (report ∷ more) text last =
    (first : List ℕ) × (next : Session) × (rest : List ℕ)
    × ReportGives session report first next
    × ReportsGive next more rest last
    × (text ≡ first ++ rest)

-- the device is gone at a time, and this is the text of what it lets go of
abbrev pub EndGives : Session → ℕ → List ℕ → Session → Type 0
EndGives session time text last = ActsGive (time_text time) session (Disconnection 0 ∷ []) text last

-- ---- ends

-- a run that ended before the next report
abbrev pub live_fault : Session → Cause → LiveFault
live_fault now cause = record {
  report = saturating_sum now.lines 1;
  cause = cause;
  played = summary_of now now.lines;
}

-- what is left to write where the run ended in a report
abbrev pub ReportEnds : Session → TimedReport → List ℕ → Cause → Type 0
ReportEnds session report part cause =
    ActsEnd (time_text report.time) (with_line_counted session) (Report 0 report.bytes ∷ []) part cause

-- what is left to write where the run ended when the device was gone
abbrev pub EndEnds : Session → ℕ → List ℕ → Cause → Type 0
EndEnds session time part cause = ActsEnd (time_text time) session (Disconnection 0 ∷ []) part cause

-- what is left to write where the run ended in the first of these reports, or after the last one
abbrev pub NextEnds : Session → List TimedReport → List ℕ → Cause → Type 0
NextEnds now [] part cause = (time : ℕ) × EndEnds now time part cause
NextEnds now (report ∷ more) part cause = ReportEnds now report part cause

-- ---- runs

-- All these reports were played, and the device was gone then. The counts are those of the session after that.
pub record LiveFinishes (start : Session) (sent : List TimedReport) (written : List ℕ) (summary : Summary) : Type 0 where
  pub text : List ℕ
  pub now : Session
  pub told : ReportsGive start sent text now
  pub time : ℕ
  pub part : List ℕ
  pub last : Session
  pub gone : EndGives now time part last
  pub counts : summary ≡ summary_of last last.lines
  pub whole : written ≡ text ++ part

-- The run ended after the first of these reports: the whole text of those was written, and what the end leaves of what comes
-- next. What was played before it is counted.
pub record LiveStops (start : Session) (sent : List TimedReport) (written : List ℕ) (fault : LiveFault) : Type 0 where
  pub first : List TimedReport
  pub rest : List TimedReport
  pub split : sent ≡ first ++ rest
  pub text : List ℕ
  pub now : Session
  pub told : ReportsGive start first text now
  pub part : List ℕ
  pub ends : (IsOutside fault.cause × (part ≡ [])) ⊎ NextEnds now rest part fault.cause
  pub whole : written ≡ text ++ part
  pub place : fault ≡ live_fault now fault.cause

-- what a run of these reports wrote and answered
abbrev pub ReportsRunTo : Session → List TimedReport → List ℕ → Result Summary LiveFault → Type 0
ReportsRunTo start sent written (Ok summary) = LiveFinishes start sent written summary
ReportsRunTo start sent written (Err fault) = LiveStops start sent written fault

-- nothing was played of a device: its descriptor, if one was refused, ends the run
abbrev pub before_first : Options → Session
before_first options = at_first (record options { strict = true }) Reports

-- The descriptor was accepted, and this is its text: with --layout the layout. The reports come in this session.
abbrev pub IsDescribed : Options → List ℕ → List ℕ → Session → Type 0
IsDescribed options bytes text start =
    (described : Session) × ActsGive (time_text 0) (before_first options) (Descriptor 0 bytes ∷ []) text described
    × (start ≡ with_options described options)

-- the descriptor was accepted, and its reports were run
pub record RunsReports (options : Options) (bytes : List ℕ) (sent : List TimedReport) (written : List ℕ)
    (result : Result Summary LiveFault) : Type 0 where
  pub text : List ℕ
  pub start : Session
  pub described : IsDescribed options bytes text start
  pub rest : List ℕ
  pub run : ReportsRunTo start sent rest result
  pub whole : written ≡ text ++ rest

-- the run ended before the first report, in the descriptor: it is refused, or what lies outside failed
abbrev pub EndsAtFirst : Options → List ℕ → List ℕ → Result Summary LiveFault → Type 0
EndsAtFirst options bytes written (Ok summary) = ⊥
EndsAtFirst options bytes written (Err fault) =
    ((IsOutside fault.cause × (written ≡ []))
    ⊎ ActsEnd (time_text 0) (before_first options) (Descriptor 0 bytes ∷ []) written fault.cause)
    × (fault ≡ live_fault (before_first options) fault.cause)

-- what a run of a device with this descriptor and these reports wrote and answered
abbrev pub LiveRunsTo : Options → List ℕ → List TimedReport → List ℕ → Result Summary LiveFault → Type 0
LiveRunsTo options bytes sent written result =
    RunsReports options bytes sent written result ⊎ EndsAtFirst options bytes written result

-- the writer's bytes grew by what a run of the reports that come writes, if these are known
abbrev pub AppendsLive : Options → List ℕ → Option (List TimedReport) → Option (List ℕ) → Option (List ℕ)
    → Result Summary LiveFault → Type 0
AppendsLive options bytes sent old new result =
    IfSome sent (λ reports. (written : List ℕ) × Appends old new written × LiveRunsTo options bytes reports written result)

-- the report at which a run ended: the one after the last, where all were played
abbrev pub report_of : Result Summary LiveFault → ℕ
report_of (Ok summary) = saturating_sum summary.lines 1
report_of (Err fault) = fault.report

-- what was played when a run of a device ended
abbrev pub live_summary : Result Summary LiveFault → Summary
live_summary (Ok summary) = summary
live_summary (Err fault) = fault.played

-- how a run ended whose last flush failed
abbrev pub flush_failure : Result Summary LiveFault → LiveFault
flush_failure end = record { report = report_of end; cause = causes.Write; played = live_summary end }

-- the writer's bytes grew so, and the run ended so, or its last flush failed
abbrev pub AppendsFlushed : Options → List ℕ → Option (List TimedReport) → Option (List ℕ) → Option (List ℕ)
    → Result Summary LiveFault → Type 0
AppendsFlushed options bytes sent old new result =
    (end : Result Summary LiveFault) × AppendsLive options bytes sent old new end
    × ((result ≡ end) ⊎ (result ≡ Err (flush_failure end)))

-- ---- piece by piece

-- what was written of a report: all of its text, or what its end leaves of it
abbrev pub ReportTells : Session → TimedReport → List ℕ → Result (Unit {0}) LiveFault → Session → Type 0
ReportTells session report written (Ok _) next = ReportGives session report written next
ReportTells session report written (Err fault) next =
    ReportEnds session report written fault.cause × (fault ≡ live_fault session fault.cause)

-- known bytes grew by what was written of a report
abbrev pub AppendsReport : Option (List ℕ) → Option (List ℕ) → Session → TimedReport → Result (Unit {0}) LiveFault → Session
    → Type 0
AppendsReport old new session report result next =
    (written : List ℕ) × Appends old new written × ReportTells session report written result next

-- what was written where the device was gone
abbrev pub EndTells : Session → ℕ → List ℕ → Result Summary LiveFault → Type 0
EndTells session time written (Ok summary) =
    (last : Session) × EndGives session time written last × (summary ≡ summary_of last last.lines)
EndTells session time written (Err fault) =
    EndEnds session time written fault.cause × (fault ≡ live_fault session fault.cause)

-- known bytes grew by what was written where the device was gone
abbrev pub AppendsEnd : Option (List ℕ) → Option (List ℕ) → Session → ℕ → Result Summary LiveFault → Type 0
AppendsEnd old new session time result =
    (written : List ℕ) × Appends old new written × EndTells session time written result

-- known bytes grew by what was written of the reports that come, if these are known
abbrev pub AppendsReports : Session → Option (List TimedReport) → Option (List ℕ) → Option (List ℕ)
    → Result Summary LiveFault → Type 0
AppendsReports start sent old new result =
    IfSome sent (λ reports. (written : List ℕ) × Appends old new written × ReportsRunTo start reports written result)
