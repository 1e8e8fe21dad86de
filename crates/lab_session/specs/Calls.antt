-- What the feed and the writer of a run answered (our choice: docs/LAB.md).
use Rattle.std.specs.Prelude.{◌≡◌, ◌⊎◌, ℕ, ◌<◌, zero, suc, Bool, true, List, ◌++◌, Option, Result, Ok, Err}
use Rattle.std.specs.Io.KnownBytes.{Consumes, Keeps}
use Rattle.hid_script.specs.declared.fault.Cause.{Cause}
use Rattle.hid_script.specs.declared.fault.Cause.TheVariants as causes
use Rattle.hid_script.specs.Streams.{Reply, AllSucceed, FromLine}
use Rattle.lab_session.specs.declared.fault.LabCause.{LabCause}
use Rattle.lab_session.specs.declared.fault.LabCause.TheVariants.{Script}
use Rattle.lab_session.specs.declared.runs.LabFault.{LabFault}
use Rattle.lab_session.specs.declared.runs.TheConstants.{MAX_LINES, MAX_READS}

-- ---- the writer

-- a cause that a line may have: neither X5 nor X8
abbrev pub IsOfLine : Cause → Type 0
IsOfLine causes.Read = ⊥
IsOfLine causes.TooManyReads = ⊥
IsOfLine _ = Unit {0}

-- a cause for which no call has to fail: neither X5, X6 nor X8
abbrev pub NeedsNoCall : Cause → Type 0
NeedsNoCall causes.Read = ⊥
NeedsNoCall causes.Write = ⊥
NeedsNoCall causes.TooManyReads = ⊥
NeedsNoCall _ = Unit {0}

-- a cause of the bench for which no call has to fail
abbrev pub LabNeedsNoCall : LabCause → Type 0
LabNeedsNoCall (Script cause) = NeedsNoCall cause
LabNeedsNoCall _ = Unit {0}

-- what the writer answered to a part of a line that was carried out, or ended so
abbrev pub EndsStep : {W A : Type 0} → (W → Reply → W → Type 0) → W → W → Result A Cause → Type 0
EndsStep calls first last (Ok _) = AllSucceed calls first last
EndsStep calls first last (Err cause) = FromLine calls first last cause

-- What a cause of the bench says of the calls of the writer: X6, that the last one failed, and no other; any other cause, that none
-- did. No line ends by X5 or X8.
abbrev pub FromLab : {W : Type 0} → (W → Reply → W → Type 0) → W → W → LabCause → Type 0
FromLab calls first last (Script cause) = FromLine calls first last cause
FromLab calls first last _ = AllSucceed calls first last

-- what the writer answered to a line that was carried out, or ended so
abbrev pub EndsLab : {W A : Type 0} → (W → Reply → W → Type 0) → W → W → Result A LabCause → Type 0
EndsLab calls first last (Ok _) = AllSucceed calls first last
EndsLab calls first last (Err cause) = FromLab calls first last cause

-- What the writer answered to lines that were carried out, or ended a run: a text is not read, so no run of it ends by X5 or X8.
abbrev pub EndsLines : {W A : Type 0} → (W → Reply → W → Type 0) → W → W → Result A LabFault → Type 0
EndsLines calls first last (Ok _) = AllSucceed calls first last
EndsLines calls first last (Err fault) = FromLab calls first last fault.cause

-- ---- the feed

-- a feed gave these bytes, and more may come or none do; or it failed
pub data Fed : Type 0 where
  Gave : List ℕ → Bool → Fed
  Failed : Fed

-- how known bytes of a reader change with what it answered
abbrev pub FedConsumes : Option (List ℕ) → Fed → Option (List ℕ) → Type 0
FedConsumes old (Gave bytes more) new = Consumes old new bytes
FedConsumes old Failed new = Keeps old new

-- what is in memory is given, and never fails
abbrev pub NeverFails : Option (List ℕ) → Fed → Option (List ℕ) → Type 0
NeverFails old (Gave bytes more) new = Consumes old new bytes
NeverFails old Failed new = ⊥

-- what a feed answered, by what came of it: X5 says that it failed; else it gave bytes, or memory ran out
abbrev pub FeedAnswers : {F : Type 0} → (F → Fed → F → Type 0) → F → F → Result Bool Cause → Type 0
FeedAnswers feeds old new (Ok more) = (bytes : List ℕ) × feeds old (Gave bytes more) new
FeedAnswers feeds old new (Err causes.Read) = feeds old Failed new
FeedAnswers feeds old new (Err causes.Write) = ⊥
FeedAnswers feeds old new (Err causes.TooManyReads) = ⊥
FeedAnswers feeds old new (Err _) = Unit {0}

-- A chain of feeds that led from one state to another: each gave bytes, of which more may come.
unfoldable pub FedOn : {F : Type 0} → (F → Fed → F → Type 0) → F → ℕ → F → Type 0
FedOn {F} feeds first zero last = last ≡ first
FedOn {F} feeds first (suc n) last =
    (before : F) × (bytes : List ℕ) × FedOn feeds first n before × feeds before (Gave bytes true) last

-- the last feed failed, and fewer came before it than a run makes
abbrev pub LastFails : {F : Type 0} → (F → Fed → F → Type 0) → F → F → Type 0
LastFails {F} feeds first last = (n : ℕ) × (before : F) × FedOn feeds first n before × feeds before Failed last × (n < MAX_READS)

-- ---- a run

-- What a cause of a run says of its calls, with so many lines at its end. X5: the last feed failed. X8: as many as a run makes came
-- to no end, or there are over 100,000,000 lines. X6: the last call of the writer failed; at any other cause none did.
abbrev pub RunFault : {F W : Type 0} → (F → Fed → F → Type 0) → (W → Reply → W → Type 0) → F → F → W → W → ℕ → LabCause → Type 0
RunFault feeds calls f f' w w' lines (Script causes.Read) = LastFails feeds f f' × AllSucceed calls w w'
RunFault feeds calls f f' w w' lines (Script causes.TooManyReads) =
    (FedOn feeds f MAX_READS f' ⊎ (MAX_LINES < lines)) × AllSucceed calls w w'
RunFault feeds calls f f' w w' lines cause = FromLab calls w w' cause

-- what a feed and a writer answered to a run, with so many lines at its end
abbrev pub EndsRun : {F W A : Type 0} → (F → Fed → F → Type 0) → (W → Reply → W → Type 0) → F → F → W → W → ℕ → Result A LabFault → Type 0
EndsRun feeds calls f f' w w' lines (Ok _) = AllSucceed calls w w'
EndsRun feeds calls f f' w w' lines (Err fault) = RunFault feeds calls f f' w w' lines fault.cause

-- What the writer answered to the lines that had come whole, with so many lines at their end: over 100,000,000 end a run by X8.
abbrev pub AheadFault : {W : Type 0} → (W → Reply → W → Type 0) → W → W → ℕ → LabCause → Type 0
AheadFault calls w w' lines (Script causes.TooManyReads) = (MAX_LINES < lines) × AllSucceed calls w w'
AheadFault calls w w' lines cause = FromLab calls w w' cause

abbrev pub EndsAhead : {W A : Type 0} → (W → Reply → W → Type 0) → W → W → ℕ → Result A LabFault → Type 0
EndsAhead calls w w' lines (Ok _) = AllSucceed calls w w'
EndsAhead calls w w' lines (Err fault) = AheadFault calls w w' lines fault.cause

-- What a read of a run says of its calls: what was printed was handed on, and the feed answered so.
abbrev pub ReadFault : {F W : Type 0} → (F → Fed → F → Type 0) → (W → Reply → W → Type 0) → F → F → W → W → LabCause → Type 0
ReadFault feeds calls f f' w w' (Script causes.Read) = feeds f Failed f' × AllSucceed calls w w'
ReadFault feeds calls f f' w w' cause = FromLab calls w w' cause

abbrev pub EndsRead : {F W : Type 0} → (F → Fed → F → Type 0) → (W → Reply → W → Type 0) → F → F → W → W → Result Bool LabFault → Type 0
EndsRead feeds calls f f' w w' (Ok more) = ((bytes : List ℕ) × feeds f (Gave bytes more) f') × AllSucceed calls w w'
EndsRead feeds calls f f' w w' (Err fault) = ReadFault feeds calls f f' w w' fault.cause
