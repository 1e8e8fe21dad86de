-- What the feed and the writer of a run answered, one thing after the other.
use Rattle.std.proofs.Common.{◌≡◌, ℕ, ◌+◌, ◌<◌, Bool, true, List, refl, sym, subst, inl, inr, add-one, Result, Ok, Err, IfErr, IsErrAnd}
use Rattle.hid_host.specs.declared.fault.StackFault.{StackFault}
use Rattle.hid_host.specs.declared.fault.StackFault.TheVariants as stack
use Rattle.hid_script.specs.declared.fault.Cause.{Cause}
use Rattle.hid_script.specs.declared.fault.Cause.TheVariants as causes
use Rattle.hid_script.specs.LineOutput.{stack_cause}
use Rattle.hid_script.specs.Place.{end_of}
use Rattle.hid_script.specs.Streams.{Reply, AllSucceed, EndsText, FromLine}
use Rattle.hid_script.proofs.StreamLemmas.{all_succeed, from_behind, no_calls}
use Rattle.lab_lines.specs.LabLines.{Refusal, TooLong, Wrong}
use Rattle.lab_session.specs.declared.fault.LabCause.{LabCause}
use Rattle.lab_session.specs.declared.fault.LabCause.TheVariants.{Script}
use Rattle.lab_session.specs.declared.runs.LabFault.{LabFault}
use Rattle.lab_session.specs.declared.runs.TheConstants.{MAX_LINES, MAX_READS}
use Rattle.lab_session.specs.Asking.{cause_by}
use Rattle.lab_session.specs.Calls.{AheadFault, EndsAhead, EndsLab, EndsLines, EndsRead, EndsRun, EndsStep, Fed, FedOn, FeedAnswers, FromLab, Gave, Failed, IsOfLine, LabNeedsNoCall, LastFails, NeedsNoCall, ReadFault, RunFault}
use Rattle.lab_session.specs.Printed.{kept_cause}

-- ---- causes

-- what a part printed into memory ended by a cause that a line may have
pub of_text : {W : Type 0} (calls : W → Reply → W → Type 0) (a b : W) (r : Result (Unit {0}) Cause) → EndsText calls a b r → IfErr r IsOfLine
of_text calls a b (Ok u) h = tt
of_text calls a b (Err causes.Read) h = absurd h
of_text calls a b (Err causes.TooManyReads) h = absurd h
of_text calls a b (Err cause) h = tt

-- so did a step
pub of_step : {W A : Type 0} (calls : W → Reply → W → Type 0) (a b : W) (r : Result A Cause) → EndsText calls a b (end_of r) → IfErr r IsOfLine
of_step calls a b (Ok x) h = tt
of_step calls a b (Err causes.Read) h = absurd h
of_step calls a b (Err causes.TooManyReads) h = absurd h
of_step calls a b (Err cause) h = tt

-- the calls of a text, as those of a part
pub text_calls : {W : Type 0} (calls : W → Reply → W → Type 0) (a b : W) (r : Result (Unit {0}) Cause) → EndsText calls a b r → EndsStep calls a b r
text_calls calls a b (Ok u) h = h
text_calls calls a b (Err cause) h = h

-- a cause that no failed call has
pub no_failed : {W : Type 0} (calls : W → Reply → W → Type 0) (a b : W) (cause : Cause) → IsOfLine cause → (cause ≡ causes.Write → ⊥) → AllSucceed calls a b → FromLine calls a b cause
no_failed calls a b causes.Read line write h = absurd line
no_failed calls a b causes.TooManyReads line write h = absurd line
no_failed calls a b causes.Write line write h = absurd (write refl)
no_failed calls a b cause line write h = h

pub none_fails : {W : Type 0} (calls : W → Reply → W → Type 0) (a b : W) (cause : Cause) → NeedsNoCall cause → AllSucceed calls a b → FromLine calls a b cause
none_fails calls a b causes.Read line h = absurd line
none_fails calls a b causes.TooManyReads line h = absurd line
none_fails calls a b causes.Write line h = absurd line
none_fails calls a b cause line h = h

pub lab_none_fails : {W : Type 0} (calls : W → Reply → W → Type 0) (a b : W) (cause : LabCause) → LabNeedsNoCall cause → AllSucceed calls a b → FromLab calls a b cause
lab_none_fails calls a b (Script cause) line h = none_fails calls a b cause line h
lab_none_fails calls a b cause line h = h

-- the cause of a part whose text was kept
pub kept_fails : {W : Type 0} (calls : W → Reply → W → Type 0) (a b : W) (cause : Cause) → IsOfLine cause → AllSucceed calls a b → FromLine calls a b (kept_cause cause)
kept_fails calls a b causes.Read line h = absurd line
kept_fails calls a b causes.TooManyReads line h = absurd line
kept_fails calls a b causes.Write line h = h
kept_fails calls a b cause line h = h

-- the cause of a fault of the stack
pub stack_needs_none : (fault : StackFault) → NeedsNoCall (stack_cause fault)
stack_needs_none stack.Memory = tt
stack_needs_none fault = tt

-- memory ran out after calls that succeeded
pub memory_fails : {W : Type 0} (calls : W → Reply → W → Type 0) (a b : W) (fault : LabFault) → fault.cause ≡ Script causes.Memory → AllSucceed calls a b → FromLab calls a b fault.cause
memory_fails calls a b fault is h = subst (FromLab calls a b) (sym is) h

-- so is the cause of a line that can't be read
pub unread_needs_none : (refusal : Refusal) → NeedsNoCall (cause_by refusal)
unread_needs_none TooLong = tt
unread_needs_none (Wrong word expected) = tt

-- ---- results

-- a line that makes no call
pub lab_quiet : {W A : Type 0} (calls : W → Reply → W → Type 0) (a b : W) (r : Result A LabCause) → IfErr r LabNeedsNoCall → AllSucceed calls a b → EndsLab calls a b r
lab_quiet calls a b (Ok x) quiet h = h
lab_quiet calls a b (Err cause) quiet h = lab_none_fails calls a b cause quiet h

pub step_by : {W A : Type 0} (calls : W → Reply → W → Type 0) (a b : W) (cause : Cause) (r : Result A Cause) → FromLine calls a b cause → IsErrAnd r (λ e. e ≡ cause) → EndsStep calls a b r
step_by calls a b cause (Ok x) from is = absurd is
step_by calls a b cause (Err e) from is = subst (FromLine calls a b) (sym is) from

pub lab_by : {W A : Type 0} (calls : W → Reply → W → Type 0) (a b : W) (cause : LabCause) (r : Result A LabCause) → FromLab calls a b cause → IsErrAnd r (λ e. e ≡ cause) → EndsLab calls a b r
lab_by calls a b cause (Ok x) from is = absurd is
lab_by calls a b cause (Err e) from is = subst (FromLab calls a b) (sym is) from

pub lines_by : {W A : Type 0} (calls : W → Reply → W → Type 0) (a b : W) (fault : LabFault) (r : Result A LabFault) → FromLab calls a b fault.cause → IsErrAnd r (λ e. e ≡ fault) → EndsLines calls a b r
lines_by calls a b fault (Ok x) from is = absurd is
lines_by calls a b fault (Err e) from is = subst (λ (f : LabFault). FromLab calls a b f.cause) (sym is) from

-- a part in the place of a line
pub lab_step : {W A B : Type 0} (calls : W → Reply → W → Type 0) (a b : W) (r : Result A Cause) (s : Result B LabCause) → EndsStep calls a b r → ((x : A) → r ≡ Ok x → AllSucceed calls a b → EndsLab calls a b s)
    → ((e : Cause) → r ≡ Err e → s ≡ Err (Script e)) → EndsLab calls a b s
lab_step calls a b (Ok x) s h k l = k x refl h
lab_step calls a b (Err e) s h k l = subst (EndsLab calls a b) (sym (l e refl)) h

-- ---- one thing after another

pub step_behind : {W A : Type 0} (calls : W → Reply → W → Type 0) (a b c : W) (r : Result A Cause) → AllSucceed calls a b → EndsStep calls b c r → EndsStep calls a c r
step_behind calls a b c (Ok x) h k = all_succeed calls a b c h k
step_behind calls a b c (Err cause) h k = from_behind calls a b c cause h k

pub from_lab_behind : {W : Type 0} (calls : W → Reply → W → Type 0) (a b c : W) (cause : LabCause) → AllSucceed calls a b → FromLab calls b c cause → FromLab calls a c cause
from_lab_behind calls a b c (Script cause) h k = from_behind calls a b c cause h k
from_lab_behind calls a b c cause h k = all_succeed calls a b c h k

pub lab_behind : {W A : Type 0} (calls : W → Reply → W → Type 0) (a b c : W) (r : Result A LabCause) → AllSucceed calls a b → EndsLab calls b c r → EndsLab calls a c r
lab_behind calls a b c (Ok x) h k = all_succeed calls a b c h k
lab_behind calls a b c (Err cause) h k = from_lab_behind calls a b c cause h k

pub lines_behind : {W A : Type 0} (calls : W → Reply → W → Type 0) (a b c : W) (r : Result A LabFault) → AllSucceed calls a b → EndsLines calls b c r → EndsLines calls a c r
lines_behind calls a b c (Ok x) h k = all_succeed calls a b c h k
lines_behind calls a b c (Err fault) h k = from_lab_behind calls a b c fault.cause h k

-- ---- lines that had come whole

pub ahead_fault : {W : Type 0} (calls : W → Reply → W → Type 0) (a b : W) (n : ℕ) (cause : LabCause) → FromLab calls a b cause → AheadFault calls a b n cause
ahead_fault calls a b n (Script causes.Read) h = h
ahead_fault calls a b n (Script causes.TooManyReads) h = absurd h
ahead_fault calls a b n (Script cause) h = h
ahead_fault calls a b n cause h = h

pub ahead_by : {W A : Type 0} (calls : W → Reply → W → Type 0) (a b : W) (n : ℕ) (fault : LabFault) (r : Result A LabFault) → FromLab calls a b fault.cause → IsErrAnd r (λ e. e ≡ fault) → EndsAhead calls a b n r
ahead_by calls a b n fault (Ok x) from is = absurd is
ahead_by calls a b n fault (Err e) from is = subst (λ (f : LabFault). AheadFault calls a b n f.cause) (sym is) (ahead_fault calls a b n fault.cause from)

-- over as many lines as a source has
pub too_many_lines : {W : Type 0} (calls : W → Reply → W → Type 0) (a b : W) (n : ℕ) (fault : LabFault) → fault.cause ≡ Script causes.TooManyReads → MAX_LINES < n → AllSucceed calls a b → AheadFault calls a b n fault.cause
too_many_lines calls a b n fault is many h = subst (AheadFault calls a b n) (sym is) (many, h)

-- ---- reads

-- what was printed couldn't be handed on
pub read_handed : {F W : Type 0} (feeds : F → Fed → F → Type 0) (calls : W → Reply → W → Type 0) (f : F) (a b : W) (cause : Cause) → cause ≡ causes.Write → FromLine calls a b cause → ReadFault feeds calls f f a b (Script cause)
read_handed feeds calls f a b cause is h = subst (λ c. ReadFault feeds calls f f a b (Script c)) (sym is) (subst (FromLine calls a b) is h)

-- a part that didn't end early
pub step_went : {W A : Type 0} (calls : W → Reply → W → Type 0) (a b : W) (r : Result A Cause) → EndsStep calls a b r → ((e : Cause) → r ≡ Err e → ⊥) → AllSucceed calls a b
step_went calls a b (Ok x) h not = h
step_went calls a b (Err e) h not = absurd (not e refl)

-- a feed that ended so, once what was printed was handed on
pub read_by : {F W : Type 0} (feeds : F → Fed → F → Type 0) (calls : W → Reply → W → Type 0) (f g : F) (a b : W) (cause : Cause) (r : Result Bool Cause) → r ≡ Err cause → FeedAnswers feeds f g r → AllSucceed calls a b
    → ReadFault feeds calls f g a b (Script cause)
read_by feeds calls f g a b cause r is answer h = read_as cause (subst (FeedAnswers feeds f g) is answer)
  where
    read_as : (c : Cause) → FeedAnswers feeds f g (Err c) → ReadFault feeds calls f g a b (Script c)
    read_as causes.Read k = (k, h)
    read_as causes.Write k = absurd k
    read_as causes.TooManyReads k = absurd k
    read_as c k = h

-- ---- a run

pub fed_first : {F : Type 0} (feeds : F → Fed → F → Type 0) (f : F) → FedOn feeds f 0 f
unfolding FedOn
fed_first feeds f = refl

pub fed_more : {F : Type 0} (feeds : F → Fed → F → Type 0) (f g h : F) (n : ℕ) (more : Bool) (bytes : List ℕ) → FedOn feeds f n g → more ≡ true → feeds g (Gave bytes more) h → FedOn feeds f (n + 1) h
unfolding FedOn
fed_more feeds f g h n more bytes on is k = rw add-one (g, bytes, on, subst (λ m. feeds g (Gave bytes m) h) is k)

run_fault : {F W : Type 0} (feeds : F → Fed → F → Type 0) (calls : W → Reply → W → Type 0) (f g : F) (a b c : W) (n : ℕ) (cause : LabCause) → AllSucceed calls a b → AheadFault calls b c n cause → RunFault feeds calls f g a c n cause
run_fault feeds calls f g a b c n (Script causes.Read) h k = absurd k
run_fault feeds calls f g a b c n (Script causes.TooManyReads) h k = (inr k.0, all_succeed calls a b c h k.1)
run_fault feeds calls f g a b c n (Script causes.Write) h k = from_behind calls a b c causes.Write h k
run_fault feeds calls f g a b c n (Script cause) h k = all_succeed calls a b c h k
run_fault feeds calls f g a b c n cause h k = all_succeed calls a b c h k

-- a run that ended at a line that had come whole
pub run_by_lines : {F W A : Type 0} (feeds : F → Fed → F → Type 0) (calls : W → Reply → W → Type 0) (f g : F) (a b c : W) (n : ℕ) (fault : LabFault) (r : Result A LabFault) → AllSucceed calls a b → AheadFault calls b c n fault.cause
    → r ≡ Err fault → EndsRun feeds calls f g a c n r
run_by_lines feeds calls f g a b c n fault r h k is = subst (EndsRun feeds calls f g a c n) (sym is) (run_fault feeds calls f g a b c n fault.cause h k)

-- a run that ended at a read
pub run_by_read : {F W A : Type 0} (feeds : F → Fed → F → Type 0) (calls : W → Reply → W → Type 0) (f g h : F) (a b c : W) (m n : ℕ) (fault : LabFault) (r : Result A LabFault) → AllSucceed calls a b → FedOn feeds f m g → m < MAX_READS
    → ReadFault feeds calls g h b c fault.cause → r ≡ Err fault → EndsRun feeds calls f h a c n r
run_by_read feeds calls f g h a b c m n fault r done on few k is = subst (EndsRun feeds calls f h a c n) (sym is) (read_as fault.cause k)
  where
    read_as : (cause : LabCause) → ReadFault feeds calls g h b c cause → RunFault feeds calls f h a c n cause
    read_as (Script causes.Read) q = ((m, g, on, q.0, few), all_succeed calls a b c done q.1)
    read_as (Script causes.TooManyReads) q = absurd q
    read_as (Script causes.Write) q = from_behind calls a b c causes.Write done q
    read_as (Script cause) q = all_succeed calls a b c done q
    read_as cause q = all_succeed calls a b c done q

-- a run that made as many reads as it makes
pub run_reads_all : {F W A : Type 0} (feeds : F → Fed → F → Type 0) (calls : W → Reply → W → Type 0) (f g : F) (a b : W) (m n : ℕ) (fault : LabFault) (r : Result A LabFault) → AllSucceed calls a b → FedOn feeds f m g → m ≡ MAX_READS
    → fault.cause ≡ Script causes.TooManyReads → r ≡ Err fault → EndsRun feeds calls f g a b n r
run_reads_all feeds calls f g a b m n fault r done on all is ends =
    subst (EndsRun feeds calls f g a b n) (sym ends)
    (subst (RunFault feeds calls f g a b n) (sym is) (inl (subst (λ k. FedOn feeds f k g) all on), done))

-- a run to its end
pub run_to_end : {F W A : Type 0} (feeds : F → Fed → F → Type 0) (calls : W → Reply → W → Type 0) (f g : F) (a b c : W) (n : ℕ) (r : Result A LabFault) → AllSucceed calls a b → EndsLines calls b c r → EndsRun feeds calls f g a c n r
run_to_end feeds calls f g a b c n (Ok x) done h = all_succeed calls a b c done h
run_to_end feeds calls f g a b c n (Err fault) done h = run_fault feeds calls f g a b c n fault.cause done (ahead_fault calls b c n fault.cause h)
