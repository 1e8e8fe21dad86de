-- What is written of a part whose text is kept first.
use Rattle.std.proofs.Common.{◌≡◌, ℕ, List, [], ◌++◌, refl, sym, ap, ◌∙◌, subst, inl, inr, arith, append-nil, append_assoc, Option, Some, Result, Ok, Err, OnOk, IfErr}
use Rattle.std.specs.Io.KnownBytes.{Appends}
use Rattle.std.proofs.KnownBytes.{Appends-nil, Appends-trans}
use Rattle.hid_bus.specs.declared.step.Step.{Step}
use Rattle.hid_text.specs.declared.fault.LineFault.{LineFault}
use Rattle.hid_text.specs.declared.line.Line.{Line}
use Rattle.hid_text.specs.Output.{IsPrefix, AppendsPrefix}
use Rattle.hid_script.specs.declared.fault.Cause.{Cause}
use Rattle.hid_script.specs.declared.fault.Cause.TheVariants as causes
use Rattle.hid_script.specs.Session.{Session, Outcome, success}
use Rattle.hid_script.specs.Steps.{StepPrints}
use Rattle.hid_script.specs.LineOutput.{BeginsMeant, MeaningPrints, times}
use Rattle.hid_script.specs.Runs.{Ending, RefusedLine, OutOfMemory, PartlyWritten, NotRun, ending_of, EndsAs}
use Rattle.hid_script.specs.Place.{AppendsOnce, AppendsOutput, Writes}
use Rattle.hid_script.proofs.FlushLemmas.{meant_begins, no_step_text}
use Rattle.hid_script.proofs.PlaceLemmas.{begins_meant}
use Rattle.lab_session.specs.Printed.{PrintsPart, WritesText, end_after, kept_cause}

-- what was written of a text by a writer that takes some of it, or all
pub writes_text : (old new : Option (List ℕ)) (text : List ℕ) (r : Result (Unit {0}) Cause) → OnOk r (Appends old new text)
    → IfErr r (λ cause. cause ≡ causes.Write) → AppendsPrefix old new text → WritesText old new text r
writes_text old new text (Ok u) all cause prefix = all
writes_text old new text (Err e) all cause prefix = subst (λ c. WritesText old new text (Err c)) (sym cause) prefix

-- ---- lines

-- the text of a line that was carried out is one that it begins with
begun_whole : (session next : Session) (text : List ℕ) (meaning : Result Line LineFault)
    → MeaningPrints session meaning (success text next) → BeginsMeant session meaning text
begun_whole session next text (Ok said) h = (times said, next, omega arith, h)
begun_whole session next text (Err fault) h = ap (λ (o : Outcome). o.text) h

prefix_both : (a b c : List ℕ) → IsPrefix a b → IsPrefix b c → IsPrefix a c
prefix_both a b c h k = (h.0 ++ k.0, k.1 ∙ ap (λ l. l ++ k.0) h.1 ∙ append_assoc a h.0 k.0)

-- what a line left is a prefix of a text that it begins with
cut_by : (ending : Ending) (session : Session) (meaning : Result Line LineFault) (text : List ℕ) (cause : Cause)
    → EndsAs ending (MeaningPrints session meaning) (BeginsMeant session meaning) text cause
    → (whole : List ℕ) × BeginsMeant session meaning whole × IsPrefix text whole
cut_by RefusedLine session meaning text cause h =
    (text, meant_begins session meaning text cause h, ([], sym (append-nil text)))
cut_by OutOfMemory session meaning text cause h = (text, h, ([], sym (append-nil text)))
cut_by PartlyWritten session meaning text cause h = h
cut_by NotRun session meaning text cause h = ([], begins_meant session meaning, rw h ([], refl))

left_of : (session next : Session) (meaning : Result Line LineFault) (text : List ℕ) (part : Result (Unit {0}) Cause)
    → Writes (MeaningPrints session meaning) (BeginsMeant session meaning) text part next
    → (whole : List ℕ) × BeginsMeant session meaning whole × IsPrefix text whole
left_of session next meaning text (Ok u) h = (text, begun_whole session next text meaning h, ([], sym (append-nil text)))
left_of session next meaning text (Err cause) h = cut_by (ending_of cause) session meaning text cause h

-- a part whose text was kept, and then printed in one of the ways in which a text is
by_printed : (old new : Option (List ℕ)) (text : List ℕ) (session next : Session) (meaning : Result Line LineFault)
    (part printed : Result (Unit {0}) Cause)
    → Writes (MeaningPrints session meaning) (BeginsMeant session meaning) text part next
    → WritesText old new text printed
    → AppendsOutput old new (MeaningPrints session meaning) (BeginsMeant session meaning) (end_after printed part) next
unfolding ending_of
by_printed old new text session next meaning part (Ok u) h k = (text, k, h)
by_printed old new text session next meaning part (Err causes.Memory) h k = ([], k, begins_meant session meaning)
by_printed old new text session next meaning part (Err causes.Write) h k =
    let whole = left_of session next meaning text part h in
    (k.0, k.2, (whole.0, whole.1, prefix_both k.0 text whole.0 k.1 whole.2))
by_printed old new text session next meaning part (Err cause) h k = absurd k

no_room : (old new : Option (List ℕ)) (session next : Session) (meaning : Result Line LineFault)
    → Appends old new []
    → AppendsOutput old new (MeaningPrints session meaning) (BeginsMeant session meaning) (Err causes.Memory) next
unfolding ending_of
no_room old new session next meaning h = ([], h, begins_meant session meaning)

-- what was written of a line is what is printed of its text
pub part_printed : (old new : Option (List ℕ)) (text : List ℕ) (session next : Session) (meaning : Result Line LineFault)
    (part result : Result (Unit {0}) Cause)
    → AppendsOutput (Some []) (Some text) (MeaningPrints session meaning) (BeginsMeant session meaning) part next
    → PrintsPart old new text part result
    → AppendsOutput old new (MeaningPrints session meaning) (BeginsMeant session meaning) result next
part_printed old new text session next meaning (Err causes.Write) result h k =
    subst (λ r. AppendsOutput old new (MeaningPrints session meaning) (BeginsMeant session meaning) r next) (sym k.1)
    (no_room old new session next meaning k.0)
part_printed old new text session next meaning part result h k =
    subst (λ r. AppendsOutput old new (MeaningPrints session meaning) (BeginsMeant session meaning) r next) (sym k.2)
    (by_printed old new text session next meaning part k.0
    (subst (λ t. Writes (MeaningPrints session meaning) (BeginsMeant session meaning) t part next) (sym h.1) h.2) k.1)

-- a line whose text was kept in a place that was empty
pub kept_printed : (old new : Option (List ℕ)) (kept text shown : List ℕ) (session next : Session) (meaning : Result Line LineFault)
    (part result : Result (Unit {0}) Cause) → kept ≡ [] → shown ≡ text
    → AppendsOutput (Some kept) (Some text) (MeaningPrints session meaning) (BeginsMeant session meaning) part next
    → PrintsPart old new shown part result
    → AppendsOutput old new (MeaningPrints session meaning) (BeginsMeant session meaning) result next
kept_printed old new kept text shown session next meaning part result none same h k =
    part_printed old new text session next meaning part result
    (subst (λ l. AppendsOutput (Some l) (Some text) (MeaningPrints session meaning) (BeginsMeant session meaning) part next) none h)
    (subst (λ t. PrintsPart old new t part result) same k)

-- what was printed of a part that was carried out
pub part_done : (old new : Option (List ℕ)) (text : List ℕ) (part : Result (Unit {0}) Cause) → part ≡ Ok tt
    → PrintsPart old new text part (Ok tt) → Appends old new text
part_done old new text (Ok u) is (printed, writes, e) = by printed writes e
  where
    by : (printed : Result (Unit {0}) Cause) → WritesText old new text printed → (let r : Result (Unit {0}) Cause = Ok tt in r) ≡ end_after printed (Ok u) → Appends old new text
    by (Ok v) k e = k
    by (Err cause) k e = absurd (cc)
part_done old new text (Err cause) is k = absurd (cc)

-- ---- steps

-- a step that is refused printed nothing, and nothing is written of it
pub step_ended : (old writer : Option (List ℕ)) (x : Step) (session next : Session) (new : Option (List ℕ)) (cause : Cause)
    → AppendsOnce old new (StepPrints x session) (Err cause) next
    → AppendsOnce writer writer (StepPrints x session) (Err (kept_cause cause)) next
unfolding ending_of
step_ended old writer x session next new causes.Write h = ([], Appends-nil writer, inl refl)
step_ended old writer x session next new causes.Memory h = ([], Appends-nil writer, inl refl)
step_ended old writer x session next new causes.Read h = absurd h.2
step_ended old writer x session next new causes.TooManyReads h = absurd h.2
step_ended old writer x session next new cause h =
    let none = no_step_text x session h.0 cause h.2 in
    ([], Appends-nil writer, subst (λ t. StepPrints x session (record { text = t; end = Err cause })) none h.2)

-- what was written of a step is what is printed of its text
pub step_printed : (old new : Option (List ℕ)) (text : List ℕ) (x : Step) (session next : Session)
    (printed : Result (Unit {0}) Cause)
    → StepPrints x session (success text next) → WritesText old new text printed
    → AppendsOnce old new (StepPrints x session) printed next
unfolding ending_of
step_printed old new text x session next (Ok u) h k = (text, k, h)
step_printed old new text x session next (Err causes.Memory) h k = ([], k, inl refl)
step_printed old new text x session next (Err causes.Write) h k = (k.0, k.2, (text, inr (next, h), k.1))
step_printed old new text x session next (Err cause) h k = absurd k

-- the text of a step was written, and then nothing more, whether memory ran out or not
pub step_output : (old mid new : Option (List ℕ)) (text : List ℕ) (x : Step) (session next : Session) (r : Result (Unit {0}) Cause)
    → StepPrints x session (success text next) → Appends old mid text → Appends mid new [] → IfErr r (λ cause. cause ≡ causes.Memory)
    → AppendsOnce old new (StepPrints x session) r next
unfolding ending_of
step_output old mid new text x session next (Ok u) h k l m = (text, subst (Appends old new) (append-nil text) (Appends-trans old mid new text [] k l), h)
step_output old mid new text x session next (Err cause) h k l m =
    subst (λ c. AppendsOnce old new (StepPrints x session) (Err c) next) (sym m)
    (text, subst (Appends old new) (append-nil text) (Appends-trans old mid new text [] k l), inr (next, h))
