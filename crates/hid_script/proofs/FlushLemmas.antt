-- A flush that fails ends a run at the line where it stood, whatever ended it there.
use Rattle.std.proofs.Common.{◌≡◌, ◌⊎◌, ℕ, zero, suc, ◌+◌, List, [], ◌∷◌, ◌++◌, refl, sym, ap, ◌∙◌, subst, inl, inr, arith, append-nil, Option, None, Some, Result, Ok, Err}
use Rattle.std.specs.Str.Lines.{lines}
use Rattle.std.proofs.KnownBytes.{Appends-nil}
use Rattle.std.specs.Io.KnownBytes.{Appends, Consumes, Keeps}
use Rattle.hid_report_descriptor.specs.declared.usage.Usage.{Usage}
use Rattle.hid_layout.specs.declared.control.ControlId.{ControlId}
use Rattle.hid_layout.specs.Layout.{Contents}
use Rattle.hid_snapshots.specs.declared.fault.ReportFault.{ReportFault}
use Rattle.hid_usages.specs.Reading.{report_named}
use Rattle.hid_requests.specs.declared.boot.Boot.{Boot}
use Rattle.hid_bus.specs.declared.start.Start.{Start}
use Rattle.hid_host.specs.declared.fault.StackFault.{StackFault}
use Rattle.hid_bus.specs.declared.step.Step.{Step}
use Rattle.hid_bus.specs.declared.step.Step.TheVariants.{Change}
use Rattle.hid_bus.specs.declared.step.Step.TheVariants as step
use Rattle.hid_script.specs.declared.fault.Cause.{Cause}
use Rattle.hid_script.specs.declared.fault.Cause.TheVariants as causes
use Rattle.hid_script.specs.declared.options.Options.{Options}
use Rattle.hid_script.specs.declared.fault.ScriptFault.{ScriptFault}
use Rattle.hid_script.specs.declared.summary.Summary.{Summary}
use Rattle.hid_text.specs.declared.fault.LineFault.{LineFault}
use Rattle.hid_text.specs.declared.line.Line.{Line}
use Rattle.hid_text.specs.declared.line.Line.TheVariants as line
use Rattle.hid_text.specs.declared.short.ShortLine.{ShortLine}
use Rattle.hid_text.specs.declared.short.ShortLine.TheVariants as short
use Rattle.hid_text.specs.declared.change_kind.ChangeKind.{ChangeKind}
use Rattle.hid_text.specs.declared.change_kind.ChangeKind.TheVariants as wanted
use Rattle.hid_text.specs.Line.{meaning_of}
use Rattle.hid_text.specs.Output.{IsPrefix}
use Rattle.hid_script.specs.Session.{Session, Outcome, success, failure, at_first, Repeats}
use Rattle.hid_script.specs.Steps.{LayoutPrints, DevicePrints, StepPrints, FoundPrints, ChangePrints, values_outcome, read_report, change_of}
use Rattle.hid_script.specs.LineOutput.{ShortLinePrints, LineOutcomeOnce, times, MeaningPrints, LinePrints, LineBegins, Begins, BeginsMeant}
use Rattle.hid_script.specs.Runs.{Ending, RefusedLine, OutOfMemory, PartlyWritten, NotRun, ending_of, EndsAs, Ends, FirstPrints, FirstBegins, RunsTo, Stops, line_of, AppendsScript}
use Rattle.hid_script.specs.Place.{Place, Advances, RunsFrom, lines_at, AppendsFrom}
use Rattle.hid_script.proofs.PlaceLemmas.{first_begins, broken_run}

-- ---- what is refused prints nothing

-- a part that is refused has printed nothing
abbrev pub PrintsNothing : (Session → Outcome → Type 0) → Type 0
PrintsNothing Part = (session : Session) (text : List ℕ) (cause : Cause) → Part session (record { text = text; end = Err cause }) → text ≡ []

-- the outcome of a part that was refused after this text
abbrev pub refused_with : List ℕ → Cause → Outcome
refused_with text cause = record { text = text; end = Err cause }

not_accepted : (text other : List ℕ) (cause : Cause) (session : Session)
    → refused_with text cause ≡ success other session → text ≡ []
not_accepted text other cause session e =
    let ends : (let r : Result Session Cause = Err cause in r) ≡ Ok session = ap (λ (o : Outcome). o.end) e in absurd (cc)

no_text : (text : List ℕ) (cause why : Cause) → refused_with text cause ≡ failure why → text ≡ []
no_text text cause why e = ap (λ (o : Outcome). o.text) e

no_report : (session : Session) (layout : Contents) (bytes text : List ℕ) (cause : Cause) (r : Result ℕ ReportFault) → refused_with text cause ≡ read_report session layout bytes r → text ≡ []
no_report session layout bytes text cause (Ok r) e = not_accepted text _ cause session e
no_report session layout bytes text cause (Err fault) e = no_text text cause _ e

no_values : (session : Session) (bytes text : List ℕ) (cause : Cause) (layout : Option Contents)
    → refused_with text cause ≡ values_outcome session bytes layout → text ≡ []
no_values session bytes text cause None e = no_text text cause _ e
no_values session bytes text cause (Some layout) e = no_report session layout bytes text cause (report_named layout bytes) e

no_layout_text : (bytes : List ℕ) → PrintsNothing (LayoutPrints bytes)
no_layout_text bytes session text cause (inl h) = not_accepted text _ cause _ h.1.1
no_layout_text bytes session text cause (inr h) = no_text text cause _ h.1.1

pub no_step_text : (step : Step) → PrintsNothing (StepPrints step)
no_step_text step session text cause (inl h) = not_accepted text _ cause _ h.3
no_step_text step session text cause (inr h) = no_text text cause _ h.2

no_found_text : (dev : ℕ) (wanted : ChangeKind) (found : Result ControlId StackFault)
    → PrintsNothing (FoundPrints dev wanted found)
no_found_text dev wanted (Ok control) session text cause h = no_step_text (Change dev (change_of wanted control)) session text cause h
no_found_text dev wanted (Err fault) session text cause h = no_text text cause _ h

no_change_text : (dev : ℕ) (usage : Usage) (wanted : ChangeKind) → PrintsNothing (ChangePrints dev usage wanted)
no_change_text dev usage wanted session text cause h = no_found_text dev wanted h.0 session text cause h.2

no_device_text : (start : Start) (boot : Boot) (bytes : List ℕ) → PrintsNothing (DevicePrints start boot bytes)
no_device_text start boot bytes session text cause (inl h) = not_accepted text _ cause _ h.5
no_device_text start boot bytes session text cause (inr h) = no_text text cause _ h.4

short_prints_nothing : (said : ShortLine) → PrintsNothing (ShortLinePrints said)
unfolding ShortLinePrints
short_prints_nothing (short.Press dev usage) session text cause h = no_change_text dev usage wanted.Press session text cause h
short_prints_nothing (short.Release dev usage) session text cause h = no_change_text dev usage wanted.Release session text cause h
short_prints_nothing (short.Null dev usage) session text cause h = no_change_text dev usage wanted.Null session text cause h
short_prints_nothing (short.Set dev usage value) session text cause h = no_change_text dev usage (wanted.Set value) session text cause h
short_prints_nothing (short.Move dev usage by) session text cause h = no_change_text dev usage (wanted.Move by) session text cause h
short_prints_nothing (short.Frame count) session text cause h = no_step_text step.Frame session text cause h
short_prints_nothing (short.Poll dev fate count) session text cause h = no_step_text (step.Poll dev fate) session text cause h
short_prints_nothing (short.Control dev fate count) session text cause h = no_step_text (step.Control dev fate) session text cause h
short_prints_nothing (short.Reset dev) session text cause h = no_step_text (step.Reset dev) session text cause h
short_prints_nothing (short.Halt dev) session text cause h = no_step_text (step.Halt dev) session text cause h

once_prints_nothing : (said : Line) → PrintsNothing (LineOutcomeOnce said)
unfolding LineOutcomeOnce
once_prints_nothing line.Nothing session text cause h = not_accepted text [] cause session h
once_prints_nothing (line.Layout bytes) session text cause h = no_layout_text bytes.items session text cause h
once_prints_nothing (line.Values bytes) session text cause h = no_values session bytes.items text cause session.layout h
once_prints_nothing (line.Device start boot bytes) session text cause h = no_device_text start boot bytes.items session text cause h
once_prints_nothing (line.Begin dev request) session text cause h = no_step_text (step.Begin dev request) session text cause h
once_prints_nothing (line.Step said) session text cause h = short_prints_nothing said session text cause h

-- ---- the text of a refused line is that of its first times

repeats_begin : (Part : Session → Outcome → Type 0) → PrintsNothing Part → (n : ℕ) (session : Session) (text : List ℕ) (cause : Cause) → Repeats n Part session (refused_with text cause) → Begins n Part session text
unfolding Repeats
repeats_begin Part nothing zero session text cause h =
    let none = not_accepted text [] cause session h in (0, session, omega arith, ap (λ t. success t session) none)
repeats_begin Part nothing (suc n) session text cause (inr h) =
    let none : text ≡ [] = ap (λ (o : Outcome). o.text) h.3 ∙ nothing session h.0 h.1 h.2 in
    (0, session, omega arith, ap (λ t. success t session) none)
repeats_begin Part nothing (suc n) session text cause (inl h) =
    let ends : (let r : Result Session Cause = Err cause in r) ≡ h.2.end = ap (λ (o : Outcome). o.end) h.5 in
    let whole : text ≡ h.0 ++ h.2.text = ap (λ (o : Outcome). o.text) h.5 in
    let rest : Repeats n Part h.1 (refused_with h.2.text cause) = subst (λ e. Repeats n Part h.1 (record { text = h.2.text; end = e })) (sym ends) h.4 in
    let more = repeats_begin Part nothing n h.1 h.2.text cause rest in (
      suc more.0,
      more.1,
      omega (arith, more.2),
      inl (h.0, h.1, success h.2.text more.1, h.3, more.3, ap (λ t. success t more.1) whole),
    )

pub meant_begins : (session : Session) (meaning : Result Line LineFault) (text : List ℕ) (cause : Cause)
    → MeaningPrints session meaning (refused_with text cause) → BeginsMeant session meaning text
meant_begins session (Ok said) text cause h =
    repeats_begin (LineOutcomeOnce said) (once_prints_nothing said) (times said) session text cause h
meant_begins session (Err why) text cause h = no_text text cause _ h

line_begins : (session : Session) (bytes text : List ℕ) (cause : Cause)
    → LinePrints session bytes (refused_with text cause) → LineBegins session bytes text
unfolding LinePrints LineBegins
line_begins session bytes text cause h = meant_begins session (meaning_of bytes) text cause h

-- ---- a run that stopped may as well have been cut off there

whole_text : (session : Session) (script : List (List ℕ)) (part : List ℕ) (cause : Cause) → FirstBegins session script part
    → (cut : List ℕ) × FirstBegins session script (part ++ cut) × ((cause ≡ causes.Write) ⊎ (cut ≡ []))
whole_text session script part cause h = ([], subst (FirstBegins session script) (sym (append-nil part)) h, inr refl)

begun_whole : (ending : Ending) (session : Session) (script : List (List ℕ)) (part : List ℕ) (cause : Cause)
    → (ending ≡ PartlyWritten → ⊥)
    → EndsAs ending (FirstPrints session script) (FirstBegins session script) part cause
    → (cut : List ℕ) × FirstBegins session script (part ++ cut) × ((cause ≡ causes.Write) ⊎ (cut ≡ []))
begun_whole RefusedLine session [] part cause other h = absurd h
begun_whole RefusedLine session (bytes ∷ more) part cause other h =
    whole_text session (bytes ∷ more) part cause (line_begins session bytes part cause h)
begun_whole OutOfMemory session script part cause other h = whole_text session script part cause h
begun_whole PartlyWritten session script part cause other h = absurd (other refl)
begun_whole NotRun session script part cause other h =
    whole_text session script part cause (subst (FirstBegins session script) (sym h) (first_begins session script))

cut_there : (ending : Ending) (session : Session) (script : List (List ℕ)) (part : List ℕ) (cause : Cause)
    → EndsAs ending (FirstPrints session script) (FirstBegins session script) part cause
    → (text : List ℕ) × FirstBegins session script text × IsPrefix part text
cut_there RefusedLine session [] part cause h = absurd h
cut_there RefusedLine session (bytes ∷ more) part cause h =
    (part, line_begins session bytes part cause h, ([], sym (append-nil part)))
cut_there OutOfMemory session script part cause h = (part, h, ([], sym (append-nil part)))
cut_there PartlyWritten session script part cause h = h
cut_there NotRun session script part cause h = ([], first_begins session script, rw h ([], refl))

-- only a writer cuts something off the text that a line began to tell
pub begun_there : (session : Session) (script : List (List ℕ)) (part : List ℕ) (cause : Cause)
    → Ends (FirstPrints session script) (FirstBegins session script) part cause
    → (cut : List ℕ) × FirstBegins session script (part ++ cut) × ((cause ≡ causes.Write) ⊎ (cut ≡ []))
unfolding ending_of
begun_there session script part causes.Write (text, begun, (rest, is)) = (rest, subst (FirstBegins session script) is begun, inl refl)
begun_there session script part causes.Syntax h =
    begun_whole RefusedLine session script part causes.Syntax (λ e. cc) h
begun_there session script part causes.LineTooLong h =
    begun_whole RefusedLine session script part causes.LineTooLong (λ e. cc) h
begun_there session script part causes.BadHex h =
    begun_whole RefusedLine session script part causes.BadHex (λ e. cc) h
begun_there session script part (causes.Step fault) h =
    begun_whole RefusedLine session script part (causes.Step fault) (λ e. cc) h
begun_there session script part causes.NoLayout h =
    begun_whole RefusedLine session script part causes.NoLayout (λ e. cc) h
begun_there session script part causes.Memory h =
    begun_whole OutOfMemory session script part causes.Memory (λ e. cc) h
begun_there session script part causes.Read h = begun_whole NotRun session script part causes.Read (λ e. cc) h
begun_there session script part causes.TooManyReads h =
    begun_whole NotRun session script part causes.TooManyReads (λ e. cc) h

cut_stops : (session : Session) (script : List (List ℕ)) (before : ℕ) (written : List ℕ) (first fault : ScriptFault) → fault.line ≡ first.line → fault.cause ≡ causes.Write
    → Stops session script before written first → Stops session script before written fault
unfolding ending_of
cut_stops session script before written first fault at is h = record {
  first = h.first;
  others = h.others;
  split = h.split;
  line = at ∙ h.line;
  text = h.text;
  now = h.now;
  all = h.all;
  part = h.part;
  ends = subst (λ c. EndsAs (ending_of c) (FirstPrints h.now h.others) (FirstBegins h.now h.others) h.part c) (sym is)
      (cut_there (ending_of first.cause) h.now h.others h.part first.cause h.ends);
  whole = h.whole;
}

-- a run whose lines were all run ends after the last line, where no text is cut off
cut_at_end : (session : Session) (script : List (List ℕ)) (written : List ℕ) (result : Result Summary ScriptFault) (fault : ScriptFault) → fault.line ≡ line_of result → fault.cause ≡ causes.Write
    → RunsTo session script 0 written result → Stops session script 0 written fault
unfolding ending_of
cut_at_end session script written (Err first) fault at is h = cut_stops session script 0 written first fault at is h
cut_at_end session script written (Ok summary) fault at is h = record {
  first = script;
  others = [];
  split = sym (append-nil script);
  line = omega (arith, at, h.lines);
  text = written;
  now = h.last;
  all = h.all;
  part = [];
  ends = subst (λ c. EndsAs (ending_of c) (FirstPrints h.last []) (FirstBegins h.last []) [] c) (sym is)
      ([], refl, ([], refl));
  whole = sym (append-nil written);
}

-- ---- what was reported is flushed

pub kept_written : (a b c : Option (List ℕ)) (written : List ℕ) → Appends a b written → Keeps b c → Appends a c written
kept_written None b c written h k = tt
kept_written (Some x) None c written h k = absurd h
kept_written (Some x) (Some y) None written h k = absurd k
kept_written (Some x) (Some y) (Some z) written h k = k ∙ h

pub flushed_run : (place : Place) (a c d e : Option (List ℕ)) (result : Result Summary ScriptFault) → AppendsFrom place a c d result → Keeps d e → AppendsFrom place a c e result
flushed_run place None c d e result h k = tt
flushed_run place (Some script) c d e result h k = (h.0, kept_written c d e h.0 h.1 k, h.2)

-- the last flush failed
pub never_flushed : (options : Options) (a c d e : Option (List ℕ)) (result : Result Summary ScriptFault) (fault : ScriptFault) → fault.line ≡ line_of result → fault.cause ≡ causes.Write
    → AppendsScript options a c d result → Keeps d e → AppendsScript options a c e (Err fault)
never_flushed options None c d e result fault at is h k = tt
never_flushed options (Some script) c d e result fault at is h k = (h.0, kept_written c d e h.0 h.1 k, cut_at_end (at_first options) (lines script) h.0 result fault at is h.2)

-- a flush before a read failed
cut_here : (place : Place) (more : List ℕ) (fault : ScriptFault) → fault.cause ≡ causes.Write → fault.line ≡ place.lines + 1 → RunsFrom place more [] (Err fault)
unfolding ending_of
cut_here place more fault is at = record {
  first = [];
  others = lines_at place more;
  split = refl;
  line = omega (arith, at);
  text = [];
  now = place.session;
  all = (refl, refl);
  part = [];
  ends = subst
      (λ c. EndsAs (ending_of c) (FirstPrints place.session (lines_at place more))
      (FirstBegins place.session (lines_at place more)) [] c) (sym is)
      ([], first_begins place.session (lines_at place more), ([], refl));
  whole = refl;
}

pub cut_run : (place : Place) (a b c d e : Option (List ℕ)) (read written : List ℕ) (now : Place) (fault : ScriptFault) → Consumes a b read → Appends c d written → Advances place read written now
    → Keeps d e → fault.cause ≡ causes.Write → fault.line ≡ now.lines + 1 → AppendsFrom place a c e (Err fault)
cut_run place a b c d e read written now fault from grew taken kept is at =
    flushed_run place a c d e (Err fault) (broken_run place a b c d d read written [] now (Err fault) from grew taken (Appends-nil d) (λ more. cut_here now more fault is at)) kept
