-- What was written of a line.
use Rattle.std.proofs.Common.{◌≡◌, ◌⊎◌, ℕ, ◌+◌, ◌≤◌, Bool, true, false, nat_lt, cond, List, [], ◌∷◌, ◌++◌, ◌-◌, length, refl, sym, ap, ◌∙◌, subst, inl, inr, Result, Ok, Err, Option, None, Some, OnOk, IfErr, IsErrAnd, arith}
use Rattle.std.specs.Prelude.{position, slice_get}
use Rattle.std.specs.Io.KnownBytes.{Appends}
use Rattle.std.proofs.KnownBytes.{Appends-nil}
use Rattle.std.proofs.lemmas.Bool.{ltb-false, cond-false, ne_eqb}
use Rattle.hid_report_descriptor.specs.declared.fault.Cause as layouts
use Rattle.hid_report_descriptor.specs.declared.fault.Cause.TheVariants as whys
use Rattle.hid_report_descriptor.specs.declared.fault.LayoutFault.{LayoutFault}
use Rattle.hid_report_descriptor.specs.declared.usage.Usage.{Usage}
use Rattle.hid_layout.specs.declared.control.ControlId.{ControlId}
use Rattle.hid_report_descriptor.specs.Items.{EncodedItem}
use Rattle.hid_layout.specs.Layout.{Contents, layout_of}
use Rattle.hid_layout.specs.Reports.{report_bytes}
use Rattle.hid_report_descriptor.specs.Bus.{Accepts, Explains}
use Rattle.hid_snapshots.specs.declared.fault.ReportFault.{ReportFault}
use Rattle.hid_snapshots.specs.declared.fault.ReportFault.TheVariants.{Short}
use Rattle.hid_usages.specs.Reading.{first_byte, is_input_with, whole_report, report_named}
use Rattle.hid_requests.specs.declared.boot.Boot.{Boot}
use Rattle.hid_bus.specs.declared.start.Start.{Start}
use Rattle.hid_bus.specs.declared.start.Start.TheVariants.{Ready, Cold}
use Rattle.hid_device.specs.declared.config.Config.{Config}
use Rattle.hid_host.specs.declared.fault.StackFault.{StackFault}
use Rattle.hid_host.specs.declared.fault.StackFault.TheVariants as stack
use Rattle.hid_bus.specs.declared.step.Step.{Step}
use Rattle.hid_bus.specs.declared.step.Step.TheVariants.{Change}
use Rattle.hid_bus.specs.declared.step.Told.{Told}
use Rattle.hid_bus.specs.declared.step.Delivered.{Delivered}
use Rattle.hid_stack.specs.declared.rig.TheConstants.{MAX_DEVICES}
use Rattle.hid_stack.specs.Members.{Member}
use Rattle.hid_stack.specs.Rig.{member_at, refusal, IsRefusal, bus_after, deliveries_of_step}
use Rattle.hid_stack.specs.StepResult.{StepReturns}
use Rattle.hid_stack.specs.Attaching.{Attaches, Finds, member_at_start}
use Rattle.hid_script.specs.declared.fault.Cause.{Cause}
use Rattle.hid_script.specs.declared.fault.Cause.TheVariants as causes
use Rattle.hid_script.specs.declared.fault.StepFault.TheVariants as faults
use Rattle.hid_text.specs.declared.fault.LineFault.{LineFault}
use Rattle.hid_text.specs.declared.line.Line.{Line}
use Rattle.hid_text.specs.declared.line.Line.TheVariants as lines
use Rattle.hid_text.specs.declared.change_kind.ChangeKind.{ChangeKind}
use Rattle.hid_text.specs.Line.{meaning_of}
use Rattle.hid_script.proofs.RepeatLemmas.{no_times, one_more}
use Rattle.hid_text.specs.LayoutText.{layout_text}
use Rattle.hid_text.specs.ValuesText.{values_text}
use Rattle.hid_text.specs.StepText.{step_text}
use Rattle.hid_text.specs.Output.{AppendsPrefix}
use Rattle.hid_script.specs.Session.{Session, Outcome, success, failure}
use Rattle.hid_script.specs.Steps.{LayoutPrints, ValuesPrint, DevicePrints, StepPrints, ChangePrints, lays_out, values_outcome, read_report, refuses_step, config_of, attaches, saturating_sum, finished_read, step_outcome, change_of}
use Rattle.hid_script.specs.LineOutput.{LineOutcomeOnce, times, BeginsMeant, LinePrints, LineBegins, MeaningPrints, CarriesOut, line_cause, cause_from, cause_of, stack_cause}
use Rattle.hid_script.specs.Runs.{Ending, RefusedLine, OutOfMemory, PartlyWritten, NotRun, ending_of, EndsAs, Ends}
use Rattle.hid_script.specs.Place.{AppendsOutput, AppendsOnce, OnceEndsAs, IsBegun, end_of}
use Rattle.hid_script.proofs.PlaceLemmas.{begins_nothing}

-- ---- a part that is reported once

-- what ended a part is what ends it without what it gave
pub ended_so : {A : Type 0} (r : Result A Cause) (why : Cause) → IsErrAnd r (λ e. e ≡ why) → IsErrAnd (end_of r) (λ e. e ≡ why)
ended_so (Ok x) why is = absurd is
ended_so (Err cause) why is = is

-- running out of memory writes nothing
pub memory_ends : (old : Option (List ℕ)) (StepReturns : Outcome → Type 0) (r : Result (Unit {0}) Cause)
    (next : Session) → IsErrAnd r (λ e. e ≡ causes.Memory) → AppendsOnce old old StepReturns r next
unfolding ending_of
memory_ends old StepReturns (Ok u) next is = absurd is
memory_ends old StepReturns (Err e) next is =
    ([], Appends-nil old, subst (λ c. OnceEndsAs (ending_of c) StepReturns [] c) (sym is) (inl refl))

-- a part that is refused writes nothing
pub refusal_ends : (old : Option (List ℕ)) (StepReturns : Outcome → Type 0) (r : Result (Unit {0}) Cause)
    (cause : Cause)
    (next : Session) → IsErrAnd r (λ e. e ≡ cause) → ending_of cause ≡ RefusedLine → StepReturns (failure cause)
    → AppendsOnce old old StepReturns r next
refusal_ends old StepReturns (Ok u) cause next is kind h = absurd is
refusal_ends old StepReturns (Err e) cause next is kind h = (
  [],
  Appends-nil old,
  subst (λ c. OnceEndsAs (ending_of c) StepReturns [] c) (sym is)
      (subst (λ k. OnceEndsAs k StepReturns [] cause) (sym kind) h),
)

-- a text that was reported is written, or a prefix of it
pub text_written : (old new : Option (List ℕ)) (StepReturns : Outcome → Type 0) (text : List ℕ)
    (r : Result (Unit {0}) Cause) (next : Session) → StepReturns (success text next)
    → OnOk r (Appends old new text) → IfErr r (λ cause. cause ≡ causes.Write) → AppendsPrefix old new text
    → AppendsOnce old new StepReturns r next
unfolding ending_of
text_written old new StepReturns text (Ok u) next told ok cause prefix = (text, ok, told)
text_written old new StepReturns text (Err e) next told ok cause prefix = (
  prefix.0,
  prefix.2,
  subst (λ c. OnceEndsAs (ending_of c) StepReturns prefix.0 c) (sym cause) (text, inr (next, told), prefix.1),
)

-- ---- lines

-- what is written of what a line says is written of the line
pub line_written : (old new : Option (List ℕ)) (session : Session) (bytes : List ℕ) (line : Line) (r : Result (Unit {0}) Cause) (next : Session) → meaning_of bytes ≡ Ok line
    → AppendsOutput old new (CarriesOut session line) (BeginsMeant session (Ok line)) r next
    → AppendsOutput old new (LinePrints session bytes) (LineBegins session bytes) r next
unfolding LinePrints LineBegins
line_written old new session bytes line r next means h =
    subst (λ m. AppendsOutput old new (MeaningPrints session m) (BeginsMeant session m) r next) (sym means) h

-- a line that says nothing
pub nothing_told : (old : Option (List ℕ)) (session : Session)
    → AppendsOutput old old (CarriesOut session lines.Nothing) (BeginsMeant session (Ok lines.Nothing))
    (Ok tt) session
unfolding LineOutcomeOnce times
nothing_told old session = (
  [],
  Appends-nil old,
  one_more 0 (LineOutcomeOnce lines.Nothing) session session session [] []
      (no_times (LineOutcomeOnce lines.Nothing) session) refl,
)

pub nothing_written : (old : Option (List ℕ)) (session : Session) (bytes : List ℕ)
    → meaning_of bytes ≡ Ok lines.Nothing
    → AppendsOutput old old (LinePrints session bytes) (LineBegins session bytes) (Ok tt) session
nothing_written old session bytes means = line_written old old session bytes lines.Nothing (Ok tt) session means (nothing_told old session)

refusal_left : (ending : Ending) (StepReturns : Outcome → Type 0) (Begun : List ℕ → Type 0) (cause : Cause) → Begun []
    → StepReturns (failure cause) → EndsAs ending StepReturns Begun [] cause
refusal_left RefusedLine StepReturns Begun cause begun h = h
refusal_left OutOfMemory StepReturns Begun cause begun h = begun
refusal_left PartlyWritten StepReturns Begun cause begun h = ([], begun, ([], refl))
refusal_left NotRun StepReturns Begun cause begun h = refl

-- a line that isn't understood
pub line_refused : (old : Option (List ℕ)) (session : Session) (bytes : List ℕ) (fault : LineFault) (r : Result (Unit {0}) Cause) (next : Session) → meaning_of bytes ≡ Err fault → IsErrAnd r (λ e. e ≡ line_cause fault)
    → AppendsOutput old old (LinePrints session bytes) (LineBegins session bytes) r next
unfolding LinePrints ending_of
line_refused old session bytes fault (Ok u) next why is = absurd is
line_refused old session bytes fault (Err e) next meant is = (
  [],
  Appends-nil old,
  subst (λ c. Ends (LinePrints session bytes) (LineBegins session bytes) [] c) (sym is)
      (refusal_left (ending_of (line_cause fault)) (LinePrints session bytes) (LineBegins session bytes)
      (line_cause fault) (begins_nothing session bytes)
      (subst (λ m. MeaningPrints session m (failure (line_cause fault))) (sym meant) refl)),
)

-- ---- layouts

-- a descriptor that gives no layout is refused, or memory ran out
layout_ends : (old : Option (List ℕ)) (bytes : List ℕ) (session : Session) (why : layouts.Cause) (at : ℕ) (r : Result (Unit {0}) Cause) (next : Session) → Explains bytes why at → IsErrAnd r (λ c. c ≡ cause_from why (record { cause = why; at = at }))
    → AppendsOnce old old (LayoutPrints bytes session) r next
unfolding ending_of
layout_ends old bytes session whys.Memory at r next told is = memory_ends old (LayoutPrints bytes session) r next is
layout_ends old bytes session why at r next told is =
    refusal_ends old (LayoutPrints bytes session) r
    (causes.Step (faults.Layout (record { cause = why; at = at }))) next is refl
    (inr (record { cause = why; at = at }, (told, refl)))

pub layout_refused : (old : Option (List ℕ)) (bytes : List ℕ) (session : Session) (fault : LayoutFault) (r : Result (Unit {0}) Cause) (next : Session) → Explains bytes fault.cause fault.at → IsErrAnd r (λ c. c ≡ cause_of fault)
    → AppendsOnce old old (LayoutPrints bytes session) r next
layout_refused old bytes session fault r next told is = layout_ends old bytes session fault.cause fault.at r next told is

-- a layout that was printed
pub layout_written : (old new : Option (List ℕ)) (bytes : List ℕ) (session : Session) (layout : Contents) (text : List ℕ) (r : Result (Unit {0}) Cause) → ((items : List EncodedItem) × Accepts bytes items × (layout ≡ layout_of items)) → text ≡ layout_text layout
    → OnOk r (Appends old new text) → IfErr r (λ cause. cause ≡ causes.Write) → AppendsPrefix old new text
    → AppendsOnce old new (LayoutPrints bytes session) r (record session { layout = Some layout })
layout_written old new bytes session layout text r told said ok cause prefix =
    let shown : (success text (record session { layout = Some layout })) ≡ lays_out session (layout_of told.0) =
    rw said (ap (lays_out session) told.2) in
    text_written old new (LayoutPrints bytes session) text r (record session { layout = Some layout })
    (inl (told.0, (told.1, shown))) ok cause prefix

-- ---- values

-- a report is as long as it says
not_short : (b : Bool) (at r : ℕ) → cond b (Err Short) (Ok at) ≡ Ok r → (b ≡ false) × (at ≡ r)
not_short true at r e = cc
not_short false at r e = (refl, cc)

pub long_enough_report : (layout : Contents) (bytes : List ℕ) (r : ℕ) → Ok r ≡ report_named layout bytes → report_bytes layout r ≤ length bytes
long_enough_report layout bytes r e = by_numbered layout.numbered (sym e)
  where
    of_found : (found : Option ℕ) → whole_report layout bytes found ≡ Ok r → report_bytes layout r ≤ length bytes
    of_found None k = absurd (cc)
    of_found (Some at) k =
        let found = not_short (nat_lt (length bytes) (report_bytes layout at)) at r k in
        subst (λ n. report_bytes layout n ≤ length bytes) found.1 (ltb-false (length bytes) (report_bytes layout at) found.0)

    of_byte : (o : Option ℕ) → elim o as (λ _. Result ℕ ReportFault) [ None ↦ Err Short | Some id ↦ whole_report layout bytes (position (is_input_with id) layout.reports) ] ≡ Ok r → report_bytes layout r ≤ length bytes
    of_byte None k = absurd (cc)
    of_byte (Some id) k = of_found (position (is_input_with id) layout.reports) k

    by_numbered : (b : Bool) → cond b (elim (first_byte bytes) as (λ _. Result ℕ ReportFault) [ None ↦ Err Short | Some id ↦ whole_report layout bytes (position (is_input_with id) layout.reports) ]) (whole_report layout bytes (position (is_input_with 0) layout.reports)) ≡ Ok r → report_bytes layout r ≤ length bytes
    by_numbered true k = of_byte (first_byte bytes) k
    by_numbered false k = of_found (position (is_input_with 0) layout.reports) k

-- values that were printed
pub values_written : (old new : Option (List ℕ)) (session : Session) (bytes : List ℕ) (layout : Contents) (report : ℕ) (text : List ℕ) (r : Result (Unit {0}) Cause) → session.layout ≡ Some layout → Ok report ≡ report_named layout bytes
    → text ≡ values_text layout report bytes → OnOk r (Appends old new text) → IfErr r (λ cause. cause ≡ causes.Write)
    → AppendsPrefix old new text → AppendsOnce old new (ValuesPrint bytes session) r session
values_written old new session bytes layout report text r stands found said ok cause prefix =
    let told : ValuesPrint bytes session (success text session) =
    rw said (sym
    (ap (values_outcome session bytes) stands ∙ ap (read_report session layout bytes) (sym found))) in
    text_written old new (ValuesPrint bytes session) text r session told ok cause prefix

-- bytes that are no Input report
pub report_refused : (old : Option (List ℕ)) (session : Session) (bytes : List ℕ) (layout : Contents) (fault : ReportFault) (r : Result (Unit {0}) Cause) (next : Session) → session.layout ≡ Some layout → Err fault ≡ report_named layout bytes
    → IsErrAnd r (λ c. c ≡ causes.Step (faults.Report fault)) → AppendsOnce old old (ValuesPrint bytes session) r next
unfolding ending_of
report_refused old session bytes layout fault r next stands found is =
    refusal_ends old (ValuesPrint bytes session) r (causes.Step (faults.Report fault)) next is refl
    (sym (ap (values_outcome session bytes) stands ∙ ap (read_report session layout bytes) (sym found)))

-- no layout stands
pub no_layout : (old : Option (List ℕ)) (session : Session) (bytes : List ℕ) (next : Session) → session.layout ≡ None
    → AppendsOnce old old (ValuesPrint bytes session) (Err causes.NoLayout) next
unfolding ending_of
no_layout old session bytes next none =
    refusal_ends old (ValuesPrint bytes session) (Err causes.NoLayout) causes.NoLayout next refl refl
    (sym (ap (values_outcome session bytes) none))

-- ---- steps of the bus

not_refused : (o : Option StackFault) (r : Result Told StackFault) (shown : Told) → ((e : StackFault) → o ≡ Some e → r ≡ Err e) → r ≡ Ok shown → o ≡ None
not_refused None r shown h e = refl
not_refused (Some fault) r shown h e = let failure = h fault refl in cc

-- a fault of the stack is told, or memory ran out
fault_ends : (old : Option (List ℕ)) (StepReturns : Outcome → Type 0) (fault : StackFault)
    (r : Result (Unit {0}) Cause) (next : Session) → IsErrAnd r (λ c. c ≡ stack_cause fault)
    → (fault ≡ stack.Memory) ⊎ StepReturns (refuses_step fault) → AppendsOnce old old StepReturns r next
unfolding ending_of
fault_ends old StepReturns stack.Memory r next is told = memory_ends old StepReturns r next is
fault_ends old StepReturns fault r next is (inl e) = absurd (cc)
fault_ends old StepReturns fault r next is (inr told) =
    refusal_ends old StepReturns r (causes.Step (faults.Stack fault)) next is refl told

-- a step that is refused
pub step_refused : (old : Option (List ℕ)) (session : Session) (step : Step) (fault : StackFault) (r : Result (Unit {0}) Cause) (next : Session) → IsRefusal session.members step fault → IsErrAnd r (λ c. c ≡ stack_cause fault)
    → AppendsOnce old old (StepPrints step session) r next
step_refused old session step fault r next (inl e) is =
    fault_ends old (StepPrints step session) fault r next is (inr (inr (fault, e, refl)))
step_refused old session step fault r next (inr none) is =
    fault_ends old (StepPrints step session) fault r next is (inl none.1)

-- a step that is taken
pub step_written : (old new : Option (List ℕ)) (session : Session) (step : Step) (shown : Told) (answer : Result Told StackFault) (delivered : List Delivered) (members : List Member) (events : ℕ) (got text : List ℕ) (r : Result (Unit {0}) Cause)
    → ((e : StackFault) → refusal session.members step ≡ Some e → answer ≡ Err e) → answer ≡ Ok shown
    → StepReturns session.members step shown
    → members ≡ bus_after session.members step → delivered ≡ deliveries_of_step session.members step
    → got ≡ finished_read members step → text ≡ step_text session.options.trace step shown got delivered
    → events ≡ saturating_sum session.events (length delivered)
    → OnOk r (Appends old new text) → IfErr r (λ cause. cause ≡ causes.Write) → AppendsPrefix old new text
    → AppendsOnce old new (StepPrints step session) r (record session { members = members; events = events })
step_written old new session step shown answer delivered members events got text r refuses is told after gave gets said counts ok cause prefix =
    let outcome : (success text (record session { members = members; events = events }))
    ≡ step_outcome session step shown = rw (said, counts, gets, after, gave) refl in
    text_written old new (StepPrints step session) text r (record session { members = members; events = events })
    (inl (
      shown,
      not_refused (refusal session.members step) answer shown refuses is,
      told,
      outcome,
    )) ok cause prefix

-- ---- changes

-- no control has the usage, or there is no such device
pub not_found : (old : Option (List ℕ)) (session : Session) (dev : ℕ) (usage : Usage) (wanted : ChangeKind)
    (fault : StackFault) (r : Result (Unit {0}) Cause) (next : Session) → Finds session.members dev usage (Err fault)
    → IsErrAnd r (λ c. c ≡ stack_cause fault)
    → AppendsOnce old old (ChangePrints dev usage wanted session) r next
not_found old session dev usage wanted fault r next found is =
    fault_ends old (ChangePrints dev usage wanted session) fault r next is (inr (Err fault, found, refl))

begun_so : (P Q : Outcome → Type 0) (text : List ℕ) → ((o : Outcome) → P o → Q o) → IsBegun P text → IsBegun Q text
begun_so P Q text f (inl none) = inl none
begun_so P Q text f (inr told) = inr (told.0, f (success text told.0) told.1)

ends_so : (ending : Ending) (P Q : Outcome → Type 0) (written : List ℕ) (cause : Cause) → ((o : Outcome) → P o → Q o) → OnceEndsAs ending P written cause → OnceEndsAs ending Q written cause
ends_so RefusedLine P Q written cause f h = f (record { text = written; end = Err cause }) h
ends_so OutOfMemory P Q written cause f h = begun_so P Q written f h
ends_so PartlyWritten P Q written cause f h = (h.0, begun_so P Q h.0 f h.1, h.2)
ends_so NotRun P Q written cause f h = h

-- what is told of one part is told of another
pub told_so : (old new : Option (List ℕ)) (P Q : Outcome → Type 0) (r : Result (Unit {0}) Cause) (next : Session) → ((o : Outcome) → P o → Q o) → AppendsOnce old new P r next → AppendsOnce old new Q r next
told_so old new P Q (Ok u) next f h = (h.0, h.1, f (success h.0 next) h.2)
told_so old new P Q (Err cause) next f h = (h.0, h.1, ends_so (ending_of cause) P Q h.0 cause f h.2)

-- the control that was found changes
pub found_written : (old new : Option (List ℕ)) (session : Session) (dev : ℕ) (usage : Usage) (wanted : ChangeKind)
    (control : ControlId) (r : Result (Unit {0}) Cause) (next : Session)
    → Finds session.members dev usage (Ok control)
    → AppendsOnce old new (StepPrints (Change dev (change_of wanted control)) session) r next
    → AppendsOnce old new (ChangePrints dev usage wanted session) r next
found_written old new session dev usage wanted control r next found h =
    told_so old new (StepPrints (Change dev (change_of wanted control)) session)
    (ChangePrints dev usage wanted session) r next (λ o told. (Ok control, found, told)) h

-- ---- devices

-- a device that is refused
pub device_refused : (old : Option (List ℕ)) (session : Session) (start : Start) (boot : Boot) (bytes : List ℕ) (fault : StackFault) (after : List Member) (r : Result (Unit {0}) Cause) (next : Session) → Attaches MAX_DEVICES (config_of boot) bytes start session.members (Err fault) after
    → IsErrAnd r (λ c. c ≡ stack_cause fault) → AppendsOnce old old (DevicePrints start boot bytes session) r next
device_refused old session start boot bytes stack.Memory after r next h is =
    fault_ends old (DevicePrints start boot bytes session) stack.Memory r next is (inl refl)
device_refused old session start boot bytes fault after r next h is =
    fault_ends old (DevicePrints start boot bytes session) fault r next is
    (inr (inr (fault, after, h, (λ memory. cc), refl)))

-- a device that is attached, where no layout is asked for
pub device_quiet : (old : Option (List ℕ)) (session : Session) (start : Start) (boot : Boot) (bytes : List ℕ) (dev : ℕ) (after : List Member) → session.options.layout ≡ false → Attaches MAX_DEVICES (config_of boot) bytes start session.members (Ok dev) after
    → AppendsOnce old old (DevicePrints start boot bytes session) (Ok tt) (record session { members = after })
device_quiet old session start boot bytes dev after quiet h =
    let outcome : (success [] (record session { members = after })) ≡ attaches session h.2.0 after = rw quiet refl in
    ([], Appends-nil old, inl (dev, h.2.0, after, h, h.2.2, outcome))

pub at_last : (members : List Member) (m : Member) → slice_get (members ++ m ∷ []) (length members) ≡ Some m
at_last [] m = refl
at_last (x ∷ members) m = at_last members m

last_member : (members : List Member) (m : Member) → member_at (members ++ m ∷ []) (length members + 1) ≡ Some m
last_member members m =
    let back : length members + 1 - 1 ≡ length members = omega arith in
    cond-false _ _ _ (ne_eqb (length members + 1) 0 (λ none. omega arith)) ∙ ap (slice_get (members ++ m ∷ [])) back ∙ at_last members m

-- a device begins with its layout, whatever its host knows
pub layout_at_start : (start : Start) (dev : ℕ) (config : Config) (bytes : List ℕ) (layout : Contents) → (member_at_start start dev config bytes layout).layout ≡ layout
layout_at_start Ready dev config bytes layout = refl
layout_at_start Cold dev config bytes layout = refl

-- a device that is attached is there
device_there : (members after : List Member) (start : Start) (boot : Boot) (bytes : List ℕ) (dev : ℕ) (h : Attaches MAX_DEVICES (config_of boot) bytes start members (Ok dev) after) → member_at after dev ≡ Some (member_at_start start dev (config_of boot) bytes h.2.0)
device_there members after start boot bytes dev h =
    subst (λ d. member_at after d ≡ Some (member_at_start start dev (config_of boot) bytes h.2.0)) (sym h.1) (subst (λ ms. member_at ms (length members + 1) ≡ Some (member_at_start start dev (config_of boot) bytes h.2.0)) (sym h.2.2) (last_member members (member_at_start start dev (config_of boot) bytes h.2.0)))

pub device_missing : (members after : List Member) (start : Start) (boot : Boot) (bytes : List ℕ) (dev : ℕ) → Attaches MAX_DEVICES (config_of boot) bytes start members (Ok dev) after → member_at after dev ≡ None → ⊥
device_missing members after start boot bytes dev h none = let there = device_there members after start boot bytes dev h in cc

-- the layout of a device that is attached is printed
pub device_written : (old new : Option (List ℕ)) (session : Session) (start : Start) (boot : Boot) (bytes : List ℕ) (dev : ℕ) (after : List Member) (layout : Contents) (text : List ℕ) (r : Result (Unit {0}) Cause) → session.options.layout ≡ true
    → Attaches MAX_DEVICES (config_of boot) bytes start session.members (Ok dev) after → (m : Member) → member_at after dev ≡ Some m → layout ≡ m.layout → text ≡ layout_text layout
    → OnOk r (Appends old new text) → IfErr r (λ cause. cause ≡ causes.Write) → AppendsPrefix old new text
    → AppendsOnce old new (DevicePrints start boot bytes session) r (record session { members = after })
device_written old new session start boot bytes dev after layout text r asked h m there shows said ok cause prefix =
    let found = device_there session.members after start boot bytes dev h in
    let same : m ≡ member_at_start start dev (config_of boot) bytes h.2.0 = some_same m (member_at_start start dev (config_of boot) bytes h.2.0) (sym there ∙ found) in
    let laid : layout ≡ h.2.0 = shows ∙ ap (λ (x : Member). x.layout) same ∙ layout_at_start start dev (config_of boot) bytes h.2.0 in
    let outcome : (success text (record session { members = after })) ≡ attaches session h.2.0 after =
    rw (asked, said, laid) refl in
    text_written old new (DevicePrints start boot bytes session) text r (record session { members = after })
    (inl (dev, h.2.0, after, h, h.2.2, outcome)) ok cause prefix
  where
    some_same : (a b : Member) → (let o : Option Member = Some a in o) ≡ Some b → a ≡ b
    some_same a b e = cc
