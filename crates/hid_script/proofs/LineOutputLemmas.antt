-- A line tells one thing, and begins with a prefix of it.
use Rattle.std.proofs.Common.{◌≡◌, ℕ, zero, suc, ◌≤◌, List, [], ◌∷◌, ◌++◌, length, refl, sym, ap, ◌∙◌, subst, inl, inr, arith, append_assoc, Option, Some, Result, Ok, Err}
use Rattle.std.specs.Prelude.{slice_get}
use Rattle.hid_report_descriptor.specs.declared.fault.LayoutFault.{LayoutFault}
use Rattle.hid_report_descriptor.specs.declared.usage.Usage.{Usage}
use Rattle.hid_layout.specs.declared.control.ControlId.{ControlId}
use Rattle.hid_layout.specs.Layout.{Contents, layout_of}
use Rattle.hid_report_descriptor.specs.Bus.{HasOneReading, AcceptsNoRefused, HasOneCause, HasOnePlace}
use Rattle.hid_requests.specs.declared.boot.Boot.{Boot}
use Rattle.hid_bus.specs.declared.start.Start.{Start}
use Rattle.hid_device.specs.declared.config.Config.{Config}
use Rattle.hid_host.specs.declared.fault.StackFault.{StackFault}
use Rattle.hid_bus.specs.declared.step.Step.{Step}
use Rattle.hid_bus.specs.declared.step.Step.TheVariants.{Change}
use Rattle.hid_bus.specs.declared.step.Step.TheVariants as step
use Rattle.hid_stack.specs.Members.{Member}
use Rattle.hid_stack.specs.Attaching.{member_at_start}
use Rattle.hid_script.specs.declared.fault.Cause.{Cause}
use Rattle.hid_text.specs.declared.change_kind.ChangeKind.{ChangeKind}
use Rattle.hid_text.specs.declared.change_kind.ChangeKind.TheVariants as wanted
use Rattle.hid_text.specs.declared.fault.LineFault.{LineFault}
use Rattle.hid_text.specs.declared.line.Line.{Line}
use Rattle.hid_text.specs.declared.line.Line.TheVariants as line
use Rattle.hid_text.specs.declared.short.ShortLine.{ShortLine}
use Rattle.hid_text.specs.declared.short.ShortLine.TheVariants as short
use Rattle.hid_text.specs.Line.{meaning_of}
use Rattle.hid_text.specs.Output.{IsPrefix}
use Rattle.hid_script.specs.Session.{Session, Outcome, success, after_text, Joins, Repeats}
use Rattle.hid_script.specs.Steps.{LayoutPrints, DevicePrints, StepPrints, FoundPrints, ChangePrints, lays_out, refuses_layout, attaches, step_outcome, refuses_step, config_of, change_of}
use Rattle.hid_script.specs.LineOutput.{ShortLinePrints, LineOutcomeOnce, times, MeaningPrints, LinePrints, LineBegins, BeginsMeant}
use Rattle.hid_script.specs.Runs.{AllPrint}
use Rattle.hid_stack.specs.Laws.{ResultIsUnique, FindsOneControl, AttachesOneDevice}
use Rattle.hid_stack.specs.declared.rig.TheConstants.{MAX_DEVICES}
use Rattle.hid_script.specs.Laws.{LineHasOneOutcome, LinesPrintOneText, BeginsWithPrefixes}
use Rattle.hid_script.proofs.SessionLemmas.{at_last, layout_at_start}

-- the stack answers one thing
pub record HasOneAnswer : Type 0 where
  pub tells : ResultIsUnique
  pub finds : FindsOneControl
  pub attaches : AttachesOneDevice

-- a part tells one outcome at most
abbrev IsOne : (Session → Outcome → Type 0) → Type 0
IsOne Part = (session : Session) (o other : Outcome) → Part session o → Part session other → o ≡ other

-- ---- layouts

same_fault : (f g : LayoutFault) → f.cause ≡ g.cause → f.at ≡ g.at → f ≡ g
same_fault f g cause at = ap (λ c. record f { cause = c }) cause ∙ ap (λ a. record g { at = a }) at

one_layout : HasOneReading → AcceptsNoRefused → HasOneCause → HasOnePlace → (bytes : List ℕ)
    → IsOne (LayoutPrints bytes)
one_layout reading apart cause place bytes session o other (inl h) (inl k) = h.1.1 ∙ ap (λ items. lays_out session (layout_of items)) (reading bytes h.0 k.0 h.1.0 k.1.0) ∙ sym k.1.1
one_layout reading apart cause place bytes session o other (inl h) (inr k) = absurd (apart bytes h.0 k.0.cause k.0.at h.1.0 k.1.0)
one_layout reading apart cause place bytes session o other (inr h) (inl k) = absurd (apart bytes k.0 h.0.cause h.0.at k.1.0 h.1.0)
one_layout reading apart cause place bytes session o other (inr h) (inr k) =
    h.1.1 ∙ ap refuses_layout (same_fault h.0 k.0 (cause bytes h.0.cause k.0.cause h.0.at k.0.at h.1.0 k.1.0) (place bytes h.0.cause k.0.cause h.0.at k.0.at h.1.0 k.1.0)) ∙ sym k.1.1

-- ---- steps

one_step : HasOneAnswer → (step : Step) → IsOne (StepPrints step)
one_step one step session o other (inl h) (inl k) =
    h.3 ∙ ap (step_outcome session step) (one.tells session.members step h.0 k.0 h.2 k.2) ∙ sym k.3
one_step one step session o other (inl h) (inr k) = let taken = h.1 in let refused = k.1 in absurd (cc)
one_step one step session o other (inr h) (inl k) = let refused = h.1 in let taken = k.1 in absurd (cc)
one_step one step session o other (inr h) (inr k) = let first = h.1 in let second = k.1 in let same : h.0 ≡ k.0 = cc in h.2 ∙ ap refuses_step same ∙ sym k.2

one_found : HasOneAnswer → (dev : ℕ) (wanted : ChangeKind) (found : Result ControlId StackFault)
    → IsOne (FoundPrints dev wanted found)
one_found one dev wanted (Ok control) session o other h k = one_step one (Change dev (change_of wanted control)) session o other h k
one_found one dev wanted (Err fault) session o other h k = h ∙ sym k

one_change : HasOneAnswer → (dev : ℕ) (usage : Usage) (wanted : ChangeKind) → IsOne (ChangePrints dev usage wanted)
one_change one dev usage wanted session o other h k =
    let same = one.finds session.members dev usage h.0 k.0 h.1 k.1 in
    one_found one dev wanted k.0 session o other
    (subst (λ found. FoundPrints dev wanted found session o) same h.2) k.2

-- ---- devices

one_layout_at_start : (start : Start) (members : List Member) (config : Config) (bytes : List ℕ) (dev other : ℕ) (layout next : Contents)
    → members ++ member_at_start start dev config bytes layout ∷ [] ≡ members ++ member_at_start start other config bytes next ∷ [] → layout ≡ next
one_layout_at_start start members config bytes dev other layout next e =
    let first : Member = member_at_start start dev config bytes layout in
    let second : Member = member_at_start start other config bytes next in
    let same : (let a : Option Member = Some first in a) ≡ Some second = sym (at_last members first) ∙ ap (λ ms. slice_get ms (length members)) e ∙ at_last members second in
    let begun : first ≡ second = cc in
    sym (layout_at_start start dev config bytes layout) ∙ ap (λ (m : Member). m.layout) begun ∙ layout_at_start start other config bytes next

one_device : HasOneAnswer → (start : Start) (boot : Boot) (bytes : List ℕ) → IsOne (DevicePrints start boot bytes)
one_device one start boot bytes session o other (inl h) (inl k) =
    let same = one.attaches MAX_DEVICES (config_of boot) bytes start session.members h.2 k.2 (Ok h.0) (Ok k.0) h.3 k.3 (λ e. cc) (λ e. cc) in
    let layout = one_layout_at_start start session.members (config_of boot) bytes h.0 k.0 h.1 k.1 (sym h.4 ∙ same.1 ∙ k.4) in
    h.5 ∙ ap (λ l. attaches session l h.2) layout ∙ ap (attaches session k.1) same.1 ∙ sym k.5
one_device one start boot bytes session o other (inl h) (inr k) =
    let same = (one.attaches MAX_DEVICES (config_of boot) bytes start session.members h.2 k.1 (Ok h.0) (Err k.0) h.3 k.2 (λ e. cc) (λ e. k.3 (cc))).0 in absurd (cc)
one_device one start boot bytes session o other (inr h) (inl k) =
    let same = (one.attaches MAX_DEVICES (config_of boot) bytes start session.members h.1 k.2 (Err h.0) (Ok k.0) h.2 k.3 (λ e. h.3 (cc)) (λ e. cc)).0 in absurd (cc)
one_device one start boot bytes session o other (inr h) (inr k) =
    let same = (one.attaches MAX_DEVICES (config_of boot) bytes start session.members h.1 k.1 (Err h.0) (Err k.0) h.2 k.2 (λ e. h.3 (cc)) (λ e. k.3 (cc))).0 in
    let fault : h.0 ≡ k.0 = cc in
    h.4 ∙ ap refuses_step fault ∙ sym k.4

-- ---- lines

one_short : HasOneAnswer → (said : ShortLine) → IsOne (ShortLinePrints said)
unfolding ShortLinePrints
one_short one (short.Press dev usage) session o other h k = one_change one dev usage wanted.Press session o other h k
one_short one (short.Release dev usage) session o other h k = one_change one dev usage wanted.Release session o other h k
one_short one (short.Null dev usage) session o other h k = one_change one dev usage wanted.Null session o other h k
one_short one (short.Set dev usage value) session o other h k = one_change one dev usage (wanted.Set value) session o other h k
one_short one (short.Move dev usage by) session o other h k = one_change one dev usage (wanted.Move by) session o other h k
one_short one (short.Frame count) session o other h k = one_step one step.Frame session o other h k
one_short one (short.Poll dev fate count) session o other h k = one_step one (step.Poll dev fate) session o other h k
one_short one (short.Control dev fate count) session o other h k = one_step one (step.Control dev fate) session o other h k
one_short one (short.Reset dev) session o other h k = one_step one (step.Reset dev) session o other h k
one_short one (short.Halt dev) session o other h k = one_step one (step.Halt dev) session o other h k

one_once : HasOneReading → AcceptsNoRefused → HasOneCause → HasOnePlace → HasOneAnswer → (said : Line)
    → IsOne (LineOutcomeOnce said)
unfolding LineOutcomeOnce
one_once reading apart cause place one line.Nothing session o other h k = h ∙ sym k
one_once reading apart cause place one (line.Layout bytes) session o other h k = one_layout reading apart cause place bytes.items session o other h k
one_once reading apart cause place one (line.Values bytes) session o other h k = h ∙ sym k
one_once reading apart cause place one (line.Device start boot bytes) session o other h k = one_device one start boot bytes.items session o other h k
one_once reading apart cause place one (line.Begin dev request) session o other h k = one_step one (step.Begin dev request) session o other h k
one_once reading apart cause place one (line.Step said) session o other h k = one_short one said session o other h k

session_in : Session → Result Session Cause → Session
session_in d (Ok session) = session
session_in d (Err cause) = d

same_session : (text other : List ℕ) (a b : Session) → success text a ≡ success other b → a ≡ b
unfolding session_in
same_session text other a b e = ap (λ (o : Outcome). session_in a o.end) e

one_join : (First : Outcome → Type 0) (Next : Session → Outcome → Type 0) → ((o other : Outcome) → First o → First other → o ≡ other) → IsOne Next → (o other : Outcome) → Joins First Next o → Joins First Next other → o ≡ other
one_join First Next first next o other (inl h) (inl k) =
    let same = first (success h.0 h.1) (success k.0 k.1) h.3 k.3 in
    let session = same_session h.0 k.0 h.1 k.1 same in
    let rest = next k.1 h.2 k.2 (subst (λ s. Next s h.2) session h.4) k.4 in
    h.5 ∙ ap (λ t. after_text t h.2) (ap (λ (p : Outcome). p.text) same) ∙ ap (after_text k.0) rest ∙ sym k.5
one_join First Next first next o other (inl h) (inr k) =
    let ends =
    ap (λ (p : Outcome). p.end) (first (success h.0 h.1) (record { text = k.0; end = Err k.1 }) h.3 k.2) in
    absurd (cc)
one_join First Next first next o other (inr h) (inl k) =
    let ends =
    ap (λ (p : Outcome). p.end) (first (record { text = h.0; end = Err h.1 }) (success k.0 k.1) h.2 k.3) in
    absurd (cc)
one_join First Next first next o other (inr h) (inr k) = h.3 ∙ first (record { text = h.0; end = Err h.1 }) (record { text = k.0; end = Err k.1 }) h.2 k.2 ∙ sym k.3

one_repeated : (Part : Session → Outcome → Type 0) → IsOne Part → (n : ℕ) → IsOne (Repeats n Part)
unfolding Repeats
one_repeated Part one zero session o other h k = h ∙ sym k
one_repeated Part one (suc n) session o other h k = one_join (Part session) (Repeats n Part) (one session) (one_repeated Part one n) o other h k

one_meant : HasOneReading → AcceptsNoRefused → HasOneCause → HasOnePlace → HasOneAnswer
    → (session : Session) (meaning : Result Line LineFault) (o other : Outcome) → MeaningPrints session meaning o
    → MeaningPrints session meaning other → o ≡ other
one_meant reading apart cause place one session (Ok said) o other h k =
    one_repeated (LineOutcomeOnce said) (one_once reading apart cause place one said) (times said) session o other h k
one_meant reading apart cause place one session (Err why) o other h k = h ∙ sym k

pub one_outcome : HasOneReading → AcceptsNoRefused → HasOneCause → HasOnePlace → HasOneAnswer → LineHasOneOutcome
unfolding LinePrints
one_outcome reading apart cause place one session bytes o other h k = one_meant reading apart cause place one session (meaning_of bytes) o other h k

pub one_text : LineHasOneOutcome → LinesPrintOneText
one_text one session [] text other last end h k = (h.0 ∙ sym k.0, h.1 ∙ sym k.1)
one_text one session (bytes ∷ more) text other last end h k =
    let same = one session bytes (success h.0 h.1) (success k.0 k.1) h.3 k.3 in
    let next = same_session h.0 k.0 h.1 k.1 same in
    let rest = one_text one k.1 more h.2 k.2 last end (subst (λ s. AllPrint s more h.2 last) next h.4) k.4 in (
      h.5 ∙ ap (λ t. t ++ h.2) (ap (λ (o : Outcome). o.text) same) ∙ ap (λ t. k.0 ++ t) rest.0 ∙ sym k.5,
      rest.1,
    )

-- ---- prefixes

prefix_repeated : (Part : Session → Outcome → Type 0) → IsOne Part
    → (n count : ℕ) (session next : Session) (text : List ℕ) (o : Outcome) → n ≤ count
    → Repeats n Part session (success text next) → Repeats count Part session o → IsPrefix text o.text
unfolding Repeats
prefix_repeated Part one zero count session next text o below h k = let none : text ≡ [] = ap (λ (p : Outcome). p.text) h in rw none (o.text, refl)
prefix_repeated Part one (suc n) zero session next text o below h k = absurd (omega arith)
prefix_repeated Part one (suc n) (suc count) session next text o below (inr h) k = let ends : (let r : Result Session Cause = Ok next in r) ≡ Err h.1 = ap (λ (p : Outcome). p.end) h.3 in absurd (cc)
prefix_repeated Part one (suc n) (suc count) session next text o below (inl h) (inr k) =
    let ends =
    ap (λ (p : Outcome). p.end) (one session (success h.0 h.1) (record { text = k.0; end = Err k.1 }) h.3 k.2) in
    absurd (cc)
prefix_repeated Part one (suc n) (suc count) session next text o below (inl h) (inl k) =
    let same = one session (success h.0 h.1) (success k.0 k.1) h.3 k.3 in
    let now = same_session h.0 k.0 h.1 k.1 same in
    let end : (let r : Result Session Cause = Ok next in r) ≡ h.2.end = ap (λ (p : Outcome). p.end) h.5 in
    let rest : Repeats n Part k.1 (success h.2.text next) =
    subst (λ s. Repeats n Part s (success h.2.text next)) now
    (subst (λ e. Repeats n Part h.1 (record { text = h.2.text; end = e })) (sym end) h.4) in
    let prefix = prefix_repeated Part one n count k.1 next h.2.text k.2 (omega arith) rest k.4 in
    let first : h.0 ≡ k.0 = ap (λ (p : Outcome). p.text) same in
    let whole : text ≡ k.0 ++ h.2.text = ap (λ (p : Outcome). p.text) h.5 ∙ ap (λ t. t ++ h.2.text) first in
    (prefix.0, ap (λ (p : Outcome). p.text) k.5 ∙ ap (λ t. k.0 ++ t) prefix.1 ∙ sym (append_assoc k.0 h.2.text prefix.0) ∙ ap (λ t. t ++ prefix.0) (sym whole))

prefix_meant : HasOneReading → AcceptsNoRefused → HasOneCause → HasOnePlace → HasOneAnswer
    → (session : Session) (meaning : Result Line LineFault) (text : List ℕ) (o : Outcome)
    → BeginsMeant session meaning text → MeaningPrints session meaning o → IsPrefix text o.text
prefix_meant reading apart cause place one session (Ok said) text o h k =
    prefix_repeated (LineOutcomeOnce said) (one_once reading apart cause place one said) h.0
    (times said) session h.1 text o h.2 h.3 k
prefix_meant reading apart cause place one session (Err why) text o h k = rw h (o.text, refl)

pub prefixes : HasOneReading → AcceptsNoRefused → HasOneCause → HasOnePlace → HasOneAnswer → BeginsWithPrefixes
unfolding LinePrints LineBegins
prefixes reading apart cause place one session bytes text o h k = prefix_meant reading apart cause place one session (meaning_of bytes) text o h k
