-- What the lines of the bench are is what their parts are, and these print the histories of their devices.
use Rattle.std.proofs.Common.{◌≡◌, ℕ, ◌<◌, zero, suc, Bool, true, false, List, [], ◌∷◌, ◌++◌, length, refl, sym, ap, ◌∙◌, subst, inl, inr, arith, append-nil, append_assoc}
use Rattle.usb_transact.specs.declared.transaction.Fate.{Fate}
use Rattle.usb_transact.specs.declared.transaction.Fate.TheVariants.{Clean}
use Rattle.hid_layout.specs.declared.control.ControlId.{ControlId}
use Rattle.hid_bus.specs.declared.step.Step.TheVariants as step
use Rattle.hid_stack.specs.Members.{Member}
use Rattle.hid_stack.specs.BusHistory.{Action, Taken}
use Rattle.hid_text.specs.declared.change_kind.ChangeKind.{ChangeKind}
use Rattle.hid_text.specs.declared.change_kind.ChangeKind.TheVariants.{Press, Release}
use Rattle.hid_text.specs.declared.line.Line.TheVariants as line
use Rattle.hid_text.specs.declared.short.ShortLine.TheVariants as short
use Rattle.hid_text.specs.EventLines.{ShowsEvents}
use Rattle.hid_text.proofs.ShownLemmas.{shows_nothing}
use Rattle.hid_requests.specs.declared.boot.Boot.{Boot}
use Rattle.hid_bus.specs.declared.start.Start.{Start}
use Rattle.hid_text.specs.Words.{Word}
use Rattle.hid_text.specs.declared.line.Line.{Line}
use Rattle.hid_script.specs.Session.{Session, success, at_first, Repeats}
use Rattle.hid_script.specs.LineOutput.{CarriesOut, LineOutcomeOnce, times}
use Rattle.hid_script.specs.Printing.{ScriptActs}
use Rattle.hid_script.proofs.RepeatLemmas.{no_times, one_more}
use Rattle.lab_lines.specs.LabLines as lab
use Rattle.hid_script.specs.Steps.{change_of}
use Rattle.hid_script.proofs.PrintingLemmas.{Done, done_both, done_nothing, step_done, line_done, lives_of}
use Rattle.lab_lines.specs.declared.keys.Key.{Key}
use Rattle.lab_session.specs.Acts.{PartActs, AllAct}
use Rattle.lab_session.specs.Laws.{IsItsParts, ClicksAreParts, KeysAreParts, ShortLinesAreParts, LinesAreParts, PartsPrintLives}
use Rattle.lab_session.specs.Lines.{Moment, DoesNothing, DoesPart, Then, Often, PollsOnce, Polls, Tries, Settles, SettlesChange, Clicks, ClicksShifted, ClicksKey, ClicksKeys, PollLineDoes, TryLineDoes, ShortLineDoes, ScriptLineDoes, DoesBytes, Types, Loses, LineDoes, seed_by}
use Rattle.lab_session.specs.Parts.{Part, Says, Changes, LaysOut, ShowsValues, Attaches, PartPrints, AllCarry}

-- ---- lines are their parts

pub carry_both : (a b c : Session) (p q : List Part) (t u : List ℕ) → AllCarry a p t b → AllCarry b q u c → AllCarry a (p ++ q) (t ++ u) c
carry_both a b c [] q t u h k =
    subst (λ s. AllCarry s q (t ++ u) c) h.1 (subst (λ x. AllCarry b q (x ++ u) c) (sym h.0) k)
carry_both a b c (part ∷ p) q t u h k =
    (h.0, h.1, h.2 ++ u, h.3, carry_both h.1 b c p q h.2 u h.4 k, ap (λ l. l ++ u) h.5 ∙ append_assoc h.0 h.2 u)

carry_one : (part : Part) (a b : Session) (text : List ℕ) → PartPrints part a (success text b) → AllCarry a (part ∷ []) text b
carry_one part a b text h = (text, b, [], h, (refl, refl), sym (append-nil text))

carried_as : (a b : Session) (p q : List Part) (t : List ℕ) → q ≡ p → AllCarry a p t b → AllCarry a q t b
carried_as a b p q t e h = subst (λ (l : List Part). AllCarry a l t b) (sym e) h

its_parts_then : (First Next : Moment → List Part → List ℕ → Moment → Type 0) → IsItsParts First → IsItsParts Next → IsItsParts (Then First Next)
its_parts_then First Next f n before after parts text h =
    subst (λ (l : List Part). AllCarry before.session l text after.session) (sym h.all_parts)
    (subst (λ x. AllCarry before.session (h.first_parts ++ h.next_parts) x after.session) (sym h.all_text)
    (carry_both before.session h.middle.session after.session h.first_parts h.next_parts h.first_text h.next_text
    (f before h.middle h.first_parts h.first_text h.first) (n h.middle after h.next_parts h.next_text h.next)))

its_parts_nothing : IsItsParts DoesNothing
its_parts_nothing before after parts text h = carried_as before.session after.session [] parts text h.0 (h.1, h.2)

its_parts_part : (part : Part) → IsItsParts (DoesPart part)
its_parts_part part before after parts text h = carried_as before.session after.session (part ∷ []) parts text h.0 (carry_one part before.session after.session text h.1)

its_parts_often : (Doing : Moment → List Part → List ℕ → Moment → Type 0) → IsItsParts Doing → (n : ℕ) → IsItsParts (Often n Doing)
its_parts_often Doing d zero before after parts text h = its_parts_nothing before after parts text h
its_parts_often Doing d (suc n) before after parts text h = its_parts_then (Often n Doing) Doing (its_parts_often Doing d n) d before after parts text h

its_parts_once : (dev : ℕ) (said : Fate) (idle : Bool) → IsItsParts (PollsOnce dev said idle)
its_parts_once dev said idle before after parts text h = carried_as before.session after.session _ parts text h.part (carry_one _ before.session after.session text h.prints)

its_parts_poll : (dev : ℕ) (said : Fate) → IsItsParts (Polls dev said)
its_parts_poll dev said before after parts text h = its_parts_once dev said h.0 before after parts text h.1

its_parts_try : (dev : ℕ) (said : Fate) → IsItsParts (Tries dev said)
its_parts_try dev said before after parts text h = carried_as before.session after.session _ parts text h.part (carry_one _ before.session after.session text h.prints)

its_parts_settle : (dev : ℕ) → IsItsParts (Settles dev)
its_parts_settle dev before after parts text h =
    its_parts_then (Often h.0 (PollsOnce dev Clean false)) (PollsOnce dev Clean true)
    (its_parts_often (PollsOnce dev Clean false) (its_parts_once dev Clean false) h.0) (its_parts_once dev Clean true) before after parts text h.2

its_parts_change : (dev : ℕ) (control : ControlId) (wanted : ChangeKind) → IsItsParts (SettlesChange dev control wanted)
its_parts_change dev control wanted before after parts text h =
    its_parts_then (DoesPart (Changes dev control wanted)) (Settles dev) (its_parts_part (Changes dev control wanted)) (its_parts_settle dev) before after parts text h

pub clicks_are_parts : ClicksAreParts
clicks_are_parts dev control before after parts text h =
    its_parts_then (SettlesChange dev control Press) (SettlesChange dev control Release)
    (its_parts_change dev control Press) (its_parts_change dev control Release) before after parts text h

its_parts_shifted : (dev : ℕ) (shift control : ControlId) → IsItsParts (ClicksShifted dev shift control)
its_parts_shifted dev shift control before after parts text h =
    its_parts_then (SettlesChange dev shift Press) (Then (Clicks dev control) (SettlesChange dev shift Release))
    (its_parts_change dev shift Press)
    (its_parts_then (Clicks dev control) (SettlesChange dev shift Release) (clicks_are_parts dev control) (its_parts_change dev shift Release))
    before after parts text h

its_parts_key : (dev : ℕ) (key : Key) → IsItsParts (ClicksKey dev key)
its_parts_key dev key before after parts text (control, found, inl h) = clicks_are_parts dev control before after parts text h.1
its_parts_key dev key before after parts text (control, found, inr h) = its_parts_shifted dev h.1 control before after parts text h.3

pub keys_are_parts : KeysAreParts
keys_are_parts dev [] before after parts text h = its_parts_nothing before after parts text h
keys_are_parts dev (key ∷ more) before after parts text h =
    its_parts_then (ClicksKey dev key) (ClicksKeys dev more) (its_parts_key dev key) (keys_are_parts dev more) before after parts text h

its_parts_poll_line : (dev : ℕ) (fate : Fate) (count : ℕ) → IsItsParts (PollLineDoes dev fate count)
its_parts_poll_line dev fate count before after parts text (inl h) = its_parts_part (Says (line.Step (short.Poll dev fate count))) before after parts text h.1
its_parts_poll_line dev fate count before after parts text (inr h) = its_parts_often (Polls dev fate) (its_parts_poll dev fate) count before after parts text h

its_parts_try_line : (dev : ℕ) (fate : Fate) (count : ℕ) → IsItsParts (TryLineDoes dev fate count)
its_parts_try_line dev fate count before after parts text (inl h) = its_parts_part (Says (line.Step (short.Control dev fate count))) before after parts text h.1
its_parts_try_line dev fate count before after parts text (inr h) = its_parts_often (Tries dev fate) (its_parts_try dev fate) count before after parts text h

pub short_lines_are_parts : ShortLinesAreParts
unfolding ShortLineDoes
short_lines_are_parts (short.Poll dev fate count) before after parts text h = its_parts_poll_line dev fate count before after parts text h
short_lines_are_parts (short.Control dev fate count) before after parts text h = its_parts_try_line dev fate count before after parts text h
short_lines_are_parts said before after parts text h = its_parts_part (Says (line.Step said)) before after parts text h

its_parts_bytes : (part : List ℕ → Part) (words : List Word) → IsItsParts (DoesBytes part words)
its_parts_bytes part words before after parts text h = its_parts_part (part h.0) before after parts text h.2

its_parts_script : (bytes : List ℕ) → IsItsParts (ScriptLineDoes bytes)
its_parts_script bytes before after parts text h = its_parts_part (Says h.0) before after parts text h.2

its_parts_types : (dev : ℕ) (bytes : List ℕ) → IsItsParts (Types dev bytes)
its_parts_types dev bytes before after parts text h = keys_are_parts dev h.0 before after parts text h.2

its_parts_loses : (dev percent seed : ℕ) → IsItsParts (Loses dev percent seed)
its_parts_loses dev percent seed before after parts text h = carried_as before.session after.session [] parts text h.1 (h.2, h.3)

pub lines_are_parts : LinesAreParts
unfolding LineDoes
lines_are_parts given (lab.Script bytes) before after parts text h = its_parts_script bytes before after parts text h
lines_are_parts given (lab.Short short) before after parts text h = short_lines_are_parts short before after parts text h
lines_are_parts given (lab.Layout words) before after parts text h = its_parts_bytes LaysOut words before after parts text h
lines_are_parts given (lab.Values words) before after parts text h = its_parts_bytes ShowsValues words before after parts text h
lines_are_parts given (lab.Device start boot words) before after parts text h = its_parts_bytes (Attaches start boot) words before after parts text h
lines_are_parts given (lab.Change dev named wanted) before after parts text h = its_parts_part (Changes dev h.0 wanted) before after parts text h.2
lines_are_parts given (lab.Click dev named) before after parts text h = clicks_are_parts dev h.0 before after parts text h.2
lines_are_parts given (lab.Typing dev bytes) before after parts text h = its_parts_types dev bytes before after parts text h
lines_are_parts given (lab.Lose dev percent seed) before after parts text h = its_parts_loses dev percent (seed_by given seed) before after parts text h
lines_are_parts given (lab.Wait count) before after parts text h = its_parts_part (Says (line.Step (short.Frame count))) before after parts text h
lines_are_parts given lab.Nothing before after parts text h = its_parts_nothing before after parts text h
lines_are_parts given (lab.DeviceFile start boot name) before after parts text h = its_parts_nothing before after parts text h
lines_are_parts given (lab.Repeat count) before after parts text h = its_parts_nothing before after parts text h
lines_are_parts given lab.End before after parts text h = its_parts_nothing before after parts text h
lines_are_parts given (lab.Expect words) before after parts text h = its_parts_nothing before after parts text h
lines_are_parts given lab.ExpectNone before after parts text h = its_parts_nothing before after parts text h
lines_are_parts given lab.ExpectAny before after parts text h = its_parts_nothing before after parts text h
lines_are_parts given (lab.Include name) before after parts text h = its_parts_nothing before after parts text h

-- ---- what parts do, and print

-- what a part did, and printed
abbrev PartDone : Part → Session → List ℕ → Session → Type 0
PartDone part session text next =
    (acts : List Action) × PartActs part session.members acts × Done session.members text acts next.members

-- a line that is carried out once
line_once : (said : Line) (session next : Session) (text : List ℕ) → times said ≡ 1
    → LineOutcomeOnce said session (success text next) → CarriesOut session said (success text next)
line_once said session next text one h =
    subst (λ n. Repeats n (LineOutcomeOnce said) session (success text next)) (sym one) (one_more 0 (LineOutcomeOnce said) session session next [] text (no_times (LineOutcomeOnce said) session) h)

-- lines with as many bytes as there are
long_layout : List ℕ → Line
long_layout bytes = line.Layout (record { items = bytes })

long_values : List ℕ → Line
long_values bytes = line.Values (record { items = bytes })

long_device : Start → Boot → List ℕ → Line
long_device start boot bytes = line.Device start boot (record { items = bytes })

part_done : (part : Part) (session next : Session) (text : List ℕ) → length session.members < 10
    → PartPrints part session (success text next) → PartDone part session text next
unfolding PartPrints PartActs ScriptActs LineOutcomeOnce times long_layout long_values long_device
part_done (Says said) session next text few h = line_done said session next text few h
part_done (Changes dev control wanted) session next text few h = (
  Taken (step.Change dev (change_of wanted control)) ∷ [],
  refl,
  step_done (step.Change dev (change_of wanted control)) session next text few h,
)
part_done (LaysOut bytes) session next text few h = line_done (long_layout bytes) session next text few (line_once (long_layout bytes) session next text refl h)
part_done (ShowsValues bytes) session next text few h = line_done (long_values bytes) session next text few (line_once (long_values bytes) session next text refl h)
part_done (Attaches start boot bytes) session next text few h = line_done (long_device start boot bytes) session next text few (line_once (long_device start boot bytes) session next text refl h)

all_done : (parts : List Part) (session last : Session) (text : List ℕ) → length session.members < 10
    → AllCarry session parts text last
    → (acts : List Action) × AllAct session.members parts acts × Done session.members text acts last.members
all_done [] session last text few h = ([], refl, done_nothing session.members last.members text few (subst (λ t. ShowsEvents t []) (sym h.0) shows_nothing) (ap (λ (s : Session). s.members) h.1))
all_done (part ∷ more) session last text few h =
    let first = part_done part session h.1 h.0 few h.3 in
    let did = first.2 in
    let rest = all_done more h.1 last h.2 did.few h.4 in (
      first.0 ++ rest.0,
      (first.0, rest.0, first.1, subst (λ (ms : List Member). AllAct ms more rest.0) did.bus rest.1, refl),
      subst (λ t. Done session.members t (first.0 ++ rest.0) last.members) (sym h.5) (done_both session.members h.1.members last.members h.0 h.2 first.0 rest.0 did rest.2),
    )

pub lives_printed : PartsPrintLives
lives_printed options parts text last h =
    let all = all_done parts (at_first options) last text (omega arith) h in
    lives_of (AllAct [] parts) text last.members all.0 all.1 all.2
