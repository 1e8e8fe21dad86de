-- What the lines of the bench are, in parts (our choice: docs/LAB.md).
use Rattle.std.specs.Prelude.{◌≡◌, ◌≢◌, ◌⊎◌, ℕ, ◌<◌, zero, suc, Bool, true, false, List, [], ◌∷◌, ◌++◌, map, Option, None, Some, Result, Ok, Err}
use Rattle.hid_layout.specs.declared.control.ControlId.{ControlId}
use Rattle.usb_transact.specs.declared.transaction.Fate.{Fate}
use Rattle.usb_transact.specs.declared.transaction.Fate.TheVariants.{Clean}
use Rattle.usb_transact.specs.declared.host.Took.TheVariants.{Nak}
use Rattle.hid_bus.specs.declared.step.Step.TheVariants as step
use Rattle.hid_bus.specs.declared.step.Told.{Told}
use Rattle.hid_bus.specs.declared.step.Told.TheVariants.{Polled}
use Rattle.hid_stack.specs.Attaching.{Finds}
use Rattle.hid_stack.specs.Members.{Member}
use Rattle.hid_stack.specs.Rig.{member_at}
use Rattle.hid_stack.specs.StepResult.{StepReturns}
use Rattle.hid_text.specs.declared.change_kind.ChangeKind.{ChangeKind}
use Rattle.hid_text.specs.declared.change_kind.ChangeKind.TheVariants.{Press, Release}
use Rattle.hid_text.specs.declared.line.Line.{Line}
use Rattle.hid_text.specs.declared.line.Line.TheVariants as line
use Rattle.hid_text.specs.declared.short.ShortLine.{ShortLine}
use Rattle.hid_text.specs.declared.short.ShortLine.TheVariants as short
use Rattle.hid_text.specs.Line.{meaning_of}
use Rattle.hid_text.specs.Words.{Word, hex_of}
use Rattle.hid_script.specs.Session.{Session, success}
use Rattle.lab_lines.specs.declared.keys.Key.{Key}
use Rattle.lab_lines.specs.declared.keys.TheConstants.{LEFT_SHIFT}
use Rattle.lab_lines.specs.Keys.{key_of}
use Rattle.lab_lines.specs.Losses.{generator_at_first}
use Rattle.lab_lines.specs.Typing.{characters_of}
use Rattle.lab_lines.specs.ControlNames.{Named, control_named}
use Rattle.lab_lines.specs.LabLines.{Said}
use Rattle.lab_lines.specs.LabLines as lab
use Rattle.lab_session.specs.declared.fault.LabCause.{LabCause}
use Rattle.lab_session.specs.declared.fault.LabCause.TheVariants.{Unsettled}
use Rattle.lab_session.specs.Chances.{Chance, fate_by, chance_after}
use Rattle.lab_session.specs.Parts.{Part, Says, Changes, LaysOut, ShowsValues, Attaches, PartPrints}

-- what stands between two lines: the session of a script, and of each device how fates are drawn
pub record Moment : Type 0 where
  pub session : Session
  pub chance : ℕ → Option Chance

-- what is drawn of each device stays as it is
abbrev pub DrawsNothing : Moment → Moment → Type 0
DrawsNothing before after = (dev : ℕ) → after.chance dev ≡ before.chance dev

-- the fate of a poll or a try of a device is taken, and no other device's
abbrev pub DrawsOne : ℕ → Fate → Moment → Moment → Type 0
DrawsOne dev said before after =
    (after.chance dev ≡ chance_after (before.chance dev) said)
    × ((other : ℕ) → other ≢ dev → after.chance other ≡ before.chance other)

-- ---- what is done: from one moment to another, by these parts, which print this text

-- nothing
abbrev pub DoesNothing : Moment → List Part → List ℕ → Moment → Type 0
DoesNothing before parts text after =
    (parts ≡ []) × (text ≡ []) × (after.session ≡ before.session) × DrawsNothing before after

-- one part
abbrev pub DoesPart : Part → Moment → List Part → List ℕ → Moment → Type 0
DoesPart part before parts text after =
    (parts ≡ part ∷ []) × PartPrints part before.session (success text after.session) × DrawsNothing before after

-- one thing and then another
pub record Then (First Next : Moment → List Part → List ℕ → Moment → Type 0) (before : Moment) (parts : List Part)
    (text : List ℕ) (after : Moment) : Type 0 where
  pub middle : Moment
  pub first_parts : List Part
  pub first_text : List ℕ
  pub next_parts : List Part
  pub next_text : List ℕ
  pub first : First before first_parts first_text middle
  pub next : Next middle next_parts next_text after
  pub all_parts : parts ≡ first_parts ++ next_parts
  pub all_text : text ≡ first_text ++ next_text

-- one thing so often
abbrev pub Often : ℕ → (Moment → List Part → List ℕ → Moment → Type 0) → Moment → List Part → List ℕ → Moment → Type 0
Often zero Does before parts text after = DoesNothing before parts text after
Often (suc n) Does before parts text after = Then (Often n Does) Does before parts text after

-- ---- polls and tries

-- whether an answer to a poll is that there is nothing to send
abbrev pub has_nothing : Told → Bool
has_nothing (Polled reply Nak) = true
has_nothing _ = false

-- a poll of a bus returns that the device has nothing to send, or something else
abbrev pub PollAnswers : List Member → ℕ → Fate → Bool → Type 0
PollAnswers members dev fate idle =
    (told : Told) × StepReturns members (step.Poll dev fate) told × (has_nothing told ≡ idle)

-- `poll D` once, with what is drawn of it if its line says nothing: whether the device has nothing to send
pub record PollsOnce (dev : ℕ) (said : Fate) (idle : Bool) (before : Moment) (parts : List Part) (text : List ℕ)
    (after : Moment) : Type 0 where
  pub part : parts ≡ Says (line.Step (short.Poll dev (fate_by (before.chance dev) said) 1)) ∷ []
  pub prints : PartPrints (Says (line.Step (short.Poll dev (fate_by (before.chance dev) said) 1))) before.session
      (success text after.session)
  pub answers : PollAnswers before.session.members dev (fate_by (before.chance dev) said) idle
  pub drawn : DrawsOne dev said before after

-- `poll D` once, whatever the answer is
abbrev pub Polls : ℕ → Fate → Moment → List Part → List ℕ → Moment → Type 0
Polls dev said before parts text after = (idle : Bool) × PollsOnce dev said idle before parts text after

-- `control D` once, with what is drawn of it if its line says nothing
pub record Tries (dev : ℕ) (said : Fate) (before : Moment) (parts : List Part) (text : List ℕ) (after : Moment)
    : Type 0 where
  pub part : parts ≡ Says (line.Step (short.Control dev (fate_by (before.chance dev) said) 1)) ∷ []
  pub prints : PartPrints (Says (line.Step (short.Control dev (fate_by (before.chance dev) said) 1))) before.session
      (success text after.session)
  pub drawn : DrawsOne dev said before after

-- Polls up to the first one that is answered by nothing to send: a hundred at most.
abbrev pub Settles : ℕ → Moment → List Part → List ℕ → Moment → Type 0
Settles dev before parts text after =
    (n : ℕ) × (n < 100) × Then (Often n (PollsOnce dev Clean false)) (PollsOnce dev Clean true) before parts text after

-- a device was polled a hundred times, one after the other up to here, and had something to send each time
abbrev pub StaysUnsettled : ℕ → Moment → Type 0
StaysUnsettled dev after =
    (before : Moment) × (parts : List Part) × (text : List ℕ) × Often 100 (PollsOnce dev Clean false) before parts text after

-- ---- lines

-- a control changes, and the device is polled until it has nothing to send
abbrev pub SettlesChange : ℕ → ControlId → ChangeKind → Moment → List Part → List ℕ → Moment → Type 0
SettlesChange dev control wanted = Then (DoesPart (Changes dev control wanted)) (Settles dev)

-- `click D C`: the control is pressed and let go
abbrev pub Clicks : ℕ → ControlId → Moment → List Part → List ℕ → Moment → Type 0
Clicks dev control = Then (SettlesChange dev control Press) (SettlesChange dev control Release)

-- a click while Shift is held
abbrev pub ClicksShifted : ℕ → ControlId → ControlId → Moment → List Part → List ℕ → Moment → Type 0
ClicksShifted dev shift control =
    Then (SettlesChange dev shift Press) (Then (Clicks dev control) (SettlesChange dev shift Release))

-- a click of the least control with a key's usage, with Shift where it is needed
abbrev pub ClicksKey : ℕ → Key → Moment → List Part → List ℕ → Moment → Type 0
ClicksKey dev key before parts text after =
    (control : ControlId) × Finds before.session.members dev key.usage (Ok control)
    × (((key.is_shifted ≡ false) × Clicks dev control before parts text after)
    ⊎ ((key.is_shifted ≡ true) × (shift : ControlId) × Finds before.session.members dev LEFT_SHIFT (Ok shift)
    × ClicksShifted dev shift control before parts text after))

-- keys are clicked, one after the other
abbrev pub ClicksKeys : ℕ → List Key → Moment → List Part → List ℕ → Moment → Type 0
ClicksKeys dev [] = DoesNothing
ClicksKeys dev (key ∷ more) = Then (ClicksKey dev key) (ClicksKeys dev more)

-- `poll D FATE N`: the line itself where nothing is drawn of the device; else so many polls, each with its fate
abbrev pub PollLineDoes : ℕ → Fate → ℕ → Moment → List Part → List ℕ → Moment → Type 0
PollLineDoes dev fate count before parts text after =
    ((before.chance dev ≡ None) × DoesPart (Says (line.Step (short.Poll dev fate count))) before parts text after)
    ⊎ Often count (Polls dev fate) before parts text after

-- `control D FATE N`: the line itself, which is only where nothing is drawn of the device; or so many tries, each with its fate
abbrev pub TryLineDoes : ℕ → Fate → ℕ → Moment → List Part → List ℕ → Moment → Type 0
TryLineDoes dev fate count before parts text after =
    ((before.chance dev ≡ None) × DoesPart (Says (line.Step (short.Control dev fate count))) before parts text after)
    ⊎ Often count (Tries dev fate) before parts text after

-- a short line of a script
unfoldable pub ShortLineDoes : ShortLine → Moment → List Part → List ℕ → Moment → Type 0
ShortLineDoes (short.Poll dev fate count) = PollLineDoes dev fate count
ShortLineDoes (short.Control dev fate count) = TryLineDoes dev fate count
ShortLineDoes said = DoesPart (Says (line.Step said))

-- a short line is one part: it polls or tries so often under one fate, or polls and tries nothing
abbrev pub IsOnePart : Moment → ShortLine → Type 0
IsOnePart before (short.Poll dev fate count) = before.chance dev ≡ None
IsOnePart before (short.Control dev fate count) = before.chance dev ≡ None
IsOnePart before said = Unit {0}

-- a line of a script, as hid_text reads it
abbrev pub ScriptLineDoes : List ℕ → Moment → List Part → List ℕ → Moment → Type 0
ScriptLineDoes bytes before parts text after =
    (said : Line) × (meaning_of bytes ≡ Ok said) × DoesPart (Says said) before parts text after

-- what is done with the bytes that words of hex encode
abbrev pub DoesBytes : (List ℕ → Part) → List Word → Moment → List Part → List ℕ → Moment → Type 0
DoesBytes part words before parts text after =
    (bytes : List ℕ) × (hex_of words ≡ Some bytes) × DoesPart (part bytes) before parts text after

-- the control of a device that a line names
abbrev pub NamesControl : List Member → ℕ → Named → ControlId → Type 0
NamesControl members dev named control =
    (m : Member) × (member_at members dev ≡ Some m) × (control_named m.layout named ≡ Some control)

-- what is done with the control that a line names
abbrev pub DoesNamed : ℕ → Named → (ControlId → Moment → List Part → List ℕ → Moment → Type 0) → Moment → List Part → List ℕ
    → Moment → Type 0
DoesNamed dev named Doing before parts text after =
    (control : ControlId) × NamesControl before.session.members dev named control × Doing control before parts text after

-- `type D "TEXT"`: the keys of its characters are clicked
abbrev pub Types : ℕ → List ℕ → Moment → List Part → List ℕ → Moment → Type 0
Types dev bytes before parts text after =
    (keys : List Key) × (map key_of (characters_of bytes) ≡ map Some keys) × ClicksKeys dev keys before parts text after

-- the seed of a line, unless another is given for the whole run
abbrev pub seed_by : Option ℕ → ℕ → ℕ
seed_by None seed = seed
seed_by (Some other) seed = other

-- `lose D PERCENT SEED`: from now on fates of the device, which is there, are drawn
abbrev pub Loses : ℕ → ℕ → ℕ → Moment → List Part → List ℕ → Moment → Type 0
Loses dev percent seed before parts text after =
    ((m : Member) × (member_at before.session.members dev ≡ Some m)) × (parts ≡ []) × (text ≡ []) × (after.session ≡ before.session)
    × (dev < 8 → after.chance dev ≡ Some (record { percent = percent; generator = generator_at_first dev seed }))
    × ((other : ℕ) → other ≢ dev → after.chance other ≡ before.chance other)

-- What a line does, by what it says; a seed may be given for the whole run. Lines of other sources do nothing by themselves, and
-- an expectation changes nothing.
unfoldable pub LineDoes : Option ℕ → Said → Moment → List Part → List ℕ → Moment → Type 0
LineDoes given (lab.Script bytes) = ScriptLineDoes bytes
LineDoes given (lab.Short short) = ShortLineDoes short
LineDoes given (lab.Layout words) = DoesBytes LaysOut words
LineDoes given (lab.Values words) = DoesBytes ShowsValues words
LineDoes given (lab.Device start boot words) = DoesBytes (Attaches start boot) words
LineDoes given (lab.Change dev named wanted) = DoesNamed dev named (λ control. DoesPart (Changes dev control wanted))
LineDoes given (lab.Click dev named) = DoesNamed dev named (λ control. Clicks dev control)
LineDoes given (lab.Typing dev bytes) = Types dev bytes
LineDoes given (lab.Lose dev percent seed) = Loses dev percent (seed_by given seed)
LineDoes given (lab.Wait count) = DoesPart (Says (line.Step (short.Frame count)))
LineDoes given lab.Nothing = DoesNothing
LineDoes given (lab.DeviceFile start boot name) = DoesNothing
LineDoes given (lab.Repeat count) = DoesNothing
LineDoes given lab.End = DoesNothing
LineDoes given (lab.Expect words) = DoesNothing
LineDoes given lab.ExpectNone = DoesNothing
LineDoes given lab.ExpectAny = DoesNothing
LineDoes given (lab.Include name) = DoesNothing

-- Where a line ends since a device has still something to send, the line clicks controls of that device, and the device was
-- polled a hundred times.
abbrev pub LineUnsettled : Said → Result (Unit {0}) LabCause → Moment → Type 0
LineUnsettled (lab.Click dev named) result after = result ≡ Err Unsettled → StaysUnsettled dev after
LineUnsettled (lab.Typing dev bytes) result after = result ≡ Err Unsettled → StaysUnsettled dev after
LineUnsettled _ result after = result ≡ Err Unsettled → ⊥
