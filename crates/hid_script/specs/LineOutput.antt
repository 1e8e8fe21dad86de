-- The outcome of a line of a script (our choice: docs/SCRIPT.md).
use Rattle.std.specs.Prelude.{◌≡◌, ℕ, ◌≤◌, List, [], Result, Ok, Err}
use Rattle.hid_report_descriptor.specs.declared.fault.LayoutFault.{LayoutFault}
use Rattle.hid_report_descriptor.specs.declared.fault.Cause as layouts
use Rattle.hid_report_descriptor.specs.declared.fault.Cause.TheVariants as causes_of
use Rattle.hid_host.specs.declared.fault.StackFault.{StackFault}
use Rattle.hid_host.specs.declared.fault.StackFault.TheVariants as stack
use Rattle.hid_bus.specs.declared.step.Step.TheVariants as step
use Rattle.hid_script.specs.declared.fault.Cause.{Cause}
use Rattle.hid_script.specs.declared.fault.Cause.TheVariants as causes
use Rattle.hid_script.specs.declared.fault.StepFault.TheVariants as faults
use Rattle.hid_text.specs.declared.change_kind.ChangeKind.TheVariants as wanted
use Rattle.hid_text.specs.declared.fault.LineFault.{LineFault}
use Rattle.hid_text.specs.declared.fault.LineFault.TheVariants as lines
use Rattle.hid_text.specs.declared.line.Line.{Line}
use Rattle.hid_text.specs.declared.line.Line.TheVariants as line
use Rattle.hid_text.specs.declared.short.ShortLine.{ShortLine}
use Rattle.hid_text.specs.declared.short.ShortLine.TheVariants as short
use Rattle.hid_text.specs.Line.{meaning_of}
use Rattle.hid_script.specs.Session.{Session, Outcome, success, failure, Repeats}
use Rattle.hid_script.specs.Steps.{LayoutPrints, ValuesPrint, DevicePrints, ChangePrints, StepPrints}

-- The outcome of a short line each time that it is carried out: what it prints and the session that it leaves, or why
-- it is refused. Example: press 1 07:01 is X4 S3 U1
unfoldable pub ShortLinePrints : ShortLine → Session → Outcome → Type 0
ShortLinePrints (short.Press dev usage) session o = ChangePrints dev usage wanted.Press session o
ShortLinePrints (short.Release dev usage) session o = ChangePrints dev usage wanted.Release session o
ShortLinePrints (short.Null dev usage) session o = ChangePrints dev usage wanted.Null session o
ShortLinePrints (short.Set dev usage value) session o = ChangePrints dev usage (wanted.Set value) session o
ShortLinePrints (short.Move dev usage by) session o = ChangePrints dev usage (wanted.Move by) session o
ShortLinePrints (short.Frame count) session o = StepPrints step.Frame session o
ShortLinePrints (short.Poll dev fate count) session o = StepPrints (step.Poll dev fate) session o
ShortLinePrints (short.Control dev fate count) session o = StepPrints (step.Control dev fate) session o
ShortLinePrints (short.Reset dev) session o = StepPrints (step.Reset dev) session o
ShortLinePrints (short.Halt dev) session o = StepPrints (step.Halt dev) session o

-- the outcome of any line each time that it is carried out
unfoldable pub LineOutcomeOnce : Line → Session → Outcome → Type 0
LineOutcomeOnce line.Nothing session o = o ≡ success [] session
LineOutcomeOnce (line.Layout bytes) session o = LayoutPrints bytes.items session o
LineOutcomeOnce (line.Values bytes) session o = ValuesPrint bytes.items session o
LineOutcomeOnce (line.Device start kind bytes) session o = DevicePrints start kind bytes.items session o
LineOutcomeOnce (line.Begin dev request) session o = StepPrints (step.Begin dev request) session o
LineOutcomeOnce (line.Step said) session o = ShortLinePrints said session o

-- how many times a short line is carried out
unfoldable pub short_times : ShortLine → ℕ
short_times (short.Frame count) = count
short_times (short.Poll dev fate count) = count
short_times (short.Control dev fate count) = count
short_times _ = 1

-- how many times any line is carried out
unfoldable pub times : Line → ℕ
times (line.Step said) = short_times said
times _ = 1

-- the outcome of a line that was understood: that of all its times
abbrev pub CarriesOut : Session → Line → Outcome → Type 0
CarriesOut session said o = Repeats (times said) (LineOutcomeOnce said) session o

-- the script's cause for a line that says nothing: X1, X2 or X3, as the line has it
abbrev pub line_cause : LineFault → Cause
line_cause lines.LineTooLong = causes.LineTooLong
line_cause lines.Syntax = causes.Syntax
line_cause lines.BadHex = causes.BadHex

-- what a line says, or the script's cause for which it is refused. Example: values 0 is X3
abbrev pub line_or_cause : Result Line LineFault → Result Line Cause
line_or_cause (Ok said) = Ok said
line_or_cause (Err fault) = Err (line_cause fault)

-- the outcome of a line that was read: that of what it says, or its refusal
abbrev pub MeaningPrints : Session → Result Line LineFault → Outcome → Type 0
MeaningPrints session (Ok said) o = CarriesOut session said o
MeaningPrints session (Err fault) o = o ≡ failure (line_cause fault)

-- The outcome of a line of these bytes: the text that it prints and the session that it leaves, or why it is refused.
-- Example: layout alone prints no reports
unfoldable pub LinePrints : Session → List ℕ → Outcome → Type 0
LinePrints session bytes o = MeaningPrints session (meaning_of bytes) o

-- what the first times of a part print
abbrev pub Begins : ℕ → (Session → Outcome → Type 0) → Session → List ℕ → Type 0
Begins count Part session text =
    (n : ℕ) × (next : Session) × (n ≤ count) × Repeats n Part session (success text next)

-- what the first times of a line print; nothing where it isn't understood
abbrev pub BeginsMeant : Session → Result Line LineFault → List ℕ → Type 0
BeginsMeant session (Ok said) text = Begins (times said) (LineOutcomeOnce said) session text
BeginsMeant session (Err fault) text = text ≡ []

-- the text of the first times of a line, which running out of memory or the writer may leave
unfoldable pub LineBegins : Session → List ℕ → List ℕ → Type 0
LineBegins session bytes text = BeginsMeant session (meaning_of bytes) text

-- the script's cause for a layout's fault: the fault itself, but running out of memory is the script's own
abbrev pub cause_from : layouts.Cause → LayoutFault → Cause
cause_from causes_of.Memory fault = causes.Memory
cause_from _ fault = causes.Step (faults.Layout fault)

-- the script's cause for the refusal of a layout: X7 if memory was missing, else X4
abbrev pub cause_of : LayoutFault → Cause
cause_of fault = cause_from fault.cause fault

-- the script's cause for a refusal by the stack: X7 if memory was missing, else X4
abbrev pub stack_cause : StackFault → Cause
stack_cause stack.Memory = causes.Memory
stack_cause fault = causes.Step (faults.Stack fault)
