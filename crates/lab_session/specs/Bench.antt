-- The bench, seen as the moment at which it stands (our choice: docs/LAB.md).
use Rattle.std.specs.Prelude.{◌≡◌, ℕ, false, List, Option, None, Result, Ok, Err, OnOk}
use Rattle.std.specs.Io.KnownBytes.{Appends}
use Rattle.std.specs.Io.KnownBytes as known
use Rattle.hid_script.specs.declared.fault.Cause.{Cause}
use Rattle.hid_script.specs.Interpreter.{session_of}
use Rattle.lab_lines.specs.LabLines.{Said, lab_meaning}
use Rattle.lab_lines.specs.LabLines as lab
use Rattle.lab_session.specs.declared.asked.Asked.{Asked}
use Rattle.lab_session.specs.declared.bench.Bench.{Bench}
use Rattle.lab_session.specs.declared.fault.LabCause.{LabCause}
use Rattle.lab_session.specs.declared.fault.LabCause.TheVariants.{Script}
use Rattle.lab_session.specs.Asking.{asked_by}
use Rattle.lab_session.specs.Chances.{chance_at}
use Rattle.lab_session.specs.Lines.{Moment, LineDoes}
use Rattle.lab_session.specs.Parts.{Part}
use Rattle.lab_session.specs.Expecting.{Keeps}
use Rattle.lab_session.specs.Printed.{IsPlain, PrintsPart, is_styled}
use Rattle.lab_session.specs.Waiting.{KeepsText}

-- the moment at which a bench stands
abbrev pub moment_of : Bench → Moment
moment_of bench = record { session = session_of bench.interpreter; chance = chance_at bench.draws }

-- the answer to a line of a script that ends so: it asks for nothing
abbrev pub answer_of_end : Result (Unit {0}) Cause → Result (Option Asked) LabCause
answer_of_end (Ok _) = Ok None
answer_of_end (Err cause) = Err (Script cause)

-- A part ended, and its text was kept. That is printed and waits to be expected, and nothing else is done.
pub record EndsPart (old new : Bench) (before after : Option (List ℕ)) (part : Result (Unit {0}) Cause)
    (result : Result (Option Asked) LabCause) : Type 0 where
  pub end : Result (Unit {0}) Cause
  pub answer : result ≡ answer_of_end end
  pub written : is_styled old.options ≡ false → PrintsPart before after old.text.items part end
  pub whole : OnOk end (part ≡ Ok tt)
  pub waits : OnOk end (Keeps old.printer.transcript new.printer.transcript old.text.items)
  pub session : session_of new.interpreter ≡ session_of old.interpreter
  pub draws : new.draws ≡ old.draws
  pub outputs : new.outputs ≡ old.outputs
  pub options : new.options ≡ old.options

-- What a bench did, whatever is printed otherwise; where nothing is, known bytes of the writer grew by the text of the parts. That
-- text waits to be expected, and so do the lines of the Output reports that took effect by these parts.
pub record Does (Doing : Moment → List Part → List ℕ → Moment → Type 0) (old new : Bench) (before after : Option (List ℕ))
    : Type 0 where
  pub parts : List Part
  pub text : List ℕ
  pub done : Doing (moment_of old) parts text (moment_of new)
  pub options : new.options ≡ old.options
  pub written : IsPlain old.options → Appends before after text
  pub waits : KeepsText old new parts text

-- What an expectation does: the bus and what is drawn stay, and nothing is printed.
pub record Stays (old new : Bench) (before after : Option (List ℕ)) : Type 0 where
  pub moment : moment_of new ≡ moment_of old
  pub options : new.options ≡ old.options
  pub written : known.Keeps before after

-- what came of a line, by what it says: an expectation changes nothing but what waits; any other line does what it is defined to
abbrev pub DoesSaid : Said → Bench → Bench → Option (List ℕ) → Option (List ℕ) → Type 0
DoesSaid (lab.Expect words) old new before after = Stays old new before after
DoesSaid lab.ExpectNone old new before after = Stays old new before after
DoesSaid lab.ExpectAny old new before after = Stays old new before after
DoesSaid said old new before after = Does (LineDoes old.options.seed said) old new before after

-- A line was read, and what it says was done; this is what it asks for.
pub record DoesLine (bytes : List ℕ) (asked : Option Said) (old new : Bench) (before after : Option (List ℕ)) : Type 0 where
  pub said : Said
  pub read : lab_meaning bytes ≡ Ok said
  pub asks : asked ≡ asked_by said
  pub does : DoesSaid said old new before after
