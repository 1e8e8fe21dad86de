use Rattle.std.proofs.Common.{◌≡◌, ℕ, List, None}
use Rattle.std.specs.Io.KnownBytes.{Appends}
use Rattle.hid_bus.specs.declared.step.Step.TheVariants.{Control}
use Rattle.hid_script.specs.Interpreter.{session_of}
use Rattle.hid_script.specs.Session.{Repeats, success}
use Rattle.hid_script.specs.Steps.{StepPrints}
use Rattle.hid_script.specs.Streams.{AllSucceed}
use Rattle.lab_session.specs.Bench.{Does}
use Rattle.lab_session.specs.Chances.{chance_at}
use Rattle.lab_session.specs.Lines.{Often, Tries}
use Rattle.lab_session.specs.Printed.{IsPlain}
use Rattle.lab_session.proofs.bench.Bench.tries.Given as goal

-- so many tries were made; where nothing is drawn of the device, what is written is the text of the line's tries so far
abbrev pub invariant-loop : goal.invariant-loop
invariant-loop g l =
    Does (Often l.counter (Tries l.dev l.fate)) l.fn.self l.self (g.W.Sink.contents l.fn.writer) (g.W.Sink.contents l.writer)
    × (IsPlain l.fn.self.options → chance_at l.fn.self.draws l.dev ≡ None
    → (chance_at l.self.draws l.dev ≡ None)
    × (written : List ℕ) × Appends (g.W.Sink.contents l.fn.writer) (g.W.Sink.contents l.writer) written
    × Repeats l.counter (StepPrints (Control l.dev l.fate)) (session_of l.fn.self.interpreter) (success written (session_of l.self.interpreter)))
    × AllSucceed g.W.Sink.calls l.fn.writer l.writer
