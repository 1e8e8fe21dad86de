use Rattle.std.proofs.Common.{List, ℕ}
use Rattle.std.specs.Io.KnownBytes.{Appends}
use Rattle.hid_script.specs.Session.{Repeats, success}
use Rattle.hid_script.specs.LineOutput.{ShortLinePrints}
use Rattle.hid_script.specs.Interpreter.{session_of}
use Rattle.hid_script.specs.Streams.{AllSucceed}
use Rattle.hid_script.proofs.interpreter.Interpreter.repeat.Given as goal

-- what is written was told by the times so far, and no call of the writer failed
abbrev pub invariant-loop : goal.invariant-loop
invariant-loop g l =
    ((written : List ℕ) × Appends (g.W.Sink.contents l.fn.writer) (g.W.Sink.contents l.writer) written
    × Repeats l.counter (ShortLinePrints l.line) (session_of l.fn.self) (success written (session_of l.self)))
    × AllSucceed g.W.Sink.calls l.fn.writer l.writer
