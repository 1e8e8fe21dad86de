use Rattle.std.proofs.Common.{◌≡◌, ◌+◌, ◌≤◌, ◌++◌, List, ℕ, length}
use Rattle.std.specs.List.{All}
use Rattle.std.specs.Str.Lines.{lines}
use Rattle.hid_script.specs.Streams.{AllSucceed}
use Rattle.lab_session.specs.Bench.{moment_of}
use Rattle.lab_session.specs.Carrying.{CarriedUpTo}
use Rattle.lab_session.specs.Printed.{IsPlain}
use Rattle.lab_session.specs.Scripts.{GoesOn, IsScripts, IsUndrawn}
use Rattle.lab_session.proofs.runs.run_lines.Given as goal

-- the lines so far were carried out, whatever comes behind the text
abbrev pub invariant-loop-last : goal.invariant-loop-last
invariant-loop-last g l =
    (l.count + length l.rest ≤ l.fn.before + length l.fn.text)
    × ((front : List ℕ) × (l.fn.text ≡ front ++ l.rest))
    × (IsPlain l.fn.bench.options → IsUndrawn (moment_of l.fn.bench) → (more : List ℕ) → All IsScripts (lines (l.fn.text ++ more))
    → GoesOn l.fn.bench (g.W.Sink.contents l.fn.writer) (l.fn.text ++ more) l.fn.before l.bench (g.W.Sink.contents l.writer) (l.rest ++ more) l.count)
    × ((more : List ℕ) → CarriedUpTo (lines (l.fn.text ++ more)) l.fn.before (lines (l.rest ++ more)) l.count l.fn.bench l.bench (g.W.Sink.contents l.fn.writer) (g.W.Sink.contents l.writer))
    × AllSucceed g.W.Sink.calls l.fn.writer l.writer

abbrev pub decreases-loop-last : goal.decreases-loop-last
decreases-loop-last g l = length l.rest
