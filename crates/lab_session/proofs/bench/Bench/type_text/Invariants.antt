use Rattle.std.proofs.Common.{ℕ, List, Option, length}
use Rattle.lab_session.specs.declared.bench.Bench.{Bench}
use Rattle.hid_script.specs.Streams.{AllSucceed}
use Rattle.lab_session.specs.Bench.{Does}
use Rattle.lab_session.specs.Lines.{Types}
use Rattle.lab_session.proofs.bench.Bench.type_text.Given as goal

-- who types the rest from here has typed all from the start
abbrev pub invariant-loop-character : goal.invariant-loop-character
invariant-loop-character g l =
    ((after : Bench) (w : Option (List ℕ))
    → Does (Types l.dev l.text.rest.now) l.self after (g.W.Sink.contents l.writer) w
    → Does (Types l.dev l.fn.text.rest.now) l.fn.self after (g.W.Sink.contents l.fn.writer) w)
    × AllSucceed g.W.Sink.calls l.fn.writer l.writer

abbrev pub decreases-loop-character : goal.decreases-loop-character
decreases-loop-character g l = length l.text.rest.now
