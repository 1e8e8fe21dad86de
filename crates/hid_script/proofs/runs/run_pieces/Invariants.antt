use Rattle.std.proofs.Common.{◌≤◌, ◌*◌, List, ℕ}
use Rattle.std.specs.Io.KnownBytes.{Appends, Consumes}
use Rattle.hid_script.specs.Place.{Advances}
use Rattle.hid_script.specs.Script.{place_of}
use Rattle.hid_script.specs.Streams.{Turns}
use Rattle.hid_script.proofs.runs.run_pieces.Given as goal

-- as many turns as were counted took what was read, and what is written was told of it
abbrev pub invariant-loop : goal.invariant-loop
invariant-loop g l =
    ((read : List ℕ) × (written : List ℕ)
    × Consumes (g.R.Source.remaining l.fn.reader) (g.R.Source.remaining l.reader) read
    × Appends (g.W.Sink.contents l.fn.writer) (g.W.Sink.contents l.writer) written
    × Advances (place_of l.fn.script) read written (place_of l.script)
    × Turns g.R.Source.reads g.W.Sink.calls l.fn.reader l.fn.writer l.counter read l.reader l.writer)
    × (l.script.lines ≤ 4096 * l.counter)
