use Rattle.std.specs.Prelude.{string_bytes}
use Rattle.hid_notation.specs.Text.{concat_below}
use Rattle.hid_recording.specs.LineOutput.{value_shown}
use Rattle.hid_recording.specs.Pieces.{Carries}
use Rattle.hid_recording.proofs.values.print_values.Given as goal

-- the values so far are printed
abbrev pub invariant-loop-j : goal.invariant-loop-j
invariant-loop-j g l =
    Carries (g.W.Write.contents l.fn.writer) (g.W.Write.contents l.writer) (string_bytes l.fn.text) (concat_below l.j (value_shown l.names l.layout l.bytes l.i)) (string_bytes l.text)
