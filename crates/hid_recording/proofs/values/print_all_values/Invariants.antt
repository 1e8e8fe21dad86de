use Rattle.std.specs.Prelude.{string_bytes}
use Rattle.hid_notation.specs.Text.{concat_below}
use Rattle.hid_recording.specs.LineOutput.{values_shown_at}
use Rattle.hid_recording.specs.Pieces.{Carries}
use Rattle.hid_recording.proofs.values.print_all_values.Given as goal

-- the values so far are printed
abbrev pub invariant-loop-i : goal.invariant-loop-i
invariant-loop-i g l =
    Carries (g.W.Write.contents l.fn.writer) (g.W.Write.contents l.writer) (string_bytes l.fn.text) (concat_below l.i (values_shown_at l.names l.layout l.r l.bytes)) (string_bytes l.text)
