use Rattle.std.proofs.Common.{◌≡◌, ◌++◌}
use Rattle.std.specs.Prelude.{string_bytes, slice_get}
use Rattle.hid_notation.specs.Text.{concat_below}
use Rattle.hid_drawing.specs.Terminal.{field_lines}
use Rattle.hid_drawing.proofs.terminal.print_fields.Given as goal

-- the items so far
abbrev pub invariant-loop-i : goal.invariant-loop-i
invariant-loop-i l =
    string_bytes l.text
    ≡ string_bytes l.fn.text
    ++ concat_below l.i (λ i. field_lines l.layout l.r i (slice_get l.layout.items i) (slice_get l.layout.entries i))
