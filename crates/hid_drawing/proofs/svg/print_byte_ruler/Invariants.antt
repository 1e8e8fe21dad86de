use Rattle.std.proofs.Common.{◌≡◌, ◌++◌}
use Rattle.std.specs.Prelude.{string_bytes}
use Rattle.hid_notation.specs.Text.{concat_below}
use Rattle.hid_drawing.specs.Svg.{byte_number}
use Rattle.hid_drawing.proofs.svg.print_byte_ruler.Given as goal

-- the bytes so far
abbrev pub invariant-loop-b : goal.invariant-loop-b
invariant-loop-b l =
    string_bytes l.text ≡ string_bytes l.fn.text ++ concat_below l.b (byte_number l.depth l.rows)
