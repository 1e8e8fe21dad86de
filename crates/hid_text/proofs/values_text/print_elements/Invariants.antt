use Rattle.std.proofs.Common.{◌≡◌, ◌++◌}
use Rattle.std.specs.Prelude.{string_bytes}
use Rattle.hid_notation.specs.Text.{concat_below}
use Rattle.hid_text.specs.ValuesText.{value_at}
use Rattle.hid_text.proofs.values_text.print_elements.Given as goal

-- the elements so far
abbrev pub invariant-loop-j : goal.invariant-loop-j
invariant-loop-j l = string_bytes l.text ≡ string_bytes l.fn.text ++ concat_below l.j (value_at l.layout l.bytes l.i)
