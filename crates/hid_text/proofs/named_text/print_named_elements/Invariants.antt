use Rattle.std.proofs.Common.{◌≡◌, ◌++◌}
use Rattle.std.specs.Prelude.{string_bytes}
use Rattle.hid_notation.specs.Text.{concat_below}
use Rattle.hid_text.specs.NamedText.{named_value_at}
use Rattle.hid_text.proofs.named_text.print_named_elements.Given as goal

-- the elements so far
abbrev pub invariant-loop-j : goal.invariant-loop-j
invariant-loop-j l = string_bytes l.text ≡ string_bytes l.fn.text ++ concat_below l.j (named_value_at l.layout l.bytes l.i)
