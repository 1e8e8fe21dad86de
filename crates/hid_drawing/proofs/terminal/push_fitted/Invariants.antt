use Rattle.std.proofs.Common.{◌≡◌, ◌++◌, [], ◌∷◌}
use Rattle.std.specs.Prelude.{string_bytes}
use Rattle.hid_notation.specs.Text.{concat_below}
use Rattle.hid_drawing.specs.Escape.{printable_byte}
use Rattle.hid_drawing.specs.Lines.{byte_at}
use Rattle.hid_drawing.proofs.terminal.push_fitted.Given as goal

-- the columns so far
abbrev pub invariant-loop-k : goal.invariant-loop-k
invariant-loop-k l =
    string_bytes l.text ≡ string_bytes l.fn.text ++ concat_below l.k (λ k. printable_byte (byte_at l.words k) ∷ [])
