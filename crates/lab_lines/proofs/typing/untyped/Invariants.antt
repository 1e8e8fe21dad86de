use Rattle.std.proofs.Common.{◌≡◌, length}
use Rattle.lab_lines.specs.Typing.{untyped_rest}
use Rattle.lab_lines.proofs.typing.untyped.Given as goal

-- each character so far has a key
abbrev pub invariant-loop-character : goal.invariant-loop-character
invariant-loop-character l = untyped_rest l.rest ≡ untyped_rest l.text

abbrev pub decreases-loop-character : goal.decreases-loop-character
decreases-loop-character l = length l.rest
