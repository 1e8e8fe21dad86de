use Rattle.std.proofs.Common.{◌≡◌, ◌+◌, ◌≤◌, length}
use Rattle.lab_lines.specs.Typing.{quote_at}
use Rattle.lab_lines.proofs.typing.quote_at.Given as goal

-- no character so far is a bare quote
abbrev pub invariant-loop-more : goal.invariant-loop-more
invariant-loop-more l = (quote_at l.text + length l.rest ≡ length l.text + quote_at l.rest) × (length l.rest ≤ length l.text)

abbrev pub decreases-loop-more : goal.decreases-loop-more
decreases-loop-more l = length l.rest
