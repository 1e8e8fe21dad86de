use Rattle.std.proofs.Common.{◌≡◌, ◌+◌, filter, length}
use Rattle.hidstack_session.specs.Tables.{elements_below}
use Rattle.hidstack_host.specs.Finding.{is_sought}
use Rattle.hidstack_host.proofs.find.nth_of_first.Given as goal

-- those at the places so far are counted
abbrev pub invariant-loop-index : goal.invariant-loop-index
invariant-loop-index l = length (filter (is_sought l.fn.kind l.fn.usage) (elements_below l.fn.layout l.fn.item l.index)) + l.left ≡ l.fn.nth
