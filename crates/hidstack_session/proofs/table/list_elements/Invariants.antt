use Rattle.std.proofs.Common.{◌≡◌}
use Rattle.hidstack_session.specs.Tables.{elements_of}
use Rattle.hidstack_session.proofs.table.list_elements.Given as goal

-- the elements of the items so far
abbrev pub invariant-loop-item : goal.invariant-loop-item
invariant-loop-item l = l.table.items ≡ elements_of l.layout l.item
