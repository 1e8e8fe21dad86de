use Rattle.std.proofs.Common.{◌≡◌, ◌++◌}
use Rattle.hidstack_session.specs.Tables.{elements_below}
use Rattle.hidstack_session.proofs.table.list_first.Given as goal

-- the elements so far
abbrev pub invariant-loop-j : goal.invariant-loop-j
invariant-loop-j l = l.table.items ≡ l.fn.table.items ++ elements_below l.layout l.item l.j
