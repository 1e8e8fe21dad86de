use Rattle.std.proofs.Common.{append_assoc, add-one}
use Rattle.hidstack_session.proofs.table.list_first.Goals as goal

pub loop-j-preserved : goal.loop-j-preserved
loop-j-preserved c = rw (add-one, c.in_ok-list_element.ensures, c.loop-j.invariant) (simp append_assoc)
