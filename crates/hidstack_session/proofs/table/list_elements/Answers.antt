use Rattle.std.proofs.Common.{refl, add-one}
use Rattle.hidstack_session.proofs.table.list_elements.Goals as goal

pub loop-item-preserved : goal.loop-item-preserved
loop-item-preserved c = rw (add-one, c.in_ok-list_item.ensures, c.loop-item.invariant) refl
