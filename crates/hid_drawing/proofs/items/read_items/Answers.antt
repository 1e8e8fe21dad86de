use Rattle.std.proofs.Common.{subst, Some}
use Rattle.hid_items.specs.Reading.{GivesNext}
use Rattle.hid_drawing.proofs.ItemLemmas.{read_more}
use Rattle.hid_drawing.proofs.items.read_items.Goals as goal

pub loop-item-preserved : goal.loop-item-preserved
loop-item-preserved c =
    let steps = subst (λ r. GivesNext c.loop-item.item-iterator (Some r) c.next.new.self) c.in-Ok.is c.in-Some.ensures.steps in
    rw c.in_ok-push-in-Ok.ensures.items (read_more _ _ _ _ _ c.loop-item.invariant steps)
