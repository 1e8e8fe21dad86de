use Rattle.std.proofs.Common.{arith}
use Rattle.std.proofs.lemmas.Option.{slice_get_within}
use Rattle.hid_usages.proofs.RoomLemmas.{within_next}
use Rattle.hid_usages.proofs.view.most_places.Goals as goal

pub loop-i-init : goal.loop-i-init
loop-i-init c = λ i state low h. absurd (omega arith)

pub loop-i-preserved : goal.loop-i-preserved
loop-i-preserved c = within_next c.args.states.now c.loop-i.i c.loop-i.most c.more_places-most.result c.state_at.result.now c.loop-i.invariant c.state_at.ensures c.more_places-most.ensures.most c.more_places-most.ensures.places

pub returns : goal.returns
returns c = λ i state h. c.loop-i.invariant i state (omega (arith, slice_get_within c.args.states.now i state h)) h
