use Rattle.hid_stack.proofs.NamedLemmas.{named}
use Rattle.hid_stack.proofs.rig.Rig.host.Goals as goal

pub returns-clause-shows : goal.returns-clause-shows
returns-clause-shows c = (
  c.index.result.now,
  (named c.self.inside.slots.items c.args.self.now c.args.dev c.in_ok-i.i c.index.result.now c.self.view_is c.in_ok-i.ensures.place.0 c.in_ok-i.ensures.place.1 c.index.ensures).here,
  c.host.ensures.shows,
)
