use Rattle.std.proofs.Common.{◌≡◌, Some, rules}
use Rattle.hid_stack.specs.Rig.{member_at}
use Rattle.hid_stack.proofs.NamedLemmas.{named}
use Rattle.hid_stack.proofs.rig.Rig.transfer.Goals as goal

pub returns : goal.returns
returns c =
    let here : member_at c.args.self.now c.args.dev ≡ Some c.index.result.now
    = (named c.self.inside.slots.items c.args.self.now c.args.dev c.in_ok-i.i c.index.result.now c.self.view_is c.in_ok-i.ensures.place.0 c.in_ok-i.ensures.place.1 c.index.ensures).here in
    search rules
