use Rattle.std.proofs.Common.{vec_capacity}
use Rattle.hid_driver.proofs.InterfaceLemmas.{unread_all_fit, unread_total}
use Rattle.hid_driver.proofs.driver.Driver.list.Goals as goal

pub invariant_of-self : goal.invariant_of-self
invariant_of-self c =
    rw c.replace.ensures.after (
      unread_total c.args.interfaces.items c.requires,
      unread_all_fit (vec_capacity c.self.inside.asked) c.args.interfaces.items c.requires,
    )
