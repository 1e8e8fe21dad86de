use Rattle.std.proofs.Common.{[], List, subst, sym}
use Rattle.hid_driver.specs.declared.interface.Interface.{Interface}
use Rattle.hid_driver.specs.Interfaces.{AreUnread}
use Rattle.hid_driver.proofs.InterfaceLemmas.{listed_unread}
use Rattle.hid_driver.proofs.driver.Driver.configuration_came.Goals as goal

pub list-requires : goal.list-requires
list-requires c =
    subst (λ (xs : List Interface). AreUnread xs) (sym c.in-Ok-listed.ensures) (listed_unread [] c.deref.result.now)
