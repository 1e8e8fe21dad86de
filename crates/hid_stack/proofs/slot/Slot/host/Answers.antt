use Rattle.std.proofs.Common.{subst}
use Rattle.hid_stack.specs.Members.{Member}
use Rattle.hid_stack.specs.Accessors.{ShowsHost}
use Rattle.hid_stack.proofs.ShowLemmas.{shows_host}
use Rattle.hid_stack.proofs.UnreadyLemmas.{ToldOnceReady, untold}
use Rattle.hid_stack.proofs.slot.Slot.host.Goals as goal

pub returns-clause-shows : goal.returns-clause-shows
returns-clause-shows c = subst (λ (m : Member). ShowsHost m c.self.inside.host) c.self.view_is (shows_host c.self.inside.device c.self.inside.host c.self.invariant.0 c.self.invariant.1 c.self.invariant.2)

pub returns-clause-unready : goal.returns-clause-unready
returns-clause-unready c = subst ToldOnceReady c.self.view_is (untold c.self.inside.device c.self.inside.host c.self.invariant.0)
