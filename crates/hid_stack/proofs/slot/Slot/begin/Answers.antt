use Rattle.std.proofs.Common.{◌≡◌, rules, subst}
use Rattle.std.specs.Prelude.{OnOk}
use Rattle.hid_stack.specs.Members.{Begins, Member, member_after}
use Rattle.hid_stack.specs.Slot.{pair_member}
use Rattle.hid_stack.proofs.LawLemmas.{begins_know}
use Rattle.hid_stack.proofs.TrailLemmas.{some_begun}
use Rattle.hid_stack.proofs.BeginLemmas.{begun_so}
use Rattle.hid_stack.proofs.slot.Slot.begin.Goals as goal

pub returns-clause-after : goal.returns-clause-after
returns-clause-after c =
    subst (λ (m : Member). OnOk c.begin.result
    (pair_member c.self.inside.device c.begin.new.self
    ≡ member_after m (Begins c.args.request.now))) c.self.view_is
    (begun_so c.begin.result c.self.inside.device c.self.inside.host c.begin.new.self c.args.request.now (some_begun begins_know) c.self.invariant.0 c.self.invariant.1 c.self.invariant.2
    c.begin.ensures.begun c.begin.ensures.fits)

pub invariant_of-self : goal.invariant_of-self
invariant_of-self c = search (rules, some_begun begins_know)
