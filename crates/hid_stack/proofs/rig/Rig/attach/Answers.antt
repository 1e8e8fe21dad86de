use Rattle.std.proofs.Common.{◌++◌, ◌∙◌, ◌+◌, [], ◌∷◌, List, ap, rules}
use Rattle.hid_stack.specs.Members.{Member}
use Rattle.hid_stack.proofs.AttachLemmas.{is_attached}
use Rattle.hid_stack.proofs.HoldLemmas.{attached_hold}
use Rattle.hid_stack.proofs.RigLemmas.{attached_have}
use Rattle.hid_stack.proofs.rig.Rig.attach.Goals as goal

pub invariant_of-self : goal.invariant_of-self
invariant_of-self c = (
  search rules,
  search rules,
  attached_have c.self.inside.slots.items c.push_reserved.new.self.items c.in_ok-slot.slot c.args.start _ _ _ c.in_ok-slot.ensures.begins.0 c.self.invariant.2 c.in_ok-slot.ensures.begins.2 c.push_reserved.ensures.items,
  attached_hold c.self.inside.slots.items c.push_reserved.new.self.items c.in_ok-slot.slot c.args.start _ _ _ c.in_ok-slot.ensures.begins.0 c.self.invariant.3 c.in_ok-slot.ensures.begins.2 c.push_reserved.ensures.items,
)

pub returns-clause-attached : goal.returns-clause-attached
returns-clause-attached c =
    is_attached c.args.config.now c.args.descriptor.now c.args.start c.args.self.now c.push_reserved.new.self.items (c.len-2.result + 1) c.in_ok-slot.slot c.in_ok-slot.ensures.begins.0
    (search rules) c.in_ok-slot.ensures.begins.1 c.in_ok-slot.ensures.begins.2
    (c.push_reserved.ensures.items ∙ ap (λ (ms : List Member). ms ++ c.in_ok-slot.slot ∷ []) c.self.view_is)
