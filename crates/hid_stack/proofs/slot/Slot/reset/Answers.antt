use Rattle.std.proofs.Common.{◌+◌, ◌++◌, ◌∙◌, List, length, map, ap, vec_len}
use Rattle.hid_layout.specs.Controls.{items_of}
use Rattle.hid_snapshots.specs.declared.event.Event.{Event}
use Rattle.hid_bus.specs.declared.step.Delivered.{Delivered}
use Rattle.hid_stack.specs.Members.{Member, Resets, bus_event_of_step, events_of_event_if, member_after}
use Rattle.hid_stack.specs.Rig.{with_device_number}
use Rattle.hid_stack.specs.Slot.{pair_member}
use Rattle.hid_stack.proofs.SlotLemmas.{few_handed, holds_by}
use Rattle.hid_stack.proofs.slot.Slot.reset.Goals as goal

pub invariant_of-self : goal.invariant_of-self
invariant_of-self c =
    holds_by c.self.inside.device c.reset_pair.new.device c.self.inside.host c.reset_pair.new.host _ _ _ c.reset_pair.ensures.together c.reset_pair.ensures.knows c.reset_pair.ensures.home.0 c.reset_pair.ensures.home.1 c.reset_pair.ensures.layout c.reset_pair.ensures.capacity c.self.invariant

pub returns-clause-few : goal.returns-clause-few
returns-clause-few c =
    few_handed (pair_member c.self.inside.device c.self.inside.host) c.args.self.now _ _ _
    (length c.reset_pair.new.events.items) c.self.view_is c.reserve.ensures.len
    (c.deliver.ensures.len
    ∙ ap (λ (events : List Event). vec_len c.reserve.new.self + length events) c.deref.ensures.value) c.reset_pair.ensures.few

pub returns-clause-after : goal.returns-clause-after
returns-clause-after c = c.reset_pair.ensures.after ∙ ap (λ (m : Member). member_after m Resets) c.self.view_is

pub returns-clause-events : goal.returns-clause-events
returns-clause-events c =
    c.deliver.ensures.items
    ∙ ap (λ (out : List Delivered). out
    ++ map (with_device_number c.args.dev) c.deref.result.now) c.reserve.ensures.items
    ∙ ap (λ (events : List Event). c.args.out.now.items ++ map (with_device_number c.args.dev) events)
    (c.deref.ensures.value ∙ c.reset_pair.ensures.events
    ∙ ap (λ (m : Member). events_of_event_if (items_of m.layout) m.link (bus_event_of_step m Resets)) c.self.view_is)
