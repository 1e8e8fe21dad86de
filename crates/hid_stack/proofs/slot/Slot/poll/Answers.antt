use Rattle.std.proofs.Common.{◌≡◌, ◌++◌, ◌∙◌, Bool, List, true, map, sym, ap, subst, arith}
use Rattle.hid_layout.specs.Controls.{items_of, max_events}
use Rattle.hid_stack.specs.Members.{Member, Scheduled, events_of_event_if, member_after, poll_bus_event, polls_it}
use Rattle.hid_stack.specs.Rig.{with_device_number}
use Rattle.hid_snapshots.specs.declared.event.Event.{Event}
use Rattle.hid_bus.specs.declared.step.Delivered.{Delivered}
use Rattle.hid_stack.specs.StepResult.{PollReturns}
use Rattle.hid_bus.specs.Rounds.{Polls}
use Rattle.hid_stack.proofs.SlotLemmas.{pair_together}
use Rattle.hid_stack.proofs.slot.Slot.poll.Goals as goal

pub invariant_of-self : goal.invariant_of-self
invariant_of-self c =
    let addr = ap (λ (m : Member). m.addr) c.poll_pair-told.ensures.after in
    let room = ap (λ (m : Member). max_events (items_of m.layout)) c.poll_pair-told.ensures.after in (
      pair_together c.poll_pair-told.new.device c.poll_pair-told.new.host.clearing c.poll_pair-told.new.host.phase c.poll_pair-told.ensures.pair,
      c.poll_pair-told.ensures.knows c.self.invariant.1,
      c.poll_pair-told.ensures.home ∙ c.self.invariant.2 ∙ sym addr,
      omega (arith, room, c.poll_pair-told.ensures.capacity, c.self.invariant.3),
      omega (arith, room, c.self.invariant.4),
    )

pub returns-clause-told : goal.returns-clause-told
returns-clause-told c =
    subst (λ (m : Member). PollReturns m.layout m.link c.args.fate c.poll_pair-told.result) c.self.view_is c.poll_pair-told.ensures.told

pub returns-clause-after : goal.returns-clause-after
returns-clause-after c = c.poll_pair-told.ensures.after ∙ ap (λ (m : Member). member_after m (Scheduled (Polls c.args.fate))) c.self.view_is

pub returns-clause-events : goal.returns-clause-events
returns-clause-events c =
    let polls : polls_it c.args.self.now ≡ true = ap polls_it (sym c.self.view_is) ∙ sym c.may_poll.ensures ∙ c.if-not-may_poll.false in
    c.deliver.ensures.items
    ∙ ap (λ (out : List Delivered). out
    ++ map (with_device_number c.args.dev) c.deref.result.now) c.reserve.ensures.items
    ∙ ap (λ (events : List Event). c.args.out.now.items ++ map (with_device_number c.args.dev) events)
    (c.deref.ensures.value ∙ c.poll_pair-told.ensures.events
    ∙ ap (λ (m : Member). events_of_event_if (items_of m.layout) m.link
    (poll_bus_event true c.args.fate)) c.self.view_is
    ∙ ap (λ (b : Bool). events_of_event_if (items_of c.args.self.now.layout) c.args.self.now.link
    (poll_bus_event b c.args.fate)) (sym polls))
