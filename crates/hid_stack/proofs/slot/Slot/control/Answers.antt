use Rattle.std.proofs.Common.{◌≡◌, ◌++◌, ◌∙◌, Err, List, ap, subst, map, vec_len, vec_capacity}
use Rattle.hid_snapshots.specs.declared.event.Event.{Event}
use Rattle.hid_host.specs.declared.fault.StackFault.TheVariants.{Memory}
use Rattle.hid_host.specs.Host.{running}
use Rattle.hid_stack.specs.Members.{Member, Controls, bus_event_of_step}
use Rattle.hid_stack.specs.Sums.{AbortsByRequest, IsBetween}
use Rattle.hid_stack.specs.Rig.{HasRoomToTry, with_device_number}
use Rattle.hid_stack.specs.Slot.{TriesTransfer, pair_member}
use Rattle.hid_stack.proofs.SlotLemmas.{err_nothing, never_wanting, transfers_so, uncut_err}
use Rattle.hid_stack.proofs.slot.Slot.control.Goals as goal
use Rattle.hid_stack.proofs.slot.Slot.control.Goals.{else-may_abort_round-via-then-may_abort_round+else-is_err, else-may_abort_round-via-else-may_abort_round}

pub returns-clause-tries : goal.returns-clause-tries
returns-clause-tries c =
    let tried = c.control_pair-result in
    let m = pair_member c.self.inside.device c.self.inside.host in
    let new = pair_member tried.new.device tried.new.host in
    subst (λ (x : Member). TriesTransfer c.args.fate x (running x.transfer) tried.result new) c.self.view_is
    (transfers_so c.args.fate m (running c.self.inside.host.transfer) tried.result new tried.ensures.tries)

pub returns-clause-err_events : goal.returns-clause-err_events
returns-clause-err_events c =
    let tried = c.control_pair-result in
    let m = pair_member c.self.inside.device c.self.inside.host in
    let same : c.else-may_abort_round.out.items ≡ c.args.out.now.items = elim c.else-may_abort_round.branch [
      | else-may_abort_round-via-then-may_abort_round+else-is_err w ↦ let is = w.out-is in cc
      | else-may_abort_round-via-else-may_abort_round w ↦ let is = w.out-is in cc
    ] in
    err_nothing
    (running c.self.inside.host.transfer) tried.result c.args.dev tried.new.events.items c.args.out.now.items c.deliver.new.out.items
    (uncut_err c.args.fate m (running c.self.inside.host.transfer) tried.result
    (pair_member tried.new.device tried.new.host) tried.ensures.tries) tried.ensures.none
    (c.deliver.ensures.items
    ∙ ap (λ (es : List Event). c.else-may_abort_round.out.items
    ++ map (with_device_number c.args.dev) es) c.deref.ensures.value
    ∙ ap (λ o. o ++ map (with_device_number c.args.dev) tried.new.events.items) same)

pub returns-clause-room : goal.returns-clause-room
returns-clause-room c =
    let tried = c.control_pair-result in
    let m = pair_member c.self.inside.device c.self.inside.host in
    subst (λ (x : Member). HasRoomToTry c.args.fate x (running x.transfer) (vec_len c.args.out.now) (vec_capacity c.args.out.now) → tried.result ≡ Err Memory → ⊥) c.self.view_is
    (never_wanting c.args.fate m (running c.self.inside.host.transfer) tried.result
    (pair_member tried.new.device tried.new.host) (vec_len c.args.out.now)
    (vec_capacity c.args.out.now) tried.ensures.tries)

pub returns-clause-between : goal.returns-clause-between
returns-clause-between c =
    subst (λ (m : Member). IsBetween m.link
    (bus_event_of_step m (Controls c.args.fate))) c.self.view_is c.control_pair-result.ensures.between

pub returns-clause-aborts : goal.returns-clause-aborts
returns-clause-aborts c =
    subst (λ (m : Member). AbortsByRequest c.args.fate m
    (running m.transfer)) c.self.view_is c.control_pair-result.ensures.aborts
