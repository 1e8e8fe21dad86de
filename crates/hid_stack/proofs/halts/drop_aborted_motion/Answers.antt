use Rattle.std.proofs.Common.{◌++◌, ◌∙◌, List, ap}
use Rattle.hid_snapshots.specs.declared.event.Event.{Event}
use Rattle.hid_device.specs.Core.{piece_at, round_of}
use Rattle.hid_device.specs.Device.{core_of}
use Rattle.hid_host.specs.ResetEvents.{host_abort_events}
use Rattle.hid_stack.proofs.HaltLemmas.{told_at_cut}
use Rattle.hid_stack.proofs.halts.drop_aborted_motion.Goals as goal

pub returns-clause-events : goal.returns-clause-events
returns-clause-events c =
    let phase = c.args.host.now.phase in
    c.drop_aborted_motion.ensures.events
    ∙ ap (λ (es : List Event). es
    ++ host_abort_events phase c.open_round.result c.piece.result c.fixed.result.now) c.clear.ensures.items
    ∙ ap (λ o. host_abort_events phase o c.piece.result c.fixed.result.now) c.open_round.ensures
    ∙ ap (λ o. host_abort_events phase (round_of (core_of c.args.device.now)) o c.fixed.result.now) c.piece.ensures
    ∙ ap (host_abort_events phase (round_of (core_of c.args.device.now))
    (piece_at (core_of c.args.device.now))) c.fixed.ensures
    ∙ told_at_cut c.args.device.now c.args.host.now.clearing phase c.requires.together
