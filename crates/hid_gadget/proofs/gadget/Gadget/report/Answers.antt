use Rattle.std.proofs.Common.{subst}
use Rattle.hid_device.specs.Core.{CoreState, IsSound, core_at_poll}
use Rattle.hid_device.specs.Device.{DeviceState, core_of}
use Rattle.hid_gadget.proofs.gadget.Gadget.report.Goals as goal

pub returns-in-Some-clause-sound : goal.returns-in-Some-clause-sound
returns-in-Some-clause-sound c = λ configured.
    subst (λ (core : CoreState). IsSound (core_at_poll core)) c.self.view_is
    (subst (λ (d : DeviceState). IsSound (core_of d)) c.receive_poll.ensures.device c.take_pieces.ensures.sound)

pub returns-in-None-clause-sound : goal.returns-in-None-clause-sound
returns-in-None-clause-sound c = λ configured.
    subst (λ (core : CoreState). IsSound (core_at_poll core)) c.self.view_is
    (subst (λ (d : DeviceState). IsSound (core_of d)) c.receive_poll.ensures.device c.without_round.ensures.sound)
