use Rattle.std.proofs.Common.{ap, subst, ◌∙◌}
use Rattle.std.specs.Prelude.{List, ℕ, Option}
use Rattle.usb_transact.specs.Device.{answer_with}
use Rattle.hid_device.specs.Core.{CoreState, IsSound, poll_response}
use Rattle.hid_device.proofs.device_core.Core.poll_response.Goals as goal

pub returns-clause-answer : goal.returns-clause-answer
returns-clause-answer c =
    c.answer_ref.ensures.answer
    ∙ ap (λ (armed : Option (List ℕ)). answer_with c.self.inside.pipe.halted c.self.inside.pipe.toggle armed) c.self.invariant.armed
    ∙ ap (λ (core : CoreState). poll_response core) c.self.view_is

pub returns-clause-sound : goal.returns-clause-sound
returns-clause-sound c = subst IsSound c.self.view_is c.self.invariant.sound
