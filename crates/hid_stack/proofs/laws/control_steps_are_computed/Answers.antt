use Rattle.hid_report_descriptor.specs.declared.limits.Limits.TheVariants.{Bus}
use Rattle.hid_stack.proofs.ControlStepLemmas.{steps_computed}
use Rattle.hid_stack.proofs.LawLemmas.{short_so}
use Rattle.hid_stack.proofs.laws.control_steps_are_computed.Goals as goal

pub returns : goal.returns
returns c = λ fate host after transfer old new result sound knows is steps.
    steps_computed (c.one_reading.ensures Bus) (c.accepted_or_refused.ensures Bus) fate host after transfer old new result sound.lays
    (short_so old.requests.descriptor old.requests.layout sound.lays) knows is steps
