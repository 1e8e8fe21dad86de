use Rattle.hid_report_descriptor.specs.declared.limits.Limits.TheVariants.{Bus}
use Rattle.hid_stack.proofs.LawLemmas.{begins_know, cold_knows, leaves_know, ready_knows, replies_know, short_so, steps_know}
use Rattle.hid_stack.proofs.laws.hosts_know_their_devices.Goals as goal

pub returns-clause-cold : goal.returns-clause-cold
returns-clause-cold c = cold_knows

pub returns-clause-ready : goal.returns-clause-ready
returns-clause-ready c = ready_knows

pub returns-clause-begins : goal.returns-clause-begins
returns-clause-begins c = begins_know

pub returns-clause-steps : goal.returns-clause-steps
returns-clause-steps c = λ trail fate host after old new result sound knows steps.
    steps_know (c.one_reading.ensures Bus) (c.accepted_or_refused.ensures Bus) trail fate host after old new result sound.lays
    (short_so old.requests.descriptor old.requests.layout sound.lays) knows steps

pub returns-clause-replies : goal.returns-clause-replies
returns-clause-replies c = replies_know

pub returns-clause-meanwhile : goal.returns-clause-meanwhile
returns-clause-meanwhile c = leaves_know
