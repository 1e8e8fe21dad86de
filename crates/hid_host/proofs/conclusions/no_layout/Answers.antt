use Rattle.hid_host.proofs.ReadyLemmas.{refused_unless}
use Rattle.hid_host.proofs.conclusions.no_layout.Goals as goal

pub returns-in_default-clause-explained : goal.returns-in_default-clause-explained
returns-in_default-clause-explained c = λ bytes explained. refused_unless bytes c.args.fault.cause c.args.fault.at c.in_default.not-Memory explained
