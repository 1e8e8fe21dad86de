use Rattle.usb_control.proofs.CrossingLemmas.{crosses_transacts}
use Rattle.usb_control.proofs.TryLemmas.{goes_on}
use Rattle.usb_control.proofs.host.HostTransfer.step.Goals as goal

pub returns-clause-transacts : goal.returns-clause-transacts
returns-clause-transacts g c =
    crosses_transacts g.R.Requests.prepare_gives g.R.Requests.apply_gives g.R.Requests.answer_of c.args.fate c.args.self.now c.args.control.now c.transact.new.self c.transact.new.control c.requires c.transact.ensures.crosses

pub returns-clause-tried : goal.returns-clause-tried
returns-clause-tried g c = λ sends place stands.
    goes_on g.R.Requests.prepare_gives g.R.Requests.apply_gives g.R.Requests.answer_of sends c.args.fate place c.args.self.now c.args.control.now c.transact.new.self c.transact.new.control (rw c.transact.ensures.same.0 at c.progress.ensures.encoded) c.requires stands
    (crosses_transacts g.R.Requests.prepare_gives g.R.Requests.apply_gives g.R.Requests.answer_of c.args.fate c.args.self.now c.args.control.now c.transact.new.self c.transact.new.control c.requires c.transact.ensures.crosses)
