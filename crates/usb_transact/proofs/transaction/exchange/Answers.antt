use Rattle.usb_transact.proofs.TableLemmas.{Transacts-took, Transacts-device}
use Rattle.usb_transact.proofs.transaction.exchange.Goals as goal

pub returns-clause-took : goal.returns-clause-took
returns-clause-took c =
    Transacts-took c.args.fate c.args.host.now c.args.device.now
    c.transact.result c.transact.new.host c.transact.new.device c.transact.ensures

pub returns-clause-device : goal.returns-clause-device
returns-clause-device c =
    Transacts-device c.args.fate c.args.host.now c.args.device.now
    c.transact.result c.transact.new.host c.transact.new.device c.transact.ensures
