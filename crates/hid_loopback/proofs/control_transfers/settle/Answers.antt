use Rattle.hid_report_descriptor.specs.declared.limits.Limits.TheVariants.{Real}
use Rattle.hid_loopback.proofs.BringUpLemmas.{brings_up}
use Rattle.hid_loopback.proofs.control_transfers.settle.Goals as goal

pub returns-clause-up : goal.returns-clause-up
returns-clause-up c =
    brings_up c.args.gadget.now c.make_transfers.result c.args.driver.now c.make_transfers.new.driver c.make_transfers.new.gadget
    c.layout.ensures.sound (c.one_reading.ensures Real) (c.accepted_or_refused.ensures Real) c.real_accepts_bus.ensures c.make_transfers.ensures
