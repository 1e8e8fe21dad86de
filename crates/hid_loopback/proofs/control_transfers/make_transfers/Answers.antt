use Rattle.std.proofs.Common.{◌∙◌, ap, not, subst, Option, Result}
use Rattle.hid_driver.specs.declared.fault.DriverFault.{DriverFault}
use Rattle.hid_driver.specs.declared.state.Moved.{Moved}
use Rattle.hid_loopback.specs.ControlTransfers.{MakesTransfer}
use Rattle.hid_loopback.proofs.ControlLemmas.{one_more}
use Rattle.hid_loopback.proofs.control_transfers.make_transfers.Goals as goal

pub loop-count-preserved : goal.loop-count-preserved
loop-count-preserved c =
    one_more c.loop-count.count c.args.driver.now c.loop-count.driver c.transfer.new.driver c.args.gadget.now c.loop-count.gadget c.transfer.new.gadget
    c.in_ok-moved.moved c.loop-count.invariant
    (subst (λ (r : Result (Option Moved) DriverFault). MakesTransfer c.loop-count.driver c.loop-count.gadget r c.transfer.new.driver c.transfer.new.gadget)
    c.in_ok-moved.was c.transfer.ensures)
    (c.is_none.ensures ∙ ap not c.if-is_none.false)
