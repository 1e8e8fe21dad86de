use Rattle.hid_loopback.specs.ControlTransfers.{MakesTransfersBy}
use Rattle.hid_loopback.proofs.control_transfers.make_transfers.Given as goal

abbrev pub invariant-loop-count : goal.invariant-loop-count
invariant-loop-count l = MakesTransfersBy l.count l.fn.driver l.fn.gadget l.driver l.gadget
