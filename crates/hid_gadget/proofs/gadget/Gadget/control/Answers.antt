use Rattle.std.proofs.Common.{◌≡◌, ◌∙◌, rules, ap, subst, sym}
use Rattle.usb_control.specs.SetupBytes.{IsEncoded, setup_of}
use Rattle.hid_device.specs.RequestTable.{core_table}
use Rattle.hid_gadget.specs.WholeTransfers.{IsOfTries, after_transfer}
use Rattle.hid_gadget.proofs.TransferLemmas.{of_tries}
use Rattle.hid_gadget.proofs.gadget.Gadget.control.Goals as goal

pub returns-clause-tries : goal.returns-clause-tries
returns-clause-tries c = λ stage last_packet.
    let encoded : IsEncoded c.args.setup.now = ap setup_of (sym c.to_bytes.ensures.value) ∙ c.to_bytes.ensures.back in
    let is : c.transfer.new.requests ≡ after_transfer core_table c.args.self.now c.args.setup.now c.args.sends.now = search rules in
    subst (IsOfTries core_table c.args.self.now stage last_packet c.args.setup.now c.args.sends.now) (sym is)
    (of_tries core_table c.args.self.now stage last_packet c.args.setup.now c.args.sends.now encoded c.requires.whole)
