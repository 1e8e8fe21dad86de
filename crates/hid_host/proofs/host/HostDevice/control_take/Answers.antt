use Rattle.std.proofs.Common.{◌≡◌, ◌∙◌, Bool, true, Option, Some, Ok, ap, sym, subst}
use Rattle.std.specs.Prelude.{is_some}
use Rattle.std.specs.Option.{option_copied}
use Rattle.usb_control.specs.Host.{acknowledges}
use Rattle.hid_host.specs.declared.host.Transfer.{Transfer}
use Rattle.hid_host.specs.Host.{HostDeviceState, TakesControl, running}
use Rattle.hid_host.proofs.ControlLemmas.{takes_so, told_of, told_refusal}
use Rattle.hid_host.proofs.host.HostDevice.control_take.Goals as goal

pub returns : goal.returns
returns c =
    let was : c.self.inside.transfer ≡ Some c.in-Some.transfer = cc in
    let host : record { addr = c.self.inside.addr; phase = c.self.inside.phase; transfer = Some c.in-Some.transfer; clearing = c.self.inside.clearing } ≡ c.args.self.now
    = ap (λ (o : Option Transfer). record { addr = c.self.inside.addr; phase = c.self.inside.phase; transfer = o; clearing = c.self.inside.clearing }) (sym was) ∙ c.self.view_is in
    let busy : is_some (running (Some c.in-Some.transfer)) ≡ true =
    ap (λ (h : HostDeviceState). is_some (running h.transfer)) host ∙ sym c.if-not-is_busy.ensures in
    let last : Option Transfer = Some (record c.in-Some.transfer { ends = c.take-acknowledges.new.self }) in
    subst (λ (b : Bool). TakesControl (option_copied c.args.packet) c.args.self.now (Ok (c.in_ok-progress-in-Some.progress, c.take-acknowledges.result))
    (record {
      addr = c.self.inside.addr;
      phase = c.conclude_try.new.phase;
      transfer = last;
      clearing =
          b;
    })) (sym c.conclude_try.ensures.clearing)
    (takes_so (option_copied c.args.packet) c.self.inside.addr c.self.inside.phase c.conclude_try.new.phase c.self.inside.clearing c.args.self.now c.in-Some.transfer c.take-acknowledges.new.self c.conclude_try.result (Ok (c.in_ok-progress-in-Some.progress, c.take-acknowledges.result))
    host busy c.take-acknowledges.ensures.took c.conclude_try.ensures.concludes
    (told_of (acknowledges (option_copied c.args.packet) c.in-Some.transfer.ends) c.take-acknowledges.result c.in_ok-progress-in-Some.progress c.conclude_try.result c.in_ok-progress-in-Some.was c.take-acknowledges.ensures.acknowledged))

pub returns-in_err-progress-in-Some : goal.returns-in_err-progress-in-Some
returns-in_err-progress-in-Some c =
    let was : c.self.inside.transfer ≡ Some c.in-Some.transfer = cc in
    let host : record { addr = c.self.inside.addr; phase = c.self.inside.phase; transfer = Some c.in-Some.transfer; clearing = c.self.inside.clearing } ≡ c.args.self.now
    = ap (λ (o : Option Transfer). record { addr = c.self.inside.addr; phase = c.self.inside.phase; transfer = o; clearing = c.self.inside.clearing }) (sym was) ∙ c.self.view_is in
    let busy : is_some (running (Some c.in-Some.transfer)) ≡ true =
    ap (λ (h : HostDeviceState). is_some (running h.transfer)) host ∙ sym c.if-not-is_busy.ensures in
    let last : Option Transfer = Some (record c.in-Some.transfer { ends = c.take-acknowledges.new.self }) in
    subst (λ (b : Bool). TakesControl (option_copied c.args.packet) c.args.self.now c.from_residual.result
    (record {
      addr = c.self.inside.addr;
      phase = c.conclude_try.new.phase;
      transfer = last;
      clearing =
          b;
    })) (sym c.conclude_try.ensures.clearing)
    (takes_so (option_copied c.args.packet) c.self.inside.addr c.self.inside.phase c.conclude_try.new.phase c.self.inside.clearing c.args.self.now c.in-Some.transfer c.take-acknowledges.new.self c.conclude_try.result c.from_residual.result
    host busy c.take-acknowledges.ensures.took c.conclude_try.ensures.concludes
    (told_refusal (acknowledges (option_copied c.args.packet) c.in-Some.transfer.ends) c.in_err-progress-in-Some.field-0.0 c.conclude_try.result c.from_residual.result c.in_err-progress-in-Some.was c.from_residual.ensures.1))
