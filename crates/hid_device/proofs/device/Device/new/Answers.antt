use Rattle.std.proofs.Common.{◌∙◌, false, ap, sym}
use Rattle.usb_control.specs.Device.{DevControlState, idle_control}
use Rattle.hid_device.specs.Core.{CoreState}
use Rattle.hid_device.specs.Device.{DeviceState}
use Rattle.hid_device.proofs.device.Device.new.Goals as goal

pub returns : goal.returns
returns c =
    let made = c.in_ok-core.ensures in (
      sym c.is_config.ensures ∙ c.if-not-is_config.false,
      (
        made.0,
        made.1,
        ap (λ (control : DevControlState CoreState). let d : DeviceState =
            record { addr = c.args.addr; control = control; awaits_ack = false } in d)
            (c.new-2.ensures ∙ ap idle_control made.2),
      ),
    )
