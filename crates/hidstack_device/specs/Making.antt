-- A device that is made of a record (our choice; USB 2.0, 9.6; HID 1.11, 4.2 and 4.3).
use Rattle.std.specs.Prelude.{◌≡◌, ℕ, ◌==◌, if◌then◌else◌, List, Option, Some, None, Result, Err, option_map}
use Rattle.hid_requests.specs.declared.boot.Boot.{Boot}
use Rattle.hid_requests.specs.declared.boot.Boot.TheVariants as boot
use Rattle.hid_requests.specs.declared.fault.DeviceFault.{DeviceFault}
use Rattle.hid_requests.specs.declared.fault.DeviceCause.TheVariants.{BadConfig}
use Rattle.hid_device.specs.declared.config.Config.{Config}
use Rattle.hid_device.specs.Core.{CoreState}
use Rattle.hid_gadget.specs.Gadgets.{MakesGadget}
use Rattle.hidstack_device.specs.declared.config.HidConfig.{HidConfig}

-- the boot device of a bInterfaceProtocol: 1 of a keyboard, 2 of a mouse, and 0 of other devices (HID 1.11, 4.3)
abbrev pub boot_of : ℕ → Option Boot
boot_of protocol =
    if protocol == 0 then Some boot.No
    else if protocol == 1 then Some boot.Keyboard
    else if protocol == 2 then Some boot.Mouse
    else None

-- a record's configuration, with this boot device
abbrev pub config_with : HidConfig → Boot → Config
config_with c b = record { vendor = c.vendor; product = c.product; interval = c.interval; boot = b }

-- the configuration of a record, if some boot device has its protocol, and its spare field is 0
abbrev pub config_of : HidConfig → Option Config
config_of c = if c.spare == 0 then option_map (config_with c) (boot_of c.boot) else None

-- a device of a configuration that may be there is made, or refused: for V20 where there is no configuration
abbrev pub MakesOf : Option Config → List ℕ → Result CoreState DeviceFault → Type 0
MakesOf (Some config) descriptor made = MakesGadget config descriptor made
MakesOf None descriptor made = made ≡ Err (record { cause = BadConfig; at = 0 })

-- A device of a record and a report descriptor is made, or refused for the first cause; for V20 where no boot device has the
-- record's protocol, or its spare field isn't 0. Example: protocol 3 is V20
abbrev pub MakesDevice : HidConfig → List ℕ → Result CoreState DeviceFault → Type 0
MakesDevice c descriptor made = MakesOf (config_of c) descriptor made
