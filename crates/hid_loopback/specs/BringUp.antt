-- A driver comes up beside a gadget: by which transfers, and how both stand then (USB 2.0, 9.1.1, 9.4 and 9.6; HID 1.11,
-- 7.1 and 7.2.4; the order is our choice).
use Rattle.std.specs.Prelude.{◌≡◌, ℕ, List, [], ◌∷◌, length, Result, Ok, Err}
use Rattle.usb_control.specs.Descriptors.{device_info_of}
use Rattle.hid_requests.specs.Descriptors.{device_bytes}
use Rattle.hid_device.specs.Core.{CoreState}
use Rattle.hid_device.specs.RequestTable.{config_info, device_info}
use Rattle.hid_driver.specs.declared.fault.DriverFault.{DriverFault}
use Rattle.hid_driver.specs.declared.fault.DriverFault.TheVariants.{Memory}
use Rattle.hid_driver.specs.Driver.{DriverValue}
use Rattle.hid_driver.specs.Requests.{request}
use Rattle.hid_driver.specs.VirtualDevices.{VirtualDevice, ready_for}
use Rattle.hid_gadget.specs.ReceivedReports.{GadgetStep, Transfers, core_after_steps}

-- what a gadget says of itself; vendor and product are words, as a device descriptor has them
abbrev pub device_of : CoreState → VirtualDevice
device_of core = record {
  info = device_info_of (device_bytes (device_info core.config));
  known = config_info core.config (length core.descriptor);
  interval = core.config.interval;
  descriptor = core.descriptor;
}

-- The control transfers that bring a driver up beside a gadget whose report descriptor has so many bytes: GET_DESCRIPTOR
-- for the device, the first nine bytes of the configuration, and all 34 of it; SET_CONFIGURATION 1; SET_IDLE 0; and
-- GET_DESCRIPTOR for the report descriptor.
abbrev pub bring_up_steps : ℕ → List GadgetStep
bring_up_steps len =
    Transfers (request 0x80 6 0x0100 0 18) []
    ∷ Transfers (request 0x80 6 0x0200 0 9) []
    ∷ Transfers (request 0x80 6 0x0200 0 34) []
    ∷ Transfers (request 0x00 9 1 0 0) []
    ∷ Transfers (request 0x21 10 0 0 0) []
    ∷ Transfers (request 0x81 6 0x2200 0 len) []
    ∷ []

-- a gadget after the transfers that bring a driver up beside it: it is configured, and reports on change alone
abbrev pub core_brought_up : CoreState → CoreState
core_brought_up core = core_after_steps core (bring_up_steps (length core.descriptor))

-- A driver comes up by six transfers: it is ready, its one interface is live, with the layout of the gadget, and the
-- gadget is configured. Else memory ran out.
abbrev pub BringsUp : CoreState → Result ℕ DriverFault → DriverValue → CoreState → Type 0
BringsUp core (Ok count) driver after =
    (count ≡ 6) × (driver ≡ ready_for (device_of core) core.layout) × (after ≡ core_brought_up core)
BringsUp core (Err fault) driver after = fault ≡ Memory
