-- The descriptors of a device: what it answers to GET_DESCRIPTOR (USB 2.0, 9.5, 9.6.1, 9.6.3, 9.6.5 and 9.6.6; HID 1.11,
-- 6.2.1 and 7.1).
use Rattle.std.specs.Prelude.{ℕ, ◌+◌, ◌^◌, ◌<◌, ◌≤◌, List, [], ◌∷◌, ◌++◌, length}
use Rattle.std.specs.Int.{w16, to_le_bytes}
use Rattle.std.specs.List.{concat}
use Rattle.usb_control.specs.declared.descriptors.DeviceInfo.{DeviceInfo}
use Rattle.usb_control.specs.declared.descriptors.ConfigInfo.{ConfigInfo}

-- a descriptor begins with its length and its type (9.5)
abbrev pub descriptor : ℕ → List ℕ → List ℕ
descriptor type fields = (2 + length fields) ∷ type ∷ fields

-- a word, its low byte first (8.1)
abbrev pub word : ℕ → List ℕ
word n = to_le_bytes w16 n

-- A device descriptor: bcdUSB 2.00; class, subclass and protocol 0, those of its interface count; bMaxPacketSize0 8;
-- idVendor and idProduct; bcdDevice 1.00; no strings; one configuration (table 9-8).
abbrev pub device_bytes : DeviceInfo → List ℕ
device_bytes info =
    descriptor 1 (word 0x0200 ++ 0 ∷ 0 ∷ 0 ∷ 8 ∷
    (word info.vendor ++ word info.product ++ word 0x0100 ++ 0 ∷ 0 ∷ 0 ∷ 1 ∷ []))

-- A configuration descriptor: wTotalLength 34; one interface; bConfigurationValue 1; no string; powered by the bus;
-- bMaxPower 100 mA, in units of 2 (table 9-10).
abbrev pub configuration_descriptor : List ℕ
configuration_descriptor = descriptor 2 (word 34 ++ 1 ∷ 1 ∷ 0 ∷ 0x80 ∷ 50 ∷ [])

-- The interface descriptor of a configuration: bInterfaceNumber and bAlternateSetting 0; one endpoint; class 3, human
-- interface devices, with this subclass and protocol; no string (table 9-12; HID 1.11, 4.1 to 4.3).
abbrev pub interface_descriptor : ℕ → ℕ → List ℕ
interface_descriptor subclass protocol = descriptor 4 (0 ∷ 0 ∷ 1 ∷ 3 ∷ subclass ∷ protocol ∷ 0 ∷ [])

-- The interface's HID descriptor: bcdHID 1.11; no country; one entry, of type 0x22, a report descriptor, with its
-- length (HID 1.11, 6.2.1 and 7.1).
abbrev pub hid_bytes : ℕ → List ℕ
hid_bytes report_length = descriptor 0x21 (word 0x0111 ++ 0 ∷ 1 ∷ 0x22 ∷ word report_length)

-- The endpoint descriptor of an interface: to the host; interrupt; wMaxPacketSize 64; bInterval in frames (table 9-13).
abbrev pub endpoint_descriptor : ℕ → ℕ → List ℕ
endpoint_descriptor endpoint interval = descriptor 5 ((0x80 + endpoint) ∷ 3 ∷ (word 64 ++ interval ∷ []))

-- the descriptors that a configuration is answered with, in the order of 9.6.3 and of HID 1.11, 7.1
abbrev pub configuration_walk : ConfigInfo → ℕ → List (List ℕ)
configuration_walk info interval =
    configuration_descriptor ∷ interface_descriptor info.subclass info.protocol
    ∷ hid_bytes info.report_length ∷ endpoint_descriptor info.endpoint interval ∷ []

-- the bytes of a configuration: its own descriptor, the interface's, HID's and the endpoint's, one after another
abbrev pub configuration_bytes : ConfigInfo → ℕ → List ℕ
configuration_bytes info interval = concat (configuration_walk info interval)

-- what a configuration says fits its fields: the length is a word, and the endpoint has four bits
pub record FitsConfig (info : ConfigInfo) : Type 0 where
  pub report_length : info.report_length < 2 ^ 16
  pub endpoint : info.endpoint ≤ 15

-- what a device descriptor says fits its fields: vendor and product are words
pub record FitsDevice (info : DeviceInfo) : Type 0 where
  pub vendor : info.vendor < 2 ^ 16
  pub product : info.product < 2 ^ 16
