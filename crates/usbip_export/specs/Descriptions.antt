-- How exported devices are described and named (USB/IP, as Linux speaks it; USB 2.0, 9.6.1).
use Rattle.std.specs.Prelude.{ℕ, suc, ◌+◌, ◌-◌, ◌*◌, ◌==◌, ◌&&◌, nat_le, Bool, if◌then◌else◌, List, [], ◌∷◌, ◌++◌, length, slice_index, replicate, codes, Option, Some, None}
use Rattle.std.specs.Int.{w32, to_be_bytes}
use Rattle.hid_requests.specs.declared.boot.Boot.{Boot}
use Rattle.hid_requests.specs.Boot.{protocol_of, subclass_of}
use Rattle.usbip.specs.declared.operation.DeviceDescription.{DeviceDescription}
use Rattle.usbip.specs.declared.operation.Operation.TheVariants.{DeviceList, Import}
use Rattle.usbip.specs.declared.operation.OperationStatus.{OperationStatus}
use Rattle.usbip.specs.declared.operation.OperationStatus.TheVariants.{Success}
use Rattle.usbip.specs.declared.operation.Speed.TheVariants.{Full}
use Rattle.usbip.specs.Operations.{description_bytes, head_bytes, operation_status_word, reply_code}
use Rattle.usbip_export.specs.declared.description.TheConstants.{BUS}
use Rattle.usbip_export.specs.declared.exported_device.ExportedDevice.{ExportedDevice}

-- the bus ID of the device at a place: 1-1 is the first one
abbrev pub bus_id_text : ℕ → List ℕ
bus_id_text place = 0x31 ∷ 0x2D ∷ (0x31 + place) ∷ []

-- text, then zeros up to a length
abbrev pub text_field : ℕ → List ℕ → List ℕ
text_field size text = text ++ replicate (size - length text) 0

-- bytes that begin with a bus ID and a zero
abbrev pub is_bus_id : List ℕ → Bool
is_bus_id id =
    ((slice_index id 0 == 0x31) && (slice_index id 1 == 0x2D))
    && ((nat_le 0x31 (slice_index id 2) && nat_le (slice_index id 2) 0x37) && (slice_index id 3 == 0))

-- The place that a bus ID names, if it names one. What stands after its zero isn't looked at. Example: 31 2D 32 00, which is
-- 1-2, names place 1
abbrev pub named_place : List ℕ → Option ℕ
named_place id = if is_bus_id id then Some (slice_index id 2 - 0x31) else None

-- the number of the device at a place on its bus: 2 is the first one, since 1 is the root hub of the bus
abbrev pub number_on_bus : ℕ → ℕ
number_on_bus place = place + 2

-- the number by which commands name the device at a place: that of its bus times 65,536, and its own
abbrev pub device_number : ℕ → ℕ
device_number place = BUS * 65536 + number_on_bus place

-- How the device at a place is described: at full speed, with one configuration of one interface, whose value is 1 where it is
-- set.
abbrev pub description : ℕ → ExportedDevice → DeviceDescription
description place d = record {
  path = text_field 256 (codes "/virtual/" ++ bus_id_text place);
  bus_id = text_field 32 (bus_id_text place);
  bus = BUS;
  number = number_on_bus place;
  speed = Full;
  vendor = d.config.vendor;
  product = d.config.product;
  release = 0x0100;
  class = 0;
  subclass = 0;
  protocol = 0;
  configuration = if d.gadget.is_configured then 1 else 0;
  configurations = 1;
  interfaces = 1;
}

-- The interface of a device in a list: class 03, the subclass and the protocol that its boot protocol has, and a byte of
-- padding.
abbrev pub interface_bytes : Boot → List ℕ
interface_bytes boot = 3 ∷ subclass_of boot ∷ protocol_of boot ∷ 0 ∷ []

-- a device in a list
abbrev pub listed_bytes : ℕ → ExportedDevice → List ℕ
listed_bytes place d = description_bytes (description place d) ++ interface_bytes d.config.boot

-- the devices of a list, the first of them at this place
abbrev pub devices_bytes : ℕ → List ExportedDevice → List ℕ
devices_bytes place [] = []
devices_bytes place (d ∷ ds) = listed_bytes place d ++ devices_bytes (suc place) ds

-- The reply to a request for the list of devices: how many there are, and each of them.
abbrev pub list_bytes : List ExportedDevice → List ℕ
list_bytes ds =
    (head_bytes (reply_code DeviceList) (operation_status_word Success) ++ to_be_bytes w32 (length ds)) ++ devices_bytes 0 ds

-- the reply to a request for a device that the host gets
abbrev pub import_bytes : ℕ → ExportedDevice → List ℕ
import_bytes place d =
    head_bytes (reply_code Import) (operation_status_word Success) ++ description_bytes (description place d)

-- the reply to a request for a device that the host doesn't get
abbrev pub refused_import_bytes : OperationStatus → List ℕ
refused_import_bytes status = head_bytes (reply_code Import) (operation_status_word status)
