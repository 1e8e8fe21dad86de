-- Worked descriptors (USB 2.0, 9.6; HID 1.11, 6.2.1 and appendix E): each is computed by hand, and a wrong one fails the
-- check.
use Rattle.std.proofs.Common.{◌≡◌, ℕ, List, [], ◌∷◌, Some, None, Ok, Err, refl}
use Rattle.hid_interfaces.specs.declared.configuration.TheConstants.{MAX_CONFIGURATION}
use Rattle.hid_interfaces.specs.declared.interface.TheConstants.{MAX_PACKET_SIZE}
use Rattle.hid_interfaces.specs.declared.interface.InterfaceInfo.{InterfaceInfo}
use Rattle.hid_interfaces.specs.declared.fault.ConfigurationFault.TheVariants.{TooShort, WrongType, TotalLength}
use Rattle.hid_interfaces.specs.declared.fault.InterfaceFault.TheVariants.{SharedNumber, NoEndpoint, SharedEndpoint, PacketSize}
use Rattle.hid_interfaces.specs.Interfaces.{interfaces_of}
use Rattle.hid_interfaces.specs.Readable.{interface_fault}
use Rattle.hid_interfaces.specs.Configuration.{total_length, whole_length}

-- the limits, in bytes
configurations_to : MAX_CONFIGURATION ≡ 4096
configurations_to = refl

packets_to : MAX_PACKET_SIZE ≡ 1024
packets_to = refl

-- an interface, its HID descriptor and its endpoint, of number and subclass, with a report descriptor of this length
abbrev keyboard_descriptors : List (List ℕ)
keyboard_descriptors =
    (0x09 ∷ 0x04 ∷ 0x00 ∷ 0x00 ∷ 0x01 ∷ 0x03 ∷ 0x01 ∷ 0x01 ∷ 0x00 ∷ [])
    ∷ (0x09 ∷ 0x21 ∷ 0x11 ∷ 0x01 ∷ 0x00 ∷ 0x01 ∷ 0x22 ∷ 0x3F ∷ 0x00 ∷ [])
    ∷ (0x07 ∷ 0x05 ∷ 0x81 ∷ 0x03 ∷ 0x08 ∷ 0x00 ∷ 0x0A ∷ [])
    ∷ (0x09 ∷ 0x04 ∷ 0x02 ∷ 0x00 ∷ 0x01 ∷ 0x08 ∷ 0x06 ∷ 0x50 ∷ 0x00 ∷ [])
    ∷ (0x07 ∷ 0x05 ∷ 0x82 ∷ 0x03 ∷ 0x40 ∷ 0x00 ∷ 0x01 ∷ [])
    ∷ (0x09 ∷ 0x04 ∷ 0x03 ∷ 0x00 ∷ 0x01 ∷ 0x03 ∷ 0x00 ∷ 0x00 ∷ 0x00 ∷ [])
    ∷ (0x07 ∷ 0x05 ∷ 0x03 ∷ 0x03 ∷ 0x40 ∷ 0x00 ∷ 0x01 ∷ [])
    ∷ (0x07 ∷ 0x05 ∷ 0x80 ∷ 0x03 ∷ 0x40 ∷ 0x00 ∷ 0x01 ∷ [])
    ∷ (0x07 ∷ 0x05 ∷ 0x81 ∷ 0x03 ∷ 0x00 ∷ 0x0C ∷ 0x00 ∷ [])
    ∷ (0x09 ∷ 0x21 ∷ 0x11 ∷ 0x01 ∷ 0x00 ∷ 0x02 ∷ 0x23 ∷ 0x05 ∷ 0x00 ∷ 0x22 ∷ 0x02 ∷ 0x01 ∷ [])
    ∷ (0x09 ∷ 0x04 ∷ 0x03 ∷ 0x01 ∷ 0x01 ∷ 0x03 ∷ 0x00 ∷ 0x00 ∷ 0x00 ∷ [])
    ∷ []

-- the boot keyboard
abbrev keyboard : InterfaceInfo
keyboard = record {
  number = 0;
  subclass = 1;
  protocol = 1;
  report_length = Some 63;
  endpoint = Some (record { number = 1; packet_size = 8; interval = 10 });
}

-- an interface whose endpoint descriptor comes before its HID descriptor, and is of the keyboard's endpoint, with packets of
-- 1,024 bytes, two in a microframe, and interval 0
abbrev other : InterfaceInfo
other = record {
  number = 3;
  subclass = 0;
  protocol = 0;
  report_length = Some 258;
  endpoint = Some (record { number = 1; packet_size = 1024; interval = 1 });
}

-- a disk between them, an endpoint to the device, one of number 0 and another setting of the last interface are passed over
two_interfaces : interfaces_of keyboard_descriptors ≡ keyboard ∷ other ∷ []
two_interfaces = refl

keyboard_is_read : interface_fault [] keyboard ≡ None
keyboard_is_read = refl

endpoint_is_taken : interface_fault (keyboard ∷ []) other ≡ Some SharedEndpoint
endpoint_is_taken = refl

number_is_taken : interface_fault (keyboard ∷ []) (record other { number = 0 }) ≡ Some SharedNumber
number_is_taken = refl

no_endpoint : interface_fault [] (record keyboard { endpoint = None }) ≡ Some NoEndpoint
no_endpoint = refl

no_packets : interface_fault [] (record keyboard { endpoint = Some (record { number = 1; packet_size = 0; interval = 1 }) })
    ≡ Some PacketSize
no_packets = refl

-- 59 bytes are announced
announced : total_length (0x09 ∷ 0x02 ∷ 0x3B ∷ 0x00 ∷ 0x02 ∷ 0x01 ∷ 0x00 ∷ 0xA0 ∷ 0x32 ∷ []) ≡ Ok 59
announced = refl

came_short : whole_length (0x09 ∷ 0x02 ∷ 0x3B ∷ 0x00 ∷ 0x02 ∷ 0x01 ∷ 0x00 ∷ 0xA0 ∷ 0x32 ∷ []) ≡ Err TotalLength
came_short = refl

too_long : total_length (0x09 ∷ 0x02 ∷ 0x01 ∷ 0x10 ∷ 0x02 ∷ 0x01 ∷ 0x00 ∷ 0xA0 ∷ 0x32 ∷ []) ≡ Err TotalLength
too_long = refl

no_configuration : total_length (0x09 ∷ 0x04 ∷ 0x3B ∷ 0x00 ∷ 0x02 ∷ 0x01 ∷ 0x00 ∷ 0xA0 ∷ 0x32 ∷ []) ≡ Err WrongType
no_configuration = refl

eight_bytes : total_length (0x09 ∷ 0x02 ∷ 0x3B ∷ 0x00 ∷ 0x02 ∷ 0x01 ∷ 0x00 ∷ 0xA0 ∷ []) ≡ Err TooShort
eight_bytes = refl
