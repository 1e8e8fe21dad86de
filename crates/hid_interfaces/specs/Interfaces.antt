-- The HID interfaces of a configuration, by its descriptors (USB 2.0, 9.6.5 and 9.6.6; HID 1.11, 4.1, 6.2.1 and 7.1).
use Rattle.std.specs.Prelude.{ℕ, ◌%◌, max, Bool, false, not, ◌==◌, ◌&&◌, if◌then◌else◌, List, [], ◌∷◌, slice_index, find, Some, None, option_and_then, option_map}
use Rattle.std.specs.List.{list_any}
use Rattle.usb_control.specs.Descriptors.{is_hid, is_hid_interface, is_interface, is_interrupt_in, report_length}
use Rattle.usb_control.specs.SetupBytes.{word_at}
use Rattle.hid_interfaces.specs.declared.descriptors.Wanted.{Wanted}
use Rattle.hid_interfaces.specs.declared.descriptors.Wanted.TheVariants.{Hid, InterruptIn}
use Rattle.hid_interfaces.specs.declared.interface.EndpointInfo.{EndpointInfo}
use Rattle.hid_interfaces.specs.declared.interface.InterfaceInfo.{InterfaceInfo}

-- a whole interface of the class of human interface devices, in its first setting: bAlternateSetting is 0 (table 9-12)
abbrev pub is_listed : List ℕ → Bool
is_listed descriptor = is_hid_interface descriptor && (slice_index descriptor 3 == 0)

-- the descriptors of an interface are those after it, up to the next interface (9.6.5)
abbrev pub own_descriptors : List (List ℕ) → List (List ℕ)
own_descriptors [] = []
own_descriptors (descriptor ∷ rest) =
    if is_interface descriptor then [] else descriptor ∷ own_descriptors rest

-- an interrupt endpoint to the host of a number other than 0, which is the control endpoint's (table 9-13)
abbrev pub is_report_endpoint : List ℕ → Bool
is_report_endpoint descriptor = is_interrupt_in descriptor && not (slice_index descriptor 2 % 16 == 0)

-- whether a descriptor is one that is looked for among those of an interface
abbrev pub is_wanted : Wanted → List ℕ → Bool
is_wanted Hid descriptor = is_hid descriptor
is_wanted InterruptIn descriptor = is_report_endpoint descriptor

-- What an endpoint descriptor says: the number is in bits 0 to 3 of the address, the size of a full packet in bits 0 to
-- 10 of wMaxPacketSize; an interval of 0 is read as 1, our choice (table 9-13). Example: 07 05 81 03 08 00 0A is endpoint
-- 1, with packets of 8 bytes and interval 10
abbrev pub endpoint_of : List ℕ → EndpointInfo
endpoint_of descriptor = record {
  number = slice_index descriptor 2 % 16;
  packet_size = word_at descriptor 4 % 2048;
  interval = max (slice_index descriptor 6) 1;
}

-- What is read of an interface and its own descriptors: its number, subclass and protocol; the length in the first entry
-- of type 22 of its first HID descriptor; and its first interrupt-IN endpoint.
abbrev pub interface_of : List ℕ → List (List ℕ) → InterfaceInfo
interface_of interface own = record {
  number = slice_index interface 2;
  subclass = slice_index interface 6;
  protocol = slice_index interface 7;
  report_length = option_and_then report_length (find is_hid own);
  endpoint = option_map endpoint_of (find is_report_endpoint own);
}

-- The HID interfaces of a configuration, in order, each with its own descriptors.
abbrev pub interfaces_of : List (List ℕ) → List InterfaceInfo
interfaces_of [] = []
interfaces_of (descriptor ∷ rest) =
    if is_listed descriptor then interface_of descriptor (own_descriptors rest) ∷ interfaces_of rest
    else interfaces_of rest

-- an interface has the endpoint of this number
abbrev pub has_endpoint : ℕ → InterfaceInfo → Bool
has_endpoint number info = elim info.endpoint [ None ↦ false | Some endpoint ↦ endpoint.number == number ]

-- one of these interfaces has the endpoint of this number
abbrev pub is_shared : List InterfaceInfo → ℕ → Bool
is_shared earlier number = list_any (has_endpoint number) earlier

-- one of these interfaces has this number
abbrev pub is_taken : List InterfaceInfo → ℕ → Bool
is_taken earlier number = list_any (λ info. info.number == number) earlier
