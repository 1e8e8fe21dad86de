-- The descriptors that a host reads (USB 2.0, 9.5, 9.6.1, 9.6.3, 9.6.5 and 9.6.6; HID 1.11, 6.2.1).
use Rattle.std.specs.Prelude.{◌≡◌, ℕ, ◌+◌, ◌*◌, ◌%◌, ◌≤◌, Bool, nat_le, ◌==◌, ◌&&◌, if◌then◌else◌, List, [], ◌∷◌, length, drop, slice_index, find, Option, Some, None, option_and_then, Result, Ok, Err}
use Rattle.std.specs.List.{concat, before_first, after_first}
use Rattle.usb_control.specs.declared.descriptors.DeviceInfo.{DeviceInfo}
use Rattle.usb_control.specs.declared.descriptors.ConfigInfo.{ConfigInfo}
use Rattle.usb_control.specs.declared.fault.InfoFault.{InfoFault}
use Rattle.usb_control.specs.declared.fault.InfoFault.TheVariants.{TooShort, WrongType, NoHidInterface, NoReportDescriptor, NoEndpoint}
use Rattle.usb_control.specs.SetupBytes.{word_at}

-- a device descriptor has type 1 (table 9-5)
abbrev pub IsDevice : List ℕ → Type 0
IsDevice bytes = slice_index bytes 1 ≡ 1

-- what a host reads of a device descriptor: idVendor and idProduct (table 9-8)
abbrev pub device_info_of : List ℕ → DeviceInfo
device_info_of bytes = record { vendor = word_at bytes 8; product = word_at bytes 10 }

-- a descriptor begins with its length, of two bytes at least (9.5)
abbrev pub IsDescriptor : List ℕ → Type 0
IsDescriptor [] = ⊥
IsDescriptor (first ∷ body) = (2 ≤ first) × (length (first ∷ body) ≡ first)

-- each list of bytes is a descriptor
abbrev pub AreDescriptors : List (List ℕ) → Type 0
AreDescriptors [] = Unit {0}
AreDescriptors (descriptor ∷ rest) = IsDescriptor descriptor × AreDescriptors rest

-- The bytes are these descriptors, one after another. Example: 02 04 03 05 06 are two descriptors
pub record IsWalk (bytes : List ℕ) (descriptors : List (List ℕ)) : Type 0 where
  pub each : AreDescriptors descriptors
  pub whole : concat descriptors ≡ bytes

-- The bytes are some descriptors, one after another.
abbrev pub HasWalk : List ℕ → Type 0
HasWalk bytes = (descriptors : List (List ℕ)) × IsWalk bytes descriptors

-- the type of a descriptor is its second byte (9.5)
abbrev pub descriptor_type : List ℕ → ℕ
descriptor_type descriptor = slice_index descriptor 1

-- an interface (table 9-5)
abbrev pub is_interface : List ℕ → Bool
is_interface descriptor = descriptor_type descriptor == 4

-- a whole interface of the class of human interface devices (table 9-12; HID 1.11, 4.1)
abbrev pub is_hid_interface : List ℕ → Bool
is_hid_interface descriptor =
    (nat_le 9 (length descriptor) && is_interface descriptor) && (slice_index descriptor 5 == 3)

-- a HID descriptor, with one entry at least (HID 1.11, 6.2.1 and 7.1)
abbrev pub is_hid : List ℕ → Bool
is_hid descriptor = nat_le 9 (length descriptor) && (descriptor_type descriptor == 0x21)

-- a whole endpoint descriptor: bit 7 of the address is the direction, and 3 in the low two bits of the attributes is
-- interrupt (table 9-13)
abbrev pub is_interrupt_in : List ℕ → Bool
is_interrupt_in descriptor =
    (nat_le 7 (length descriptor) && (descriptor_type descriptor == 5))
    && (nat_le 128 (slice_index descriptor 2) && (slice_index descriptor 3 % 4 == 3))

-- entries of three bytes, a type and a word: the word of the first report descriptor (HID 1.11, 6.2.1 and 7.1)
abbrev pub report_entry : List ℕ → Option ℕ
report_entry (kind ∷ low ∷ high ∷ rest) =
    if kind == 0x22 then Some (low + 256 * high) else report_entry rest
report_entry _ = None

-- the entries of a HID descriptor stand from byte 6 on
abbrev pub report_length : List ℕ → Option ℕ
report_length hid = report_entry (drop 6 hid)

-- the descriptors of the first HID interface: those between it and the next interface (9.6.5)
abbrev pub interface_part : List (List ℕ) → List (List ℕ)
interface_part descriptors = before_first is_interface (after_first is_hid_interface descriptors)

-- what is read of an interface, where these are its report descriptor's length and its endpoint
abbrev pub info_of : List ℕ → Option ℕ → Option (List ℕ) → Result ConfigInfo InfoFault
info_of interface None endpoint = Err NoReportDescriptor
info_of interface (Some len) None = Err NoEndpoint
info_of interface (Some len) (Some endpoint) =
    Ok (record {
      report_length = len;
      endpoint = slice_index endpoint 2 % 16;
      subclass = slice_index interface 6;
      protocol = slice_index interface 7;
    })

-- what is read of the first HID interface, where there is one, and of the descriptors that belong to it
abbrev pub interface_info : Option (List ℕ) → List (List ℕ) → Result ConfigInfo InfoFault
interface_info None part = Err NoHidInterface
interface_info (Some interface) part =
    info_of interface (option_and_then report_length (find is_hid part)) (find is_interrupt_in part)

-- the first byte after a length is the type of the whole
abbrev pub first_type : List (List ℕ) → ℕ
first_type [] = 0
first_type (descriptor ∷ rest) = descriptor_type descriptor

-- what a host reads of the descriptors of a configuration, which has type 2 (table 9-5): of the first interface of class
-- 03, up to the next interface, the length in the first entry of type 22 of its first HID descriptor, and its first
-- interrupt-IN endpoint. Example: of a boot keyboard 63 bytes, endpoint 1, subclass 1 and protocol 1
abbrev pub configuration_of : List (List ℕ) → Result ConfigInfo InfoFault
configuration_of descriptors =
    if first_type descriptors == 2
    then interface_info (find is_hid_interface descriptors) (interface_part descriptors)
    else Err WrongType

-- What a host reads of the bytes of a configuration: of its descriptors one after another. Bytes that aren't that, and
-- those whose first descriptor has under nine bytes (table 9-10), are too short.
abbrev pub ReadsConfig : List ℕ → Result ConfigInfo InfoFault → Type 0
ReadsConfig bytes (Err TooShort) = ¬ (HasWalk bytes × (9 ≤ slice_index bytes 0))
ReadsConfig bytes result =
    (descriptors : List (List ℕ)) × IsWalk bytes descriptors × (9 ≤ slice_index bytes 0)
    × (result ≡ configuration_of descriptors)
