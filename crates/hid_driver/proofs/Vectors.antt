-- Worked requests and transfers (USB 2.0, 5.7.3 and 9.4; HID 1.11, 7.1 and 7.2): each is computed by hand, and a wrong one
-- fails the check.
use Rattle.std.proofs.Common.{◌≡◌, true, false, [], ◌∷◌, Some, None, refl}
use Rattle.usb_control.specs.SetupBytes.{setup_bytes}
use Rattle.hid_interfaces.specs.declared.interface.InterfaceInfo.{InterfaceInfo}
use Rattle.hid_driver.specs.Pipe.{full_size, has_packet_past, is_full, transfer_ends}
use Rattle.hid_driver.specs.Requests.{clear_setup, idle_setup, next_state, packet_size_of, protocol_setup, report_setup}
use Rattle.hid_driver.specs.declared.state.DriverState.TheVariants.{Idle, Ready}
use Rattle.hid_driver.specs.declared.interface.Interface.{Interface}
use Rattle.hid_driver.specs.declared.interface.Reading.TheVariants.{Waiting}

-- interface 2, with a report descriptor of 258 bytes and endpoint 5 of packets of 64 bytes
abbrev info : InterfaceInfo
info = record {
  number = 2;
  subclass = 0;
  protocol = 0;
  report_length = Some 258;
  endpoint = Some (record { number = 5; packet_size = 64; interval = 10 });
}

idle_bytes : setup_bytes (idle_setup info) ≡ 0x21 ∷ 0x0A ∷ 0x00 ∷ 0x00 ∷ 0x02 ∷ 0x00 ∷ 0x00 ∷ 0x00 ∷ []
idle_bytes = refl

report_setup_bytes : setup_bytes (report_setup info) ≡ 0x81 ∷ 0x06 ∷ 0x00 ∷ 0x22 ∷ 0x02 ∷ 0x00 ∷ 0x02 ∷ 0x01 ∷ []
report_setup_bytes = refl

clear_bytes : setup_bytes (clear_setup info) ≡ 0x02 ∷ 0x01 ∷ 0x00 ∷ 0x00 ∷ 0x85 ∷ 0x00 ∷ 0x00 ∷ 0x00 ∷ []
clear_bytes = refl

packets : packet_size_of info ≡ 64
packets = refl

-- a full packet, two of them, a short one and an empty one
one_full : is_full 64 64 ≡ true
one_full = refl

two_full : is_full 64 128 ≡ true
two_full = refl

short_packet : is_full 64 100 ≡ false
short_packet = refl

empty_packet : is_full 64 0 ≡ false
empty_packet = refl

-- full packets of an Input report are received as one, others as a short one
received_full : full_size 64 (Some 200) 128 ≡ 128
received_full = refl

received_short : full_size 64 (Some 200) 100 ≡ 101
received_short = refl

received_empty : full_size 64 (Some 200) 0 ≡ 1
received_empty = refl

received_unknown : full_size 64 None 64 ≡ 65
received_unknown = refl

-- a report of 100 bytes goes on after a packet of 64; it ends with 36 more, and with 30; no Input report goes on
goes_on : transfer_ends 64 (Some 100) 64 64 ≡ false
goes_on = refl

ends_whole : transfer_ends 64 (Some 100) 100 36 ≡ true
ends_whole = refl

ends_short : transfer_ends 64 (Some 100) 94 30 ≡ true
ends_short = refl

ends_unknown : transfer_ends 64 None 64 64 ≡ true
ends_unknown = refl

-- a report of 8 bytes in packets of 8, and another one behind it; in packets of 64 it may have 56 bytes after it
one_alone : has_packet_past 8 (Some 8) 8 ≡ false
one_alone = refl

two_joined : has_packet_past 8 (Some 8) 16 ≡ true
two_joined = refl

one_padded : has_packet_past 64 (Some 8) 64 ≡ false
one_padded = refl

boot_bytes : setup_bytes (protocol_setup info true) ≡ 0x21 ∷ 0x0B ∷ 0x00 ∷ 0x00 ∷ 0x02 ∷ 0x00 ∷ 0x00 ∷ 0x00 ∷ []
boot_bytes = refl

-- nothing is left to ask of no interfaces; one that waits is asked first
abbrev waiting : Interface
waiting = record { info = info; reading = Waiting }

none_left : next_state [] ≡ Ready
none_left = refl

first_asked : next_state (waiting ∷ []) ≡ Idle 0
first_asked = refl
