-- Worked values of rooms, transfers and reports: each is worked out by hand, and a wrong one fails the check.
use Rattle.std.specs.Prelude.{◌≡◌, ℕ, true, false, [], ◌∷◌, replicate, Some, None, pos, refl}
use Rattle.hid_layout.specs.declared.boot.TheConstants.{MOUSE}
use Rattle.hid_layout.specs.Controls.{items_from, spread_usages}
use Rattle.hid_snapshots.specs.declared.change.Change.TheVariants.{Press, Release, Move}
use Rattle.hid_snapshots.specs.declared.event.Event.TheVariants as event
use Rattle.hid_snapshots.specs.Events.{control_at}
use Rattle.hid_snapshots.specs.PartBytes.{part_bytes}
use Rattle.hid_snapshots.specs.Samples.{usage}
use Rattle.hid_usages.specs.Boot.{mouse_layout}
use Rattle.hid_requests.specs.declared.boot.Boot.TheVariants as boot
use Rattle.hid_requests.specs.RequestKinds.{request_kind_of}
use Rattle.hid_device.specs.Core.{CoreState, configured_core}
use Rattle.hid_device.specs.Creation.{new_core}
use Rattle.hid_device.specs.RequestTable.{core_table, decide}
use Rattle.usb_control.specs.declared.setup.Setup.{Setup}
use Rattle.usb_control.specs.SetupBytes.{setup_of}
use Rattle.usb_control.specs.Transfer.{Shape, Refused, Accepted}
use Rattle.hid_gadget.specs.declared.outcomes.Control.TheVariants.{Done, Stalled}
use Rattle.hid_gadget.specs.declared.outcomes.Poll.TheVariants as poll
use Rattle.hid_gadget.specs.declared.outcomes.Poll.TheVariants.{Nothing}
use Rattle.hid_gadget.specs.Agreement.{packets_asked, packets_needed}
use Rattle.hid_gadget.specs.Rooms.{with_front}
use Rattle.hid_gadget.specs.ReceivedReports.{Asks, Changes, Transfers, core_after_steps, events_received, new_receiver}
use Rattle.hid_gadget.specs.WholeReports.{fitting_pieces, report_result}
use Rattle.hid_gadget.specs.WholeTransfers.{after_transfer, control_result, end_with, given_bytes, tries_needed}

two_in_four : with_front (1 ∷ 2 ∷ []) (0 ∷ 0 ∷ 0 ∷ 0 ∷ []) ≡ 1 ∷ 2 ∷ 0 ∷ 0 ∷ []
two_in_four = refl

-- a read, and a write, of so many bytes
abbrev read_of : ℕ → Shape
read_of n = record { reads = true; length = n }

abbrev write_of : ℕ → Shape
write_of n = record { reads = false; length = n }

-- the tries of a read of 18 bytes: SETUP, pieces of 8, 8 and 2 bytes, and the status
read_of_18 : tries_needed (read_of 18) (Accepted (Some (replicate 18 0))) ≡ 5
read_of_18 = refl

-- of which 16 come: the third piece is empty
read_of_16 : tries_needed (read_of 18) (Accepted (Some (replicate 16 0))) ≡ 5
read_of_16 = refl

read_of_none : tries_needed (read_of 0) (Accepted (Some (replicate 18 0))) ≡ 2
read_of_none = refl

write_of_none : tries_needed (write_of 0) (Accepted None) ≡ 2
write_of_none = refl

write_of_65 : tries_needed (write_of 65) (Accepted None) ≡ 11
write_of_65 = refl

refused_write : tries_needed (write_of 65) Refused ≡ 2
refused_write = refl

-- what a transfer gives: an answer cut to what was asked for, nothing of a write, and STALL
cut_answer : given_bytes (read_of 2) (Accepted (Some (1 ∷ 2 ∷ 3 ∷ []))) ≡ Some (1 ∷ 2 ∷ [])
cut_answer = refl

whole_answer : end_with (given_bytes (read_of 64) (Accepted (Some (1 ∷ 2 ∷ 3 ∷ [])))) ≡ Done 3
whole_answer = refl

write_gives_none : end_with (given_bytes (write_of 2) (Accepted None)) ≡ Done 0
write_gives_none = refl

refusal_stalls : end_with (given_bytes (read_of 64) Refused) ≡ Stalled
refusal_stalls = refl

-- how many pieces of 100 bytes fit
all_of_100 : fitting_pieces 100 (replicate 100 0) ≡ 2
all_of_100 = refl

one_of_100 : fitting_pieces 99 (replicate 100 0) ≡ 1
one_of_100 = refl

none_of_100 : fitting_pieces 63 (replicate 100 0) ≡ 0
none_of_100 = refl

-- of 64 bytes the only one, and of none the only one, which is empty
all_of_64 : fitting_pieces 64 (replicate 64 0) ≡ 1
all_of_64 = refl

all_of_none : fitting_pieces 0 [] ≡ 1
all_of_none = refl

-- ---- a boot mouse

abbrev new_mouse : CoreState
new_mouse = new_core (record { vendor = 0xFFFF; product = 1; interval = 10; boot = boot.Mouse }) MOUSE mouse_layout

-- GET_CONFIGURATION (USB 2.0, 9.4.2)
abbrev get_configuration : Setup
get_configuration = setup_of (0x80 ∷ 0x08 ∷ 0x00 ∷ 0x00 ∷ 0x00 ∷ 0x00 ∷ 0x01 ∷ 0x00 ∷ [])

-- button 1 goes down, four reports are asked for, of which the first has no room and the third and fourth aren't due, with
-- GET_CONFIGURATION between them, and it goes up
a_click : events_received (configured_core new_mouse)
    (Changes (Press (control_at 0 0)) ∷ Asks 2 ∷ Asks 3 ∷ Asks 3 ∷ Transfers get_configuration [] ∷ Asks 2 ∷ Changes (Release (control_at 0 0)) ∷ Asks 64 ∷ []) (new_receiver mouse_layout)
    ≡ event.Down (control_at 0 0) (usage 9 1) ∷ event.Up (control_at 0 0) (usage 9 1) ∷ []
unfolding decide request_kind_of part_bytes items_from spread_usages
a_click = refl

-- 64 bytes are asked for of its device descriptor, which has 18; it has no device qualifier
device_descriptor : control_result core_table new_mouse (setup_of (0x80 ∷ 0x06 ∷ 0x00 ∷ 0x01 ∷ 0x00 ∷ 0x00 ∷ 0x40 ∷ 0x00 ∷ [])) ≡ Done 18
unfolding decide request_kind_of
device_descriptor = refl

device_qualifier : control_result core_table new_mouse (setup_of (0x80 ∷ 0x06 ∷ 0x00 ∷ 0x06 ∷ 0x00 ∷ 0x00 ∷ 0x0A ∷ 0x00 ∷ [])) ≡ Stalled
unfolding decide request_kind_of
device_qualifier = refl

-- SET_CONFIGURATION 1 takes effect, and SET_CONFIGURATION 2 is refused
configuration_1 : (after_transfer core_table new_mouse (setup_of (0x00 ∷ 0x09 ∷ 0x01 ∷ 0x00 ∷ 0x00 ∷ 0x00 ∷ 0x00 ∷ 0x00 ∷ [])) []).is_configured ≡ true
unfolding decide request_kind_of
configuration_1 = refl

configuration_2 : after_transfer core_table new_mouse (setup_of (0x00 ∷ 0x09 ∷ 0x02 ∷ 0x00 ∷ 0x00 ∷ 0x00 ∷ 0x00 ∷ 0x00 ∷ [])) [] ≡ new_mouse
unfolding decide request_kind_of
configuration_2 = refl

-- ---- coming to rest

-- button 1 went down, and the mouse moved 200 to the right, of which a report carries 127
abbrev moved_mouse : CoreState
moved_mouse = core_after_steps (configured_core new_mouse) (Changes (Press (control_at 0 0)) ∷ Changes (Move (control_at 2 0) (pos 200)) ∷ [])

two_packets : packets_needed moved_mouse ≡ 2
unfolding items_from spread_usages
two_packets = refl

-- of three transfers the first has no room, and doesn't count
two_counted : packets_asked moved_mouse (Asks 2 ∷ Asks 3 ∷ Asks 64 ∷ []) ≡ 2
unfolding part_bytes items_from spread_usages
two_counted = refl

nothing_then : report_result (core_after_steps moved_mouse (Asks 2 ∷ Asks 3 ∷ Asks 64 ∷ [])) 64 ≡ Nothing
unfolding part_bytes items_from spread_usages
nothing_then = refl

more_after_one : report_result (core_after_steps moved_mouse (Asks 64 ∷ [])) 64 ≡ poll.Done 3
unfolding part_bytes items_from spread_usages
more_after_one = refl

-- what finds nothing to report counts for one
one_counted : packets_asked (configured_core new_mouse) (Asks 64 ∷ []) ≡ 1
unfolding part_bytes items_from spread_usages
one_counted = refl
