-- Steps of any device with its host, worked out by hand: a wrong value fails the check.
use Rattle.std.specs.Prelude.{◌≡◌, true, false, List, [], ◌∷◌, ◌++◌, replicate, Ok, Err, pos, negsuc, refl}
use Rattle.hid_report_descriptor.specs.declared.shape.Shape.TheVariants.{Padding, Variable}
use Rattle.hid_report_descriptor.specs.declared.report.ReportKind.TheVariants.{Input}
use Rattle.hid_layout.specs.Layout.{Contents}
use Rattle.hid_layout.specs.Controls.{items_from, items_of, spread_usages}
use Rattle.hid_snapshots.specs.declared.event.Event.{Event}
use Rattle.hid_snapshots.specs.declared.event.Event.TheVariants as event
use Rattle.hid_snapshots.specs.declared.fault.ReportFault.TheVariants.{Short}
use Rattle.hid_snapshots.specs.Events.{control_at}
use Rattle.hid_snapshots.specs.Samples.{usage}
use Rattle.usb_transact.specs.declared.host.Took.TheVariants.{Again}
use Rattle.usb_transact.specs.declared.transaction.Fate.TheVariants.{Clean, TokenLost, ReplyLost, AckLost}
use Rattle.hid_host.specs.declared.fault.StackFault.TheVariants.{Report}
use Rattle.hid_snapshots.specs.ControlStates.{blank}
use Rattle.hid_usages.specs.Receiving.{ReceiverState, is_whole}
use Rattle.hid_any_device.specs.Sender.{Sends, Waits, Stalls, Last, More}
use Rattle.hid_any_device.specs.PipeSteps.{PipeStep, Queues, Polls, Clears, ends_after_all, events_at_step, ends_at_start, poll_result, events_of_steps}
use Rattle.hid_any_device.specs.SendQueue.{queue_at_start, queue_after_all, crossed_pieces, crossed_reports, reports_waiting}
use Rattle.hid_bus.specs.Rounds.{closed_count}
use Rattle.hid_any_device.specs.Progress.{carried_fates}
use Rattle.hid_any_device.specs.ReportPieces.{pieces_of_report}
use Rattle.hid_any_device.specs.Transfers.{events_of_transfers, receiver_between}

-- three buttons and two motions, of 3 bytes
abbrev mouse : Contents
mouse = record {
  reports = record { kind = Input; id = 0; bits = 24 } ∷ [];
  numbered = false;
  items = record { report = 0; offset = 0; size = 1; count = 3; flags = record { 0 = 2 }; min = pos 0; max = pos 1; shape = Variable }
      ∷ record { report = 0; offset = 3; size = 5; count = 1; flags = record { 0 = 1 }; min = pos 0; max = pos 1; shape = Padding }
      ∷ record { report = 0; offset = 8; size = 8; count = 2; flags = record { 0 = 6 }; min = negsuc 126; max = pos 127; shape = Variable }
      ∷ [];
  entries = ((usage 9 1, usage 9 3) ∷ []) ∷ [] ∷ ((usage 1 0x30, usage 1 0x30) ∷ (usage 1 0x31, usage 1 0x31) ∷ []) ∷ [];
  paths = [] ∷ [] ∷ [] ∷ [];
}

-- a button in the last of 66 bytes
abbrev wide : Contents
wide = record {
  reports = record { kind = Input; id = 0; bits = 528 } ∷ [];
  numbered = false;
  items = record { report = 0; offset = 520; size = 1; count = 1; flags = record { 0 = 2 }; min = pos 0; max = pos 1; shape = Variable } ∷ [];
  entries = ((usage 9 1, usage 9 1) ∷ []) ∷ [];
  paths = [] ∷ [];
}

abbrev poll : PipeStep
poll = Polls Sends Clean

-- button 1, 5 to the right
abbrev right : PipeStep
right = Queues (Last (1 ∷ 5 ∷ 0 ∷ []))

abbrev right_events : List Event
right_events = event.Down (control_at 0 0) (usage 9 1) ∷ event.Motion (control_at 2 0) (usage 1 0x30) (pos 5) ∷ []

-- a lost acknowledgement: the events come once
ack_lost : events_of_steps 64 (ends_at_start 5 1 mouse) (right ∷ Polls Sends AckLost ∷ poll ∷ poll ∷ []) ≡ right_events
unfolding items_from spread_usages
ack_lost = refl

ack_lost_again : poll_result 64 (ends_after_all 64 (ends_at_start 5 1 mouse) (right ∷ Polls Sends AckLost ∷ [])) Sends Clean ≡ Ok Again
unfolding items_from spread_usages
ack_lost_again = refl

-- a lost reply, and a lost token: the events come at the retry
reply_lost : events_of_steps 64 (ends_at_start 5 1 mouse) (right ∷ Polls Sends ReplyLost ∷ Polls Sends TokenLost ∷ []) ≡ []
unfolding items_from spread_usages
reply_lost = refl

reply_events : events_at_step 64 (ends_after_all 64 (ends_at_start 5 1 mouse) (right ∷ Polls Sends ReplyLost ∷ Polls Sends TokenLost ∷ [])) poll ≡ right_events
unfolding items_from spread_usages
reply_events = refl

-- equal bytes sent twice are two reports: the motion is reported twice, the button once
twice : events_of_steps 64 (ends_at_start 5 1 mouse) (right ∷ right ∷ poll ∷ poll ∷ []) ≡ right_events ++ event.Motion (control_at 2 0) (usage 1 0x30) (pos 5) ∷ []
unfolding items_from spread_usages
twice = refl

-- a report that is too short is refused where it crosses and gives no events; the next one is read
short : poll_result 64 (ends_after_all 64 (ends_at_start 5 1 mouse) (Queues (Last (1 ∷ 5 ∷ [])) ∷ right ∷ [])) Sends AckLost ≡ Err (Report Short)
unfolding items_from spread_usages
short = refl

short_then_whole : events_of_steps 64 (ends_at_start 5 1 mouse) (Queues (Last (1 ∷ 5 ∷ [])) ∷ right ∷ Polls Sends AckLost ∷ poll ∷ poll ∷ []) ≡ right_events
unfolding items_from spread_usages
short_then_whole = refl

-- more bytes than the report has are ignored
longer : events_of_steps 64 (ends_at_start 5 1 mouse) (Queues (Last (1 ∷ 5 ∷ 0 ∷ 9 ∷ 9 ∷ [])) ∷ poll ∷ []) ≡ right_events
unfolding items_from spread_usages
longer = refl

-- a device that waits, or is halted, loses nothing
waits : events_of_steps 64 (ends_at_start 5 1 mouse) (right ∷ Polls Waits Clean ∷ Polls Stalls Clean ∷ Polls Waits AckLost ∷ poll ∷ []) ≡ right_events
unfolding items_from spread_usages
waits = refl

-- two pieces: the events come once, with the last one, whichever acknowledgements are lost
abbrev wide_pieces : PipeStep
wide_pieces = Queues (More (replicate 64 0) (Last (0 ∷ 1 ∷ [])))

two_pieces_yet : events_of_steps 64 (ends_at_start 5 1 wide) (wide_pieces ∷ Polls Sends AckLost ∷ poll ∷ Polls Sends ReplyLost ∷ []) ≡ []
unfolding items_from spread_usages
two_pieces_yet = refl

two_pieces : events_of_steps 64 (ends_at_start 5 1 wide) (wide_pieces ∷ Polls Sends AckLost ∷ poll ∷ Polls Sends ReplyLost ∷ Polls Sends AckLost ∷ poll ∷ []) ≡ event.Down (control_at 0 0) (usage 9 1) ∷ []
unfolding items_from spread_usages
two_pieces = refl

two_crossed : crossed_pieces queue_at_start 0 (wide_pieces ∷ Polls Sends AckLost ∷ poll ∷ Polls Sends AckLost ∷ poll ∷ []) ≡ 2
two_crossed = refl

it_waits : reports_waiting (queue_after_all queue_at_start (wide_pieces ∷ Polls Sends AckLost ∷ poll ∷ Polls Sends ReplyLost ∷ []))
    ≡ (replicate 64 0 ++ 0 ∷ 1 ∷ []) ∷ []
it_waits = refl

-- its device cuts it so; one of 64 bytes, which is shorter than it should be, ends with an empty packet
is_cut : pieces_of_report 64 wide (replicate 65 0 ++ 1 ∷ []) ≡ More (replicate 64 0) (Last (0 ∷ 1 ∷ []))
is_cut = refl

ends_empty : pieces_of_report 64 wide (replicate 64 0) ≡ More (replicate 64 0) (Last [])
ends_empty = refl

-- a mouse's report of 70 bytes is longer than its packets have room for: its host ends it with the first packet
too_long : is_whole 64 mouse (replicate 64 0) 64 ≡ true
too_long = refl

-- a clear in the middle of a report: what came of it is forgotten, and its device sends it again under DATA0
clear_between : events_of_steps 64 (ends_at_start 5 1 wide) (wide_pieces ∷ poll ∷ Polls Stalls Clean ∷ Clears (More (replicate 64 0) (Last (0 ∷ 1 ∷ [])) ∷ []) ∷ poll ∷ Polls Sends AckLost ∷ []) ≡ event.Down (control_at 0 0) (usage 9 1) ∷ []
unfolding items_from spread_usages
clear_between = refl

toggle_anew : crossed_pieces queue_at_start 0 (wide_pieces ∷ poll ∷ Clears (More (replicate 64 0) (Last (0 ∷ 1 ∷ [])) ∷ []) ∷ poll ∷ Polls Sends AckLost ∷ []) ≡ 2
toggle_anew = refl

-- the report of 66 bytes at an endpoint of 16: four full packets, and one of 2 bytes
cut_by_16 : pieces_of_report 16 wide (replicate 65 0 ++ 1 ∷ []) ≡ More (replicate 16 0) (More (replicate 16 0) (More (replicate 16 0) (More (replicate 16 0) (Last (0 ∷ 1 ∷ [])))))
cut_by_16 = refl

five_packets : events_of_steps 16 (ends_at_start 5 1 wide) (Queues (pieces_of_report 16 wide (replicate 65 0 ++ 1 ∷ [])) ∷ poll ∷ Polls Sends AckLost ∷ poll ∷ poll ∷ poll ∷ poll ∷ []) ≡ event.Down (control_at 0 0) (usage 9 1) ∷ []
unfolding items_from spread_usages
five_packets = refl

-- a host that takes 64 bytes for a full packet ends it with the first packet of 16
ended_by_64 : is_whole 64 wide (replicate 16 0) 16 ≡ true
ended_by_64 = refl

-- at an endpoint of 512 it is one packet
one_packet : pieces_of_report 512 wide (replicate 65 0 ++ 1 ∷ []) ≡ Last (replicate 65 0 ++ 1 ∷ [])
one_packet = refl

-- an unknown ID in exactly one full packet: more is awaited, so the next report is joined to it
abbrev numbered : Contents
numbered = record {
  reports = record { kind = Input; id = 1; bits = 16 } ∷ [];
  numbered = true;
  items = record { report = 0; offset = 0; size = 8; count = 2; flags = record { 0 = 6 }; min = negsuc 126; max = pos 127; shape = Variable } ∷ [];
  entries = ((usage 1 0x30, usage 1 0x30) ∷ (usage 1 0x31, usage 1 0x31) ∷ []) ∷ [];
  paths = [] ∷ [];
}

joined_to_the_next : events_of_steps 64 (ends_at_start 5 1 numbered) (Queues (Last (9 ∷ replicate 63 0)) ∷ Queues (Last (1 ∷ 5 ∷ 0 ∷ [])) ∷ poll ∷ poll ∷ []) ≡ []
unfolding items_from spread_usages
joined_to_the_next = refl

-- with an empty packet after it the next report is read
read_after_an_empty : events_of_steps 64 (ends_at_start 5 1 numbered) (Queues (More (9 ∷ replicate 63 0) (Last [])) ∷ Queues (Last (1 ∷ 5 ∷ 0 ∷ [])) ∷ poll ∷ poll ∷ poll ∷ []) ≡ event.Motion (control_at 0 0) (usage 1 0x30) (pos 5) ∷ []
unfolding items_from spread_usages
read_after_an_empty = refl

-- an empty packet after a report that is whole already is a report of no bytes, which is refused
whole_then_empty : poll_result 64 (ends_after_all 64 (ends_at_start 5 1 mouse) (right ∷ Queues (Last []) ∷ poll ∷ [])) Sends Clean ≡ Err (Report Short)
unfolding items_from spread_usages
whole_then_empty = refl

-- transfers of an endpoint of 512: a report in one, and one of 66 bytes in pieces of 64
abbrev receiver : ReceiverState
receiver = receiver_between wide (blank (items_of wide))

read_in_one : events_of_transfers 512 receiver ((replicate 65 0 ++ 1 ∷ []) ∷ []) ≡ event.Down (control_at 0 0) (usage 9 1) ∷ []
unfolding items_from spread_usages
read_in_one = refl

read_in_two : events_of_transfers 64 receiver (replicate 64 0 ∷ (0 ∷ 1 ∷ []) ∷ []) ≡ event.Down (control_at 0 0) (usage 9 1) ∷ []
unfolding items_from spread_usages
read_in_two = refl

-- two reports wait, and two polls of four carry a piece: both cross, whatever is queued meanwhile
two_carry : closed_count (carried_fates (Polls Sends AckLost ∷ poll ∷ right ∷ Polls Waits Clean ∷ poll ∷ [])) ≡ 2
two_carry = refl

two_cross : crossed_reports (queue_after_all queue_at_start (right ∷ right ∷ [])) (Polls Sends AckLost ∷ poll ∷ right ∷ Polls Waits Clean ∷ poll ∷ [])
    ≡ (1 ∷ 5 ∷ 0 ∷ []) ∷ (1 ∷ 5 ∷ 0 ∷ []) ∷ []
two_cross = refl
