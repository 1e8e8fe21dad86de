-- A poll of an endpoint that is halted, at the two ends (USB 2.0, 8.5.4 and 9.4.5).
use Rattle.std.proofs.Common.{◌≡◌, ◌∙◌, true, List, [], Some, None, Result, Ok, refl, ap, subst}
use Rattle.hid_snapshots.specs.declared.event.Event.{Event}
use Rattle.usb_packet.specs.declared.packet.Packet.{Packet}
use Rattle.usb_packet.specs.declared.packet.Packet.TheVariants as packets
use Rattle.usb_transact.specs.declared.bus.Phase.TheVariants.{Reply}
use Rattle.usb_transact.specs.declared.host.Took.{Took}
use Rattle.usb_transact.specs.declared.host.Took.TheVariants.{Silent, Stall}
use Rattle.usb_transact.specs.declared.transaction.Fate.{Fate}
use Rattle.usb_transact.specs.declared.transaction.Fate.TheVariants.{Clean, ReplyLost, AckLost}
use Rattle.usb_transact.specs.Fate.{arrives_under}
use Rattle.usb_transact.specs.Replies.{reply_outcome}
use Rattle.usb_transact.proofs.TableLemmas.{read_lost}
use Rattle.hid_device.specs.Core.{CoreState}
use Rattle.hid_device.specs.Device.{DeviceState, device_after_poll}
use Rattle.hid_host.specs.declared.fault.StackFault.{StackFault}
use Rattle.hid_bus.specs.declared.step.Told.{Told}
use Rattle.hid_bus.specs.declared.step.Told.TheVariants.{Polled}
use Rattle.hid_host.specs.Host.{HostDeviceState, host_after_reply}
use Rattle.hid_stack.specs.Slot.{link_of_pair}
use Rattle.hid_host.specs.Ready.{ReadyHostState, outcome_of, events_after}
use Rattle.hid_stack.specs.Polls.{Ends, encoded_packet, poll_outcome}
use Rattle.hid_stack.specs.StepResult.{poll_result}
use Rattle.hid_stack.proofs.PollLemmas.{Meets, sharing, unpending, Arrives, ready_member, Lands, ready_with, member_of, pair_of, Comes}

-- ---- an endpoint that is halted

abbrev pub stalled : CoreState → CoreState
stalled c = record c { current = None; halted = true }

-- what is taken and told of it
stall_stays : (fate : Fate) (c : CoreState) (known : ReadyHostState) (d : DeviceState) (home : HostDeviceState)
    (result : Result Told StackFault) (device_then : DeviceState) (host_then : HostDeviceState) (events : List Event)
    → Meets d.addr (stalled c) known → device_then ≡ device_after_poll d (stalled c)
    → host_then ≡ ready_with home (sharing c known) → events ≡ []
    → result ≡ Ok (poll_result (link_of_pair (stalled c) known) fate [])
    → Lands fate (ready_member d home c (Some known.pipe.expects))
    (link_of_pair (stalled c) known) result device_then host_then events
stall_stays fate c known d home result device_then host_then events meets device_is host_is none told = record {
  member = member_of device_then (device_after_poll d (stalled c)) host_then home (sharing c known) device_is host_is;
  delivered = none;
  told = told;
  pair = pair_of device_then (device_after_poll d (stalled c)) host_then home (sharing c known) device_is host_is
      (record {
        configured = meets.configured;
        layout = refl;
        addr = meets.to_device;
        endp = meets.endp;
        even = tt;
        got = tt;
        sound = meets.sound;
        laid = meets.laid;
        fits = meets.fits;
      });
}

pub stall_clean : (c : CoreState) (known : ReadyHostState) (d : DeviceState) (home : HostDeviceState)
    (result : Result Told StackFault) (device_then : DeviceState) (host_then : HostDeviceState) (events : List Event)
    → Meets d.addr (stalled c) known → Comes Clean (stalled c) known d home packets.Stall Stall result device_then host_then events
    → Lands Clean (ready_member d home c (Some known.pipe.expects))
    (link_of_pair (stalled c) known) result device_then host_then events
stall_clean c known d home result device_then host_then events meets t =
    stall_stays Clean c known d home result device_then host_then events meets t.ended t.host_moved t.delivers t.told

pub stall_ack_lost : (c : CoreState) (known : ReadyHostState) (d : DeviceState) (home : HostDeviceState)
    (result : Result Told StackFault) (device_then : DeviceState) (host_then : HostDeviceState) (events : List Event)
    → Meets d.addr (stalled c) known → Comes AckLost (stalled c) known d home packets.Stall Stall result device_then host_then events
    → Lands AckLost (ready_member d home c (Some known.pipe.expects))
    (link_of_pair (stalled c) known) result device_then host_then events
stall_ack_lost c known d home result device_then host_then events meets t =
    stall_stays AckLost c known d home result device_then host_then events meets t.ended t.host_moved t.delivers t.told

pub stall_lost : (c : CoreState) (known : ReadyHostState) (d : DeviceState) (home : HostDeviceState) (packet : Packet)
    (result : Result Told StackFault) (device_then : DeviceState) (host_then : HostDeviceState) (events : List Event)
    → Meets d.addr (stalled c) known → packet ≡ packets.Stall → Arrives ReplyLost (stalled c) known d home packet result device_then host_then events
    → Lands ReplyLost (ready_member d home c (Some known.pipe.expects))
    (link_of_pair (stalled c) known) result device_then host_then events
stall_lost c known d home packet result device_then host_then events meets packet_is t =
    let shared = sharing (stalled c) known in
    let lost = read_lost (arrives_under ReplyLost) Reply packet t.reply refl t.replied in
    let took : reply_outcome known.pipe.expects t.reply ≡ Silent = ap (reply_outcome known.pipe.expects) lost in
    let host_is : host_then ≡ ready_with home (sharing c known) =
    t.host_moved ∙ ap (host_after_reply (unpending home) shared) took in
    let told : result ≡ Ok (Polled (encoded_packet (Some packets.Stall)) Silent)
    = t.told ∙ ap (λ (x : Took). poll_outcome (Some packet) (outcome_of shared x)) took
    ∙ ap (λ (x : Packet). Ok (Polled (encoded_packet (Some x)) Silent)) packet_is in
    let device_is : device_then ≡ device_after_poll d (stalled c)
    = subst (λ (x : Took). Ends (arrives_under ReplyLost) (outcome_of shared x)
    (device_after_poll d (stalled c)) device_then) took t.ended in
    stall_stays ReplyLost c known d home result device_then host_then events meets device_is host_is
    (t.delivers ∙ ap (events_after shared) took) told
