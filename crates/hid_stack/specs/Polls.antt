-- One poll over any bus, packet by packet (USB 2.0, 8.5.4 and 8.6): each end acts on what it reads of the bytes
-- that arrive, and on nothing else.
use Rattle.std.specs.Prelude.{◌≡◌, ℕ, Bool, true, false, List, ◌++◌, Option, Some, None, Result, Ok, Err, IfSome}
use Rattle.arrayvec.specs.declared.array_vec.ArrayVec.{ArrayVec}
use Rattle.hid_snapshots.specs.declared.event.Event.{Event}
use Rattle.hid_snapshots.specs.Encoding.{AreBytes}
use Rattle.usb_packet.specs.declared.packet.Packet.{Packet}
use Rattle.usb_packet.specs.declared.packet.Packet.TheVariants as packets
use Rattle.usb_packet.specs.PacketEncoding.{Encodes, encoding}
use Rattle.usb_transact.specs.declared.bus.Phase.TheVariants.{Token, Reply, Acknowledgement}
use Rattle.usb_transact.specs.declared.host.Took.{Took}
use Rattle.usb_transact.specs.declared.host.Took.TheVariants.{Fresh, Again}
use Rattle.usb_transact.specs.Bus.{Arrivals, Carries, Replies}
use Rattle.usb_transact.specs.Host.{token_to}
use Rattle.usb_transact.specs.Replies.{reply_outcome}
use Rattle.hid_device.specs.Core.{IsSound}
use Rattle.hid_device.specs.Device.{DeviceState, device_after, device_answer, core_of}
use Rattle.hid_host.specs.declared.fault.StackFault.{StackFault}
use Rattle.hid_host.specs.declared.fault.StackFault.TheVariants.{NotReady}
use Rattle.hid_host.specs.declared.phase.HostPhase.{HostPhase}
use Rattle.hid_host.specs.declared.phase.HostPhase.TheVariants.{Ready}
use Rattle.hid_bus.specs.declared.step.Told.{Told}
use Rattle.hid_bus.specs.declared.step.Told.TheVariants.{Polled}
use Rattle.hid_host.specs.Host.{HostDeviceState, host_after_reply}
use Rattle.hid_host.specs.Ready.{ReadyHostState, outcome_of, events_after}

-- the payload of a packet is bytes
abbrev pub HasBytes : Packet → Type 0
HasBytes (packets.Data one payload) = AreBytes payload.items
HasBytes (packets.Token kind addr endp) = Unit {0}
HasBytes packets.Ack = Unit {0}
HasBytes packets.Nak = Unit {0}
HasBytes packets.Stall = Unit {0}

-- the device receives a packet, if one came, and gives this answer
abbrev pub Receives : DeviceState → Option Packet → Option Packet → DeviceState → Type 0
Receives device None answer after = (answer ≡ None) × (after ≡ device)
Receives device (Some packet) answer after =
    (answer ≡ device_answer device packet) × (after ≡ device_after device packet)
    × IfSome answer (λ _. IsSound (core_of after))

-- the bytes are those of an answer, if one was given
abbrev pub IsAnswer : Option Packet → Bool → List ℕ → Type 0
IsAnswer None answers bytes = answers ≡ false
IsAnswer (Some packet) answers bytes = (answers ≡ true) × Encodes packet bytes

-- the device receives a packet, if one came, and these bytes are those of its answer, if it gives one
pub record Responds (device : DeviceState) (came : Option Packet) (answers : Bool) (bytes : List ℕ) (after : DeviceState) : Type 0 where
  pub answer : Option Packet
  pub receives : Receives device came answer after
  pub of_bytes : IfSome answer HasBytes
  pub written : IsAnswer answer answers bytes

-- the device receives what arrives of a token that is sent to it, and answers
pub record TokenIsAnswered (arrivals : Arrivals) (token : Packet) (device : DeviceState) (answers : Bool)
    (bytes : List ℕ) (after : DeviceState) : Type 0 where
  pub came : Option Packet
  pub carried : Carries arrivals Token token came
  pub responds : Responds device came answers bytes after

-- the device receives what arrives of an ACK that is sent to it
pub record ReceivesAck (arrivals : Arrivals) (device after : DeviceState) : Type 0 where
  pub came : Option Packet
  pub answer : Option Packet
  pub carried : Carries arrivals Acknowledgement packets.Ack came
  pub receives : Receives device came answer after

-- data are acknowledged, fresh or not, and nothing else is
abbrev pub Acknowledges : Arrivals → Took → DeviceState → DeviceState → Type 0
Acknowledges arrivals (Fresh payload) device after = ReceivesAck arrivals device after
Acknowledges arrivals Again device after = ReceivesAck arrivals device after
Acknowledges arrivals _ device after = after ≡ device

-- data that the host refuses end the poll
abbrev pub Ends : Arrivals → Result Took StackFault → DeviceState → DeviceState → Type 0
Ends arrivals (Ok took) device after = Acknowledges arrivals took device after
Ends arrivals (Err fault) device after = after ≡ device

-- the bytes of the packet that was sent, if one was
abbrev pub encoded_packet : Option Packet → Option (ArrayVec ℕ 65 (Unit {0}))
encoded_packet None = None
encoded_packet (Some packet) = Some (record { items = encoding packet })

-- what a poll returns: the bytes that were sent, and what the host took, or why it refused them
abbrev pub poll_outcome : Option Packet → Result Took StackFault → Result Told StackFault
poll_outcome answer (Ok took) = Ok (Polled (encoded_packet answer) took)
poll_outcome answer (Err fault) = Err fault

-- The poll by its packets: the token, the device's answer, what the host reads of it, and the ACK for data.
pub record PollsOver (arrivals : Arrivals) (device : DeviceState) (host : HostDeviceState)
    (known : ReadyHostState)
    (result : Result Told StackFault) (device_then : DeviceState) (host_then : HostDeviceState)
    (before events : List Event) : Type 0 where
  pub token : Option Packet
  pub answer : Option Packet
  pub between : DeviceState
  pub reply : Option Packet
  pub polled : Carries arrivals Token (token_to known.pipe) token
  pub receives : Receives device token answer between
  pub bytes : IfSome answer HasBytes
  pub replied : Replies arrivals Reply answer reply
  pub told : result ≡ poll_outcome answer (outcome_of known (reply_outcome known.pipe.expects reply))
  pub host_moved : host_then ≡ host_after_reply host known (reply_outcome known.pipe.expects reply)
  pub delivers : events ≡ before ++ events_after known (reply_outcome known.pipe.expects reply)
  pub ended : Ends arrivals (outcome_of known (reply_outcome known.pipe.expects reply)) between device_then

-- a host that isn't ready, or whose clear is pending, sends nothing, and nothing changes
pub record SendsNothing (device : DeviceState) (host : HostDeviceState)
    (result : Result Told StackFault) (device_then : DeviceState) (host_then : HostDeviceState)
    (before events : List Event) : Type 0 where
  pub told : result ≡ Err NotReady
  pub device_stays : device_then ≡ device
  pub host_stays : host_then ≡ host
  pub delivers : events ≡ before

-- A poll over a bus, by whether a clear is pending, and how far the host has come with its device.
abbrev pub IsPollByPackets : Arrivals → DeviceState → HostDeviceState → Bool → HostPhase
    → Result Told StackFault
    → DeviceState → HostDeviceState → List Event → List Event → Type 0
IsPollByPackets arrivals device host false (Ready known) result device_then host_then before events =
    PollsOver arrivals device host known result device_then host_then before events
IsPollByPackets arrivals device host true (Ready known) result device_then host_then before events =
    SendsNothing device host result device_then host_then before events
IsPollByPackets arrivals device host clearing _ result device_then host_then before events =
    SendsNothing device host result device_then host_then before events
