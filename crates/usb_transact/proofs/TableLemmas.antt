-- Over a bus that loses packets, a transaction is its row of the table (USB 2.0, 8.5.4 and 8.6).
use Rattle.std.proofs.Common.{◌≡◌, ◌∙◌, ℕ, Bool, true, false, if◌then◌else◌, Option, Some, None, List, refl, ap}
use Rattle.std.specs.Bool.{beq}
use Rattle.usb_packet.specs.declared.packet.Packet.{Packet}
use Rattle.usb_packet.specs.declared.packet.Packet.TheVariants as packets
use Rattle.usb_packet.specs.PacketEncoding.{encoding}
use Rattle.usb_transact.specs.declared.bus.Phase.{Phase}
use Rattle.usb_transact.specs.declared.bus.Phase.TheVariants.{Token, Reply, Acknowledgement}
use Rattle.usb_transact.specs.declared.host.Took.{Took}
use Rattle.usb_transact.specs.declared.host.Took.TheVariants.{Fresh, Again}
use Rattle.usb_transact.specs.declared.transaction.Fate.{Fate}
use Rattle.usb_transact.specs.declared.transaction.Fate.TheVariants.{Clean, TokenLost, ReplyLost, AckLost}
use Rattle.usb_transact.specs.Host.{HostPipeState, token_to}
use Rattle.usb_transact.specs.Device.{DevPipeState, after_acknowledgement, answer_of, answer_with}
use Rattle.usb_transact.specs.Replies.{reply_outcome}
use Rattle.usb_transact.specs.Bus.{Arrivals, Carries, Replies}
use Rattle.usb_transact.specs.Fate.{arrives_under}
use Rattle.usb_transact.specs.Transaction.{answer_to_token, device_after_handshake, ReceivesAck, Acknowledges, Transacts}
use Rattle.usb_transact.specs.Exchange.{outcome_when_received, took_of, pipe_after}

-- a packet that arrives as it was sent is read
pub read_whole :
    (arrivals : Arrivals) (phase : Phase) (sent : Packet) (came : Option Packet)
    → arrivals phase (encoding sent) ≡ Some (encoding sent) → Carries arrivals phase sent came
    → came ≡ Some sent
read_whole arrivals phase sent came whole c = let read = rw whole at c.read in read.1 sent c.sent

-- of a packet that is lost nothing is read
pub read_lost :
    (arrivals : Arrivals) (phase : Phase) (sent : Packet) (came : Option Packet)
    → arrivals phase (encoding sent) ≡ None → Carries arrivals phase sent came → came ≡ None
read_lost arrivals phase sent came lost c = rw lost at c.read

-- a token that did not come gets no answer
pub no_reply :
    (arrivals : Arrivals) (token : Option Packet) (device : DevPipeState) (reply : Option Packet)
    → token ≡ None → Replies arrivals Reply (answer_to_token token device) reply → reply ≡ None
no_reply arrivals token device reply none replied = rw none at replied

-- the host's token gets the device's answer
pub full_reply :
    (arrivals : Arrivals) (host : HostPipeState) (token : Option Packet) (device : DevPipeState)
    (reply : Option Packet)
    → token ≡ Some (token_to host) → Replies arrivals Reply (answer_to_token token device) reply
    → Carries arrivals Reply (answer_of device) reply
full_reply arrivals host token device reply came replied = rw came at replied

-- where token and answer arrive as they were sent, the host reads the device's answer
pub whole_reply :
    (arrivals : Arrivals) (host : HostPipeState) (device : DevPipeState) (token reply : Option Packet)
    → arrivals Token (encoding (token_to host)) ≡ Some (encoding (token_to host))
    → arrivals Reply (encoding (answer_of device)) ≡ Some (encoding (answer_of device))
    → Carries arrivals Token (token_to host) token → Replies arrivals Reply (answer_to_token token device) reply
    → reply ≡ Some (answer_of device)
whole_reply arrivals host device token reply token_whole reply_whole polled replied =
    let came = read_whole arrivals Token (token_to host) token token_whole polled in
    read_whole arrivals Reply (answer_of device) reply reply_whole
    (full_reply arrivals host token device reply came replied)

-- the host takes the device's answer by its row
pub took_answer :
    (expects halted toggle : Bool) (armed : Option (List ℕ))
    → reply_outcome expects (Some (answer_with halted toggle armed))
    ≡ outcome_when_received expects halted toggle armed
took_answer expects true toggle armed = refl
took_answer expects false toggle None = refl
took_answer expects false toggle (Some bytes) = refl

-- what the host takes, for each fate
pub Transacts-took :
    (fate : Fate) (host : HostPipeState) (device : DevPipeState)
    (took : Took) (host_then : HostPipeState) (device_then : DevPipeState)
    → Transacts (arrives_under fate) host device took host_then device_then
    → took ≡ took_of fate host device
Transacts-took TokenLost host device took host_then device_then t =
    let none = read_lost (arrives_under TokenLost) Token (token_to host) t.token refl t.polled in
    let reply = no_reply (arrives_under TokenLost) t.token device t.reply none t.replied in
    t.took_reply ∙ ap (reply_outcome host.expects) reply
Transacts-took ReplyLost host device took host_then device_then t =
    let came = read_whole (arrives_under ReplyLost) Token (token_to host) t.token refl t.polled in
    let sent = full_reply (arrives_under ReplyLost) host t.token device t.reply came t.replied in
    let reply = read_lost (arrives_under ReplyLost) Reply (answer_of device) t.reply refl sent in
    t.took_reply ∙ ap (reply_outcome host.expects) reply
Transacts-took Clean host device took host_then device_then t =
    let reply = whole_reply (arrives_under Clean) host device t.token t.reply refl refl t.polled t.replied in
    t.took_reply ∙ ap (reply_outcome host.expects) reply
    ∙ took_answer host.expects device.halted device.toggle device.armed
Transacts-took AckLost host device took host_then device_then t =
    let reply = whole_reply (arrives_under AckLost) host device t.token t.reply refl refl t.polled t.replied in
    t.took_reply ∙ ap (reply_outcome host.expects) reply
    ∙ took_answer host.expects device.halted device.toggle device.armed

-- data are acknowledged under either toggle
pub hears_either :
    (arrivals : Arrivals) (fresh : Bool) (bytes : List ℕ) (device after : DevPipeState)
    → Acknowledges arrivals (if fresh then Fresh (record { items = bytes }) else Again) device after
    → ReceivesAck arrivals device after
hears_either arrivals true bytes device after h = h
hears_either arrivals false bytes device after h = h

-- an ACK that arrives closes
pub ack_closes :
    (arrivals : Arrivals) (device after : DevPipeState)
    → arrivals Acknowledgement (encoding packets.Ack) ≡ Some (encoding packets.Ack)
    → ReceivesAck arrivals device after → after ≡ after_acknowledgement device
ack_closes arrivals device after whole (came, carries, moved) =
    moved ∙ ap (λ heard. device_after_handshake heard device)
    (read_whole arrivals Acknowledgement packets.Ack came whole carries)

-- an ACK that is lost leaves the device as it was
pub ack_lost :
    (arrivals : Arrivals) (device after : DevPipeState)
    → arrivals Acknowledgement (encoding packets.Ack) ≡ None → ReceivesAck arrivals device after
    → after ≡ device
ack_lost arrivals device after lost (came, carries, moved) =
    moved ∙ ap (λ heard. device_after_handshake heard device)
    (read_lost arrivals Acknowledgement packets.Ack came lost carries)

abbrev pipe_with : Bool → Option (List ℕ) → Bool → DevPipeState
pipe_with toggle armed halted = record { toggle = toggle; armed = armed; halted = halted }

-- the device after the host took its answer, where the ACK arrives
pub closes :
    (arrivals : Arrivals) (expects halted toggle : Bool) (armed : Option (List ℕ)) (after : DevPipeState)
    → arrivals Acknowledgement (encoding packets.Ack) ≡ Some (encoding packets.Ack)
    → Acknowledges arrivals (outcome_when_received expects halted toggle armed) (pipe_with toggle armed halted) after
    → after ≡ pipe_after Clean (pipe_with toggle armed halted)
closes arrivals expects true toggle armed after whole h = h
closes arrivals expects false toggle None after whole h = h
closes arrivals expects false toggle (Some bytes) after whole h =
    let device : DevPipeState = pipe_with toggle (Some bytes) false in
    ack_closes arrivals device after whole (hears_either arrivals (beq toggle expects) bytes device after h)

-- the device after the host took its answer, where the ACK is lost
pub stays :
    (arrivals : Arrivals) (expects halted toggle : Bool) (armed : Option (List ℕ)) (after : DevPipeState)
    → arrivals Acknowledgement (encoding packets.Ack) ≡ None
    → Acknowledges arrivals (outcome_when_received expects halted toggle armed) (pipe_with toggle armed halted) after
    → after ≡ pipe_with toggle armed halted
stays arrivals expects true toggle armed after lost h = h
stays arrivals expects false toggle None after lost h = h
stays arrivals expects false toggle (Some bytes) after lost h =
    let device : DevPipeState = pipe_with toggle (Some bytes) false in
    ack_lost arrivals device after lost (hears_either arrivals (beq toggle expects) bytes device after h)

-- the device after a transaction, for each fate
pub Transacts-device :
    (fate : Fate) (host : HostPipeState) (device : DevPipeState)
    (took : Took) (host_then : HostPipeState) (device_then : DevPipeState)
    → Transacts (arrives_under fate) host device took host_then device_then
    → device_then ≡ pipe_after fate device
Transacts-device TokenLost host device took host_then device_then t =
    rw (Transacts-took TokenLost host device took host_then device_then t) at t.acknowledged
Transacts-device ReplyLost host device took host_then device_then t =
    rw (Transacts-took ReplyLost host device took host_then device_then t) at t.acknowledged
Transacts-device Clean host device took host_then device_then t =
    let acknowledged = rw (Transacts-took Clean host device took host_then device_then t) at t.acknowledged in
    closes (arrives_under Clean) host.expects device.halted device.toggle device.armed device_then refl acknowledged
Transacts-device AckLost host device took host_then device_then t =
    let acknowledged = rw (Transacts-took AckLost host device took host_then device_then t) at t.acknowledged in
    stays (arrives_under AckLost) host.expects device.halted device.toggle device.armed device_then refl acknowledged
