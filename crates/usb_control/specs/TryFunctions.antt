-- One try of a transfer as a function of both ends, where what answers requests does so by functions (USB 2.0, 8.5.3).
use Rattle.std.specs.Prelude.{◌≡◌, ℕ, Bool, true, false, ◌&&◌, List, [], Option, Some, None}
use Rattle.usb_packet.specs.declared.packet.Packet.{Packet}
use Rattle.usb_packet.specs.declared.packet.Packet.TheVariants.{Ack}
use Rattle.usb_transact.specs.declared.transaction.Fate.{Fate}
use Rattle.usb_transact.specs.declared.transaction.Fate.TheVariants.{TokenLost}
use Rattle.usb_control.specs.declared.setup.Setup.{Setup as Request}
use Rattle.usb_control.specs.declared.device.Stage.TheVariants.{StatusIn}
use Rattle.usb_control.specs.declared.device.LastPacket.TheVariants as last_packets
use Rattle.usb_control.specs.SetupBytes.{setup_of, reads}
use Rattle.usb_control.specs.Requests.{PrepareGives, ApplyGives, AnswerOf}
use Rattle.usb_control.specs.Packets.{data_packet}
use Rattle.usb_control.specs.Device.{DevControlState, Effect, Answers, Decides, Applies, stage_after_decision, effect_of_ack}
use Rattle.usb_control.specs.Host.{HostTransferState, asks_at, transfer_after_reply_at, acknowledges_at}
use Rattle.usb_control.specs.Transaction.{effect_of_stage, reply_after_fate, loses_nothing}

-- what answers requests by functions: the answer that is fixed, whether a request is accepted, what deciding on it
-- leaves, and what a write of these bytes leaves
pub record Table (R : Type 0) : Type 0 where
  pub answer_of : AnswerOf R
  pub accepts : R → Request → Bool
  pub prepared : R → Request → R
  pub applied : R → List ℕ → R

-- what answers requests decides as the functions of a table say
abbrev pub PreparesBy : {R : Type 0} → Table R → PrepareGives R
PreparesBy table =
    λ old setup said new. (said ≡ table.accepts old setup) × (new ≡ table.prepared old setup)

-- what answers requests carries out a write as the functions of a table say
abbrev pub AppliesBy : {R : Type 0} → Table R → ApplyGives R
AppliesBy table = λ old bytes new. new ≡ table.applied old bytes

-- endpoint 0 after what a packet brings about
abbrev pub control_after : {R : Type 0} → Table R → Effect → R → DevControlState R
control_after table (Answers answer stage last_packet) old =
    record { requests = old; stage = stage; last_packet = last_packet }
control_after table (Decides bytes) old = record {
  requests = table.prepared old (setup_of bytes);
  stage = stage_after_decision (table.accepts old (setup_of bytes)) (reads (setup_of bytes))
      (setup_of bytes).length;
  last_packet = last_packets.Nothing;
}
control_after table (Applies bytes) old = record {
  requests = table.applied old bytes;
  stage = StatusIn;
  last_packet = last_packets.Answered;
}

-- the answer to a packet that brings this about: ACK to a SETUP, and DATA1 without a byte for the status of a write
abbrev pub answer_to : Effect → Option Packet
answer_to (Answers answer stage last_packet) = answer
answer_to (Decides bytes) = Some Ack
answer_to (Applies bytes) = Some (data_packet true [])

-- what the packets of a try bring about where they arrive
abbrev pub effect_reached : {R : Type 0} → Table R → HostTransferState → DevControlState R → Effect
effect_reached table host control =
    effect_of_stage host.stage host.setup host.bytes control.stage (table.answer_of control.requests)

-- what the host receives of the answer to a try's first packets
abbrev pub reply_received : Fate → HostTransferState → Effect → Option Packet
reply_received fate host effect = reply_after_fate fate (asks_at host.stage) (answer_to effect)

-- the host after a try whose first packets arrive, by what they brought about
abbrev pub host_after_answer : Fate → HostTransferState → Effect → HostTransferState
host_after_answer fate host effect = transfer_after_reply_at host.stage (reply_received fate host effect) host

-- whether the host's ACK arrives
abbrev pub is_acknowledged : Fate → HostTransferState → Effect → Bool
is_acknowledged fate host effect =
    loses_nothing fate
    && acknowledges_at host.stage (reply_received fate host effect)
    (host_after_answer fate host effect).stage

-- endpoint 0 after an ACK, where one arrives
abbrev pub after_ack_if : {R : Type 0} → Table R → Bool → DevControlState R → DevControlState R
after_ack_if table true control =
    control_after table (effect_of_ack (table.answer_of control.requests) control.stage control.last_packet)
    control.requests
after_ack_if table false control = control

-- the host after a try
abbrev pub host_tried :
    {R : Type 0} → Table R → Fate → HostTransferState → DevControlState R → HostTransferState
host_tried table TokenLost host control = transfer_after_reply_at host.stage None host
host_tried table fate host control = host_after_answer fate host (effect_reached table host control)

-- endpoint 0 after a try
abbrev pub control_tried :
    {R : Type 0} → Table R → Fate → HostTransferState → DevControlState R → DevControlState R
control_tried table TokenLost host control = control
control_tried table fate host control =
    after_ack_if table (is_acknowledged fate host (effect_reached table host control))
    (control_after table (effect_reached table host control) control.requests)

-- an effect carries out a write
abbrev pub is_applied : Effect → Bool
is_applied (Applies bytes) = true
is_applied _ = false

-- whether a write takes effect in a try: where its first packets arrive, and ask for the status of an accepted write
abbrev pub takes_effect : {R : Type 0} → Table R → Fate → HostTransferState → DevControlState R → Bool
takes_effect table TokenLost host control = false
takes_effect table fate host control = is_applied (effect_reached table host control)
