-- Where what answers requests does so by functions, what a packet brings about and a try are their functions.
use Rattle.std.proofs.Common.{◌≡◌, ◌↔◌, Bool, true, false, ◌&&◌, Option, None, refl, ap, sym, ◌∙◌, subst}
use Rattle.usb_packet.specs.declared.packet.Packet.{Packet}
use Rattle.usb_transact.specs.declared.transaction.Fate.{Fate}
use Rattle.usb_transact.specs.declared.transaction.Fate.TheVariants.{Clean, TokenLost, ReplyLost, AckLost}
use Rattle.usb_control.specs.declared.device.Stage.{Stage}
use Rattle.usb_control.specs.declared.device.Stage.TheVariants.{StatusIn}
use Rattle.usb_control.specs.declared.device.LastPacket.{LastPacket}
use Rattle.usb_control.specs.declared.device.LastPacket.TheVariants as last_packets
use Rattle.usb_control.specs.SetupBytes.{setup_of, reads}
use Rattle.usb_control.specs.Device.{DevControlState, Effect, Answers, Decides, Applies, Does, stage_after_decision, effect_of_ack}
use Rattle.usb_control.specs.Host.{HostTransferState, asks_at, transfer_after_reply_at, acknowledges_at}
use Rattle.usb_control.specs.Transaction.{reply_after_fate, loses_nothing, AckComes, Arrives, Transacts}
use Rattle.usb_control.specs.TryFunctions.{Table, PreparesBy, AppliesBy, control_after, answer_to, effect_reached, reply_received, host_after_answer, is_acknowledged, after_ack_if, host_tried, control_tried}

rebuilt :
    {R : Type 0} (c : DevControlState R) (requests : R) (stage : Stage) (last_packet : LastPacket)
    → c.requests ≡ requests → c.stage ≡ stage → c.last_packet ≡ last_packet
    → c ≡ record { requests = requests; stage = stage; last_packet = last_packet }
rebuilt {R} c requests stage last_packet q s h =
    ap (λ (x : R). let d : DevControlState R = record { requests = x; stage = c.stage; last_packet = c.last_packet } in d) q
    ∙ ap (λ (x : Stage). let d : DevControlState R = record { requests = requests; stage = x; last_packet = c.last_packet } in d) s
    ∙ ap (λ (x : LastPacket). let d : DevControlState R =
    record { requests = requests; stage = stage; last_packet = x } in d) h

pub does_control :
    {R : Type 0} (t : Table R) (e : Effect) (old : R) (new : DevControlState R) (result : Option Packet)
    → Does (PreparesBy t) (AppliesBy t) e old new result → new ≡ control_after t e old
does_control t (Answers answer stage last_packet) old new result h = h.0
does_control t (Decides bytes) old new result (said, gives, stage, last_packet, is) =
    rebuilt new (t.prepared old (setup_of bytes))
    (stage_after_decision (t.accepts old (setup_of bytes)) (reads (setup_of bytes))
    (setup_of bytes).length) last_packets.Nothing
    gives.1 (stage
    ∙ ap (λ (b : Bool). stage_after_decision b (reads (setup_of bytes)) (setup_of bytes).length) gives.0) last_packet
does_control t (Applies bytes) old new result h = rebuilt new (t.applied old bytes) StatusIn last_packets.Answered h.0 h.1 h.2

pub does_answer :
    {R : Type 0} (t : Table R) (e : Effect) (old : R) (new : DevControlState R) (result : Option Packet)
    → Does (PreparesBy t) (AppliesBy t) e old new result → result ≡ answer_to e
does_answer t (Answers answer stage last_packet) old new result h = h.1
does_answer t (Decides bytes) old new result (said, gives, stage, last_packet, is) = is
does_answer t (Applies bytes) old new result h = h.3

acks :
    {R : Type 0} (t : Table R) (b : Bool) (mid new : DevControlState R)
    → AckComes (PreparesBy t) (AppliesBy t) t.answer_of b mid new → new ≡ after_ack_if t b mid
acks t true mid new h =
    does_control t (effect_of_ack (t.answer_of mid.requests) mid.stage mid.last_packet) mid.requests new None h
acks t false mid new h = h

-- both ends after a try whose first packets arrive
Computes : {R : Type 0} → Table R → Fate → HostTransferState → DevControlState R → HostTransferState → DevControlState R → Type 0
Computes t fate host old after new =
    (after ≡ host_after_answer fate host (effect_reached t host old))
    × (new ≡ after_ack_if t (is_acknowledged fate host (effect_reached t host old))
    (control_after t (effect_reached t host old) old.requests))

arrives :
    {R : Type 0} (t : Table R) (fate : Fate) (host : HostTransferState) (old : DevControlState R)
    (after : HostTransferState) (new : DevControlState R)
    → Arrives (PreparesBy t) (AppliesBy t) t.answer_of fate host.stage old.stage host.bytes host old after new
    → Computes t fate host old after new
unfolding Computes
arrives {R} t fate host old after new (mid, answer, does, took, ack) =
    let e = effect_reached t host old in
    let answer_is = does_answer t e old.requests mid answer does in
    let host_is =
    took ∙ ap
    (λ (a : Option Packet). transfer_after_reply_at host.stage
    (reply_after_fate fate (asks_at host.stage) a) host) answer_is in (
      host_is,
      acks t (loses_nothing fate
          && acknowledges_at host.stage (reply_after_fate fate (asks_at host.stage) answer) after.stage) mid new ack
          ∙ ap (λ (a : Option Packet). after_ack_if t
          (loses_nothing fate
          && acknowledges_at host.stage (reply_after_fate fate (asks_at host.stage) a) after.stage) mid) answer_is
          ∙ ap (λ (h : HostTransferState). after_ack_if t
          (loses_nothing fate && acknowledges_at host.stage (reply_received fate host e) h.stage) mid) host_is
          ∙ ap (after_ack_if t (is_acknowledged fate host e)) (does_control t e old.requests mid answer does),
    )

-- what the functions give is a try
does_computed :
    {R : Type 0} (t : Table R) (e : Effect) (old : R)
    → Does (PreparesBy t) (AppliesBy t) e old (control_after t e old) (answer_to e)
does_computed t (Answers answer stage last_packet) old = (refl, refl)
does_computed t (Decides bytes) old = (t.accepts old (setup_of bytes), (refl, refl), refl, refl, refl)
does_computed t (Applies bytes) old = (refl, refl, refl, refl)

ack_does :
    {R : Type 0} (t : Table R) (requests : R) (stage : Stage) (last_packet : LastPacket)
    → let effect = effect_of_ack (t.answer_of requests) stage last_packet in
    Does (PreparesBy t) (AppliesBy t) effect requests (control_after t effect requests) None
ack_does t requests stage last_packets.Answered = (refl, refl)
ack_does t requests stage last_packets.Nothing = (refl, refl)
ack_does t requests stage last_packets.Setup = (refl, refl)
ack_does t requests stage last_packets.Out = (refl, refl)

acks_computed :
    {R : Type 0} (t : Table R) (b : Bool) (c : DevControlState R)
    → AckComes (PreparesBy t) (AppliesBy t) t.answer_of b c (after_ack_if t b c)
acks_computed t true c = ack_does t c.requests c.stage c.last_packet
acks_computed t false c = refl

arrives_computed :
    {R : Type 0} (t : Table R) (fate : Fate) (host : HostTransferState) (c : DevControlState R)
    → let e = effect_reached t host c in
    Arrives (PreparesBy t) (AppliesBy t) t.answer_of fate host.stage c.stage host.bytes host c
    (host_after_answer fate host e) (after_ack_if t (is_acknowledged fate host e) (control_after t e c.requests))
arrives_computed t fate host c =
    let e = effect_reached t host c in
    (control_after t e c.requests, answer_to e, does_computed t e c.requests, refl, acks_computed t (is_acknowledged fate host e) (control_after t e c.requests))

pub transacts_computed :
    {R : Type 0} (t : Table R) (fate : Fate) (host : HostTransferState) (c : DevControlState R)
    → Transacts (PreparesBy t) (AppliesBy t) t.answer_of fate host c (host_tried t fate host c) (control_tried t fate host c)
transacts_computed t TokenLost host c = (refl, refl)
transacts_computed t Clean host c = arrives_computed t Clean host c
transacts_computed t ReplyLost host c = arrives_computed t ReplyLost host c
transacts_computed t AckLost host c = arrives_computed t AckLost host c

transacts_is :
    {R : Type 0} (t : Table R) (fate : Fate) (host : HostTransferState) (old : DevControlState R)
    (after : HostTransferState) (new : DevControlState R)
    → Transacts (PreparesBy t) (AppliesBy t) t.answer_of fate host old after new
    → (after ≡ host_tried t fate host old) × (new ≡ control_tried t fate host old)
unfolding Computes
transacts_is t TokenLost host old after new h = h
transacts_is t Clean host old after new h = arrives t Clean host old after new h
transacts_is t ReplyLost host old after new h = arrives t ReplyLost host old after new h
transacts_is t AckLost host old after new h = arrives t AckLost host old after new h

-- a try is its function
pub tries_are :
    {R : Type 0} (t : Table R) (fate : Fate) (host : HostTransferState) (old : DevControlState R)
    (after : HostTransferState) (new : DevControlState R)
    → Transacts (PreparesBy t) (AppliesBy t) t.answer_of fate host old after new
    ↔ ((after ≡ host_tried t fate host old) × (new ≡ control_tried t fate host old))
tries_are t fate host old after new = (
  λ h. transacts_is t fate host old after new h,
  λ e.
      subst (λ (h : HostTransferState). Transacts (PreparesBy t) (AppliesBy t) t.answer_of fate host old h new) (sym e.0)
      (subst (λ (c : DevControlState _). Transacts (PreparesBy t) (AppliesBy t) t.answer_of fate host old (host_tried t fate host old) c) (sym e.1)
      (transacts_computed t fate host old)),
)
