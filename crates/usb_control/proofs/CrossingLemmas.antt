-- Over a bus that loses packets, a transaction is that of its fate.
use Rattle.std.proofs.Common.{◌≡◌, ◌∙◌, ℕ, refl, sym, ap, subst, Bool, true, false, List, Option, Some, None}
use Rattle.usb_packet.specs.declared.packet.Packet.{Packet}
use Rattle.usb_packet.specs.declared.packet.Packet.TheVariants as packets
use Rattle.usb_packet.specs.PacketEncoding.{encoding}
use Rattle.usb_transact.specs.declared.transaction.Fate.{Fate}
use Rattle.usb_transact.specs.declared.transaction.Fate.TheVariants.{Clean, TokenLost, ReplyLost, AckLost}
use Rattle.usb_control.specs.declared.setup.Setup.{Setup as Request}
use Rattle.usb_control.specs.declared.device.Stage.{Stage}
use Rattle.usb_control.specs.declared.device.LastPacket.{LastPacket}
use Rattle.usb_control.specs.declared.device.LastPacket.TheVariants as last_packets
use Rattle.usb_control.specs.declared.host.HostStage.{HostStage}
use Rattle.usb_control.specs.declared.host.HostStage.TheVariants as tries
use Rattle.usb_transact.specs.declared.bus.Phase.{Phase}
use Rattle.usb_transact.specs.declared.bus.Phase.TheVariants.{Token, HostData, Acknowledgement}
use Rattle.usb_transact.specs.Bus.{Arrivals, Carries, Replies}
use Rattle.usb_transact.specs.Fate.{arrives_under}
use Rattle.usb_transact.proofs.TableLemmas.{read_whole, read_lost}
use Rattle.usb_control.specs.Requests.{PrepareGives, ApplyGives, AnswerOf}
use Rattle.usb_control.specs.Device.{DevControlState, Does, effect, effect_of_ack}
use Rattle.usb_control.specs.Host.{HostTransferState, IsRunning, asks_at, kind_of, token_of, payload_at, payload_of, transfer_after_reply, transfer_after_reply_at, acknowledges, acknowledges_at}
use Rattle.usb_control.specs.Transaction.{AckComes, Transacts, effect_of_stage, reply_after_fate}
use Rattle.usb_control.specs.Crossing.{Receives, HearsData, PacketReaches, Acknowledges, Crosses, TokenIsAnswered, asks_for_data, phase_of}

-- a phase in which packets arrive as they were sent, and one in which they are lost
abbrev IsWhole : Arrivals → Phase → Type 0
IsWhole arrivals phase = (bytes : List ℕ) → arrivals phase bytes ≡ Some bytes

abbrev IsLost : Arrivals → Phase → Type 0
IsLost arrivals phase = (bytes : List ℕ) → arrivals phase bytes ≡ None

hears_whole : {R : Type 0} (prepare_gives : PrepareGives R) (apply_gives : ApplyGives R) (answer_of : AnswerOf R)
    (arrivals : Arrivals) (phase : Phase) (sent : Packet) (came : Option Packet) (old new : DevControlState R)
    (answer : Option Packet) → IsWhole arrivals phase → Carries arrivals phase sent came
    → Receives prepare_gives apply_gives answer_of came old new answer
    → Does prepare_gives apply_gives
    (effect (answer_of old.requests) old.stage old.last_packet sent) old.requests new answer
hears_whole prepare_gives apply_gives answer_of arrivals phase sent came old new answer whole c h =
    subst (λ (x : Option Packet). Receives prepare_gives apply_gives answer_of x old new answer)
    (read_whole arrivals phase sent came (whole (encoding sent)) c) h

hears_lost : {R : Type 0} (prepare_gives : PrepareGives R) (apply_gives : ApplyGives R) (answer_of : AnswerOf R)
    (arrivals : Arrivals) (phase : Phase) (sent : Packet) (came : Option Packet) (old new : DevControlState R)
    (answer : Option Packet) → IsLost arrivals phase → Carries arrivals phase sent came
    → Receives prepare_gives apply_gives answer_of came old new answer → (new ≡ old) × (answer ≡ None)
hears_lost prepare_gives apply_gives answer_of arrivals phase sent came old new answer lost c h =
    subst (λ (x : Option Packet). Receives prepare_gives apply_gives answer_of x old new answer)
    (read_lost arrivals phase sent came (lost (encoding sent)) c) h

-- the data packet after a token that was heard
data_heard_whole : {R : Type 0} (prepare_gives : PrepareGives R) (apply_gives : ApplyGives R) (answer_of : AnswerOf R)
    (arrivals : Arrivals) (sent : Packet) (requests : R) (stage : Stage) (last_packet : LastPacket)
    (mid : DevControlState R) (before : Option Packet) (new : DevControlState R) (answer : Option Packet)
    → IsWhole arrivals HostData → mid ≡ record { requests = requests; stage = stage; last_packet = last_packet }
    → HearsData prepare_gives apply_gives answer_of arrivals (Some sent) mid before new answer
    → Does prepare_gives apply_gives (effect (answer_of requests) stage last_packet sent) requests new answer
data_heard_whole prepare_gives apply_gives answer_of arrivals sent requests stage last_packet mid before new answer whole is (came, c, h) =
    subst (λ (m : DevControlState _). Does prepare_gives apply_gives (effect (answer_of m.requests) m.stage m.last_packet sent) m.requests new answer) is
    (hears_whole prepare_gives apply_gives answer_of arrivals HostData sent came mid new answer whole c h)

-- what the host sends first reaches the device
reach_at : {R : Type 0} (prepare_gives : PrepareGives R) (apply_gives : ApplyGives R) (answer_of : AnswerOf R)
    (arrivals : Arrivals) (stage : HostStage) (addr : ℕ) (request : Request) (bytes : List ℕ)
    (old mid : DevControlState R) (before : Option Packet) (new : DevControlState R) (answer : Option Packet)
    → IsRunning stage → IsWhole arrivals HostData
    → Does prepare_gives apply_gives
    (effect (answer_of old.requests) old.stage old.last_packet
    (packets.Token (kind_of stage) addr 0)) old.requests mid before
    → HearsData prepare_gives apply_gives answer_of arrivals (payload_at stage request bytes) mid before new answer
    → Does prepare_gives apply_gives
    (effect_of_stage stage request bytes old.stage (answer_of old.requests)) old.requests new answer
reach_at prepare_gives apply_gives answer_of arrivals tries.Setup addr request bytes old mid before new answer going whole token h = data_heard_whole prepare_gives apply_gives answer_of arrivals _ old.requests old.stage last_packets.Setup mid before new answer whole token.0 h
reach_at prepare_gives apply_gives answer_of arrivals (tries.DataOut sent one) addr request bytes old mid before new answer going whole token h = data_heard_whole prepare_gives apply_gives answer_of arrivals _ old.requests old.stage last_packets.Out mid before new answer whole token.0 h
reach_at prepare_gives apply_gives answer_of arrivals tries.StatusOut addr request bytes old mid before new answer going whole token h = data_heard_whole prepare_gives apply_gives answer_of arrivals _ old.requests old.stage last_packets.Out mid before new answer whole token.0 h
reach_at prepare_gives apply_gives answer_of arrivals (tries.DataIn one) addr request bytes old mid before new answer going whole token h = rw (h.0, h.1) token
reach_at prepare_gives apply_gives answer_of arrivals tries.StatusIn addr request bytes old mid before new answer going whole token h = rw (h.0, h.1) token
reach_at prepare_gives apply_gives answer_of arrivals tries.Done addr request bytes old mid before new answer going whole token h = cc
reach_at prepare_gives apply_gives answer_of arrivals (tries.Failed fault) addr request bytes old mid before new answer going whole token h = cc

reach_whole : {R : Type 0} (prepare_gives : PrepareGives R) (apply_gives : ApplyGives R) (answer_of : AnswerOf R)
    (arrivals : Arrivals) (stage : HostStage) (addr : ℕ) (request : Request) (bytes : List ℕ)
    (old new : DevControlState R) (answer : Option Packet) → IsRunning stage → IsWhole arrivals Token
    → IsWhole arrivals HostData
    → PacketReaches prepare_gives apply_gives answer_of arrivals (packets.Token (kind_of stage) addr 0)
    (payload_at stage request bytes) old new answer
    → Does prepare_gives apply_gives
    (effect_of_stage stage request bytes old.stage (answer_of old.requests)) old.requests new answer
reach_whole prepare_gives apply_gives answer_of arrivals stage addr request bytes old new answer going whole whole_data (came, mid, before, c, token, h) =
    reach_at prepare_gives apply_gives answer_of arrivals stage addr request bytes old mid before new answer going whole_data
    (hears_whole prepare_gives apply_gives answer_of arrivals Token (packets.Token (kind_of stage) addr 0) came old mid before whole c token) h

data_lost : {R : Type 0} (prepare_gives : PrepareGives R) (apply_gives : ApplyGives R) (answer_of : AnswerOf R) (arrivals : Arrivals) (payload : Option Packet) (old : DevControlState R) (before : Option Packet) (new : DevControlState R) (answer : Option Packet) → IsLost arrivals HostData → before ≡ None → HearsData prepare_gives apply_gives answer_of arrivals payload old before new answer → (new ≡ old) × (answer ≡ None)
data_lost prepare_gives apply_gives answer_of arrivals None old before new answer lost none h = (h.0, h.1 ∙ none)
data_lost prepare_gives apply_gives answer_of arrivals (Some sent) old before new answer lost none (came, c, h) = hears_lost prepare_gives apply_gives answer_of arrivals HostData sent came old new answer lost c h

reach_lost : {R : Type 0} (prepare_gives : PrepareGives R) (apply_gives : ApplyGives R) (answer_of : AnswerOf R)
    (arrivals : Arrivals) (token : Packet) (payload : Option Packet) (old new : DevControlState R)
    (answer : Option Packet) → IsLost arrivals Token → IsLost arrivals HostData
    → PacketReaches prepare_gives apply_gives answer_of arrivals token payload old new answer
    → (new ≡ old) × (answer ≡ None)
reach_lost prepare_gives apply_gives answer_of arrivals token payload old new answer lost lost_data (came, mid, before, c, first, h) =
    let none = hears_lost prepare_gives apply_gives answer_of arrivals Token token came old mid before lost c first in
    let then = data_lost prepare_gives apply_gives answer_of arrivals payload mid before new answer lost_data none.1 h in
    (then.0 ∙ none.0, then.1)

-- the host reads the answer
reply_whole : (arrivals : Arrivals) (phase : Phase) (answer reply : Option Packet) → IsWhole arrivals phase → Replies arrivals phase answer reply → reply ≡ answer
reply_whole arrivals phase None reply whole h = h
reply_whole arrivals phase (Some sent) reply whole h = read_whole arrivals phase sent reply (whole (encoding sent)) h

reply_lost : (arrivals : Arrivals) (phase : Phase) (answer reply : Option Packet) → IsLost arrivals phase → Replies arrivals phase answer reply → reply ≡ None
reply_lost arrivals phase None reply lost h = h
reply_lost arrivals phase (Some sent) reply lost h = read_lost arrivals phase sent reply (lost (encoding sent)) h

reply_late : (asks : Bool) (answer reply : Option Packet)
    → Replies (arrives_under AckLost) (phase_of asks) answer reply → reply ≡ reply_after_fate AckLost asks answer
reply_late true answer reply h = reply_whole (arrives_under AckLost) (phase_of true) answer reply (λ bytes. refl) h
reply_late false answer reply h = reply_lost (arrives_under AckLost) (phase_of false) answer reply (λ bytes. refl) h

reply_clean : (asks : Bool) (answer reply : Option Packet) → Replies (arrives_under Clean) (phase_of asks) answer reply → reply ≡ answer
reply_clean true answer reply h = reply_whole (arrives_under Clean) (phase_of true) answer reply (λ bytes. refl) h
reply_clean false answer reply h = reply_whole (arrives_under Clean) (phase_of false) answer reply (λ bytes. refl) h

reply_gone : (asks : Bool) (answer reply : Option Packet) → Replies (arrives_under ReplyLost) (phase_of asks) answer reply → reply ≡ None
reply_gone true answer reply h = reply_lost (arrives_under ReplyLost) (phase_of true) answer reply (λ bytes. refl) h
reply_gone false answer reply h = reply_lost (arrives_under ReplyLost) (phase_of false) answer reply (λ bytes. refl) h

-- nothing is acknowledged where nothing came
nothing_acknowledged : (stage after : HostStage) → acknowledges_at stage None after ≡ false
nothing_acknowledged tries.Setup after = refl
nothing_acknowledged (tries.DataIn one) after = refl
nothing_acknowledged (tries.DataOut sent one) after = refl
nothing_acknowledged tries.StatusIn after = refl
nothing_acknowledged tries.StatusOut after = refl
nothing_acknowledged tries.Done after = refl
nothing_acknowledged (tries.Failed fault) after = refl

-- an ACK has no answer
ack_is_silent : {R : Type 0} (prepare_gives : PrepareGives R) (apply_gives : ApplyGives R) (last_packet : LastPacket)
    (answer : Option (List ℕ)) (stage : Stage) (old : R) (new : DevControlState R) (said : Option Packet)
    → Does prepare_gives apply_gives (effect_of_ack answer stage last_packet) old new said
    → Does prepare_gives apply_gives (effect_of_ack answer stage last_packet) old new None
ack_is_silent prepare_gives apply_gives last_packets.Nothing answer stage old new said h = (h.0, refl)
ack_is_silent prepare_gives apply_gives last_packets.Setup answer stage old new said h = (h.0, refl)
ack_is_silent prepare_gives apply_gives last_packets.Out answer stage old new said h = (h.0, refl)
ack_is_silent prepare_gives apply_gives last_packets.Answered answer stage old new said h = (h.0, refl)

ack_clean : {R : Type 0} (prepare_gives : PrepareGives R) (apply_gives : ApplyGives R) (answer_of : AnswerOf R) (says : Bool) (old new : DevControlState R) → Acknowledges prepare_gives apply_gives answer_of (arrives_under Clean) says old new → AckComes prepare_gives apply_gives answer_of says old new
ack_clean prepare_gives apply_gives answer_of false old new h = h
ack_clean prepare_gives apply_gives answer_of true old new (came, answer, c, h) =
    ack_is_silent prepare_gives apply_gives old.last_packet (answer_of old.requests) old.stage old.requests new answer
    (hears_whole prepare_gives apply_gives answer_of (arrives_under Clean) Acknowledgement packets.Ack came old new answer (λ bytes. refl) c h)

ack_lost : {R : Type 0} (prepare_gives : PrepareGives R) (apply_gives : ApplyGives R) (answer_of : AnswerOf R) (says : Bool) (old new : DevControlState R) → Acknowledges prepare_gives apply_gives answer_of (arrives_under AckLost) says old new → new ≡ old
ack_lost prepare_gives apply_gives answer_of false old new h = h
ack_lost prepare_gives apply_gives answer_of true old new (came, answer, c, h) =
    (hears_lost prepare_gives apply_gives answer_of (arrives_under AckLost) Acknowledgement packets.Ack came old new answer (λ bytes. refl) c h).0

ack_unsent : {R : Type 0} (prepare_gives : PrepareGives R) (apply_gives : ApplyGives R) (answer_of : AnswerOf R) (arrivals : Arrivals) (stage : HostStage) (reply : Option Packet) (after : HostStage) (old new : DevControlState R) → reply ≡ None → Acknowledges prepare_gives apply_gives answer_of arrivals (acknowledges_at stage reply after) old new → new ≡ old
ack_unsent prepare_gives apply_gives answer_of arrivals stage reply after old new none h =
    let silent : acknowledges_at stage reply after ≡ false = ap (λ (x : Option Packet). acknowledges_at stage x after) none ∙ nothing_acknowledged stage after in
    subst (λ (b : Bool). Acknowledges prepare_gives apply_gives answer_of arrivals b old new) silent h

-- the token of a stage asks for data where the stage does
pub token_asks : (stage : HostStage) (addr : ℕ) → asks_for_data (packets.Token (kind_of stage) addr 0) ≡ asks_at stage
token_asks tries.Setup addr = refl
token_asks (tries.DataIn one) addr = refl
token_asks (tries.DataOut sent one) addr = refl
token_asks tries.StatusIn addr = refl
token_asks tries.StatusOut addr = refl
token_asks tries.Done addr = refl
token_asks (tries.Failed fault) addr = refl

-- a transaction is the token of a transfer with its data, the answer that is taken, and the ACK where one is sent
pub crosses_by_token : {R : Type 0} (prepare_gives : PrepareGives R) (apply_gives : ApplyGives R) (answer_of : AnswerOf R) (arrivals : Arrivals) (host : HostTransferState) (old mid : DevControlState R) (after : HostTransferState) (new : DevControlState R)
    (token : Packet) (payload reply : Option Packet) (is_sent : Bool)
    → token ≡ token_of host → payload ≡ payload_of host
    → TokenIsAnswered prepare_gives apply_gives answer_of arrivals token payload old mid reply
    → after ≡ transfer_after_reply reply host → is_sent ≡ acknowledges reply host
    → Acknowledges prepare_gives apply_gives answer_of arrivals is_sent mid new
    → Crosses prepare_gives apply_gives answer_of arrivals host old after new
crosses_by_token prepare_gives apply_gives answer_of arrivals host old mid after new token payload reply is_sent token_is payload_is answered took sent ack =
    let of_host : TokenIsAnswered prepare_gives apply_gives answer_of arrivals (token_of host) (payload_of host) old mid reply =
    subst (λ (p : Option Packet). TokenIsAnswered prepare_gives apply_gives answer_of arrivals (token_of host) p old mid reply) payload_is
    (subst (λ (t : Packet). TokenIsAnswered prepare_gives apply_gives answer_of arrivals t payload old mid reply) token_is answered) in
    record {
      mid = mid;
      answer = of_host.answer;
      reply = reply;
      reached = of_host.reached;
      replied =
          subst (λ (b : Bool). Replies arrivals (phase_of b) of_host.answer reply) (token_asks host.stage host.addr) of_host.replied;
      took_reply = took;
      acknowledged = subst (λ (b : Bool). Acknowledges prepare_gives apply_gives answer_of arrivals b mid new) sent ack;
    }

pub crosses_transacts : {R : Type 0} (prepare_gives : PrepareGives R) (apply_gives : ApplyGives R) (answer_of : AnswerOf R) (fate : Fate) (host : HostTransferState) (old : DevControlState R) (after : HostTransferState) (new : DevControlState R) → IsRunning host.stage → Crosses prepare_gives apply_gives answer_of (arrives_under fate) host old after new → Transacts prepare_gives apply_gives answer_of fate host old after new
crosses_transacts prepare_gives apply_gives answer_of TokenLost host old after new going x =
    let lost = reach_lost prepare_gives apply_gives answer_of (arrives_under TokenLost) _ _ old x.mid x.answer (λ bytes. refl) (λ bytes. refl) x.reached in
    let none = subst (λ (a : Option Packet). Replies (arrives_under TokenLost) (phase_of (asks_at host.stage)) a x.reply) lost.1 x.replied in (
      x.took_reply ∙ ap (λ (r : Option Packet). transfer_after_reply_at host.stage r host) none,
      ack_unsent prepare_gives apply_gives answer_of
          (arrives_under TokenLost) host.stage x.reply _ x.mid new none x.acknowledged ∙ lost.0,
    )
crosses_transacts prepare_gives apply_gives answer_of ReplyLost host old after new going x =
    let none = reply_gone (asks_at host.stage) x.answer x.reply x.replied in (
      x.mid,
      x.answer,
      reach_whole prepare_gives apply_gives answer_of (arrives_under ReplyLost) host.stage host.addr host.setup host.bytes old x.mid x.answer going (λ bytes. refl) (λ bytes. refl) x.reached,
      x.took_reply ∙ ap (λ (r : Option Packet). transfer_after_reply_at host.stage r host) none,
      ack_unsent prepare_gives apply_gives answer_of (arrives_under ReplyLost) host.stage x.reply _ x.mid new none x.acknowledged,
    )
crosses_transacts prepare_gives apply_gives answer_of AckLost host old after new going x =
    let last_packet = reply_late (asks_at host.stage) x.answer x.reply x.replied in (
      x.mid,
      x.answer,
      reach_whole prepare_gives apply_gives answer_of (arrives_under AckLost) host.stage host.addr host.setup host.bytes old x.mid x.answer going (λ bytes. refl) (λ bytes. refl) x.reached,
      x.took_reply ∙ ap (λ (r : Option Packet). transfer_after_reply_at host.stage r host) last_packet,
      ack_lost prepare_gives apply_gives answer_of _ x.mid new x.acknowledged,
    )
crosses_transacts prepare_gives apply_gives answer_of Clean host old after new going x =
    let last_packet = reply_clean (asks_at host.stage) x.answer x.reply x.replied in
    let says =
    subst (λ (r : Option Packet). Acknowledges prepare_gives apply_gives answer_of (arrives_under Clean)
    (acknowledges_at host.stage r
    (transfer_after_reply_at host.stage r host).stage) x.mid new) last_packet x.acknowledged in
    let took_it = x.took_reply ∙ ap (λ (r : Option Packet). transfer_after_reply_at host.stage r host) last_packet in (
      x.mid,
      x.answer,
      reach_whole prepare_gives apply_gives answer_of (arrives_under Clean) host.stage host.addr host.setup host.bytes old x.mid x.answer going (λ bytes. refl) (λ bytes. refl) x.reached,
      took_it,
      ack_clean prepare_gives apply_gives answer_of _ x.mid new (subst (λ (h : HostTransferState). Acknowledges prepare_gives apply_gives answer_of (arrives_under Clean) (acknowledges_at host.stage x.answer h.stage) x.mid new) (sym took_it) says),
    )
