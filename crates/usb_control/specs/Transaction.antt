-- One transaction of endpoint 0 over a bus that may lose a packet (USB 2.0, 8.5.3): what each end makes of the other.
use Rattle.std.specs.Prelude.{◌≡◌, ℕ, Bool, true, false, ◌&&◌, List, [], Option, None}
use Rattle.usb_packet.specs.declared.packet.Packet.{Packet}
use Rattle.usb_transact.specs.declared.transaction.Fate.{Fate}
use Rattle.usb_transact.specs.declared.transaction.Fate.TheVariants.{Clean, TokenLost, AckLost}
use Rattle.usb_control.specs.declared.setup.Setup.{Setup as Request}
use Rattle.usb_control.specs.declared.device.Stage.{Stage}
use Rattle.usb_control.specs.declared.device.LastPacket.TheVariants.{Nothing}
use Rattle.usb_control.specs.declared.host.HostStage.{HostStage}
use Rattle.usb_control.specs.declared.host.HostStage.TheVariants.{Setup, DataIn, DataOut, StatusIn, StatusOut}
use Rattle.usb_control.specs.SetupBytes.{setup_bytes}
use Rattle.usb_control.specs.Requests.{PrepareGives, ApplyGives, AnswerOf}
use Rattle.usb_control.specs.Pieces.{piece_from}
use Rattle.usb_control.specs.Device.{DevControlState, Effect, Answers, Decides, Does, effect_of_in, effect_of_out, effect_of_ack}
use Rattle.usb_control.specs.Host.{HostTransferState, asks_at, transfer_after_reply_at, acknowledges_at}

-- what the packets of a try bring about, where they reach the device at this stage
abbrev pub effect_of_stage : HostStage → Request → List ℕ → Stage → Option (List ℕ) → Effect
effect_of_stage Setup request bytes stage answer = Decides (setup_bytes request)
effect_of_stage (DataIn one) request bytes stage answer = effect_of_in answer stage
effect_of_stage StatusIn request bytes stage answer = effect_of_in answer stage
effect_of_stage (DataOut sent one) request bytes stage answer =
    effect_of_out stage one (piece_from bytes sent)
effect_of_stage StatusOut request bytes stage answer = effect_of_out stage true []
effect_of_stage _ request bytes stage answer = Answers None stage Nothing

-- what the host receives of an answer: where it asked for data, AckLost isn't the loss of the answer
abbrev pub reply_after_fate : Fate → Bool → Option Packet → Option Packet
reply_after_fate Clean asks answer = answer
reply_after_fate AckLost true answer = answer
reply_after_fate fate asks answer = None

-- the ACK of a clean transaction, where the host sent one
abbrev pub AckComes :
    {R : Type 0} → PrepareGives R → ApplyGives R → AnswerOf R → Bool → DevControlState R
    → DevControlState R → Type 0
AckComes prepare_gives apply_gives answer_of true old new =
    Does prepare_gives apply_gives (effect_of_ack (answer_of old.requests) old.stage old.last_packet)
    old.requests new None
AckComes prepare_gives apply_gives answer_of false old new = new ≡ old

-- nothing is lost
abbrev pub loses_nothing : Fate → Bool
loses_nothing Clean = true
loses_nothing _ = false

-- a transaction whose first packets arrive, where the host and the device are at these stages
abbrev pub Arrives :
    {R : Type 0} → PrepareGives R → ApplyGives R → AnswerOf R → Fate → HostStage → Stage → List ℕ
    → HostTransferState → DevControlState R → HostTransferState → DevControlState R → Type 0
Arrives {R} prepare_gives apply_gives answer_of fate stage device bytes host old after new =
    (mid : DevControlState R) × (answer : Option Packet)
    × Does prepare_gives apply_gives
    (effect_of_stage stage host.setup bytes device (answer_of old.requests)) old.requests mid
    answer
    × (after ≡ transfer_after_reply_at stage (reply_after_fate fate (asks_at stage) answer) host)
    × AckComes prepare_gives apply_gives answer_of
    (loses_nothing fate && acknowledges_at stage (reply_after_fate fate (asks_at stage) answer) after.stage)
    mid new

-- a transaction of which the fate may lose the first packets, where host and device are at these stages
abbrev pub TransactsAt :
    {R : Type 0} → PrepareGives R → ApplyGives R → AnswerOf R → Fate → HostStage → Stage → List ℕ
    → HostTransferState → DevControlState R → HostTransferState → DevControlState R → Type 0
TransactsAt prepare_gives apply_gives answer_of TokenLost stage device bytes host old after new =
    (after ≡ transfer_after_reply_at stage None host) × (new ≡ old)
TransactsAt prepare_gives apply_gives answer_of fate stage device bytes host old after new =
    Arrives prepare_gives apply_gives answer_of fate stage device bytes host old after
    new

-- one transaction of endpoint 0 by its fate: what each end makes of what arrives
abbrev pub Transacts :
    {R : Type 0} → PrepareGives R → ApplyGives R → AnswerOf R → Fate → HostTransferState
    → DevControlState R → HostTransferState → DevControlState R → Type 0
Transacts prepare_gives apply_gives answer_of fate host old after new =
    TransactsAt prepare_gives apply_gives answer_of fate host.stage old.stage host.bytes host old
    after new
