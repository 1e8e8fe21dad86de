-- One try of a piece of an accepted request, by the direction of the piece.
use Rattle.std.proofs.Common.{◌≡◌, ℕ, refl, ◌∙◌, ap, subst, Bool, true, false, ◌&&◌, List, Option, Some, None}
use Rattle.usb_packet.specs.declared.packet.Packet.{Packet}
use Rattle.usb_packet.specs.declared.packet.Packet.TheVariants as packets
use Rattle.usb_transact.specs.declared.transaction.Fate.{Fate}
use Rattle.usb_transact.specs.declared.transaction.Fate.TheVariants.{Clean, TokenLost, ReplyLost, AckLost}
use Rattle.usb_control.specs.declared.device.Stage.{Stage}
use Rattle.usb_control.specs.declared.device.LastPacket.TheVariants as last_packets
use Rattle.usb_control.specs.declared.host.HostStage.{HostStage}
use Rattle.usb_control.specs.declared.host.HostStage.TheVariants as tries
use Rattle.usb_control.specs.Requests.{PrepareGives, ApplyGives, AnswerOf}
use Rattle.usb_control.specs.Packets.{data_packet}
use Rattle.usb_control.specs.Device.{DevControlState, Effect, Answers, Does, stage_after_ack, effect_of_ack}
use Rattle.usb_control.specs.Host.{HostTransferState, asks_at, transfer_after_reply_at, acknowledges_at, with_stage}
use Rattle.usb_control.specs.Transaction.{TransactsAt, AckComes, effect_of_stage, reply_after_fate, loses_nothing}
use Rattle.usb_control.specs.Transfer.{Shape, Decision, Position, Place, place_after_silence}
use Rattle.usb_control.specs.Positions.{BothAreAt, TransferIsAt}
use Rattle.usb_control.proofs.StepLemmas.{at, silent_stands, moved}
use Rattle.usb_control.proofs.RefusedLemmas.{IsPiece, none_taken, unacknowledged}

ack_unacknowledged : (stage after : HostStage) → acknowledges_at stage (Some packets.Ack) after ≡ false
ack_unacknowledged (tries.DataIn one) after = refl
ack_unacknowledged (tries.DataOut sent one) after = refl
ack_unacknowledged tries.StatusIn after = refl
ack_unacknowledged tries.StatusOut after = refl
ack_unacknowledged tries.Setup after = refl
ack_unacknowledged tries.Done after = refl
ack_unacknowledged (tries.Failed fault) after = refl

-- the place after a piece that goes out, where this position follows
abbrev pub out_place : Fate → Position → Position → Position → Decision → Bool → ℕ → Place
out_place TokenLost p d n q a t = place_after_silence (at p d q a t)
out_place ReplyLost p d n q a t = place_after_silence (at p n q a t)
out_place AckLost p d n q a t = place_after_silence (at p n q a t)
out_place Clean p d n q a t = at n n q a 0

out_lost : {R : Type 0} (answer_of : AnswerOf R) (shape : Shape) (sends : List ℕ) (p n : Position) (q : Decision)
    (a : Bool) (t : ℕ) (host : HostTransferState) (stage : HostStage) (old mid : DevControlState R)
    (after : HostTransferState) (new : DevControlState R) → IsPiece stage
    → BothAreAt answer_of shape sends (at p n q a t) host mid → mid.requests ≡ old.requests
    → after ≡ transfer_after_reply_at stage None host → new ≡ mid
    → (new.requests ≡ old.requests)
    × TransferIsAt answer_of shape sends (place_after_silence (at p n q a t)) after new
out_lost answer_of shape sends p n q a t host stage old mid after new piece u same e f =
    (ap (λ c. c.requests) f ∙ same, moved answer_of shape sends _ _ after _ new (e ∙ none_taken stage host piece) f (silent_stands answer_of shape sends p n q a t host mid u))

pub out_shown : {R : Type 0} (prepare_gives : PrepareGives R) (apply_gives : ApplyGives R) (answer_of : AnswerOf R)
    (shape : Shape) (sends : List ℕ) (fate : Fate) (p d n : Position) (q : Decision) (a : Bool) (t : ℕ)
    (host : HostTransferState) (stage after_stage : HostStage) (device_stage device_after : Stage) (bytes : List ℕ)
    (old : DevControlState R) (after : HostTransferState) (new : DevControlState R) → IsPiece stage
    → asks_at stage ≡ false → transfer_after_reply_at stage (Some packets.Ack) host ≡ with_stage after_stage host
    → effect_of_stage stage host.setup bytes device_stage (answer_of old.requests)
    ≡ Answers (Some packets.Ack) device_after last_packets.Nothing
    → BothAreAt answer_of shape sends (at p d q a t) host old
    → ((m : DevControlState R) → m.stage ≡ device_after → m.requests ≡ old.requests
    → BothAreAt answer_of shape sends (at p n q a t) host m)
    → ((m : DevControlState R) → m.stage ≡ device_after → m.requests ≡ old.requests
    → BothAreAt answer_of shape sends (at n n q a 0) (with_stage after_stage host) m)
    → TransactsAt prepare_gives apply_gives answer_of fate stage device_stage bytes host old after new
    → (new.requests ≡ old.requests) × TransferIsAt answer_of shape sends (out_place fate p d n q a t) after new
out_shown prepare_gives apply_gives answer_of shape sends TokenLost p d n q a t host stage after_stage device_stage device_after bytes old after new piece asks took effect u has goes (e, f) =
    out_lost answer_of shape sends p d q a t host stage old old after new piece u refl e f
out_shown prepare_gives apply_gives answer_of shape sends ReplyLost p d n q a t host stage after_stage device_stage device_after bytes old after new piece asks took effect u has goes (mid, answer, does, e, f) =
    let does' = subst (λ (x : Effect). Does prepare_gives apply_gives x old.requests mid answer) effect does in
    let same = ap (λ c. c.requests) does'.0 in
    out_lost answer_of shape sends p n q a t host stage old mid after new piece (has mid (ap (λ c. c.stage) does'.0) same) same e f
out_shown prepare_gives apply_gives answer_of shape sends AckLost p d n q a t host stage after_stage device_stage device_after bytes old after new piece asks took effect u has goes (mid, answer, does, e, f) =
    let does' = subst (λ (x : Effect). Does prepare_gives apply_gives x old.requests mid answer) effect does in
    let same = ap (λ c. c.requests) does'.0 in
    let e' = subst
    (λ (x : Bool). after ≡ transfer_after_reply_at stage (reply_after_fate AckLost x answer) host) asks e in
    out_lost answer_of shape sends p n q a t host stage old mid after new piece (has mid (ap (λ c. c.stage) does'.0) same) same e' f
out_shown prepare_gives apply_gives answer_of shape sends Clean p d n q a t host stage after_stage device_stage device_after bytes old after new piece asks took effect u has goes (mid, answer, does, e, f) =
    let does' = subst (λ (x : Effect). Does prepare_gives apply_gives x old.requests mid answer) effect does in
    let same = ap (λ c. c.requests) does'.0 in
    let e' = rw does'.1 at e in
    let f' = rw does'.1 at f in
    let new_is = unacknowledged prepare_gives apply_gives answer_of true _ mid new (ack_unacknowledged stage after.stage) f' in
    (ap (λ c. c.requests) new_is ∙ same, moved answer_of shape sends (at n n q a 0) _ after _ new (e' ∙ took) new_is (goes mid (ap (λ c. c.stage) does'.0) same))

-- the place after a piece that comes, where the host is then there, and the device there
abbrev pub in_place : Fate → Position → Position → Position → Position → Decision → Bool → ℕ → Place
in_place TokenLost p d p_after d_after q a t = place_after_silence (at p d q a t)
in_place ReplyLost p d p_after d_after q a t = place_after_silence (at p d q a t)
in_place AckLost p d p_after d_after q a t = at p_after d q a 0
in_place Clean p d p_after d_after q a t = at p_after d_after q a 0

-- what the host makes of the data
pub record Takes (host host_after : HostTransferState) (stage : HostStage) (one : Bool) (payload : List ℕ) : Type 0 where
  pub asks : asks_at stage ≡ true
  pub takes : transfer_after_reply_at stage (Some (data_packet one payload)) host ≡ host_after
  pub says : acknowledges_at stage (Some (data_packet one payload)) host_after.stage ≡ true

in_ack : {R : Type 0} (prepare_gives : PrepareGives R) (apply_gives : ApplyGives R) (answer_of : AnswerOf R)
    (b : Bool) (stage : Stage) (mid new : DevControlState R) → b ≡ true → mid.stage ≡ stage
    → mid.last_packet ≡ last_packets.Answered → AckComes prepare_gives apply_gives answer_of b mid new
    → (new.stage ≡ stage_after_ack (answer_of mid.requests) stage) × (new.requests ≡ mid.requests)
in_ack prepare_gives apply_gives answer_of b stage mid new e m h f =
    let f1 = subst (λ (x : Bool). AckComes prepare_gives apply_gives answer_of x mid new) e f in
    let effect : effect_of_ack (answer_of mid.requests) mid.stage mid.last_packet
    ≡ Answers None (stage_after_ack (answer_of mid.requests) stage) last_packets.Nothing = rw (m, h) refl in
    let f2 = subst (λ (x : Effect). Does prepare_gives apply_gives x mid.requests new None) effect f1 in
    (ap (λ c. c.stage) f2.0, ap (λ c. c.requests) f2.0)

pub in_shown : {R : Type 0} (prepare_gives : PrepareGives R) (apply_gives : ApplyGives R) (answer_of : AnswerOf R)
    (shape : Shape) (sends : List ℕ) (fate : Fate) (p d p_after d_after : Position) (q : Decision) (a : Bool) (t : ℕ)
    (host host_after : HostTransferState) (stage : HostStage) (device_stage : Stage) (one : Bool) (payload : List ℕ)
    (mid : DevControlState R) (answer : Option Packet) (after : HostTransferState) (new : DevControlState R)
    → ¬ (fate ≡ TokenLost) → IsPiece stage → Takes host host_after stage one payload → mid.stage ≡ device_stage
    → mid.last_packet ≡ last_packets.Answered → answer ≡ Some (data_packet one payload)
    → BothAreAt answer_of shape sends (at p d q a t) host mid
    → BothAreAt answer_of shape sends (at p_after d q a 0) host_after mid
    → ((m : DevControlState R) → m.stage ≡ stage_after_ack (answer_of mid.requests) device_stage
    → m.requests ≡ mid.requests → BothAreAt answer_of shape sends (at p_after d_after q a 0) host_after m)
    → after ≡ transfer_after_reply_at stage (reply_after_fate fate (asks_at stage) answer) host
    → AckComes prepare_gives apply_gives answer_of
    (loses_nothing fate && acknowledges_at stage (reply_after_fate fate (asks_at stage) answer) after.stage) mid new
    → (new.requests ≡ mid.requests)
    × TransferIsAt answer_of shape sends (in_place fate p d p_after d_after q a t) after new
in_shown prepare_gives apply_gives answer_of shape sends TokenLost p d p_after d_after q a t host host_after stage device_stage one payload mid answer after new arrives piece takes m h s lost late goes e f = absurd (arrives refl)
in_shown prepare_gives apply_gives answer_of shape sends ReplyLost p d p_after d_after q a t host host_after stage device_stage one payload mid answer after new arrives piece takes m h s lost late goes e f =
    out_lost answer_of shape sends p d q a t host stage mid mid after new piece lost refl e f
in_shown prepare_gives apply_gives answer_of shape sends AckLost p d p_after d_after q a t host host_after stage device_stage one payload mid answer after new arrives piece takes m h s lost late goes e f =
    let e1 = subst
    (λ (x : Bool). after ≡ transfer_after_reply_at stage (reply_after_fate AckLost x answer) host) takes.asks e in
    let e2 = rw s at e1 in
    (ap (λ c. c.requests) f, moved answer_of shape sends (at p_after d q a 0) _ after _ new (e2 ∙ takes.takes) f late)
in_shown prepare_gives apply_gives answer_of shape sends Clean p d p_after d_after q a t host host_after stage device_stage one payload mid answer after new arrives piece takes m h s lost late goes e f =
    let e2 = rw s at e in
    let after_is = e2 ∙ takes.takes in
    let says : acknowledges_at stage answer after.stage ≡ true = rw (s, after_is) takes.says in
    let acked = in_ack prepare_gives apply_gives answer_of (acknowledges_at stage answer after.stage) device_stage mid new says m h f in
    (acked.1, moved answer_of shape sends (at p_after d_after q a 0) _ after _ new after_is refl (goes new acked.0 acked.1))
