-- One try of a piece of a refused request.
use Rattle.std.proofs.Common.{◌≡◌, ℕ, refl, ◌∙◌, ap, subst, Bool, true, false, ◌&&◌, List, Option, Some, None}
use Rattle.usb_packet.specs.declared.packet.Packet.{Packet}
use Rattle.usb_packet.specs.declared.packet.Packet.TheVariants as packets
use Rattle.usb_transact.specs.declared.transaction.Fate.{Fate}
use Rattle.usb_transact.specs.declared.transaction.Fate.TheVariants.{Clean, TokenLost, ReplyLost, AckLost}
use Rattle.usb_control.specs.declared.setup.Setup.{Setup as Request}
use Rattle.usb_control.specs.declared.device.Stage.TheVariants as stages
use Rattle.usb_control.specs.declared.fault.ControlFault.TheVariants as faults
use Rattle.usb_control.specs.declared.host.HostStage.{HostStage}
use Rattle.usb_control.specs.declared.host.HostStage.TheVariants as tries
use Rattle.usb_control.specs.Requests.{PrepareGives, ApplyGives, AnswerOf}
use Rattle.usb_control.specs.Device.{DevControlState, Effect, stall_effect, Does}
use Rattle.usb_control.specs.Host.{HostTransferState, asks_at, transfer_after_reply_at, acknowledges_at, after_no_answer, with_failure}
use Rattle.usb_control.specs.Transaction.{TransactsAt, AckComes, effect_of_stage, reply_after_fate}
use Rattle.usb_control.specs.Transfer.{Shape, Refused, Position, place_after_refusal}
use Rattle.usb_control.specs.Positions.{BothAreAt, TransferIsAt}
use Rattle.usb_control.proofs.StepLemmas.{at, silent_stands, moved, has_stands}

-- a data piece or a status is tried
abbrev pub IsPiece : HostStage → Type 0
IsPiece (tries.DataIn one) = Unit {0}
IsPiece (tries.DataOut sent one) = Unit {0}
IsPiece tries.StatusIn = Unit {0}
IsPiece tries.StatusOut = Unit {0}
IsPiece _ = ⊥

pub none_taken : (stage : HostStage) (host : HostTransferState) → IsPiece stage
    → transfer_after_reply_at stage None host ≡ after_no_answer host
none_taken (tries.DataIn one) host h = refl
none_taken (tries.DataOut sent one) host h = refl
none_taken tries.StatusIn host h = refl
none_taken tries.StatusOut host h = refl
none_taken tries.Setup host h = absurd h
none_taken tries.Done host h = absurd h
none_taken (tries.Failed fault) host h = absurd h

pub none_unacknowledged : (stage after : HostStage) → acknowledges_at stage None after ≡ false
none_unacknowledged (tries.DataIn one) after = refl
none_unacknowledged (tries.DataOut sent one) after = refl
none_unacknowledged tries.StatusIn after = refl
none_unacknowledged tries.StatusOut after = refl
none_unacknowledged tries.Setup after = refl
none_unacknowledged tries.Done after = refl
none_unacknowledged (tries.Failed fault) after = refl

stall_taken : (stage : HostStage) (host : HostTransferState) → IsPiece stage
    → transfer_after_reply_at stage (Some packets.Stall) host ≡ with_failure faults.Stalled host
stall_taken (tries.DataIn one) host h = refl
stall_taken (tries.DataOut sent one) host h = refl
stall_taken tries.StatusIn host h = refl
stall_taken tries.StatusOut host h = refl
stall_taken tries.Setup host h = absurd h
stall_taken tries.Done host h = absurd h
stall_taken (tries.Failed fault) host h = absurd h

stall_unacknowledged : (stage after : HostStage) → acknowledges_at stage (Some packets.Stall) after ≡ false
stall_unacknowledged (tries.DataIn one) after = refl
stall_unacknowledged (tries.DataOut sent one) after = refl
stall_unacknowledged tries.StatusIn after = refl
stall_unacknowledged tries.StatusOut after = refl
stall_unacknowledged tries.Setup after = refl
stall_unacknowledged tries.Done after = refl
stall_unacknowledged (tries.Failed fault) after = refl

stall_reached : (stage : HostStage) (request : Request) (bytes : List ℕ) (answer : Option (List ℕ)) → IsPiece stage
    → effect_of_stage stage request bytes stages.Idle answer ≡ stall_effect
stall_reached (tries.DataIn one) request bytes answer h = refl
stall_reached (tries.DataOut sent one) request bytes answer h = refl
stall_reached tries.StatusIn request bytes answer h = refl
stall_reached tries.StatusOut request bytes answer h = refl
stall_reached tries.Setup request bytes answer h = absurd h
stall_reached tries.Done request bytes answer h = absurd h
stall_reached (tries.Failed fault) request bytes answer h = absurd h

-- an ACK that wasn't sent
pub unacknowledged : {R : Type 0} (prepare_gives : PrepareGives R) (apply_gives : ApplyGives R) (answer_of : AnswerOf R) (clean b : Bool) (old new : DevControlState R) → b ≡ false → AckComes prepare_gives apply_gives answer_of (clean && b) old new → new ≡ old
unacknowledged prepare_gives apply_gives answer_of true b old new e h = subst (λ (x : Bool). AckComes prepare_gives apply_gives answer_of x old new) e h
unacknowledged prepare_gives apply_gives answer_of false b old new e h = h

refused_device : {R : Type 0} (answer_of : AnswerOf R) (shape : Shape) (sends : List ℕ) (p d : Position) (a : Bool)
    (t : ℕ) (host : HostTransferState) (old new : DevControlState R)
    → BothAreAt answer_of shape sends (at p d Refused a t) host old → new.stage ≡ stages.Idle
    → BothAreAt answer_of shape sends (at p d Refused a t) host new
refused_device answer_of shape sends p d a t host old new u h = record {
  whole = u.whole;
  sender = u.sender;
  near = u.near;
  device = has_stands answer_of shape sends Refused a d new h;
}

-- a try of a piece of a refused request
refused_heard : {R : Type 0} (prepare_gives : PrepareGives R) (apply_gives : ApplyGives R) (answer_of : AnswerOf R)
    (shape : Shape) (sends : List ℕ) (clean : Bool) (p d : Position) (a : Bool) (t : ℕ) (host : HostTransferState)
    (stage : HostStage) (piece : IsPiece stage) (old after : DevControlState R) (host_after : HostTransferState)
    (mid : DevControlState R) (answer : Option Packet)
    → Does prepare_gives apply_gives stall_effect old.requests mid answer
    → host_after ≡ transfer_after_reply_at stage answer host
    → AckComes prepare_gives apply_gives answer_of (clean && acknowledges_at stage answer host_after.stage) mid after
    → (after.requests ≡ old.requests) × (host_after.stage ≡ tries.Failed faults.Stalled)
refused_heard prepare_gives apply_gives answer_of shape sends clean p d a t host stage piece old after host_after mid answer (m, s) e f =
    let e' = rw s at e in
    let f' = rw s at f in
    (ap (λ c. c.requests) (unacknowledged prepare_gives apply_gives answer_of clean _ mid after (stall_unacknowledged stage host_after.stage) f') ∙ ap (λ c. c.requests) m, ap (λ h. h.stage) (e' ∙ stall_taken stage host piece))

refused_lost : {R : Type 0} (prepare_gives : PrepareGives R) (apply_gives : ApplyGives R) (answer_of : AnswerOf R)
    (shape : Shape) (sends : List ℕ) (p d : Position) (a : Bool) (t : ℕ) (host : HostTransferState)
    (stage : HostStage) (piece : IsPiece stage) (old after : DevControlState R) (host_after : HostTransferState)
    (mid : DevControlState R) (answer : Option Packet) → BothAreAt answer_of shape sends (at p d Refused a t) host old
    → Does prepare_gives apply_gives stall_effect old.requests mid answer
    → host_after ≡ transfer_after_reply_at stage None host → after ≡ mid
    → (after.requests ≡ old.requests)
    × TransferIsAt answer_of shape sends (place_after_refusal TokenLost false (at p d Refused a t)) host_after after
refused_lost prepare_gives apply_gives answer_of shape sends p d a t host stage piece old after host_after mid answer u (m, s) e f =
    (ap (λ c. c.requests) (f ∙ m), moved answer_of shape sends _ _ host_after _ after (e ∙ none_taken stage host piece) f (silent_stands answer_of shape sends p d Refused a t host mid (refused_device answer_of shape sends p d a t host old mid u (ap (λ c. c.stage) m))))

pub refused_place : {R : Type 0} (prepare_gives : PrepareGives R) (apply_gives : ApplyGives R)
    (answer_of : AnswerOf R) (shape : Shape) (sends : List ℕ) (fate : Fate) (c : Bool) (p d : Position) (a : Bool)
    (t : ℕ) (host : HostTransferState) (stage : HostStage) (old : DevControlState R) (after : HostTransferState)
    (new : DevControlState R) → IsPiece stage → asks_at stage ≡ c
    → BothAreAt answer_of shape sends (at p d Refused a t) host old
    → TransactsAt prepare_gives apply_gives answer_of fate stage stages.Idle host.bytes host old after new
    → (new.requests ≡ old.requests)
    × TransferIsAt answer_of shape sends (place_after_refusal fate c (at p d Refused a t)) after new
refused_place prepare_gives apply_gives answer_of shape sends TokenLost c p d a t host stage old after new piece asks u (e, f) =
    (ap (λ c. c.requests) f, moved answer_of shape sends _ _ after _ new (e ∙ none_taken stage host piece) f (silent_stands answer_of shape sends p d Refused a t host old u))
refused_place prepare_gives apply_gives answer_of shape sends ReplyLost c p d a t host stage old after new piece asks u (mid, answer, does, e, f) =
    let does' = subst (λ (x : Effect). Does prepare_gives apply_gives x old.requests mid answer) (stall_reached stage _ _ _ piece) does in
    refused_lost prepare_gives apply_gives answer_of shape sends p d a t host stage piece old new after mid answer u does' e f
refused_place prepare_gives apply_gives answer_of shape sends Clean c p d a t host stage old after new piece asks u (mid, answer, does, e, f) =
    let does' = subst (λ (x : Effect). Does prepare_gives apply_gives x old.requests mid answer) (stall_reached stage _ _ _ piece) does in
    refused_heard prepare_gives apply_gives answer_of shape sends true p d a t host stage piece old new after mid answer does' e f
refused_place prepare_gives apply_gives answer_of shape sends AckLost true p d a t host stage old after new piece asks u (mid, answer, does, e, f) =
    let does' = subst (λ (x : Effect). Does prepare_gives apply_gives x old.requests mid answer) (stall_reached stage _ _ _ piece) does in
    let e' = subst
    (λ (x : Bool). after ≡ transfer_after_reply_at stage (reply_after_fate AckLost x answer) host) asks e in
    refused_heard prepare_gives apply_gives answer_of shape sends false p d a t host stage piece old new after mid answer does' e' f
refused_place prepare_gives apply_gives answer_of shape sends AckLost false p d a t host stage old after new piece asks u (mid, answer, does, e, f) =
    let does' = subst (λ (x : Effect). Does prepare_gives apply_gives x old.requests mid answer) (stall_reached stage _ _ _ piece) does in
    let e' = subst
    (λ (x : Bool). after ≡ transfer_after_reply_at stage (reply_after_fate AckLost x answer) host) asks e in
    refused_lost prepare_gives apply_gives answer_of shape sends p d a t host stage piece old new after mid answer u does' e' f
