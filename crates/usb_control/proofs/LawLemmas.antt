-- How the places of a transfer are those of its ends.
use Rattle.std.proofs.Common.{◌≡◌, ◌↔◌, ℕ, inl, refl, sym, ◌∙◌, ap, subst, Bool, true, false, List, [], ◌∷◌, length, Option, Some, None, arith}
use Rattle.std.specs.Prelude.{if◌then◌else◌}
use Rattle.usb_control.specs.declared.setup.Setup.{Setup as Request}
use Rattle.usb_control.specs.declared.fault.ControlFault.{ControlFault}
use Rattle.usb_control.specs.declared.host.HostStage.{HostStage}
use Rattle.usb_control.specs.declared.host.HostStage.TheVariants as tries
use Rattle.usb_control.specs.SetupBytes.{reads}
use Rattle.usb_control.specs.Requests.{AnswerOf}
use Rattle.usb_control.specs.Device.{DevControlState}
use Rattle.usb_control.specs.Host.{HostTransferState}
use Rattle.usb_control.specs.Transfer.{Shape, transfer_shape, Decision, Refused, Accepted, Position, Setup, Piece, Status, Past, Place, answered_bytes, comes_from_device, start}
use Rattle.usb_control.specs.Positions.{host_stage, host_bytes, DeviceIsAtAfterSetup, DeviceIsAt, TransferIsAtWithFault, TransferIsAt}
use Rattle.usb_control.specs.Runs.{IsDone}
use Rattle.usb_control.proofs.StepLemmas.{shaped}

nothing_sent : (r : Bool) (len : ℕ) (sends : List ℕ) → length sends ≡ (if r then 0 else len) → sends ≡ host_bytes (shaped r len) sends Refused Setup
nothing_sent true len [] h = refl
nothing_sent true len (x ∷ xs) h = absurd (omega (arith, h))
nothing_sent false len sends h = refl

sent_whole : (r : Bool) (len : ℕ) (sends : List ℕ) → length sends ≡ (if r then 0 else len) → r ≡ false → length sends ≡ len
sent_whole true len sends h e = cc
sent_whole false len sends h e = h

pub begins : {R : Type 0} (answer_of : AnswerOf R) (addr : ℕ) (request : Request) (sends : List ℕ)
    (control : DevControlState R) → length sends ≡ (if reads request then 0 else request.length)
    → TransferIsAt answer_of (transfer_shape request) sends start
    (record { addr = addr; setup = request; bytes = sends; stage = tries.Setup; tries = 0 }) control
begins answer_of addr request sends control h = record {
  whole = sent_whole (reads request) request.length sends h;
  sender = record { asked = refl; stage = refl; bytes = nothing_sent (reads request) request.length sends h; tries = refl };
  near = inl refl;
  device = tt;
}

way_stage : (b : Bool) (s t : HostStage) → ¬ (s ≡ tries.Done) → ¬ (t ≡ tries.Done) → ¬ ((if b then s else t) ≡ tries.Done)
way_stage true s t f g = f
way_stage false s t f g = g

done_stage : (shape : Shape) (p : Position) → host_stage shape p ≡ tries.Done → p ≡ Past
done_stage shape Setup e = cc
done_stage shape (Piece k) e = absurd (way_stage shape.reads _ _ (λ h. cc) (λ h. cc) e)
done_stage shape Status e = absurd (way_stage (comes_from_device shape Status) _ _ (λ h. cc) (λ h. cc) e)
done_stage shape Past e = refl

done_with : {R : Type 0} (answer_of : AnswerOf R) (shape : Shape) (sends : List ℕ) (p d : Position) (q : Decision)
    (a : Bool) (t : ℕ) (fault : Option ControlFault) (host : HostTransferState) (control : DevControlState R)
    → let place : Place =
    record { host = p; device = d; decision = q; applied = a; tries = t; fault = fault } in
    TransferIsAt answer_of shape sends place host control → (host.stage ≡ tries.Done) ↔ IsDone place
done_with answer_of shape sends p d q a t None host control u = (λ e. (refl, done_stage shape p (sym u.sender.stage ∙ e)), λ h. u.sender.stage ∙ ap (host_stage shape) h.1)
done_with answer_of shape sends p d q a t (Some f) host control u = (λ e. cc, λ h. let e = h.0 in cc)

pub done_is : {R : Type 0} (answer_of : AnswerOf R) (shape : Shape) (sends : List ℕ) (place : Place)
    (host : HostTransferState) (control : DevControlState R) → TransferIsAt answer_of shape sends place host control
    → (host.stage ≡ tries.Done) ↔ IsDone place
done_is answer_of shape sends place host control u = done_with answer_of shape sends place.host place.device place.decision place.applied place.tries place.fault host control u

pub read_is : {R : Type 0} (answer_of : AnswerOf R) (shape : Shape) (sends : List ℕ) (place : Place)
    (host : HostTransferState) (control : DevControlState R) → TransferIsAt answer_of shape sends place host control
    → IsDone place → shape.reads ≡ true → host.bytes ≡ answered_bytes shape place.decision
read_is answer_of shape sends place host control u done is_read =
    let both =
    subst (λ (f : Option ControlFault). TransferIsAtWithFault answer_of shape sends place f host control) done.0 u in
    both.sender.bytes
    ∙ ap (λ (p : Position). host_bytes shape sends place.decision p) done.1
    ∙ ap (λ (b : Bool). if b then answered_bytes shape place.decision else sends) is_read

-- a place doesn't tell what answers requests, but for its answer
has_kept : {R S : Type 0} (old_of : AnswerOf R) (new_of : AnswerOf S) (shape : Shape) (sends : List ℕ) (q : Decision) (a : Bool) (p : Position) (old : DevControlState R) (new : DevControlState S)
    → new_of new.requests ≡ old_of old.requests → new.stage ≡ old.stage
    → DeviceIsAtAfterSetup old_of shape sends q a p old → DeviceIsAtAfterSetup new_of shape sends q a p new
has_kept old_of new_of shape sends Refused a p old new e f h = f ∙ h
has_kept old_of new_of shape sends (Accepted x) a p old new e f h = (f ∙ h.0, λ r. e ∙ h.1 r)

device_kept : {R S : Type 0} (old_of : AnswerOf R) (new_of : AnswerOf S) (shape : Shape) (sends : List ℕ) (q : Decision) (a : Bool) (p : Position) (old : DevControlState R) (new : DevControlState S)
    → new_of new.requests ≡ old_of old.requests → new.stage ≡ old.stage → DeviceIsAt old_of shape sends q a p old
    → DeviceIsAt new_of shape sends q a p new
device_kept old_of new_of shape sends q a Setup old new e f h = tt
device_kept old_of new_of shape sends q a (Piece k) old new e f h = has_kept old_of new_of shape sends q a (Piece k) old new e f h
device_kept old_of new_of shape sends q a Status old new e f h = has_kept old_of new_of shape sends q a Status old new e f h
device_kept old_of new_of shape sends q a Past old new e f h = has_kept old_of new_of shape sends q a Past old new e f h

kept_with : {R S : Type 0} (old_of : AnswerOf R) (new_of : AnswerOf S) (shape : Shape) (sends : List ℕ) (place : Place) (fault : Option ControlFault) (host : HostTransferState) (old : DevControlState R) (new : DevControlState S)
    → new_of new.requests ≡ old_of old.requests → new.stage ≡ old.stage
    → TransferIsAtWithFault old_of shape sends place fault host old
    → TransferIsAtWithFault new_of shape sends place fault host new
kept_with old_of new_of shape sends place None host old new e f u = record {
  whole = u.whole;
  sender = u.sender;
  near = u.near;
  device = device_kept old_of new_of shape sends place.decision place.applied place.device old new e f u.device;
}
kept_with old_of new_of shape sends place (Some fault) host old new e f u = u

pub kept_across : {R S : Type 0} (old_of : AnswerOf R) (new_of : AnswerOf S) (shape : Shape) (sends : List ℕ) (place : Place) (host : HostTransferState) (old : DevControlState R) (new : DevControlState S)
    → TransferIsAt old_of shape sends place host old → new_of new.requests ≡ old_of old.requests
    → new.stage ≡ old.stage → TransferIsAt new_of shape sends place host new
kept_across old_of new_of shape sends place host old new u e f = kept_with old_of new_of shape sends place place.fault host old new e f u

pub kept_is : {R : Type 0} (answer_of : AnswerOf R) (shape : Shape) (sends : List ℕ) (place : Place)
    (host : HostTransferState) (old new : DevControlState R) → TransferIsAt answer_of shape sends place host old
    → answer_of new.requests ≡ answer_of old.requests → new.stage ≡ old.stage
    → TransferIsAt answer_of shape sends place host new
kept_is answer_of shape sends place host old new u e f = kept_across answer_of answer_of shape sends place host old new u e f
