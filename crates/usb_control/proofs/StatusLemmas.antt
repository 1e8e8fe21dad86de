-- One try of the status of a request that was accepted.
use Rattle.std.proofs.Common.{◌≡◌, ℕ, inl, inr, refl, sym, ◌∙◌, ap, subst, Bool, true, false, ◌==◌, ◌&&◌, List, [], length, Option, Some, arith}
use Rattle.std.proofs.lemmas.Bool.Decides.{nat_tests}
use Rattle.usb_packet.specs.declared.packet.Packet.{Packet}
use Rattle.usb_packet.specs.declared.packet.Packet.TheVariants as packets
use Rattle.usb_transact.specs.declared.transaction.Fate.{Fate}
use Rattle.usb_transact.specs.declared.transaction.Fate.TheVariants.{TokenLost}
use Rattle.usb_control.specs.declared.device.Stage.{Stage}
use Rattle.usb_control.specs.declared.device.Stage.TheVariants as stages
use Rattle.usb_control.specs.declared.device.LastPacket.TheVariants as last_packets
use Rattle.usb_control.specs.declared.host.HostStage.TheVariants as tries
use Rattle.usb_control.specs.Requests.{PrepareGives, ApplyGives, AnswerOf}
use Rattle.usb_control.specs.Packets.{data_packet}
use Rattle.usb_control.specs.Device.{DevControlState, Effect, Answers, Applies, Does, effect_of_out, effect_of_in}
use Rattle.usb_control.specs.Host.{HostTransferState, with_stage, transfer_after_reply_at, acknowledges_at}
use Rattle.usb_control.specs.Transaction.{TransactsAt, Arrives, AckComes, reply_after_fate, loses_nothing}
use Rattle.usb_control.specs.Transfer.{Shape, Accepted, Position, Setup, Piece, Status, Past, Place, data_pieces, place_after_in}
use Rattle.usb_control.specs.Positions.{read_stage, DeviceIsAtAfterSetup, DeviceIsAt, AreWithinAPiece, BothAreAt, TransferIsAt}
use Rattle.usb_control.proofs.StepLemmas.{at, shaped}
use Rattle.usb_control.proofs.PlaceLemmas.{out_place, in_shown, out_shown}
use Rattle.usb_control.proofs.ReadLemmas.{in_place_is}

-- the status of a read that sent data

status_given : (len : ℕ) (d : Position)
    → effect_of_out (read_stage len d) true [] ≡ Answers (Some packets.Ack) stages.StatusOut last_packets.Nothing
status_given len Setup = refl
status_given len (Piece k) = refl
status_given len Status = refl
status_given len Past = refl

status_device : (len : ℕ) (x : Option (List ℕ)) (d : Position) → (len == 0) ≡ false
    → AreWithinAPiece (shaped true len) (Accepted x) false Status d
    → {R : Type 0} (answer_of : AnswerOf R) (sends : List ℕ) (a : Bool) (old : DevControlState R)
    → DeviceIsAt answer_of (shaped true len) sends (Accepted x) a d old
    → (old.stage ≡ read_stage len d) × (answer_of old.requests ≡ x)
status_device len x Setup some near answer_of sends a old h =
    elim (rw some at near) as (λ _. (old.stage ≡ read_stage len Setup) × (answer_of old.requests ≡ x)) [ inl e ↦ cc | inr others ↦ elim others [ inl e ↦ cc | inr behind ↦ let e = behind.2 in cc ] ]
status_device len x (Piece k) some near answer_of sends a old h = (rw some at h.0, h.1 refl)
status_device len x Status some near answer_of sends a old h = (rw some at h.0, h.1 refl)
status_device len x Past some near answer_of sends a old h = (rw some at h.0, h.1 refl)

pub status_out_shown : {R : Type 0} (prepare_gives : PrepareGives R) (apply_gives : ApplyGives R)
    (answer_of : AnswerOf R) (len : ℕ) (sends : List ℕ) (fate : Fate) (d : Position) (x : Option (List ℕ)) (a : Bool)
    (t : ℕ) (host : HostTransferState) (old : DevControlState R) (after : HostTransferState) (new : DevControlState R)
    → let shape =
    shaped true len in (len == 0) ≡ false → BothAreAt answer_of shape sends (at Status d (Accepted x) a t) host old
    → TransactsAt prepare_gives apply_gives answer_of fate tries.StatusOut old.stage host.bytes host old after new
    → (new.requests ≡ old.requests)
    × TransferIsAt answer_of shape sends (out_place fate Status d Past (Accepted x) a t) after new
status_out_shown prepare_gives apply_gives answer_of len sends fate d x a t host old after new some u tr =
    let shape = shaped true len in
    let stands = status_device len x d some u.near answer_of sends a old u.device in
    out_shown prepare_gives apply_gives answer_of shape sends fate Status d Past (Accepted x) a t host tries.StatusOut tries.Done (read_stage len d) stages.StatusOut host.bytes old after new tt refl refl (status_given len d) u
    (λ m h same. record {
      whole = u.whole;
      sender = record { asked = u.sender.asked; stage = u.sender.stage; bytes = u.sender.bytes; tries = u.sender.tries };
      near = rw some (inr (inl refl));
      device = (rw some h, λ _. ap answer_of same ∙ stands.1);
    })
    (λ m h same. record {
      whole = u.whole;
      sender = record { asked = u.sender.asked; stage = refl; bytes = u.sender.bytes; tries = refl };
      near = tt;
      device = (rw some h, λ _. ap answer_of same ∙ stands.1);
    })
    (subst (λ (s : Stage). TransactsAt prepare_gives apply_gives answer_of fate tries.StatusOut s host.bytes host old after new) stands.0 tr)

-- a status that comes: of a write, or of a read of no bytes

status_comes : {R : Type 0} (prepare_gives : PrepareGives R) (apply_gives : ApplyGives R) (answer_of : AnswerOf R)
    (shape : Shape) (sends : List ℕ) (fate : Fate) (x : Option (List ℕ)) (a : Bool) (t : ℕ) (host : HostTransferState)
    (mid : DevControlState R) (answer : Option Packet) (after : HostTransferState) (new : DevControlState R)
    → ¬ (fate ≡ TokenLost) → mid.stage ≡ stages.StatusIn → mid.last_packet ≡ last_packets.Answered
    → answer ≡ Some (data_packet true [])
    → BothAreAt answer_of shape sends (at Status Status (Accepted x) a t) host mid
    → ((m : DevControlState R) → m.stage ≡ stages.Idle → m.requests ≡ mid.requests
    → DeviceIsAtAfterSetup answer_of shape sends (Accepted x) a Past m)
    → after ≡ transfer_after_reply_at tries.StatusIn (reply_after_fate fate true answer) host
    → AckComes prepare_gives apply_gives answer_of
    (loses_nothing fate && acknowledges_at tries.StatusIn (reply_after_fate fate true answer) after.stage) mid new
    → (new.requests ≡ mid.requests)
    × TransferIsAt answer_of shape sends
    (place_after_in fate (data_pieces shape (Accepted x)) (at Status Status (Accepted x) a t)) after new
status_comes prepare_gives apply_gives answer_of shape sends fate x a t host mid answer after new lost stage last_packet said u idle e f =
    let shown =
    in_shown prepare_gives apply_gives answer_of shape sends fate Status Status Past Past (Accepted x) a t host
    (with_stage tries.Done host) tries.StatusIn stages.StatusIn true [] mid answer after new lost tt
    (record { asks = refl; takes = refl; says = refl }) stage last_packet said u
    (record {
      whole = u.whole;
      sender = record { asked = u.sender.asked; stage = refl; bytes = u.sender.bytes; tries = refl };
      near = tt;
      device = u.device;
    })
    (λ m h same. record {
      whole = u.whole;
      sender = record { asked = u.sender.asked; stage = refl; bytes = u.sender.bytes; tries = refl };
      near = tt;
      device = idle m h same;
    })
    e f
    in (
      shown.0,
      subst (λ (p : Place). TransferIsAt answer_of shape sends p after new)
          (in_place_is fate (data_pieces shape (Accepted x)) Status Status Past Past
          (Accepted x) a t refl refl) shown.1,
    )

-- a write that took effect
pub again_arrives : {R : Type 0} (prepare_gives : PrepareGives R) (apply_gives : ApplyGives R)
    (answer_of : AnswerOf R) (sends : List ℕ) (fate : Fate) (x : Option (List ℕ)) (t : ℕ) (host : HostTransferState)
    (old : DevControlState R) (after : HostTransferState) (new : DevControlState R) → let shape =
    shaped false (length sends) in ¬ (fate ≡ TokenLost)
    → BothAreAt answer_of shape sends (at Status Status (Accepted x) true t) host old
    → Arrives prepare_gives apply_gives answer_of fate tries.StatusIn old.stage host.bytes host old after new
    → (new.requests ≡ old.requests)
    × TransferIsAt answer_of shape sends
    (place_after_in fate (data_pieces shape (Accepted x)) (at Status Status (Accepted x) true t)) after new
again_arrives prepare_gives apply_gives answer_of sends fate x t host old after new lost u (mid, answer, does, e, f) =
    let shape = shaped false (length sends) in
    let d = subst
    (λ (s : Stage). Does prepare_gives apply_gives
    (effect_of_in (answer_of old.requests) s) old.requests mid answer) u.device.0 does in
    let same = ap (λ (c : DevControlState _). c.requests) d.0 in
    let shown = status_comes prepare_gives apply_gives answer_of shape sends fate x true t host mid answer after new lost (ap (λ (c : DevControlState _). c.stage) d.0) (ap (λ (c : DevControlState _). c.last_packet) d.0) d.1
    (record { whole = u.whole; sender = u.sender; near = refl; device = (ap (λ (c : DevControlState _). c.stage) d.0, λ r. cc) })
    (λ m h g. (h, λ r. cc)) e f
    in
    (shown.0 ∙ same, shown.1)

-- a write that takes effect now
pub effect_arrives : {R : Type 0} (prepare_gives : PrepareGives R) (apply_gives : ApplyGives R)
    (answer_of : AnswerOf R) (sends : List ℕ) (fate : Fate) (x : Option (List ℕ)) (t : ℕ) (host : HostTransferState)
    (old : DevControlState R) (after : HostTransferState) (new : DevControlState R) → let shape =
    shaped false (length sends) in ¬ (fate ≡ TokenLost)
    → BothAreAt answer_of shape sends (at Status Status (Accepted x) false t) host old
    → Arrives prepare_gives apply_gives answer_of fate tries.StatusIn old.stage host.bytes host old after new
    → apply_gives old.requests sends new.requests
    × TransferIsAt answer_of shape sends
    (place_after_in fate (data_pieces shape (Accepted x)) (at Status Status (Accepted x) true t)) after new
effect_arrives prepare_gives apply_gives answer_of sends fate x t host old after new lost u (mid, answer, does, e, f) =
    let shape = shaped false (length sends) in
    let same_length : (length sends == length sends) ≡ true = grind (arith, nat_tests) in
    let effect : effect_of_in (answer_of old.requests) old.stage ≡ Applies sends =
    rw (u.device.0, same_length) refl in
    let d = subst (λ (y : Effect). Does prepare_gives apply_gives y old.requests mid answer) effect does in
    let shown = status_comes prepare_gives apply_gives answer_of shape sends fate x true t host mid answer after new lost d.1 d.2 d.3
    (record { whole = u.whole; sender = record { asked = u.sender.asked; stage = u.sender.stage; bytes = u.sender.bytes; tries = u.sender.tries }; near = refl; device = (d.1, λ r. cc) })
    (λ m h g. (h, λ r. cc)) e f
    in
    (subst (λ (r : _). apply_gives old.requests sends r) (sym shown.0) d.0, shown.1)

-- a read of no bytes
pub empty_arrives : {R : Type 0} (prepare_gives : PrepareGives R) (apply_gives : ApplyGives R)
    (answer_of : AnswerOf R) (sends : List ℕ) (fate : Fate) (x : Option (List ℕ)) (a : Bool) (t : ℕ)
    (host : HostTransferState) (old : DevControlState R) (after : HostTransferState) (new : DevControlState R)
    → let shape =
    shaped true 0 in ¬ (fate ≡ TokenLost)
    → BothAreAt answer_of shape sends (at Status Status (Accepted x) a t) host old
    → Arrives prepare_gives apply_gives answer_of fate tries.StatusIn old.stage host.bytes host old after new
    → (new.requests ≡ old.requests)
    × TransferIsAt answer_of shape sends
    (place_after_in fate (data_pieces shape (Accepted x)) (at Status Status (Accepted x) a t)) after new
empty_arrives prepare_gives apply_gives answer_of sends fate x a t host old after new lost u (mid, answer, does, e, f) =
    let shape = shaped true 0 in
    let d = subst
    (λ (s : Stage). Does prepare_gives apply_gives
    (effect_of_in (answer_of old.requests) s) old.requests mid answer) u.device.0 does in
    let same = ap (λ (c : DevControlState _). c.requests) d.0 in
    let shown = status_comes prepare_gives apply_gives answer_of shape sends fate x a t host mid answer after new lost (ap (λ (c : DevControlState _). c.stage) d.0) (ap (λ (c : DevControlState _). c.last_packet) d.0) d.1
    (record { whole = u.whole; sender = u.sender; near = refl; device = (ap (λ (c : DevControlState _). c.stage) d.0, λ r. ap answer_of same ∙ u.device.1 r) })
    (λ m h g. (h, λ r. ap answer_of (g ∙ same) ∙ u.device.1 r)) e f
    in
    (shown.0 ∙ same, shown.1)
