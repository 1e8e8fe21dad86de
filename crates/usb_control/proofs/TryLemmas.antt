-- One try, from any place: both ends stand at the place after it.
use Rattle.std.proofs.Common.{◌≡◌, ℕ, zero, suc, ◌*◌, inl, inr, refl, sym, ◌∙◌, ap, subst, Bool, true, false, ◌==◌, ◌||◌, List, length, Option, Some, None, arith}
use Rattle.std.specs.Prelude.{if◌then◌else◌}
use Rattle.std.proofs.lemmas.Bool.Decides.{nat_tests}
use Rattle.usb_transact.specs.declared.transaction.Fate.{Fate}
use Rattle.usb_transact.specs.declared.transaction.Fate.TheVariants.{Clean, TokenLost, ReplyLost, AckLost}
use Rattle.usb_control.specs.declared.device.Stage.{Stage}
use Rattle.usb_control.specs.declared.device.Stage.TheVariants as stages
use Rattle.usb_control.specs.declared.fault.ControlFault.{ControlFault}
use Rattle.usb_control.specs.declared.host.HostStage.{HostStage}
use Rattle.usb_control.specs.declared.host.HostStage.TheVariants as tries
use Rattle.usb_control.specs.SetupBytes.{setup_bytes, setup_of}
use Rattle.usb_control.specs.Requests.{PrepareGives, ApplyGives, AnswerOf}
use Rattle.usb_control.specs.Device.{DevControlState}
use Rattle.usb_control.specs.Host.{HostTransferState, IsRunning, asks_at, progress_of}
use Rattle.usb_control.specs.Transaction.{TransactsAt, Transacts}
use Rattle.usb_control.specs.Transfer.{Shape, Decision, Refused, Accepted, Position, Setup, Piece, Status, Past, Place, Act, Nothing, Acts, act_at, act_of, applies, comes_from_device, data_pieces, piece_count, first_position, next_position, place_after_in, place_after_out, place_after_piece, place_after_silence, transfer_shape, place_after_try}
use Rattle.usb_control.specs.Positions.{piece_toggle, host_stage, DeviceIsAt, BothAreAt, TransferIsAt, TryLeadsOn}
use Rattle.usb_control.proofs.StepLemmas.{at, IsAfter, Shown, setup_shown, silent_stands, moved, shaped, stands_has, first_position-piece}
use Rattle.usb_control.proofs.RefusedLemmas.{IsPiece, none_taken, refused_place}
use Rattle.usb_control.proofs.PlaceLemmas.{out_place}
use Rattle.usb_control.proofs.WriteLemmas.{write_shown}
use Rattle.usb_control.proofs.ReadLemmas.{read_shown, arrives}
use Rattle.usb_control.proofs.StatusLemmas.{status_out_shown, again_arrives, effect_arrives, empty_arrives}

-- the shape of what is shown, where nothing is done but a try
abbrev pub Kept : {R : Type 0} → AnswerOf R → Shape → List ℕ → Place → DevControlState R → HostTransferState → DevControlState R → Type 0
Kept answer_of shape sends place old after new =
    (new.requests ≡ old.requests) × TransferIsAt answer_of shape sends place after new

pub act_piece : (k : ℕ) (shape : Shape) (fate : Fate) (q held : Decision) (a : Bool) → act_at (Piece k) shape fate q held a ≡ Nothing
act_piece k shape TokenLost q held a = refl
act_piece k shape Clean q held a = refl
act_piece k shape ReplyLost q held a = refl
act_piece k shape AckLost q held a = refl

pub act_refused : (shape : Shape) (fate : Fate) (q : Decision) (a : Bool) → act_at Status shape fate q Refused a ≡ Nothing
act_refused shape TokenLost q a = refl
act_refused shape Clean q a = refl
act_refused shape ReplyLost q a = refl
act_refused shape AckLost q a = refl

pub act_read : (len : ℕ) (fate : Fate) (q : Decision) (x : Option (List ℕ)) (a : Bool) → act_at Status (shaped true len) fate q (Accepted x) a ≡ Nothing
act_read len TokenLost q x true = refl
act_read len Clean q x true = refl
act_read len ReplyLost q x true = refl
act_read len AckLost q x true = refl
act_read len TokenLost q x false = refl
act_read len Clean q x false = refl
act_read len ReplyLost q x false = refl
act_read len AckLost q x false = refl

pub applies_piece : (shape : Shape) (fate : Fate) (k : ℕ) → applies shape fate (Piece k) ≡ false
applies_piece shape TokenLost k = refl
applies_piece shape Clean k = refl
applies_piece shape ReplyLost k = refl
applies_piece shape AckLost k = refl

pub applies_read : (len : ℕ) (fate : Fate) → applies (shaped true len) fate Status ≡ false
applies_read len TokenLost = refl
applies_read len Clean = refl
applies_read len ReplyLost = refl
applies_read len AckLost = refl

-- nothing is done
nothing_shown : {R : Type 0} (prepare_gives : PrepareGives R) (apply_gives : ApplyGives R) (answer_of : AnswerOf R)
    (shape : Shape) (sends : List ℕ) (fate : Fate) (place : Place) (host : HostTransferState)
    (old : DevControlState R) (after : HostTransferState) (new : DevControlState R)
    → act_of shape fate place.decision place ≡ Nothing
    → Kept answer_of shape sends (place_after_try shape fate place.decision place) old after new
    → Shown prepare_gives apply_gives answer_of shape sends fate place host old after new
nothing_shown prepare_gives apply_gives answer_of shape sends fate place host old after new e h =
    (place.decision, subst (λ (x : Act). Acts prepare_gives apply_gives answer_of host.setup sends x old.requests new.requests) (sym e) h.0, h.1)

asks_comes : (b : Bool) → asks_at (if b then tries.StatusIn else tries.StatusOut) ≡ b
asks_comes true = refl
asks_comes false = refl

is_piece_status : (b : Bool) → IsPiece (if b then tries.StatusIn else tries.StatusOut)
is_piece_status true = tt
is_piece_status false = tt

asks_piece : (b one : Bool) (sent : ℕ) → asks_at (if b then tries.DataIn one else tries.DataOut sent one) ≡ b
asks_piece true one sent = refl
asks_piece false one sent = refl

is_piece_data : (b one : Bool) (sent : ℕ) → IsPiece (if b then tries.DataIn one else tries.DataOut sent one)
is_piece_data true one sent = tt
is_piece_data false one sent = tt

after_first : (count : ℕ) → IsAfter (first_position count)
after_first zero = tt
after_first (suc n) = rw (first_position-piece (suc n) (omega arith)) tt

refused_idle : {R : Type 0} (answer_of : AnswerOf R) (shape : Shape) (sends : List ℕ) (d : Position) (a : Bool)
    (old : DevControlState R) → d ≡ first_position (data_pieces shape Refused)
    → DeviceIsAt answer_of shape sends Refused a d old → old.stage ≡ stages.Idle
refused_idle answer_of shape sends d a old e h =
    let stands = subst (λ (p : Position). DeviceIsAt answer_of shape sends Refused a p old) e h in
    stands_has answer_of shape sends Refused a (first_position (data_pieces shape Refused)) old (after_first _) stands

out_place_is : (fate : Fate) (count : ℕ) (p d : Position) (q : Decision) (a : Bool) (t : ℕ)
    → out_place fate p d (next_position count p) q a t ≡ place_after_out fate count (at p d q a t)
out_place_is TokenLost count p d q a t = refl
out_place_is Clean count p d q a t = refl
out_place_is ReplyLost count p d q a t = refl
out_place_is AckLost count p d q a t = refl

-- a data piece of an accepted request
piece_shown : {R : Type 0} (prepare_gives : PrepareGives R) (apply_gives : ApplyGives R) (answer_of : AnswerOf R)
    (r : Bool) (len : ℕ) (sends : List ℕ) (fate : Fate) (k : ℕ) (d : Position) (x : Option (List ℕ)) (a : Bool)
    (t : ℕ) (host : HostTransferState) (old : DevControlState R) (after : HostTransferState) (new : DevControlState R)
    → let shape =
    shaped r len in BothAreAt answer_of shape sends (at (Piece k) d (Accepted x) a t) host old
    → TransactsAt prepare_gives apply_gives answer_of fate
    (host_stage shape (Piece k)) old.stage host.bytes host old after new
    → Kept answer_of shape sends
    (place_after_piece shape fate (Accepted x) (at (Piece k) d (Accepted x) a t)) old after new
piece_shown prepare_gives apply_gives answer_of true len sends fate k d x a t host old after new u tr =
    let shape = shaped true len in
    let h = read_shown prepare_gives apply_gives answer_of len sends fate k d x a t host old after new u tr in (
      h.0,
      subst
          (λ (b : Bool). TransferIsAt answer_of shape sends
          (place_after_in fate (data_pieces shape (Accepted x)) (at (Piece k) d (Accepted x) (b || a) t)) after new)
          (sym (applies_piece shape fate k)) h.1,
    )
piece_shown prepare_gives apply_gives answer_of false len sends fate k d x a t host old after new u tr =
    let tr' =
    subst (λ (b : List ℕ). TransactsAt prepare_gives apply_gives answer_of fate
    (tries.DataOut (8 * k) (piece_toggle k)) old.stage b host old after new) u.sender.bytes tr in
    let h = subst
    (λ (n : ℕ). BothAreAt answer_of (shaped false n) sends (at (Piece k) d (Accepted x) a t) host old
    → Kept answer_of (shaped false n) sends
    (place_after_out fate (piece_count n) (at (Piece k) d (Accepted x) a t)) old after new) (u.whole refl)
    (λ v. subst
    (λ (b : Bool). BothAreAt answer_of (shaped false (length sends)) sends
    (at (Piece k) d (Accepted x) b t) host old
    → Kept answer_of (shaped false (length sends)) sends
    (place_after_out fate (piece_count (length sends)) (at (Piece k) d (Accepted x) b t)) old after new) (sym v.near.1)
    (λ w. let g = write_shown prepare_gives apply_gives answer_of sends fate k d x t host old after new w tr' in (
      g.0,
      subst (λ (p : Place). TransferIsAt answer_of (shaped false (length sends)) sends p after new)
          (out_place_is fate (piece_count (length sends)) (Piece k) d (Accepted x) false t) g.1,
    )) v) u
    in (
      h.0,
      subst
          (λ (b : Bool). TransferIsAt answer_of (shaped false len) sends
          (place_after_out fate (piece_count len) (at (Piece k) d (Accepted x) (b || a) t)) after new)
          (sym (applies_piece (shaped false len) fate k)) h.1,
    )

-- a status of an accepted request that goes out, of a read
read_status_shown : {R : Type 0} (prepare_gives : PrepareGives R) (apply_gives : ApplyGives R)
    (answer_of : AnswerOf R) (len : ℕ) (sends : List ℕ) (fate : Fate) (d : Position) (x : Option (List ℕ)) (a : Bool)
    (t : ℕ) (host : HostTransferState) (old : DevControlState R) (after : HostTransferState) (new : DevControlState R)
    → let shape =
    shaped true len in BothAreAt answer_of shape sends (at Status d (Accepted x) a t) host old
    → TransactsAt prepare_gives apply_gives answer_of fate
    (host_stage shape Status) old.stage host.bytes host old after new
    → Kept answer_of shape sends
    (place_after_piece shape fate (Accepted x) (at Status d (Accepted x) a t)) old after new
read_status_shown prepare_gives apply_gives answer_of zero sends fate d x a t host old after new u tr =
    let shape = shaped true 0 in
    let h : Kept answer_of shape sends
    (place_after_in fate (data_pieces shape (Accepted x)) (at Status d (Accepted x) a t)) old after new =
    elim (arrives prepare_gives apply_gives answer_of fate tries.StatusIn old.stage host.bytes host old after new tr) [
      | inl h ↦ (
        ap (λ (c : DevControlState _). c.requests) h.2,
        subst (λ (y : Fate). TransferIsAt answer_of shape sends
            (place_after_in y (data_pieces shape (Accepted x)) (at Status d (Accepted x) a t)) after new) (sym h.0)
            (moved answer_of shape sends (place_after_silence (at Status d (Accepted x) a t)) _ after _ new
            (h.1 ∙ none_taken tries.StatusIn host tt) h.2
            (silent_stands answer_of shape sends Status d (Accepted x) a t host old u)),
      )
      | inr h ↦
          subst (λ (p : Position). Kept answer_of shape sends
          (place_after_in fate (data_pieces shape (Accepted x)) (at Status p (Accepted x) a t)) old after new)
          (sym u.near)
          (empty_arrives prepare_gives apply_gives answer_of sends fate x a t host old after new h.0
          (subst (λ (p : Position). BothAreAt answer_of shape sends
          (at Status p (Accepted x) a t) host old) u.near u) h.1)
    ]
    in (
      h.0,
      subst
          (λ (b : Bool). TransferIsAt answer_of shape sends
          (place_after_in fate (data_pieces shape (Accepted x)) (at Status d (Accepted x) (b || a) t)) after new)
          (sym (applies_read 0 fate)) h.1,
    )
read_status_shown prepare_gives apply_gives answer_of (suc n) sends fate d x a t host old after new u tr =
    let shape = shaped true (suc n) in
    let some : (suc n == 0) ≡ false = grind (arith, nat_tests) in
    let tr' = subst (λ (b : Bool). TransactsAt prepare_gives apply_gives answer_of fate (if b then tries.StatusIn else tries.StatusOut) old.stage host.bytes host old after new) some tr in
    let g = status_out_shown prepare_gives apply_gives answer_of (suc n) sends fate d x a t host old after new some u tr' in
    let h : TransferIsAt answer_of shape sends
    (place_after_out fate (data_pieces shape (Accepted x)) (at Status d (Accepted x) a t)) after new =
    subst (λ (p : Place). TransferIsAt answer_of shape sends p after new)
    (out_place_is fate (data_pieces shape (Accepted x)) Status d (Accepted x) a t) g.1
    in
    let h1 = subst
    (λ (b : Bool). TransferIsAt answer_of shape sends
    (place_after_out fate (data_pieces shape (Accepted x)) (at Status d (Accepted x) (b || a) t)) after new)
    (sym (applies_read (suc n) fate)) h in (
      g.0,
      subst
          (λ (c : Bool). TransferIsAt answer_of shape sends
          (if c then place_after_in fate (data_pieces shape (Accepted x))
          (at Status d (Accepted x) (applies shape fate Status || a) t) else place_after_out fate
          (data_pieces shape (Accepted x)) (at Status d (Accepted x) (applies shape fate Status || a) t)) after new)
          (sym some) h1,
    )

-- a status of an accepted write
write_status : {R : Type 0} (prepare_gives : PrepareGives R) (apply_gives : ApplyGives R) (answer_of : AnswerOf R)
    (sends : List ℕ) (fate : Fate) (x : Option (List ℕ)) (a : Bool) (t : ℕ) (host : HostTransferState)
    (old : DevControlState R) (after : HostTransferState) (new : DevControlState R) → let shape =
    shaped false (length sends) in let place =
    at Status Status (Accepted x) a t in BothAreAt answer_of shape sends place host old
    → TransactsAt prepare_gives apply_gives answer_of fate tries.StatusIn old.stage host.bytes host old after new
    → Acts prepare_gives apply_gives answer_of host.setup sends
    (act_of shape fate (Accepted x) place) old.requests new.requests
    × TransferIsAt answer_of shape sends (place_after_try shape fate (Accepted x) place) after new
write_status prepare_gives apply_gives answer_of sends TokenLost x a t host old after new u (e, f) =
    let shape = shaped false (length sends) in (
      ap (λ (c : DevControlState _). c.requests) f,
      moved answer_of shape sends (place_after_silence (at Status Status (Accepted x) a t)) _ after _ new
          (e ∙ none_taken tries.StatusIn host tt) f
          (silent_stands answer_of shape sends Status Status (Accepted x) a t host old u),
    )
write_status prepare_gives apply_gives answer_of sends Clean x true t host old after new u h = again_arrives prepare_gives apply_gives answer_of sends Clean x t host old after new (λ e. cc) u h
write_status prepare_gives apply_gives answer_of sends ReplyLost x true t host old after new u h = again_arrives prepare_gives apply_gives answer_of sends ReplyLost x t host old after new (λ e. cc) u h
write_status prepare_gives apply_gives answer_of sends AckLost x true t host old after new u h = again_arrives prepare_gives apply_gives answer_of sends AckLost x t host old after new (λ e. cc) u h
write_status prepare_gives apply_gives answer_of sends Clean x false t host old after new u h = effect_arrives prepare_gives apply_gives answer_of sends Clean x t host old after new (λ e. cc) u h
write_status prepare_gives apply_gives answer_of sends ReplyLost x false t host old after new u h = effect_arrives prepare_gives apply_gives answer_of sends ReplyLost x t host old after new (λ e. cc) u h
write_status prepare_gives apply_gives answer_of sends AckLost x false t host old after new u h = effect_arrives prepare_gives apply_gives answer_of sends AckLost x t host old after new (λ e. cc) u h

write_status_shown : {R : Type 0} (prepare_gives : PrepareGives R) (apply_gives : ApplyGives R)
    (answer_of : AnswerOf R) (len : ℕ) (sends : List ℕ) (fate : Fate) (d : Position) (x : Option (List ℕ)) (a : Bool)
    (t : ℕ) (host : HostTransferState) (old : DevControlState R) (after : HostTransferState) (new : DevControlState R)
    → let shape = shaped false len in let place =
    at Status d (Accepted x) a t in BothAreAt answer_of shape sends place host old
    → TransactsAt prepare_gives apply_gives answer_of fate tries.StatusIn old.stage host.bytes host old after new
    → Acts prepare_gives apply_gives answer_of host.setup sends
    (act_of shape fate (Accepted x) place) old.requests new.requests
    × TransferIsAt answer_of shape sends (place_after_try shape fate (Accepted x) place) after new
write_status_shown prepare_gives apply_gives answer_of len sends fate d x a t host old after new u tr =
    subst (λ (n : ℕ). BothAreAt answer_of (shaped false n) sends (at Status d (Accepted x) a t) host old
    → Acts prepare_gives apply_gives answer_of host.setup sends
    (act_of (shaped false n) fate (Accepted x) (at Status d (Accepted x) a t)) old.requests new.requests
    × TransferIsAt answer_of (shaped false n) sends
    (place_after_try (shaped false n) fate (Accepted x) (at Status d (Accepted x) a t)) after new) (u.whole refl)
    (λ v. subst
    (λ (p : Position). BothAreAt answer_of (shaped false (length sends)) sends
    (at Status p (Accepted x) a t) host old
    → Acts prepare_gives apply_gives answer_of host.setup sends
    (act_of (shaped false (length sends)) fate (Accepted x)
    (at Status p (Accepted x) a t)) old.requests new.requests
    × TransferIsAt answer_of (shaped false (length sends)) sends
    (place_after_try (shaped false (length sends)) fate (Accepted x) (at Status p (Accepted x) a t)) after new)
    (sym v.near)
    (λ w. write_status prepare_gives apply_gives answer_of sends fate x a t host old after new w tr) v) u

-- a try from any place
shown_at : {R : Type 0} (prepare_gives : PrepareGives R) (apply_gives : ApplyGives R) (answer_of : AnswerOf R)
    (r : Bool) (len : ℕ) (sends : List ℕ) (fate : Fate) (p d : Position) (q : Decision) (a : Bool) (t : ℕ)
    (host : HostTransferState) (old : DevControlState R) (after : HostTransferState) (new : DevControlState R)
    → let shape = shaped r len in let place =
    at p d q a t in setup_of (setup_bytes host.setup) ≡ host.setup → IsRunning host.stage
    → BothAreAt answer_of shape sends place host old
    → TransactsAt prepare_gives apply_gives answer_of fate
    (host_stage shape p) old.stage host.bytes host old after new
    → Shown prepare_gives apply_gives answer_of shape sends fate place host old after new
shown_at prepare_gives apply_gives answer_of r len sends fate Setup d q a t host old after new back running u tr = setup_shown prepare_gives apply_gives answer_of (shaped r len) sends fate d q a t host old after new back u tr
shown_at prepare_gives apply_gives answer_of r len sends fate Past d q a t host old after new back running u tr = let e = ap progress_of u.sender.stage in cc
shown_at prepare_gives apply_gives answer_of r len sends fate (Piece k) d Refused a t host old after new back running u tr =
    let shape = shaped r len in
    let idle = refused_idle answer_of shape sends d a old u.near u.device in
    let tr' = subst (λ (s : Stage). TransactsAt prepare_gives apply_gives answer_of fate (host_stage shape (Piece k)) s host.bytes host old after new) idle tr in
    nothing_shown prepare_gives apply_gives answer_of shape sends fate (at (Piece k) d Refused a t) host old after new (act_piece k shape fate Refused Refused a)
    (refused_place prepare_gives apply_gives answer_of shape sends fate r (Piece k) d a t host
    (host_stage shape (Piece k)) old after new (is_piece_data r (piece_toggle k) (8 * k))
    (asks_piece r (piece_toggle k) (8 * k)) u tr')
shown_at prepare_gives apply_gives answer_of r len sends fate Status d Refused a t host old after new back running u tr =
    let shape = shaped r len in
    let idle = refused_idle answer_of shape sends d a old u.near u.device in
    let tr' = subst (λ (s : Stage). TransactsAt prepare_gives apply_gives answer_of fate (host_stage shape Status) s host.bytes host old after new) idle tr in
    nothing_shown prepare_gives apply_gives answer_of shape sends fate (at Status d Refused a t) host old after new (act_refused shape fate Refused a)
    (refused_place prepare_gives apply_gives answer_of shape sends fate
    (comes_from_device shape Status) Status d a t host (host_stage shape Status) old after new
    (is_piece_status (comes_from_device shape Status)) (asks_comes (comes_from_device shape Status)) u tr')
shown_at prepare_gives apply_gives answer_of r len sends fate (Piece k) d (Accepted x) a t host old after new back running u tr =
    nothing_shown prepare_gives apply_gives answer_of (shaped r len) sends fate (at (Piece k) d (Accepted x) a t) host old after new (act_piece k (shaped r len) fate (Accepted x) (Accepted x) a)
    (piece_shown prepare_gives apply_gives answer_of r len sends fate k d x a t host old after new u tr)
shown_at prepare_gives apply_gives answer_of true len sends fate Status d (Accepted x) a t host old after new back running u tr =
    nothing_shown prepare_gives apply_gives answer_of (shaped true len) sends fate (at Status d (Accepted x) a t) host old after new (act_read len fate (Accepted x) x a)
    (read_status_shown prepare_gives apply_gives answer_of len sends fate d x a t host old after new u tr)
shown_at prepare_gives apply_gives answer_of false len sends fate Status d (Accepted x) a t host old after new back running u tr =
    let h = write_status_shown prepare_gives apply_gives answer_of len sends fate d x a t host old after new u tr in
    (Accepted x, h.0, h.1)

shown_unless : {R : Type 0} (prepare_gives : PrepareGives R) (apply_gives : ApplyGives R) (answer_of : AnswerOf R)
    (shape : Shape) (sends : List ℕ) (fate : Fate) (p d : Position) (q : Decision) (a : Bool) (t : ℕ)
    (fault : Option ControlFault) (host : HostTransferState) (old : DevControlState R) (after : HostTransferState)
    (new : DevControlState R) → let place : Place =
    record { host = p; device = d; decision = q; applied = a; tries = t; fault = fault } in
    setup_of (setup_bytes host.setup) ≡ host.setup → IsRunning host.stage
    → TransferIsAt answer_of shape sends place host old
    → Transacts prepare_gives apply_gives answer_of fate host old after new
    → Shown prepare_gives apply_gives answer_of shape sends fate place host old after new
shown_unless prepare_gives apply_gives answer_of shape sends fate p d q a t None host old after new back running u tr =
    shown_at prepare_gives apply_gives answer_of shape.reads shape.length sends fate p d q a t host old after new back running u
    (subst (λ (s : HostStage). TransactsAt prepare_gives apply_gives answer_of fate s old.stage host.bytes host old after new) u.sender.stage tr)
shown_unless prepare_gives apply_gives answer_of shape sends fate p d q a t (Some fault) host old after new back running u tr = let e = ap progress_of u in cc

pub try_shown : {R : Type 0} (prepare_gives : PrepareGives R) (apply_gives : ApplyGives R) (answer_of : AnswerOf R)
    (shape : Shape) (sends : List ℕ) (fate : Fate) (place : Place) (host : HostTransferState)
    (old : DevControlState R) (after : HostTransferState) (new : DevControlState R)
    → setup_of (setup_bytes host.setup) ≡ host.setup → IsRunning host.stage
    → TransferIsAt answer_of shape sends place host old
    → Transacts prepare_gives apply_gives answer_of fate host old after new
    → Shown prepare_gives apply_gives answer_of shape sends fate place host old after new
try_shown prepare_gives apply_gives answer_of shape sends fate place host old after new back running u tr =
    shown_unless prepare_gives apply_gives answer_of shape sends fate place.host place.device place.decision place.applied place.tries place.fault host old after new back running u tr

pub goes_on :
    {R : Type 0} (prepare_gives : PrepareGives R) (apply_gives : ApplyGives R) (answer_of : AnswerOf R)
    (sends : List ℕ) (fate : Fate) (place : Place) (host : HostTransferState) (old : DevControlState R)
    (after : HostTransferState) (new : DevControlState R)
    → setup_of (setup_bytes host.setup) ≡ host.setup → IsRunning host.stage
    → TransferIsAt answer_of (transfer_shape host.setup) sends place host old
    → Transacts prepare_gives apply_gives answer_of fate host old after new
    → TryLeadsOn prepare_gives apply_gives answer_of host.setup sends fate place old.requests after new
goes_on prepare_gives apply_gives answer_of sends fate place host old after new encoded running stands transacts =
    let shape = transfer_shape host.setup in
    let shown = try_shown prepare_gives apply_gives answer_of shape sends fate place host old after new encoded running stands transacts in
    (place_after_try shape fate shown.0 place, (shown.0, shown.1, refl), shown.2)
