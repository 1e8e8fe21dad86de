-- One try of a data piece of a write that was accepted.
use Rattle.std.proofs.Common.{◌≡◌, ℕ, suc, ◌+◌, ◌*◌, ◌<◌, ◌≤◌, inl, inr, refl, sym, ◌∙◌, ap, subst, Bool, true, false, not, nat_lt, nat_le, ◌==◌, ◌&&◌, List, ◌++◌, length, take, Option, Some, arith}
use Rattle.std.specs.Prelude.{if◌then◌else◌}
use Rattle.std.specs.Bool.{beq}
use Rattle.std.proofs.lemmas.Bool.{ltb-true}
use Rattle.std.proofs.lemmas.List.{length-take, take_all}
use Rattle.std.proofs.lemmas.Bool.Decides.{nat_tests}
use Rattle.usb_packet.specs.declared.packet.Packet.TheVariants as packets
use Rattle.usb_transact.specs.declared.transaction.Fate.{Fate}
use Rattle.usb_control.specs.declared.device.Stage.{Stage}
use Rattle.usb_control.specs.declared.device.Stage.TheVariants as stages
use Rattle.usb_control.specs.declared.device.LastPacket.TheVariants as last_packets
use Rattle.usb_control.specs.declared.host.HostStage.{HostStage}
use Rattle.usb_control.specs.declared.host.HostStage.TheVariants as tries
use Rattle.usb_control.specs.Requests.{PrepareGives, ApplyGives, AnswerOf}
use Rattle.usb_control.specs.Pieces.{piece_from}
use Rattle.usb_control.specs.Device.{DevControlState, Answers, effect_of_out, effect_of_data}
use Rattle.usb_control.specs.Host.{HostTransferState, with_stage, after_write_piece}
use Rattle.usb_control.specs.Transaction.{TransactsAt}
use Rattle.usb_control.specs.Transfer.{Accepted, Position, Piece, Status, piece_count, next_position}
use Rattle.usb_control.specs.Positions.{piece_toggle, host_stage, write_stage, DeviceIsAt, AreWithinAPiece, BothAreAt, TransferIsAt}
use Rattle.usb_control.proofs.PieceLemmas.{take-next, length-piece, full_pieces, goes_on, is_last}
use Rattle.usb_control.proofs.StepLemmas.{at, has_stands, stands_has, next_after, shaped}
use Rattle.usb_control.proofs.PlaceLemmas.{out_place, out_shown}

pub same-piece_toggle : (b : Bool) → beq b b ≡ true
same-piece_toggle true = refl
same-piece_toggle false = refl

pub other-piece_toggle : (b : Bool) → beq b (not b) ≡ false
other-piece_toggle true = refl
other-piece_toggle false = refl

-- a piece of a write that another one follows, and the last one
more_piece : (sends : List ℕ) (k : ℕ) → suc k < piece_count (length sends) → (length (piece_from sends (8 * k)) ≡ 8) × (length (take (8 * k) sends) ≡ 8 * k) × (8 * k + 8 < length sends)
more_piece sends k more =
    let h = goes_on (length sends) (length sends) k (omega arith) (rw (full_pieces (length sends)) more) in
    (rw (length-piece sends (8 * k)) (omega (arith, h)), rw (length-take (8 * k) sends) (omega (arith, h)), h.1)

last_piece : (sends : List ℕ) (k : ℕ) → k < piece_count (length sends) → ¬ (suc k < piece_count (length sends)) → (length (piece_from sends (8 * k)) ≤ 8) × (length (take (8 * k) sends) ≡ 8 * k) × (8 * k + length (piece_from sends (8 * k)) ≡ length sends) × (suc k ≡ piece_count (length sends)) × (take (8 * suc k) sends ≡ sends)
last_piece sends k here last =
    let h = is_last (length sends) (length sends) k (omega arith) (rw (full_pieces (length sends)) here) (rw (full_pieces (length sends)) last) in
    let len = length-piece sends (8 * k) in
    (rw len (omega arith), rw (length-take (8 * k) sends) (omega (arith, h)), rw len (omega (arith, h)), rw (full_pieces (length sends)) at h.2, take_all (8 * suc k) sends (omega (arith, h)))

pub is_within : (a b : ℕ) → a ≤ b → nat_le a b ≡ true
is_within a b h = grind (arith, nat_tests)

data_taken : (len : ℕ) (one : Bool) (bytes payload joined : List ℕ) (more : Bool) → length payload ≤ 8
    → length bytes + length payload ≤ len
    → ((length payload == 8) && nat_lt (length bytes + length payload) len) ≡ more → bytes ++ payload ≡ joined
    → effect_of_data len one bytes true payload
    ≡ Answers (Some packets.Ack) (stages.WriteData len (not one) (record { items = joined }) more) last_packets.Nothing
data_taken len one bytes payload joined more short fits more_is joined_is =
    rw (is_within (length payload) 8 short, is_within (length bytes + length payload) len fits, more_is, joined_is) refl

-- the device takes the piece that it waits for
piece_given : (sends : List ℕ) (k : ℕ) (more : Bool) → nat_lt (suc k) (piece_count (length sends)) ≡ more
    → k < piece_count (length sends)
    → effect_of_out (stages.WriteData (length sends) (piece_toggle k) (record { items = take (8 * k) sends }) true)
    (piece_toggle k) (piece_from sends (8 * k))
    ≡ Answers (Some packets.Ack)
    (write_stage (length sends) sends (piece_count (length sends)) false
    (if more then Piece (suc k) else Status)) last_packets.Nothing
piece_given sends k true e here =
    let h = more_piece sends k (ltb-true _ _ e) in
    rw (same-piece_toggle (piece_toggle k))
    (data_taken (length sends) (piece_toggle k) (take (8 * k) sends) (piece_from sends (8 * k))
    (take (8 * suc k) sends) true (omega (arith, h)) (omega (arith, h))
    (rw (h.0, h.1) (grind (arith, nat_tests, h.2))) (take-next sends k))
piece_given sends k false e here =
    let h = last_piece sends k here (λ more. absurd (grind (arith, nat_tests))) in
    let all : length (take (8 * k) sends) + length (piece_from sends (8 * k)) ≡ length sends = omega (arith, h) in
    rw (same-piece_toggle (piece_toggle k), ap piece_toggle (sym h.3))
    (data_taken (length sends) (piece_toggle k) (take (8 * k) sends) (piece_from sends (8 * k)) sends false h.0
    (omega (arith, all)) (rw all (grind (arith, nat_tests))) (take-next sends k ∙ h.4))

-- the device throws away the piece that it has
piece_repeated : (sends payload : List ℕ) (k : ℕ) (more : Bool) → nat_lt (suc k) (piece_count (length sends)) ≡ more
    → k < piece_count (length sends)
    → effect_of_out
    (write_stage (length sends) sends (piece_count (length sends)) false (if more then Piece (suc k) else Status))
    (piece_toggle k) payload
    ≡ Answers (Some packets.Ack)
    (write_stage (length sends) sends (piece_count (length sends)) false
    (if more then Piece (suc k) else Status)) last_packets.Nothing
piece_repeated sends payload k true e here = rw (other-piece_toggle (piece_toggle k)) refl
piece_repeated sends payload k false e here =
    let h = last_piece sends k here (λ more. absurd (grind (arith, nat_tests))) in
    rw (ap piece_toggle (sym h.3), other-piece_toggle (piece_toggle k)) refl

-- the host goes on after the ACK
piece_sent : (sends : List ℕ) (k : ℕ) (more : Bool) → nat_lt (suc k) (piece_count (length sends)) ≡ more
    → k < piece_count (length sends)
    → after_write_piece (8 * k + length (piece_from sends (8 * k))) (length sends) (piece_toggle k)
    ≡ host_stage (shaped false (length sends)) (if more then Piece (suc k) else Status)
piece_sent sends k true e here =
    let h = more_piece sends k (ltb-true _ _ e) in
    let sent : 8 * k + length (piece_from sends (8 * k)) ≡ 8 * suc k = omega (arith, h) in
    let test : ((8 * suc k) == length sends) ≡ false = grind (arith, nat_tests, h.2) in
    rw (sent, test) refl
piece_sent sends k false e here =
    let h = last_piece sends k here (λ more. absurd (grind (arith, nat_tests))) in
    let test : (length sends == length sends) ≡ true = grind (arith, nat_tests) in
    rw (h.2, test) refl

next_near : (sends : List ℕ) (x : Option (List ℕ)) (k : ℕ) (more : Bool)
    → nat_lt (suc k) (piece_count (length sends)) ≡ more → let n =
    if more then Piece (suc k) else Status in AreWithinAPiece (shaped false (length sends)) (Accepted x) false n n
next_near sends x k true e = (ltb-true _ _ e, refl, inl refl)
next_near sends x k false e = refl

-- a try of a data piece, where the device waits for it or has it already
piece_tried : {R : Type 0} (prepare_gives : PrepareGives R) (apply_gives : ApplyGives R) (answer_of : AnswerOf R)
    (sends : List ℕ) (fate : Fate) (k : ℕ) (d : Position) (x : Option (List ℕ)) (t : ℕ) (host : HostTransferState)
    (old : DevControlState R) (after : HostTransferState) (new : DevControlState R) (device_stage : Stage)
    → let shape = shaped false (length sends) in let n =
    next_position (piece_count (length sends)) (Piece k) in k < piece_count (length sends)
    → effect_of_out device_stage (piece_toggle k) (piece_from sends (8 * k))
    ≡ Answers (Some packets.Ack) (write_stage (length sends) sends (piece_count (length sends)) false n) last_packets.Nothing
    → BothAreAt answer_of shape sends (at (Piece k) d (Accepted x) false t) host old
    → TransactsAt prepare_gives apply_gives answer_of fate
    (tries.DataOut (8 * k) (piece_toggle k)) device_stage sends host old after new
    → (new.requests ≡ old.requests)
    × TransferIsAt answer_of shape sends (out_place fate (Piece k) d n (Accepted x) false t) after new
piece_tried prepare_gives apply_gives answer_of sends fate k d x t host old after new device_stage here effect u tr =
    let shape = shaped false (length sends) in
    let n = next_position (piece_count (length sends)) (Piece k) in
    out_shown prepare_gives apply_gives answer_of shape sends fate (Piece k) d n (Accepted x) false t host
    (tries.DataOut (8 * k) (piece_toggle k)) (host_stage shape n) device_stage
    (write_stage (length sends) sends (piece_count (length sends)) false n) sends old after new tt refl
    (ap (λ (s : HostStage). with_stage s host)
    (ap (λ (b : List ℕ). after_write_piece (8 * k + length (piece_from b (8 * k))) (length b)
    (piece_toggle k)) u.sender.bytes ∙ piece_sent sends k _ refl here))
    effect
    u
    (λ m h same. record {
      whole = u.whole;
      sender = record { asked = u.sender.asked; stage = u.sender.stage; bytes = u.sender.bytes; tries = u.sender.tries };
      near = (here, refl, inr refl);
      device = has_stands answer_of shape sends (Accepted x) false n m (h, λ r. cc);
    })
    (λ m h same. record {
      whole = u.whole;
      sender = record { asked = u.sender.asked; stage = refl; bytes = u.sender.bytes; tries = refl };
      near = next_near sends x k _ refl;
      device = has_stands answer_of shape sends (Accepted x) false n m (h, λ r. cc);
    })
    tr

pub write_shown : {R : Type 0} (prepare_gives : PrepareGives R) (apply_gives : ApplyGives R) (answer_of : AnswerOf R)
    (sends : List ℕ) (fate : Fate) (k : ℕ) (d : Position) (x : Option (List ℕ)) (t : ℕ) (host : HostTransferState)
    (old : DevControlState R) (after : HostTransferState) (new : DevControlState R) → let shape =
    shaped false (length sends) in let n =
    next_position (piece_count (length sends)) (Piece k) in
    BothAreAt answer_of shape sends (at (Piece k) d (Accepted x) false t) host old
    → TransactsAt prepare_gives apply_gives answer_of fate
    (tries.DataOut (8 * k) (piece_toggle k)) old.stage sends host old after new
    → (new.requests ≡ old.requests)
    × TransferIsAt answer_of shape sends (out_place fate (Piece k) d n (Accepted x) false t) after new
write_shown prepare_gives apply_gives answer_of sends fate k d x t host old after new u tr =
    let shape = shaped false (length sends) in
    let n = next_position (piece_count (length sends)) (Piece k) in
    elim u.near.2 [
      | inl level ↦
          let stands =
          subst (λ (p : Position). DeviceIsAt answer_of shape sends (Accepted x) false p old) level u.device in
          piece_tried prepare_gives apply_gives answer_of sends fate k d x t host old after new
          (stages.WriteData (length sends) (piece_toggle k) (record { items = take (8 * k) sends }) true) u.near.0
          (piece_given sends k _ refl u.near.0) u
          (subst (λ (s : Stage). TransactsAt prepare_gives apply_gives answer_of fate
          (tries.DataOut (8 * k) (piece_toggle k)) s sends host old after new) stands.0 tr)
      | inr ahead ↦
          let stands =
          subst (λ (p : Position). DeviceIsAt answer_of shape sends (Accepted x) false p old) ahead u.device in
          let has = stands_has answer_of shape sends (Accepted x) false n old (next_after (piece_count (length sends)) k) stands in
          piece_tried prepare_gives apply_gives answer_of sends fate k d x t host old after new (write_stage (length sends) sends (piece_count (length sends)) false n) u.near.0 (piece_repeated sends _ k _ refl u.near.0) u
          (subst (λ (s : Stage). TransactsAt prepare_gives apply_gives answer_of fate
          (tries.DataOut (8 * k) (piece_toggle k)) s sends host old after new) has.0 tr)
    ]
