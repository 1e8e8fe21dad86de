-- One try keeps both ends at their positions.
use Rattle.std.proofs.Common.{◌≡◌, ℕ, zero, suc, ◌+◌, ◌<◌, ◌≤◌, inl, inr, refl, sym, ◌∙◌, ap, subst, Bool, true, false, nat_lt, ◌==◌, List, [], ◌∷◌, length, take, Option, Some, None, unwrap_or, arith}
use Rattle.std.specs.Prelude.{if◌then◌else◌}
use Rattle.std.proofs.lemmas.List.{length-take}
use Rattle.std.proofs.lemmas.Bool.{lt-ltb}
use Rattle.std.proofs.lemmas.Bool.Decides.{nat_tests}
use Rattle.usb_transact.specs.declared.transaction.Fate.{Fate}
use Rattle.usb_transact.specs.declared.transaction.Fate.TheVariants.{Clean, TokenLost, ReplyLost, AckLost}
use Rattle.usb_control.specs.declared.setup.Setup.{Setup as Request}
use Rattle.usb_control.specs.declared.fault.ControlFault.TheVariants as faults
use Rattle.usb_control.specs.declared.host.HostStage.TheVariants as tries
use Rattle.usb_control.specs.SetupBytes.{setup_bytes, setup_of, reads}
use Rattle.usb_control.specs.Requests.{PrepareGives, ApplyGives, AnswerOf}
use Rattle.usb_control.specs.Device.{DevControlState, stage_after_decision}
use Rattle.usb_control.specs.Host.{HostTransferState, after_no_answer, with_stage, with_failure, after_setup}
use Rattle.usb_control.specs.Transaction.{TransactsAt}
use Rattle.usb_control.specs.Transfer.{Shape, Decision, Refused, Accepted, decision_of, Position, Setup, Piece, Status, Past, Place, Acts, act_of, data_pieces, piece_count, read_pieces, first_position, next_position, place_after_silence, place_after_try}
use Rattle.usb_control.specs.Positions.{host_stage, host_bytes, accepted_stage, DeviceIsAtAfterSetup, DeviceIsAt, AreWithinAPiece, BothAreAt, TransferIsAt}
use Rattle.usb_control.proofs.PieceLemmas.{count_bounds}

-- what a try is to show
abbrev pub Shown : {R : Type 0} → PrepareGives R → ApplyGives R → AnswerOf R → Shape → List ℕ → Fate → Place → HostTransferState → DevControlState R → HostTransferState → DevControlState R → Type 0
Shown prepare_gives apply_gives answer_of shape sends fate place host old after new =
    (decision : Decision) × Acts prepare_gives apply_gives answer_of host.setup sends (act_of shape fate decision place) old.requests new.requests
    × TransferIsAt answer_of shape sends (place_after_try shape fate decision place) after new

-- a place of a transfer that hasn't failed
abbrev pub at : Position → Position → Decision → Bool → ℕ → Place
at host device decision applied tries = record { host = host; device = device; decision = decision; applied = applied; tries = tries; fault = None }

-- a try without an answer
silent_if : {R : Type 0} (answer_of : AnswerOf R) (shape : Shape) (sends : List ℕ) (p d : Position) (q : Decision)
    (a : Bool) (t : ℕ) (host : HostTransferState) (control : DevControlState R) (b : Bool)
    → BothAreAt answer_of shape sends (at p d q a t) host control
    → TransferIsAt answer_of shape sends
    (if b then at p d q a (t + 1) else record (at p d q a t) { fault = Some faults.BusFault })
    (if b then record host { tries = host.tries + 1 } else with_failure faults.BusFault host) control
silent_if answer_of shape sends p d q a t host control true u = record {
  whole = u.whole;
  sender = record { asked = u.sender.asked; stage = u.sender.stage; bytes = u.sender.bytes; tries = ap (λ n. n + 1) u.sender.tries };
  near = u.near;
  device = u.device;
}
silent_if answer_of shape sends p d q a t host control false u = refl

pub silent_stands : {R : Type 0} (answer_of : AnswerOf R) (shape : Shape) (sends : List ℕ) (p d : Position)
    (q : Decision) (a : Bool) (t : ℕ) (host : HostTransferState) (control : DevControlState R)
    → BothAreAt answer_of shape sends (at p d q a t) host control
    → TransferIsAt answer_of shape sends (place_after_silence (at p d q a t)) (after_no_answer host) control
silent_stands answer_of shape sends p d q a t host control u =
    subst (λ (b : Bool). TransferIsAt answer_of shape sends
    (if b then at p d q a (t + 1) else record (at p d q a t) { fault = Some faults.BusFault })
    (after_no_answer host) control)
    (ap (λ n. nat_lt n 2) u.sender.tries)
    (silent_if answer_of shape sends p d q a t host control (nat_lt host.tries 2) u)

-- the ends, where they are what they are said to be
pub moved : {R : Type 0} (answer_of : AnswerOf R) (shape : Shape) (sends : List ℕ) (place : Place)
    (host after : HostTransferState) (control new : DevControlState R) → after ≡ host → new ≡ control
    → TransferIsAt answer_of shape sends place host control → TransferIsAt answer_of shape sends place after new
moved answer_of shape sends place host after control new e f h = rw (e, f) h

-- the device at a position after SETUP
pub has_stands : {R : Type 0} (answer_of : AnswerOf R) (shape : Shape) (sends : List ℕ) (q : Decision) (a : Bool)
    (p : Position) (control : DevControlState R) → DeviceIsAtAfterSetup answer_of shape sends q a p control
    → DeviceIsAt answer_of shape sends q a p control
has_stands answer_of shape sends q a Setup control h = tt
has_stands answer_of shape sends q a (Piece k) control h = h
has_stands answer_of shape sends q a Status control h = h
has_stands answer_of shape sends q a Past control h = h

-- a position after SETUP
abbrev pub IsAfter : Position → Type 0
IsAfter Setup = ⊥
IsAfter _ = Unit {0}

pub stands_has : {R : Type 0} (answer_of : AnswerOf R) (shape : Shape) (sends : List ℕ) (q : Decision) (a : Bool)
    (p : Position) (control : DevControlState R) → IsAfter p → DeviceIsAt answer_of shape sends q a p control
    → DeviceIsAtAfterSetup answer_of shape sends q a p control
stands_has answer_of shape sends q a Setup control after h = absurd after
stands_has answer_of shape sends q a (Piece k) control after h = h
stands_has answer_of shape sends q a Status control after h = h
stands_has answer_of shape sends q a Past control after h = h

next_if : (k : ℕ) (b : Bool) → IsAfter (if b then Piece (suc k) else Status)
next_if k true = tt
next_if k false = tt

pub next_after : (count k : ℕ) → IsAfter (next_position count (Piece k))
next_after count k = next_if k (nat_lt (suc k) count)

-- the first data piece, or the status where there is none
is_zero : (n : ℕ) → 0 < n → (n == 0) ≡ false
is_zero n h = grind (arith, nat_tests)

pub first_position-piece : (count : ℕ) → 0 < count → first_position count ≡ Piece 0
first_position-piece count h = rw (is_zero count h) refl

piece_count-some : (n : ℕ) → 0 < piece_count (suc n)
piece_count-some n = omega arith

read_pieces-some : (n k : ℕ) → k ≤ suc n → 0 < read_pieces (suc n) k
read_pieces-some n k le = omega (arith, count_bounds (suc n) k le)

-- the stage after a decision is that of the first position
read_begun : (len : ℕ) (answer : Option (List ℕ)) (sends : List ℕ) → let shape : Shape =
    record { reads = true; length = len } in stage_after_decision true true len
    ≡ accepted_stage shape sends (data_pieces shape (Accepted answer)) false
    (first_position (data_pieces shape (Accepted answer)))
read_begun zero answer sends = refl
read_begun (suc n) answer sends =
    rw (
      is_zero (suc n) (omega arith),
      first_position-piece (read_pieces (suc n) (length (take (suc n) (unwrap_or answer []))))
          (read_pieces-some n _ (simp length-take (omega arith))),
    ) refl

write_begun : (len : ℕ) (sends : List ℕ) → length sends ≡ len → let shape : Shape =
    record { reads = false; length = len } in stage_after_decision true false len
    ≡ accepted_stage shape sends (piece_count len) false (first_position (piece_count len))
write_begun zero [] whole = refl
write_begun zero (x ∷ xs) whole = absurd (omega (arith, whole))
write_begun (suc n) sends whole =
    rw (first_position-piece (piece_count (suc n)) (piece_count-some n), lt-ltb 0 (suc n) (omega arith)) refl

-- a shape by its parts
abbrev pub shaped : Bool → ℕ → Shape
shaped r len = record { reads = r; length = len }

pieces-some : (r : Bool) (n : ℕ) (q : Decision) → 0 < data_pieces (shaped r (suc n)) q
pieces-some true n Refused = read_pieces-some n 0 (omega arith)
pieces-some true n (Accepted answer) = read_pieces-some n _ (simp length-take (omega arith))
pieces-some false n q = piece_count-some n

pieces-none : (r : Bool) (q : Decision) → data_pieces (shaped r 0) q ≡ 0
pieces-none true Refused = refl
pieces-none true (Accepted answer) = refl
pieces-none false q = refl

setup_has : {R : Type 0} (answer_of : AnswerOf R) (r : Bool) (len : ℕ) (sends : List ℕ) (mid : DevControlState R)
    (said : Bool) → (r ≡ false → length sends ≡ len) → mid.stage ≡ stage_after_decision said r len
    → DeviceIsAtAfterSetup answer_of (shaped r len) sends (decision_of said (answer_of mid.requests)) false
    (first_position (data_pieces (shaped r len) (decision_of said (answer_of mid.requests)))) mid
setup_has answer_of r len sends mid false whole h = h
setup_has answer_of true len sends mid true whole h = (h ∙ read_begun len (answer_of mid.requests) sends, λ _. refl)
setup_has answer_of false len sends mid true whole h = (h ∙ write_begun len sends (whole refl), λ _. refl)

-- the host after the ACK of its SETUP
setup_stage : (r : Bool) (len : ℕ) (q : Decision)
    → after_setup r len ≡ host_stage (shaped r len) (first_position (data_pieces (shaped r len) q))
setup_stage true zero q = rw (pieces-none true q) refl
setup_stage false zero q = refl
setup_stage true (suc n) q = rw (is_zero (suc n) (omega arith), first_position-piece _ (pieces-some true n q)) refl
setup_stage false (suc n) q = rw (is_zero (suc n) (omega arith), first_position-piece _ (pieces-some false n q)) refl

setup_bytes_is : (r : Bool) (len : ℕ) (sends : List ℕ) (q0 q : Decision)
    → host_bytes (shaped r len) sends q0 Setup
    ≡ host_bytes (shaped r len) sends q (first_position (data_pieces (shaped r len) q))
setup_bytes_is false len sends q0 q = refl
setup_bytes_is true zero sends q0 Refused = refl
setup_bytes_is true zero sends q0 (Accepted answer) = refl
setup_bytes_is true (suc n) sends q0 q = rw (first_position-piece _ (pieces-some true n q)) refl

setup_near : (r : Bool) (len : ℕ) (q : Decision)
    → AreWithinAPiece (shaped r len) q false (first_position (data_pieces (shaped r len) q))
    (first_position (data_pieces (shaped r len) q))
setup_near true zero Refused = refl
setup_near false zero Refused = refl
setup_near true zero (Accepted answer) = refl
setup_near false zero (Accepted answer) = refl
setup_near r (suc n) Refused =
    rw (first_position-piece _ (pieces-some r n Refused)) (sym (first_position-piece _ (pieces-some r n Refused)))
setup_near true (suc n) (Accepted answer) =
    rw (first_position-piece _ (pieces-some true n (Accepted answer)))
    (pieces-some true n (Accepted answer), inl refl)
setup_near false (suc n) (Accepted answer) =
    rw (first_position-piece _ (pieces-some false n (Accepted answer)))
    (pieces-some false n (Accepted answer), refl, inl refl)

-- a try of SETUP
setup_arrived : {R : Type 0} (answer_of : AnswerOf R) (shape : Shape) (sends : List ℕ) (d : Position) (q : Decision)
    (a : Bool) (t : ℕ) (host : HostTransferState) (old mid : DevControlState R) (said : Bool)
    → BothAreAt answer_of shape sends (at Setup d q a t) host old
    → mid.stage ≡ stage_after_decision said shape.reads shape.length → let decision =
    decision_of said (answer_of mid.requests) in
    BothAreAt answer_of shape sends (at Setup (first_position (data_pieces shape decision)) decision false t) host mid
setup_arrived answer_of shape sends d q a t host old mid said u h = record {
  whole = u.whole;
  sender = record { asked = u.sender.asked; stage = u.sender.stage; bytes = u.sender.bytes; tries = u.sender.tries };
  near = inr refl;
  device = has_stands answer_of shape sends _ false _ mid (setup_has answer_of shape.reads shape.length sends mid said u.whole h);
}

setup_clean : {R : Type 0} (answer_of : AnswerOf R) (shape : Shape) (sends : List ℕ) (d : Position) (q : Decision)
    (a : Bool) (t : ℕ) (host : HostTransferState) (old mid : DevControlState R) (said : Bool)
    → BothAreAt answer_of shape sends (at Setup d q a t) host old
    → mid.stage ≡ stage_after_decision said shape.reads shape.length → let decision =
    decision_of said (answer_of mid.requests) in let p =
    first_position (data_pieces shape decision) in
    BothAreAt answer_of shape sends (at p p decision false 0)
    (with_stage (after_setup shape.reads shape.length) host) mid
setup_clean answer_of shape sends d q a t host old mid said u h = record {
  whole = u.whole;
  sender = record {
    asked = u.sender.asked;
    stage = setup_stage shape.reads shape.length _;
    bytes = u.sender.bytes ∙ setup_bytes_is shape.reads shape.length sends q _;
    tries = refl;
  };
  near = setup_near shape.reads shape.length _;
  device = has_stands answer_of shape sends _ false _ mid (setup_has answer_of shape.reads shape.length sends mid said u.whole h);
}

pub setup_shown : {R : Type 0} (prepare_gives : PrepareGives R) (apply_gives : ApplyGives R) (answer_of : AnswerOf R)
    (shape : Shape) (sends : List ℕ) (fate : Fate) (d : Position) (q : Decision) (a : Bool) (t : ℕ)
    (host : HostTransferState) (old : DevControlState R) (after : HostTransferState) (new : DevControlState R)
    → setup_of (setup_bytes host.setup) ≡ host.setup → BothAreAt answer_of shape sends (at Setup d q a t) host old
    → TransactsAt prepare_gives apply_gives answer_of fate tries.Setup old.stage host.bytes host old after new
    → Shown prepare_gives apply_gives answer_of shape sends fate (at Setup d q a t) host old after new
setup_shown prepare_gives apply_gives answer_of shape sends TokenLost d q a t host old after new back u (e, f) =
    (q, ap (λ c. c.requests) f, moved answer_of shape sends _ _ after _ new e f (silent_stands answer_of shape sends Setup d q a t host old u))
setup_shown prepare_gives apply_gives answer_of shape sends Clean d q a t host old after new back u (mid, answer, (said, p, stage, last_packet, ack), e, f) =
    let p' = subst (λ (s : Request). prepare_gives old.requests s said mid.requests) back p in
    let stage' =
    subst (λ (s : Request). mid.stage ≡ stage_after_decision said (reads s) s.length) back stage
    ∙ ap (λ s. stage_after_decision said s.reads s.length) u.sender.asked in
    let decision : Decision = decision_of said (answer_of mid.requests) in
    let e' : after ≡ with_stage (after_setup shape.reads shape.length) host =
    rw ack at e ∙ ap (λ s. with_stage (after_setup s.reads s.length) host) u.sender.asked in
    rw (f, e') (decision, (said, p', refl), setup_clean answer_of shape sends d q a t host old mid said u stage')
setup_shown prepare_gives apply_gives answer_of shape sends ReplyLost d q a t host old after new back u (mid, answer, (said, p, stage, last_packet, ack), e, f) =
    let p' = subst (λ (s : Request). prepare_gives old.requests s said mid.requests) back p in
    let stage' =
    subst (λ (s : Request). mid.stage ≡ stage_after_decision said (reads s) s.length) back stage
    ∙ ap (λ s. stage_after_decision said s.reads s.length) u.sender.asked in
    let decision : Decision = decision_of said (answer_of mid.requests) in
    rw (f, e) (
      decision,
      (said, p', refl),
      silent_stands answer_of shape sends Setup
          (first_position (data_pieces shape decision)) decision false t host mid
          (setup_arrived answer_of shape sends d q a t host old mid said u stage'),
    )
setup_shown prepare_gives apply_gives answer_of shape sends AckLost d q a t host old after new back u (mid, answer, (said, p, stage, last_packet, ack), e, f) =
    let p' = subst (λ (s : Request). prepare_gives old.requests s said mid.requests) back p in
    let stage' =
    subst (λ (s : Request). mid.stage ≡ stage_after_decision said (reads s) s.length) back stage
    ∙ ap (λ s. stage_after_decision said s.reads s.length) u.sender.asked in
    let decision : Decision = decision_of said (answer_of mid.requests) in
    rw (f, e) (
      decision,
      (said, p', refl),
      silent_stands answer_of shape sends Setup
          (first_position (data_pieces shape decision)) decision false t host mid
          (setup_arrived answer_of shape sends d q a t host old mid said u stage'),
    )
