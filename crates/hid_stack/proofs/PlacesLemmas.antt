-- How a try moves a place: what it keeps, when a write took effect, and which of its places are those of a transfer that runs.
use Rattle.std.proofs.Common.{◌≡◌, ◌≢◌, ℕ, Bool, true, false, not, ◌||◌, List, Option, Some, None, refl, ap, sym, ◌∙◌, subst}
use Rattle.std.specs.Prelude.{if◌then◌else◌, nat_lt, ◌+◌, ◌==◌, suc}
use Rattle.usb_transact.specs.declared.transaction.Fate.{Fate}
use Rattle.usb_transact.specs.declared.transaction.Fate.TheVariants.{Clean, TokenLost, ReplyLost, AckLost}
use Rattle.usb_control.specs.declared.fault.ControlFault.{ControlFault}
use Rattle.usb_control.specs.declared.fault.ControlFault.TheVariants.{BusFault}
use Rattle.usb_control.specs.Device.{DevControlState}
use Rattle.usb_control.specs.Host.{HostTransferState, IsRunning}
use Rattle.usb_control.specs.Positions.{TransferIsAt, TransferIsAtWithFault, host_stage}
use Rattle.usb_control.specs.Transfer.{Shape, Decision, Refused, Accepted, Position, Setup, Piece, Status, Past, Place, place_after_silence, place_after_in, place_after_out, place_after_refusal, place_after_piece, applies, comes_from_device, data_pieces, place_after_decision, next_position, place_after_setup, place_after_try_at}

-- a place after a try that wasn't decided on, and didn't take effect, by what stays
pub record Stays (place after : Place) : Type 0 where
  pub applied : after.applied ≡ place.applied
  pub decision : after.decision ≡ place.decision

silent_by : (place : Place) (b : Bool) → Stays place (if b then record place { tries = place.tries + 1 } else record place { fault = Some BusFault })
silent_by place true = record { applied = refl; decision = refl }
silent_by place false = record { applied = refl; decision = refl }

pub silent_stays : (place : Place) → Stays place (place_after_silence place)
silent_stays place = silent_by place (nat_lt place.tries 2)

in_stays : (fate : Fate) (count : ℕ) (place : Place) → Stays place (place_after_in fate count place)
in_stays TokenLost count place = silent_stays place
in_stays ReplyLost count place = silent_stays place
in_stays AckLost count place = record { applied = refl; decision = refl }
in_stays Clean count place = record { applied = refl; decision = refl }

out_stays : (fate : Fate) (count : ℕ) (place : Place) → Stays place (place_after_out fate count place)
out_stays TokenLost count place = silent_stays place
out_stays ReplyLost count place = let s =
    silent_stays (record place { device = next_position count place.host }) in
    record { applied = s.applied; decision = s.decision }
out_stays AckLost count place = let s =
    silent_stays (record place { device = next_position count place.host }) in
    record { applied = s.applied; decision = s.decision }
out_stays Clean count place = record { applied = refl; decision = refl }

refused_stays : (fate : Fate) (comes_in : Bool) (place : Place)
    → Stays place (place_after_refusal fate comes_in place)
refused_stays Clean comes_in place = record { applied = refl; decision = refl }
refused_stays AckLost true place = record { applied = refl; decision = refl }
refused_stays AckLost false place = silent_stays place
refused_stays TokenLost comes_in place = silent_stays place
refused_stays ReplyLost comes_in place = silent_stays place

-- a piece of an accepted request
pub record Reaches (shape : Shape) (fate : Fate) (place after : Place) : Type 0 where
  pub applied : after.applied ≡ applies shape fate place.host || place.applied
  pub decision : after.decision ≡ place.decision

accepted_by : (shape : Shape) (fate : Fate) (count : ℕ) (place : Place) (b : Bool)
    → Reaches shape fate place
    (if b then place_after_in fate count
    (record place { applied = applies shape fate place.host || place.applied }) else place_after_out fate count
    (record place { applied = applies shape fate place.host || place.applied }))
accepted_by shape fate count place true = let s = in_stays fate count (record place { applied = applies shape fate place.host || place.applied }) in record { applied = s.applied; decision = s.decision }
accepted_by shape fate count place false = let s = out_stays fate count (record place { applied = applies shape fate place.host || place.applied }) in record { applied = s.applied; decision = s.decision }

pub accepted_reaches : (shape : Shape) (fate : Fate) (answer : Option (List ℕ)) (place : Place)
    → Reaches shape fate place (place_after_piece shape fate (Accepted answer) place)
accepted_reaches shape fate answer place =
    accepted_by shape fate (data_pieces shape (Accepted answer)) place (comes_from_device shape place.host)

-- a piece keeps what was decided
pub piece_decision : (shape : Shape) (fate : Fate) (q : Decision) (place : Place)
    → (place_after_piece shape fate q place).decision ≡ place.decision
piece_decision shape fate Refused place = (refused_stays fate (comes_from_device shape place.host) place).decision
piece_decision shape fate (Accepted answer) place = (accepted_reaches shape fate answer place).decision

-- a piece of a refused request takes no effect
pub refused_applied : (shape : Shape) (fate : Fate) (place : Place)
    → (place_after_piece shape fate Refused place).applied ≡ place.applied
refused_applied shape fate place = (refused_stays fate (comes_from_device shape place.host) place).applied

-- a SETUP that didn't get its handshake leaves the host there
host_by : (place : Place) (b : Bool) → (if b then record place { tries = place.tries + 1 } else record place { fault = Some BusFault }).host ≡ place.host
host_by place true = refl
host_by place false = refl

pub silent_host : (place : Place) → (place_after_silence place).host ≡ place.host
silent_host place = host_by place (nat_lt place.tries 2)

-- ---- the host comes past the last piece of a write by its status alone, which took effect then

first_not_past : (b : Bool) → (if b then Status else Piece 0) ≢ Past
first_not_past true h = cc
first_not_past false h = cc

next_not_past : (k : ℕ) (b : Bool) → (if b then Piece (suc k) else Status) ≢ Past
next_not_past k true h = cc
next_not_past k false h = cc

out_past : (fate : Fate) (count k : ℕ) (place : Place) → place.host ≡ Piece k
    → (place_after_out fate count place).host ≡ Past → ⊥
out_past TokenLost count k place at h = let wrong : Piece k ≡ Past = sym at ∙ sym (silent_host place) ∙ h in cc
out_past ReplyLost count k place at h = let wrong : Piece k ≡ Past =
    sym at ∙ sym (silent_host (record place { device = next_position count place.host })) ∙ h in cc
out_past AckLost count k place at h = let wrong : Piece k ≡ Past =
    sym at ∙ sym (silent_host (record place { device = next_position count place.host })) ∙ h in cc
out_past Clean count k place at h = next_not_past k (nat_lt (suc k) count) (sym (ap (next_position count) at) ∙ h)

refused_host : (fate : Fate) (comes_in : Bool) (place : Place)
    → (place_after_refusal fate comes_in place).host ≡ place.host
refused_host Clean comes_in place = refl
refused_host AckLost true place = refl
refused_host AckLost false place = silent_host place
refused_host TokenLost comes_in place = silent_host place
refused_host ReplyLost comes_in place = silent_host place

setup_past : (fate : Fate) (count : ℕ) (decision : Decision) (place : Place) → place.host ≡ Setup
    → (place_after_setup fate count decision place).host ≡ Past → ⊥
setup_past TokenLost count decision place at h = let wrong : Setup ≡ Past = sym at ∙ sym (silent_host place) ∙ h in cc
setup_past ReplyLost count decision place at h = let wrong : Setup ≡ Past =
    sym at ∙ sym (silent_host (place_after_decision count decision place)) ∙ h in cc
setup_past AckLost count decision place at h = let wrong : Setup ≡ Past =
    sym at ∙ sym (silent_host (place_after_decision count decision place)) ∙ h in cc
setup_past Clean count decision place at h = first_not_past (count == 0) h

-- a status of an accepted write whose answer reaches the host took effect
status_applied : (shape : Shape) (fate : Fate) (count : ℕ) (place : Place) → shape.reads ≡ false → place.host ≡ Status
    → (place_after_in fate count (record place { applied = applies shape fate place.host || place.applied })).host
    ≡ Past → applies shape fate place.host || place.applied ≡ true
status_applied shape TokenLost count place writes at h = let wrong : Status ≡ Past = sym at ∙ sym (silent_host (record place { applied = applies shape TokenLost place.host || place.applied })) ∙ h in absurd (cc)
status_applied shape ReplyLost count place writes at h = let wrong : Status ≡ Past = sym at ∙ sym (silent_host (record place { applied = applies shape ReplyLost place.host || place.applied })) ∙ h in absurd (cc)
status_applied shape AckLost count place writes at h = ap (λ (p : Position). applies shape AckLost p || place.applied) at ∙ ap (λ (b : Bool). not b || place.applied) writes
status_applied shape Clean count place writes at h = ap (λ (p : Position). applies shape Clean p || place.applied) at ∙ ap (λ (b : Bool). not b || place.applied) writes

-- a piece of an accepted write goes to the device, and leads no further than its status
piece_past : (shape : Shape) (fate : Fate) (k : ℕ) (answer : Option (List ℕ)) (place : Place) → shape.reads ≡ false → place.host ≡ Piece k
    → (place_after_piece shape fate (Accepted answer) (record place { decision = Accepted answer })).host ≡ Past → ⊥
piece_past shape fate k answer place writes at h =
    let count = data_pieces shape (Accepted answer) in
    let reached : Place = record place { decision = Accepted answer; applied = applies shape fate place.host || place.applied } in
    let goes_out : comes_from_device shape place.host ≡ false = ap (comes_from_device shape) at ∙ writes in
    out_past fate count k reached at
    (subst (λ (b : Bool).
    (if b then place_after_in fate count reached else place_after_out fate count reached).host ≡ Past) goes_out h)

status_past : (shape : Shape) (fate : Fate) (answer : Option (List ℕ)) (place : Place) → shape.reads ≡ false → place.host ≡ Status
    → (place_after_piece shape fate (Accepted answer) (record place { decision = Accepted answer })).host ≡ Past
    → (place_after_piece shape fate (Accepted answer) (record place { decision = Accepted answer })).applied ≡ true
status_past shape fate answer place writes at h =
    let count = data_pieces shape (Accepted answer) in
    let reached : Place = record place { decision = Accepted answer; applied = applies shape fate place.host || place.applied } in
    let comes_in : comes_from_device shape place.host ≡ true =
    ap (comes_from_device shape) at ∙ ap (λ (b : Bool). not b || (shape.length == 0)) writes in
    let here =
    subst (λ (b : Bool).
    (if b then place_after_in fate count reached else place_after_out fate count reached).host
    ≡ Past) comes_in h in
    (accepted_reaches shape fate answer (record place { decision = Accepted answer })).applied
    ∙ status_applied shape fate count (record place { decision = Accepted answer }) writes at here

pub past_applied : (shape : Shape) (fate : Fate) (decision : Decision) (p : Position) (q : Decision) (place : Place) → shape.reads ≡ false → place.host ≡ p → p ≢ Past
    → (place_after_try_at p shape fate decision (record place { decision = q })).host ≡ Past
    → (place_after_try_at p shape fate decision (record place { decision = q })).applied ≡ true
past_applied shape fate decision Setup q place writes at apart h = absurd (setup_past fate (data_pieces shape decision) decision (record place { decision = q }) at h)
past_applied shape fate decision (Piece k) Refused place writes at apart h = let wrong : Piece k ≡ Past =
    sym at ∙ sym (refused_host fate (comes_from_device shape place.host) (record place { decision = Refused })) ∙ h in
    absurd (cc)
past_applied shape fate decision (Piece k) (Accepted answer) place writes at apart h = absurd (piece_past shape fate k answer place writes at h)
past_applied shape fate decision Status Refused place writes at apart h = let wrong : Status ≡ Past =
    sym at ∙ sym (refused_host fate (comes_from_device shape place.host) (record place { decision = Refused })) ∙ h in
    absurd (cc)
past_applied shape fate decision Status (Accepted answer) place writes at apart h = status_past shape fate answer place writes at h
past_applied shape fate decision Past q place writes at apart h = absurd (apart refl)

-- ---- a transfer that runs is at a place that is open

pub open_place : {R : Type 0} (answer_of : R → Option (List ℕ)) (shape : Shape) (sends : List ℕ) (place : Place) (host : HostTransferState) (control : DevControlState R)
    → TransferIsAt answer_of shape sends place host control → IsRunning host.stage → place.host ≢ Past
open_place answer_of shape sends place host control stands running at =
    let by_fault : TransferIsAtWithFault answer_of shape sends place place.fault host control → ⊥
    = elim place.fault as
    (λ (f : Option ControlFault). TransferIsAtWithFault answer_of shape sends place f host control → ⊥) [
      | Some fault ↦ λ h. let wrong = subst IsRunning h running in cc
      | None ↦ λ b. let wrong = subst IsRunning (b.sender.stage ∙ ap (host_stage shape) at) running in cc
    ] in by_fault stands
