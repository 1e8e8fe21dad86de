-- What answers requests after the steps of a transfer.
use Rattle.std.proofs.Common.{◌≡◌, ℕ, ◌+◌, ◌⊎◌, inl, inr, refl, sym, ◌∙◌, ap, subst, Bool, true, false, nat_lt, List, [], ◌∷◌, length, take, Option, Some, None, unwrap_or, arith}
use Rattle.std.specs.Prelude.{if◌then◌else◌}
use Rattle.usb_transact.specs.declared.transaction.Fate.{Fate}
use Rattle.usb_transact.specs.declared.transaction.Fate.TheVariants.{Clean, TokenLost, ReplyLost, AckLost}
use Rattle.usb_control.specs.declared.setup.Setup.{Setup as Request}
use Rattle.usb_control.specs.declared.fault.ControlFault.{ControlFault}
use Rattle.usb_control.specs.declared.fault.ControlFault.TheVariants as faults
use Rattle.usb_control.specs.declared.host.HostStage.{HostStage}
use Rattle.usb_control.specs.declared.host.HostStage.TheVariants as tries
use Rattle.usb_control.specs.SetupBytes.{setup_bytes, setup_of, reads}
use Rattle.usb_control.specs.Requests.{PrepareGives, ApplyGives, AnswerOf}
use Rattle.usb_control.specs.Device.{DevControlState}
use Rattle.usb_control.specs.Host.{HostTransferState, IsRunning, at_start, progress_of}
use Rattle.usb_control.specs.Transfer.{Shape, transfer_shape, Decision, Refused, Accepted, decision_of, Position, Setup, Piece, Status, Past, Place, start, answered_bytes, comes_from_device, Act, Nothing, Decides, TakesEffect, Acts, act_at, act_of, place_after_try}
use Rattle.usb_control.specs.Positions.{host_stage, TransferIsAt}
use Rattle.usb_control.specs.Runs.{is_open, IsAccepted}
use Rattle.usb_control.specs.Steps.{IsStep, Steps, IsAppliedOnce, IsOnceAtMost}
use Rattle.usb_control.proofs.ActLemmas.{NeedsEffect, effect_needs, decision_needs}
use Rattle.usb_control.proofs.StepLemmas.{at}
use Rattle.usb_control.proofs.TryLemmas.{try_shown}
use Rattle.usb_control.proofs.RunLemmas.{count_of, IsSound, Moves, moves_at, ended_is, SoundAt, SoundFault, SoundRefused}
use Rattle.usb_control.proofs.LawLemmas.{begins, done_is, read_is}

-- before the first SETUP that arrives
abbrev pub NotStalled : Option ControlFault → Type 0
NotStalled (Some faults.Stalled) = ⊥
NotStalled _ = Unit {0}

pub record Untouched (host : Position) (fault : Option ControlFault) : Type 0 where
  pub waits : host ≡ Setup
  pub going : NotStalled fault

silent_untouched : (d : Position) (q : Decision) (a : Bool) (t : ℕ) (b : Bool) → let after : Place = if b then at Setup d q a (t + 1) else record (at Setup d q a t) { fault = Some faults.BusFault } in Untouched after.host after.fault
silent_untouched d q a t true = record { waits = refl; going = tt }
silent_untouched d q a t false = record { waits = refl; going = tt }

setup_untouched : (shape : Shape) (fate : Fate) (decision : Decision) (d : Position) (q : Decision) (a : Bool) (t : ℕ)
    → act_at Setup shape fate decision q a ≡ Nothing → let after =
    place_after_try shape fate decision (at Setup d q a t) in Untouched after.host after.fault
setup_untouched shape TokenLost decision d q a t e = silent_untouched d q a t (nat_lt t 2)
setup_untouched shape Clean decision d q a t e = cc
setup_untouched shape ReplyLost decision d q a t e = cc
setup_untouched shape AckLost decision d q a t e = cc

still_untouched : (shape : Shape) (fate : Fate) (decision : Decision) (p d : Position) (q : Decision) (a : Bool)
    (t : ℕ) → p ≡ Setup → act_at p shape fate decision q a ≡ Nothing → let after =
    place_after_try shape fate decision (at p d q a t) in Untouched after.host after.fault
still_untouched shape fate decision p d q a t e =
    let Stays : Position → Type 0 =
    λ x. act_at x shape fate decision q a ≡ Nothing
    → Untouched (place_after_try shape fate decision (at x d q a t)).host
    (place_after_try shape fate decision (at x d q a t)).fault in
    subst Stays (sym e) (λ h. setup_untouched shape fate decision d q a t h)

-- what happened since the transfer began
abbrev pub Since : {R : Type 0} → PrepareGives R → ApplyGives R → AnswerOf R → Request → List ℕ → R → Position → Option ControlFault → Decision → Bool → R → Type 0
Since prepare_gives apply_gives answer_of request sends begun host fault decision true now = IsAppliedOnce prepare_gives apply_gives request sends begun now
Since prepare_gives apply_gives answer_of request sends begun host fault decision false now =
    (Untouched host fault × (now ≡ begun)) ⊎ ((said : Bool) × prepare_gives begun request said now × (decision ≡ decision_of said (answer_of now)))

pub record Told {R : Type 0} (prepare_gives : PrepareGives R) (apply_gives : ApplyGives R) (answer_of : AnswerOf R) (request : Request) (sends : List ℕ) (begun : R) (place : Place) (now : R) : Type 0 where
  pub sound : IsSound (reads request) place
  pub since : Since prepare_gives apply_gives answer_of request sends begun place.host place.fault place.decision place.applied now
  pub unapplied : reads request ≡ true → place.applied ≡ false

same_count : (a b : Bool) → count_of a ≡ count_of b → a ≡ b
same_count true true e = refl
same_count false false e = refl
same_count true false e = absurd (omega (arith, e))
same_count false true e = absurd (omega (arith, e))

no_count : (a : Bool) → count_of a ≡ 0 → a ≡ false
no_count a e = same_count a false e

one_count : (a b : Bool) → b ≡ false → count_of a ≡ count_of b + 1 → a ≡ true
one_count true b e h = refl
one_count false b e h = absurd (omega (arith, h))

accepted_said : (answer_of : Option (List ℕ)) (said : Bool) (decision : Decision) → decision ≡ decision_of said answer_of → IsAccepted decision → said ≡ true
accepted_said answer_of true decision e h = refl
accepted_said answer_of false decision e h = absurd (subst IsAccepted e h)

-- one try
since_nothing : {R : Type 0} (prepare_gives : PrepareGives R) (apply_gives : ApplyGives R) (answer_of : AnswerOf R) (request : Request) (sends : List ℕ) (begun : R) (p : Position) (q : Decision) (a : Bool) (now : R) (after : Place) → (p ≡ Setup → Untouched after.host after.fault) → Since prepare_gives apply_gives answer_of request sends begun p None q a now → Since prepare_gives apply_gives answer_of request sends begun after.host after.fault q a now
since_nothing prepare_gives apply_gives answer_of request sends begun p q true now after stays h = h
since_nothing prepare_gives apply_gives answer_of request sends begun p q false now after stays (inl h) = inl (stays h.0.waits, h.1)
since_nothing prepare_gives apply_gives answer_of request sends begun p q false now after stays (inr h) = inr h

since_effect : {R : Type 0} (prepare_gives : PrepareGives R) (apply_gives : ApplyGives R) (answer_of : AnswerOf R) (request : Request) (sends : List ℕ) (begun : R) (p : Position) (q : Decision) (old new : R) → p ≡ Status → IsAccepted q → apply_gives old sends new → Since prepare_gives apply_gives answer_of request sends begun p None q false old → IsAppliedOnce prepare_gives apply_gives request sends begun new
since_effect prepare_gives apply_gives answer_of request sends begun p q old new e accepted h (inl g) = let f = g.0.waits in cc
since_effect prepare_gives apply_gives answer_of request sends begun p q old new e accepted h (inr (said, decided, f)) =
    (old, subst (λ (b : Bool). prepare_gives begun request b old) (accepted_said (answer_of old) said q f accepted) decided, h)

-- deciding again is deciding once
abbrev pub DecidesAgain : {R : Type 0} → PrepareGives R → Request → Type 0
DecidesAgain {R} prepare_gives request = (s t u : R) (b said : Bool) → prepare_gives s request b t → prepare_gives t request said u → prepare_gives s request said u

since_decision : {R : Type 0} (prepare_gives : PrepareGives R) (apply_gives : ApplyGives R) (answer_of : AnswerOf R) (request : Request) (sends : List ℕ) (begun : R) (p : Position) (q : Decision) (said : Bool) (old new : R) → DecidesAgain prepare_gives request → prepare_gives old request said new → Since prepare_gives apply_gives answer_of request sends begun p None q false old → prepare_gives begun request said new
since_decision prepare_gives apply_gives answer_of request sends begun p q said old new again decided (inl h) = subst (λ (r : _). prepare_gives r request said new) h.1 decided
since_decision prepare_gives apply_gives answer_of request sends begun p q said old new again decided (inr (b, first, f)) = again begun old new b said first decided

-- the fields of a place may be replaced by equal ones
since_at : {R : Type 0} (prepare_gives : PrepareGives R) (apply_gives : ApplyGives R) (answer_of : AnswerOf R) (request : Request) (sends : List ℕ) (begun : R) (p : Position) (fault : Option ControlFault) (q q2 : Decision) (a a2 : Bool) (now : R) → q2 ≡ q → a2 ≡ a → Since prepare_gives apply_gives answer_of request sends begun p fault q a now → Since prepare_gives apply_gives answer_of request sends begun p fault q2 a2 now
since_at prepare_gives apply_gives answer_of request sends begun p fault q q2 a a2 now e f h =
    subst (λ (x : Decision). Since prepare_gives apply_gives answer_of request sends begun p fault x a2 now) (sym e)
    (subst (λ (b : Bool). Since prepare_gives apply_gives answer_of request sends begun p fault q b now) (sym f) h)

told_by : {R : Type 0} (prepare_gives : PrepareGives R) (apply_gives : ApplyGives R) (answer_of : AnswerOf R)
    (request : Request) (sends : List ℕ) (begun : R) (p d : Position) (q : Decision) (a : Bool) (t : ℕ) (act : Act)
    (old new : R) (after : Place) → Moves (reads request) (at p d q a t) after act
    → (act ≡ Nothing → p ≡ Setup → Untouched after.host after.fault)
    → (act ≡ TakesEffect → NeedsEffect p (transfer_shape request) q a)
    → ((d : Decision) → act ≡ Decides d → p ≡ Setup) → DecidesAgain prepare_gives request
    → Acts prepare_gives apply_gives answer_of request sends act old new
    → Told prepare_gives apply_gives answer_of request sends begun (at p d q a t) old
    → Told prepare_gives apply_gives answer_of request sends begun after new
told_by prepare_gives apply_gives answer_of request sends begun p d q a t Nothing old new after m stays needs sets again acts h =
    let applied = same_count after.applied a m.applied in
    record {
      sound = m.sound;
      since = since_at prepare_gives apply_gives answer_of request sends begun after.host after.fault q after.decision a after.applied new m.decision applied
          (since_nothing prepare_gives apply_gives answer_of request sends begun p q a new after (stays refl) (subst (λ (r : _). Since prepare_gives apply_gives answer_of request sends begun p None q a r) (sym acts) h.since));
      unapplied = λ e. applied ∙ h.unapplied e;
    }
told_by prepare_gives apply_gives answer_of request sends begun p d q a t (Decides decision) old new after m stays needs sets again (said, decided, e) h =
    let applied = no_count after.applied m.since in
    let none : a ≡ false = subst (λ (x : Position). SoundAt (reads request) x q a) (sets decision refl) h.sound.ended in
    let since = subst (λ (b : Bool). Since prepare_gives apply_gives answer_of request sends begun p None q b old) none h.since in
    let once = since_decision prepare_gives apply_gives answer_of request sends begun p q said old new again decided since in
    record {
      sound = m.sound;
      since = since_at prepare_gives apply_gives answer_of request sends begun after.host after.fault decision after.decision false after.applied new m.decision applied (inr (said, once, e));
      unapplied = λ f. applied;
    }
told_by prepare_gives apply_gives answer_of request sends begun p d q a t TakesEffect old new after m stays needs sets again acts h =
    let need = needs refl in
    let applied = one_count after.applied a need.first m.applied in
    let since = subst (λ (b : Bool). Since prepare_gives apply_gives answer_of request sends begun p None q b old) need.first h.since in
    record {
      sound = m.sound;
      since = since_at prepare_gives apply_gives answer_of request sends begun after.host after.fault q after.decision true after.applied new m.decision applied (since_effect prepare_gives apply_gives answer_of request sends begun p q old new need.status need.accepted acts since);
      unapplied = λ e. let w = need.writes in cc;
    }

-- a transfer that runs hasn't failed, and isn't at its end
open_at : (shape : Shape) (p : Position) (stage : HostStage) → stage ≡ host_stage shape p → IsRunning stage → (d : Position) (q : Decision) (a : Bool) (t : ℕ) → is_open (at p d q a t) ≡ true
open_at shape Setup stage e running d q a t = refl
open_at shape (Piece k) stage e running d q a t = refl
open_at shape Status stage e running d q a t = refl
open_at shape Past stage e running d q a t = let g = ap progress_of e in cc

-- where the ends stand after some steps, and what happened meanwhile
pub record Reached {R : Type 0} (prepare_gives : PrepareGives R) (apply_gives : ApplyGives R) (answer_of : AnswerOf R) (request : Request) (sends : List ℕ) (begun : R) (host : HostTransferState) (control : DevControlState R) : Type 0 where
  pub place : Place
  pub stands : TransferIsAt answer_of (transfer_shape request) sends place host control
  pub told : Told prepare_gives apply_gives answer_of request sends begun place control.requests
  pub asked : host.setup ≡ request

told_step : {R : Type 0} (prepare_gives : PrepareGives R) (apply_gives : ApplyGives R) (answer_of : AnswerOf R)
    (request : Request) (sends : List ℕ) (begun : R) (fate : Fate) (p d : Position) (q : Decision) (a : Bool) (t : ℕ)
    (fault : Option ControlFault) (host : HostTransferState) (old : DevControlState R) (after : HostTransferState)
    (new : DevControlState R) → let place : Place =
    record { host = p; device = d; decision = q; applied = a; tries = t; fault = fault } in
    setup_of (setup_bytes request) ≡ request → DecidesAgain prepare_gives request → host.setup ≡ request
    → TransferIsAt answer_of (transfer_shape request) sends place host old
    → Told prepare_gives apply_gives answer_of request sends begun place old.requests
    → IsStep prepare_gives apply_gives answer_of fate host old after new
    → Reached prepare_gives apply_gives answer_of request sends begun after new
told_step prepare_gives apply_gives answer_of request sends begun fate p d q a t (Some f) host old after new back again e stands told step =
    let g = ap progress_of stands in let running = step.running in cc
told_step prepare_gives apply_gives answer_of request sends begun fate p d q a t None host old after new back again e stands told step =
    let shape = transfer_shape request in
    let encoded = subst (λ (x : Request). setup_of (setup_bytes x) ≡ x) (sym e) back in
    let shown = try_shown prepare_gives apply_gives answer_of shape sends fate (at p d q a t) host old after new encoded step.running stands step.transacts in
    let moves = moves_at (reads request) request.length fate p d shown.0 q a t None (open_at shape p host.stage stands.sender.stage step.running d q a t) told.sound in
    record {
      place = place_after_try shape fate shown.0 (at p d q a t);
      stands = shown.2;
      told = told_by prepare_gives apply_gives answer_of request sends begun p d q a t (act_of shape fate shown.0 (at p d q a t)) old.requests new.requests _ moves
          (λ f g. still_untouched shape fate shown.0 p d q a t g f) (λ f. effect_needs p shape fate shown.0 q a f) (λ x f. decision_needs p shape fate shown.0 q a x f) again
          (subst (λ (x : Request). Acts prepare_gives apply_gives answer_of x sends (act_of shape fate shown.0 (at p d q a t)) old.requests new.requests) e shown.1) told;
      asked = step.same ∙ e;
    }

pub steps_told : {R : Type 0} (prepare_gives : PrepareGives R) (apply_gives : ApplyGives R) (answer_of : AnswerOf R) (request : Request) (sends : List ℕ) (begun : R) (fates : List Fate) (host : HostTransferState) (old : DevControlState R) (after : HostTransferState) (new : DevControlState R) → setup_of (setup_bytes request) ≡ request → DecidesAgain prepare_gives request → Reached prepare_gives apply_gives answer_of request sends begun host old → Steps prepare_gives apply_gives answer_of fates host old after new → Reached prepare_gives apply_gives answer_of request sends begun after new
steps_told prepare_gives apply_gives answer_of request sends begun [] host old after new back again r (e, f) =
    subst (λ (c : DevControlState _). Reached prepare_gives apply_gives answer_of request sends begun after c) (sym f) (subst (λ (h : HostTransferState). Reached prepare_gives apply_gives answer_of request sends begun h old) (sym e) r)
steps_told prepare_gives apply_gives answer_of request sends begun (fate ∷ fates) host old after new back again r (host_mid, mid, step, more) =
    let next = told_step prepare_gives apply_gives answer_of request sends begun fate r.place.host r.place.device r.place.decision r.place.applied r.place.tries r.place.fault host old host_mid mid back again r.asked r.stands r.told step in
    steps_told prepare_gives apply_gives answer_of request sends begun fates host_mid mid after new back again next more

pub told_from_start : {R : Type 0} (prepare_gives : PrepareGives R) (apply_gives : ApplyGives R) (answer_of : AnswerOf R) (addr : ℕ) (request : Request) (sends : List ℕ) (fates : List Fate) (old : DevControlState R) (after : HostTransferState) (new : DevControlState R) → setup_of (setup_bytes request) ≡ request → DecidesAgain prepare_gives request → length sends ≡ (if reads request then 0 else request.length) → Steps prepare_gives apply_gives answer_of fates (at_start addr request sends) old after new → Reached prepare_gives apply_gives answer_of request sends old.requests after new
told_from_start prepare_gives apply_gives answer_of addr request sends fates old after new back again whole steps =
    steps_told prepare_gives apply_gives answer_of request sends old.requests fates (at_start addr request sends) old after new back again (record {
      place = start;
      stands = begins answer_of addr request sends old whole;
      told = record { sound = record { ended = refl; refused = refl; fault = tt }; since = inl (record { waits = refl; going = tt }, refl); unapplied = λ e. refl };
      asked = refl;
    }) steps

-- a read that is done
accepted_now : {R : Type 0} (prepare_gives : PrepareGives R) (apply_gives : ApplyGives R) (answer_of : AnswerOf R) (request : Request) (sends : List ℕ) (begun : R) (p : Position) (fault : Option ControlFault) (q : Decision) (a : Bool) (now : R) → p ≡ Past → IsAccepted q → a ≡ false → Since prepare_gives apply_gives answer_of request sends begun p fault q a now → prepare_gives begun request true now × (q ≡ Accepted (answer_of now))
accepted_now prepare_gives apply_gives answer_of request sends begun p fault q true now e accepted none h = cc
accepted_now prepare_gives apply_gives answer_of request sends begun p fault q false now e accepted none (inl h) = let f = h.0.waits in cc
accepted_now prepare_gives apply_gives answer_of request sends begun p fault q false now e accepted none (inr (said, decided, f)) =
    let yes_said = accepted_said (answer_of now) said q f accepted in (
      subst (λ (b : Bool). prepare_gives begun request b now) yes_said decided,
      f ∙ ap (λ (b : Bool). decision_of b (answer_of now)) yes_said,
    )

pub read_told : {R : Type 0} (prepare_gives : PrepareGives R) (apply_gives : ApplyGives R) (answer_of : AnswerOf R) (request : Request) (sends : List ℕ) (begun : R) (host : HostTransferState) (control : DevControlState R) → reads request ≡ true → host.stage ≡ tries.Done → Reached prepare_gives apply_gives answer_of request sends begun host control → prepare_gives begun request true control.requests × (host.bytes ≡ take request.length (unwrap_or (answer_of control.requests) []))
read_told prepare_gives apply_gives answer_of request sends begun host control is done r =
    let ended = (done_is answer_of (transfer_shape request) sends r.place host control r.stands).0 done in
    let sound = ended_is (reads request) r.place.host r.place.decision r.place.applied ended.1 r.told.sound.ended in
    let now = accepted_now prepare_gives apply_gives answer_of request sends begun r.place.host r.place.fault r.place.decision r.place.applied control.requests ended.1 sound.0 (r.told.unapplied is) r.told.since in (
      now.0,
      read_is answer_of (transfer_shape request) sends r.place host control r.stands ended is
          ∙ ap (answered_bytes (transfer_shape request)) now.1,
    )

-- a write that is done
pub write_told : {R : Type 0} (prepare_gives : PrepareGives R) (apply_gives : ApplyGives R) (answer_of : AnswerOf R) (request : Request) (sends : List ℕ) (begun : R) (host : HostTransferState) (control : DevControlState R) → reads request ≡ false → host.stage ≡ tries.Done → Reached prepare_gives apply_gives answer_of request sends begun host control → IsAppliedOnce prepare_gives apply_gives request sends begun control.requests
write_told prepare_gives apply_gives answer_of request sends begun host control is done r =
    let ended = (done_is answer_of (transfer_shape request) sends r.place host control r.stands).0 done in
    let sound = ended_is (reads request) r.place.host r.place.decision r.place.applied ended.1 r.told.sound.ended in
    subst (λ (b : Bool). Since prepare_gives apply_gives answer_of request sends begun r.place.host r.place.fault r.place.decision b control.requests) (sound.1 is) r.told.since

-- a transfer that ended with a STALL
way_no_fault : (b : Bool) (s t : HostStage) (f : ControlFault) → ¬ (s ≡ tries.Failed f) → ¬ (t ≡ tries.Failed f) → ¬ ((if b then s else t) ≡ tries.Failed f)
way_no_fault true s t f g h = g
way_no_fault false s t f g h = h

no_fault : (shape : Shape) (p : Position) (f : ControlFault) → ¬ (host_stage shape p ≡ tries.Failed f)
no_fault shape Setup f e = cc
no_fault shape (Piece k) f e = way_no_fault shape.reads _ _ f (λ h. cc) (λ h. cc) e
no_fault shape Status f e = way_no_fault (comes_from_device shape Status) _ _ f (λ h. cc) (λ h. cc) e
no_fault shape Past f e = cc

fault_is : {R : Type 0} (answer_of : AnswerOf R) (shape : Shape) (sends : List ℕ) (p d : Position) (q : Decision)
    (a : Bool) (t : ℕ) (fault : Option ControlFault) (f : ControlFault) (host : HostTransferState)
    (control : DevControlState R) → let place : Place =
    record { host = p; device = d; decision = q; applied = a; tries = t; fault = fault } in
    TransferIsAt answer_of shape sends place host control → host.stage ≡ tries.Failed f → fault ≡ Some f
fault_is answer_of shape sends p d q a t None f host control u e = absurd (no_fault shape p f (sym u.sender.stage ∙ e))
fault_is answer_of shape sends p d q a t (Some g) f host control u e = let same = sym u ∙ e in cc

refused_now : {R : Type 0} (prepare_gives : PrepareGives R) (apply_gives : ApplyGives R) (answer_of : AnswerOf R) (request : Request) (sends : List ℕ) (begun : R) (p : Position) (fault : Option ControlFault) (q : Decision) (a : Bool) (now : R) → fault ≡ Some faults.Stalled → q ≡ Refused → a ≡ false → Since prepare_gives apply_gives answer_of request sends begun p fault q a now → prepare_gives begun request false now
refused_now prepare_gives apply_gives answer_of request sends begun p fault q true now e f none h = cc
refused_now prepare_gives apply_gives answer_of request sends begun p fault q false now e f none (inl h) = absurd (subst NotStalled e h.0.going)
refused_now prepare_gives apply_gives answer_of request sends begun p fault q false now e f none (inr (true, decided, g)) = cc
refused_now prepare_gives apply_gives answer_of request sends begun p fault q false now e f none (inr (false, decided, g)) = decided

pub stall_told : {R : Type 0} (prepare_gives : PrepareGives R) (apply_gives : ApplyGives R) (answer_of : AnswerOf R) (request : Request) (sends : List ℕ) (begun : R) (host : HostTransferState) (control : DevControlState R) → host.stage ≡ tries.Failed faults.Stalled → Reached prepare_gives apply_gives answer_of request sends begun host control → prepare_gives begun request false control.requests
stall_told prepare_gives apply_gives answer_of request sends begun host control e r =
    let fault =
    fault_is answer_of
    (transfer_shape request) sends r.place.host r.place.device r.place.decision r.place.applied r.place.tries r.place.fault faults.Stalled host control r.stands e in
    let refused : r.place.decision ≡ Refused = subst (λ (f : Option ControlFault). SoundFault f r.place.decision) fault r.told.sound.fault in
    let unapplied : r.place.applied ≡ false = subst (λ (q : Decision). SoundRefused q r.place.applied) refused r.told.sound.refused in
    refused_now prepare_gives apply_gives answer_of request sends begun r.place.host r.place.fault r.place.decision r.place.applied control.requests fault refused unapplied r.told.since

-- wherever a transfer stands
no_read : (r a : Bool) → a ≡ true → (r ≡ true → a ≡ false) → r ≡ false
no_read false a e h = refl
no_read true a e h = let f = h refl in cc

once_now : {R : Type 0} (prepare_gives : PrepareGives R) (apply_gives : ApplyGives R) (answer_of : AnswerOf R) (request : Request) (sends : List ℕ) (begun : R) (p : Position) (fault : Option ControlFault) (q : Decision) (a : Bool) (now : R) → (reads request ≡ true → a ≡ false) → Since prepare_gives apply_gives answer_of request sends begun p fault q a now → IsOnceAtMost prepare_gives apply_gives request sends begun now
once_now prepare_gives apply_gives answer_of request sends begun p fault q true now unapplied h = inr (inr (no_read (reads request) true refl unapplied, h))
once_now prepare_gives apply_gives answer_of request sends begun p fault q false now unapplied (inl h) = inl h.1
once_now prepare_gives apply_gives answer_of request sends begun p fault q false now unapplied (inr (said, decided, e)) = inr (inl (said, decided))

pub once_told : {R : Type 0} (prepare_gives : PrepareGives R) (apply_gives : ApplyGives R) (answer_of : AnswerOf R) (request : Request) (sends : List ℕ) (begun : R) (host : HostTransferState) (control : DevControlState R) → Reached prepare_gives apply_gives answer_of request sends begun host control → IsOnceAtMost prepare_gives apply_gives request sends begun control.requests
once_told prepare_gives apply_gives answer_of request sends begun host control r = once_now prepare_gives apply_gives answer_of request sends begun r.place.host r.place.fault r.place.decision r.place.applied control.requests r.told.unapplied r.told.since
