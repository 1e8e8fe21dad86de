-- A host comes to know its virtual device, and nothing else of it.
use Rattle.std.proofs.Common.{◌≡◌, ◌≢◌, ℕ, Bool, true, false, ◌||◌, List, Option, refl, ap, sym, ◌∙◌, subst}
use Rattle.std.specs.Prelude.{if◌then◌else◌}
use Rattle.usb_transact.specs.declared.transaction.Fate.{Fate}
use Rattle.usb_transact.specs.declared.transaction.Fate.TheVariants.{Clean, TokenLost, ReplyLost, AckLost}
use Rattle.usb_control.specs.declared.setup.Setup.{Setup as Request'}
use Rattle.usb_control.specs.TryFunctions.{AppliesBy, PreparesBy}
use Rattle.usb_control.specs.Transfer.{Act, Acts, Decides, Nothing, TakesEffect, Shape, transfer_shape, Decision, Accepted, Refused, decision_of, Position, Setup, Piece, Status, Past, Place, act_at, place_after_try_at, place_after_setup, place_after_piece, applies, data_pieces, place_after_decision}
use Rattle.hid_requests.specs.declared.request.Request.{Request}
use Rattle.hid_requests.specs.declared.request.Request.TheVariants as requests
use Rattle.hid_requests.specs.declared.request.Asking.{Asking}
use Rattle.hid_requests.specs.RequestSetup.{FitsRequest, IsOfReports, row_of, setup_for}
use Rattle.hid_requests.proofs.RequestKindLemmas.{asked_so}
use Rattle.hid_device.specs.declared.decisions.PendingWrite.{PendingWrite}
use Rattle.hid_device.specs.declared.decisions.PendingWrite.TheVariants as pendings
use Rattle.hid_device.specs.Core.{CoreState}
use Rattle.hid_device.specs.RequestDecisions.{RequestDecision, Refuses, Reads, Writes, is_accepted, writes_if}
use Rattle.hid_device.specs.RequestTable.{core_after_decision, core_after_write, core_table, decide, decision_on, row_decision}
use Rattle.hid_stack.specs.HostInvariant.{IsAfterSetup, IsDecided, IsDecidedBy, StartsAtData0}
use Rattle.hid_stack.specs.Trails.{deciding_state_after}
use Rattle.hid_stack.proofs.PlacesLemmas.{accepted_reaches, piece_decision, refused_applied, silent_host, silent_stays}

-- what a device was made with stays, and so does its configuration
pub record Goes (old new : CoreState) : Type 0 where
  pub layout : new.layout ≡ old.layout
  pub config : new.config ≡ old.config
  pub descriptor : new.descriptor ≡ old.descriptor
  pub configured : old.is_configured ≡ true → new.is_configured ≡ true

goes_nowhere : (core : CoreState) → Goes core core
goes_nowhere core = record { layout = refl; config = refl; descriptor = refl; configured = λ h. h }

left_goes : (core : CoreState) (d : RequestDecision) → Goes core (core_after_decision core d)
left_goes core Refuses = record { layout = refl; config = refl; descriptor = refl; configured = λ h. h }
left_goes core (Reads bytes) = record { layout = refl; config = refl; descriptor = refl; configured = λ h. h }
left_goes core (Writes pending) = record { layout = refl; config = refl; descriptor = refl; configured = λ h. h }

effect_goes : (core : CoreState) (bytes : List ℕ) (pending : PendingWrite)
    → Goes core (core_after_write core bytes pending)
effect_goes core bytes pendings.Nothing = goes_nowhere core
effect_goes core bytes pendings.Configure = record { layout = refl; config = refl; descriptor = refl; configured = λ h. refl }
effect_goes core bytes (pendings.Keep i) = record { layout = refl; config = refl; descriptor = refl; configured = λ h. h }
effect_goes core bytes (pendings.Idle report time) = record { layout = refl; config = refl; descriptor = refl; configured = λ h. h }
effect_goes core bytes (pendings.Protocol protocol) = record { layout = refl; config = refl; descriptor = refl; configured = λ h. h }
effect_goes core bytes pendings.Halt = record { layout = refl; config = refl; descriptor = refl; configured = λ h. h }
effect_goes core bytes pendings.Clear = record { layout = refl; config = refl; descriptor = refl; configured = λ h. h }

abbrev pub ActsOn : Request' → List ℕ → Act → CoreState → CoreState → Type 0
ActsOn setup bytes act old new = Acts (PreparesBy core_table) (AppliesBy core_table) core_table.answer_of setup bytes act old new

pub acts_go : (setup : Request') (bytes : List ℕ) (act : Act) (old new : CoreState) → ActsOn setup bytes act old new → Goes old new
acts_go setup bytes Nothing old new same = subst (λ (c : CoreState). Goes old c) (sym same) (goes_nowhere old)
acts_go setup bytes (Decides decision) old new (said, gives, is) = subst (λ (c : CoreState). Goes old c) (sym gives.1) (left_goes old (decide old setup))
acts_go setup bytes TakesEffect old new same = subst (λ (c : CoreState). Goes old c) (sym same) (effect_goes old bytes old.pending)

-- ---- what is decided after SETUP

by_row : (core : CoreState) (d : RequestDecision)
    → IsDecidedBy d (decision_of (is_accepted d) (core_after_decision core d).answer)
    (core_after_decision core d).pending
by_row core Refuses = (refl, refl)
by_row core (Reads bytes) = (refl, refl)
by_row core (Writes pending) = (refl, refl)

-- what is decided on the setup of a request is what its row says
decide_is : (request : Request) (asking : Asking) (core : CoreState) → FitsRequest request
    → IsOfReports request asking → decide core (setup_for request asking) ≡ row_decision core (row_of request)
unfolding decide
decide_is request asking core fits known = ap (decision_on core) (asked_so request asking fits known)

decided_so : (request : Request) (asking : Asking) (setup : Request') (old new : CoreState) (said : Bool) (decision : Decision) → FitsRequest request → IsOfReports request asking → setup ≡ setup_for request asking
    → said ≡ is_accepted (decide old setup) → new ≡ core_after_decision old (decide old setup)
    → decision ≡ decision_of said new.answer → IsDecided request old new decision
decided_so request asking setup old new said decision fits known asks accepts leaves is =
    let d = row_decision old (row_of request) in
    let row : decide old setup ≡ d = ap (decide old) asks ∙ decide_is request asking old fits known in
    let left : new ≡ core_after_decision old d = leaves ∙ ap (core_after_decision old) row in
    let says : said ≡ is_accepted d = accepts ∙ ap is_accepted row in
    let decides : decision ≡ decision_of (is_accepted d) (core_after_decision old d).answer
    = is ∙ ap (λ (b : Bool). decision_of b new.answer) says ∙ ap (λ (c : CoreState). decision_of (is_accepted d) c.answer) left in
    let goes = left_goes old d in
    subst (λ (c : CoreState). IsDecided request old c decision) (sym left) (record {
      same = record { layout = goes.layout; config = goes.config; descriptor = goes.descriptor };
      by = subst (λ (x : Decision). IsDecidedBy d x (core_after_decision old d).pending) (sym decides) (by_row old d);
    })

-- ---- what stays after it

-- an effect leaves what was pending
pends_on : (core : CoreState) (bytes : List ℕ) (pending : PendingWrite)
    → (core_after_write core bytes pending).pending ≡ core.pending
pends_on core bytes pendings.Nothing = refl
pends_on core bytes pendings.Configure = refl
pends_on core bytes (pendings.Keep i) = refl
pends_on core bytes (pendings.Idle report time) = refl
pends_on core bytes (pendings.Protocol protocol) = refl
pends_on core bytes pendings.Halt = refl
pends_on core bytes pendings.Clear = refl

abbrev IsQuiet : Act → Type 0
IsQuiet Nothing = Unit {0}
IsQuiet (Decides decision) = ⊥
IsQuiet TakesEffect = Unit {0}

quiet_pends : (setup : Request') (bytes : List ℕ) (act : Act) (old new : CoreState) → IsQuiet act → ActsOn setup bytes act old new → new.pending ≡ old.pending
quiet_pends setup bytes Nothing old new quiet same = ap (λ (c : CoreState). c.pending) same
quiet_pends setup bytes (Decides decision) old new quiet same = absurd quiet
quiet_pends setup bytes TakesEffect old new quiet same = ap (λ (c : CoreState). c.pending) same ∙ pends_on old bytes old.pending

pub decided_stays : (request : Request) (decider old new : CoreState) (decision : Decision) → Goes old new → new.pending ≡ old.pending → IsDecided request decider old decision → IsDecided request decider new decision
decided_stays request decider old new decision goes pends h = record {
  same = record { layout = goes.layout ∙ h.same.layout; config = goes.config ∙ h.same.config; descriptor = goes.descriptor ∙ h.same.descriptor };
  by = subst (λ (p : PendingWrite). IsDecidedBy (row_decision decider (row_of request)) decision p) (sym pends) h.by;
}

piece_quiet : (k : ℕ) (shape : Shape) (fate : Fate) (decision q : Decision) (a : Bool) → IsQuiet (act_at (Piece k) shape fate decision q a)
piece_quiet k shape TokenLost decision q a = tt
piece_quiet k shape Clean decision q a = tt
piece_quiet k shape ReplyLost decision q a = tt
piece_quiet k shape AckLost decision q a = tt

past_quiet : (shape : Shape) (fate : Fate) (decision q : Decision) (a : Bool) → IsQuiet (act_at Past shape fate decision q a)
past_quiet shape TokenLost decision q a = tt
past_quiet shape Clean decision q a = tt
past_quiet shape ReplyLost decision q a = tt
past_quiet shape AckLost decision q a = tt

quiet_if : (b : Bool) → IsQuiet (if b then Nothing else TakesEffect)
quiet_if true = tt
quiet_if false = tt

status_quiet : (shape : Shape) (fate : Fate) (decision q : Decision) (a : Bool) → IsQuiet (act_at Status shape fate decision q a)
status_quiet shape TokenLost decision q a = tt
status_quiet shape Clean decision Refused a = tt
status_quiet shape ReplyLost decision Refused a = tt
status_quiet shape AckLost decision Refused a = tt
status_quiet shape Clean decision (Accepted answer) true = tt
status_quiet shape ReplyLost decision (Accepted answer) true = tt
status_quiet shape AckLost decision (Accepted answer) true = tt
status_quiet shape Clean decision (Accepted answer) false = quiet_if shape.reads
status_quiet shape ReplyLost decision (Accepted answer) false = quiet_if shape.reads
status_quiet shape AckLost decision (Accepted answer) false = quiet_if shape.reads

behind_at : (p : Position) (shape : Shape) (fate : Fate) (decision : Decision) → p ≢ Setup → (q : Decision) (a : Bool) → IsQuiet (act_at p shape fate decision q a)
behind_at Setup shape fate decision apart q a = absurd (apart refl)
behind_at (Piece k) shape fate decision apart q a = piece_quiet k shape fate decision q a
behind_at Status shape fate decision apart q a = status_quiet shape fate decision q a
behind_at Past shape fate decision apart q a = past_quiet shape fate decision q a

-- a SETUP without its handshake keeps the host there
setup_behind : (fate : Fate) (count : ℕ) (decision : Decision) (place : Place) → place.host ≡ Setup
    → IsAfterSetup (place_after_setup fate count decision place).host → fate ≡ Clean
setup_behind TokenLost count decision place at behind = absurd (subst IsAfterSetup (silent_host place ∙ at) behind)
setup_behind ReplyLost count decision place at behind =
    absurd (subst IsAfterSetup (silent_host (place_after_decision count decision place) ∙ at) behind)
setup_behind AckLost count decision place at behind =
    absurd (subst IsAfterSetup (silent_host (place_after_decision count decision place) ∙ at) behind)
setup_behind Clean count decision place at behind = refl

by_setup : (request : Request) (asking : Asking) (setup : Request') (bytes : List ℕ) (fate : Fate) (decision : Decision) (place : Place) (decider old new : CoreState) → FitsRequest request → IsOfReports request asking → setup ≡ setup_for request asking
    → ActsOn setup bytes (act_at Setup (transfer_shape setup) fate decision place.decision place.applied) old new
    → fate ≡ Clean
    → IsDecided request
    (deciding_state_after
    (act_at Setup (transfer_shape setup) fate decision place.decision place.applied) old decider) new
    (place_after_setup fate (data_pieces (transfer_shape setup) decision) decision place).decision
by_setup request asking setup bytes Clean decision place decider old new fits known asks (said, gives, is) clean = decided_so request asking setup old new said decision fits known asks gives.0 gives.1 is
by_setup request asking setup bytes TokenLost decision place decider old new fits known asks acts clean = absurd (cc)
by_setup request asking setup bytes ReplyLost decision place decider old new fits known asks acts clean = absurd (cc)
by_setup request asking setup bytes AckLost decision place decider old new fits known asks acts clean = absurd (cc)

-- a device that decides nothing decided before
quiet_decider : (act : Act) (core decider : CoreState) → IsQuiet act → deciding_state_after act core decider ≡ decider
quiet_decider Nothing core decider quiet = refl
quiet_decider (Decides decision) core decider quiet = absurd quiet
quiet_decider TakesEffect core decider quiet = refl

later : (request : Request) (setup : Request') (bytes : List ℕ) (fate : Fate) (decision : Decision) (p : Position) (place : Place) (decider old new : CoreState) → p ≢ Setup
    → ActsOn setup bytes (act_at p (transfer_shape setup) fate decision place.decision place.applied) old new
    → IsDecided request decider old place.decision
    → IsDecided request
    (deciding_state_after
    (act_at p (transfer_shape setup) fate decision place.decision place.applied) old decider) new
    (place_after_piece (transfer_shape setup) fate place.decision place).decision
later request setup bytes fate decision p place decider old new apart acts h =
    let act = act_at p (transfer_shape setup) fate decision place.decision place.applied in
    let quiet = behind_at p (transfer_shape setup) fate decision apart place.decision place.applied in
    subst (λ (d : Decision). IsDecided request (deciding_state_after act old decider) new d)
    (sym (piece_decision (transfer_shape setup) fate place.decision place))
    (subst (λ (c : CoreState). IsDecided request c new place.decision) (sym (quiet_decider act old decider quiet))
    (decided_stays request decider old new place.decision (acts_go setup bytes act old new acts) (quiet_pends setup bytes act old new quiet acts) h))

-- what was decided after SETUP, after a try
pub decided_behind : (request : Request) (asking : Asking) (setup : Request') (bytes : List ℕ) (fate : Fate) (decision : Decision) (p : Position) (place : Place) (decider old new : CoreState)
    → FitsRequest request → IsOfReports request asking → setup ≡ setup_for request asking → place.host ≡ p
    → ActsOn setup bytes (act_at p (transfer_shape setup) fate decision place.decision place.applied) old new
    → (IsAfterSetup p → IsDecided request decider old place.decision)
    → IsAfterSetup (place_after_try_at p (transfer_shape setup) fate decision place).host
    → IsDecided request
    (deciding_state_after
    (act_at p (transfer_shape setup) fate decision place.decision place.applied) old decider) new
    (place_after_try_at p (transfer_shape setup) fate decision place).decision
decided_behind request asking setup bytes fate decision Setup place decider old new fits known asks at acts before behind =
    by_setup request asking setup bytes fate decision place decider old new fits known asks acts
    (setup_behind fate (data_pieces (transfer_shape setup) decision) decision place at behind)
decided_behind request asking setup bytes fate decision (Piece k) place decider old new fits known asks at acts before behind =
    later request setup bytes fate decision (Piece k) place decider old new (λ e. cc) acts (before tt)
decided_behind request asking setup bytes fate decision Status place decider old new fits known asks at acts before behind =
    later request setup bytes fate decision Status place decider old new (λ e. cc) acts (before tt)
decided_behind request asking setup bytes fate decision Past place decider old new fits known asks at acts before behind =
    later request setup bytes fate decision Past place decider old new (λ e. cc) acts (before tt)

-- ---- what took effect

-- what a write brings about: it holds after its effect, and after what is decided later
pub record Brings (pending : PendingWrite) (holds : CoreState → Type 0) : Type 0 where
  pub effect : (core : CoreState) (bytes : List ℕ) → holds (core_after_write core bytes pending)
  pub left : (core : CoreState) (d : RequestDecision) → holds core → holds (core_after_decision core d)

pub configure_brings : Brings pendings.Configure (λ core. core.is_configured ≡ true)
configure_brings = record { effect = λ core bytes. refl; left = λ core d h. (left_goes core d).configured h }

left_anew : (core : CoreState) (d : RequestDecision) → StartsAtData0 core → StartsAtData0 (core_after_decision core d)
left_anew core Refuses h = record { current = h.current; toggle = h.toggle }
left_anew core (Reads bytes) h = record { current = h.current; toggle = h.toggle }
left_anew core (Writes pending) h = record { current = h.current; toggle = h.toggle }

pub clear_brings : Brings pendings.Clear StartsAtData0
clear_brings = record { effect = λ core bytes. record { current = refl; toggle = refl }; left = left_anew }

-- a request was accepted
abbrev pub IsAccepted : Decision → Type 0
IsAccepted Refused = ⊥
IsAccepted (Accepted answer) = Unit {0}

-- what is pending after the SETUP of a write that is accepted
pub pends_where : (b : Bool) (wanted pending : PendingWrite) (q : Decision) → IsAccepted q
    → IsDecidedBy (writes_if b wanted) q pending → pending ≡ wanted
pends_where true wanted pending q accepted h = h.1
pends_where false wanted pending Refused accepted h = absurd accepted
pends_where false wanted pending (Accepted answer) accepted h = let wrong = h.0 in absurd (cc)

pub clear_pends : (decider core : CoreState) (q : Decision) → IsAccepted q → IsDecided requests.Clear decider core q → core.pending ≡ pendings.Clear
clear_pends decider core q accepted h = pends_where decider.is_configured pendings.Clear core.pending q accepted h.by

-- no write takes effect
abbrev IsKeeping : Act → Type 0
IsKeeping Nothing = Unit {0}
IsKeeping (Decides decision) = Unit {0}
IsKeeping TakesEffect = ⊥

acts_keep : {pending : PendingWrite} {holds : CoreState → Type 0} → Brings pending holds
    → (setup : Request') (bytes : List ℕ) (act : Act) (old new : CoreState) → IsKeeping act
    → ActsOn setup bytes act old new
    → holds old → holds new
acts_keep {pending} {holds} brings setup bytes Nothing old new keeps same h = subst holds (sym same) h
acts_keep {pending} {holds} brings setup bytes (Decides decision) old new keeps (said, gives, is) h = subst holds (sym gives.1) (brings.left old (decide old setup) h)
acts_keep {pending} {holds} brings setup bytes TakesEffect old new keeps acts h = absurd keeps

setup_keeps : (shape : Shape) (fate : Fate) (decision q : Decision) (a : Bool) → IsKeeping (act_at Setup shape fate decision q a)
setup_keeps shape TokenLost decision q a = tt
setup_keeps shape Clean decision q a = tt
setup_keeps shape ReplyLost decision q a = tt
setup_keeps shape AckLost decision q a = tt

piece_keeps : (k : ℕ) (shape : Shape) (fate : Fate) (decision q : Decision) (a : Bool) → IsKeeping (act_at (Piece k) shape fate decision q a)
piece_keeps k shape TokenLost decision q a = tt
piece_keeps k shape Clean decision q a = tt
piece_keeps k shape ReplyLost decision q a = tt
piece_keeps k shape AckLost decision q a = tt

past_keeps : (shape : Shape) (fate : Fate) (decision q : Decision) (a : Bool) → IsKeeping (act_at Past shape fate decision q a)
past_keeps shape TokenLost decision q a = tt
past_keeps shape Clean decision q a = tt
past_keeps shape ReplyLost decision q a = tt
past_keeps shape AckLost decision q a = tt

refused_keeps : (shape : Shape) (fate : Fate) (decision : Decision) (a : Bool) → IsKeeping (act_at Status shape fate decision Refused a)
refused_keeps shape TokenLost decision a = tt
refused_keeps shape Clean decision a = tt
refused_keeps shape ReplyLost decision a = tt
refused_keeps shape AckLost decision a = tt

effect_by : {pending : PendingWrite} {holds : CoreState → Type 0} → Brings pending holds
    → (shape : Shape) (setup : Request') (bytes : List ℕ) (old new : CoreState) → shape.reads ≡ false
    → old.pending ≡ pending
    → ActsOn setup bytes (if shape.reads then Nothing else TakesEffect) old new → holds new
effect_by {pending} {holds} brings shape setup bytes old new writes pends acts =
    let same : new ≡ core_after_write old bytes old.pending =
    subst (λ (b : Bool). ActsOn setup bytes (if b then Nothing else TakesEffect) old new) writes acts in
    subst holds (sym (same ∙ ap (core_after_write old bytes) pends)) (brings.effect old bytes)

-- the status of a write that arrives
status_effect : {pending : PendingWrite} {holds : CoreState → Type 0} → Brings pending holds
    → (shape : Shape) (setup : Request') (bytes : List ℕ) (fate : Fate) (answer : Option (List ℕ))
    (decision : Decision) (a : Bool) (old new : CoreState)
    → shape.reads ≡ false → old.pending ≡ pending → (a ≡ true → holds old)
    → ActsOn setup bytes (act_at Status shape fate decision (Accepted answer) a) old new → applies shape fate Status || a ≡ true → holds new
status_effect brings shape setup bytes TokenLost answer decision a old new writes pends effect acts h = acts_keep brings setup bytes Nothing old new tt acts (effect h)
status_effect brings shape setup bytes Clean answer decision true old new writes pends effect acts h = acts_keep brings setup bytes Nothing old new tt acts (effect refl)
status_effect brings shape setup bytes ReplyLost answer decision true old new writes pends effect acts h = acts_keep brings setup bytes Nothing old new tt acts (effect refl)
status_effect brings shape setup bytes AckLost answer decision true old new writes pends effect acts h = acts_keep brings setup bytes Nothing old new tt acts (effect refl)
status_effect brings shape setup bytes Clean answer decision false old new writes pends effect acts h = effect_by brings shape setup bytes old new writes pends acts
status_effect brings shape setup bytes ReplyLost answer decision false old new writes pends effect acts h = effect_by brings shape setup bytes old new writes pends acts
status_effect brings shape setup bytes AckLost answer decision false old new writes pends effect acts h = effect_by brings shape setup bytes old new writes pends acts

pub applies_piece : (shape : Shape) (fate : Fate) (k : ℕ) → applies shape fate (Piece k) ≡ false
applies_piece shape TokenLost k = refl
applies_piece shape Clean k = refl
applies_piece shape ReplyLost k = refl
applies_piece shape AckLost k = refl

pub applies_past : (shape : Shape) (fate : Fate) → applies shape fate Past ≡ false
applies_past shape TokenLost = refl
applies_past shape Clean = refl
applies_past shape ReplyLost = refl
applies_past shape AckLost = refl

or_false : (x a : Bool) → x ≡ false → x || a ≡ true → a ≡ true
or_false x a none h = sym (ap (λ (b : Bool). b || a) none) ∙ h

setup_effect : (fate : Fate) (count : ℕ) (decision : Decision) (place : Place)
    → (place_after_setup fate count decision place).applied ≡ true → (fate ≡ TokenLost) × (place.applied ≡ true)
setup_effect TokenLost count decision place h = (refl, sym (silent_stays place).applied ∙ h)
setup_effect ReplyLost count decision place h = let none : false ≡ true =
    sym (silent_stays (place_after_decision count decision place)).applied ∙ h in absurd (cc)
setup_effect AckLost count decision place h = let none : false ≡ true =
    sym (silent_stays (place_after_decision count decision place)).applied ∙ h in absurd (cc)
setup_effect Clean count decision place h = absurd (cc)

pub effect_at : {pending : PendingWrite} {holds : CoreState → Type 0} → Brings pending holds
    → (setup : Request') (bytes : List ℕ) (fate : Fate) (p : Position) (decision q : Decision) (place : Place)
    (old new : CoreState)
    → (transfer_shape setup).reads ≡ false → place.host ≡ p → place.decision ≡ q
    → (IsAfterSetup p → IsAccepted q → old.pending ≡ pending) → (place.applied ≡ true → holds old)
    → ActsOn setup bytes (act_at p (transfer_shape setup) fate decision q place.applied) old new
    → (place_after_try_at p (transfer_shape setup) fate decision place).applied ≡ true → holds new
effect_at brings setup bytes fate Setup decision q place old new writes at held pends effect acts h =
    let e = setup_effect fate (data_pieces (transfer_shape setup) decision) decision place h in
    acts_keep brings setup bytes (act_at Setup (transfer_shape setup) fate decision q place.applied) old new
    (setup_keeps (transfer_shape setup) fate decision q place.applied) acts (effect e.1)
effect_at brings setup bytes fate (Piece k) decision Refused place old new writes at held pends effect acts h =
    acts_keep brings setup bytes (act_at (Piece k) (transfer_shape setup) fate decision Refused place.applied) old new
    (piece_keeps k (transfer_shape setup) fate decision Refused place.applied) acts
    (effect (sym (refused_applied (transfer_shape setup) fate place)
    ∙ ap (λ (d : Decision). (place_after_piece (transfer_shape setup) fate d place).applied) (sym held) ∙ h))
effect_at brings setup bytes fate Status decision Refused place old new writes at held pends effect acts h =
    acts_keep brings setup bytes (act_at Status (transfer_shape setup) fate decision Refused place.applied) old new
    (refused_keeps (transfer_shape setup) fate decision place.applied) acts
    (effect (sym (refused_applied (transfer_shape setup) fate place)
    ∙ ap (λ (d : Decision). (place_after_piece (transfer_shape setup) fate d place).applied) (sym held) ∙ h))
effect_at brings setup bytes fate Past decision Refused place old new writes at held pends effect acts h =
    acts_keep brings setup bytes (act_at Past (transfer_shape setup) fate decision Refused place.applied) old new
    (past_keeps (transfer_shape setup) fate decision Refused place.applied) acts
    (effect (sym (refused_applied (transfer_shape setup) fate place)
    ∙ ap (λ (d : Decision). (place_after_piece (transfer_shape setup) fate d place).applied) (sym held) ∙ h))
effect_at brings setup bytes fate (Piece k) decision (Accepted answer) place old new writes at held pends effect acts h =
    let took =
    sym (accepted_reaches (transfer_shape setup) fate answer place).applied
    ∙ ap (λ (d : Decision). (place_after_piece (transfer_shape setup) fate d place).applied) (sym held) ∙ h in
    let here : applies (transfer_shape setup) fate (Piece k) || place.applied ≡ true =
    sym (ap (λ (x : Position). applies (transfer_shape setup) fate x || place.applied) at) ∙ took in
    acts_keep brings setup bytes
    (act_at (Piece k) (transfer_shape setup) fate decision (Accepted answer) place.applied) old new
    (piece_keeps k (transfer_shape setup) fate decision (Accepted answer) place.applied) acts
    (effect (or_false (applies (transfer_shape setup) fate (Piece k)) place.applied
    (applies_piece (transfer_shape setup) fate k) here))
effect_at brings setup bytes fate Past decision (Accepted answer) place old new writes at held pends effect acts h =
    let took =
    sym (accepted_reaches (transfer_shape setup) fate answer place).applied
    ∙ ap (λ (d : Decision). (place_after_piece (transfer_shape setup) fate d place).applied) (sym held) ∙ h in
    let here : applies (transfer_shape setup) fate Past || place.applied ≡ true =
    sym (ap (λ (x : Position). applies (transfer_shape setup) fate x || place.applied) at) ∙ took in
    acts_keep brings setup bytes
    (act_at Past (transfer_shape setup) fate decision (Accepted answer) place.applied) old new
    (past_keeps (transfer_shape setup) fate decision (Accepted answer) place.applied) acts
    (effect (or_false (applies (transfer_shape setup) fate Past) place.applied
    (applies_past (transfer_shape setup) fate) here))
effect_at brings setup bytes fate Status decision (Accepted answer) place old new writes at held pends effect acts h =
    let took =
    sym (accepted_reaches (transfer_shape setup) fate answer place).applied
    ∙ ap (λ (d : Decision). (place_after_piece (transfer_shape setup) fate d place).applied) (sym held) ∙ h in
    let here : applies (transfer_shape setup) fate Status || place.applied ≡ true =
    sym (ap (λ (x : Position). applies (transfer_shape setup) fate x || place.applied) at) ∙ took in
    status_effect brings (transfer_shape setup) setup bytes fate answer decision place.applied old new writes
    (pends tt tt) effect acts here
