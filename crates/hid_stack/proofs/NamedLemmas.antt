-- A step that names a device is a step of the member at its place: what holds of the member alone holds of the bus.
use Rattle.std.proofs.Common.{◌≡◌, ◌≢◌, ◌⊎◌, ◌<◌, ◌≤◌, ◌+◌, ◌-◌, ◌++◌, ℕ, zero, suc, List, [], ◌∷◌, length, get_or, map, eqb, cond, Bool, false, Option, Some, None, Result, Ok, Err, refl, ap, sym, subst, ◌∙◌, inl, inr, arith}
use Rattle.std.specs.Prelude.{slice_get, slice_set, IfOk, IfSome, IfErr, OnOk, OnErr}
use Rattle.std.proofs.lemmas.Bool.Decides.{nat_tests}
use Rattle.std.proofs.lemmas.Option.{slice_get_read}
use Rattle.std.proofs.lemmas.Result.{IfOk-weaker, on_ok_weaker}
use Rattle.hid_layout.specs.Controls.{items_of, max_events}
use Rattle.hid_snapshots.specs.declared.control_state.ControlState.{ControlState}
use Rattle.hid_snapshots.specs.declared.change.Change.{Change}
use Rattle.hid_snapshots.specs.declared.fault.ChangeFault.{ChangeFault}
use Rattle.hid_snapshots.specs.Snapshots.{snapshot_after}
use Rattle.hid_snapshots.specs.Snapshots as snapshots
use Rattle.usb_transact.specs.declared.transaction.Fate.{Fate}
use Rattle.usb_control.specs.declared.fault.ControlFault.TheVariants.{NoTransfer}
use Rattle.usb_control.specs.declared.host.Progress.{Progress}
use Rattle.usb_control.specs.Host.{progress_of}
use Rattle.hid_requests.specs.declared.request.Request.{Request}
use Rattle.hid_bus.specs.Rounds.{Changes}
use Rattle.hid_bus.specs.ReportState.{ReportState}
use Rattle.hid_host.specs.declared.fault.StackFault.{StackFault}
use Rattle.hid_host.specs.declared.fault.StackFault.TheVariants.{NoDevice, Refused, Memory}
use Rattle.hid_host.specs.declared.fault.StackFault.TheVariants as faults
use Rattle.hid_host.specs.declared.host.Transfer.{Transfer}
use Rattle.hid_host.specs.Host.{may_abort_round, running}
use Rattle.hid_bus.specs.declared.step.Delivered.{Delivered}
use Rattle.hid_bus.specs.declared.step.Step.{Step}
use Rattle.hid_bus.specs.declared.step.Step.TheVariants.{Change as ChangeStep, Poll, Begin, Control}
use Rattle.hid_bus.specs.declared.step.Told.{Told}
use Rattle.hid_bus.specs.declared.step.Told.TheVariants.{Quiet}
use Rattle.hid_bus.specs.declared.step.Told.TheVariants as tellings
use Rattle.hid_stack.specs.Members.{Member, MemberStep, Scheduled, Controls, begin_refusal_at, bus_event_of_step, member_transfer_after, events_of_event_if, member_after, polls_it, member_after_try, member_out_of_memory}
use Rattle.hid_stack.specs.Rig.{HasRoomToTry, TakesMemory, TriesWithMemory, member_at, max_events_of_step, max_events_of_try, with_member, bus_after_member_step, member_deliveries, bus_after_try_out_of_memory, with_device_number, change_refusal, control_refusal, poll_refusal, refusal, bus_after_refusal, IsRefusal, HasRoomFor}
use Rattle.hid_stack.specs.Slot.{TriesTransfer}
use Rattle.hid_stack.specs.Sums.{AbortsByRequest, ConfiguresBetweenRounds, IsBetween, OnlyHaltsAbort}
use Rattle.hid_stack.specs.StepResult.{PollReturns, TryReturns, StepReturns}
use Rattle.hid_stack.proofs.SumLemmas.{try_between}

-- the member of a number, at its place
pub record IsNamed (members : List Member) (dev i : ℕ) (m : Member) : Type 0 where
  pub place : dev - 1 ≡ i
  pub read : slice_get members i ≡ Some m
  pub here : member_at members dev ≡ Some m

pub named : (slots members : List Member) (dev i : ℕ) (m : Member) → slots ≡ members → dev ≡ i + 1 → i < length members → m ≡ get_or slots i m → IsNamed members dev i m
named slots members dev i m same number within is =
    let place : dev - 1 ≡ i = omega arith in
    let some : eqb dev 0 ≡ false = grind (arith, nat_tests) in
    let read : slice_get members i ≡ Some m = subst (λ (ms : List Member). slice_get ms i ≡ Some m) same
    (slice_get_read slots (length slots) i m refl (subst (λ (ms : List Member). i < length ms) (sym same) within) is) in
    record {
      place = place;
      read = read;
      here = ap (λ (b : Bool). cond b None (slice_get members (dev - 1))) some ∙ ap (slice_get members) place ∙ read;
    }

-- where the bus stands after its step
pub leaves : (slots members : List Member) (dev i : ℕ) (m n : Member) (x : MemberStep) → slots ≡ members → IsNamed members dev i m → n ≡ member_after m x
    → slice_set slots i n ≡ bus_after_member_step members dev x
leaves slots members dev i m n x same at_place after =
    let place = at_place.place in
    let to_one : with_member members dev (member_after m x) ≡ bus_after_member_step members dev x
    = sym (ap (λ (o : Option Member). elim o as (λ _. List Member) [ None ↦ members | Some k ↦ with_member members dev (member_after k x) ]) at_place.here) in
    let moved : slice_set slots i n ≡ with_member members dev (member_after m x) = cc in
    moved ∙ to_one

-- a change of it: it is done, or refused for the fault that stands
abbrev pub change_told : Result (Unit {0}) ChangeFault → Result Told StackFault
change_told (Ok done) = Ok Quiet
change_told (Err fault) = Err (Refused fault)

change_refusal_at : (members : List Member) (dev i : ℕ) (m : Member) (change : Change)
    (outcome : Result (List ControlState) ChangeFault) → IsNamed members dev i m
    → snapshot_after (items_of m.layout) m.link.reports.snapshot change ≡ outcome
    → refusal members (ChangeStep dev change) ≡ change_refusal outcome
change_refusal_at members dev i m change outcome at_place is =
    ap (λ (o : Option Member). elim o as (λ _. Option StackFault) [
      | None ↦ Some NoDevice
      | Some k ↦ change_refusal (snapshot_after (items_of k.layout) k.link.reports.snapshot change)
    ]) at_place.here ∙ ap change_refusal is

pub change_refused : (members : List Member) (dev i : ℕ) (m : Member) (change : Change)
    (done : Result (Unit {0}) ChangeFault) (states : List ControlState) (r : Result Told StackFault)
    → IsNamed members dev i m → snapshots.Changes (items_of m.layout) m.link.reports.snapshot change done states
    → r ≡ change_told done
    → (e : StackFault) → refusal members (ChangeStep dev change) ≡ Some e → r ≡ Err e
change_refused members dev i m change (Ok _) states r at_place changes told e refused =
    let none = change_refusal_at members dev i m change (Ok states) at_place changes in
    let wrong : None ≡ Some e = sym none ∙ refused in cc
change_refused members dev i m change (Err fault) states r at_place changes told e refused =
    let stands = change_refusal_at members dev i m change (Err fault) at_place changes.0 in
    let same : Some (Refused fault) ≡ Some e = sym stands ∙ refused in cc

pub change_only : (members : List Member) (dev i : ℕ) (m : Member) (change : Change)
    (done : Result (Unit {0}) ChangeFault) (states : List ControlState) (r : Result Told StackFault)
    → IsNamed members dev i m → snapshots.Changes (items_of m.layout) m.link.reports.snapshot change done states
    → r ≡ change_told done
    → IfErr r (λ e. IsRefusal members (ChangeStep dev change) e)
change_only members dev i m change (Ok _) states r at_place changes told =
    subst (λ (o : Result Told StackFault). IfErr o (λ e. IsRefusal members (ChangeStep dev change) e)) (sym told) tt
change_only members dev i m change (Err fault) states r at_place changes told =
    subst (λ (o : Result Told StackFault). IfErr o (λ e. IsRefusal members (ChangeStep dev change) e)) (sym told)
    (inl (change_refusal_at members dev i m change (Err fault) at_place changes.0))

-- a poll of it
pub poll_tells : (members : List Member) (dev i : ℕ) (m : Member) (fate : Fate) (r : Result Told StackFault) → IsNamed members dev i m
    → IfOk r (λ told. PollReturns m.layout m.link fate told)
    → IfOk r (λ told. StepReturns members (Poll dev fate) told)
poll_tells members dev i m fate r at_place tells =
    IfOk-weaker r (λ told. PollReturns m.layout m.link fate told) (λ told. StepReturns members (Poll dev fate) told)
    (λ told h. subst
    (λ (o : Option Member). elim o as (λ _. Type 0) [ None ↦ ⊥ | Some k ↦ PollReturns k.layout k.link fate told ])
    (sym at_place.here) h) tells

-- what a step of it delivers
pub one_delivered : {A : Type 0} (members : List Member) (dev i : ℕ) (m : Member) (x : MemberStep) (r : Result A StackFault) (old new : List Delivered) → IsNamed members dev i m
    → OnOk r (new ≡ old
    ++ map (with_device_number dev) (events_of_event_if (items_of m.layout) m.link (bus_event_of_step m x)))
    → OnOk r (new ≡ old ++ member_deliveries members dev x)
one_delivered members dev i m x r old new at_place told =
    let one : member_deliveries members dev x
    ≡ map (with_device_number dev) (events_of_event_if (items_of m.layout) m.link (bus_event_of_step m x))
    = ap (λ (o : Option Member). elim o as
    (λ _. List Delivered) [
      | None ↦ []
      | Some k ↦
          map (with_device_number dev)
          (events_of_event_if (items_of k.layout) k.link (bus_event_of_step k x))
    ]) at_place.here in
    on_ok_weaker r (λ h. h ∙ sym (ap (λ (es : List Delivered). old ++ es) one)) told

poll_stands : (members : List Member) (dev i : ℕ) (m : Member) (fate : Fate) → IsNamed members dev i m → refusal members (Poll dev fate) ≡ poll_refusal (polls_it m)
poll_stands members dev i m fate at_place =
    ap (λ (o : Option Member). elim o as (λ _. Option StackFault) [ None ↦ Some NoDevice | Some k ↦ poll_refusal (polls_it k) ]) at_place.here

-- a call that is refused for what stands, or for lack of memory
abbrev pub RefusedBy : {A : Type 0} → Option StackFault → Result A StackFault → Type 0
RefusedBy stands r = IfErr r (λ e. (stands ≡ Some e) ⊎ ((stands ≡ None) × (e ≡ Memory)))

pub poll_refused : (members : List Member) (dev i : ℕ) (m : Member) (fate : Fate) (r : Result Told StackFault) → IsNamed members dev i m
    → ((e : StackFault) → poll_refusal (polls_it m) ≡ Some e → r ≡ Err e) → (e : StackFault) → refusal members (Poll dev fate) ≡ Some e → r ≡ Err e
poll_refused members dev i m fate r at_place refused e stands = refused e (sym (poll_stands members dev i m fate at_place) ∙ stands)

pub poll_only : (members : List Member) (dev i : ℕ) (m : Member) (fate : Fate) (r : Result Told StackFault) → IsNamed members dev i m
    → RefusedBy (poll_refusal (polls_it m)) r → IfErr r (λ e. IsRefusal members (Poll dev fate) e)
poll_only members dev i m fate (Ok told) at_place only = tt
poll_only members dev i m fate (Err fault) at_place (inl stands) = inl (poll_stands members dev i m fate at_place ∙ stands)
poll_only members dev i m fate (Err fault) at_place (inr (none, memory)) = inr (poll_stands members dev i m fate at_place ∙ none, memory, tt)

-- with room for what a poll or a reset of it delivers, memory doesn't run out
pub enough_room : (members : List Member) (dev i : ℕ) (m : Member) (r : Result Told StackFault) (used capacity : ℕ) → IsNamed members dev i m
    → (used + max_events (items_of m.layout) ≤ capacity → r ≢ Err Memory)
    → IfSome (member_at members dev) (λ (k : Member). used + max_events (items_of k.layout) ≤ capacity) → r ≢ Err Memory
enough_room members dev i m r used capacity at_place enough room =
    enough (subst (λ (o : Option Member). IfSome o (λ (k : Member). used + max_events (items_of k.layout) ≤ capacity)) at_place.here room)

pub few_of_it : (members : List Member) (dev i : ℕ) (m : Member) (used now : ℕ) → IsNamed members dev i m
    → now ≤ used + max_events (items_of m.layout) → now ≤ used + (elim (member_at members dev) as (λ _. ℕ) [ None ↦ 0 | Some k ↦ max_events (items_of k.layout) ])
few_of_it members dev i m used now at_place few =
    let most : (elim (member_at members dev) as (λ _. ℕ) [ None ↦ 0 | Some k ↦ max_events (items_of k.layout) ]) ≡ max_events (items_of m.layout)
    = ap (λ (o : Option Member). elim o as (λ _. ℕ) [ None ↦ 0 | Some k ↦ max_events (items_of k.layout) ]) at_place.here in
    subst (λ (n : ℕ). now ≤ used + n) (sym most) few

-- a halt or a reset of it: nothing but out of memory refuses these
pub never_stands : (members : List Member) (dev i : ℕ) (m : Member) → IsNamed members dev i m
    → (elim (member_at members dev) as (λ _. Option StackFault) [ None ↦ Some NoDevice | Some k ↦ None ]) ≡ None
never_stands members dev i m at_place =
    ap (λ (o : Option Member). elim o as (λ _. Option StackFault) [ None ↦ Some NoDevice | Some k ↦ None ]) at_place.here

pub never_refused : (members : List Member) (x : Step) (r : Result Told StackFault) → refusal members x ≡ None → (e : StackFault) → refusal members x ≡ Some e → r ≡ Err e
never_refused members x r none e stands = let wrong : None ≡ Some e = sym none ∙ stands in absurd (cc)

pub memory_only : (members : List Member) (x : Step) (r : Result Told StackFault) → refusal members x ≡ None → TakesMemory members x → IfErr r (λ fault. fault ≡ Memory) → IfErr r (λ e. IsRefusal members x e)
memory_only members x (Ok told) none takes only = tt
memory_only members x (Err fault) none takes only = inr (none, only, takes)

-- a request that begins
abbrev pub begin_told : Result (Unit {0}) StackFault → Result Told StackFault
begin_told (Ok done) = Ok Quiet
begin_told (Err fault) = Err fault

begin_stands : (members : List Member) (dev i : ℕ) (m : Member) (request : Request) → IsNamed members dev i m → refusal members (Begin dev request) ≡ begin_refusal_at m request
begin_stands members dev i m request at_place =
    ap (λ (o : Option Member). elim o as (λ _. Option StackFault) [ None ↦ Some NoDevice | Some k ↦ begin_refusal_at k request ]) at_place.here

pub begin_refused : (members : List Member) (dev i : ℕ) (m : Member) (request : Request) (done : Result (Unit {0}) StackFault) (r : Result Told StackFault) → IsNamed members dev i m → r ≡ begin_told done
    → ((e : StackFault) → begin_refusal_at m request ≡ Some e → done ≡ Err e) → (e : StackFault) → refusal members (Begin dev request) ≡ Some e → r ≡ Err e
begin_refused members dev i m request done r at_place told refused e stands = told ∙ ap begin_told (refused e (sym (begin_stands members dev i m request at_place) ∙ stands))

pub begin_only : (members : List Member) (dev i : ℕ) (m : Member) (request : Request) (done : Result (Unit {0}) StackFault) (r : Result Told StackFault) → IsNamed members dev i m → r ≡ begin_told done
    → RefusedBy (begin_refusal_at m request) done → IfErr r (λ e. IsRefusal members (Begin dev request) e)
begin_only members dev i m request done r at_place told only = subst (λ (o : Result Told StackFault). IfErr o (λ e. IsRefusal members (Begin dev request) e)) (sym told) (by_done done only)
  where
    by_done : (d : Result (Unit {0}) StackFault) → RefusedBy (begin_refusal_at m request) d → IfErr (begin_told d) (λ e. IsRefusal members (Begin dev request) e)
    by_done (Ok _) h = tt
    by_done (Err fault) (inl stands) = inl (begin_stands members dev i m request at_place ∙ stands)
    by_done (Err fault) (inr (none, memory)) = inr (begin_stands members dev i m request at_place ∙ none, memory, tt)

-- what is refused leaves the place as it was
set_back : (members : List Member) (i : ℕ) (m : Member) → slice_get members i ≡ Some m → slice_set members i m ≡ members
set_back [] i m h = absurd (cc)
set_back (x ∷ members) zero m h = ap (λ (k : Member). k ∷ members) (cc)
set_back (x ∷ members) (suc i) m h = ap (λ (ms : List Member). x ∷ ms) (set_back members i m h)

pub stays : (slots members : List Member) (dev i : ℕ) (m n : Member) → slots ≡ members → IsNamed members dev i m → n ≡ m → slice_set slots i n ≡ members
stays slots members dev i m n same at_place is =
    ap (slice_set slots i) is ∙ set_back slots i m (subst (λ (ms : List Member). slice_get ms i ≡ Some m) (sym same) at_place.read) ∙ same

pub begin_err : (slots members : List Member) (dev i : ℕ) (m n : Member) (request : Request) (done : Result (Unit {0}) StackFault) (r : Result Told StackFault) → slots ≡ members → IsNamed members dev i m → r ≡ begin_told done
    → OnErr done (n ≡ m) → IfErr r (λ e. slice_set slots i n ≡ bus_after_refusal members (Begin dev request) e)
begin_err slots members dev i m n request (Ok _) r same at_place told err =
    subst (λ (o : Result Told StackFault). IfErr o
    (λ e. slice_set slots i n ≡ bus_after_refusal members (Begin dev request) e)) (sym told) tt
begin_err slots members dev i m n request (Err fault) r same at_place told err =
    subst (λ (o : Result Told StackFault). IfErr o
    (λ e. slice_set slots i n ≡ bus_after_refusal members (Begin dev request) e)) (sym told)
    (stays slots members dev i m n same at_place err)

pub stays_refused : (slots members : List Member) (dev i : ℕ) (m n : Member) (r : Result Told StackFault) (P : Type 0) → slots ≡ members → IsNamed members dev i m
    → OnErr r ((n ≡ m) × P) → IfErr r (λ e. slice_set slots i n ≡ members)
stays_refused slots members dev i m n (Ok told) P same at_place err = tt
stays_refused slots members dev i m n (Err fault) P same at_place err = stays slots members dev i m n same at_place err.0

pub change_err : (slots members : List Member) (dev i : ℕ) (m n : Member) (change : Change) (done : Result (Unit {0}) ChangeFault) (r : Result Told StackFault) → slots ≡ members → IsNamed members dev i m → r ≡ change_told done
    → snapshots.Changes (items_of m.layout) m.link.reports.snapshot change done n.link.reports.snapshot
    → n ≡ member_after m (Scheduled (Changes change))
    → IfErr r (λ e. slice_set slots i n ≡ bus_after_refusal members (ChangeStep dev change) e)
change_err slots members dev i m n change (Ok _) r same at_place told changes after =
    subst (λ (o : Result Told StackFault). IfErr o
    (λ e. slice_set slots i n ≡ bus_after_refusal members (ChangeStep dev change) e)) (sym told) tt
change_err slots members dev i m n change (Err fault) r same at_place told changes after =
    let none : member_after m (Scheduled (Changes change)) ≡ m
    = ap (λ (o : Result (List ControlState) ChangeFault). record m {
      link = record m.link {
        reports =
            elim o as
            (λ _. ReportState) [ Ok states ↦ record m.link.reports { snapshot = states } | Err f ↦ m.link.reports ];
      };
    }) changes.0 in
    subst (λ (o : Result Told StackFault). IfErr o
    (λ e. slice_set slots i n ≡ bus_after_refusal members (ChangeStep dev change) e)) (sym told)
    (stays slots members dev i m n same at_place (after ∙ none))

-- a try
abbrev pub control_told : Result Progress StackFault → Result Told StackFault
control_told (Ok progress) = Ok (tellings.Transfer progress)
control_told (Err fault) = Err fault

control_stands : (members : List Member) (dev i : ℕ) (m : Member) (fate : Fate) → IsNamed members dev i m → refusal members (Control dev fate) ≡ control_refusal (running m.transfer)
control_stands members dev i m fate at_place =
    ap (λ (o : Option Member). elim o as (λ _. Option StackFault) [ None ↦ Some NoDevice | Some k ↦ control_refusal (running k.transfer) ]) at_place.here

-- what a try of the transfer that runs comes to at the bus
pub record TriesNamed (slots members : List Member) (dev i : ℕ) (m n : Member) (fate : Fate) (r : Result Told StackFault) : Type 0 where
  pub told : IfOk r (λ told. StepReturns members (Control dev fate) told)
  pub after : OnOk r (slice_set slots i n ≡ bus_after_member_step members dev (Controls fate))
  pub refused : (e : StackFault) → refusal members (Control dev fate) ≡ Some e → r ≡ Err e
  pub only : IfErr r (λ e. IsRefusal members (Control dev fate) e)
  pub err : IfErr r (λ e. slice_set slots i n ≡ bus_after_refusal members (Control dev fate) e)

tells_named : (members : List Member) (dev i : ℕ) (m : Member) (fate : Fate) (t : Transfer) (told : Told)
    → IsNamed members dev i m → running m.transfer ≡ Some t
    → told ≡ tellings.Transfer (progress_of (member_transfer_after fate m t).stage)
    → StepReturns members (Control dev fate) told
tells_named members dev i m fate t told at_place runs is =
    subst (λ (o : Option Member). elim o as
    (λ _. Type 0) [ None ↦ ⊥ | Some k ↦ TryReturns fate k (running k.transfer) told ]) (sym at_place.here)
    (subst (λ (o : Option Transfer). TryReturns fate m o told) (sym runs) is)

unconcluded_at : (slots members : List Member) (dev i : ℕ) (m n : Member) (fate : Fate) → slots ≡ members
    → IsNamed members dev i m → n ≡ member_out_of_memory fate m (running m.transfer)
    → slice_set slots i n ≡ bus_after_try_out_of_memory members dev fate
unconcluded_at slots members dev i m n fate same at_place is =
    let place = at_place.place in
    let to_one : with_member members dev (member_out_of_memory fate m (running m.transfer))
    ≡ bus_after_try_out_of_memory members dev fate
    = sym (ap
    (λ (o : Option Member). elim o as
    (λ _. List Member) [
      | None ↦ members
      | Some k ↦
          with_member members dev (member_out_of_memory fate k (running k.transfer))
    ]) at_place.here) in
    let moved : slice_set slots i n ≡ with_member members dev (member_out_of_memory fate m (running m.transfer)) =
    cc in
    moved ∙ to_one

tries_by : (slots members : List Member) (dev i : ℕ) (m n : Member) (fate : Fate) (o : Option Transfer) (done : Result Progress StackFault) → slots ≡ members → IsNamed members dev i m
    → running m.transfer ≡ o → TriesTransfer fate m o done n → TriesNamed slots members dev i m n fate (control_told done)
tries_by slots members dev i m n fate None done same at_place runs tries =
    let stands : refusal members (Control dev fate) ≡ Some (faults.Control NoTransfer) = control_stands members dev i m fate at_place ∙ ap control_refusal runs in
    let told : control_told done ≡ Err (faults.Control NoTransfer) = ap control_told tries.0 in
    let Named : Result Told StackFault → Type 0 = TriesNamed slots members dev i m n fate in
    subst Named (sym told) (record {
      told = tt;
      after = tt;
      refused = λ e refused. let one : Some (faults.Control NoTransfer) ≡ Some e = sym stands ∙ refused in cc;
      only = inl stands;
      err = stays slots members dev i m n same at_place tries.1;
    })
tries_by slots members dev i m n fate (Some t) (Ok progress) same at_place runs tries =
    let stands : refusal members (Control dev fate) ≡ None = control_stands members dev i m fate at_place ∙ ap control_refusal runs in
    record {
      told = tells_named members dev i m fate t (tellings.Transfer progress) at_place runs (ap tellings.Transfer tries.0);
      after = leaves slots members dev i m n (Controls fate) same at_place
          (tries.1 ∙ ap (member_after_try fate m) (sym runs));
      refused = λ e refused. let wrong : None ≡ Some e = sym stands ∙ refused in absurd (cc);
      only = tt;
      err = tt;
    }
tries_by slots members dev i m n fate (Some t) (Err fault) same at_place runs tries =
    let stands : refusal members (Control dev fate) ≡ None = control_stands members dev i m fate at_place ∙ ap control_refusal runs in
    let gives : TriesWithMemory fate m (running m.transfer) = subst (TriesWithMemory fate m) (sym runs) tries.1 in
    let takes : TakesMemory members (Control dev fate) = (m, at_place.here, gives) in
    let told : control_told (Err fault) ≡ Err Memory = ap (λ (f : StackFault). control_told (Err f)) tries.0 in
    let Named : Result Told StackFault → Type 0 = TriesNamed slots members dev i m n fate in
    subst Named (sym told) (record {
      told = tt;
      after = tt;
      refused = λ e refused. let wrong : None ≡ Some e = sym stands ∙ refused in absurd (cc);
      only = inr (stands, refl, takes);
      err = unconcluded_at slots members dev i m n fate same at_place
          (tries.2 ∙ ap (member_out_of_memory fate m) (sym runs));
    })

pub tries_named : (slots members : List Member) (dev i : ℕ) (m n : Member) (fate : Fate) (done : Result Progress StackFault) (r : Result Told StackFault) → slots ≡ members → IsNamed members dev i m
    → TriesTransfer fate m (running m.transfer) done n → r ≡ control_told done → TriesNamed slots members dev i m n fate r
tries_named slots members dev i m n fate done r same at_place tries told =
    subst (λ (o : Result Told StackFault). TriesNamed slots members dev i m n fate o) (sym told) (tries_by slots members dev i m n fate (running m.transfer) done same at_place refl tries)

-- what it delivers, and the room for that
pub control_done : (done : Result Progress StackFault) (r : Result Told StackFault) (P : Type 0) → r ≡ control_told done → OnOk done P → OnOk r P
control_done (Ok progress) r P told holds = subst (λ (o : Result Told StackFault). OnOk o P) (sym told) holds
control_done (Err fault) r P told holds = subst (λ (o : Result Told StackFault). OnOk o P) (sym told) tt

pub control_undone : (done : Result Progress StackFault) (r : Result Told StackFault) (P : Type 0) → r ≡ control_told done → OnErr done P → OnErr r P
control_undone (Ok progress) r P told holds = subst (λ (o : Result Told StackFault). OnErr o P) (sym told) tt
control_undone (Err fault) r P told holds = subst (λ (o : Result Told StackFault). OnErr o P) (sym told) holds

memory_told : (done : Result Progress StackFault) → control_told done ≡ Err Memory → done ≡ Err Memory
memory_told (Ok progress) h = absurd (cc)
memory_told (Err fault) h = cc

pub control_room : (members : List Member) (dev i : ℕ) (m : Member) (fate : Fate) (done : Result Progress StackFault) (r : Result Told StackFault) (used capacity : ℕ) → IsNamed members dev i m → r ≡ control_told done
    → (HasRoomToTry fate m (running m.transfer) used capacity → done ≢ Err Memory) → HasRoomFor members (Control dev fate) used capacity → r ≢ Err Memory
control_room members dev i m fate done r used capacity at_place told enough room memory =
    enough (subst (λ (o : Option Member). IfSome o (λ (k : Member). HasRoomToTry fate k (running k.transfer) used capacity)) at_place.here room) (memory_told done (sym told ∙ memory))

pub control_few : (members : List Member) (dev i : ℕ) (m : Member) (fate : Fate) (used now : ℕ) → IsNamed members dev i m
    → now ≤ used + max_events_of_try m.layout (may_abort_round (running m.transfer))
    → now ≤ used + max_events_of_step members (Control dev fate)
control_few members dev i m fate used now at_place few =
    let most : max_events_of_step members (Control dev fate)
    ≡ max_events_of_try m.layout (may_abort_round (running m.transfer))
    = ap (λ (o : Option Member). elim o as
    (λ _. ℕ) [
      | None ↦ 0
      | Some k ↦
          max_events_of_try k.layout (may_abort_round (running k.transfer))
    ]) at_place.here in
    subst (λ (n : ℕ). now ≤ used + n) (sym most) few

pub control_cuts : (members : List Member) (dev i : ℕ) (m : Member) (fate : Fate) → IsNamed members dev i m
    → AbortsByRequest fate m (running m.transfer) → OnlyHaltsAbort members (Control dev fate)
control_cuts members dev i m fate at_place aborts k there =
    let same : (let o = Some m in o) ≡ Some k = sym at_place.here ∙ there in
    let is : m ≡ k = cc in
    subst (λ (n : Member). AbortsByRequest fate n (running n.transfer)) is aborts

pub control_between : (members : List Member) (dev i : ℕ) (m : Member) (fate : Fate) → IsNamed members dev i m
    → IsBetween m.link (bus_event_of_step m (Controls fate)) → ConfiguresBetweenRounds members (Control dev fate ∷ [])
control_between members dev i m fate at_place between = try_between members dev fate (Some m) at_place.here between
