-- A Clear stays pending, whatever else its host asks meanwhile, and both ends start again where one is done.
use Rattle.std.proofs.Common.{◌≡◌, ◌∙◌, ◌≢◌, ◌<◌, ◌^◌, Bool, true, false, List, [], ◌∷◌, Option, Some, None, inl, inr, refl, ap, sym, subst}
use Rattle.std.specs.Prelude.{if◌then◌else◌, ◌&&◌, ◌||◌, not, length}
use Rattle.std.proofs.lemmas.Bool.{cases_Bool}
use Rattle.usb_transact.specs.declared.transaction.Fate.{Fate}
use Rattle.usb_control.specs.declared.host.HostStage.{HostStage}
use Rattle.usb_control.specs.declared.host.HostStage.TheVariants as stages
use Rattle.usb_control.specs.Interleaving.{is_running}
use Rattle.hid_requests.specs.declared.request.Request.{Request}
use Rattle.hid_requests.specs.declared.request.Request.TheVariants as requests
use Rattle.hid_layout.specs.Parsing.{ParsesTo}
use Rattle.hid_bus.specs.Rounds.{OwnStep}
use Rattle.hid_host.specs.declared.fault.StackFault.{StackFault}
use Rattle.hid_host.specs.declared.host.Transfer.{Transfer}
use Rattle.hid_host.specs.declared.phase.HostPhase.{HostPhase}
use Rattle.hid_host.specs.Host.{clearing_after, clearing_with, is_clear, running, transfer_of}
use Rattle.hid_stack.specs.PendingClear.{IsClearDone, IsPendingUntilDone, StepsLeavePending}
use Rattle.hid_stack.specs.HostInvariant.{asking_of}
use Rattle.hid_stack.specs.Members.{Member, MemberStep, Scheduled, Begins, Controls, Halts, Resets, begin_refusal_at, member_after_begin, core_of_member, member_transfer_after, member_after_halt, member_after, member_after_all, polls_it, member_after_try}
use Rattle.hid_stack.specs.Transfers.{IsCleared, IsOver, IsUndone}
use Rattle.hid_stack.proofs.ClearLemmas.{Pends, begins_pending, even_there, halted_pends, idle_step, polls_none, scheduled_pends, tried_pends, tried_transfer}
use Rattle.hid_stack.proofs.CountLemmas.{runs_as}
use Rattle.hid_stack.proofs.LawLemmas.{short_so}
use Rattle.hid_stack.proofs.TryLemmas.{clear_is}

-- ---- a Clear is pending, which isn't done; where one runs, it is the one of both ends

record StaysPending (m : Member) : Type 0 where
  clearing : m.clearing ≡ true
  undone : IsClearDone m.transfer → ⊥
  runs : (t : Transfer) → m.transfer ≡ Some t → t.request ≡ requests.Clear → is_running t.ends.stage ≡ true → (phase : HostPhase) × Pends phase m t
  short : length m.descriptor < 2 ^ 16

same_transfer : (t u : Transfer) → Some t ≡ Some u → t ≡ u
same_transfer t u same = cc

-- what happens to the device beside its endpoint 0
on_schedule : (x : OwnStep) (m : Member) → StaysPending m → StaysPending (member_after m (Scheduled x))
on_schedule x m s = record {
  clearing = s.clearing;
  undone = s.undone;
  runs = λ t has is run. let p = s.runs t has is run in (p.0, scheduled_pends x p.0 m t p.1);
  short = s.short;
}

on_halt : (b : Bool) (m : Member) → StaysPending m → StaysPending (member_after_halt b m)
on_halt false m s = s
on_halt true m s = record {
  clearing = s.clearing;
  undone = s.undone;
  runs = λ t has is run. let p = s.runs t has is run in (p.0, halted_pends true p.0 m t p.1);
  short = s.short;
}

-- a request that begins, a Clear or another one
still_clearing : (b : Bool) → (b || true) ≡ true
still_clearing true = refl
still_clearing false = refl

on_begin : (o : Option StackFault) (m : Member) (request : Request) → StaysPending m
    → StaysPending (member_after_begin o m request)
on_begin (Some fault) m request s = s
on_begin None m request s =
    let first : Transfer = transfer_of m.addr (asking_of (core_of_member m)) request in
    record {
      clearing = ap (clearing_with request) s.clearing ∙ still_clearing (is_clear request);
      undone = λ done. let wrong = done.1 in absurd (cc);
      runs = λ t has is run.
          let same : first ≡ t = same_transfer first t has in
          let asks : request ≡ requests.Clear = ap (λ (x : Transfer). x.request) same ∙ is in
          let pends = begins_pending m in (
            pends.0,
            subst (λ (x : Transfer). Pends pends.0 (member_after_begin None m request) x) same
                (subst (λ (q : Request). Pends pends.0 (member_after_begin None m q)
                (transfer_of m.addr (asking_of (core_of_member m)) q)) (sym asks) pends.1),
          );
      short = s.short;
    }

-- a try, of a Clear or of another request, that ends no Clear
kept_if_other : (b clearing : Bool) → (b ≡ true → ⊥) → (not b && clearing) ≡ clearing
kept_if_other true clearing other = absurd (other refl)
kept_if_other false clearing other = refl

clearing_kept : (stage : HostStage) (request : Request) (clearing : Bool)
    → ((request ≡ requests.Clear) × (stage ≡ stages.Done) → ⊥) → clearing_after stage request clearing ≡ clearing
clearing_kept stages.Done request clearing undone = kept_if_other (is_clear request) clearing (λ is. undone (clear_is request is, refl))
clearing_kept stages.Setup request clearing undone = refl
clearing_kept (stages.DataIn one) request clearing undone = refl
clearing_kept (stages.DataOut sent one) request clearing undone = refl
clearing_kept stages.StatusIn request clearing undone = refl
clearing_kept stages.StatusOut request clearing undone = refl
clearing_kept (stages.Failed fault) request clearing undone = refl

on_try : (fate : Fate) (m : Member) (t : Transfer) → m.transfer ≡ Some t → is_running t.ends.stage ≡ true
    → (IsClearDone (member_after_try fate m (Some t)).transfer → ⊥) → StaysPending m
    → StaysPending (member_after_try fate m (Some t))
on_try fate m t has run undone s = record {
  clearing = clearing_kept (member_transfer_after fate m t).stage t.request m.clearing undone ∙ s.clearing;
  undone = undone;
  runs = λ u is_u asks run_u.
      let same : tried_transfer fate m t ≡ u = same_transfer (tried_transfer fate m t) u is_u in
      let clear : t.request ≡ requests.Clear = ap (λ (x : Transfer). x.request) same ∙ asks in
      let p = s.runs t has clear run in (
        p.0,
        subst (λ (x : Transfer). Pends p.0 (member_after_try fate m (Some t)) x) same
            (tried_pends fate p.0 m t s.short run (λ done. undone (clear, done)) p.1),
      );
  short = s.short;
}

-- where no transfer runs nothing is tried
no_transfer : (fate : Fate) (m : Member) → m.transfer ≡ None → member_after m (Controls fate) ≡ m
no_transfer fate m none = ap (λ (o : Option Transfer). member_after_try fate m (running o)) none

tries_it : (fate : Fate) (m : Member) (t : Transfer) → m.transfer ≡ Some t → is_running t.ends.stage ≡ true
    → member_after m (Controls fate) ≡ member_after_try fate m (Some t)
tries_it fate m t has run =
    ap (member_after_try fate m) (runs_as m t has ∙ ap (λ (x : Bool). if x then Some t else None) run)

on_control : (fate : Fate) (m : Member) (o : Option Transfer) → m.transfer ≡ o → (IsClearDone (member_after m (Controls fate)).transfer → ⊥) → StaysPending m → StaysPending (member_after m (Controls fate))
on_control fate m None has undone s = subst StaysPending (sym (no_transfer fate m has)) s
on_control fate m (Some t) has undone s = elim (cases_Bool (is_running t.ends.stage)) [
  | inl run ↦
      let there = tries_it fate m t has run in
      subst StaysPending (sym there) (on_try fate m t has run (subst (λ (n : Member). IsClearDone n.transfer → ⊥) there undone) s)
  | inr over ↦ subst StaysPending (sym (idle_step fate m t false over refl has)) s
]

-- ---- whole lists

stays_pending_through : (steps : List MemberStep) (m : Member) → StepsLeavePending m steps → StaysPending m → StaysPending (member_after_all m steps)
stays_pending_through [] m leave s = s
stays_pending_through (Scheduled x ∷ steps) m leave s = stays_pending_through steps (member_after m (Scheduled x)) leave.1 (on_schedule x m s)
stays_pending_through (Begins request ∷ steps) m leave s = stays_pending_through steps (member_after m (Begins request)) leave.1 (on_begin (begin_refusal_at m request) m request s)
stays_pending_through (Controls fate ∷ steps) m leave s = stays_pending_through steps (member_after m (Controls fate)) leave.1 (on_control fate m m.transfer refl leave.0 s)
stays_pending_through (Halts ∷ steps) m leave s = stays_pending_through steps (member_after m Halts) leave.1 (on_halt m.endpoint.is_configured m s)
stays_pending_through (Resets ∷ steps) m leave s = absurd leave.0

-- ---- where one is done

undone_as : (o : Option Transfer) (t : Transfer) → o ≡ Some t → t.ends.stage ≢ stages.Done → IsUndone o
undone_as o t is undone = subst IsUndone (sym is) undone

not_done : (stage : HostStage) → is_running stage ≡ true → stage ≢ stages.Done
not_done stage run done = let wrong : true ≡ false = sym run ∙ ap is_running done in absurd (cc)

even_where : (fate : Fate) (n : Member) (o : Option Transfer) → n.transfer ≡ o → StaysPending n → IsClearDone (member_after n (Controls fate)).transfer → IsCleared (member_after n (Controls fate))
even_where fate n None has s done = absurd (s.undone (subst (λ (k : Member). IsClearDone k.transfer) (no_transfer fate n has) done))
even_where fate n (Some t) has s done = elim (cases_Bool (is_running t.ends.stage)) [
  | inl run ↦
      let there = tries_it fate n t has run in
      let ends : (t.request ≡ requests.Clear) × ((member_transfer_after fate n t).stage ≡ stages.Done) =
      subst (λ (k : Member). IsClearDone k.transfer) there done in
      let p = s.runs t has ends.0 run in
      even_there fate p.0 n (undone_as n.transfer t has (not_done t.ends.stage run)) (record { transfer = t; has = has; pends = p.1; short = s.short }) (subst (λ (k : Member). IsOver k.transfer) (sym there) ends.1)
  | inr over ↦ absurd (s.undone (subst (λ (k : Member). IsClearDone k.transfer) (idle_step fate n t false over refl has) done))
]

-- a clear stays pending over a list of steps, from a member that has begun it
abbrev PendingFrom : List MemberStep → Member → Type 0
PendingFrom steps begun =
    let n = member_after_all begun steps in StepsLeavePending begun steps
    → (polls_it n ≡ false) × ((fate : Fate) → IsClearDone (member_after n (Controls fate)).transfer → IsCleared (member_after n (Controls fate)))

pub pending_until_done : (m : Member) (steps : List MemberStep) → ParsesTo m.descriptor m.layout
    → begin_refusal_at m requests.Clear ≡ None → IsPendingUntilDone m steps
pending_until_done m steps lays allowed =
    let begun : Member = member_after_begin None m requests.Clear in
    let pends = begins_pending m in
    let first : StaysPending begun = record {
      clearing = refl;
      undone = λ done. let wrong = done.1 in absurd (cc);
      runs = λ t has is run. (
        pends.0,
        subst (λ (x : Transfer). Pends pends.0 begun x)
            (same_transfer (transfer_of m.addr (asking_of (core_of_member m)) requests.Clear) t has) pends.1,
      );
      short = short_so m.descriptor m.layout lays;
    } in
    let from : PendingFrom steps begun = λ leave.
    let n = member_after_all begun steps in
    let there = stays_pending_through steps begun leave first in
    (polls_none n there.clearing, λ fate done. even_where fate n n.transfer refl there done) in
    subst (PendingFrom steps)
    (sym (ap (λ (o : Option StackFault). member_after_begin o m requests.Clear) allowed)) from
