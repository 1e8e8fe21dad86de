-- The transfer of a device is the one of its request from its begin on, whatever happens to the two, and so a try at
-- which memory runs out ends no round.
use Rattle.std.proofs.Common.{◌≡◌, ◌∙◌, ◌<◌, ◌^◌, suc, Bool, true, false, List, [], ◌∷◌, length, Option, Some, None, inl, inr, arith, refl, ap, sym, subst}
use Rattle.std.specs.Prelude.{if◌then◌else◌, is_some, IfSome}
use Rattle.std.specs.List.{All}
use Rattle.std.proofs.lemmas.Bool.{cases_Bool}
use Rattle.usb_transact.specs.declared.transaction.Fate.{Fate}
use Rattle.usb_control.specs.Interleaving.{is_running}
use Rattle.usb_control.proofs.TryFunctionLemmas.{transacts_computed}
use Rattle.usb_control.proofs.LawLemmas.{begins}
use Rattle.usb_control.proofs.InterleavingLemmas.{is_running_runs}
use Rattle.hid_layout.specs.Controls.{items_of}
use Rattle.hid_layout.specs.Parsing.{ParsesTo}
use Rattle.hid_requests.specs.declared.request.Request.{Request}
use Rattle.hid_requests.specs.RequestSetup.{FitsRequest, sends_of}
use Rattle.hid_requests.proofs.RequestKindLemmas.{sends_so}
use Rattle.hid_bus.specs.Rounds.{OwnStep, Changes, Frame, Polls}
use Rattle.hid_requests.specs.declared.codes.TheConstants.{REPORT_ENDPOINT as ENDPOINT}
use Rattle.hid_device.specs.RequestTable.{core_table}
use Rattle.hid_host.specs.declared.fault.StackFault.{StackFault}
use Rattle.hid_host.specs.declared.host.Transfer.{Transfer}
use Rattle.hid_host.specs.declared.phase.HostPhase.{HostPhase}
use Rattle.hid_host.specs.declared.phase.HostPhase.TheVariants.{Cold, Described, Parsed, Ready}
use Rattle.hid_host.specs.declared.phase.HostState.{HostState}
use Rattle.hid_host.specs.declared.phase.HostState.TheVariants as states
use Rattle.hid_host.specs.Host.{clearing_with, request_aborts_round, running}
use Rattle.hid_host.specs.Phase.{may_begin, state_of}
use Rattle.hid_host.specs.Ready.{ready_host_at_start}
use Rattle.hid_stack.specs.HostInvariant.{FollowsTrail, IsPending, LeavesTransfers, asking_of, phase_info}
use Rattle.hid_stack.specs.Members.{Member, MemberStep, Scheduled, Begins, Controls, Halts, Resets, state_after_event_if, begin_refusal_at, member_after_begin, control_of_member, core_of_member, member_transfer_after, member_after_halt, member_after, poll_bus_event, polls_it, host_state_after_try, member_after_try, member_after_try_in, member_out_of_memory}
use Rattle.hid_stack.specs.BusHistory.{DeviceAction, EndNoRounds, FitsAction, Takes, Unconcludes, member_after_action}
use Rattle.hid_stack.specs.Sums.{AbortsByRequest}
use Rattle.hid_stack.specs.Trails.{Trail, trail_after_try, trail_from}
use Rattle.hid_stack.specs.Transfers.{setup_at}
use Rattle.hid_stack.proofs.ClearLemmas.{polls_none, same_setup, tried_agrees, tried_control, tried_transfer}
use Rattle.hid_stack.proofs.CountLemmas.{runs_as}
use Rattle.hid_stack.proofs.LawLemmas.{carried, carries_on, clears_on, may_if, short_so}
use Rattle.hid_stack.proofs.RoundLemmas.{cut_by}
use Rattle.hid_stack.proofs.TransferLemmas.{brought_cuts}

-- ---- the transfer that was begun last

record CarriesIts (m : Member) (t : Transfer) : Type 0 where
  trail : Trail
  phase : HostPhase
  carries : FollowsTrail trail phase t (control_of_member m)
  pending : IsPending m.clearing t

record IsCarried (m : Member) : Type 0 where
  transfer : IfSome m.transfer (CarriesIts m)
  short : length m.descriptor < 2 ^ 16

-- ---- what happens to the device beside its endpoint 0

-- polls are held back while a Clear is pending
poll_leaves : (b : Bool) (m : Member) (fate : Fate) → (b ≡ true → m.clearing ≡ true → ⊥)
    → LeavesTransfers m.clearing (control_of_member m)
    (control_of_member (record m { link = state_after_event_if (items_of m.layout) m.link (poll_bus_event b fate) }))
poll_leaves true m fate apart = record {
  layout = refl;
  config = refl;
  descriptor = refl;
  configured = λ h. h;
  answer = refl;
  pending = refl;
  stage = refl;
  restarts = λ clearing restarts. absurd (apart refl clearing);
}
poll_leaves false m fate apart = record {
  layout = refl;
  config = refl;
  descriptor = refl;
  configured = λ h. h;
  answer = refl;
  pending = refl;
  stage = refl;
  restarts = λ clearing restarts. record { current = restarts.current; toggle = restarts.toggle };
}

schedule_leaves : (x : OwnStep) (m : Member)
    → LeavesTransfers m.clearing (control_of_member m) (control_of_member (member_after m (Scheduled x)))
schedule_leaves (Changes change) m = record {
  layout = refl;
  config = refl;
  descriptor = refl;
  configured = λ h. h;
  answer = refl;
  pending = refl;
  stage = refl;
  restarts = λ clearing restarts. record { current = restarts.current; toggle = restarts.toggle };
}
schedule_leaves Frame m = record {
  layout = refl;
  config = refl;
  descriptor = refl;
  configured = λ h. h;
  answer = refl;
  pending = refl;
  stage = refl;
  restarts = λ clearing restarts. record { current = restarts.current; toggle = restarts.toggle };
}
schedule_leaves (Polls fate) m = poll_leaves (polls_it m) m fate (λ polls clearing. let wrong : true ≡ false = sym polls ∙ polls_none m clearing in absurd (cc))

halt_leaves : (m : Member)
    → LeavesTransfers m.clearing (control_of_member m) (control_of_member (member_after_halt true m))
halt_leaves m = record {
  layout = refl;
  config = refl;
  descriptor = refl;
  configured = λ h. h;
  answer = refl;
  pending = refl;
  stage = refl;
  restarts = λ clearing restarts. record { current = refl; toggle = restarts.toggle };
}

leaves_carried : (m n : Member) (o : Option Transfer) → n.clearing ≡ m.clearing
    → LeavesTransfers m.clearing (control_of_member m) (control_of_member n) → IfSome o (CarriesIts m)
    → IfSome o (CarriesIts n)
leaves_carried m n None same leaves c = tt
leaves_carried m n (Some t) same leaves c = record {
  trail = c.trail;
  phase = c.phase;
  carries =
      carries_on c.trail c.phase m.clearing (control_of_member m) (control_of_member n)
      (Some t) leaves c.carries c.pending;
  pending = λ is run. same ∙ c.pending is run;
}

on_schedule : (x : OwnStep) (m : Member) → IsCarried m → IsCarried (member_after m (Scheduled x))
on_schedule x m s = record { transfer = leaves_carried m (member_after m (Scheduled x)) m.transfer refl (schedule_leaves x m) s.transfer; short = s.short }

on_halt : (b : Bool) (m : Member) → IsCarried m → IsCarried (member_after_halt b m)
on_halt false m s = s
on_halt true m s =
    record {
      transfer =
          leaves_carried m (member_after_halt true m) m.transfer refl (halt_leaves m) s.transfer;
      short = s.short;
    }

-- ---- a request that begins

abbrev phase_for : HostState → Member → HostPhase
phase_for states.Cold m = Cold
phase_for states.Described m = Described (phase_info (core_of_member m))
phase_for states.Parsed m = Parsed (phase_info (core_of_member m)) m.layout
phase_for states.Ready m = Ready (ready_host_at_start m.addr ENDPOINT m.layout)

phase_is : (host : HostState) (m : Member) → state_of (phase_for host m) ≡ host
phase_is states.Cold m = refl
phase_is states.Described m = refl
phase_is states.Parsed m = refl
phase_is states.Ready m = refl

on_begin : (o : Option StackFault) (m : Member) (request : Request) → begin_refusal_at m request ≡ o
    → FitsRequest request → IsCarried m → IsCarried (member_after_begin o m request)
on_begin (Some fault) m request refused fits s = s
on_begin None m request allowed fits s =
    let asking = asking_of (core_of_member m) in
    let begun : Member = member_after_begin None m request in
    record {
      transfer = record {
        trail = trail_from (core_of_member m);
        phase = phase_for m.host m;
        carries = record {
          stands = begins core_table.answer_of m.addr (setup_at m request) (sends_of request)
              (control_of_member begun) (sends_so request asking);
          asked = refl;
          fits = fits;
          needs = λ run. ap (may_begin request) (phase_is m.host m) ∙ may_if (is_some (running m.transfer)) (may_begin request m.host) allowed;
          decided = λ behind. absurd behind;
          effect = λ run took. absurd (cc);
          applied = λ done writes. let wrong = done.1 in absurd (cc);
        };
        pending = λ is run. ap (λ (q : Request). clearing_with q m.clearing) is;
      };
      short = s.short;
    }

-- ---- a try, with the host in any state after it

on_try : (fate : Fate) (m : Member) (t : Transfer) (host : HostState) → is_running t.ends.stage ≡ true
    → length m.descriptor < 2 ^ 16 → CarriesIts m t → IsCarried (member_after_try_in fate m t host)
on_try fate m t host runs short c =
    let n = member_after_try_in fate m t host in
    let new = tried_control fate m t in
    let running_it = is_running_runs t.ends.stage runs in
    let behind =
    carried c.trail fate c.phase c.phase t (member_transfer_after fate m t)
    (control_of_member m) new short c.carries running_it
    (transacts_computed core_table fate t.ends (control_of_member m)) (same_setup fate m t runs) (λ run. refl) in
    let agrees = tried_agrees fate m t in
    let leaves : LeavesTransfers true new (control_of_member n) = record {
      layout = sym behind.goes.layout;
      config = sym behind.goes.config;
      descriptor = sym behind.goes.descriptor;
      configured = λ h. h;
      answer = refl;
      pending = refl;
      stage = refl;
      restarts = λ clearing restarts. record { current = sym agrees.current ∙ restarts.current; toggle = sym agrees.toggle ∙ restarts.toggle };
    } in
    record {
      transfer = record {
        trail = trail_after_try fate t (control_of_member m) c.trail;
        phase = c.phase;
        carries =
            carries_on (trail_after_try fate t (control_of_member m) c.trail) c.phase true new (control_of_member n)
            (Some (tried_transfer fate m t)) leaves behind.carries (λ is run. refl);
        pending =
            λ is run. clears_on (member_transfer_after fate m t).stage t.request m.clearing run
            (c.pending is running_it);
      };
      short = short;
    }

carried_by : (m : Member) (t : Transfer) → m.transfer ≡ Some t → IsCarried m → CarriesIts m t
carried_by m t has s = subst (λ (o : Option Transfer). IfSome o (CarriesIts m)) has s.transfer

-- the transfer that runs
runs_or_not : (m : Member) (o : Option Transfer) → m.transfer ≡ o → IsCarried m
    → (P : Option Transfer → Type 0) → P None → ((t : Transfer) → is_running t.ends.stage ≡ true → CarriesIts m t → P (Some t)) → P (running m.transfer)
runs_or_not m None has s P none runs = subst P (sym (ap running has)) none
runs_or_not m (Some t) has s P none runs = elim (cases_Bool (is_running t.ends.stage)) [
  | inl run ↦ subst P (sym (runs_as m t has ∙ ap (λ (b : Bool). if b then Some t else None) run)) (runs t run (carried_by m t has s))
  | inr over ↦ subst P (sym (runs_as m t has ∙ ap (λ (b : Bool). if b then Some t else None) over)) none
]

on_control : (fate : Fate) (m : Member) → IsCarried m → IsCarried (member_after m (Controls fate))
on_control fate m s =
    runs_or_not m m.transfer refl s (λ o. IsCarried (member_after_try fate m o)) s
    (λ t run c. on_try fate m t
    (host_state_after_try (member_transfer_after fate m t).stage t.request m.host) run s.short c)

on_unconcluded : (fate : Fate) (m : Member) → IsCarried m
    → IsCarried (member_out_of_memory fate m (running m.transfer))
on_unconcluded fate m s =
    runs_or_not m m.transfer refl s (λ o. IsCarried (member_out_of_memory fate m o)) s
    (λ t run c. by_request t (request_aborts_round t.request) (on_try fate m t m.host run s.short c))
  where
    by_request : (t : Transfer) (b : Bool) → IsCarried (member_after_try_in fate m t m.host)
        → IsCarried (if b then m else member_after_try_in fate m t m.host)
    by_request t true tried = s
    by_request t false tried = tried

-- only a request to halt or to clear ends a round by it
cuts_by_request : (fate : Fate) (m : Member) → IsCarried m → AbortsByRequest fate m (running m.transfer)
cuts_by_request fate m s = runs_or_not m m.transfer refl s (AbortsByRequest fate m) tt (λ t run c apart.
    brought_cuts fate t.ends (control_of_member m) (λ aborts.
    let wrong : true ≡ false =
    sym (cut_by c.trail fate c.phase t (control_of_member m) c.carries (is_running_runs t.ends.stage run) aborts)
    ∙ apart in absurd (cc)))

-- ---- whole histories

on_step : (m : Member) (x : MemberStep) → FitsAction (Takes x) → IsCarried m → IsCarried (member_after m x)
on_step m (Scheduled x) fits s = on_schedule x m s
on_step m (Begins request) fits s = on_begin (begin_refusal_at m request) m request refl fits s
on_step m (Controls fate) fits s = on_control fate m s
on_step m Halts fits s = on_halt m.endpoint.is_configured m s
on_step m Resets fits s = record { transfer = tt; short = s.short }

carried_end : (actions : List DeviceAction) (m : Member) → All FitsAction actions → IsCarried m
    → EndNoRounds m actions
carried_end [] m fit s = tt
carried_end (Takes x ∷ actions) m fit s = (
  tt,
  carried_end actions (member_after m x) (λ k d lt. fit (suc k) d (omega (arith, lt)))
      (on_step m x (fit 0 (Takes x) (omega arith)) s),
)
carried_end (Unconcludes fate ∷ actions) m fit s = (
  cuts_by_request fate m s,
  carried_end actions (member_after_action m (Unconcludes fate)) (λ k d lt. fit (suc k) d (omega (arith, lt)))
      (on_unconcluded fate m s),
)

pub end_no_rounds : (m : Member) (actions : List DeviceAction) → ParsesTo m.descriptor m.layout → m.transfer ≡ None
    → All FitsAction actions → EndNoRounds m actions
end_no_rounds m actions lays none fit =
    carried_end actions m fit
    (record {
      transfer = subst (λ (o : Option Transfer). IfSome o (CarriesIts m)) (sym none) tt;
      short =
          short_so m.descriptor m.layout lays;
    })
