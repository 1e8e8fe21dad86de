-- The end of a halt, from its begin on: its host polls nothing, and both ends start again where it is done (USB 2.0,
-- 9.4.5).
use Rattle.std.proofs.Common.{◌≡◌, ◌∙◌, ◌≢◌, ◌<◌, ◌^◌, ℕ, Bool, true, false, List, [], ◌∷◌, Option, Some, None, inl, inr, refl, ap, sym, subst}
use Rattle.std.specs.Prelude.{if◌then◌else◌, ◌||◌, not, length}
use Rattle.std.specs.Option.{option_map}
use Rattle.std.proofs.lemmas.Bool.{cases_Bool}
use Rattle.usb_transact.specs.declared.transaction.Fate.{Fate}
use Rattle.usb_transact.specs.declared.transaction.Fate.TheVariants.{Clean, TokenLost, ReplyLost, AckLost}
use Rattle.usb_control.specs.declared.host.HostStage.{HostStage}
use Rattle.usb_control.specs.declared.host.HostStage.TheVariants as stages
use Rattle.usb_control.specs.TryFunctions.{control_tried, effect_reached}
use Rattle.usb_control.specs.Device.{Answers, Applies, Decides, DevControlState, Effect}
use Rattle.usb_control.specs.Host.{HostTransferState}
use Rattle.usb_control.specs.Interleaving.{Tries, ends_tried, is_running}
use Rattle.usb_control.proofs.TryFunctionLemmas.{transacts_computed}
use Rattle.usb_control.proofs.LawLemmas.{begins}
use Rattle.usb_control.proofs.InterleavingLemmas.{is_running_runs, setup_stays}
use Rattle.hid_layout.specs.Controls.{Item, items_of}
use Rattle.hid_requests.specs.declared.request.Asking.{Asking}
use Rattle.hid_requests.specs.declared.request.Request.{Request}
use Rattle.hid_requests.specs.declared.request.Request.TheVariants as requests
use Rattle.hid_requests.specs.RequestSetup.{sends_of}
use Rattle.hid_requests.proofs.RequestKindLemmas.{sends_so}
use Rattle.hid_bus.specs.Rounds.{OwnStep, Changes, Frame, Polls}
use Rattle.hid_bus.specs.LinkState.{LinkState, OpenRound, expected_toggle}
use Rattle.hid_requests.specs.declared.codes.TheConstants.{REPORT_ENDPOINT as ENDPOINT}
use Rattle.hid_device.specs.declared.decisions.PendingWrite.{PendingWrite}
use Rattle.hid_device.specs.declared.decisions.PendingWrite.TheVariants as pendings
use Rattle.hid_device.specs.Core.{CoreState}
use Rattle.hid_device.specs.RequestTable.{core_after_write, core_table}
use Rattle.hid_layout.specs.Parsing.{ParsesTo}
use Rattle.hid_host.specs.declared.fault.StackFault.{StackFault}
use Rattle.hid_host.specs.declared.host.Transfer.{Transfer}
use Rattle.hid_host.specs.declared.phase.HostPhase.{HostPhase}
use Rattle.hid_host.specs.declared.phase.HostPhase.TheVariants.{Ready}
use Rattle.hid_host.specs.declared.phase.HostState.{HostState}
use Rattle.hid_host.specs.declared.phase.HostState.TheVariants as states
use Rattle.hid_stack.specs.ControlSteps.{core_after_effect, core_after_try}
use Rattle.hid_host.specs.Host.{clearing_after, transfer_of}
use Rattle.hid_stack.specs.HostInvariant.{FollowsTrail, HasEffect, LeavesTransfers, StartsAtData0, asking_of}
use Rattle.hid_stack.specs.Trails.{Trail, trail_after_try, trail_from}
use Rattle.hid_host.specs.Phase.{may_poll}
use Rattle.hid_host.specs.Ready.{ready_host_at_start}
use Rattle.hid_stack.proofs.LawLemmas.{carried, carries_on, done_effect, short_so}
use Rattle.hid_stack.proofs.RoundLemmas.{tried_rounds}
use Rattle.hid_stack.specs.Members.{Member, MemberStep, Scheduled, Begins, Controls, Halts, Resets, state_after_event_if, begin_refusal_at, member_after_begin, try_bus_event_of, control_of_member, core_of_member, effect_bus_event, member_transfer_after, expected_toggle_after_try, expected_toggle_of, member_after_halt, member_held_toggle, member_after, member_after_all, poll_bus_event, polls_it, try_bus_event, member_after_try, write_bus_event}
use Rattle.hid_stack.specs.Transfers.{BeginsNone, IsClearing, IsCleared, IsOver, IsUndone, ends_at, setup_at}
use Rattle.hid_stack.proofs.CountLemmas.{halted_transfer, runs_as}

-- ---- the inside of a member after a try is that of its device

abbrev report_of : Option OpenRound → Option ℕ
report_of o = option_map (λ round. round.report) o

-- the inside of a device and its link state have the same open round, and the same toggle
pub record Agrees (core : CoreState) (s : LinkState) : Type 0 where
  pub current : core.current ≡ report_of s.current
  pub toggle : core.toggle ≡ s.toggle

written_agrees : (items : List Item) (core : CoreState) (s : LinkState) (bytes : List ℕ) (pending : PendingWrite)
    → Agrees core s
    → Agrees (core_after_write core bytes pending) (state_after_event_if items s (write_bus_event core pending))
written_agrees items core s bytes pendings.Nothing a = a
written_agrees items core s bytes pendings.Configure a = record { current = refl; toggle = refl }
written_agrees items core s bytes (pendings.Keep i) a = record { current = a.current; toggle = a.toggle }
written_agrees items core s bytes (pendings.Idle report time) a = record { current = a.current; toggle = a.toggle }
written_agrees items core s bytes (pendings.Protocol protocol) a = record { current = a.current; toggle = a.toggle }
written_agrees items core s bytes pendings.Halt a = record { current = refl; toggle = a.toggle }
written_agrees items core s bytes pendings.Clear a = record { current = refl; toggle = refl }

effect_agrees : (items : List Item) (e : Effect) (core : CoreState) (s : LinkState) → Agrees core s
    → Agrees (core_after_effect e core) (state_after_event_if items s (effect_bus_event e core))
effect_agrees items (Answers answer stage last_packet) core s a = a
effect_agrees items (Decides bytes) core s a = a
effect_agrees items (Applies bytes) core s a = written_agrees items core s bytes core.pending a

brought_agrees : (items : List Item) (fate : Fate) (ends : HostTransferState) (control : DevControlState CoreState)
    (s : LinkState) → Agrees control.requests s
    → Agrees (core_after_try fate ends control) (state_after_event_if items s (try_bus_event_of fate ends control))
brought_agrees items TokenLost ends control s a = a
brought_agrees items Clean ends control s a = effect_agrees items (effect_reached core_table ends control) control.requests s a
brought_agrees items ReplyLost ends control s a = effect_agrees items (effect_reached core_table ends control) control.requests s a
brought_agrees items AckLost ends control s a = effect_agrees items (effect_reached core_table ends control) control.requests s a

abbrev pub tried_control : Fate → Member → Transfer → DevControlState CoreState
tried_control fate m t = control_tried core_table fate t.ends (control_of_member m)

pub tried_agrees : (fate : Fate) (m : Member) (t : Transfer)
    → Agrees (tried_control fate m t).requests
    (state_after_event_if (items_of m.layout) m.link (try_bus_event fate m (Some t)))
tried_agrees fate m t =
    let brought =
    brought_agrees (items_of m.layout) fate t.ends (control_of_member m) m.link
    (record { current = refl; toggle = refl }) in
    let same = tried_rounds fate t.ends (control_of_member m) in
    record {
      current = ap (λ (c : CoreState). c.current) same ∙ brought.current;
      toggle = ap (λ (c : CoreState). c.toggle) same ∙ brought.toggle;
    }

none_open : (o : Option OpenRound) → report_of o ≡ None → o ≡ None
none_open None none = refl
none_open (Some round) none = absurd (cc)

-- ---- a Clear that isn't done

-- a host that is ready, whatever it has
abbrev ready_with : Member → HostPhase
ready_with m = Ready (ready_host_at_start m.addr ENDPOINT m.layout)

pub record Pends (phase : HostPhase) (m : Member) (t : Transfer) : Type 0 where
  pub trail : Trail
  pub carries : FollowsTrail trail phase t (control_of_member m)
  pub is : t.request ≡ requests.Clear
  pub clearing : m.clearing ≡ true

-- what leaves it so
stays_pending : (phase : HostPhase) (m n : Member) (t : Transfer)
    → LeavesTransfers true (control_of_member m) (control_of_member n) → n.clearing ≡ true → Pends phase m t
    → Pends phase n t
stays_pending phase m n t leaves clearing p =
    record {
      trail = p.trail;
      carries =
          carries_on p.trail phase true (control_of_member m) (control_of_member n) (Some t) leaves p.carries
          (λ is runs. refl);
      is = p.is;
      clearing = clearing;
    }

no_polls : (host : HostState) → may_poll host true ≡ false
no_polls states.Cold = refl
no_polls states.Described = refl
no_polls states.Parsed = refl
no_polls states.Ready = refl

pub polls_none : (m : Member) → m.clearing ≡ true → polls_it m ≡ false
polls_none m clearing = ap (may_poll m.host) clearing ∙ no_polls m.host

pub scheduled_pends : (x : OwnStep) (phase : HostPhase) (m : Member) (t : Transfer) → Pends phase m t → Pends phase (member_after m (Scheduled x)) t
scheduled_pends (Changes change) phase m t p = stays_pending phase m (member_after m (Scheduled (Changes change))) t (record {
  layout = refl;
  config = refl;
  descriptor = refl;
  configured = λ h. h;
  answer = refl;
  pending = refl;
  stage = refl;
  restarts = λ clearing restarts. record { current = restarts.current; toggle = restarts.toggle };
}) p.clearing p
scheduled_pends Frame phase m t p = stays_pending phase m (member_after m (Scheduled Frame)) t (record {
  layout = refl;
  config = refl;
  descriptor = refl;
  configured = λ h. h;
  answer = refl;
  pending = refl;
  stage = refl;
  restarts = λ clearing restarts. record { current = restarts.current; toggle = restarts.toggle };
}) p.clearing p
scheduled_pends (Polls fate) phase m t p =
    let same : m ≡ member_after m (Scheduled (Polls fate)) =
    sym (ap (λ
    (b : Bool). record m { link = state_after_event_if (items_of m.layout) m.link (poll_bus_event b fate) })
    (polls_none m p.clearing)) in
    subst (λ (n : Member). Pends phase n t) same p

pub halted_pends : (b : Bool) (phase : HostPhase) (m : Member) (t : Transfer) → Pends phase m t
    → Pends phase (member_after_halt b m) t
halted_pends false phase m t p = p
halted_pends true phase m t p = stays_pending phase m (member_after_halt true m) t (record {
  layout = refl;
  config = refl;
  descriptor = refl;
  configured = λ h. h;
  answer = refl;
  pending = refl;
  stage = refl;
  restarts = λ clearing restarts. record { current = refl; toggle = restarts.toggle };
}) p.clearing p

-- ---- a try of it

pub same_setup : (fate : Fate) (m : Member) (t : Transfer) → is_running t.ends.stage ≡ true
    → (member_transfer_after fate m t).setup ≡ t.ends.setup
same_setup fate m t runs =
    sym (ap (λ (b : Bool). (if b then ends_tried core_table fate (ends_at m t) else ends_at m t).host.setup) runs) ∙ setup_stays core_table (ends_at m t) (Tries fate ∷ [])

abbrev pub tried_transfer : Fate → Member → Transfer → Transfer
tried_transfer fate m t = record t { ends = member_transfer_after fate m t }

clearing_stays : (stage : HostStage) (request : Request) (clearing : Bool) → stage ≢ stages.Done
    → clearing_after stage request clearing ≡ clearing
clearing_stays stages.Done request clearing undone = absurd (undone refl)
clearing_stays stages.Setup request clearing undone = refl
clearing_stays (stages.DataIn one) request clearing undone = refl
clearing_stays (stages.DataOut sent one) request clearing undone = refl
clearing_stays stages.StatusIn request clearing undone = refl
clearing_stays stages.StatusOut request clearing undone = refl
clearing_stays (stages.Failed fault) request clearing undone = refl

pub tried_pends : (fate : Fate) (phase : HostPhase) (m : Member) (t : Transfer) → length m.descriptor < 2 ^ 16
    → is_running t.ends.stage ≡ true → (member_transfer_after fate m t).stage ≢ stages.Done → Pends phase m t
    → Pends phase (member_after_try fate m (Some t)) (tried_transfer fate m t)
tried_pends fate phase m t short runs undone p =
    let n = member_after_try fate m (Some t) in
    let new = tried_control fate m t in
    let behind =
    carried p.trail fate phase phase t (member_transfer_after fate m t) (control_of_member m) new short p.carries
    (is_running_runs t.ends.stage runs)
    (transacts_computed core_table fate t.ends (control_of_member m)) (same_setup fate m t runs) (λ run. refl) in
    let agrees = tried_agrees fate m t in
    let leaves : LeavesTransfers true new (control_of_member n) = record {
      layout = sym behind.goes.layout;
      config = sym behind.goes.config;
      descriptor = sym behind.goes.descriptor;
      configured = λ h. h;
      answer = refl;
      pending = refl;
      stage = refl;
      restarts = λ clearing restarts. record { current = sym agrees.current ∙ restarts.current; toggle = sym agrees.toggle ∙ restarts.toggle };
    } in
    record {
      trail = trail_after_try fate t (control_of_member m) p.trail;
      carries =
          carries_on (trail_after_try fate t (control_of_member m) p.trail) phase true new (control_of_member n)
          (Some (tried_transfer fate m t)) leaves behind.carries (λ is runs. refl);
      is = p.is;
      clearing = clearing_stays (member_transfer_after fate m t).stage t.request m.clearing undone ∙ p.clearing;
    }

-- ---- whole lists

-- a transfer that is done stays so
pub idle_step : (fate : Fate) (m : Member) (t : Transfer) (b : Bool) → is_running t.ends.stage ≡ b → b ≡ false → m.transfer ≡ Some t → member_after m (Controls fate) ≡ m
idle_step fate m t b is over has =
    ap (member_after_try fate m) (runs_as m t has ∙ ap (λ (x : Bool). if x then Some t else None) (is ∙ over))

done_over : (stage : HostStage) → stage ≡ stages.Done → is_running stage ≡ false
done_over stage done = ap is_running done

done_stays : (steps : List MemberStep) (m : Member) (t : Transfer) → m.transfer ≡ Some t → t.ends.stage ≡ stages.Done → BeginsNone steps → (member_after_all m steps).transfer ≡ Some t
done_stays [] m t has done none = has
done_stays (Scheduled x ∷ steps) m t has done none = done_stays steps (member_after m (Scheduled x)) t has done none
done_stays (Begins request ∷ steps) m t has done none = absurd none
done_stays (Halts ∷ steps) m t has done none = done_stays steps (member_after m Halts) t (halted_transfer m.endpoint.is_configured m ∙ has) done none
done_stays (Resets ∷ steps) m t has done none = absurd none
done_stays (Controls fate ∷ steps) m t has done none =
    ap (λ (n : Member). (member_after_all n steps).transfer) (idle_step fate m t false (done_over t.ends.stage done) refl has) ∙ done_stays steps m t has done none

undone_by : (o : Option Transfer) (t : Transfer) → o ≡ Some t → IsUndone o → t.ends.stage ≢ stages.Done
undone_by o t is undone = subst IsUndone is undone

-- one that isn't stays pending
pub record PendsThere (phase : HostPhase) (n : Member) : Type 0 where
  pub transfer : Transfer
  pub has : n.transfer ≡ Some transfer
  pub pends : Pends phase n transfer
  pub short : length n.descriptor < 2 ^ 16

pends_on : (steps : List MemberStep) (phase : HostPhase) (m : Member) (t : Transfer) → m.transfer ≡ Some t → length m.descriptor < 2 ^ 16 → BeginsNone steps → IsUndone (member_after_all m steps).transfer → Pends phase m t
    → PendsThere phase (member_after_all m steps)
pends_on [] phase m t has short none undone p = record { transfer = t; has = has; pends = p; short = short }
pends_on (Scheduled x ∷ steps) phase m t has short none undone p = pends_on steps phase (member_after m (Scheduled x)) t has short none undone (scheduled_pends x phase m t p)
pends_on (Begins request ∷ steps) phase m t has short none undone p = absurd none
pends_on (Halts ∷ steps) phase m t has short none undone p =
    pends_on steps phase (member_after m Halts) t (halted_transfer m.endpoint.is_configured m ∙ has) (halted_short m.endpoint.is_configured m short) none undone (halted_pends m.endpoint.is_configured phase m t p)
  where
    halted_short : (b : Bool) (k : Member) → length k.descriptor < 2 ^ 16
        → length (member_after_halt b k).descriptor < 2 ^ 16
    halted_short true k h = h
    halted_short false k h = h
pends_on (Resets ∷ steps) phase m t has short none undone p = absurd none
pends_on (Controls fate ∷ steps) phase m t has short none undone p = elim (cases_Bool (is_running t.ends.stage)) [
  | inl runs ↦
      let there : member_after m (Controls fate) ≡ member_after_try fate m (Some t) =
      ap (member_after_try fate m) (runs_as m t has ∙ ap (λ (x : Bool). if x then Some t else None) runs) in
      let undone_there : IsUndone (member_after_all (member_after_try fate m (Some t)) steps).transfer =
      subst (λ (n : Member). IsUndone (member_after_all n steps).transfer) there undone in
      let not_yet : (member_transfer_after fate m t).stage ≢ stages.Done
      = λ done. undone_by (member_after_all (member_after_try fate m (Some t)) steps).transfer
      (tried_transfer fate m t)
      (done_stays steps (member_after_try fate m (Some t))
      (tried_transfer fate m t) refl done none) undone_there done in
      subst (λ (n : Member). PendsThere phase (member_after_all n steps)) (sym there)
      (pends_on steps phase (member_after_try fate m (Some t)) (tried_transfer fate m t) refl short none undone_there
      (tried_pends fate phase m t short runs not_yet p))
  | inr over ↦
      let there : member_after m (Controls fate) ≡ m = idle_step fate m t false over refl has in
      subst (λ (n : Member). PendsThere phase (member_after_all n steps)) (sym there)
      (pends_on steps phase m t has short none (subst (λ (n : Member). IsUndone (member_after_all n steps).transfer) there undone) p)
]

-- ---- where it is done

even_expects : (host : HostState) (holds : Bool) (s : LinkState) → s.current ≡ None → s.toggle ≡ false
    → (elim (member_held_toggle host holds false) as
    (λ _. Bool) [ Some expects ↦ expects | None ↦ expected_toggle s ]) ≡ false
even_expects host holds s none even = by_host host holds
  where
    quiet : expected_toggle s ≡ false
    quiet = ap
        (λ (o : Option OpenRound). elim o as
        (λ _. Bool) [ None ↦ s.toggle | Some round ↦ (if round.crossed then not s.toggle else s.toggle) ]) none ∙ even

    by_host : (h : HostState) (b : Bool)
        → (elim (member_held_toggle h b false) as (λ _. Bool) [ Some expects ↦ expects | None ↦ expected_toggle s ])
        ≡ false
    by_host states.Ready true = refl
    by_host states.Ready false = quiet
    by_host states.Cold b = quiet
    by_host states.Described b = quiet
    by_host states.Parsed b = quiet

even_by : (fate : Fate) (m : Member) (t : Transfer) → (member_transfer_after fate m t).stage ≡ stages.Done
    → t.request ≡ requests.Clear → StartsAtData0 (tried_control fate m t).requests
    → IsCleared (member_after_try fate m (Some t))
even_by fate m t done is restarts =
    let n : Member = member_after_try fate m (Some t) in
    let agrees = tried_agrees fate m t in
    let quiet : n.link.current ≡ None = none_open n.link.current (sym agrees.current ∙ restarts.current) in
    let even : n.link.toggle ≡ false = sym agrees.toggle ∙ restarts.toggle in
    let data0 : expected_toggle_after_try (member_transfer_after fate m t).stage t.request (expected_toggle_of m)
    ≡ false
    = ap (λ (x : HostStage). expected_toggle_after_try x t.request (expected_toggle_of m)) done
    ∙ ap (λ (q : Request). expected_toggle_after_try stages.Done q (expected_toggle_of m)) is in
    record {
      quiet = quiet;
      sends = even;
      expects =
          ap (λ (e : Bool). elim (member_held_toggle n.host (n.link.halted || n.clearing) e) as
          (λ _. Bool) [ Some expects ↦ expects | None ↦ expected_toggle n.link ]) data0
          ∙ even_expects n.host (n.link.halted || n.clearing) n.link quiet even;
      clearing =
          ap (λ (x : HostStage). clearing_after x t.request m.clearing) done
          ∙ ap (λ (q : Request). clearing_after stages.Done q m.clearing) is;
    }

pub even_there : (fate : Fate) (phase : HostPhase) (n : Member) → IsUndone n.transfer → PendsThere phase n → IsOver (member_after n (Controls fate)).transfer → IsCleared (member_after n (Controls fate))
even_there fate phase n undone p over = elim (cases_Bool (is_running p.transfer.ends.stage)) [
  | inl runs ↦
      let t = p.transfer in
      let there : member_after n (Controls fate) ≡ member_after_try fate n (Some t) =
      ap (member_after_try fate n) (runs_as n t p.has ∙ ap (λ (x : Bool). if x then Some t else None) runs) in
      let done : (member_transfer_after fate n t).stage ≡ stages.Done =
      subst (λ (k : Member). IsOver k.transfer) there over in
      let effect =
      done_effect p.pends.trail fate phase t (member_transfer_after fate n t) (control_of_member n)
      (tried_control fate n t) p.short p.pends.carries (is_running_runs t.ends.stage runs)
      (transacts_computed core_table fate t.ends (control_of_member n)) (same_setup fate n t runs) done in
      subst IsCleared (sym there) (even_by fate n t done p.pends.is (subst (λ (q : Request). HasEffect q (tried_control fate n t).requests) p.pends.is effect))
  | inr ended ↦
      let there : member_after n (Controls fate) ≡ n = idle_step fate n p.transfer false ended refl p.has in
      let done : p.transfer.ends.stage ≡ stages.Done = subst IsOver p.has (subst (λ (k : Member). IsOver k.transfer) there over) in
      absurd (undone_by n.transfer p.transfer p.has undone done)
]

-- both ends after a list of steps, from a member that has begun a clear
abbrev ClearsFrom : List MemberStep → Member → Type 0
ClearsFrom steps begun =
    let n = member_after_all begun steps in IsUndone n.transfer
    → (polls_it n ≡ false) × ((fate : Fate) → IsOver (member_after n (Controls fate)).transfer → IsCleared (member_after n (Controls fate)))

-- a Clear that begins
pub begins_pending : (m : Member)
    → (phase : HostPhase)
    × Pends phase (member_after_begin None m requests.Clear)
    (transfer_of m.addr (asking_of (core_of_member m)) requests.Clear)
begins_pending m =
    let asking : Asking = asking_of (core_of_member m) in
    let begun : Member = member_after_begin None m requests.Clear in (
      ready_with m,
      record {
        trail = trail_from (core_of_member m);
        carries = record {
          stands = begins core_table.answer_of m.addr (setup_at m requests.Clear) (sends_of requests.Clear)
              (control_of_member begun) (sends_so requests.Clear asking);
          asked = refl;
          fits = tt;
          needs = λ run. refl;
          decided = λ behind. absurd behind;
          effect = λ run took. absurd (cc);
          applied = λ done writes. let wrong = done.1 in absurd (cc);
        };
        is = refl;
        clearing = refl;
      },
    )

pub clears_so : (m : Member) (steps : List MemberStep) → ParsesTo m.descriptor m.layout
    → begin_refusal_at m requests.Clear ≡ None → BeginsNone steps → IsClearing m steps
clears_so m steps lays allowed none =
    let begun : Member = member_after_begin None m requests.Clear in
    let t : Transfer = transfer_of m.addr (asking_of (core_of_member m)) requests.Clear in
    let pends = begins_pending m in
    let short = short_so m.descriptor m.layout lays in
    let from : ClearsFrom steps begun = λ undone.
    let there = pends_on steps pends.0 begun t refl short none undone pends.1 in
    (polls_none (member_after_all begun steps) there.pends.clearing, λ fate over. even_there fate pends.0 (member_after_all begun steps) undone there over) in
    subst (ClearsFrom steps)
    (sym (ap (λ (o : Option StackFault). member_after_begin o m requests.Clear) allowed)) from
