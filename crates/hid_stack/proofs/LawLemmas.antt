-- A host knows its virtual device after whatever happens to the two.
use Rattle.std.proofs.Common.{◌≡◌, ◌⊎◌, inl, inr, ℕ, Bool, true, false, List, [], ◌∷◌, length, take, suc, zero, Option, Some, None, Result, Ok, Err, refl, ap, sym, ◌∙◌, subst, arith}
use Rattle.std.specs.Prelude.{IfSome, is_some, ◌<◌, ◌≤◌, ◌^◌, if◌then◌else◌}
use Rattle.hid_report_descriptor.specs.Bus.{HasOneReading, AcceptsNoRefused}
use Rattle.hid_layout.specs.Layout.{Contents}
use Rattle.usb_transact.specs.declared.transaction.Fate.{Fate}
use Rattle.usb_transact.specs.declared.host.Took.{Took}
use Rattle.usb_transact.specs.declared.host.Took.TheVariants.{Fresh, Again, Nak, Stall, Silent}
use Rattle.usb_control.specs.declared.setup.Setup.{Setup}
use Rattle.usb_control.specs.declared.fault.ControlFault.TheVariants.{NoTransfer, Busy}
use Rattle.usb_control.specs.declared.host.HostStage.{HostStage}
use Rattle.usb_control.specs.declared.host.HostStage.TheVariants as stages
use Rattle.usb_control.specs.declared.host.Progress.{Progress}
use Rattle.usb_control.specs.TryFunctions.{AppliesBy, PreparesBy, host_tried}
use Rattle.usb_control.specs.Device.{DevControlState}
use Rattle.usb_control.specs.Host.{HostTransferState, IsRunning, progress_of}
use Rattle.usb_control.specs.Interleaving.{decision_now}
use Rattle.usb_control.specs.Runs.{IsDone}
use Rattle.usb_control.specs.SetupBytes.{IsEncoded, reads}
use Rattle.usb_control.specs.Positions.{TransferIsAt}
use Rattle.usb_control.specs.Transaction.{Transacts}
use Rattle.usb_control.specs.Transfer.{Act, Decision, Place, answered_bytes, act_of, transfer_shape, place_after_try}
use Rattle.usb_control.proofs.LawLemmas.{begins, done_is, kept_is, read_is}
use Rattle.usb_control.proofs.TryFunctionLemmas.{tries_are}
use Rattle.usb_control.proofs.InterleavingLemmas.{goes_by}
use Rattle.hid_requests.specs.declared.request.Request.{Request}
use Rattle.hid_requests.specs.declared.request.Request.TheVariants as requests
use Rattle.hid_requests.specs.declared.request.Asking.{Asking}
use Rattle.hid_requests.specs.RequestSetup.{FitsRequest, endpoint_setup, sends_of, setup_for}
use Rattle.hid_requests.specs.Descriptors.{configuration_bytes, device_bytes}
use Rattle.hid_requests.specs.declared.codes.TheConstants.{REPORT_ENDPOINT as ENDPOINT}
use Rattle.hid_snapshots.specs.declared.change.Change.{Change}
use Rattle.hid_device.specs.Core.{CoreState, changed_core, framed_core}
use Rattle.hid_device.specs.RequestTable.{config_info, core_table, device_info}
use Rattle.hid_layout.specs.Parsing.{ParsesTo}
use Rattle.hid_host.specs.declared.fault.StackFault.{StackFault}
use Rattle.hid_host.specs.declared.fault.StackFault.TheVariants.{NotReady, Control}
use Rattle.hid_host.specs.declared.host.Transfer.{Transfer}
use Rattle.hid_host.specs.declared.phase.HostPhase.{HostPhase}
use Rattle.hid_host.specs.declared.phase.HostPhase.TheVariants.{Cold, Described, Parsed, Ready}
use Rattle.hid_host.specs.Conclusions.{Concludes, phase_after_answer}
use Rattle.hid_host.specs.Host.{ConcludesAt, ControlSteps, HostDeviceState, TriesOnce, begin_refusal, clearing_after, clearing_with, cold_host, conclusion_result, host_after_begin, host_after_reply, read_bytes_of, ready_host, running, running_at}
use Rattle.hid_stack.specs.HostInvariant.{FollowsTrail, HasEffect, IsAfterSetup, IsConsistentAt, IsConsistentBy, IsDecided, IsNoRefusal, IsPending, LeavesTransfers, asking_of, host_with_core, phase_info}
use Rattle.hid_host.specs.Phase.{IfReady, asking_at, has_endpoint, may_begin, state_of}
use Rattle.hid_host.specs.Ready.{ReadyHostState, ready_host_after}
use Rattle.hid_requests.proofs.RequestKindLemmas.{of_reports, sends_so, encoded_so}
use Rattle.hid_stack.specs.Trails.{Trail, ends_of, trail_after, trail_after_try, trail_from}
use Rattle.hid_stack.proofs.HostLemmas.{IsAnswer, learned}
use Rattle.hid_stack.proofs.HostInvariantLemmas.{ActsOn, Goes, acts_go, clear_brings, clear_pends, configure_brings, decided_behind, decided_stays, effect_at}
use Rattle.hid_stack.proofs.PlacesLemmas.{open_place, past_applied}

-- ---- the setups of requests

-- that of a report descriptor
abbrev asks_with : ℕ → Setup
asks_with n = record { request_type = 0x81; request = 6; value = 0x2200; index = 0; length = n }

-- the endpoint that a host polls is its device's
endpoint_with : (phase : HostPhase) (addr : ℕ) (core : CoreState) → IsConsistentAt phase addr core
    → has_endpoint (state_of phase) ≡ true → (asking_at phase).endpoint ≡ ENDPOINT
endpoint_with Cold addr core knows needs = absurd (cc)
endpoint_with (Described info) addr core knows needs = absurd (cc)
endpoint_with (Parsed info layout) addr core knows needs = absurd (cc)
endpoint_with (Ready known) addr core knows needs = knows.3

-- what the host asks with is what the device has
asked_with : (request : Request) (phase : HostPhase) (addr : ℕ) (core : CoreState) → IsConsistentAt phase addr core
    → may_begin request (state_of phase) ≡ true
    → setup_for request (asking_at phase) ≡ setup_for request (asking_of core)
asked_with requests.Device phase addr core knows needs = refl
asked_with requests.Config phase addr core knows needs = refl
asked_with requests.Report Cold addr core knows needs = absurd (cc)
asked_with requests.Report (Described info) addr core knows needs = ap (λ i. asks_with i.report_length) knows
asked_with requests.Report (Parsed info layout) addr core knows needs = absurd (cc)
asked_with requests.Report (Ready known) addr core knows needs = absurd (cc)
asked_with requests.Configure phase addr core knows needs = refl
asked_with requests.Status phase addr core knows needs = refl
asked_with requests.GetConfiguration phase addr core knows needs = refl
asked_with (requests.Idle id time) phase addr core knows needs = refl
asked_with (requests.GetIdle id) phase addr core knows needs = refl
asked_with (requests.Protocol boot) phase addr core knows needs = refl
asked_with requests.GetProtocol phase addr core knows needs = refl
asked_with (requests.GetReport kind id) phase addr core knows needs = refl
asked_with (requests.SetReport kind id bytes) phase addr core knows needs = refl
asked_with requests.Halt phase addr core knows needs =
    ap (λ (e : ℕ). endpoint_setup 0x02 3 e 0) (endpoint_with phase addr core knows needs)
asked_with requests.Clear phase addr core knows needs =
    ap (λ (e : ℕ). endpoint_setup 0x02 1 e 0) (endpoint_with phase addr core knows needs)
asked_with requests.EndpointStatus phase addr core knows needs =
    ap (λ (e : ℕ). endpoint_setup 0x82 0 e 2) (endpoint_with phase addr core knows needs)

-- ---- what a host knows stays so

info_on : (old new : CoreState) → Goes old new → phase_info old ≡ phase_info new
info_on old new goes =
    ap (λ config. config_info config (length old.descriptor)) (sym goes.config) ∙ ap (λ (d : List ℕ). config_info new.config (length d)) (sym goes.descriptor)

pub knows_on : (phase : HostPhase) (addr : ℕ) (old new : CoreState) → Goes old new → IsConsistentAt phase addr old
    → IsConsistentAt phase addr new
knows_on Cold addr old new goes h = tt
knows_on (Described info) addr old new goes h = h ∙ info_on old new goes
knows_on (Parsed info layout) addr old new goes h = (h.0 ∙ info_on old new goes, h.1 ∙ sym goes.layout)
knows_on (Ready known) addr old new goes h = (h.0 ∙ sym goes.layout, goes.configured h.1, h.2, h.3)

-- ---- a try of a transfer

-- a take of all
take_all : (n : ℕ) (xs : List ℕ) → length xs ≤ n → take n xs ≡ xs
take_all zero [] h = refl
take_all zero (x ∷ xs) h = absurd (omega (arith, h))
take_all (suc n) [] h = refl
take_all (suc n) (x ∷ xs) h = ap (λ (l : List ℕ). x ∷ l) (take_all n xs (omega (arith, h)))

-- the bytes of a read that is done are what the device answered
pub answer_is : (request : Request) (decider core : CoreState) (decision : Decision) (bytes : List ℕ) → IsDecided request decider core decision
    → (reads (setup_for request (asking_of core)) ≡ true
    → bytes ≡ answered_bytes (transfer_shape (setup_for request (asking_of core))) decision)
    → IsAnswer request core bytes
answer_is requests.Device decider core decision bytes says got =
    got refl ∙ ap (answered_bytes (transfer_shape (setup_for requests.Device (asking_of core)))) says.by.0
    ∙ take_all 18 (device_bytes (device_info decider.config)) (omega arith)
    ∙ ap (λ config. device_bytes (device_info config)) (sym says.same.config)
answer_is requests.Config decider core decision bytes says got =
    got refl ∙ ap (answered_bytes (transfer_shape (setup_for requests.Config (asking_of core)))) says.by.0
    ∙ take_all 255 (configuration_bytes (phase_info decider) decider.config.interval) (omega arith)
    ∙ ap (λ config. configuration_bytes (config_info config (length decider.descriptor)) config.interval) (sym says.same.config)
    ∙ ap (λ (d : List ℕ). configuration_bytes (config_info core.config (length d)) core.config.interval) (sym says.same.descriptor)
answer_is requests.Report decider core decision bytes says got =
    let all : length decider.descriptor ≤ length core.descriptor = let same = ap (λ (d : List ℕ). length d) says.same.descriptor in omega (arith, same) in
    got refl ∙ ap (answered_bytes (transfer_shape (setup_for requests.Report (asking_of core)))) says.by.0
    ∙ take_all (length core.descriptor) decider.descriptor all ∙ sym says.same.descriptor
answer_is requests.Configure decider core decision bytes says got = tt
answer_is requests.Status decider core decision bytes says got = tt
answer_is requests.GetConfiguration decider core decision bytes says got = tt
answer_is (requests.Idle id time) decider core decision bytes says got = tt
answer_is (requests.GetIdle id) decider core decision bytes says got = tt
answer_is (requests.Protocol boot) decider core decision bytes says got = tt
answer_is requests.GetProtocol decider core decision bytes says got = tt
answer_is (requests.GetReport kind id) decider core decision bytes says got = tt
answer_is (requests.SetReport kind id set) decider core decision bytes says got = tt
answer_is requests.Halt decider core decision bytes says got = tt
answer_is requests.Clear decider core decision bytes says got = tt
answer_is requests.EndpointStatus decider core decision bytes says got = tt

effect_so : (request : Request) (asking : Asking) (setup : Setup) (fate : Fate) (decision : Decision) (place : Place) (decider old new : CoreState) → setup ≡ setup_for request asking
    → (IsAfterSetup place.host → IsDecided request decider old place.decision)
    → (place.applied ≡ true → HasEffect request old)
    → ActsOn setup (sends_of request) (act_of (transfer_shape setup) fate decision place) old new
    → (place_after_try (transfer_shape setup) fate decision place).applied ≡ true → HasEffect request new
effect_so requests.Configure asking setup fate decision place decider old new asks decided effect acts took =
    effect_at configure_brings setup [] fate place.host decision place.decision place old new (ap (λ (s : Setup). reads s) asks) refl refl (λ behind accepted. (decided behind).by.1) effect acts took
effect_so requests.Clear asking setup fate decision place decider old new asks decided effect acts took =
    effect_at clear_brings setup [] fate place.host decision place.decision place old new (ap (λ (s : Setup). reads s) asks) refl refl
    (λ behind accepted. clear_pends decider old place.decision accepted (decided behind)) effect acts took
effect_so requests.Device asking setup fate decision place decider old new asks decided effect acts took = tt
effect_so requests.Config asking setup fate decision place decider old new asks decided effect acts took = tt
effect_so requests.Report asking setup fate decision place decider old new asks decided effect acts took = tt
effect_so requests.Status asking setup fate decision place decider old new asks decided effect acts took = tt
effect_so requests.GetConfiguration asking setup fate decision place decider old new asks decided effect acts took = tt
effect_so (requests.Idle id time) asking setup fate decision place decider old new asks decided effect acts took = tt
effect_so (requests.GetIdle id) asking setup fate decision place decider old new asks decided effect acts took = tt
effect_so (requests.Protocol boot) asking setup fate decision place decider old new asks decided effect acts took = tt
effect_so requests.GetProtocol asking setup fate decision place decider old new asks decided effect acts took = tt
effect_so (requests.GetReport kind id) asking setup fate decision place decider old new asks decided effect acts took = tt
effect_so (requests.SetReport kind id bytes) asking setup fate decision place decider old new asks decided effect acts took = tt
effect_so requests.Halt asking setup fate decision place decider old new asks decided effect acts took = tt
effect_so requests.EndpointStatus asking setup fate decision place decider old new asks decided effect acts took = tt

-- a transfer after a try of it
pub record Tried (trail : Trail) (next : HostPhase) (transfer : Transfer) (old new : DevControlState CoreState) : Type 0 where
  pub goes : Goes old.requests new.requests
  pub carries : FollowsTrail trail next transfer new
  pub effect : trail.place.applied ≡ true → HasEffect transfer.request new.requests

pub carried : (trail : Trail) (fate : Fate) (phase next : HostPhase) (t : Transfer) (ends : HostTransferState)
    (old new : DevControlState CoreState) → length old.requests.descriptor < 2 ^ 16 → FollowsTrail trail phase t old
    → IsRunning t.ends.stage → Transacts (PreparesBy core_table) (AppliesBy core_table) core_table.answer_of fate t.ends old ends new → ends.setup ≡ t.ends.setup
    → (IsRunning ends.stage → next ≡ phase)
    → Tried (trail_after_try fate t old trail) next (record t { ends = ends }) old new
carried trail fate phase next t ends old new short c running transacts same stays =
    let asking : Asking = asking_of old.requests in
    let setup : Setup = t.ends.setup in
    let place : Place = trail.place in
    let encoded : IsEncoded setup = subst IsEncoded (sym c.asked) (encoded_so t.request asking c.fits short (omega arith)) in
    let both = ends_of t old in
    let e = (tries_are core_table fate t.ends old ends new).0 transacts in
    let g = goes_by core_table (sends_of t.request) place fate both encoded running c.stands in
    let decision : Decision = decision_now core_table both in
    let behind : Place = place_after_try (transfer_shape setup) fate decision place in
    let act : Act = act_of (transfer_shape setup) fate decision place in
    let acts : ActsOn setup (sends_of t.request) act old.requests new.requests
    = subst (λ (d : DevControlState CoreState). ActsOn setup (sends_of t.request) act old.requests d.requests) (sym e.1) g.acts in
    let stands : TransferIsAt core_table.answer_of (transfer_shape ends.setup) (sends_of t.request) behind ends new
    = subst (λ (h : HostTransferState). TransferIsAt core_table.answer_of (transfer_shape h.setup)
    (sends_of t.request) behind h new) (sym e.0)
    (subst (λ (d : DevControlState CoreState). TransferIsAt core_table.answer_of
    (transfer_shape (host_tried core_table fate t.ends old).setup) (sends_of t.request) behind
    (host_tried core_table fate t.ends old) d) (sym e.1) g.stands) in
    let goes = acts_go setup (sends_of t.request) act old.requests new.requests acts in
    let apart =
    open_place core_table.answer_of (transfer_shape setup)
    (sends_of t.request) place t.ends old c.stands running in
    let effect : behind.applied ≡ true → HasEffect t.request new.requests
    = λ took. effect_so t.request asking setup fate decision place trail.decider old.requests new.requests c.asked c.decided (c.effect running) acts took in
    record {
      goes = goes;
      carries = record {
        stands = stands;
        asked = same ∙ c.asked ∙ ap (λ (d : List ℕ). setup_for t.request (record { report_length = length d; endpoint = ENDPOINT })) (sym goes.descriptor);
        fits = c.fits;
        needs = λ run. subst (λ (p : HostPhase). may_begin t.request (state_of p) ≡ true) (sym (stays run)) (c.needs running);
        decided = decided_behind t.request asking setup (sends_of t.request) fate decision place.host place trail.decider old.requests new.requests c.fits (of_reports t.request asking refl) c.asked refl acts c.decided;
        effect = λ run took. effect took;
        applied =
            λ done writes. past_applied (transfer_shape setup) fate decision place.host place.decision place
            (ap (λ (s : Setup). reads s) (sym same) ∙ writes) refl apart done.1;
      };
      effect = effect;
    }

-- what is concluded: on an answer, or nothing
concluded_by : (stage : HostStage) (addr : ℕ) (request : Request) (phase next : HostPhase) (bytes : List ℕ) (result : Result Progress StackFault) → ConcludesAt stage addr request phase bytes result next
    → ((stage ≡ stages.Done)
    × ((made : Result HostPhase StackFault) × Concludes addr request phase bytes made
    × (result ≡ conclusion_result made)
    × (next ≡ phase_after_answer phase made)))
    ⊎ ((result ≡ Ok (progress_of stage)) × (next ≡ phase))
concluded_by stages.Done addr request phase next bytes result h = inl (refl, h)
concluded_by stages.Setup addr request phase next bytes result h = inr h
concluded_by (stages.DataIn one) addr request phase next bytes result h = inr h
concluded_by (stages.DataOut sent one) addr request phase next bytes result h = inr h
concluded_by stages.StatusIn addr request phase next bytes result h = inr h
concluded_by stages.StatusOut addr request phase next bytes result h = inr h
concluded_by (stages.Failed fault) addr request phase next bytes result h = inr h

-- an effect that is done
done_by : (request : Request) (asking : Asking) (setup : Setup) (core : CoreState) (applied : Bool) → setup ≡ setup_for request asking → (applied ≡ true → HasEffect request core)
    → ((transfer_shape setup).reads ≡ false → applied ≡ true) → HasEffect request core
done_by requests.Configure asking setup core applied asks effect took = effect (took (ap (λ (s : Setup). reads s) asks))
done_by requests.Device asking setup core applied asks effect took = tt
done_by requests.Config asking setup core applied asks effect took = tt
done_by requests.Report asking setup core applied asks effect took = tt
done_by requests.Status asking setup core applied asks effect took = tt
done_by requests.GetConfiguration asking setup core applied asks effect took = tt
done_by (requests.Idle id time) asking setup core applied asks effect took = tt
done_by (requests.GetIdle id) asking setup core applied asks effect took = tt
done_by (requests.Protocol boot) asking setup core applied asks effect took = tt
done_by requests.GetProtocol asking setup core applied asks effect took = tt
done_by (requests.GetReport kind id) asking setup core applied asks effect took = tt
done_by (requests.SetReport kind id bytes) asking setup core applied asks effect took = tt
done_by requests.Halt asking setup core applied asks effect took = tt
done_by requests.Clear asking setup core applied asks effect took = effect (took (ap (λ (s : Setup). reads s) asks))
done_by requests.EndpointStatus asking setup core applied asks effect took = tt

pub done_effect : (trail : Trail) (fate : Fate) (phase : HostPhase) (t : Transfer) (ends : HostTransferState)
    (old new : DevControlState CoreState) → length old.requests.descriptor < 2 ^ 16 → FollowsTrail trail phase t old
    → IsRunning t.ends.stage → Transacts (PreparesBy core_table) (AppliesBy core_table) core_table.answer_of fate t.ends old ends new → ends.setup ≡ t.ends.setup
    → ends.stage ≡ stages.Done → HasEffect t.request new.requests
done_effect trail fate phase t ends old new short c running transacts same done =
    let tried_so = carried trail fate phase phase t ends old new short c running transacts same (λ run. refl) in
    let place : Place = (trail_after_try fate t old trail).place in
    let d = tried_so.carries in
    let is_done : IsDone place =
    (done_is core_table.answer_of (transfer_shape ends.setup)
    (sends_of t.request) place ends new d.stands).0 done in
    done_by t.request (asking_of new.requests) ends.setup new.requests place.applied d.asked tried_so.effect (d.applied is_done)

-- the bytes of a read that is done
pub got_so : (ends : HostTransferState) (setup : Setup) (decision : Decision) → ends.setup ≡ setup
    → (reads ends.setup ≡ true → ends.bytes ≡ answered_bytes (transfer_shape ends.setup) decision)
    → reads setup ≡ true → read_bytes_of ends ≡ answered_bytes (transfer_shape setup) decision
got_so ends setup decision is got is_read =
    let here : reads ends.setup ≡ true = ap (λ (s : Setup). reads s) is ∙ is_read in
    ap (λ (b : Bool). if b then ends.bytes else []) here ∙ got here
    ∙ ap (λ (s : Setup). answered_bytes (transfer_shape s) decision) is

record Behind (trail : Trail) (host : HostDeviceState) (result : Result Progress StackFault)
    (new : DevControlState CoreState) : Type 0 where
  knows : IsConsistentBy trail host new
  told : IsNoRefusal result

is_told : (p : Progress) (result : Result Progress StackFault) → result ≡ Ok p → IsNoRefusal result
is_told p result is = subst IsNoRefusal (sym is) tt

-- a Clear that still runs is pending
pub clears_on : (stage : HostStage) (request : Request) (clearing : Bool) → IsRunning stage → clearing ≡ true
    → clearing_after stage request clearing ≡ true
clears_on stages.Done request clearing run h = absurd (cc)
clears_on stages.Setup request clearing run h = h
clears_on (stages.DataIn one) request clearing run h = h
clears_on (stages.DataOut sent one) request clearing run h = h
clears_on stages.StatusIn request clearing run h = h
clears_on stages.StatusOut request clearing run h = h
clears_on (stages.Failed fault) request clearing run h = h

once_known : HasOneReading → AcceptsNoRefused
    → (trail : Trail) (fate : Fate) (host after : HostDeviceState) (t : Transfer)
    (old new : DevControlState CoreState) (result : Result Progress StackFault)
    → ParsesTo old.requests.descriptor old.requests.layout → length old.requests.descriptor < 2 ^ 16
    → IsConsistentAt host.phase host.addr old.requests → FollowsTrail trail host.phase t old
    → IsPending host.clearing t
    → IsRunning t.ends.stage
    → TriesOnce (PreparesBy core_table) (AppliesBy core_table) core_table.answer_of fate host t old result after new
    → Behind (trail_after_try fate t old trail) after result new
once_known one apart trail fate host after t old new result lays short knows c pending running tr =
    let behind_it : Trail = trail_after_try fate t old trail in
    let place : Place = behind_it.place in
    let clears : IsPending (clearing_after tr.ends.stage t.request host.clearing) (record t { ends = tr.ends })
    = λ is run. clears_on tr.ends.stage t.request host.clearing run (pending is running) in
    elim (concluded_by tr.ends.stage host.addr t.request host.phase tr.next
    (read_bytes_of tr.ends) result tr.concludes) [
      | inl (done, (made, makes, told, moves)) ↦
          let not_running : IsRunning tr.ends.stage → tr.next ≡ host.phase = λ run. let wrong = subst IsRunning done run in absurd (cc) in
          let tried_so = carried trail fate host.phase tr.next t tr.ends old new short c running tr.transacts tr.same not_running in
          let goes = tried_so.goes in
          let d = tried_so.carries in
          let is_done : IsDone place =
          (done_is core_table.answer_of (transfer_shape tr.ends.setup)
          (sends_of t.request) place tr.ends new d.stands).0 done in
          let behind : IsAfterSetup place.host = subst IsAfterSetup (sym is_done.1) tt in
          let answer =
          answer_is t.request behind_it.decider new.requests place.decision (read_bytes_of tr.ends)
          (d.decided behind)
          (got_so tr.ends (setup_for t.request (asking_of new.requests)) place.decision d.asked
          (λ is_read. read_is core_table.answer_of (transfer_shape tr.ends.setup)
          (sends_of t.request) place tr.ends new d.stands is_done is_read)) in
          let effect = done_effect trail fate host.phase t tr.ends old new short c running tr.transacts tr.same done in
          let lays_on : ParsesTo new.requests.descriptor new.requests.layout =
          subst (λ (x : List ℕ). ParsesTo x new.requests.layout) (sym goes.descriptor)
          (subst (λ l. ParsesTo old.requests.descriptor l) (sym goes.layout) lays) in
          let short_on : length new.requests.descriptor < 2 ^ 16 = subst (λ (x : List ℕ). length x < 2 ^ 16) (sym goes.descriptor) short in
          let l = learned one apart host.addr t.request host.phase new.requests
          (read_bytes_of tr.ends) made lays_on short_on
          (knows_on host.phase host.addr old.requests new.requests goes knows)
          (c.needs running) answer effect makes in
          record {
            knows = subst (λ (h : HostDeviceState). IsConsistentBy behind_it h new) (sym tr.after)
                (record {
                  phase =
                      subst (λ (p : HostPhase). IsConsistentAt p host.addr new.requests) (sym moves) l.knows;
                  transfer =
                      d;
                  clears = clears;
                });
            told = subst IsNoRefusal (sym told) l.told;
          }
      | inr (told, stays) ↦
          let tried_so = carried trail fate host.phase tr.next t tr.ends old new short c running tr.transacts tr.same (λ run. stays) in
          record {
            knows = subst (λ (h : HostDeviceState). IsConsistentBy behind_it h new) (sym tr.after) (record {
              phase = subst (λ (p : HostPhase). IsConsistentAt p host.addr new.requests) (sym stays)
                  (knows_on host.phase host.addr old.requests new.requests tried_so.goes knows);
              transfer = tried_so.carries;
              clears = clears;
            });
            told = is_told (progress_of tr.ends.stage) result told;
          }
    ]

-- the transfer that runs is the one that was begun last
runs_at : (u t : Transfer) (stage : HostStage) → running_at u stage ≡ Some t → (u ≡ t) × IsRunning stage
runs_at u t stages.Done h = absurd (cc)
runs_at u t (stages.Failed fault) h = absurd (cc)
runs_at u t stages.Setup h = (cc, refl)
runs_at u t (stages.DataIn one) h = (cc, refl)
runs_at u t (stages.DataOut sent one) h = (cc, refl)
runs_at u t stages.StatusIn h = (cc, refl)
runs_at u t stages.StatusOut h = (cc, refl)

pub runs_so : (o : Option Transfer) (t : Transfer) → running o ≡ Some t → (o ≡ Some t) × IsRunning t.ends.stage
runs_so None t h = absurd (cc)
runs_so (Some u) t h =
    let r = runs_at u t u.ends.stage h in
    (ap (λ (x : Transfer). Some x) r.0, subst (λ (x : Transfer). IsRunning x.ends.stage) r.0 r.1)

steps_by : HasOneReading → AcceptsNoRefused
    → (trail : Trail) (fate : Fate) (host after : HostDeviceState) (old new : DevControlState CoreState)
    (result : Result Progress StackFault) (o : Option Transfer)
    → ParsesTo old.requests.descriptor old.requests.layout → length old.requests.descriptor < 2 ^ 16
    → IsConsistentBy trail host old → running host.transfer ≡ o
    → (elim o as (λ _. Type 0) [
      | None ↦ (result ≡ Err (Control NoTransfer)) × (after ≡ host) × (new ≡ old)
      | Some t ↦ TriesOnce (PreparesBy core_table) (AppliesBy core_table) core_table.answer_of fate host t old result after new
    ]) → Behind (trail_after fate o old trail) after result new
steps_by one apart trail fate host after old new result None lays short knows is (told, same, stays) = record {
  knows = subst (λ (h : HostDeviceState). IsConsistentBy trail h new) (sym same)
      (subst (λ (c : DevControlState CoreState). IsConsistentBy trail host c) (sym stays) knows);
  told = subst IsNoRefusal (sym told) tt;
}
steps_by one apart trail fate host after old new result (Some t) lays short knows is tr =
    let r = runs_so host.transfer t is in
    once_known one apart trail fate host after t old new result lays short knows.phase
    (subst (λ (o : Option Transfer). IfSome o
    (λ (x : Transfer). FollowsTrail trail host.phase x old)) r.0 knows.transfer)
    (subst (λ (o : Option Transfer). IfSome o (IsPending host.clearing)) r.0 knows.clears) r.1 tr

pub steps_know : HasOneReading → AcceptsNoRefused
    → (trail : Trail) (fate : Fate) (host after : HostDeviceState) (old new : DevControlState CoreState)
    (result : Result Progress StackFault)
    → ParsesTo old.requests.descriptor old.requests.layout → length old.requests.descriptor < 2 ^ 16
    → IsConsistentBy trail host old
    → ControlSteps (PreparesBy core_table) (AppliesBy core_table) core_table.answer_of fate host old result after new
    → IsConsistentBy (trail_after fate (running host.transfer) old trail) after new × IsNoRefusal result
steps_know one apart trail fate host after old new result lays short knows steps =
    let b = steps_by one apart trail fate host after old new result (running host.transfer) lays short knows refl steps in
    (b.knows, b.told)

-- ---- a request that begins

pub may_if : (busy may : Bool) → (if busy then Some (Control Busy) else if may then None else Some NotReady) ≡ None → may ≡ true
may_if true may h = absurd (cc)
may_if false true h = refl
may_if false false h = absurd (cc)

pub begins_know : (trail : Trail) (host : HostDeviceState) (request : Request) (control : DevControlState CoreState)
    → FitsRequest request → begin_refusal host request ≡ None → IsConsistentBy trail host control
    → IsConsistentBy (trail_from control.requests) (host_after_begin host request) control
begins_know trail host request control fits none knows =
    let needs : may_begin request (state_of host.phase) ≡ true = may_if (is_some (running host.transfer)) (may_begin request (state_of host.phase)) none in
    record {
      phase = knows.phase;
      transfer = record {
        stands = begins core_table.answer_of host.addr (setup_for request (asking_at host.phase)) (sends_of request) control (sends_so request (asking_at host.phase));
        asked = asked_with request host.phase host.addr control.requests knows.phase needs;
        fits = fits;
        needs = λ run. needs;
        decided = λ behind. absurd behind;
        effect = λ run took. absurd (cc);
        applied = λ done writes. let wrong = done.1 in absurd (cc);
      };
      clears = λ is run. ap (λ (r : Request). clearing_with r host.clearing) is;
    }

-- ---- what leaves a transfer

leaves_goes : (clearing : Bool) (old new : DevControlState CoreState) → LeavesTransfers clearing old new → Goes old.requests new.requests
leaves_goes clearing old new l = record { layout = l.layout; config = l.config; descriptor = l.descriptor; configured = l.configured }

effect_goes : (request : Request) (clearing : Bool) (old new : DevControlState CoreState) → LeavesTransfers clearing old new → (request ≡ requests.Clear → clearing ≡ true)
    → HasEffect request old.requests → HasEffect request new.requests
effect_goes requests.Configure clearing old new l pending h = l.configured h
effect_goes requests.Clear clearing old new l pending h = l.restarts (pending refl) h
effect_goes requests.Device clearing old new l pending h = tt
effect_goes requests.Config clearing old new l pending h = tt
effect_goes requests.Report clearing old new l pending h = tt
effect_goes requests.Status clearing old new l pending h = tt
effect_goes requests.GetConfiguration clearing old new l pending h = tt
effect_goes (requests.Idle id time) clearing old new l pending h = tt
effect_goes (requests.GetIdle id) clearing old new l pending h = tt
effect_goes (requests.Protocol boot) clearing old new l pending h = tt
effect_goes requests.GetProtocol clearing old new l pending h = tt
effect_goes (requests.GetReport kind id) clearing old new l pending h = tt
effect_goes (requests.SetReport kind id bytes) clearing old new l pending h = tt
effect_goes requests.Halt clearing old new l pending h = tt
effect_goes requests.EndpointStatus clearing old new l pending h = tt

pub carries_on : (trail : Trail) (phase : HostPhase) (clearing : Bool) (old new : DevControlState CoreState)
    (o : Option Transfer) → LeavesTransfers clearing old new → IfSome o (λ t. FollowsTrail trail phase t old)
    → IfSome o (IsPending clearing) → IfSome o (λ t. FollowsTrail trail phase t new)
carries_on trail phase clearing old new None l h pending = tt
carries_on trail phase clearing old new (Some t) l c pending =
    let goes = leaves_goes clearing old new l in
    record {
      stands = kept_is core_table.answer_of (transfer_shape t.ends.setup)
          (sends_of t.request) trail.place t.ends old new c.stands l.answer l.stage;
      asked = c.asked ∙ ap (λ (d : List ℕ). setup_for t.request (record { report_length = length d; endpoint = ENDPOINT })) (sym goes.descriptor);
      fits = c.fits;
      needs = c.needs;
      decided = λ behind. decided_stays t.request trail.decider old.requests new.requests trail.place.decision goes l.pending (c.decided behind);
      effect = λ run took. effect_goes t.request clearing old new l (λ is. pending is run) (c.effect run took);
      applied = c.applied;
    }

pub leaves_know : (trail : Trail) (host : HostDeviceState) (old new : DevControlState CoreState)
    → LeavesTransfers host.clearing old new → IsConsistentBy trail host old → IsConsistentBy trail host new
leaves_know trail host old new l knows = record {
  phase = knows_on host.phase host.addr old.requests new.requests (leaves_goes host.clearing old new l) knows.phase;
  transfer = carries_on trail host.phase host.clearing old new host.transfer l knows.transfer knows.clears;
  clears = knows.clears;
}

-- a change of a control and a frame leave the transfers
pub change_leaves : (clearing : Bool) (control : DevControlState CoreState) (change : Change)
    → LeavesTransfers clearing control (host_with_core control (changed_core control.requests change))
change_leaves clearing control change = record { layout = refl; config = refl; descriptor = refl; configured = λ h. h; answer = refl; pending = refl; stage = refl; restarts = λ is h. record { current = h.current; toggle = h.toggle } }

pub frame_leaves : (clearing : Bool) (control : DevControlState CoreState)
    → LeavesTransfers clearing control (host_with_core control (framed_core control.requests))
frame_leaves clearing control = record { layout = refl; config = refl; descriptor = refl; configured = λ h. h; answer = refl; pending = refl; stage = refl; restarts = λ is h. record { current = h.current; toggle = h.toggle } }

-- ---- at first

pub cold_knows : (trail : Trail) (addr : ℕ) (control : DevControlState CoreState)
    → IsConsistentBy trail (cold_host addr) control
cold_knows trail addr control = record { phase = tt; transfer = tt; clears = tt }

pub ready_knows : (trail : Trail) (addr : ℕ) (control : DevControlState CoreState)
    → control.requests.is_configured ≡ true → IsConsistentBy trail (ready_host addr control.requests.layout) control
ready_knows trail addr control configured = record { phase = (refl, configured, refl, refl); transfer = tt; clears = tt }

-- ---- the answer to a poll

knows_behind : (known : ReadyHostState) (addr : ℕ) (core : CoreState) (took : Took)
    → IsConsistentAt (Ready known) addr core
    → IsConsistentAt (Ready (ready_host_after known took)) addr core
knows_behind known addr core (Fresh payload) h = h
knows_behind known addr core Again h = h
knows_behind known addr core Nak h = h
knows_behind known addr core Stall h = h
knows_behind known addr core Silent h = h

carries_so : (trail : Trail) (phase next : HostPhase) (control : DevControlState CoreState) (o : Option Transfer)
    → state_of next ≡ state_of phase → IfSome o (λ t. FollowsTrail trail phase t control)
    → IfSome o (λ t. FollowsTrail trail next t control)
carries_so trail phase next control None same h = tt
carries_so trail phase next control (Some t) same c = record {
  stands = c.stands;
  asked = c.asked;
  fits = c.fits;
  needs = λ run. ap (may_begin t.request) same ∙ c.needs run;
  decided = c.decided;
  effect = c.effect;
  applied = c.applied;
}

replies_at : (trail : Trail) (phase : HostPhase) (addr : ℕ) (transfer : Option Transfer) (clearing : Bool) (control : DevControlState CoreState) (took : Took)
    → IsConsistentBy trail (record { addr = addr; phase = phase; transfer = transfer; clearing = clearing }) control
    → IfReady phase
    (λ known. IsConsistentBy trail
    (host_after_reply
    (record { addr = addr; phase = phase; transfer = transfer; clearing = clearing }) known took) control)
replies_at trail Cold addr transfer clearing control took knows = tt
replies_at trail (Described info) addr transfer clearing control took knows = tt
replies_at trail (Parsed info layout) addr transfer clearing control took knows = tt
replies_at trail (Ready known) addr transfer clearing control took knows = record {
  phase = knows_behind known addr control.requests took knows.phase;
  transfer =
      carries_so trail (Ready known) (Ready (ready_host_after known took)) control transfer refl knows.transfer;
  clears = knows.clears;
}

pub replies_know : (trail : Trail) (host : HostDeviceState) (control : DevControlState CoreState) (took : Took)
    → IsConsistentBy trail host control
    → IfReady host.phase (λ known. IsConsistentBy trail (host_after_reply host known took) control)
replies_know trail host control took knows = replies_at trail host.phase host.addr host.transfer host.clearing control took knows

-- ---- a sound device

pub short_so : (descriptor : List ℕ) (layout : Contents) → ParsesTo descriptor layout → length descriptor < 2 ^ 16
short_so descriptor layout lays = let short = lays.accepted.reaches.short in omega (arith, short)
