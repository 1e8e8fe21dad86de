-- A control step with a virtual device is a function of both ends, memory aside.
use Rattle.std.proofs.Common.{◌≡◌, ◌⊎◌, inl, inr, ℕ, true, List, length, Option, Some, None, Result, Ok, Err, refl, ap, sym, ◌∙◌, subst}
use Rattle.std.specs.Prelude.{IfSome, ◌<◌, ◌^◌}
use Rattle.hid_report_descriptor.specs.Bus.{HasOneReading, AcceptsNoRefused}
use Rattle.hid_layout.specs.Layout.{Contents}
use Rattle.usb_transact.specs.declared.transaction.Fate.{Fate}
use Rattle.usb_control.specs.declared.descriptors.ConfigInfo.{ConfigInfo}
use Rattle.usb_control.specs.declared.fault.ControlFault.TheVariants.{NoTransfer}
use Rattle.usb_control.specs.declared.host.HostStage.{HostStage}
use Rattle.usb_control.specs.declared.host.HostStage.TheVariants as stages
use Rattle.usb_control.specs.declared.host.Progress.{Progress}
use Rattle.usb_control.specs.TryFunctions.{AppliesBy, PreparesBy}
use Rattle.usb_control.specs.Descriptors.{ReadsConfig}
use Rattle.usb_control.specs.Device.{DevControlState}
use Rattle.usb_control.specs.Host.{HostTransferState, IsRunning, progress_of}
use Rattle.usb_control.specs.Runs.{IsDone}
use Rattle.usb_control.specs.Transfer.{Place, transfer_shape}
use Rattle.usb_control.proofs.TryFunctionLemmas.{tries_are}
use Rattle.usb_control.proofs.LawLemmas.{done_is, read_is}
use Rattle.hid_requests.specs.declared.request.Request.{Request}
use Rattle.hid_requests.specs.declared.request.Request.TheVariants as requests
use Rattle.hid_requests.specs.RequestSetup.{sends_of, setup_for}
use Rattle.hid_requests.proofs.DescriptorLemmas.{configuration_read}
use Rattle.hid_requests.specs.declared.codes.TheConstants.{REPORT_ENDPOINT as ENDPOINT}
use Rattle.hid_device.specs.Core.{CoreState}
use Rattle.hid_device.specs.RequestTable.{core_table, device_info}
use Rattle.hid_layout.specs.Parsing.{ParsesTo}
use Rattle.hid_host.specs.declared.fault.StackFault.{StackFault}
use Rattle.hid_host.specs.declared.fault.StackFault.TheVariants.{Control, Memory}
use Rattle.hid_host.specs.declared.host.Transfer.{Transfer}
use Rattle.hid_host.specs.declared.phase.HostPhase.{HostPhase}
use Rattle.hid_host.specs.declared.phase.HostPhase.TheVariants.{Cold, Described, Parsed, Ready}
use Rattle.hid_stack.specs.ControlSteps.{StepsAsFunction, TakesMemory, core_after_try, phase_after, phase_after_try, transfer_after_try, with_answer_of}
use Rattle.hid_host.specs.Conclusions.{Concludes, Configured, phase_after_answer, phase_or_fault}
use Rattle.hid_host.specs.Host.{ConcludesAt, ControlSteps, HostDeviceState, TriesOnce, clearing_after, conclusion_result, read_bytes_of, running}
use Rattle.hid_stack.specs.HostInvariant.{FollowsTrail, HasEffect, IsAfterSetup, IsConsistent, IsConsistentAt, StartsAtData0, asking_of, phase_info}
use Rattle.hid_stack.specs.Trails.{Trail, trail_after_try}
use Rattle.hid_host.specs.Phase.{may_begin, state_of}
use Rattle.hid_host.specs.Ready.{ready_host_at_start}
use Rattle.hid_stack.proofs.HostLemmas.{IsAnswer, config_is, device_is, fits_info, report_is}
use Rattle.hid_stack.proofs.LawLemmas.{answer_is, carried, done_effect, got_so, knows_on, runs_so}
use Rattle.hid_stack.proofs.RoundLemmas.{cleared_by, cut_by, parsed_by, tried_rounds}

-- what is made of an answer: the phase to which its request leads, or nothing for lack of memory
abbrev MadeBy : Request → ℕ → CoreState → HostPhase → Result HostPhase StackFault → Type 0
MadeBy request addr core phase made =
    (made ≡ Ok (phase_after request addr core phase)) ⊎ ((made ≡ Err Memory) × TakesMemory request)

report_made : HasOneReading → AcceptsNoRefused
    → (addr : ℕ) (info : ConfigInfo) (core : CoreState) (bytes : List ℕ) (made : Result HostPhase StackFault)
    → ParsesTo core.descriptor core.layout
    → info ≡ phase_info core → bytes ≡ core.descriptor → Concludes addr requests.Report (Described info) bytes made
    → MadeBy requests.Report addr core (Described info) made
report_made one apart addr info core bytes made lays knows is (read, h, leads) =
    elim (report_is one apart info bytes core.layout read
    (subst (λ (b : List ℕ). ParsesTo b core.layout) (sym is) lays)
    (ap (λ (b : List ℕ). length b) is ∙ ap (λ (i : ConfigInfo). i.report_length) (sym knows)) h) [
      | inl ok ↦
          inl (leads ∙ ap (phase_or_fault (Parsed info)) ok
          ∙ ap (λ (i : ConfigInfo). Ok (Parsed i core.layout)) knows)
      | inr none ↦ inr (leads ∙ ap (phase_or_fault (Parsed info)) none, tt)
    ]

configured_made : (addr : ℕ) (info : ConfigInfo) (layout : Contents) (core : CoreState)
    (made : Result HostPhase StackFault) → info ≡ phase_info core → layout ≡ core.layout
    → Configured addr info layout made
    → MadeBy requests.Configure addr core (Parsed info layout) made
configured_made addr info layout core (Ok next) says laid is =
    inl (ap (λ (p : HostPhase). Ok p) is
    ∙ ap (λ (i : ConfigInfo). Ok (Ready (ready_host_at_start addr i.endpoint layout))) says
    ∙ ap (λ (l : Contents). Ok (Ready (ready_host_at_start addr ENDPOINT l))) laid)
configured_made addr info layout core (Err fault) says laid is = inr (ap (λ (f : StackFault). Err f) is, tt)

made_is : HasOneReading → AcceptsNoRefused → (addr : ℕ) (request : Request) (phase : HostPhase) (core : CoreState) (bytes : List ℕ) (made : Result HostPhase StackFault)
    → ParsesTo core.descriptor core.layout → length core.descriptor < 2 ^ 16 → IsConsistentAt phase addr core
    → may_begin request (state_of phase) ≡ true → IsAnswer request core bytes
    → Concludes addr request phase bytes made → MadeBy request addr core phase made
made_is one apart addr requests.Device phase core bytes made lays short knows needs answer (read, h, is) =
    inl (is ∙ ap (phase_or_fault (λ _. phase)) (device_is bytes (device_info core.config) read answer h))
made_is one apart addr requests.Config phase core bytes made lays short knows needs answer (read, h, is) =
    let reads : ReadsConfig bytes (Ok (phase_info core)) =
    subst (λ (b : List ℕ). ReadsConfig b (Ok (phase_info core))) (sym answer)
    (configuration_read (phase_info core) core.config.interval (fits_info core short)) in
    inl (is ∙ ap (phase_or_fault Described) (config_is bytes (phase_info core) read reads h))
made_is one apart addr requests.Report (Described info) core bytes made lays short knows needs answer makes = report_made one apart addr info core bytes made lays knows answer makes
made_is one apart addr requests.Report Cold core bytes made lays short knows needs answer is = absurd (cc)
made_is one apart addr requests.Report (Parsed info layout) core bytes made lays short knows needs answer is = absurd (cc)
made_is one apart addr requests.Report (Ready known) core bytes made lays short knows needs answer is = absurd (cc)
made_is one apart addr requests.Configure (Parsed info layout) core bytes made lays short knows needs answer is = configured_made addr info layout core made knows.0 knows.1 is
made_is one apart addr requests.Configure Cold core bytes made lays short knows needs answer is = absurd (cc)
made_is one apart addr requests.Configure (Described info) core bytes made lays short knows needs answer is = absurd (cc)
made_is one apart addr requests.Configure (Ready known) core bytes made lays short knows needs answer is = absurd (cc)
made_is one apart addr requests.Status phase core bytes made lays short knows needs answer is = inl is
made_is one apart addr requests.GetConfiguration phase core bytes made lays short knows needs answer is = inl is
made_is one apart addr (requests.Idle id time) phase core bytes made lays short knows needs answer is = inl is
made_is one apart addr (requests.GetIdle id) phase core bytes made lays short knows needs answer is = inl is
made_is one apart addr (requests.Protocol boot) phase core bytes made lays short knows needs answer is = inl is
made_is one apart addr requests.GetProtocol phase core bytes made lays short knows needs answer is = inl is
made_is one apart addr (requests.GetReport kind id) phase core bytes made lays short knows needs answer is = inl is
made_is one apart addr (requests.SetReport kind id set) phase core bytes made lays short knows needs answer is = inl is
made_is one apart addr requests.Halt phase core bytes made lays short knows needs answer is = inl is
made_is one apart addr requests.Clear phase core bytes made lays short knows needs answer is = inl is
made_is one apart addr requests.EndpointStatus phase core bytes made lays short knows needs answer is = inl is

-- what is concluded: on an answer, or nothing, and then the phase stays
concluded_so : (stage : HostStage) (addr : ℕ) (request : Request) (phase next : HostPhase) (bytes : List ℕ) (result : Result Progress StackFault) → ConcludesAt stage addr request phase bytes result next
    → ((stage ≡ stages.Done)
    × ((made : Result HostPhase StackFault) × Concludes addr request phase bytes made
    × (result ≡ conclusion_result made)
    × (next ≡ phase_after_answer phase made)))
    ⊎ ((result ≡ Ok (progress_of stage)) × (next ≡ phase)
    × ((core : CoreState) → phase_after_try stage request addr core phase ≡ phase))
concluded_so stages.Done addr request phase next bytes result h = inl (refl, h)
concluded_so stages.Setup addr request phase next bytes result h = inr (h.0, h.1, λ core. refl)
concluded_so (stages.DataIn one) addr request phase next bytes result h = inr (h.0, h.1, λ core. refl)
concluded_so (stages.DataOut sent one) addr request phase next bytes result h = inr (h.0, h.1, λ core. refl)
concluded_so stages.StatusIn addr request phase next bytes result h = inr (h.0, h.1, λ core. refl)
concluded_so stages.StatusOut addr request phase next bytes result h = inr (h.0, h.1, λ core. refl)
concluded_so (stages.Failed fault) addr request phase next bytes result h = inr (h.0, h.1, λ core. refl)

-- the host after it
leads_on : (host : HostDeviceState) (t : Transfer) (ends other : HostTransferState) (next phase : HostPhase)
    → ends ≡ other → next ≡ phase
    → (let behind : HostPhase → HostTransferState → HostDeviceState
    = λ p e. record host {
      phase = p;
      transfer = Some (record t { ends = e });
      clearing =
          clearing_after e.stage t.request host.clearing;
    } in
    behind next ends ≡ behind phase other)
leads_on host t ends other next phase same moves =
    let behind : HostPhase → HostTransferState → HostDeviceState
    = λ p e. record host {
      phase = p;
      transfer = Some (record t { ends = e });
      clearing =
          clearing_after e.stage t.request host.clearing;
    } in
    ap (λ (p : HostPhase). behind p ends) moves ∙ ap (behind phase) same

once_computed : HasOneReading → AcceptsNoRefused
    → (trail : Trail) (fate : Fate) (host after : HostDeviceState) (t : Transfer)
    (old new : DevControlState CoreState) (result : Result Progress StackFault)
    → ParsesTo old.requests.descriptor old.requests.layout → length old.requests.descriptor < 2 ^ 16
    → IsConsistentAt host.phase host.addr old.requests → FollowsTrail trail host.phase t old → IsRunning t.ends.stage
    → TriesOnce (PreparesBy core_table) (AppliesBy core_table) core_table.answer_of fate host t old result after new
    → StepsAsFunction fate host t old result after new
once_computed one apart trail fate host after t old new result lays short knows c running tr =
    let e = (tries_are core_table fate t.ends old tr.ends new).0 tr.transacts in
    let ends : HostTransferState = transfer_after_try fate t old in
    let cleared : t.request ≡ requests.Clear → ends.stage ≡ stages.Done → StartsAtData0 new.requests
    = λ is finished. subst (λ (r : Request). HasEffect r new.requests) is
    (done_effect trail fate host.phase t tr.ends old new short c running tr.transacts tr.same (ap (λ (x : HostTransferState). x.stage) e.0 ∙ finished)) in
    let brings =
    subst (λ (d : DevControlState CoreState). d.requests
    ≡ with_answer_of (core_after_try fate t.ends old) d.requests) (sym e.1) (tried_rounds fate t.ends old) in
    elim (concluded_so tr.ends.stage host.addr t.request host.phase tr.next
    (read_bytes_of tr.ends) result tr.concludes) [
      | inl (done, (made, makes, told, moves)) ↦
          let not_running : IsRunning tr.ends.stage → tr.next ≡ host.phase = λ run. let wrong = subst IsRunning done run in absurd (cc) in
          let tried_so = carried trail fate host.phase tr.next t tr.ends old new short c running tr.transacts tr.same not_running in
          let behind_it : Trail = trail_after_try fate t old trail in
          let place : Place = behind_it.place in
          let goes = tried_so.goes in
          let d = tried_so.carries in
          let is_done : IsDone place =
          (done_is core_table.answer_of (transfer_shape tr.ends.setup)
          (sends_of t.request) place tr.ends new d.stands).0 done in
          let behind : IsAfterSetup place.host = subst IsAfterSetup (sym is_done.1) tt in
          let answer =
          answer_is t.request behind_it.decider new.requests place.decision (read_bytes_of tr.ends)
          (d.decided behind)
          (got_so tr.ends (setup_for t.request (asking_of new.requests)) place.decision d.asked
          (λ is_read. read_is core_table.answer_of (transfer_shape tr.ends.setup)
          (sends_of t.request) place tr.ends new d.stands is_done is_read)) in
          let lays_on : ParsesTo new.requests.descriptor new.requests.layout =
          subst (λ (x : List ℕ). ParsesTo x new.requests.layout) (sym goes.descriptor)
          (subst (λ l. ParsesTo old.requests.descriptor l) (sym goes.layout) lays) in
          let short_on : length new.requests.descriptor < 2 ^ 16 = subst (λ (x : List ℕ). length x < 2 ^ 16) (sym goes.descriptor) short in
          let stage : ends.stage ≡ stages.Done = ap (λ (x : HostTransferState). x.stage) (sym e.0) ∙ done in
          record {
            device_then = e.1;
            host_then =
                elim (made_is one apart host.addr t.request host.phase new.requests
                (read_bytes_of tr.ends) made lays_on short_on
                (knows_on host.phase host.addr old.requests new.requests goes knows) (c.needs running) answer makes) [
                  | inl ok ↦ inl (
                    told ∙ ap conclusion_result ok ∙ ap (λ (s : HostStage). Ok (progress_of s)) (sym stage),
                    tr.after ∙ leads_on host t tr.ends ends tr.next _ e.0
                        (moves ∙ ap (phase_after_answer host.phase) ok
                        ∙ ap (λ (s : HostStage). phase_after_try s t.request host.addr new.requests host.phase)
                        (sym stage)),
                  )
                  | inr (none, takes) ↦
                      inr (
                        told ∙ ap conclusion_result none,
                        stage,
                        takes,
                        tr.after
                            ∙ leads_on host t tr.ends ends tr.next host.phase e.0
                            (moves ∙ ap (phase_after_answer host.phase) none),
                      )
                ];
            needs = c.needs running;
            brings = brings;
            parsed = λ h. parsed_by trail fate host.phase t old c running h;
            aborted = λ h. cut_by trail fate host.phase t old c running h;
            clears = λ h. cleared_by trail fate host.phase t old c running h;
            cleared = cleared;
          }
      | inr (told, stays, leads) ↦ record {
        device_then = e.1;
        host_then = inl (
          told ∙ ap (λ (x : HostTransferState). Ok (progress_of x.stage)) e.0,
          tr.after ∙ leads_on host t tr.ends ends tr.next _ e.0
              (stays ∙ sym (leads new.requests)
              ∙ ap (λ (x : HostTransferState). phase_after_try x.stage t.request host.addr new.requests host.phase) e.0),
        );
        needs = c.needs running;
        brings = brings;
        parsed = λ h. parsed_by trail fate host.phase t old c running h;
        aborted = λ h. cut_by trail fate host.phase t old c running h;
        clears = λ h. cleared_by trail fate host.phase t old c running h;
        cleared = cleared;
      }
    ]

pub steps_computed : HasOneReading → AcceptsNoRefused
    → (fate : Fate) (host after : HostDeviceState) (t : Transfer) (old new : DevControlState CoreState)
    (result : Result Progress StackFault)
    → ParsesTo old.requests.descriptor old.requests.layout → length old.requests.descriptor < 2 ^ 16
    → IsConsistent host old → running host.transfer ≡ Some t
    → ControlSteps (PreparesBy core_table) (AppliesBy core_table) core_table.answer_of fate host old result after new
    → StepsAsFunction fate host t old result after new
steps_computed one apart fate host after t old new result lays short knows is steps =
    let r = runs_so host.transfer t is in
    let tries : TriesOnce (PreparesBy core_table) (AppliesBy core_table) core_table.answer_of fate host t old result after new
    = subst (λ (o : Option Transfer). elim o as (λ _. Type 0) [
      | None ↦ (result ≡ Err (Control NoTransfer)) × (after ≡ host) × (new ≡ old)
      | Some x ↦ TriesOnce (PreparesBy core_table) (AppliesBy core_table) core_table.answer_of fate host x old result after new
    ]) is steps in
    once_computed one apart knows.trail fate host after t old new result lays short knows.by.phase
    (subst (λ (o : Option Transfer). IfSome o
    (λ (x : Transfer). FollowsTrail knows.trail host.phase x old)) r.0 knows.by.transfer) r.1 tries
