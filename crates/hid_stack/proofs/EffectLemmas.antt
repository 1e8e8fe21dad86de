-- Where a write takes effect at a device, it is the effect of its request.
use Rattle.std.proofs.Common.{◌≡◌, ◌∙◌, ℕ, Bool, true, false, ◌&&◌, List, [], ◌∷◌, Option, Some, None, refl, ap, sym, subst, inl, inr}
use Rattle.std.specs.Prelude.{if◌then◌else◌, length, not, ◌==◌}
use Rattle.std.specs.Option.{option_map}
use Rattle.std.proofs.lemmas.Bool.{cases_Bool}
use Rattle.hid_report_descriptor.specs.declared.report.ReportKind.TheVariants.{Input}
use Rattle.hid_layout.specs.Controls.{items_of}
use Rattle.usb_transact.specs.declared.transaction.Fate.{Fate}
use Rattle.usb_transact.specs.declared.transaction.Fate.TheVariants.{Clean, TokenLost, ReplyLost, AckLost}
use Rattle.usb_control.specs.declared.setup.Setup.{Setup as Setup'}
use Rattle.usb_control.specs.TryFunctions.{control_tried, effect_reached, is_applied, takes_effect}
use Rattle.usb_control.specs.Device.{Answers, Applies, Decides as Decides', DevControlState, Effect}
use Rattle.usb_control.specs.Host.{HostTransferState}
use Rattle.usb_control.specs.Interleaving.{GoesBy, act_now, decision_now, is_effect, is_running}
use Rattle.usb_control.specs.SetupBytes.{reads}
use Rattle.usb_control.specs.Transfer.{Act, Decides, Nothing, TakesEffect, Accepted, Refused, Decision, Piece, Position, Past, Setup, Shape, Status, act_at, transfer_shape}
use Rattle.usb_control.proofs.InterleavingLemmas.{goes_by, is_running_runs}
use Rattle.hid_requests.specs.declared.request.Asking.{Asking}
use Rattle.hid_requests.specs.declared.request.Request.{Request}
use Rattle.hid_requests.specs.declared.request.Request.TheVariants as requests
use Rattle.hid_requests.specs.RequestSetup.{protocol_of, row_of, sends_of, setup_for}
use Rattle.hid_requests.specs.Boot.{is_boot}
use Rattle.hid_bus.specs.DeviceHistory.{BusEvent}
use Rattle.hid_device.specs.declared.decisions.PendingWrite.{PendingWrite}
use Rattle.hid_device.specs.declared.decisions.PendingWrite.TheVariants as pendings
use Rattle.hid_device.specs.Core.{CoreState}
use Rattle.hid_device.specs.RequestDecisions.{Reads, Refuses, RequestDecision, Writes, writes_if}
use Rattle.hid_device.specs.RequestTable.{core_after_write, core_table, row_decision, sets_idle_of, sets_report}
use Rattle.hid_device.specs.Outputs.{kept_place, report_number_of}
use Rattle.hid_host.specs.declared.host.Transfer.{Transfer}
use Rattle.hid_host.specs.declared.phase.HostState.{HostState}
use Rattle.hid_stack.specs.HostInvariant.{IsDecidedBy, asking_of}
use Rattle.hid_stack.specs.Members.{Member, MemberStep, Scheduled, Begins, Controls, Halts, Resets, state_after_event_if, try_bus_event_of, control_of_member, core_of_member, effect_bus_event, member_after, piece_open, try_bus_event, member_after_try, member_after_try_in, write_bus_event}
use Rattle.hid_stack.specs.Trails.{Trail, trail_after}
use Rattle.hid_stack.specs.Transfers.{BeginsNone, HasEffects, TookEffect, ends_at, takes_effect_at}
use Rattle.hid_stack.proofs.CountLemmas.{Stood, decided_now, halted_transfer, runs_as, stood_halted, stood_scheduled, stood_tried, trail_on, tried_transfer}
use Rattle.hid_stack.proofs.HostInvariantLemmas.{ActsOn, IsAccepted}

-- ---- the row of a write

-- no read is decided on
abbrev IsNoRead : RequestDecision → Type 0
IsNoRead (Reads bytes) = ⊥
IsNoRead _ = Unit {0}

if_writes : (b : Bool) (pending : PendingWrite) → IsNoRead (writes_if b pending)
if_writes true pending = tt
if_writes false pending = tt

keeps_writes : (core : CoreState) (len : ℕ) (place : Option ℕ) → IsNoRead (sets_report core len place)
keeps_writes core len None = tt
keeps_writes core len (Some i) = if_writes _ (pendings.Keep i)

idle_writes : (time : ℕ) (report : Option ℕ) → IsNoRead (sets_idle_of time report)
idle_writes time None = tt
idle_writes time (Some r) = tt

idles_write : (b : Bool) (time : ℕ) (report : Option ℕ) → IsNoRead (if b then Writes (pendings.Idle None time) else sets_idle_of time report)
idles_write true time report = tt
idles_write false time report = idle_writes time report

writes_only : (request : Request) (asking : Asking) (core : CoreState) → reads (setup_for request asking) ≡ false
    → IsNoRead (row_decision core (row_of request))
writes_only requests.Configure asking core writes = tt
writes_only (requests.Idle id time) asking core writes =
    idles_write (id == 0) time (report_number_of core.layout.reports Input id)
writes_only (requests.Protocol boot) asking core writes = if_writes (is_boot core.config.boot && not core.is_configured) (pendings.Protocol (protocol_of boot))
writes_only (requests.SetReport kind id set) asking core writes = keeps_writes core (length set.items) (kept_place core.layout.reports kind id)
writes_only requests.Halt asking core writes = if_writes core.is_configured pendings.Halt
writes_only requests.Clear asking core writes = if_writes core.is_configured pendings.Clear
writes_only requests.Device asking core writes = absurd (cc)
writes_only requests.Config asking core writes = absurd (cc)
writes_only requests.Report asking core writes = absurd (cc)
writes_only requests.Status asking core writes = absurd (cc)
writes_only requests.GetConfiguration asking core writes = absurd (cc)
writes_only (requests.GetIdle id) asking core writes = absurd (cc)
writes_only requests.GetProtocol asking core writes = absurd (cc)
writes_only (requests.GetReport kind id) asking core writes = absurd (cc)
writes_only requests.EndpointStatus asking core writes = absurd (cc)

-- what is pending after the SETUP of an accepted write is what its row says
says_so : (d : RequestDecision) (decision : Decision) (pending : PendingWrite) → IsNoRead d → IsAccepted decision
    → IsDecidedBy d decision pending → d ≡ Writes pending
says_so (Reads bytes) decision pending none accepted h = absurd none
says_so Refuses decision pending none accepted h = absurd (subst IsAccepted h.0 accepted)
says_so (Writes effect) decision pending none accepted h = ap (λ (p : PendingWrite). Writes p) (sym h.1)

-- ---- the act of a try in which a write takes effect

status_writes : (reads applied : Bool) → is_effect (if reads then Nothing else TakesEffect) ≡ true → reads ≡ false
status_writes true applied h = absurd (cc)
status_writes false applied h = refl

-- it is an accepted write
effect_writes : (p : Position) (shape : Shape) (fate : Fate) (d held : Decision) (applied : Bool) → is_effect (act_at p shape fate d held applied) ≡ true → (shape.reads ≡ false) × IsAccepted held
effect_writes p shape TokenLost d held applied h = absurd (cc)
effect_writes Setup shape Clean d held applied h = absurd (cc)
effect_writes Setup shape ReplyLost d held applied h = absurd (cc)
effect_writes Setup shape AckLost d held applied h = absurd (cc)
effect_writes (Piece k) shape Clean d held applied h = absurd (cc)
effect_writes (Piece k) shape ReplyLost d held applied h = absurd (cc)
effect_writes (Piece k) shape AckLost d held applied h = absurd (cc)
effect_writes Past shape Clean d held applied h = absurd (cc)
effect_writes Past shape ReplyLost d held applied h = absurd (cc)
effect_writes Past shape AckLost d held applied h = absurd (cc)
effect_writes Status shape Clean d Refused applied h = absurd (cc)
effect_writes Status shape ReplyLost d Refused applied h = absurd (cc)
effect_writes Status shape AckLost d Refused applied h = absurd (cc)
effect_writes Status shape Clean d (Accepted answer) true h = absurd (cc)
effect_writes Status shape ReplyLost d (Accepted answer) true h = absurd (cc)
effect_writes Status shape AckLost d (Accepted answer) true h = absurd (cc)
effect_writes Status shape Clean d (Accepted answer) false h = (status_writes shape.reads false h, tt)
effect_writes Status shape ReplyLost d (Accepted answer) false h = (status_writes shape.reads false h, tt)
effect_writes Status shape AckLost d (Accepted answer) false h = (status_writes shape.reads false h, tt)

acts_take : (setup : Setup') (bytes : List ℕ) (act : Act) (old new : CoreState) → is_effect act ≡ true
    → ActsOn setup bytes act old new → new ≡ core_after_write old bytes old.pending
acts_take setup bytes Nothing old new takes acts = absurd (cc)
acts_take setup bytes (Decides decision) old new takes acts = absurd (cc)
acts_take setup bytes TakesEffect old new takes acts = acts

-- ---- the device after it

-- the inside of a member, where its endpoint 0 has this inside and this befell it
abbrev behind_bus_event : Member → CoreState → Option BusEvent → CoreState
behind_bus_event m core bus_event =
    let s = state_after_event_if (items_of m.layout) m.link bus_event in
    record {
      layout = m.layout;
      config = m.config;
      descriptor = m.descriptor;
      is_configured = core.is_configured;
      reports = s.reports;
      current = option_map (λ round. round.report) s.current;
      piece = piece_open s.current;
      toggle = s.toggle;
      protocol = core.protocol;
      outputs = core.outputs;
      answer = core.answer;
      pending = core.pending;
      halted = s.halted;
    }

-- what is written happens to the device
written_so : (m : Member) (bytes : List ℕ) (pending : PendingWrite)
    → behind_bus_event m (core_after_write (core_of_member m) bytes pending)
    (write_bus_event (core_of_member m) pending)
    ≡ core_after_write (core_of_member m) bytes pending
written_so m bytes pendings.Nothing = refl
written_so m bytes pendings.Configure = refl
written_so m bytes (pendings.Keep i) = refl
written_so m bytes (pendings.Idle report time) = refl
written_so m bytes (pendings.Protocol protocol) = refl
written_so m bytes pendings.Halt = refl
written_so m bytes pendings.Clear = refl

applied_bus_event : (e : Effect) (core : CoreState) → is_applied e ≡ true
    → effect_bus_event e core ≡ write_bus_event core core.pending
applied_bus_event (Answers answer stage last_packet) core h = absurd (cc)
applied_bus_event (Decides' bytes) core h = absurd (cc)
applied_bus_event (Applies bytes) core h = refl

bus_event_so : (fate : Fate) (ends : HostTransferState) (control : DevControlState CoreState)
    → takes_effect core_table fate ends control ≡ true
    → try_bus_event_of fate ends control ≡ write_bus_event control.requests control.requests.pending
bus_event_so TokenLost ends control h = absurd (cc)
bus_event_so Clean ends control h = applied_bus_event (effect_reached core_table ends control) control.requests h
bus_event_so ReplyLost ends control h = applied_bus_event (effect_reached core_table ends control) control.requests h
bus_event_so AckLost ends control h = applied_bus_event (effect_reached core_table ends control) control.requests h

-- ---- a try in which a write takes effect

took_so : (fate : Fate) (m : Member) (t : Transfer) (trail : Trail) (host : HostState) → Stood m t trail → GoesBy core_table (sends_of t.request) trail.place fate (ends_at m t)
    → takes_effect core_table fate t.ends (control_of_member m) ≡ true
    → TookEffect t.request trail.decider (core_of_member m) (core_of_member (member_after_try_in fate m t host))
took_so fate m t trail host s g takes =
    let core : CoreState = core_of_member m in
    let sends : List ℕ = sends_of t.request in
    let act : Act = act_now core_table trail.place fate (ends_at m t) in
    let acts : is_effect act ≡ true = sym g.takes ∙ takes in
    let says = decided_now fate m t trail s g takes in
    let writes =
    effect_writes trail.place.host (transfer_shape t.ends.setup) fate
    (decision_now core_table (ends_at m t)) trail.place.decision trail.place.applied acts in
    let write : reads (setup_for t.request (asking_of core)) ≡ false = sym (ap (λ (x : Setup'). reads x) s.asked) ∙ writes.0 in
    let new : CoreState = (control_tried core_table fate t.ends (control_of_member m)).requests in
    let does : new ≡ core_after_write core sends core.pending =
    acts_take t.ends.setup sends act core new acts g.acts in
    record {
      effect = core.pending;
      says = says_so (row_decision trail.decider (row_of t.request)) trail.place.decision core.pending
          (writes_only t.request (asking_of core) trail.decider write) writes.1 says.by;
      does = ap (λ (c : CoreState). behind_bus_event m c (try_bus_event fate m (Some t))) does
          ∙ ap (λ (o : Option BusEvent). behind_bus_event m (core_after_write core sends core.pending) o)
          (bus_event_so fate t.ends (control_of_member m) takes)
          ∙ written_so m sends core.pending;
    }

-- ---- whole lists

-- the effects of a try and the steps after it, of a transfer that runs or not
abbrev HasEffectsFrom : Request → Trail → Fate → List MemberStep → Member → Option Transfer → Type 0
HasEffectsFrom request trail fate steps m runs =
    (takes_effect_at fate m runs ≡ true
    → TookEffect request trail.decider (core_of_member m) (core_of_member (member_after_try fate m runs)))
    × HasEffects request (trail_after fate runs (control_of_member m) trail) (member_after_try fate m runs) steps

pub has_effects : (steps : List MemberStep) (m : Member) (t : Transfer) (trail : Trail) → m.transfer ≡ Some t → BeginsNone steps → Stood m t trail → HasEffects t.request trail m steps
has_effects [] m t trail has none s = tt
has_effects (Scheduled x ∷ steps) m t trail has none s = has_effects steps (member_after m (Scheduled x)) t trail has none (stood_scheduled x m t trail s)
has_effects (Begins request ∷ steps) m t trail has none s = absurd none
has_effects (Halts ∷ steps) m t trail has none s =
    has_effects steps (member_after m Halts) t trail (halted_transfer m.endpoint.is_configured m ∙ has) none (stood_halted m.endpoint.is_configured m t trail s)
has_effects (Resets ∷ steps) m t trail has none s = absurd none
has_effects (Controls fate ∷ steps) m t trail has none s = elim (cases_Bool (is_running t.ends.stage)) [
  | inl runs ↦
      let g = goes_by core_table (sends_of t.request) trail.place fate (ends_at m t) s.encoded (is_running_runs t.ends.stage runs) s.stands in
      let k = member_after_try fate m (Some t) in
      subst (λ (o : Option Transfer). HasEffectsFrom t.request trail fate steps m o) (sym (runs_as m t has ∙ ap (λ (b : Bool). if b then Some t else None) runs))
      (took_so fate m t trail k.host s g, has_effects steps k (tried_transfer fate m t) (trail_on fate m t trail) refl none (stood_tried fate m t trail k.host s g))
  | inr over ↦
      subst (λ (o : Option Transfer). HasEffectsFrom t.request trail fate steps m o) (sym (runs_as m t has ∙ ap (λ (b : Bool). if b then Some t else None) over))
      (λ takes. absurd (cc), has_effects steps m t trail has none s)
]
