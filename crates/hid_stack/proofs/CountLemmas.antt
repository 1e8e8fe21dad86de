-- A write takes effect at a device as often as the tries of its request say, whatever comes between them.
use Rattle.std.proofs.Common.{◌≡◌, ◌∙◌, ℕ, suc, ◌+◌, Bool, true, false, ◌&&◌, List, [], ◌∷◌, ◌++◌, Option, Some, None, refl, ap, sym, subst, inl, inr, arith}
use Rattle.std.specs.Prelude.{if◌then◌else◌}
use Rattle.std.specs.List.{cons_option}
use Rattle.std.proofs.lemmas.Bool.{cases_Bool}
use Rattle.usb_transact.specs.declared.transaction.Fate.{Fate}
use Rattle.usb_transact.specs.declared.transaction.Fate.TheVariants.{Clean, TokenLost, ReplyLost, AckLost}
use Rattle.usb_control.specs.declared.host.HostStage.{HostStage}
use Rattle.usb_control.specs.declared.host.HostStage.TheVariants as stages
use Rattle.usb_control.specs.TryFunctions.{control_tried, effect_reached, is_applied, takes_effect}
use Rattle.usb_control.specs.Device.{Answers, Applies, Decides as Decides', DevControlState, Effect}
use Rattle.usb_control.specs.Host.{HostTransferState}
use Rattle.usb_control.specs.Interleaving.{EndsAreAt, GoesBy, act_now, decision_now, is_effect, is_running}
use Rattle.usb_control.specs.Runs.{acts, effects, is_open}
use Rattle.usb_control.specs.SetupBytes.{IsEncoded}
use Rattle.usb_control.specs.Transfer.{Act, Decides, Nothing, TakesEffect, Decision, Place, Piece, Position, Past, Setup, Shape, Status, act_at, act_of, transfer_shape, place_after_try}
use Rattle.usb_control.proofs.LawLemmas.{kept_is}
use Rattle.usb_control.proofs.InterleavingLemmas.{goes_by, is_running_runs, runs_so}
use Rattle.hid_requests.specs.declared.request.Asking.{Asking}
use Rattle.hid_requests.specs.declared.request.Request.{Request}
use Rattle.hid_bus.specs.DeviceHistory.{BusEvent}
use Rattle.hid_bus.specs.Rounds.{OwnStep, Changes, Frame, Polls}
use Rattle.hid_device.specs.declared.decisions.PendingWrite.{PendingWrite}
use Rattle.hid_device.specs.declared.decisions.PendingWrite.TheVariants as pendings
use Rattle.hid_device.specs.Core.{CoreState}
use Rattle.hid_device.specs.RequestTable.{core_table}
use Rattle.hid_host.specs.declared.host.Transfer.{Transfer}
use Rattle.hid_host.specs.declared.phase.HostState.{HostState}
use Rattle.hid_requests.specs.RequestSetup.{FitsRequest, sends_of}
use Rattle.hid_stack.specs.ControlSteps.{is_configure}
use Rattle.hid_host.specs.Host.{running, running_at}
use Rattle.hid_requests.proofs.RequestKindLemmas.{of_reports}
use Rattle.hid_stack.specs.HostInvariant.{IsAfterSetup, IsDecided, asking_of}
use Rattle.hid_stack.specs.Trails.{Trail, trail_after_try}
use Rattle.hid_stack.proofs.HostInvariantLemmas.{acts_go, decided_behind, decided_stays}
use Rattle.hid_stack.proofs.RoundLemmas.{is_configuring, pends_so}
use Rattle.hid_stack.specs.Members.{Member, MemberStep, Scheduled, Begins, Controls, Halts, Resets, try_bus_event_of, control_of_member, core_of_member, bus_events_of_steps, effect_bus_event, member_transfer_after, halt_bus_event_of, member_after_halt, member_after, polls_it, step_bus_event, try_bus_event, member_after_try, member_after_try_in, write_bus_event}
use Rattle.hid_stack.specs.Transfers.{BeginsNone, configurations, count_if, effects_in, ends_at, setup_at, takes_effect_at, tries_of, try_at}

-- ---- one try

-- only a status takes effect
effect_behind : (p : Position) (shape : Shape) (fate : Fate) (d held : Decision) (applied : Bool)
    → is_effect (act_at p shape fate d held applied) ≡ true → IsAfterSetup p
effect_behind p shape TokenLost d held applied h = absurd (cc)
effect_behind Setup shape Clean d held applied h = absurd (cc)
effect_behind Setup shape ReplyLost d held applied h = absurd (cc)
effect_behind Setup shape AckLost d held applied h = absurd (cc)
effect_behind (Piece k) shape fate d held applied h = tt
effect_behind Status shape fate d held applied h = tt
effect_behind Past shape fate d held applied h = tt

-- a configuration happens to the device where the effect of a request for it is carried out
written_as : (core : CoreState) (pending : PendingWrite) (bytes : List ℕ) (rest : List BusEvent)
    → configurations (cons_option (write_bus_event core pending) rest)
    ≡ count_if (is_configuring pending) (configurations rest)
written_as core pendings.Nothing bytes rest = refl
written_as core pendings.Configure bytes rest = refl
written_as core (pendings.Keep i) bytes rest = refl
written_as core (pendings.Idle report time) bytes rest = refl
written_as core (pendings.Protocol protocol) bytes rest = refl
written_as core pendings.Halt bytes rest = refl
written_as core pendings.Clear bytes rest = refl

effect_as : (e : Effect) (core : CoreState) (sets : Bool) (rest : List BusEvent)
    → (is_applied e ≡ true → is_configuring core.pending ≡ sets)
    → configurations (cons_option (effect_bus_event e core) rest)
    ≡ count_if (is_applied e && sets) (configurations rest)
effect_as (Answers answer stage last_packet) core sets rest pends = refl
effect_as (Decides' bytes) core sets rest pends = refl
effect_as (Applies bytes) core sets rest pends =
    written_as core core.pending bytes rest ∙ ap (λ (b : Bool). count_if b (configurations rest)) (pends refl)

brought_as : (fate : Fate) (ends : HostTransferState) (control : DevControlState CoreState) (sets : Bool)
    (rest : List BusEvent)
    → (takes_effect core_table fate ends control ≡ true → is_configuring control.requests.pending ≡ sets)
    → configurations (cons_option (try_bus_event_of fate ends control) rest)
    ≡ count_if (takes_effect core_table fate ends control && sets) (configurations rest)
brought_as TokenLost ends control sets rest pends = refl
brought_as Clean ends control sets rest pends = effect_as (effect_reached core_table ends control) control.requests sets rest pends
brought_as ReplyLost ends control sets rest pends = effect_as (effect_reached core_table ends control) control.requests sets rest pends
brought_as AckLost ends control sets rest pends = effect_as (effect_reached core_table ends control) control.requests sets rest pends

-- ---- both ends stand at a place, with what the device decided

pub record Stood (m : Member) (t : Transfer) (trail : Trail) : Type 0 where
  pub asked : t.ends.setup ≡ setup_at m t.request
  pub encoded : IsEncoded t.ends.setup
  pub fits : FitsRequest t.request
  pub stands : EndsAreAt core_table (sends_of t.request) trail.place (ends_at m t)
  pub decided : IsAfterSetup trail.place.host
      → IsDecided t.request trail.decider (core_of_member m) trail.place.decision

-- a step of the schedule leaves it
pub stood_scheduled : (x : OwnStep) (m : Member) (t : Transfer) (trail : Trail) → Stood m t trail → Stood (member_after m (Scheduled x)) t trail
stood_scheduled x m t trail s =
    let n = member_after m (Scheduled x) in
    record {
      asked = s.asked;
      encoded = s.encoded;
      fits = s.fits;
      stands = kept_is core_table.answer_of (transfer_shape t.ends.setup) (sends_of t.request) trail.place t.ends
          (control_of_member m) (control_of_member n) s.stands refl refl;
      decided =
          λ behind. decided_stays t.request trail.decider (core_of_member m) (core_of_member n) trail.place.decision
          (record { layout = refl; config = refl; descriptor = refl; configured = λ h. h }) refl (s.decided behind);
    }

-- a halt of the device leaves the transfer as it stands
pub stood_halted : (b : Bool) (m : Member) (t : Transfer) (trail : Trail) → Stood m t trail
    → Stood (member_after_halt b m) t trail
stood_halted false m t trail s = s
stood_halted true m t trail s =
    let n = member_after_halt true m in
    record {
      asked = s.asked;
      encoded = s.encoded;
      fits = s.fits;
      stands = kept_is core_table.answer_of (transfer_shape t.ends.setup) (sends_of t.request) trail.place t.ends
          (control_of_member m) (control_of_member n) s.stands refl refl;
      decided =
          λ behind. decided_stays t.request trail.decider (core_of_member m) (core_of_member n) trail.place.decision
          (record { layout = refl; config = refl; descriptor = refl; configured = λ h. h }) refl (s.decided behind);
    }

pub halted_transfer : (b : Bool) (m : Member) → (member_after_halt b m).transfer ≡ m.transfer
halted_transfer true m = refl
halted_transfer false m = refl

-- the transfer after a try
abbrev pub tried_transfer : Fate → Member → Transfer → Transfer
tried_transfer fate m t = record t { ends = member_transfer_after fate m t }

-- its trail
abbrev pub trail_on : Fate → Member → Transfer → Trail → Trail
trail_on fate m t trail = trail_after_try fate t (control_of_member m) trail

pub stood_tried : (fate : Fate) (m : Member) (t : Transfer) (trail : Trail) (host : HostState) → Stood m t trail → GoesBy core_table (sends_of t.request) trail.place fate (ends_at m t)
    → Stood (member_after_try_in fate m t host) (tried_transfer fate m t) (trail_on fate m t trail)
stood_tried fate m t trail host s g =
    let n = member_after_try_in fate m t host in
    let control = control_tried core_table fate t.ends (control_of_member m) in
    let asking : Asking = asking_of (core_of_member m) in
    let behind : Trail = trail_on fate m t trail in
    let goes =
    acts_go t.ends.setup (sends_of t.request) (act_now core_table trail.place fate (ends_at m t))
    (core_of_member m) control.requests g.acts in
    record {
      asked = g.asked ∙ s.asked;
      encoded = subst IsEncoded (sym g.asked) s.encoded;
      fits = s.fits;
      stands = kept_is core_table.answer_of (transfer_shape (member_transfer_after fate m t).setup)
          (sends_of t.request) behind.place (member_transfer_after fate m t) control
          (control_of_member n) g.stands refl refl;
      decided =
          λ later. decided_stays t.request behind.decider control.requests (core_of_member n) behind.place.decision
          (record { layout = sym goes.layout; config = sym goes.config; descriptor = sym goes.descriptor; configured = λ h. h }) refl
          (decided_behind t.request asking t.ends.setup (sends_of t.request) fate
          (decision_now core_table (ends_at m t)) trail.place.host trail.place trail.decider
          (core_of_member m) control.requests s.fits (of_reports t.request asking refl) s.asked refl g.acts
          s.decided later);
    }

-- what a try adds to both counts
more_of : (takes sets : Bool) (n : ℕ)
    → count_if (takes && sets) (if sets then n else 0) ≡ (if sets then count_if takes n else 0)
more_of true true n = refl
more_of true false n = refl
more_of false true n = refl
more_of false false n = refl

-- what is pending where a write takes effect was decided at the last SETUP that arrived
pub decided_now : (fate : Fate) (m : Member) (t : Transfer) (trail : Trail) → Stood m t trail → GoesBy core_table (sends_of t.request) trail.place fate (ends_at m t)
    → takes_effect core_table fate t.ends (control_of_member m) ≡ true
    → IsDecided t.request trail.decider (core_of_member m) trail.place.decision
decided_now fate m t trail s g takes =
    let place : Place = trail.place in
    s.decided
    (effect_behind place.host (transfer_shape t.ends.setup) fate
    (decision_now core_table (ends_at m t)) place.decision place.applied (sym g.takes ∙ takes))

try_configures : (fate : Fate) (m : Member) (t : Transfer) (trail : Trail) (rest : List BusEvent) (later : ℕ)
    → Stood m t trail → GoesBy core_table (sends_of t.request) trail.place fate (ends_at m t)
    → configurations rest ≡ (if is_configure t.request then later else 0)
    → configurations (cons_option (try_bus_event_of fate t.ends (control_of_member m)) rest)
    ≡ (if is_configure t.request then count_if
    (takes_effect core_table fate t.ends (control_of_member m)) later else 0)
try_configures fate m t trail rest later s g so =
    let takes = takes_effect core_table fate t.ends (control_of_member m) in
    brought_as fate t.ends (control_of_member m) (is_configure t.request) rest
    (λ takes. pends_so t.request trail.decider (core_of_member m) trail.place.decision
    (decided_now fate m t trail s g takes))
    ∙ ap (count_if (takes && is_configure t.request)) so
    ∙ more_of takes (is_configure t.request) later

-- ---- whole lists

-- what is counted of the acts of a request, where n came before, and of what befell its device
pub record Counts (request : Request) (before : ℕ) (done : List Act) (later : ℕ)
    (bus_events : List BusEvent) : Type 0 where
  pub took : effects before done ≡ later + before
  pub configures : configurations bus_events ≡ (if is_configure request then later else 0)

one_act : (n : ℕ) (act : Act) (rest : List Act) → effects n (act ∷ rest) ≡ effects (count_if (is_effect act) n) rest
one_act n Nothing rest = refl
one_act n (Decides decision) rest = refl
one_act n TakesEffect rest = let same : n + 1 ≡ suc n = omega arith in ap (λ (k : ℕ). effects k rest) same

none_yet : (n : ℕ) → n ≡ 0 + n
none_yet n = omega arith

none_counts : (sets : Bool) → (let none : ℕ = 0 in none ≡ (if sets then none else none))
none_counts true = refl
none_counts false = refl

more_before : (b : Bool) (m n : ℕ) → m + count_if b n ≡ count_if b m + n
more_before true m n = omega arith
more_before false m n = refl

poll_bus_event : (polls : Bool) (fate : Fate) (bus_events : List BusEvent)
    → configurations (cons_option (step_bus_event polls (Polls fate)) bus_events) ≡ configurations bus_events
poll_bus_event true fate bus_events = refl
poll_bus_event false fate bus_events = refl

own_bus_event : (polls : Bool) (x : OwnStep) (bus_events : List BusEvent)
    → configurations (cons_option (step_bus_event polls x) bus_events) ≡ configurations bus_events
own_bus_event polls (Changes change) bus_events = refl
own_bus_event polls Frame bus_events = refl
own_bus_event polls (Polls fate) bus_events = poll_bus_event polls fate bus_events

halt_bus_event : (is_configured : Bool) (bus_events : List BusEvent)
    → configurations (cons_option (halt_bus_event_of is_configured) bus_events) ≡ configurations bus_events
halt_bus_event true bus_events = refl
halt_bus_event false bus_events = refl

open_acts : (shape : Shape) (x : Fate × Decision) (xs : List (Fate × Decision)) (place : Place) → is_open place ≡ true
    → acts shape (x ∷ xs) place ≡ act_of shape x.0 x.1 place ∷ acts shape xs (place_after_try shape x.0 x.1 place)
open_acts shape x xs place h =
    ap (λ (b : Bool). if b then act_of shape x.0 x.1 place
    ∷ acts shape xs (place_after_try shape x.0 x.1 place) else []) h

closed_acts : (shape : Shape) (xs : List (Fate × Decision)) (place : Place) → is_open place ≡ false → acts shape xs place ≡ []
closed_acts shape [] place h = refl
closed_acts shape (x ∷ xs) place h =
    ap (λ (b : Bool). if b then act_of shape x.0 x.1 place
    ∷ acts shape xs (place_after_try shape x.0 x.1 place) else []) h

-- ---- a transfer that runs

-- a transfer that is tried, or is over
running_so : (t : Transfer) (stage : HostStage) (b : Bool) → is_running stage ≡ b → running_at t stage ≡ (if b then Some t else None)
running_so t stages.Setup b is = ap (λ (x : Bool). if x then Some t else None) is
running_so t (stages.DataIn one) b is = ap (λ (x : Bool). if x then Some t else None) is
running_so t (stages.DataOut sent one) b is = ap (λ (x : Bool). if x then Some t else None) is
running_so t stages.StatusIn b is = ap (λ (x : Bool). if x then Some t else None) is
running_so t stages.StatusOut b is = ap (λ (x : Bool). if x then Some t else None) is
running_so t stages.Done b is = ap (λ (x : Bool). if x then Some t else None) is
running_so t (stages.Failed fault) b is = ap (λ (x : Bool). if x then Some t else None) is

pub runs_as : (m : Member) (t : Transfer) → m.transfer ≡ Some t → running m.transfer ≡ (if is_running t.ends.stage then Some t else None)
runs_as m t has = ap running has ∙ running_so t t.ends.stage (is_running t.ends.stage) refl

-- the acts of a try and the steps after it are counted, of a transfer that runs or not
abbrev CountsTry : Fate → List MemberStep → Member → Transfer → Trail → ℕ → Option Transfer → Option Transfer → Type 0
CountsTry fate steps m t trail n runs has =
    Counts t.request n
    (acts (transfer_shape t.ends.setup)
    (try_at fate m has ++ tries_of (member_after_try fate m runs) steps) trail.place)
    (count_if (takes_effect_at fate m runs) (effects_in (member_after_try fate m runs) steps))
    (cons_option (try_bus_event fate m runs) (bus_events_of_steps (member_after_try fate m runs) steps))

abbrev Behind : List MemberStep → Type 0
Behind steps = (m : Member) (t : Transfer) (trail : Trail) (n : ℕ) → m.transfer ≡ Some t → BeginsNone steps → Stood m t trail
    → Counts t.request n (acts (transfer_shape t.ends.setup) (tries_of m steps) trail.place) (effects_in m steps)
    (bus_events_of_steps m steps)

try_counts : (fate : Fate) (steps : List MemberStep) (m : Member) (t : Transfer) (trail : Trail) (n : ℕ) → BeginsNone steps → Stood m t trail → is_running t.ends.stage ≡ true → Behind steps
    → CountsTry fate steps m t trail n (Some t) (Some t)
try_counts fate steps m t trail n none s runs later =
    let place : Place = trail.place in
    let shape = transfer_shape t.ends.setup in
    let g = goes_by core_table (sends_of t.request) place fate (ends_at m t) s.encoded (is_running_runs t.ends.stage runs) s.stands in
    let act = act_now core_table place fate (ends_at m t) in
    let k = member_after_try fate m (Some t) in
    let behind : Trail = trail_on fate m t trail in
    let xs = tries_of k steps in
    let more : ℕ = count_if (is_effect act) n in
    let rest : Counts t.request more (acts (transfer_shape (member_transfer_after fate m t).setup) xs behind.place)
    (effects_in k steps) (bus_events_of_steps k steps)
    = later k (tried_transfer fate m t) behind more refl none (stood_tried fate m t trail k.host s g) in
    record {
      took = ap (effects n) (open_acts shape (fate, decision_now core_table (ends_at m t)) xs place (sym (runs_so core_table (sends_of t.request) place (ends_at m t) s.stands) ∙ runs))
          ∙ one_act n act (acts shape xs behind.place)
          ∙ ap (λ (s : Shape). effects more (acts s xs behind.place)) (sym (ap transfer_shape g.asked))
          ∙ rest.took
          ∙ more_before (is_effect act) (effects_in k steps) n
          ∙ ap (λ (b : Bool). count_if b (effects_in k steps) + n) (sym g.takes);
      configures =
          try_configures fate m t trail (bus_events_of_steps k steps) (effects_in k steps) s g rest.configures;
    }

over_counts : (fate : Fate) (steps : List MemberStep) (m : Member) (t : Transfer) (trail : Trail) (n : ℕ) → m.transfer ≡ Some t → BeginsNone steps → Stood m t trail → is_running t.ends.stage ≡ false → Behind steps
    → CountsTry fate steps m t trail n None (Some t)
over_counts fate steps m t trail n has none s over later =
    let place : Place = trail.place in
    let shape = transfer_shape t.ends.setup in
    let closed : is_open place ≡ false = sym (runs_so core_table (sends_of t.request) place (ends_at m t) s.stands) ∙ over in
    let rest = later m t trail n has none s in
    record {
      took = ap (effects n) (closed_acts shape (try_at fate m (Some t) ++ tries_of m steps) place closed ∙ sym (closed_acts shape (tries_of m steps) place closed)) ∙ rest.took;
      configures = rest.configures;
    }

pub counted : (steps : List MemberStep) → Behind steps
counted [] m t trail n has none s = record { took = none_yet n; configures = none_counts (is_configure t.request) }
counted (Scheduled x ∷ steps) m t trail n has none s =
    let rest = counted steps (member_after m (Scheduled x)) t trail n has none (stood_scheduled x m t trail s) in
    record {
      took = rest.took;
      configures =
          own_bus_event (polls_it m) x (bus_events_of_steps (member_after m (Scheduled x)) steps) ∙ rest.configures;
    }
counted (Begins request ∷ steps) m t trail n has none s = absurd none
counted (Halts ∷ steps) m t trail n has none s =
    let k = member_after m Halts in
    let rest = counted steps k t trail n (halted_transfer m.endpoint.is_configured m ∙ has) none (stood_halted m.endpoint.is_configured m t trail s) in
    record {
      took = rest.took;
      configures =
          halt_bus_event m.endpoint.is_configured (bus_events_of_steps k steps) ∙ rest.configures;
    }
counted (Resets ∷ steps) m t trail n has none s = absurd none
counted (Controls fate ∷ steps) m t trail n has none s = elim (cases_Bool (is_running t.ends.stage)) [
  | inl runs ↦
      subst (λ (o : Option Transfer). CountsTry fate steps m t trail n o m.transfer) (sym (runs_as m t has ∙ ap (λ (b : Bool). if b then Some t else None) runs))
      (subst (λ (o : Option Transfer). CountsTry fate steps m t trail n (Some t) o) (sym has) (try_counts fate steps m t trail n none s runs (counted steps)))
  | inr over ↦
      subst (λ (o : Option Transfer). CountsTry fate steps m t trail n o m.transfer) (sym (runs_as m t has ∙ ap (λ (b : Bool). if b then Some t else None) over))
      (subst (λ (o : Option Transfer). CountsTry fate steps m t trail n None o) (sym has) (over_counts fate steps m t trail n has none s over (counted steps)))
]
