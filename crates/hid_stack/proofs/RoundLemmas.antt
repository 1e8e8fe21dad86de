-- What a try of a transfer makes of a device's rounds: a configuration takes effect, or they stay.
use Rattle.std.proofs.Common.{◌≡◌, ◌≢◌, ℕ, Bool, true, false, not, ◌&&◌, ◌==◌, List, [], ◌∷◌, length, Option, Some, None, refl, ap, sym, ◌∙◌, subst}
use Rattle.std.specs.Prelude.{if◌then◌else◌, option_map}
use Rattle.usb_transact.specs.declared.transaction.Fate.{Fate}
use Rattle.usb_transact.specs.declared.transaction.Fate.TheVariants.{Clean, TokenLost, ReplyLost, AckLost}
use Rattle.usb_control.specs.declared.device.LastPacket.{LastPacket}
use Rattle.usb_control.specs.declared.device.LastPacket.TheVariants as last_packets
use Rattle.usb_control.specs.declared.device.Stage.{Stage}
use Rattle.usb_control.specs.declared.fault.ControlFault.{ControlFault}
use Rattle.usb_control.specs.declared.host.HostStage.{HostStage}
use Rattle.usb_control.specs.declared.host.HostStage.TheVariants as stages
use Rattle.usb_control.specs.declared.setup.Setup.{Setup}
use Rattle.usb_control.specs.TryFunctions.{after_ack_if, control_after, control_tried, effect_reached, is_acknowledged}
use Rattle.usb_control.specs.Device.{DevControlState, Effect, Answers, Decides, Applies, effect_of_ack}
use Rattle.usb_control.specs.Host.{HostTransferState, IsRunning}
use Rattle.usb_control.specs.SetupBytes.{setup_of}
use Rattle.usb_control.specs.Positions.{TransferIsAtWithFault, host_stage}
use Rattle.usb_control.specs.Transaction.{effect_of_stage}
use Rattle.usb_control.specs.Transfer.{Decision, Piece, Place, Position, Past, Shape, Status, transfer_shape}
use Rattle.usb_control.specs.Transfer as positions
use Rattle.hid_requests.specs.declared.request.Request.{Request}
use Rattle.hid_requests.specs.declared.request.Request.TheVariants as requests
use Rattle.hid_device.specs.declared.decisions.PendingWrite.{PendingWrite}
use Rattle.hid_device.specs.declared.decisions.PendingWrite.TheVariants as pendings
use Rattle.hid_device.specs.Core.{CoreState}
use Rattle.hid_report_descriptor.specs.declared.report.ReportKind.TheVariants.{Input}
use Rattle.hid_requests.specs.declared.class.Protocol.{Protocol}
use Rattle.hid_requests.specs.Class.{protocol_number}
use Rattle.hid_device.specs.EndpointIndependence.{effect_aborts_round, effect_sets_configuration}
use Rattle.hid_device.specs.Outputs.{kept_place, report_number_of}
use Rattle.hid_device.specs.RequestTable.{core_after_decision, core_table, decide, endpoint_status, idle_time_of, reads_optional, report_now, row_decision, sets_idle_of, sets_report}
use Rattle.hid_device.specs.RequestDecisions.{Reads, Refuses, RequestDecision, Writes, reads_if, writes_if}
use Rattle.hid_host.specs.declared.host.Transfer.{Transfer}
use Rattle.hid_host.specs.declared.phase.HostPhase.{HostPhase}
use Rattle.hid_host.specs.declared.phase.HostPhase.TheVariants.{Cold, Described, Parsed, Ready}
use Rattle.hid_host.specs.declared.phase.HostState.TheVariants as states
use Rattle.hid_requests.specs.RequestSetup.{protocol_of, row_of, sends_of}
use Rattle.hid_requests.specs.Boot.{is_boot}
use Rattle.hid_host.specs.Host.{request_aborts_round}
use Rattle.hid_stack.specs.ControlSteps.{core_after_effect, core_after_try, effect_ends_halt, is_configure, try_aborts_round, try_clears, try_configures, with_answer_of}
use Rattle.hid_stack.specs.HostInvariant.{FollowsTrail, IsAfterSetup, IsDecided, IsDecidedBy}
use Rattle.hid_stack.specs.Trails.{Trail}
use Rattle.hid_host.specs.Phase.{may_begin, state_of}

-- ---- what a packet leaves

left_rounds : (core : CoreState) (d : RequestDecision)
    → core_after_decision core d ≡ with_answer_of core (core_after_decision core d)
left_rounds core Refuses = refl
left_rounds core (Reads bytes) = refl
left_rounds core (Writes pending) = refl

effect_rounds : (effect : Effect) (core : CoreState)
    → (control_after core_table effect core).requests
    ≡ with_answer_of (core_after_effect effect core) (control_after core_table effect core).requests
effect_rounds (Answers answer stage last_packet) core = refl
effect_rounds (Decides bytes) core = left_rounds core (decide core (setup_of bytes))
effect_rounds (Applies bytes) core = refl

-- an ACK changes nothing inside
ack_keeps : (answer : Option (List ℕ)) (stage : Stage) (last_packet : LastPacket) (core : CoreState)
    → (control_after core_table (effect_of_ack answer stage last_packet) core).requests ≡ core
ack_keeps answer stage last_packets.Nothing core = refl
ack_keeps answer stage last_packets.Setup core = refl
ack_keeps answer stage last_packets.Out core = refl
ack_keeps answer stage last_packets.Answered core = refl

acknowledged_keeps : (b : Bool) (control : DevControlState CoreState)
    → (after_ack_if core_table b control).requests ≡ control.requests
acknowledged_keeps true control = ack_keeps control.requests.answer control.stage control.last_packet control.requests
acknowledged_keeps false control = refl

arrived_rounds : (effect : Effect) (b : Bool) (core : CoreState)
    → (after_ack_if core_table b (control_after core_table effect core)).requests
    ≡ with_answer_of (core_after_effect effect core)
    (after_ack_if core_table b (control_after core_table effect core)).requests
arrived_rounds effect b core =
    let same = acknowledged_keeps b (control_after core_table effect core) in
    subst (λ (c : CoreState). c ≡ with_answer_of (core_after_effect effect core) c) (sym same)
    (effect_rounds effect core)

pub tried_rounds : (fate : Fate) (ends : HostTransferState) (control : DevControlState CoreState)
    → (control_tried core_table fate ends control).requests
    ≡ with_answer_of (core_after_try fate ends control) (control_tried core_table fate ends control).requests
tried_rounds TokenLost ends control = refl
tried_rounds Clean ends control = arrived_rounds (effect_reached core_table ends control) (is_acknowledged Clean ends (effect_reached core_table ends control)) control.requests
tried_rounds ReplyLost ends control = arrived_rounds (effect_reached core_table ends control) (is_acknowledged ReplyLost ends (effect_reached core_table ends control)) control.requests
tried_rounds AckLost ends control = arrived_rounds (effect_reached core_table ends control) (is_acknowledged AckLost ends (effect_reached core_table ends control)) control.requests

-- ---- a configuration is the request of a host that isn't ready yet

abbrev IsApplied : Effect → Type 0
IsApplied (Applies bytes) = Unit {0}
IsApplied _ = ⊥

is_carried : (effect : Effect) (pending : PendingWrite) → effect_sets_configuration effect pending ≡ true
    → IsApplied effect × (pending ≡ pendings.Configure)
is_carried (Applies bytes) pendings.Configure h = (tt, refl)
is_carried (Applies bytes) pendings.Nothing h = absurd (cc)
is_carried (Applies bytes) (pendings.Keep i) h = absurd (cc)
is_carried (Applies bytes) (pendings.Idle report time) h = absurd (cc)
is_carried (Applies bytes) (pendings.Protocol protocol) h = absurd (cc)
is_carried (Applies bytes) pendings.Halt h = absurd (cc)
is_carried (Applies bytes) pendings.Clear h = absurd (cc)
is_carried (Decides bytes) pending h = absurd (cc)
is_carried (Answers answer stage last_packet) pending h = absurd (cc)

configures_by : (fate : Fate) (ends : HostTransferState) (control : DevControlState CoreState)
    → try_configures fate ends control ≡ true
    → IsApplied (effect_reached core_table ends control) × (control.requests.pending ≡ pendings.Configure)
configures_by TokenLost ends control h = absurd (cc)
configures_by Clean ends control h = is_carried (effect_reached core_table ends control) control.requests.pending h
configures_by ReplyLost ends control h = is_carried (effect_reached core_table ends control) control.requests.pending h
configures_by AckLost ends control h = is_carried (effect_reached core_table ends control) control.requests.pending h

-- nothing is carried out at SETUP
not_at_setup : (stage : HostStage) (setup : Setup) (bytes : List ℕ) (device : Stage) (answer : Option (List ℕ))
    → IsApplied (effect_of_stage stage setup bytes device answer) → stage ≢ stages.Setup
not_at_setup stages.Setup setup bytes device answer h = absurd h
not_at_setup (stages.DataIn one) setup bytes device answer h = λ e. cc
not_at_setup (stages.DataOut sent one) setup bytes device answer h = λ e. cc
not_at_setup stages.StatusIn setup bytes device answer h = λ e. cc
not_at_setup stages.StatusOut setup bytes device answer h = λ e. cc
not_at_setup stages.Done setup bytes device answer h = λ e. cc
not_at_setup (stages.Failed fault) setup bytes device answer h = λ e. cc

behind_unless : (p : Position) → p ≢ positions.Setup → IsAfterSetup p
behind_unless positions.Setup apart = absurd (apart refl)
behind_unless (Piece k) apart = tt
behind_unless Status apart = tt
behind_unless Past apart = tt

behind_by : (shape : Shape) (sends : List ℕ) (place : Place) (fault : Option ControlFault) (ends : HostTransferState) (control : DevControlState CoreState)
    → TransferIsAtWithFault core_table.answer_of shape sends place fault ends control → IsRunning ends.stage
    → ends.stage ≢ stages.Setup → IsAfterSetup place.host
behind_by shape sends place (Some fault) ends control stands running apart = let wrong = subst IsRunning stands running in absurd (cc)
behind_by shape sends place None ends control stands running apart = behind_unless place.host (λ at. apart (stands.sender.stage ∙ ap (host_stage shape) at))

-- ---- what is carried out is what its request asks for

-- whether this is to be carried out: a configuration, what ends a round, or what ends a halt
abbrev pub is_configuring : PendingWrite → Bool
is_configuring pendings.Configure = true
is_configuring _ = false

abbrev pub is_cutting : PendingWrite → Bool
is_cutting pendings.Halt = true
is_cutting pendings.Clear = true
is_cutting _ = false

abbrev pub is_clearing : PendingWrite → Bool
is_clearing pendings.Clear = true
is_clearing _ = false

-- a test of what is decided to be carried out
abbrev pub writes_by : (PendingWrite → Bool) → RequestDecision → Bool
writes_by test (Writes pending) = test pending
writes_by test _ = false

pends_by : (test : PendingWrite → Bool) → test pendings.Nothing ≡ false
    → (d : RequestDecision) (decision : Decision) (pending : PendingWrite) → IsDecidedBy d decision pending
    → test pending ≡ writes_by test d
pends_by test none Refuses decision pending h = ap test h.1 ∙ none
pends_by test none (Reads bytes) decision pending h = ap test h.1 ∙ none
pends_by test none (Writes held) decision pending h = ap test h.1

any_is_read : (test : PendingWrite → Bool) (o : Option (List ℕ)) → writes_by test (reads_optional o) ≡ false
any_is_read test None = refl
any_is_read test (Some bytes) = refl

read_is_read : (test : PendingWrite → Bool) (b : Bool) (bytes : List ℕ) → writes_by test (reads_if b bytes) ≡ false
read_is_read test true bytes = refl
read_is_read test false bytes = refl

write_is_other : (test : PendingWrite → Bool) (b : Bool) (pending : PendingWrite) → test pending ≡ false
    → writes_by test (writes_if b pending) ≡ false
write_is_other test true pending other = other
write_is_other test false pending other = refl

-- of all writes, a test passes a configuration, a halt and its end alone
pub record IsOfPipe (test : PendingWrite → Bool) : Type 0 where
  pub nothing : test pendings.Nothing ≡ false
  pub keep : (i : ℕ) → test (pendings.Keep i) ≡ false
  pub idle : (report : Option ℕ) (time : ℕ) → test (pendings.Idle report time) ≡ false
  pub protocol : (protocol : Protocol) → test (pendings.Protocol protocol) ≡ false

configuring_of_pipe : IsOfPipe is_configuring
configuring_of_pipe = record { nothing = refl; keep = λ i. refl; idle = λ report time. refl; protocol = λ protocol. refl }

cutting_of_pipe : IsOfPipe is_cutting
cutting_of_pipe = record { nothing = refl; keep = λ i. refl; idle = λ report time. refl; protocol = λ protocol. refl }

clearing_of_pipe : IsOfPipe is_clearing
clearing_of_pipe = record { nothing = refl; keep = λ i. refl; idle = λ report time. refl; protocol = λ protocol. refl }

keeps_only : (test : PendingWrite → Bool) → IsOfPipe test → (core : CoreState) (len : ℕ) (place : Option ℕ)
    → writes_by test (sets_report core len place) ≡ false
keeps_only test of core len None = refl
keeps_only test of core len (Some i) = write_is_other test _ (pendings.Keep i) (of.keep i)

idle_only : (test : PendingWrite → Bool) → IsOfPipe test → (time : ℕ) (report : Option ℕ)
    → writes_by test (sets_idle_of time report) ≡ false
idle_only test of time None = refl
idle_only test of time (Some r) = of.idle (Some r) time

idles_only : (test : PendingWrite → Bool) → IsOfPipe test → (b : Bool) (time : ℕ) (report : Option ℕ)
    → writes_by test (if b then Writes (pendings.Idle None time) else sets_idle_of time report) ≡ false
idles_only test of true time report = of.idle None time
idles_only test of false time report = idle_only test of time report

-- what a request asks for is what is decided to be carried out
record Asks (request : Request) (d : RequestDecision) : Type 0 where
  configures : writes_by is_configuring d ≡ is_configure request
  aborts : writes_by is_cutting d ≡ true → request_aborts_round request ≡ true
  clears : writes_by is_clearing d ≡ true → request ≡ requests.Clear

-- of a request that asks for nothing of the pipe
asks_else : (request : Request) (d : RequestDecision) → is_configure request ≡ false
    → ((test : PendingWrite → Bool) → IsOfPipe test → writes_by test d ≡ false) → Asks request d
asks_else request d other none = record {
  configures = none is_configuring configuring_of_pipe ∙ sym other;
  aborts = λ h. let wrong : false ≡ true = sym (none is_cutting cutting_of_pipe) ∙ h in absurd (cc);
  clears = λ h. let wrong : false ≡ true = sym (none is_clearing clearing_of_pipe) ∙ h in absurd (cc);
}

halt_asks : (configured : Bool) → Asks requests.Halt (writes_if configured pendings.Halt)
halt_asks true = record { configures = refl; aborts = λ h. refl; clears = λ h. absurd (cc) }
halt_asks false = record { configures = refl; aborts = λ h. refl; clears = λ h. absurd (cc) }

clear_asks : (configured : Bool) → Asks requests.Clear (writes_if configured pendings.Clear)
clear_asks true = record { configures = refl; aborts = λ h. refl; clears = λ h. refl }
clear_asks false = record { configures = refl; aborts = λ h. refl; clears = λ h. refl }

row_asks : (request : Request) (core : CoreState) → Asks request (row_decision core (row_of request))
row_asks requests.Device core = asks_else requests.Device _ refl (λ test of. refl)
row_asks requests.Config core = asks_else requests.Config _ refl (λ test of. refl)
row_asks requests.Report core = asks_else requests.Report _ refl (λ test of. refl)
row_asks requests.Configure core = record { configures = refl; aborts = λ h. absurd (cc); clears = λ h. absurd (cc) }
row_asks requests.Status core = asks_else requests.Status _ refl (λ test of. refl)
row_asks requests.GetConfiguration core = asks_else requests.GetConfiguration _ refl (λ test of. refl)
row_asks (requests.Idle id time) core =
    asks_else (requests.Idle id time) _ refl
    (λ test of. idles_only test of (id == 0) time (report_number_of core.layout.reports Input id))
row_asks (requests.GetIdle id) core =
    asks_else (requests.GetIdle id) _ refl
    (λ test of. any_is_read test (option_map (λ time. time ∷ []) (idle_time_of core id)))
row_asks (requests.Protocol boot) core =
    asks_else (requests.Protocol boot) _ refl
    (λ test of. write_is_other test (is_boot core.config.boot && not core.is_configured) (pendings.Protocol (protocol_of boot)) (of.protocol (protocol_of boot)))
row_asks requests.GetProtocol core = asks_else requests.GetProtocol _ refl (λ test of. read_is_read test (is_boot core.config.boot) (protocol_number core.protocol ∷ []))
row_asks (requests.GetReport kind id) core = asks_else (requests.GetReport kind id) _ refl (λ test of. any_is_read test (report_now core kind id))
row_asks (requests.SetReport kind id set) core =
    asks_else (requests.SetReport kind id set) _ refl (λ test of. keeps_only test of core (length set.items) (kept_place core.layout.reports kind id))
row_asks requests.Halt core = halt_asks core.is_configured
row_asks requests.Clear core = clear_asks core.is_configured
row_asks requests.EndpointStatus core = asks_else requests.EndpointStatus _ refl (λ test of. read_is_read test core.is_configured (endpoint_status core.halted))

-- what is pending after the SETUP of a request passes a test where its row does
pends_by_row : (test : PendingWrite → Bool) → test pendings.Nothing ≡ false
    → (request : Request) (decider core : CoreState) (decision : Decision) → IsDecided request decider core decision
    → test core.pending ≡ writes_by test (row_decision decider (row_of request))
pends_by_row test none request decider core decision says =
    pends_by test none (row_decision decider (row_of request)) decision core.pending says.by

-- a configuration is pending after the SETUP of a request for it, and of no other
pub pends_so : (request : Request) (decider core : CoreState) (decision : Decision) → IsDecided request decider core decision → is_configuring core.pending ≡ is_configure request
pends_so request decider core decision says = pends_by_row is_configuring refl request decider core decision says ∙ (row_asks request decider).configures

-- what ends a round is pending after that of a Halt or a Clear alone, and what ends a halt after that of a Clear
pub cuts_so : (request : Request) (decider core : CoreState) (decision : Decision)
    → IsDecided request decider core decision → is_cutting core.pending ≡ true → request_aborts_round request ≡ true
cuts_so request decider core decision says h = (row_asks request decider).aborts (sym (pends_by_row is_cutting refl request decider core decision says) ∙ h)

pub clears_so : (request : Request) (decider core : CoreState) (decision : Decision) → IsDecided request decider core decision → is_clearing core.pending ≡ true → request ≡ requests.Clear
clears_so request decider core decision says h = (row_asks request decider).clears (sym (pends_by_row is_clearing refl request decider core decision says) ∙ h)

asks_for : (request : Request) (phase : HostPhase) → is_configure request ≡ true → may_begin request (state_of phase) ≡ true → state_of phase ≡ states.Parsed
asks_for requests.Configure Cold asks needs = absurd (cc)
asks_for requests.Configure (Described info) asks needs = absurd (cc)
asks_for requests.Configure (Parsed info layout) asks needs = refl
asks_for requests.Configure (Ready known) asks needs = absurd (cc)
asks_for requests.Device phase asks needs = absurd (cc)
asks_for requests.Config phase asks needs = absurd (cc)
asks_for requests.Report phase asks needs = absurd (cc)
asks_for requests.Status phase asks needs = absurd (cc)
asks_for requests.GetConfiguration phase asks needs = absurd (cc)
asks_for (requests.Idle id time) phase asks needs = absurd (cc)
asks_for (requests.GetIdle id) phase asks needs = absurd (cc)
asks_for (requests.Protocol boot) phase asks needs = absurd (cc)
asks_for requests.GetProtocol phase asks needs = absurd (cc)
asks_for (requests.GetReport kind id) phase asks needs = absurd (cc)
asks_for (requests.SetReport kind id set) phase asks needs = absurd (cc)
asks_for requests.Halt phase asks needs = absurd (cc)
asks_for requests.Clear phase asks needs = absurd (cc)
asks_for requests.EndpointStatus phase asks needs = absurd (cc)

-- what is pending where a write takes effect was decided on
decided_at : (trail : Trail) (phase : HostPhase) (t : Transfer) (control : DevControlState CoreState)
    → FollowsTrail trail phase t control → IsRunning t.ends.stage
    → IsApplied (effect_reached core_table t.ends control)
    → IsDecided t.request trail.decider control.requests trail.place.decision
decided_at trail phase t control c running applied =
    let apart = not_at_setup t.ends.stage t.ends.setup t.ends.bytes control.stage control.requests.answer applied in
    c.decided
    (behind_by (transfer_shape t.ends.setup)
    (sends_of t.request) trail.place trail.place.fault t.ends control c.stands running apart)

pub parsed_by : (trail : Trail) (fate : Fate) (phase : HostPhase) (t : Transfer) (control : DevControlState CoreState)
    → FollowsTrail trail phase t control → IsRunning t.ends.stage → try_configures fate t.ends control ≡ true
    → state_of phase ≡ states.Parsed
parsed_by trail fate phase t control c running h =
    let by = configures_by fate t.ends control h in
    asks_for t.request phase (sym (pends_so t.request trail.decider control.requests trail.place.decision (decided_at trail phase t control c running by.0)) ∙ ap is_configuring by.1) (c.needs running)

-- ---- a round is aborted by a request for that, and a halt ended by a Clear

is_cut : (effect : Effect) (pending : PendingWrite) → effect_aborts_round effect pending ≡ true
    → IsApplied effect × (is_cutting pending ≡ true)
is_cut (Applies bytes) pendings.Halt h = (tt, refl)
is_cut (Applies bytes) pendings.Clear h = (tt, refl)
is_cut (Applies bytes) pendings.Configure h = absurd (cc)
is_cut (Applies bytes) pendings.Nothing h = absurd (cc)
is_cut (Applies bytes) (pendings.Keep i) h = absurd (cc)
is_cut (Applies bytes) (pendings.Idle report time) h = absurd (cc)
is_cut (Applies bytes) (pendings.Protocol protocol) h = absurd (cc)
is_cut (Decides bytes) pending h = absurd (cc)
is_cut (Answers answer stage last_packet) pending h = absurd (cc)

cuts_by : (fate : Fate) (ends : HostTransferState) (control : DevControlState CoreState)
    → try_aborts_round fate ends control ≡ true
    → IsApplied (effect_reached core_table ends control) × (is_cutting control.requests.pending ≡ true)
cuts_by TokenLost ends control h = absurd (cc)
cuts_by Clean ends control h = is_cut (effect_reached core_table ends control) control.requests.pending h
cuts_by ReplyLost ends control h = is_cut (effect_reached core_table ends control) control.requests.pending h
cuts_by AckLost ends control h = is_cut (effect_reached core_table ends control) control.requests.pending h

pub cut_by : (trail : Trail) (fate : Fate) (phase : HostPhase) (t : Transfer) (control : DevControlState CoreState)
    → FollowsTrail trail phase t control → IsRunning t.ends.stage → try_aborts_round fate t.ends control ≡ true
    → request_aborts_round t.request ≡ true
cut_by trail fate phase t control c running h =
    let by = cuts_by fate t.ends control h in
    cuts_so t.request trail.decider control.requests trail.place.decision (decided_at trail phase t control c running by.0) by.1

is_cleared : (effect : Effect) (pending : PendingWrite) → effect_ends_halt effect pending ≡ true
    → IsApplied effect × (is_clearing pending ≡ true)
is_cleared (Applies bytes) pendings.Clear h = (tt, refl)
is_cleared (Applies bytes) pendings.Halt h = absurd (cc)
is_cleared (Applies bytes) pendings.Configure h = absurd (cc)
is_cleared (Applies bytes) pendings.Nothing h = absurd (cc)
is_cleared (Applies bytes) (pendings.Keep i) h = absurd (cc)
is_cleared (Applies bytes) (pendings.Idle report time) h = absurd (cc)
is_cleared (Applies bytes) (pendings.Protocol protocol) h = absurd (cc)
is_cleared (Decides bytes) pending h = absurd (cc)
is_cleared (Answers answer stage last_packet) pending h = absurd (cc)

clears_by : (fate : Fate) (ends : HostTransferState) (control : DevControlState CoreState)
    → try_clears fate ends control ≡ true
    → IsApplied (effect_reached core_table ends control) × (is_clearing control.requests.pending ≡ true)
clears_by TokenLost ends control h = absurd (cc)
clears_by Clean ends control h = is_cleared (effect_reached core_table ends control) control.requests.pending h
clears_by ReplyLost ends control h = is_cleared (effect_reached core_table ends control) control.requests.pending h
clears_by AckLost ends control h = is_cleared (effect_reached core_table ends control) control.requests.pending h

pub cleared_by : (trail : Trail) (fate : Fate) (phase : HostPhase) (t : Transfer)
    (control : DevControlState CoreState) → FollowsTrail trail phase t control → IsRunning t.ends.stage
    → try_clears fate t.ends control ≡ true
    → t.request ≡ requests.Clear
cleared_by trail fate phase t control c running h =
    let by = clears_by fate t.ends control h in
    clears_so t.request trail.decider control.requests trail.place.decision (decided_at trail phase t control c running by.0) by.1
