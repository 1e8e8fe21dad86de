-- Endpoint 0 and polls are apart.
use Rattle.std.proofs.Common.{◌≡◌, ℕ, Bool, true, false, List, Option, Some, None, refl, ap}
use Rattle.std.specs.Prelude.{if◌then◌else◌, Result, Ok, Err}
use Rattle.hid_layout.specs.Controls.{items_of}
use Rattle.hid_snapshots.specs.declared.control_state.ControlState.{ControlState}
use Rattle.hid_snapshots.specs.declared.change.Change.{Change}
use Rattle.hid_snapshots.specs.declared.fault.ChangeFault.{ChangeFault}
use Rattle.hid_snapshots.specs.Snapshots.{snapshot_after}
use Rattle.usb_packet.specs.declared.packet.Packet.{Packet}
use Rattle.usb_packet.specs.declared.packet.Packet.TheVariants.{Token, Data, Ack, Nak, Stall}
use Rattle.usb_control.specs.SetupBytes.{setup_of}
use Rattle.usb_control.specs.TryFunctions.{control_after}
use Rattle.usb_control.specs.Device.{Effect, Answers, Decides, Applies}
use Rattle.hid_device.specs.declared.decisions.PendingWrite.{PendingWrite}
use Rattle.hid_device.specs.declared.decisions.PendingWrite.TheVariants as pendings
use Rattle.hid_device.specs.EndpointIndependence.{LeavesEndpoint, LeavesRequests, LeavesRounds, LeavesWaits, core_after_abort, effect_aborts_round, effect_sets_configuration, with_halt}
use Rattle.hid_device.specs.RequestDecisions.{RequestDecision, Refuses, Reads, Writes}
use Rattle.hid_bus.specs.ReportState.{ReportState, due_where, with_abort, with_idle}
use Rattle.hid_device.specs.Core.{CoreState, configured_core, core_after_ack, core_after_due, core_at_poll, core_with_due_round, halted_core}
use Rattle.hid_device.specs.RequestTable.{core_after_decision, core_after_write, core_table, decide}
use Rattle.hid_device.specs.Device.{DeviceState, after_ignored_packet, changed_device, core_of, device_after, device_after_effect, device_after_poll, device_after_ignored, effect_of, framed_device, halted_device, is_control, is_poll, with_core}

-- ---- what endpoint 0 leaves

left_snapshot : (core : CoreState) (d : RequestDecision)
    → (core_after_decision core d).reports.snapshot ≡ core.reports.snapshot
left_snapshot core Refuses = refl
left_snapshot core (Reads bytes) = refl
left_snapshot core (Writes pending) = refl

cut_snapshot : (o : Option ℕ) (d : ReportState) → (with_abort o d).snapshot ≡ d.snapshot
cut_snapshot None d = refl
cut_snapshot (Some r) d = refl

effected_snapshot : (core : CoreState) (bytes : List ℕ) (pending : PendingWrite)
    → (core_after_write core bytes pending).reports.snapshot ≡ core.reports.snapshot
effected_snapshot core bytes pendings.Nothing = refl
effected_snapshot core bytes pendings.Configure = refl
effected_snapshot core bytes (pendings.Keep i) = refl
effected_snapshot core bytes (pendings.Idle report time) = refl
effected_snapshot core bytes (pendings.Protocol protocol) = refl
effected_snapshot core bytes pendings.Halt = cut_snapshot core.current core.reports
effected_snapshot core bytes pendings.Clear = cut_snapshot core.current core.reports

pub snapshot_stays : (effect : Effect) (core : CoreState)
    → (control_after core_table effect core).requests.reports.snapshot ≡ core.reports.snapshot
snapshot_stays (Answers answer stage last_packet) core = refl
snapshot_stays (Decides bytes) core = left_snapshot core (decide core (setup_of bytes))
snapshot_stays (Applies bytes) core = effected_snapshot core bytes core.pending

left_rounds : (core : CoreState) (d : RequestDecision) → LeavesRounds core (core_after_decision core d)
left_rounds core Refuses = refl
left_rounds core (Reads bytes) = refl
left_rounds core (Writes pending) = refl

effected_rounds : (core : CoreState) (bytes : List ℕ) (pending : PendingWrite)
    → effect_sets_configuration (Applies bytes) pending ≡ false → effect_aborts_round (Applies bytes) pending ≡ false
    → LeavesRounds core (core_after_write core bytes pending)
effected_rounds core bytes pendings.Nothing h k = refl
effected_rounds core bytes pendings.Configure h k = absurd (cc)
effected_rounds core bytes (pendings.Keep i) h k = refl
effected_rounds core bytes (pendings.Idle report time) h k = refl
effected_rounds core bytes (pendings.Protocol protocol) h k = refl
effected_rounds core bytes pendings.Halt h k = absurd (cc)
effected_rounds core bytes pendings.Clear h k = absurd (cc)

pub rounds_stay : (effect : Effect) (core : CoreState) → effect_sets_configuration effect core.pending ≡ false
    → effect_aborts_round effect core.pending ≡ false
    → LeavesRounds core (control_after core_table effect core).requests
rounds_stay (Answers answer stage last_packet) core h k = refl
rounds_stay (Decides bytes) core h k = left_rounds core (decide core (setup_of bytes))
rounds_stay (Applies bytes) core h k = effected_rounds core bytes core.pending h k

effected_configures : (core : CoreState) (bytes : List ℕ) (pending : PendingWrite)
    → effect_sets_configuration (Applies bytes) pending ≡ true
    → core_after_write core bytes pending ≡ configured_core core
effected_configures core bytes pendings.Nothing h = absurd (cc)
effected_configures core bytes pendings.Configure h = refl
effected_configures core bytes (pendings.Keep i) h = absurd (cc)
effected_configures core bytes (pendings.Idle report time) h = absurd (cc)
effected_configures core bytes (pendings.Protocol protocol) h = absurd (cc)
effected_configures core bytes pendings.Halt h = absurd (cc)
effected_configures core bytes pendings.Clear h = absurd (cc)

pub configuration_is : (effect : Effect) (core : CoreState) → effect_sets_configuration effect core.pending ≡ true
    → (control_after core_table effect core).requests ≡ configured_core core
configuration_is (Answers answer stage last_packet) core h = absurd (cc)
configuration_is (Decides bytes) core h = absurd (cc)
configuration_is (Applies bytes) core h = effected_configures core bytes core.pending h

effected_cuts : (core : CoreState) (bytes : List ℕ) (pending : PendingWrite)
    → effect_aborts_round (Applies bytes) pending ≡ true
    → core_after_write core bytes pending ≡ core_after_abort core pending
effected_cuts core bytes pendings.Nothing h = absurd (cc)
effected_cuts core bytes pendings.Configure h = absurd (cc)
effected_cuts core bytes (pendings.Keep i) h = absurd (cc)
effected_cuts core bytes (pendings.Idle report time) h = absurd (cc)
effected_cuts core bytes (pendings.Protocol protocol) h = absurd (cc)
effected_cuts core bytes pendings.Halt h = refl
effected_cuts core bytes pendings.Clear h = refl

pub aborted_is : (effect : Effect) (core : CoreState) → effect_aborts_round effect core.pending ≡ true
    → (control_after core_table effect core).requests ≡ core_after_abort core core.pending
aborted_is (Answers answer stage last_packet) core h = absurd (cc)
aborted_is (Decides bytes) core h = absurd (cc)
aborted_is (Applies bytes) core h = effected_cuts core bytes core.pending h

-- ---- what all else leaves

opened_if : (core : CoreState) (o : Option ℕ) → LeavesRequests core (core_with_due_round core o)
opened_if core None = refl
opened_if core (Some r) = refl

opened_where : (core : CoreState) (o : Option ℕ) → LeavesRequests core (core_after_due core o)
opened_where core None = opened_if core (due_where (items_of core.layout) core.halted core.reports)
opened_where core (Some r) = refl

passes : (d : DeviceState) (core : CoreState) (awaits_ack : Bool) → LeavesRequests (core_of d) core
    → LeavesEndpoint d (after_ignored_packet d core awaits_ack)
passes d core awaits_ack leaves = record { address = refl; stage = refl; requests = leaves }

unheard_leaves : (d : DeviceState) (packet : Packet) → LeavesEndpoint d (device_after_ignored d packet)
unheard_leaves d Ack = passes d (core_after_ack (core_of d)) false refl
unheard_leaves d (Token kind addr endp) = passes d (core_of d) false refl
unheard_leaves d (Data one payload) = passes d (core_of d) false refl
unheard_leaves d Nak = passes d (core_of d) false refl
unheard_leaves d Stall = passes d (core_of d) false refl

leaves_if : (d : DeviceState) (b c : Bool) (polled last_packet other : DeviceState) → c ≡ false → LeavesEndpoint d polled → LeavesEndpoint d other
    → LeavesEndpoint d (if b then polled else if c then last_packet else other)
leaves_if d true c polled last_packet other none here there = here
leaves_if d false true polled last_packet other none here there = absurd (cc)
leaves_if d false false polled last_packet other none here there = there

pub polls_leave : (d : DeviceState) (packet : Packet) → is_control d packet ≡ false → LeavesEndpoint d (device_after d packet)
polls_leave d packet none =
    leaves_if d (is_poll d packet) (is_control d packet) (device_after_poll d (core_at_poll (core_of d)))
    (device_after_effect d (effect_of d packet)) (device_after_ignored d packet) none
    (passes d (core_at_poll (core_of d)) _ (opened_where (core_of d) (core_of d).current)) (unheard_leaves d packet)

change_leaves : (core : CoreState) (result : Result (List ControlState) ChangeFault)
    → (let standing : ReportState = elim result [
      | Ok states ↦
          record {
            snapshot = states;
            fixed = core.reports.fixed;
            frames = core.reports.frames;
            idle =
                core.reports.idle;
            aborted = core.reports.aborted;
          }
      | Err fault ↦ core.reports
    ] in standing ≡ with_idle core.reports.idle standing)
change_leaves core (Ok states) = refl
change_leaves core (Err fault) = refl

-- a device with another inside waits for the same
keeps_waits : (d : DeviceState) (core : CoreState) → LeavesRequests (core_of d) core → LeavesWaits d (with_core d core)
keeps_waits d core leaves = record { endpoint = record { address = refl; stage = refl; requests = leaves }; last_packet = refl; awaits_ack = refl }

pub changes_leave : (d : DeviceState) (change : Change) → LeavesWaits d (changed_device d change)
changes_leave d change =
    let result = snapshot_after (items_of (core_of d).layout) (core_of d).reports.snapshot change in
    keeps_waits d (core_of (changed_device d change))
    (ap (λ (standing : ReportState). record (core_of d) { reports = standing }) (change_leaves (core_of d) result))

pub frames_leave : (d : DeviceState) → LeavesWaits d (framed_device d)
frames_leave d = keeps_waits d (core_of (framed_device d)) refl

cut_idle : (o : Option ℕ) (d : ReportState) → with_abort o d ≡ with_idle d.idle (with_abort o d)
cut_idle None d = refl
cut_idle (Some r) d = refl

-- after this choice the endpoint is halted, or it is as it was
halts_where : (d : DeviceState) (configured : Bool)
    → (let behind : DeviceState = if configured then record (with_core d (halted_core (core_of d))) { awaits_ack = false } else d in
    LeavesEndpoint (with_halt d (core_of behind).halted) behind)
halts_where d true =
    let standing : ReportState = (core_of d).reports in
    record {
      address = refl;
      stage = refl;
      requests =
          ap (λ (aborted : ReportState). record (halted_core (core_of d)) { reports = aborted })
          (cut_idle (core_of d).current standing);
    }
halts_where d false = record { address = refl; stage = refl; requests = refl }

pub halts_leave : (d : DeviceState) → LeavesEndpoint (with_halt d (core_of (halted_device d)).halted) (halted_device d)
halts_leave d = halts_where d (core_of d).is_configured
