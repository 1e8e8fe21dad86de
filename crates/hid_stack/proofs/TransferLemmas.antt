-- What a try of a transfer leaves of a device and its host, as their member (USB 2.0, 8.5.3 and 9.1.1).
use Rattle.std.proofs.Common.{◌≡◌, ◌∙◌, ℕ, Bool, true, false, List, [], Option, Some, None, refl, ap, sym, subst}
use Rattle.std.specs.Prelude.{◌||◌}
use Rattle.hid_snapshots.specs.declared.control_state.ControlState.{ControlState}
use Rattle.std.specs.Option.{option_map}
use Rattle.hid_report_descriptor.specs.declared.limits.Limits.TheVariants.{Bus}
use Rattle.hid_layout.specs.Controls.{Item, items_of}
use Rattle.hid_layout.specs.Layout.{Contents}
use Rattle.hid_layout.specs.Reports.{IsLayout}
use Rattle.hid_layout.proofs.WellFormed.{layout_of_accepted}
use Rattle.hid_snapshots.proofs.BlankLemmas.{initial_fits}
use Rattle.usb_transact.specs.declared.transaction.Fate.{Fate}
use Rattle.usb_transact.specs.declared.transaction.Fate.TheVariants.{Clean, TokenLost, ReplyLost, AckLost}
use Rattle.usb_control.specs.declared.device.LastPacket.{LastPacket}
use Rattle.usb_control.specs.declared.device.LastPacket.TheVariants as last_packets
use Rattle.usb_control.specs.declared.device.Stage.{Stage}
use Rattle.usb_control.specs.declared.host.HostStage.{HostStage}
use Rattle.usb_control.specs.declared.host.HostStage.TheVariants as stages
use Rattle.usb_control.specs.TryFunctions.{control_tried, effect_reached, host_tried}
use Rattle.usb_control.specs.Device.{Answers, Applies, Decides, DevControlState, Effect}
use Rattle.usb_control.specs.Host.{HostTransferState}
use Rattle.hid_requests.specs.declared.request.Request.{Request}
use Rattle.hid_requests.specs.declared.request.Request.TheVariants as requests
use Rattle.hid_bus.specs.LinkState.{LinkState, OpenRound}
use Rattle.hid_requests.specs.declared.codes.TheConstants.{REPORT_ENDPOINT as ENDPOINT}
use Rattle.hid_requests.specs.declared.class.Protocol.{Protocol}
use Rattle.hid_bus.specs.DeviceHistory.{BusEvent, Idles, Configures, state_after}
use Rattle.hid_bus.specs.DeviceHistory as bus
use Rattle.hid_bus.specs.ReportState.{with_abort, with_idle}
use Rattle.hid_device.specs.declared.decisions.PendingWrite.{PendingWrite}
use Rattle.hid_device.specs.declared.decisions.PendingWrite.TheVariants as pendings
use Rattle.hid_device.specs.EndpointIndependence.{effect_aborts_round, effect_sets_configuration}
use Rattle.hid_device.specs.Core.{CoreState, IsPiece, IsSound, cleared_core, configured_core, halted_core}
use Rattle.hid_device.specs.Outputs.{with_report}
use Rattle.hid_device.specs.RequestTable.{core_after_write, core_table, with_idle_time}
use Rattle.hid_device.specs.Device.{DeviceState, core_of}
use Rattle.hid_layout.specs.Parsing.{ParsesTo}
use Rattle.hid_host.specs.declared.host.Transfer.{Transfer}
use Rattle.hid_host.specs.declared.phase.HostPhase.{HostPhase}
use Rattle.hid_host.specs.declared.phase.HostPhase.TheVariants.{Cold, Described, Parsed, Ready}
use Rattle.hid_host.specs.declared.phase.HostState.TheVariants as states
use Rattle.hid_stack.specs.ControlSteps.{TakesMemory, core_after_effect, core_after_try, effect_ends_halt, phase_after, phase_after_try, transfer_after_try, try_aborts_round, try_clears, try_configures, with_answer_of}
use Rattle.hid_host.specs.Host.{HostDeviceState, clearing_after, is_clear}
use Rattle.hid_stack.specs.HostInvariant.{IsConsistentAt, StartsAtData0}
use Rattle.hid_host.specs.Phase.{may_begin, state_of}
use Rattle.hid_host.specs.Ready.{ReadyHostState, ready_host_after_clear, ready_host_at_start}
use Rattle.hid_stack.specs.Members.{control_of_member, core_of_member, effect_bus_event, endpoint_of, host_state_after, host_state_after_try, member_transfer_after, partial_report_of, piece_open, state_after_event_if, try_bus_event_of, write_bus_event}
use Rattle.hid_stack.specs.Slot.{AreConsistentEnds, ArePaired, HasReceivedUnless, IsUntouched, TogglesAgree, TogglesAgreeUnless, link_of, link_of_pair, pair_member, round_between}
use Rattle.hid_stack.specs.Sums.{AbortsNone}

-- ---- the device of a member is its device, but for what it heard last

-- the open round of a link state with this inside, by the toggles
abbrev between : CoreState → Bool → Bool → Option OpenRound
between core t e = round_between (items_of core.layout) t e core.current core.piece

round_report : (items : List Item) (t e : Bool) (current : Option ℕ) (piece : ℕ)
    → option_map (λ (round : OpenRound). round.report) (round_between items t e current piece) ≡ current
round_report items t e None piece = refl
round_report items t e (Some r) piece = refl

round_piece : (items : List Item) (t e : Bool) (current : Option ℕ) (piece : ℕ) → IsPiece items current piece → piece_open (round_between items t e current piece) ≡ piece
round_piece items t e None piece is = sym is
round_piece items t e (Some r) piece is = refl

core_by : (core : CoreState) (t e : Bool) → IsSound core
    → record core {
      current = option_map (λ (round : OpenRound). round.report) (between core t e);
      piece =
          piece_open (between core t e);
    } ≡ core
core_by core t e sound =
    ap (λ (o : Option ℕ). record core { current = o; piece = piece_open (between core t e) }) (round_report (items_of core.layout) t e core.current core.piece)
    ∙ ap (λ (n : ℕ). record core { piece = n }) (round_piece (items_of core.layout) t e core.current core.piece sound.piece)

core_with : (device : DeviceState) (addr : ℕ) (transfer : Option Transfer) (clearing : Bool) (phase : HostPhase) → IsSound (core_of device)
    → core_of_member
    (pair_member device (record { addr = addr; phase = phase; transfer = transfer; clearing = clearing }))
    ≡ core_of device
core_with device addr transfer clearing Cold sound = core_by (core_of device) (core_of device).toggle (core_of device).toggle sound
core_with device addr transfer clearing (Described info) sound = core_by (core_of device) (core_of device).toggle (core_of device).toggle sound
core_with device addr transfer clearing (Parsed info layout) sound = core_by (core_of device) (core_of device).toggle (core_of device).toggle sound
core_with device addr transfer clearing (Ready known) sound = core_by (core_of device) (core_of device).toggle known.pipe.expects sound

core_is : (device : DeviceState) (host : HostDeviceState) → IsSound (core_of device)
    → core_of_member (pair_member device host) ≡ core_of device
core_is device host sound = core_with device host.addr host.transfer host.clearing host.phase sound

-- what was heard last doesn't count
abbrev heard_as : CoreState → Stage → LastPacket → DevControlState CoreState
heard_as core stage last_packet = record { requests = core; stage = stage; last_packet = last_packet }

heard_apart : (fate : Fate) (ends : HostTransferState) (core : CoreState) (stage : Stage) (last_packet : LastPacket)
    → endpoint_of (control_tried core_table fate ends (heard_as core stage last_packet)) ≡ endpoint_of (control_tried core_table fate ends (heard_as core stage last_packets.Nothing))
heard_apart TokenLost ends core stage last_packet = refl
heard_apart Clean ends core stage last_packet = refl
heard_apart ReplyLost ends core stage last_packet = refl
heard_apart AckLost ends core stage last_packet = refl

ends_apart : (fate : Fate) (ends : HostTransferState) (core : CoreState) (stage : Stage) (last_packet : LastPacket)
    → host_tried core_table fate ends (heard_as core stage last_packet) ≡ host_tried core_table fate ends (heard_as core stage last_packets.Nothing)
ends_apart TokenLost ends core stage last_packet = refl
ends_apart Clean ends core stage last_packet = refl
ends_apart ReplyLost ends core stage last_packet = refl
ends_apart AckLost ends core stage last_packet = refl

bus_event_apart : (fate : Fate) (ends : HostTransferState) (core : CoreState) (stage : Stage) (last_packet : LastPacket)
    → try_bus_event_of fate ends (heard_as core stage last_packet)
    ≡ try_bus_event_of fate ends (heard_as core stage last_packets.Nothing)
bus_event_apart TokenLost ends core stage last_packet = refl
bus_event_apart Clean ends core stage last_packet = refl
bus_event_apart ReplyLost ends core stage last_packet = refl
bus_event_apart AckLost ends core stage last_packet = refl

-- so both sides of a try are those of the member
pub record SameTry (fate : Fate) (device : DeviceState) (host : HostDeviceState) (t : Transfer) : Type 0 where
  pub endpoint : endpoint_of (control_tried core_table fate t.ends device.control)
      ≡ endpoint_of (control_tried core_table fate t.ends (control_of_member (pair_member device host)))
  pub ends : transfer_after_try fate t device.control ≡ member_transfer_after fate (pair_member device host) t
  pub bus_event : try_bus_event_of fate t.ends device.control
      ≡ try_bus_event_of fate t.ends (control_of_member (pair_member device host))

pub same_try : (fate : Fate) (device : DeviceState) (host : HostDeviceState) (t : Transfer) → IsSound (core_of device)
    → SameTry fate device host t
same_try fate device host t sound =
    let c = device.control in
    let back : heard_as (core_of device) c.stage last_packets.Nothing ≡ control_of_member (pair_member device host) =
    sym (ap (λ (r : CoreState). heard_as r c.stage last_packets.Nothing) (core_is device host sound)) in
    record {
      endpoint = heard_apart fate t.ends (core_of device) c.stage c.last_packet ∙ ap (λ (x : DevControlState CoreState). endpoint_of (control_tried core_table fate t.ends x)) back;
      ends = ends_apart fate t.ends (core_of device) c.stage c.last_packet ∙ ap (host_tried core_table fate t.ends) back;
      bus_event =
          bus_event_apart fate t.ends (core_of device) c.stage c.last_packet ∙ ap (try_bus_event_of fate t.ends) back;
    }

-- ---- the device after a try

-- the rounds of a device that isn't polled yet
pub record NoRounds (core : CoreState) : Type 0 where
  pub no_round : core.current ≡ None
  pub even : core.toggle ≡ false

-- What a try leaves of a device where this happens to it: a configuration takes effect for a host that isn't ready,
-- and the end of a halt for one with a clear that is pending.
pub record Leaves (core then : CoreState) (bus_event : Option BusEvent) : Type 0 where
  pub config : then.config ≡ core.config
  pub descriptor : then.descriptor ≡ core.descriptor
  pub layout : then.layout ≡ core.layout
  pub none : NoRounds core → NoRounds then
  pub link : (phase : HostPhase) → (bus_event ≡ Some Configures → state_of phase ≡ states.Parsed)
      → link_of then phase ≡ state_after_event_if (items_of core.layout) (link_of core phase) bus_event
  pub configured : (bus_event ≡ Some Configures → ⊥) → then.is_configured ≡ core.is_configured
  pub even : (known : ReadyHostState) (clearing : Bool) → (bus_event ≡ Some Configures → ⊥)
      → (bus_event ≡ Some bus.Clears → clearing ≡ true)
      → TogglesAgreeUnless (core.halted || clearing) core.toggle known.pipe.expects core.current
      → TogglesAgreeUnless (then.halted || clearing) then.toggle known.pipe.expects then.current
  pub got : (known : ReadyHostState) (clearing : Bool) → (bus_event ≡ Some Configures → ⊥)
      → (bus_event ≡ Some bus.Clears → clearing ≡ true)
      → HasReceivedUnless (core.halted || clearing) core.layout core.reports.fixed
      (link_of_pair core known).current known.collected
      → HasReceivedUnless (then.halted || clearing) then.layout then.reports.fixed
      (link_of_pair then known).current known.collected

-- the link state but for what is kept at endpoint 0
link_kept : (core other : CoreState) (protocol : Protocol) (outputs : List (List ℕ)) (phase : HostPhase)
    → link_of (with_answer_of (record core { protocol = protocol; outputs = outputs }) other) phase
    ≡ link_of core phase
link_kept core other protocol outputs Cold = refl
link_kept core other protocol outputs (Described info) = refl
link_kept core other protocol outputs (Parsed info layout) = refl
link_kept core other protocol outputs (Ready known) = refl

idles_set : (core other : CoreState) (idle : List ℕ) (phase : HostPhase)
    → link_of (with_answer_of (record core { reports = with_idle idle core.reports }) other) phase
    ≡ state_after (items_of core.layout) (link_of core phase) (Idles idle)
idles_set core other idle Cold = refl
idles_set core other idle (Described info) = refl
idles_set core other idle (Parsed info layout) = refl
idles_set core other idle (Ready known) = refl

configured_with : (core other : CoreState) (phase : HostPhase) → state_of phase ≡ states.Parsed
    → link_of (with_answer_of (configured_core core) other) phase
    ≡ state_after (items_of core.layout) (link_of core phase) Configures
configured_with core other Cold parsed = absurd (cc)
configured_with core other (Described info) parsed = absurd (cc)
configured_with core other (Parsed info layout) parsed = refl
configured_with core other (Ready known) parsed = absurd (cc)

-- a link state whose open round is aborted
abbrev cut_to : Bool → Bool → CoreState → List ControlState → Option ℕ → LinkState
cut_to odd halted core view report =
    record { reports = with_abort report core.reports; current = None; toggle = odd; view = view; halted = halted }

abbrev view_at : CoreState → HostPhase → List ControlState
view_at core phase = (link_of core phase).view

pub halted_with : (core other : CoreState) (phase : HostPhase)
    → link_of (with_answer_of (halted_core core) other) phase
    ≡ state_after (items_of core.layout) (link_of core phase) bus.Halts
halted_with core other Cold = ap (cut_to core.toggle true core (view_at core Cold)) (sym (round_report (items_of core.layout) core.toggle core.toggle core.current core.piece))
halted_with core other (Described info) = ap (cut_to core.toggle true core (view_at core Cold)) (sym (round_report (items_of core.layout) core.toggle core.toggle core.current core.piece))
halted_with core other (Parsed info layout) = ap (cut_to core.toggle true core (view_at core Cold)) (sym (round_report (items_of core.layout) core.toggle core.toggle core.current core.piece))
halted_with core other (Ready known) = ap (cut_to core.toggle true core known.view) (sym (round_report (items_of core.layout) core.toggle known.pipe.expects core.current core.piece))

cleared_with : (core other : CoreState) (phase : HostPhase)
    → link_of (with_answer_of (cleared_core core) other) phase
    ≡ state_after (items_of core.layout) (link_of core phase) bus.Clears
cleared_with core other Cold = ap (cut_to false false core (view_at core Cold)) (sym (round_report (items_of core.layout) core.toggle core.toggle core.current core.piece))
cleared_with core other (Described info) = ap (cut_to false false core (view_at core Cold)) (sym (round_report (items_of core.layout) core.toggle core.toggle core.current core.piece))
cleared_with core other (Parsed info layout) = ap (cut_to false false core (view_at core Cold)) (sym (round_report (items_of core.layout) core.toggle core.toggle core.current core.piece))
cleared_with core other (Ready known) = ap (cut_to false false core known.view) (sym (round_report (items_of core.layout) core.toggle known.pipe.expects core.current core.piece))

nothing_leaves : (core other : CoreState) (protocol : Protocol) (outputs : List (List ℕ))
    → Leaves core (with_answer_of (record core { protocol = protocol; outputs = outputs }) other) None
nothing_leaves core other protocol outputs = record {
  config = refl;
  descriptor = refl;
  layout = refl;
  none = λ n. record { no_round = n.no_round; even = n.even };
  link = λ phase parsed. link_kept core other protocol outputs phase;
  configured = λ apart. refl;
  even = λ known clearing apart effect_ends_halt even. even;
  got = λ known clearing apart effect_ends_halt got. got;
}

-- where a clear is pending nothing is said of toggles
clearing_even : (core : CoreState) (known : ReadyHostState) (clearing : Bool) → clearing ≡ true
    → TogglesAgreeUnless (false || clearing) false known.pipe.expects None
clearing_even core known clearing is =
    subst (λ (b : Bool). TogglesAgreeUnless (false || b) false known.pipe.expects None) (sym is) tt

-- where a clear is pending nothing is said of the bytes that came
clearing_got : (layout : Contents) (parts : List ControlState) (bytes : List ℕ) (clearing : Bool) → clearing ≡ true
    → HasReceivedUnless (false || clearing) layout parts None bytes
clearing_got layout parts bytes clearing is =
    subst (λ (b : Bool). HasReceivedUnless (false || b) layout parts None bytes) (sym is) tt

written_leaves : (core other : CoreState) (bytes : List ℕ) (pending : PendingWrite)
    → Leaves core (with_answer_of (core_after_write core bytes pending) other) (write_bus_event core pending)
written_leaves core other bytes pendings.Nothing = nothing_leaves core other core.protocol core.outputs
written_leaves core other bytes (pendings.Keep i) =
    nothing_leaves core other core.protocol (with_report core.outputs i bytes)
written_leaves core other bytes (pendings.Protocol protocol) = nothing_leaves core other protocol core.outputs
written_leaves core other bytes (pendings.Idle report time) = record {
  config = refl;
  descriptor = refl;
  layout = refl;
  none = λ n. record { no_round = n.no_round; even = n.even };
  link = λ phase parsed. idles_set core other (with_idle_time core.reports.idle report time) phase;
  configured = λ apart. refl;
  even = λ known clearing apart effect_ends_halt even. even;
  got = λ known clearing apart effect_ends_halt got. got;
}
written_leaves core other bytes pendings.Configure = record {
  config = refl;
  descriptor = refl;
  layout = refl;
  none = λ n. record { no_round = refl; even = refl };
  link = λ phase parsed. configured_with core other phase (parsed refl);
  configured = λ apart. absurd (apart refl);
  even = λ known clearing apart effect_ends_halt even. absurd (apart refl);
  got = λ known clearing apart effect_ends_halt got. absurd (apart refl);
}
written_leaves core other bytes pendings.Halt = record {
  config = refl;
  descriptor = refl;
  layout = refl;
  none = λ n. record { no_round = refl; even = n.even };
  link = λ phase parsed. halted_with core other phase;
  configured = λ apart. refl;
  even = λ known clearing apart effect_ends_halt even. tt;
  got = λ known clearing apart effect_ends_halt got. tt;
}
written_leaves core other bytes pendings.Clear = record {
  config = refl;
  descriptor = refl;
  layout = refl;
  none = λ n. record { no_round = refl; even = refl };
  link = λ phase parsed. cleared_with core other phase;
  configured = λ apart. refl;
  even = λ known clearing apart effect_ends_halt even. clearing_even core known clearing (effect_ends_halt refl);
  got = λ known clearing apart effect_ends_halt got. clearing_got core.layout
      (with_abort core.current core.reports).fixed known.collected clearing (effect_ends_halt refl);
}

effect_leaves : (effect : Effect) (core other : CoreState)
    → Leaves core (with_answer_of (core_after_effect effect core) other) (effect_bus_event effect core)
effect_leaves (Answers answer stage last_packet) core other = nothing_leaves core other core.protocol core.outputs
effect_leaves (Decides bytes) core other = nothing_leaves core other core.protocol core.outputs
effect_leaves (Applies bytes) core other = written_leaves core other bytes core.pending

brought_leaves : (fate : Fate) (ends : HostTransferState) (control : DevControlState CoreState) (other : CoreState)
    → Leaves control.requests (with_answer_of (core_after_try fate ends control) other)
    (try_bus_event_of fate ends control)
brought_leaves TokenLost ends control other = nothing_leaves control.requests other control.requests.protocol control.requests.outputs
brought_leaves Clean ends control other = effect_leaves (effect_reached core_table ends control) control.requests other
brought_leaves ReplyLost ends control other = effect_leaves (effect_reached core_table ends control) control.requests other
brought_leaves AckLost ends control other = effect_leaves (effect_reached core_table ends control) control.requests other

pub leaves_by : (fate : Fate) (ends : HostTransferState) (control : DevControlState CoreState) (then : CoreState)
    → then ≡ with_answer_of (core_after_try fate ends control) then
    → Leaves control.requests then (try_bus_event_of fate ends control)
leaves_by fate ends control then is =
    subst (λ (c : CoreState). Leaves control.requests c (try_bus_event_of fate ends control)) (sym is)
    (brought_leaves fate ends control then)

-- a configuration is brought about where this is told
written_configures : (bytes : List ℕ) (core : CoreState) (pending : PendingWrite)
    → write_bus_event core pending ≡ Some Configures → effect_sets_configuration (Applies bytes) pending ≡ true
written_configures bytes core pendings.Nothing h = absurd (cc)
written_configures bytes core pendings.Configure h = refl
written_configures bytes core (pendings.Keep i) h = absurd (cc)
written_configures bytes core (pendings.Idle report time) h = absurd (cc)
written_configures bytes core (pendings.Protocol protocol) h = absurd (cc)
written_configures bytes core pendings.Halt h = absurd (cc)
written_configures bytes core pendings.Clear h = absurd (cc)

effect_configures : (effect : Effect) (core : CoreState) → effect_bus_event effect core ≡ Some Configures
    → effect_sets_configuration effect core.pending ≡ true
effect_configures (Answers answer stage last_packet) core h = absurd (cc)
effect_configures (Decides bytes) core h = absurd (cc)
effect_configures (Applies bytes) core h = written_configures bytes core core.pending h

pub brought_configures : (fate : Fate) (ends : HostTransferState) (control : DevControlState CoreState)
    → try_bus_event_of fate ends control ≡ Some Configures → try_configures fate ends control ≡ true
brought_configures TokenLost ends control h = absurd (cc)
brought_configures Clean ends control h = effect_configures (effect_reached core_table ends control) control.requests h
brought_configures ReplyLost ends control h = effect_configures (effect_reached core_table ends control) control.requests h
brought_configures AckLost ends control h = effect_configures (effect_reached core_table ends control) control.requests h

-- the end of a halt is brought about where this is told
written_clears : (bytes : List ℕ) (core : CoreState) (pending : PendingWrite)
    → write_bus_event core pending ≡ Some bus.Clears → effect_ends_halt (Applies bytes) pending ≡ true
written_clears bytes core pendings.Nothing h = absurd (cc)
written_clears bytes core pendings.Configure h = absurd (cc)
written_clears bytes core (pendings.Keep i) h = absurd (cc)
written_clears bytes core (pendings.Idle report time) h = absurd (cc)
written_clears bytes core (pendings.Protocol protocol) h = absurd (cc)
written_clears bytes core pendings.Halt h = absurd (cc)
written_clears bytes core pendings.Clear h = refl

effect_clears : (effect : Effect) (core : CoreState) → effect_bus_event effect core ≡ Some bus.Clears
    → effect_ends_halt effect core.pending ≡ true
effect_clears (Answers answer stage last_packet) core h = absurd (cc)
effect_clears (Decides bytes) core h = absurd (cc)
effect_clears (Applies bytes) core h = written_clears bytes core core.pending h

pub brought_clears : (fate : Fate) (ends : HostTransferState) (control : DevControlState CoreState)
    → try_bus_event_of fate ends control ≡ Some bus.Clears → try_clears fate ends control ≡ true
brought_clears TokenLost ends control h = absurd (cc)
brought_clears Clean ends control h = effect_clears (effect_reached core_table ends control) control.requests h
brought_clears ReplyLost ends control h = effect_clears (effect_reached core_table ends control) control.requests h
brought_clears AckLost ends control h = effect_clears (effect_reached core_table ends control) control.requests h

-- a write that aborts no round has no bus event that aborts one
written_cuts : (bytes : List ℕ) (core : CoreState) (pending : PendingWrite)
    → (effect_aborts_round (Applies bytes) pending ≡ true → ⊥) → AbortsNone (write_bus_event core pending)
written_cuts bytes core pendings.Nothing none = tt
written_cuts bytes core pendings.Configure none = tt
written_cuts bytes core (pendings.Keep i) none = tt
written_cuts bytes core (pendings.Idle report time) none = tt
written_cuts bytes core (pendings.Protocol protocol) none = tt
written_cuts bytes core pendings.Halt none = none refl
written_cuts bytes core pendings.Clear none = none refl

effect_cuts : (effect : Effect) (core : CoreState) → (effect_aborts_round effect core.pending ≡ true → ⊥)
    → AbortsNone (effect_bus_event effect core)
effect_cuts (Answers answer stage last_packet) core none = tt
effect_cuts (Decides bytes) core none = tt
effect_cuts (Applies bytes) core none = written_cuts bytes core core.pending none

pub brought_cuts : (fate : Fate) (ends : HostTransferState) (control : DevControlState CoreState)
    → (try_aborts_round fate ends control ≡ true → ⊥) → AbortsNone (try_bus_event_of fate ends control)
brought_cuts TokenLost ends control none = tt
brought_cuts Clean ends control none = effect_cuts (effect_reached core_table ends control) control.requests none
brought_cuts ReplyLost ends control none = effect_cuts (effect_reached core_table ends control) control.requests none
brought_cuts AckLost ends control none = effect_cuts (effect_reached core_table ends control) control.requests none

-- where the host goes on, the link state stays: it becomes ready with its initial view, and no round is open
configured_at : (core : CoreState) (addr : ℕ) (phase : HostPhase) → core.current ≡ None
    → link_of core (Ready (ready_host_at_start addr ENDPOINT core.layout)) ≡ link_of core Cold
configured_at core addr phase none =
    let expecting : Bool → Option ℕ → LinkState =
    λ expects current. record
    (link_of core Cold) {
      current =
          round_between (items_of core.layout) core.toggle expects current core.piece;
    } in
    ap (expecting false) none ∙ sym (ap (expecting core.toggle) none)

brought_link : (request : Request) (addr : ℕ) (core : CoreState) (phase : HostPhase)
    → may_begin request (state_of phase) ≡ true → (state_of phase ≡ states.Parsed → core.current ≡ None)
    → (is_clear request ≡ true → core.current ≡ None)
    → link_of core (phase_after request addr core phase) ≡ link_of core phase
brought_link requests.Device addr core phase needs none restarts = refl
brought_link requests.Status addr core phase needs none restarts = refl
brought_link requests.GetConfiguration addr core phase needs none restarts = refl
brought_link (requests.Idle id time) addr core phase needs none restarts = refl
brought_link (requests.GetIdle id) addr core phase needs none restarts = refl
brought_link (requests.Protocol boot) addr core phase needs none restarts = refl
brought_link requests.GetProtocol addr core phase needs none restarts = refl
brought_link (requests.GetReport kind id) addr core phase needs none restarts = refl
brought_link (requests.SetReport kind id set) addr core phase needs none restarts = refl
brought_link requests.Halt addr core phase needs none restarts = refl
brought_link requests.EndpointStatus addr core phase needs none restarts = refl
brought_link requests.Clear addr core Cold needs none restarts = refl
brought_link requests.Clear addr core (Described info) needs none restarts = refl
brought_link requests.Clear addr core (Parsed info layout) needs none restarts = refl
brought_link requests.Clear addr core (Ready known) needs none restarts =
    let expecting : Bool → Option ℕ → LinkState =
    λ expects current. record
    (link_of_pair core known) {
      current =
          round_between (items_of core.layout) core.toggle expects current core.piece;
    } in
    ap (expecting false) (restarts refl) ∙ sym (ap (expecting known.pipe.expects) (restarts refl))
brought_link requests.Config addr core Cold needs none restarts = refl
brought_link requests.Config addr core (Described info) needs none restarts = absurd (cc)
brought_link requests.Config addr core (Parsed info layout) needs none restarts = absurd (cc)
brought_link requests.Config addr core (Ready known) needs none restarts = absurd (cc)
brought_link requests.Report addr core Cold needs none restarts = absurd (cc)
brought_link requests.Report addr core (Described info) needs none restarts = refl
brought_link requests.Report addr core (Parsed info layout) needs none restarts = absurd (cc)
brought_link requests.Report addr core (Ready known) needs none restarts = absurd (cc)
brought_link requests.Configure addr core Cold needs none restarts = absurd (cc)
brought_link requests.Configure addr core (Described info) needs none restarts = absurd (cc)
brought_link requests.Configure addr core (Parsed info layout) needs none restarts =
    configured_at core addr (Parsed info layout) (none refl)
brought_link requests.Configure addr core (Ready known) needs none restarts = absurd (cc)

pub brought_at_link : (stage : HostStage) (request : Request) (addr : ℕ) (core : CoreState) (phase : HostPhase)
    → may_begin request (state_of phase) ≡ true → (state_of phase ≡ states.Parsed → core.current ≡ None)
    → (is_clear request ≡ true → stage ≡ stages.Done → core.current ≡ None)
    → link_of core (phase_after_try stage request addr core phase) ≡ link_of core phase
brought_at_link stages.Done request addr core phase needs none restarts =
    brought_link request addr core phase needs none (λ is. restarts is refl)
brought_at_link stages.Setup request addr core phase needs none restarts = refl
brought_at_link (stages.DataIn one) request addr core phase needs none restarts = refl
brought_at_link (stages.DataOut sent one) request addr core phase needs none restarts = refl
brought_at_link stages.StatusIn request addr core phase needs none restarts = refl
brought_at_link stages.StatusOut request addr core phase needs none restarts = refl
brought_at_link (stages.Failed fault) request addr core phase needs none restarts = refl

-- ---- how far the host comes

state_brought : (request : Request) (addr : ℕ) (core : CoreState) (phase : HostPhase)
    → state_of (phase_after request addr core phase) ≡ host_state_after request (state_of phase)
state_brought requests.Device addr core phase = refl
state_brought requests.Config addr core phase = refl
state_brought requests.Report addr core phase = refl
state_brought requests.Configure addr core phase = refl
state_brought requests.Status addr core phase = refl
state_brought requests.GetConfiguration addr core phase = refl
state_brought (requests.Idle id time) addr core phase = refl
state_brought (requests.GetIdle id) addr core phase = refl
state_brought (requests.Protocol boot) addr core phase = refl
state_brought requests.GetProtocol addr core phase = refl
state_brought (requests.GetReport kind id) addr core phase = refl
state_brought (requests.SetReport kind id set) addr core phase = refl
state_brought requests.Halt addr core phase = refl
state_brought requests.EndpointStatus addr core phase = refl
state_brought requests.Clear addr core Cold = refl
state_brought requests.Clear addr core (Described info) = refl
state_brought requests.Clear addr core (Parsed info layout) = refl
state_brought requests.Clear addr core (Ready known) = refl

pub state_brought_at : (stage : HostStage) (request : Request) (addr : ℕ) (core : CoreState) (phase : HostPhase)
    → state_of (phase_after_try stage request addr core phase) ≡ host_state_after_try stage request (state_of phase)
state_brought_at stages.Done request addr core phase = state_brought request addr core phase
state_brought_at stages.Setup request addr core phase = refl
state_brought_at (stages.DataIn one) request addr core phase = refl
state_brought_at (stages.DataOut sent one) request addr core phase = refl
state_brought_at stages.StatusIn request addr core phase = refl
state_brought_at stages.StatusOut request addr core phase = refl
state_brought_at (stages.Failed fault) request addr core phase = refl

-- ---- the two stay together

-- where the host isn't ready no round was opened
pub unready_none : (device : DeviceState) (clearing : Bool) (phase : HostPhase)
    → AreConsistentEnds device clearing phase → state_of phase ≡ states.Parsed → NoRounds (core_of device)
unready_none device clearing Cold together is = absurd (cc)
unready_none device clearing (Described info) together is = absurd (cc)
unready_none device clearing (Parsed info layout) together is = record { no_round = together.no_round; even = together.even }
unready_none device clearing (Ready known) together is = absurd (cc)

ready_apart : (bus_event : Option BusEvent) (known : ReadyHostState)
    → (bus_event ≡ Some Configures → state_of (Ready known) ≡ states.Parsed) → bus_event ≡ Some Configures → ⊥
ready_apart bus_event known parsed is = let wrong = parsed is in absurd (cc)

-- with the host where it was
pub still_together : (device device_then : DeviceState) (clearing : Bool) (phase : HostPhase)
    (bus_event : Option BusEvent) → (bus_event ≡ Some Configures → state_of phase ≡ states.Parsed)
    → (bus_event ≡ Some bus.Clears → clearing ≡ true)
    → Leaves (core_of device) (core_of device_then) bus_event
    → device_then.addr ≡ device.addr → IsSound (core_of device_then) → AreConsistentEnds device clearing phase
    → AreConsistentEnds device_then clearing phase
still_together device device_then clearing phase bus_event parsed effect_ends_halt l home sound together =
    by_phase phase parsed together
  where
    untouched : IsUntouched (core_of device) → IsUntouched (core_of device_then)
    untouched u =
        let none = l.none (record { no_round = u.no_round; even = u.even }) in
        record { sound = sound; no_round = none.no_round; even = none.even }

    paired : (known : ReadyHostState) → (bus_event ≡ Some Configures → ⊥) → ArePaired device known clearing
        → ArePaired device_then known clearing
    paired known apart pair = record {
      configured = l.configured apart ∙ pair.configured;
      layout = pair.layout ∙ sym l.layout;
      addr = pair.addr ∙ sym home;
      endp = pair.endp;
      even = l.even known clearing apart effect_ends_halt pair.even;
      got = l.got known clearing apart effect_ends_halt pair.got;
      sound = sound;
      laid = pair.laid;
      fits = pair.fits;
    }

    by_phase : (p : HostPhase) → (bus_event ≡ Some Configures → state_of p ≡ states.Parsed)
        → AreConsistentEnds device clearing p → AreConsistentEnds device_then clearing p
    by_phase Cold needs t = untouched t
    by_phase (Described info) needs t = untouched t
    by_phase (Parsed info layout) needs t = untouched t
    by_phase (Ready known) needs t = paired known (ready_apart bus_event known needs) t

-- with the host gone on
laid_by : (descriptor : List ℕ) (layout : Contents) → ParsesTo descriptor layout → IsLayout layout
laid_by descriptor layout lays = subst IsLayout (sym lays.laid) (layout_of_accepted Bus descriptor lays.items lays.accepted)

-- toggles that start again are the same
even_anew : (b toggle : Bool) (current : Option ℕ) → toggle ≡ false → current ≡ None
    → TogglesAgreeUnless b toggle false current
even_anew true toggle current even none = tt
even_anew false toggle current even none = subst (λ (o : Option ℕ). TogglesAgree toggle false o) (sym none) even

-- nothing has come where no round is open
got_anew : (b : Bool) (core : CoreState) (known : ReadyHostState) → known.collected ≡ [] → core.current ≡ None
    → HasReceivedUnless b core.layout core.reports.fixed (link_of_pair core known).current known.collected
got_anew true core known nothing none = tt
got_anew false core known nothing none =
    nothing ∙ sym
    (ap (λ (o : Option ℕ). partial_report_of core.layout core.reports.fixed
    (round_between (items_of core.layout) core.toggle known.pipe.expects o core.piece)) none)

starts_together : (device : DeviceState) (clearing : Bool) (addr : ℕ) → IsSound (core_of device)
    → IsConsistentAt (Ready (ready_host_at_start addr ENDPOINT (core_of device).layout)) device.addr (core_of device)
    → NoRounds (core_of device)
    → AreConsistentEnds device clearing (Ready (ready_host_at_start addr ENDPOINT (core_of device).layout))
starts_together device clearing addr sound knows none =
    let laid : IsLayout (core_of device).layout = laid_by (core_of device).descriptor (core_of device).layout sound.lays in
    record {
      configured = knows.1;
      layout = refl;
      addr = knows.2;
      endp = refl;
      even = even_anew ((core_of device).halted || clearing) (core_of device).toggle (core_of device).current none.even none.no_round;
      got = got_anew ((core_of device).halted || clearing) (core_of device)
          (ready_host_at_start addr ENDPOINT (core_of device).layout) refl none.no_round;
      sound = sound;
      laid = laid;
      fits = initial_fits (core_of device).layout laid;
    }

clears_together : (device : DeviceState) (clearing : Bool) (known : ReadyHostState) → StartsAtData0 (core_of device)
    → ArePaired device known clearing → ArePaired device (ready_host_after_clear known) false
clears_together device clearing known restarts pair = record {
  configured = pair.configured;
  layout = pair.layout;
  addr = pair.addr;
  endp = pair.endp;
  even = even_anew ((core_of device).halted || false) (core_of device).toggle (core_of device).current restarts.toggle restarts.current;
  got = got_anew ((core_of device).halted || false) (core_of device)
      (ready_host_after_clear known) refl restarts.current;
  sound = pair.sound;
  laid = pair.laid;
  fits = pair.fits;
}

goes_together : (request : Request) (addr : ℕ) (device : DeviceState) (clearing : Bool) (phase : HostPhase) → may_begin request (state_of phase) ≡ true → IsSound (core_of device)
    → (state_of phase ≡ states.Parsed → NoRounds (core_of device))
    → (is_clear request ≡ true → StartsAtData0 (core_of device))
    → IsConsistentAt (phase_after request addr (core_of device) phase) device.addr (core_of device)
    → AreConsistentEnds device clearing phase
    → AreConsistentEnds device (clearing_after stages.Done request clearing)
    (phase_after request addr (core_of device) phase)
goes_together requests.Device addr device clearing phase needs sound none restarts knows t = t
goes_together requests.Status addr device clearing phase needs sound none restarts knows t = t
goes_together requests.GetConfiguration addr device clearing phase needs sound none restarts knows t = t
goes_together (requests.Idle id time) addr device clearing phase needs sound none restarts knows t = t
goes_together (requests.GetIdle id) addr device clearing phase needs sound none restarts knows t = t
goes_together (requests.Protocol boot) addr device clearing phase needs sound none restarts knows t = t
goes_together requests.GetProtocol addr device clearing phase needs sound none restarts knows t = t
goes_together (requests.GetReport kind id) addr device clearing phase needs sound none restarts knows t = t
goes_together (requests.SetReport kind id set) addr device clearing phase needs sound none restarts knows t = t
goes_together requests.Halt addr device clearing phase needs sound none restarts knows t = t
goes_together requests.EndpointStatus addr device clearing phase needs sound none restarts knows t = t
goes_together requests.Clear addr device clearing Cold needs sound none restarts knows t = absurd (cc)
goes_together requests.Clear addr device clearing (Described info) needs sound none restarts knows t = absurd (cc)
goes_together requests.Clear addr device clearing (Parsed info layout) needs sound none restarts knows t = absurd (cc)
goes_together requests.Clear addr device clearing (Ready known) needs sound none restarts knows t = clears_together device clearing known (restarts refl) t
goes_together requests.Config addr device clearing Cold needs sound none restarts knows t = t
goes_together requests.Config addr device clearing (Described info) needs sound none restarts knows t = absurd (cc)
goes_together requests.Config addr device clearing (Parsed info layout) needs sound none restarts knows t = absurd (cc)
goes_together requests.Config addr device clearing (Ready known) needs sound none restarts knows t = absurd (cc)
goes_together requests.Report addr device clearing Cold needs sound none restarts knows t = absurd (cc)
goes_together requests.Report addr device clearing (Described info) needs sound none restarts knows t = t
goes_together requests.Report addr device clearing (Parsed info layout) needs sound none restarts knows t = absurd (cc)
goes_together requests.Report addr device clearing (Ready known) needs sound none restarts knows t = absurd (cc)
goes_together requests.Configure addr device clearing Cold needs sound none restarts knows t = absurd (cc)
goes_together requests.Configure addr device clearing (Described info) needs sound none restarts knows t = absurd (cc)
goes_together requests.Configure addr device clearing (Parsed info layout) needs sound none restarts knows t = starts_together device clearing addr sound knows (none refl)
goes_together requests.Configure addr device clearing (Ready known) needs sound none restarts knows t = absurd (cc)

pub goes_together_at : (stage : HostStage) (request : Request) (addr : ℕ) (device : DeviceState) (clearing : Bool) (phase : HostPhase) → may_begin request (state_of phase) ≡ true → IsSound (core_of device)
    → (state_of phase ≡ states.Parsed → NoRounds (core_of device))
    → (is_clear request ≡ true → stage ≡ stages.Done → StartsAtData0 (core_of device))
    → IsConsistentAt (phase_after_try stage request addr (core_of device) phase) device.addr (core_of device)
    → AreConsistentEnds device clearing phase
    → AreConsistentEnds device (clearing_after stage request clearing)
    (phase_after_try stage request addr (core_of device) phase)
goes_together_at stages.Done request addr device clearing phase needs sound none restarts knows t = goes_together request addr device clearing phase needs sound none (λ is. restarts is refl) knows t
goes_together_at stages.Setup request addr device clearing phase needs sound none restarts knows t = t
goes_together_at (stages.DataIn one) request addr device clearing phase needs sound none restarts knows t = t
goes_together_at (stages.DataOut sent one) request addr device clearing phase needs sound none restarts knows t = t
goes_together_at stages.StatusIn request addr device clearing phase needs sound none restarts knows t = t
goes_together_at stages.StatusOut request addr device clearing phase needs sound none restarts knows t = t
goes_together_at (stages.Failed fault) request addr device clearing phase needs sound none restarts knows t = t

-- where memory runs out for what a request gives, it is no clear
pub takes_no_clear : (request : Request) (clearing : Bool) → TakesMemory request
    → clearing_after stages.Done request clearing ≡ clearing
takes_no_clear requests.Report clearing takes = refl
takes_no_clear requests.Configure clearing takes = refl
takes_no_clear requests.Device clearing takes = absurd takes
takes_no_clear requests.Config clearing takes = absurd takes
takes_no_clear requests.Status clearing takes = absurd takes
takes_no_clear requests.GetConfiguration clearing takes = absurd takes
takes_no_clear (requests.Idle id time) clearing takes = absurd takes
takes_no_clear (requests.GetIdle id) clearing takes = absurd takes
takes_no_clear (requests.Protocol boot) clearing takes = absurd takes
takes_no_clear requests.GetProtocol clearing takes = absurd takes
takes_no_clear (requests.GetReport kind id) clearing takes = absurd takes
takes_no_clear (requests.SetReport kind id set) clearing takes = absurd takes
takes_no_clear requests.Halt clearing takes = absurd takes
takes_no_clear requests.Clear clearing takes = absurd takes
takes_no_clear requests.EndpointStatus clearing takes = absurd takes
