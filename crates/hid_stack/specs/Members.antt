-- A device of a bus with its host, and what each step of the bus makes of the two (USB 2.0, 5.7.3, 7.1.7.5, 8.5, 8.5.3,
-- 8.6, 9.1.1, 9.1.1.3, 9.4.5 and 9.4.7; HID 1.11, 7.2; our choice).
use Rattle.std.specs.Prelude.{ℕ, ◌*◌, Bool, true, false, ◌||◌, if◌then◌else◌, List, [], ◌∷◌, replicate, take, Option, Some, None}
use Rattle.std.specs.List.{cons_option}
use Rattle.std.specs.Option.{option_map}
use Rattle.hid_layout.specs.Layout.{Contents}
use Rattle.hid_layout.specs.Controls.{Item, items_of}
use Rattle.hid_snapshots.specs.declared.control_state.ControlState.{ControlState}
use Rattle.hid_snapshots.specs.declared.event.Event.{Event}
use Rattle.hid_snapshots.specs.PartBytes.{part_bytes}
use Rattle.hid_snapshots.specs.ControlStates.{blank}
use Rattle.usb_transact.specs.declared.transaction.Fate.{Fate}
use Rattle.usb_transact.specs.declared.transaction.Fate.TheVariants.{TokenLost}
use Rattle.usb_control.specs.declared.device.LastPacket.TheVariants as last_packets
use Rattle.usb_control.specs.declared.device.Stage.{Stage}
use Rattle.usb_control.specs.declared.device.Stage.TheVariants as stages
use Rattle.usb_control.specs.declared.host.HostStage.{HostStage}
use Rattle.usb_control.specs.declared.host.HostStage.TheVariants.{Done}
use Rattle.usb_control.specs.TryFunctions.{control_tried, effect_reached}
use Rattle.usb_control.specs.Device.{Applies, DevControlState, Effect, idle_control}
use Rattle.usb_control.specs.Host.{HostTransferState}
use Rattle.hid_requests.specs.declared.request.Request.{Request}
use Rattle.hid_requests.specs.declared.request.Request.TheVariants as requests
use Rattle.hid_requests.specs.declared.class.Protocol.{Protocol}
use Rattle.hid_bus.specs.DeviceHistory.{BusEvent, Own, Idles, Configures, state_after, delivered_events}
use Rattle.hid_bus.specs.DeviceHistory as bus_events
use Rattle.hid_bus.specs.Rounds.{OwnStep, Changes, Frame, Polls, crossed_count}
use Rattle.hid_bus.specs.LinkState.{LinkState, OpenRound, expected_toggle, has_all_pieces, initial_link}
use Rattle.hid_device.specs.declared.config.Config.{Config}
use Rattle.hid_device.specs.declared.decisions.PendingWrite.{PendingWrite}
use Rattle.hid_device.specs.declared.decisions.PendingWrite.TheVariants as pendings
use Rattle.hid_device.specs.Core.{CoreState, reset_core}
use Rattle.hid_device.specs.RequestTable.{core_table, with_idle_time}
use Rattle.hid_device.specs.Inputs.{input_count}
use Rattle.hid_device.specs.Creation.{new_core}
use Rattle.hid_host.specs.declared.fault.StackFault.{StackFault}
use Rattle.hid_host.specs.declared.host.Transfer.{Transfer}
use Rattle.hid_host.specs.declared.phase.HostState.{HostState}
use Rattle.hid_host.specs.declared.phase.HostState.TheVariants as states
use Rattle.hid_stack.specs.ControlSteps.{transfer_after_try}
use Rattle.hid_host.specs.Host.{begin_refusal_in, clearing_after, clearing_with, request_aborts_round, running, transfer_of}
use Rattle.hid_stack.specs.HostInvariant.{asking_of}
use Rattle.hid_host.specs.Phase.{may_poll}

-- What endpoint 0 of a device keeps.
pub record Endpoint : Type 0 where
  -- whether SET_CONFIGURATION took effect
  pub is_configured : Bool
  -- the protocol, boot or report
  pub protocol : Protocol
  -- the Output and Feature reports as they were set last
  pub outputs : List (List ℕ)
  -- the answer to the last request, if it has one
  pub answer : Option (List ℕ)
  -- what is carried out when the status of the last request is asked for
  pub pending : PendingWrite
  -- how far the transfer of the last request has come
  pub stage : Stage

-- A device with its host, as the bus has them.
pub record Member : Type 0 where
  -- the address of the device
  pub addr : ℕ
  -- the configuration that the device was made with
  pub config : Config
  -- the report descriptor that the device was made with
  pub descriptor : List ℕ
  -- the layout of the reports
  pub layout : Contents
  -- the link state of the device and its host
  pub link : LinkState
  -- endpoint 0 of the device
  pub endpoint : Endpoint
  -- the state of the host
  pub host : HostState
  -- the transfer that the host began last
  pub transfer : Option Transfer
  -- whether a clear is pending
  pub clearing : Bool
  -- The toggle that the host expects while the endpoint is halted or a clear is pending. (Otherwise the open round gives it.)
  pub held : Option Bool

-- A step of the bus for one device: a step of its schedule, a request of its host, a try of the transfer that runs, a
-- halt by the device itself, or a reset.
pub data MemberStep : Type 0 where
  Scheduled : OwnStep → MemberStep
  Begins : Request → MemberStep
  Controls : Fate → MemberStep
  Halts : MemberStep
  Resets : MemberStep

-- ---- devices that were just attached

-- endpoint 0 of a device that no request has reached
abbrev pub new_endpoint : Bool → CoreState → Endpoint
new_endpoint is_configured core = record {
  is_configured = is_configured;
  protocol = core.protocol;
  outputs = core.outputs;
  answer = None;
  pending = pendings.Nothing;
  stage = stages.Idle;
}

-- a device and its host that are freshly configured, with nothing pressed and nothing moved
abbrev pub fresh_member : ℕ → Config → List ℕ → Contents → Member
fresh_member addr config descriptor layout = record {
  addr = addr;
  config = config;
  descriptor = descriptor;
  layout = layout;
  link = initial_link (items_of layout) (blank (items_of layout)) (replicate (input_count layout.reports) 0);
  endpoint = new_endpoint true (new_core config descriptor layout);
  host = states.Ready;
  transfer = None;
  clearing = false;
  held = None;
}

-- a device as it was made, with a host that knows nothing of it
abbrev pub cold_member : ℕ → Config → List ℕ → Contents → Member
cold_member addr config descriptor layout = record {
  addr = addr;
  config = config;
  descriptor = descriptor;
  layout = layout;
  link = record {
    reports = (new_core config descriptor layout).reports;
    current = None;
    toggle = false;
    view = blank (items_of layout);
    halted = false;
  };
  endpoint = new_endpoint false (new_core config descriptor layout);
  host = states.Cold;
  transfer = None;
  clearing = false;
  held = None;
}

-- ---- the open round

-- the place of the open round's current piece, from 0, if a round is open
abbrev pub piece_open : Option OpenRound → ℕ
piece_open None = 0
piece_open (Some round) = round.piece

-- of the bytes of a report the pieces that crossed, until the last one has
abbrev pub crossed_bytes : List ℕ → OpenRound → List ℕ
crossed_bytes bytes round =
    if has_all_pieces round then [] else take (64 * crossed_count round.piece round.crossed) bytes

-- What a host has of a report that isn't whole yet: of the parts that were fixed as its round opened, the pieces that
-- crossed. Example: 64 bytes of 100 after the first piece
abbrev pub partial_report_of : Contents → List ControlState → Option OpenRound → List ℕ
partial_report_of layout parts None = []
partial_report_of layout parts (Some round) = crossed_bytes (part_bytes layout round.report parts) round

-- ---- the device's side of a transfer

-- the core of the member's device
abbrev pub core_of_member : Member → CoreState
core_of_member m = record {
  layout = m.layout;
  config = m.config;
  descriptor = m.descriptor;
  is_configured = m.endpoint.is_configured;
  reports = m.link.reports;
  current = option_map (λ round. round.report) m.link.current;
  piece = piece_open m.link.current;
  toggle = m.link.toggle;
  protocol = m.endpoint.protocol;
  outputs = m.endpoint.outputs;
  answer = m.endpoint.answer;
  pending = m.endpoint.pending;
  halted = m.link.halted;
}

-- the member's endpoint 0 between transactions: a try begins with a token, so what was received before doesn't count
abbrev pub control_of_member : Member → DevControlState CoreState
control_of_member m = record { requests = core_of_member m; stage = m.endpoint.stage; last_packet = last_packets.Nothing }

-- what a member keeps of endpoint 0
abbrev pub endpoint_of : DevControlState CoreState → Endpoint
endpoint_of control = record {
  is_configured = control.requests.is_configured;
  protocol = control.requests.protocol;
  outputs = control.requests.outputs;
  answer = control.requests.answer;
  pending = control.requests.pending;
  stage = control.stage;
}

-- ---- what happens to the device by a step

-- whether the host of a member polls: it is ready, and no clear is pending
abbrev pub polls_it : Member → Bool
polls_it m = may_poll m.host m.clearing

-- the bus event of a poll, where the host polls
abbrev pub poll_bus_event : Bool → Fate → Option BusEvent
poll_bus_event true fate = Some (Own (Polls fate))
poll_bus_event false fate = None

-- the bus event of a step of the device's schedule: a poll has one only where the host polls
abbrev pub step_bus_event : Bool → OwnStep → Option BusEvent
step_bus_event polls (Changes change) = Some (Own (Changes change))
step_bus_event polls Frame = Some (Own Frame)
step_bus_event polls (Polls fate) = poll_bus_event polls fate

-- the bus event of a halt by the device itself: a device that isn't configured has no endpoint to halt
abbrev pub halt_bus_event_of : Bool → Option BusEvent
halt_bus_event_of true = Some bus_events.Halts
halt_bus_event_of false = None

-- the bus event of a write that is carried out: a configuration, idle times that are set, a halt, or the end of one
abbrev pub write_bus_event : CoreState → PendingWrite → Option BusEvent
write_bus_event core pendings.Configure = Some Configures
write_bus_event core pendings.Halt = Some bus_events.Halts
write_bus_event core pendings.Clear = Some bus_events.Clears
write_bus_event core (pendings.Idle report time) = Some (Idles (with_idle_time core.reports.idle report time))
write_bus_event core _ = None

-- the bus event of a packet's effect at endpoint 0: only a write that takes effect has one
abbrev pub effect_bus_event : Effect → CoreState → Option BusEvent
effect_bus_event (Applies bytes) core = write_bus_event core core.pending
effect_bus_event _ core = None

-- the bus event of a try by its fate: only packets that arrive have an effect
abbrev pub try_bus_event_of : Fate → HostTransferState → DevControlState CoreState → Option BusEvent
try_bus_event_of TokenLost ends control = None
try_bus_event_of fate ends control =
    effect_bus_event (effect_reached core_table ends control) control.requests

-- the bus event of a try of the transfer that runs, if one runs
abbrev pub try_bus_event : Fate → Member → Option Transfer → Option BusEvent
try_bus_event fate m None = None
try_bus_event fate m (Some t) = try_bus_event_of fate t.ends (control_of_member m)

-- The bus event of a step of a device and its host, if it has one.
abbrev pub bus_event_of_step : Member → MemberStep → Option BusEvent
bus_event_of_step m (Scheduled x) = step_bus_event (polls_it m) x
bus_event_of_step m (Begins request) = None
bus_event_of_step m (Controls fate) = try_bus_event fate m (running m.transfer)
bus_event_of_step m Halts = halt_bus_event_of m.endpoint.is_configured
bus_event_of_step m Resets = Some bus_events.Resets

-- the link state after a bus event, if there is one
abbrev pub state_after_event_if : List Item → LinkState → Option BusEvent → LinkState
state_after_event_if items s None = s
state_after_event_if items s (Some bus_event) = state_after items s bus_event

-- the events that a bus event delivers, if there is one
abbrev pub events_of_event_if : List Item → LinkState → Option BusEvent → List Event
events_of_event_if items s None = []
events_of_event_if items s (Some bus_event) = delivered_events items s bus_event

-- ---- the toggle of its host

-- the toggle that the host of a member expects if it is ready: the one that is held, or that of the link state.
-- Example: DATA1 after a lost ACK and a halt
abbrev pub expected_toggle_of : Member → Bool
expected_toggle_of m = elim m.held [ Some expects ↦ expects | None ↦ expected_toggle m.link ]

-- a toggle, where it is held
abbrev pub toggle_if_held : Bool → Bool → Option Bool
toggle_if_held true expects = Some expects
toggle_if_held false expects = None

-- the toggle that a host holds: a ready host does while the endpoint is halted or a clear is pending
abbrev pub member_held_toggle : HostState → Bool → Bool → Option Bool
member_held_toggle states.Ready holds expects = toggle_if_held holds expects
member_held_toggle _ holds expects = None

-- the member whose host expects this toggle, which is held or follows from the open round
abbrev pub with_held_toggle : Bool → Member → Member
with_held_toggle expects m =
    record m { held = member_held_toggle m.host (m.link.halted || m.clearing) expects }

-- the toggle that a host expects after a try: DATA0 once a configuration or a clear is done
abbrev pub expected_toggle_after_try : HostStage → Request → Bool → Bool
expected_toggle_after_try Done requests.Configure expects = false
expected_toggle_after_try Done requests.Clear expects = false
expected_toggle_after_try stage request expects = expects

-- ---- the member after a step

-- why a request can't begin, memory aside
abbrev pub begin_refusal_at : Member → Request → Option StackFault
begin_refusal_at m request = begin_refusal_in m.transfer m.host request

-- the member once a request began, unless it is refused: its transfer has yet to make its first try, and a clear is
-- pending from then on
abbrev pub member_after_begin : Option StackFault → Member → Request → Member
member_after_begin (Some fault) m request = m
member_after_begin None m request =
    with_held_toggle (expected_toggle_of m) (record m {
      transfer = Some (transfer_of m.addr (asking_of (core_of_member m)) request);
      clearing = clearing_with request m.clearing;
    })

-- the state to which a request that is done leads
abbrev pub host_state_after : Request → HostState → HostState
host_state_after requests.Config host = states.Described
host_state_after requests.Report host = states.Parsed
host_state_after requests.Configure host = states.Ready
host_state_after _ host = host

-- the state of the host after a try that leaves its transfer at a stage
abbrev pub host_state_after_try : HostStage → Request → HostState → HostState
host_state_after_try Done request host = host_state_after request host
host_state_after_try stage request host = host

-- the host's side of the transfer after a try
abbrev pub member_transfer_after : Fate → Member → Transfer → HostTransferState
member_transfer_after fate m t = transfer_after_try fate t (control_of_member m)

-- the member after a try of a transfer, by the state of its host: both ends go on by the functions of a try
abbrev pub member_after_try_in : Fate → Member → Transfer → HostState → Member
member_after_try_in fate m t host =
    with_held_toggle
    (expected_toggle_after_try (member_transfer_after fate m t).stage t.request (expected_toggle_of m))
    (record {
      addr = m.addr;
      config = m.config;
      descriptor = m.descriptor;
      layout = m.layout;
      link = state_after_event_if (items_of m.layout) m.link (try_bus_event fate m (Some t));
      endpoint = endpoint_of (control_tried core_table fate t.ends (control_of_member m));
      host = host;
      transfer = Some (record t { ends = member_transfer_after fate m t });
      clearing = clearing_after (member_transfer_after fate m t).stage t.request m.clearing;
      held = None;
    })

-- the member after a try of the transfer that runs: where its request is done the host goes on
abbrev pub member_after_try : Fate → Member → Option Transfer → Member
member_after_try fate m None = m
member_after_try fate m (Some t) =
    member_after_try_in fate m t
    (host_state_after_try (member_transfer_after fate m t).stage t.request m.host)

-- the member after a halt by the device itself, which ends the open round
abbrev pub member_after_halt : Bool → Member → Member
member_after_halt true m =
    with_held_toggle (expected_toggle_of m)
    (record m { link = state_after (items_of m.layout) m.link bus_events.Halts })
member_after_halt false m = m

-- the member after a reset: the device isn't configured, its host knows nothing of it, and the transfer and what is
-- pending are forgotten
abbrev pub member_after_reset : Member → Member
member_after_reset m = record {
  addr = m.addr;
  config = m.config;
  descriptor = m.descriptor;
  layout = m.layout;
  link = state_after (items_of m.layout) m.link bus_events.Resets;
  endpoint = endpoint_of (idle_control (reset_core (core_of_member m)));
  host = states.Cold;
  transfer = None;
  clearing = false;
  held = None;
}

-- The member after a step: what is refused changes nothing.
abbrev pub member_after : Member → MemberStep → Member
member_after m (Scheduled x) =
    record m { link = state_after_event_if (items_of m.layout) m.link (step_bus_event (polls_it m) x) }
member_after m (Begins request) = member_after_begin (begin_refusal_at m request) m request
member_after m (Controls fate) = member_after_try fate m (running m.transfer)
member_after m Halts = member_after_halt m.endpoint.is_configured m
member_after m Resets = member_after_reset m

-- The member after a try at which memory runs out: for what may be dropped, and then nothing is tried, or for what a
-- request that is done gives, and then the host stays where it is.
abbrev pub member_out_of_memory : Fate → Member → Option Transfer → Member
member_out_of_memory fate m None = m
member_out_of_memory fate m (Some t) =
    if request_aborts_round t.request then m else member_after_try_in fate m t m.host

-- the bus event of a try at which memory runs out for what its request gives
abbrev pub out_of_memory_bus_event : Fate → Member → Option Transfer → Option BusEvent
out_of_memory_bus_event fate m None = None
out_of_memory_bus_event fate m (Some t) =
    if request_aborts_round t.request then None else try_bus_event fate m (Some t)

-- The member after a list of steps.
abbrev pub member_after_all : Member → List MemberStep → Member
member_after_all m [] = m
member_after_all m (x ∷ steps) = member_after_all (member_after m x) steps

-- The bus events of a list of steps of a device and its host.
abbrev pub bus_events_of_steps : Member → List MemberStep → List BusEvent
bus_events_of_steps m [] = []
bus_events_of_steps m (x ∷ steps) =
    cons_option (bus_event_of_step m x) (bus_events_of_steps (member_after m x) steps)
