-- How far a host has come with its device, and what it may ask at each phase (USB 2.0, 9.1.1 and 9.4.5; the phases are
-- our choice).
use Rattle.std.specs.Prelude.{◌≤◌, Bool, true, false, not}
use Rattle.hid_layout.specs.Reports.{IsOfBus}
use Rattle.hid_requests.specs.declared.request.Request.{Request}
use Rattle.hid_requests.specs.declared.request.Request.TheVariants.{Device, Config, Report, Configure, Status, GetConfiguration, Idle, GetIdle, Protocol, GetProtocol, GetReport, SetReport, Halt, Clear, EndpointStatus}
use Rattle.hid_requests.specs.declared.request.Asking.{Asking}
use Rattle.usb_packet.specs.declared.packet.TheConstants.{MAX_ENDPOINT}
use Rattle.hid_host.specs.declared.phase.HostPhase.{HostPhase}
use Rattle.hid_host.specs.declared.phase.HostPhase.TheVariants.{Cold, Described, Parsed, Ready}
use Rattle.hid_host.specs.declared.phase.HostState.{HostState}
use Rattle.hid_host.specs.declared.phase.HostState.TheVariants as states
use Rattle.hid_host.specs.Ready.{ReadyHostState, ready_host_after_clear}

-- the state of a host, by its phase: it knows nothing of its device; what the configuration says; the layout of its
-- reports; or it has configured the device and polls it
abbrev pub state_of : HostPhase → HostState
state_of Cold = states.Cold
state_of (Described info) = states.Described
state_of (Parsed info layout) = states.Parsed
state_of (Ready known) = states.Ready

-- what concerns its reports is asked of a device whose report descriptor was read
abbrev pub knows_reports : HostState → Bool
knows_reports states.Parsed = true
knows_reports states.Ready = true
knows_reports _ = false

-- the endpoint of its reports is one that a configured device has
abbrev pub has_endpoint : HostState → Bool
has_endpoint states.Ready = true
has_endpoint _ = false

-- Whether a request may begin in a state: a configuration is read from cold, a report descriptor after it, a device is
-- configured after that, and a protocol is set before; what else concerns its reports is asked once they are known, and
-- what concerns the endpoint of reports once it is polled; device, status and configuration number at any time.
abbrev pub may_begin : Request → HostState → Bool
may_begin Device state = true
may_begin Config states.Cold = true
may_begin Config _ = false
may_begin Report states.Described = true
may_begin Report _ = false
may_begin Configure states.Parsed = true
may_begin Configure _ = false
may_begin Status state = true
may_begin GetConfiguration state = true
may_begin (Idle id time) state = knows_reports state
may_begin (GetIdle id) state = knows_reports state
may_begin (Protocol boot) states.Parsed = true
may_begin (Protocol boot) _ = false
may_begin GetProtocol state = knows_reports state
may_begin (GetReport kind id) state = knows_reports state
may_begin (SetReport kind id bytes) state = knows_reports state
may_begin Halt state = has_endpoint state
may_begin Clear state = has_endpoint state
may_begin EndpointStatus state = has_endpoint state

-- whether a host may poll: it is ready, and no Clear is pending, since none is in flight while the toggle starts again
abbrev pub may_poll : HostState → Bool → Bool
may_poll states.Ready clearing = not clearing
may_poll _ clearing = false

-- What a request is asked with: the length of the report descriptor and the endpoint of reports, if the configuration
-- was read; a host that polls has the endpoint alone.
abbrev pub asking_at : HostPhase → Asking
asking_at Cold = record { report_length = 0; endpoint = 0 }
asking_at (Described info) = record { report_length = info.report_length; endpoint = info.endpoint }
asking_at (Parsed info layout) = record { report_length = info.report_length; endpoint = info.endpoint }
asking_at (Ready known) = record { report_length = 0; endpoint = known.pipe.endp }

-- the phase after a Clear that is done: the pipe starts again
abbrev pub cleared_phase : HostPhase → HostPhase
cleared_phase (Ready known) = Ready (ready_host_after_clear known)
cleared_phase phase = phase

-- the host has configured its device and polls it
abbrev pub IsReady : HostPhase → Type 0
IsReady (Ready known) = Unit {0}
IsReady _ = ⊥

-- where the host is ready, this holds of what it keeps
abbrev pub IfReady : HostPhase → (ReadyHostState → Type 0) → Type 0
IfReady (Ready known) holds = holds known
IfReady _ holds = Unit {0}

-- the endpoint that a configuration names has a number
abbrev pub HasEndpoint : HostPhase → Type 0
HasEndpoint (Described info) = info.endpoint ≤ MAX_ENDPOINT
HasEndpoint (Parsed info layout) = (info.endpoint ≤ MAX_ENDPOINT) × IsOfBus layout
HasEndpoint _ = Unit {0}
