-- The host of one device, and the transfer that it began last (USB 2.0, 8.5.3, 9.1.1 and 9.4.5).
use Rattle.std.specs.Prelude.{◌≡◌, ℕ, Bool, true, false, not, ◌&&◌, ◌||◌, if◌then◌else◌, is_some, List, [], Option, Some, None, Result, Ok, Err, IfErr}
use Rattle.hid_layout.specs.Layout.{Contents}
use Rattle.usb_packet.specs.declared.packet.Packet.{Packet}
use Rattle.usb_transact.specs.declared.host.Took.{Took}
use Rattle.usb_transact.specs.declared.transaction.Fate.{Fate}
use Rattle.usb_transact.specs.Fate.{arrives_under}
use Rattle.usb_transact.specs.Host.{token_to}
use Rattle.usb_control.specs.declared.fault.ControlFault.TheVariants.{NoTransfer, Busy}
use Rattle.usb_control.specs.declared.host.HostStage.{HostStage}
use Rattle.usb_control.specs.declared.host.HostStage.TheVariants.{Done, Failed}
use Rattle.usb_control.specs.declared.host.Outcome.{Outcome}
use Rattle.usb_control.specs.declared.host.Progress.{Progress}
use Rattle.usb_control.specs.declared.host.Progress.TheVariants as progresses
use Rattle.usb_control.specs.Crossing.{Crosses, asks_for_data}
use Rattle.usb_control.specs.Device.{DevControlState}
use Rattle.usb_control.specs.Host.{HostTransferState, IsOutcomeOf, acknowledges, asks_at, at_start, payload_of, progress_of, token_of, transfer_after_reply}
use Rattle.usb_control.specs.Requests.{PrepareGives, ApplyGives, AnswerOf}
use Rattle.usb_control.specs.SetupBytes.{reads}
use Rattle.usb_control.specs.Transaction.{Transacts}
use Rattle.hid_requests.specs.declared.request.Asking.{Asking}
use Rattle.hid_requests.specs.declared.request.Request.{Request}
use Rattle.hid_requests.specs.declared.request.Request.TheVariants as requests
use Rattle.hid_requests.specs.RequestSetup.{sends_of, setup_for}
use Rattle.hid_host.specs.declared.fault.StackFault.{StackFault}
use Rattle.hid_host.specs.declared.fault.StackFault.TheVariants.{NotReady, Control}
use Rattle.hid_host.specs.declared.host.Transfer.{Transfer}
use Rattle.hid_host.specs.declared.phase.HostPhase.{HostPhase}
use Rattle.hid_host.specs.declared.phase.HostPhase.TheVariants.{Cold, Ready}
use Rattle.hid_host.specs.declared.phase.HostState.{HostState}
use Rattle.hid_host.specs.Conclusions.{Concludes, phase_after_answer}
use Rattle.hid_host.specs.Phase.{asking_at, may_begin, state_of}
use Rattle.hid_host.specs.Ready.{ReadyHostState, ready_host_after, ready_host_at_start}

-- The host of one device: the device's address, how far the host has come with it, the transfer that it began last, and
-- whether a Clear is pending: it was begun, and none has been done since.
pub record HostDeviceState : Type 0 where
  pub addr : ℕ
  pub phase : HostPhase
  pub transfer : Option Transfer
  pub clearing : Bool

-- a host that knows nothing of its device
abbrev pub cold_host : ℕ → HostDeviceState
cold_host addr = record { addr = addr; phase = Cold; transfer = None; clearing = false }

-- a host that is ready from the start, at this address with this layout: it polls endpoint 1 (our choice: a virtual
-- device has no other)
abbrev pub ready_host : ℕ → Contents → HostDeviceState
ready_host addr layout =
    record {
      addr = addr;
      phase = Ready (ready_host_at_start addr 1 layout);
      transfer = None;
      clearing =
          false;
    }

-- the token of a poll, by whether a Clear is pending
abbrev pub polls_at : HostPhase → Bool → Result Packet StackFault
polls_at (Ready known) false = Ok (token_to known.pipe)
polls_at _ clearing = Err NotReady

-- A host polls where it is ready and no Clear is pending.
abbrev pub polls_with : HostDeviceState → Result Packet StackFault
polls_with host = polls_at host.phase host.clearing

-- a ready host after it took what came
abbrev pub host_after_reply : HostDeviceState → ReadyHostState → Took → HostDeviceState
host_after_reply host known taken = record host { phase = Ready (ready_host_after known taken) }

-- a transfer at this stage, where it runs
abbrev pub running_at : Transfer → HostStage → Option Transfer
running_at transfer Done = None
running_at transfer (Failed fault) = None
running_at transfer _ = Some transfer

-- the transfer that runs, if one does
abbrev pub running : Option Transfer → Option Transfer
running None = None
running (Some transfer) = running_at transfer transfer.ends.stage

-- why a request can't begin, memory aside: another transfer runs, or the host is in another state
abbrev pub begin_refusal_in : Option Transfer → HostState → Request → Option StackFault
begin_refusal_in transfer host request =
    if is_some (running transfer) then Some (Control Busy)
    else if may_begin request host then None
    else Some NotReady

-- why a host can't begin a request: another transfer runs, or the host isn't in the state that the request needs
abbrev pub begin_refusal : HostDeviceState → Request → Option StackFault
begin_refusal host request = begin_refusal_in host.transfer (state_of host.phase) request

-- a transfer of a request that has yet to make its first try
abbrev pub transfer_of : ℕ → Asking → Request → Transfer
transfer_of addr asking request = record {
  request = request;
  ends = at_start addr (setup_for request asking) (sends_of request);
}

-- a request ends a halt of the endpoint that is polled
abbrev pub is_clear : Request → Bool
is_clear requests.Clear = true
is_clear _ = false

-- whether a Clear is pending after a request begins: it is from its begin on
abbrev pub clearing_with : Request → Bool → Bool
clearing_with request clearing = is_clear request || clearing

-- whether a Clear is pending after a try: until one is done. One that failed leaves it so, for its status may have taken
-- effect (8.5.3.3).
abbrev pub clearing_after : HostStage → Request → Bool → Bool
clearing_after Done request clearing = not (is_clear request) && clearing
clearing_after stage request clearing = clearing

-- the host with a transfer of a request that begins
abbrev pub host_after_begin : HostDeviceState → Request → HostDeviceState
host_after_begin host request = record host {
  transfer = Some (transfer_of host.addr (asking_at host.phase) request);
  clearing = clearing_with request host.clearing;
}

-- the bytes that a read got
abbrev pub read_bytes_of : HostTransferState → List ℕ
read_bytes_of ends = if reads ends.setup then ends.bytes else []

-- what is reported where a request is done, by what is made of its answer
abbrev pub conclusion_result : Result HostPhase StackFault → Result Progress StackFault
conclusion_result (Ok next) = Ok progresses.Done
conclusion_result (Err fault) = Err fault

-- What is concluded where a try leaves a transfer at this stage: on its answer where it is done, else nothing.
abbrev pub ConcludesAt :
    HostStage → ℕ → Request → HostPhase → List ℕ → Result Progress StackFault → HostPhase → Type 0
ConcludesAt Done addr request phase bytes result next =
    (made : Result HostPhase StackFault) × Concludes addr request phase bytes made
    × (result ≡ conclusion_result made) × (next ≡ phase_after_answer phase made)
ConcludesAt stage addr request phase bytes result next = (result ≡ Ok (progress_of stage)) × (next ≡ phase)

-- A try of the transfer that runs: what goes over the bus, what each end makes of it, and what the host concludes.
pub record TriesOnce {R : Type 0} (prepare_gives : PrepareGives R) (apply_gives : ApplyGives R)
    (answer_of : AnswerOf R) (fate : Fate) (host : HostDeviceState) (transfer : Transfer)
    (old : DevControlState R)
    (result : Result Progress StackFault) (host_then : HostDeviceState)
    (new : DevControlState R) : Type 0 where
  pub ends : HostTransferState
  pub next : HostPhase
  pub packets : Crosses prepare_gives apply_gives answer_of (arrives_under fate) transfer.ends old ends new
  pub transacts : Transacts prepare_gives apply_gives answer_of fate transfer.ends old ends new
  pub same : ends.setup ≡ transfer.ends.setup
  pub concludes : ConcludesAt ends.stage host.addr transfer.request host.phase
      (read_bytes_of ends) result next
  pub after : host_then ≡ record host {
    phase = next;
    transfer = Some (record transfer { ends = ends });
    clearing = clearing_after ends.stage transfer.request host.clearing;
  }

-- One control step: one try of the transfer that runs, whose answer is concluded on if it is done. If no transfer runs
-- nothing is sent, and nothing changes.
abbrev pub ControlSteps :
    {R : Type 0} → PrepareGives R → ApplyGives R → AnswerOf R → Fate → HostDeviceState → DevControlState R
    → Result Progress StackFault → HostDeviceState → DevControlState R → Type 0
ControlSteps prepare_gives apply_gives answer_of fate host old result after new =
    elim (running host.transfer) [
      | None ↦ (result ≡ Err (Control NoTransfer)) × (after ≡ host) × (new ≡ old)
      | Some transfer ↦ TriesOnce prepare_gives apply_gives answer_of fate host transfer old result after new
    ]

-- a request may end a round that is open: a halt, and the end of one
abbrev pub request_aborts_round : Request → Bool
request_aborts_round requests.Halt = true
request_aborts_round requests.Clear = true
request_aborts_round _ = false

-- whether the transfer that runs may abort a round: it is a Halt or a Clear
abbrev pub may_abort_round : Option Transfer → Bool
may_abort_round None = false
may_abort_round (Some transfer) = request_aborts_round transfer.request

-- The token of the next try of the transfer that runs. Where none does nothing is sent.
abbrev pub control_token_of : Option Transfer → Result Packet StackFault
control_token_of None = Err (Control NoTransfer)
control_token_of (Some transfer) = Ok (token_of transfer.ends)

-- The data that go with that token, after SETUP and OUT.
abbrev pub control_payload_of : Option Transfer → Option Packet
control_payload_of None = None
control_payload_of (Some transfer) = payload_of transfer.ends

-- what is reported of a try, and whether ACK is sent
abbrev pub result_with_ack : Bool → Result Progress StackFault → Result (Progress × Bool) StackFault
result_with_ack is_sent (Ok progress) = Ok (progress, is_sent)
result_with_ack is_sent (Err fault) = Err fault

-- whether ACK is sent after a try: where the answer was refused, if the token was IN
abbrev pub is_ack_sent : Result (Progress × Bool) StackFault → Packet → Bool
is_ack_sent (Ok taken) token = taken.1
is_ack_sent (Err fault) token = asks_for_data token

-- What the host makes of that which came after the token of a try, if something did: its transfer goes on by it, and the
-- answer is concluded on if the request is done. Of an answer that is refused ACK is sent exactly where the token was IN, and
-- nothing is refused of a Halt and a Clear.
pub record TakesReply (reply : Option Packet) (host : HostDeviceState) (transfer : Transfer)
    (result : Result (Progress × Bool) StackFault) (host_then : HostDeviceState) : Type 0 where
  pub next : HostPhase
  pub progress : Result Progress StackFault
  pub concludes : ConcludesAt (transfer_after_reply reply transfer.ends).stage host.addr
      transfer.request host.phase (read_bytes_of (transfer_after_reply reply transfer.ends))
      progress next
  pub result_is : result ≡ result_with_ack (acknowledges reply transfer.ends) progress
  pub refused : IfErr result (λ _. acknowledges reply transfer.ends ≡ asks_at transfer.ends.stage)
  pub of_others : IfErr result (λ _. request_aborts_round transfer.request ≡ false)
  pub after : host_then ≡ record host {
    phase = next;
    transfer = Some (record transfer { ends = transfer_after_reply reply transfer.ends });
    clearing =
        clearing_after (transfer_after_reply reply transfer.ends).stage transfer.request host.clearing;
  }

-- The host takes what came after the token of a try. If no transfer runs nothing changes. Example: ACK to SETUP leads on, and
-- no ACK is sent
abbrev pub TakesControl :
    Option Packet → HostDeviceState → Result (Progress × Bool) StackFault → HostDeviceState → Type 0
TakesControl reply host result after =
    elim (running host.transfer) [
      | None ↦ (result ≡ Err (Control NoTransfer)) × (after ≡ host)
      | Some transfer ↦ TakesReply reply host transfer result after
    ]

-- what is shown of the transfer that was begun last
abbrev pub ShowsLast : Option Transfer → Result Outcome StackFault → Type 0
ShowsLast None result = result ≡ Err (Control NoTransfer)
ShowsLast (Some transfer) (Ok outcome) = IsOutcomeOf outcome transfer.ends.stage (read_bytes_of transfer.ends)
ShowsLast (Some transfer) (Err fault) = ⊥
