-- A try of a transfer at the host, by single packets.
use Rattle.std.proofs.Common.{◌≡◌, ◌∙◌, ℕ, Bool, true, false, List, Option, Some, None, Result, Ok, Err, refl, sym, ap, subst}
use Rattle.std.specs.Prelude.{is_some, IfErr, IsErrAnd, if◌then◌else◌, nat_lt, ◌+◌}
use Rattle.usb_packet.specs.declared.packet.Packet.{Packet}
use Rattle.usb_packet.specs.declared.packet.Packet.TheVariants.{Token, Data, Ack, Nak, Stall}
use Rattle.usb_transact.specs.declared.transaction.Fate.{Fate}
use Rattle.usb_transact.specs.Fate.{arrives_under}
use Rattle.usb_control.specs.declared.fault.ControlFault.TheVariants.{BusFault, NoTransfer}
use Rattle.usb_control.specs.declared.host.HostStage.{HostStage}
use Rattle.usb_control.specs.declared.host.HostStage.TheVariants as stages
use Rattle.usb_control.specs.declared.host.Progress.{Progress}
use Rattle.usb_control.specs.Crossing.{Acknowledges, TokenIsAnswered}
use Rattle.usb_control.specs.Device.{DevControlState}
use Rattle.usb_control.specs.Host.{HostTransferState, IsRunning, acknowledges, acknowledges_at, after_no_answer, after_other_answer, asks_at, payload_of, token_of, transfer_after_reply, transfer_after_reply_at, with_failure}
use Rattle.usb_control.specs.Requests.{PrepareGives, ApplyGives, AnswerOf}
use Rattle.usb_control.proofs.CrossingLemmas.{crosses_by_token, crosses_transacts, token_asks}
use Rattle.usb_control.proofs.KeepsLemmas.{took_keeps}
use Rattle.hid_requests.specs.declared.request.Request.{Request}
use Rattle.hid_requests.specs.declared.request.Request.TheVariants as requests
use Rattle.hid_host.specs.declared.fault.StackFault.{StackFault}
use Rattle.hid_host.specs.declared.fault.StackFault.TheVariants.{Control}
use Rattle.hid_host.specs.declared.host.Transfer.{Transfer}
use Rattle.hid_host.specs.declared.phase.HostPhase.{HostPhase}
use Rattle.hid_host.specs.Conclusions.{Concludes}
use Rattle.hid_host.specs.Host.{ConcludesAt, ControlSteps, HostDeviceState, TakesControl, TakesReply, TriesOnce, clearing_after, conclusion_result, control_payload_of, control_token_of, is_ack_sent, read_bytes_of, request_aborts_round, result_with_ack, running, running_at}

-- a transfer that runs is the one that is tried
runs : (t : Transfer) (stage : HostStage) → is_some (running_at t stage) ≡ true → running_at t stage ≡ Some t
runs t stages.Setup busy = refl
runs t (stages.DataIn one) busy = refl
runs t (stages.DataOut sent one) busy = refl
runs t stages.StatusIn busy = refl
runs t stages.StatusOut busy = refl
runs t stages.Done busy = absurd (cc)
runs t (stages.Failed fault) busy = absurd (cc)

-- none runs where none is found to
pub none_runs : (o : Option Transfer) → is_some o ≡ false → o ≡ None
none_runs None idle = refl
none_runs (Some t) idle = absurd (cc)

-- one that runs is at a stage that has another try
stage_runs : (t one : Transfer) (stage : HostStage) → running_at one stage ≡ Some t → IsRunning stage
stage_runs t one stages.Setup is = refl
stage_runs t one (stages.DataIn toggle) is = refl
stage_runs t one (stages.DataOut sent toggle) is = refl
stage_runs t one stages.StatusIn is = refl
stage_runs t one stages.StatusOut is = refl
stage_runs t one stages.Done is = absurd (cc)
stage_runs t one (stages.Failed fault) is = absurd (cc)

-- it is the one that was begun last
same_runs : (t one : Transfer) (stage : HostStage) → running_at one stage ≡ Some t → one ≡ t
same_runs t one stages.Setup is = cc
same_runs t one (stages.DataIn toggle) is = cc
same_runs t one (stages.DataOut sent toggle) is = cc
same_runs t one stages.StatusIn is = cc
same_runs t one stages.StatusOut is = cc
same_runs t one stages.Done is = absurd (cc)
same_runs t one (stages.Failed fault) is = absurd (cc)

is_running : (last : Option Transfer) (t : Transfer) → running last ≡ Some t → IsRunning t.ends.stage
is_running None t is = absurd (cc)
is_running (Some one) t is =
    subst (λ (x : Transfer). IsRunning x.ends.stage) (same_runs t one one.ends.stage is) (stage_runs t one one.ends.stage is)

-- the token and the data of the transfer that runs
pub token_runs : (t : Transfer) → is_some (running (Some t)) ≡ true → Ok (token_of t.ends) ≡ control_token_of (running (Some t))
token_runs t busy = sym (ap control_token_of (runs t t.ends.stage busy))

pub payload_runs : (t : Transfer) → is_some (running (Some t)) ≡ true → payload_of t.ends ≡ control_payload_of (running (Some t))
payload_runs t busy = sym (ap control_payload_of (runs t t.ends.stage busy))

-- a transfer that runs isn't done
running_not_done : (stage : HostStage) → IsRunning stage → stage ≡ stages.Done → ⊥
running_not_done stages.Setup going done = cc
running_not_done (stages.DataIn one) going done = cc
running_not_done (stages.DataOut sent one) going done = cc
running_not_done stages.StatusIn going done = cc
running_not_done stages.StatusOut going done = cc
running_not_done stages.Done going done = cc
running_not_done (stages.Failed fault) going done = cc

-- an answer that takes it no further leaves it running, or fails it
silence_not_done : (host : HostTransferState) → IsRunning host.stage → (after_no_answer host).stage ≡ stages.Done → ⊥
silence_not_done host going =
    elim (nat_lt host.tries 2) as
    (λ (b : Bool). (if b then record host { tries = host.tries + 1 } else with_failure BusFault host).stage ≡ stages.Done → ⊥) [
      | true ↦ (λ done. running_not_done host.stage going done)
      | false ↦ (λ done. cc)
    ]

other_not_done : (reply : Option Packet) (host : HostTransferState) → IsRunning host.stage
    → (after_other_answer reply host).stage ≡ stages.Done → ⊥
other_not_done (Some Nak) host going done = running_not_done host.stage going done
other_not_done (Some Stall) host going done = cc
other_not_done (Some Ack) host going done = silence_not_done host going done
other_not_done (Some (Token kind addr endp)) host going done = silence_not_done host going done
other_not_done (Some (Data one payload)) host going done = silence_not_done host going done
other_not_done None host going done = silence_not_done host going done

-- what ends a transfer well is acknowledged exactly where data were asked for
in_acknowledges : (reply : Option Packet) (stage : HostStage) (host : HostTransferState) (after : HostStage)
    → asks_at stage ≡ true → IsRunning host.stage → after ≡ (transfer_after_reply_at stage reply host).stage → after ≡ stages.Done
    → acknowledges_at stage reply after ≡ true
in_acknowledges (Some (Data toggle payload)) (stages.DataIn one) host after asks going is done =
    subst (λ (s : HostStage). acknowledges_at (stages.DataIn one) (Some (Data toggle payload)) s ≡ true) (sym done) refl
in_acknowledges (Some (Data toggle payload)) stages.StatusIn host after asks going is done =
    subst (λ (s : HostStage). acknowledges_at stages.StatusIn (Some (Data toggle payload)) s ≡ true) (sym done) refl
in_acknowledges None (stages.DataIn one) host after asks going is done = absurd (other_not_done None host going (sym is ∙ done))
in_acknowledges None stages.StatusIn host after asks going is done = absurd (other_not_done None host going (sym is ∙ done))
in_acknowledges (Some Ack) (stages.DataIn one) host after asks going is done = absurd (other_not_done (Some Ack) host going (sym is ∙ done))
in_acknowledges (Some Ack) stages.StatusIn host after asks going is done = absurd (other_not_done (Some Ack) host going (sym is ∙ done))
in_acknowledges (Some Nak) (stages.DataIn one) host after asks going is done = absurd (other_not_done (Some Nak) host going (sym is ∙ done))
in_acknowledges (Some Nak) stages.StatusIn host after asks going is done = absurd (other_not_done (Some Nak) host going (sym is ∙ done))
in_acknowledges (Some Stall) (stages.DataIn one) host after asks going is done = absurd (other_not_done (Some Stall) host going (sym is ∙ done))
in_acknowledges (Some Stall) stages.StatusIn host after asks going is done = absurd (other_not_done (Some Stall) host going (sym is ∙ done))
in_acknowledges (Some (Token kind addr endp)) (stages.DataIn one) host after asks going is done = absurd (other_not_done (Some (Token kind addr endp)) host going (sym is ∙ done))
in_acknowledges (Some (Token kind addr endp)) stages.StatusIn host after asks going is done = absurd (other_not_done (Some (Token kind addr endp)) host going (sym is ∙ done))
in_acknowledges reply stages.Setup host after asks going is done = absurd (cc)
in_acknowledges reply (stages.DataOut sent one) host after asks going is done = absurd (cc)
in_acknowledges reply stages.StatusOut host after asks going is done = absurd (cc)
in_acknowledges reply stages.Done host after asks going is done = absurd (cc)
in_acknowledges reply (stages.Failed fault) host after asks going is done = absurd (cc)

done_acknowledges : (reply : Option Packet) (stage : HostStage) (host : HostTransferState) (after : HostStage)
    → IsRunning host.stage → after ≡ (transfer_after_reply_at stage reply host).stage → after ≡ stages.Done
    → acknowledges_at stage reply after ≡ asks_at stage
done_acknowledges reply stages.Setup host after going is done = refl
done_acknowledges reply (stages.DataIn one) host after going is done = in_acknowledges reply (stages.DataIn one) host after refl going is done
done_acknowledges reply (stages.DataOut sent one) host after going is done = refl
done_acknowledges reply stages.StatusIn host after going is done = in_acknowledges reply stages.StatusIn host after refl going is done
done_acknowledges reply stages.StatusOut host after going is done = refl
done_acknowledges reply stages.Done host after going is done = refl
done_acknowledges reply (stages.Failed fault) host after going is done = refl

-- only an answer to a request that is done is refused
refused_is_done : (stage : HostStage) (addr : ℕ) (request : Request) (phase next : HostPhase) (host : HostTransferState) (fault : StackFault)
    → ConcludesAt stage addr request phase (read_bytes_of host) (Err fault) next → stage ≡ stages.Done
refused_is_done stages.Done addr request phase next host fault concludes = refl
refused_is_done stages.Setup addr request phase next host fault (is, same) = absurd (cc)
refused_is_done (stages.DataIn one) addr request phase next host fault (is, same) = absurd (cc)
refused_is_done (stages.DataOut sent one) addr request phase next host fault (is, same) = absurd (cc)
refused_is_done stages.StatusIn addr request phase next host fault (is, same) = absurd (cc)
refused_is_done stages.StatusOut addr request phase next host fault (is, same) = absurd (cc)
refused_is_done (stages.Failed failed) addr request phase next host fault (is, same) = absurd (cc)

-- nothing is refused of a Halt and a Clear
never_refused : (addr : ℕ) (request : Request) (phase : HostPhase) (bytes : List ℕ) (fault : StackFault)
    → Concludes addr request phase bytes (Err fault) → request_aborts_round request ≡ false
never_refused addr requests.Halt phase bytes fault made = absurd (cc)
never_refused addr requests.Clear phase bytes fault made = absurd (cc)
never_refused addr request phase bytes fault made = refl

made_refused : (addr : ℕ) (request : Request) (phase : HostPhase) (bytes : List ℕ) (fault : StackFault) (made : Result HostPhase StackFault)
    → Concludes addr request phase bytes made → (let it : Result Progress StackFault = Err fault in it ≡ conclusion_result made)
    → request_aborts_round request ≡ false
made_refused addr request phase bytes fault (Ok next) concludes told = absurd (cc)
made_refused addr request phase bytes fault (Err other) concludes told = never_refused addr request phase bytes other concludes

refused_request : (stage : HostStage) (addr : ℕ) (request : Request) (phase next : HostPhase) (bytes : List ℕ) (fault : StackFault)
    → stage ≡ stages.Done → ConcludesAt stage addr request phase bytes (Err fault) next → request_aborts_round request ≡ false
refused_request stage addr request phase next bytes fault done concludes =
    let at : ConcludesAt stages.Done addr request phase bytes (Err fault) next =
    subst (λ (s : HostStage). ConcludesAt s addr request phase bytes (Err fault) next) done concludes in
    made_refused addr request phase bytes fault at.0 at.1 at.2

-- what comes of a refusal
record IsRefused (reply : Option Packet) (t : Transfer) : Type 0 where
  asked : acknowledges reply t.ends ≡ asks_at t.ends.stage
  of_others : request_aborts_round t.request ≡ false

refused_so : (reply : Option Packet) (addr : ℕ) (phase next : HostPhase) (t : Transfer) (fault : StackFault)
    → IsRunning t.ends.stage
    → ConcludesAt (transfer_after_reply reply t.ends).stage addr t.request phase (read_bytes_of (transfer_after_reply reply t.ends)) (Err fault) next
    → IsRefused reply t
refused_so reply addr phase next t fault going concludes =
    let after = transfer_after_reply reply t.ends in
    let done = refused_is_done after.stage addr t.request phase next after fault concludes in
    record {
      asked = done_acknowledges reply t.ends.stage t.ends after.stage going refl done;
      of_others = refused_request after.stage addr t.request phase next (read_bytes_of after) fault done concludes;
    }

asked_so : (reply : Option Packet) (addr : ℕ) (phase next : HostPhase) (t : Transfer) (progress : Result Progress StackFault) (b : Bool)
    → IsRunning t.ends.stage
    → ConcludesAt (transfer_after_reply reply t.ends).stage addr t.request phase (read_bytes_of (transfer_after_reply reply t.ends)) progress next
    → IfErr (result_with_ack b progress) (λ _. acknowledges reply t.ends ≡ asks_at t.ends.stage)
asked_so reply addr phase next t (Ok p) b going concludes = tt
asked_so reply addr phase next t (Err fault) b going concludes = (refused_so reply addr phase next t fault going concludes).asked

of_others_so : (reply : Option Packet) (addr : ℕ) (phase next : HostPhase) (t : Transfer) (progress : Result Progress StackFault) (b : Bool)
    → IsRunning t.ends.stage
    → ConcludesAt (transfer_after_reply reply t.ends).stage addr t.request phase (read_bytes_of (transfer_after_reply reply t.ends)) progress next
    → IfErr (result_with_ack b progress) (λ _. request_aborts_round t.request ≡ false)
of_others_so reply addr phase next t (Ok p) b going concludes = tt
of_others_so reply addr phase next t (Err fault) b going concludes = (refused_so reply addr phase next t fault going concludes).of_others

-- what came is taken, of a host with these parts
pub takes_so : (reply : Option Packet) (addr : ℕ) (phase next : HostPhase) (clearing : Bool) (host : HostDeviceState) (t : Transfer)
    (ends : HostTransferState) (progress : Result Progress StackFault) (result : Result (Progress × Bool) StackFault)
    → record { addr = addr; phase = phase; transfer = Some t; clearing = clearing } ≡ host → is_some (running (Some t)) ≡ true
    → ends ≡ transfer_after_reply reply t.ends
    → ConcludesAt ends.stage addr t.request phase (read_bytes_of ends) progress next
    → result ≡ result_with_ack (acknowledges reply t.ends) progress
    → TakesControl reply host result
    (record {
      addr = addr;
      phase = next;
      transfer = Some (record t { ends = ends });
      clearing =
          clearing_after ends.stage t.request clearing;
    })
takes_so reply addr phase next clearing host t ends progress result is busy took concludes told =
    let old : HostDeviceState = record { addr = addr; phase = phase; transfer = Some t; clearing = clearing } in
    let after : HostTransferState → HostDeviceState = λ (e : HostTransferState).
    record {
      addr = addr;
      phase = next;
      transfer = Some (record t { ends = e });
      clearing =
          clearing_after e.stage t.request clearing;
    } in
    let goes : ConcludesAt (transfer_after_reply reply t.ends).stage addr t.request phase (read_bytes_of (transfer_after_reply reply t.ends)) progress next
    = subst (λ (e : HostTransferState). ConcludesAt e.stage addr t.request phase (read_bytes_of e) progress next) took concludes in
    let going : IsRunning t.ends.stage = stage_runs t t t.ends.stage (runs t t.ends.stage busy) in
    subst (λ (h : HostDeviceState). TakesControl reply h result (after ends)) is
    (subst (λ (o : Option Transfer). elim o as (λ _. Type 0) [
      | None ↦ (result ≡ Err (Control NoTransfer)) × (after ends ≡ old)
      | Some transfer ↦ TakesReply reply old transfer result (after ends)
    ]) (sym (runs t t.ends.stage busy)) (record {
      next = next;
      progress = progress;
      concludes = goes;
      result_is = told;
      refused =
          subst (λ (r : Result (Progress × Bool) StackFault). IfErr r (λ _. acknowledges reply t.ends ≡ asks_at t.ends.stage)) (sym told)
          (asked_so reply addr phase next t progress (acknowledges reply t.ends) going goes);
      of_others =
          subst (λ (r : Result (Progress × Bool) StackFault). IfErr r (λ _. request_aborts_round t.request ≡ false)) (sym told)
          (of_others_so reply addr phase next t progress (acknowledges reply t.ends) going goes);
      after = ap after took;
    }))

-- what is reported where an answer is concluded on, and where it is refused
pub told_of : (is_sent says : Bool) (p : Progress) (progress : Result Progress StackFault) → progress ≡ Ok p → says ≡ is_sent
    → Ok (p, says) ≡ result_with_ack is_sent progress
told_of is_sent says p progress is same =
    subst (λ (r : Result Progress StackFault). Ok (p, says) ≡ result_with_ack is_sent r) (sym is)
    (subst (λ (b : Bool). Ok (p, says) ≡ result_with_ack b (Ok p)) same refl)

err_is : {T : Type 0} (r : Result T StackFault) (fault : StackFault) → IsErrAnd r (λ e. e ≡ fault) → r ≡ Err fault
err_is (Ok done) fault is = absurd is
err_is (Err e) fault is = ap Err is

pub told_refusal : (is_sent : Bool) (fault : StackFault) (progress : Result Progress StackFault) (result : Result (Progress × Bool) StackFault)
    → progress ≡ Err fault → IsErrAnd result (λ e. e ≡ fault) → result ≡ result_with_ack is_sent progress
told_refusal is_sent fault progress result is told =
    err_is result fault told ∙ subst (λ (r : Result Progress StackFault). Err fault ≡ result_with_ack is_sent r) (sym is) refl

-- what is reported of a try
abbrev pub progress_in : Result (Progress × Bool) StackFault → Result Progress StackFault
progress_in (Ok taken) = Ok taken.0
progress_in (Err fault) = Err fault

progress_is : (b : Bool) (progress : Result Progress StackFault) → progress_in (result_with_ack b progress) ≡ progress
progress_is b (Ok p) = refl
progress_is b (Err fault) = refl

-- ACK is sent where the transfer acknowledges
ack_is : (reply : Option Packet) (host : HostTransferState) (progress : Result Progress StackFault)
    → IfErr (result_with_ack (acknowledges reply host) progress) (λ _. acknowledges reply host ≡ asks_at host.stage)
    → is_ack_sent (result_with_ack (acknowledges reply host) progress) (token_of host) ≡ acknowledges reply host
ack_is reply host (Ok p) refused = refl
ack_is reply host (Err fault) refused = token_asks host.stage host.addr ∙ sym refused

-- the transfer that runs is tried by single packets
tries_so : {R : Type 0} (prepare_gives : PrepareGives R) (apply_gives : ApplyGives R) (answer_of : AnswerOf R)
    (fate : Fate) (host after : HostDeviceState) (t : Transfer) (token : Packet) (payload reply : Option Packet)
    (old mid new : DevControlState R) (taken : Result (Progress × Bool) StackFault) (result : Result Progress StackFault)
    → IsRunning t.ends.stage → token ≡ token_of t.ends → payload ≡ payload_of t.ends
    → TokenIsAnswered prepare_gives apply_gives answer_of (arrives_under fate) token payload old mid reply
    → TakesReply reply host t taken after
    → Acknowledges prepare_gives apply_gives answer_of (arrives_under fate) (is_ack_sent taken token) mid new
    → result ≡ progress_in taken
    → TriesOnce prepare_gives apply_gives answer_of fate host t old result after new
tries_so prepare_gives apply_gives answer_of fate host after t token payload reply old mid new taken result going token_is payload_is answered takes ack told =
    let ends : HostTransferState = transfer_after_reply reply t.ends in
    let sent : is_ack_sent taken token ≡ acknowledges reply t.ends =
    ap (λ (k : Packet). is_ack_sent taken k) token_is
    ∙ ap (λ (r : Result (Progress × Bool) StackFault). is_ack_sent r (token_of t.ends)) takes.result_is
    ∙ ack_is reply t.ends takes.progress
    (subst (λ (r : Result (Progress × Bool) StackFault). IfErr r (λ _. acknowledges reply t.ends ≡ asks_at t.ends.stage)) takes.result_is takes.refused) in
    let crosses = crosses_by_token prepare_gives apply_gives answer_of (arrives_under fate) t.ends old mid ends new token payload reply (is_ack_sent taken token) token_is payload_is answered refl sent ack in
    let reported : takes.progress ≡ result = sym (told ∙ ap progress_in takes.result_is ∙ progress_is (acknowledges reply t.ends) takes.progress) in
    record {
      ends = ends;
      next = takes.next;
      packets = crosses;
      transacts = crosses_transacts prepare_gives apply_gives answer_of fate t.ends old ends new going crosses;
      same = (took_keeps t.ends.stage reply t.ends).0;
      concludes =
          subst (λ (r : Result Progress StackFault). ConcludesAt ends.stage host.addr t.request host.phase (read_bytes_of ends) r takes.next) reported takes.concludes;
      after = takes.after;
    }

-- a step is a try by single packets, of a host at which this transfer runs, if one does
steps_with : {R : Type 0} (prepare_gives : PrepareGives R) (apply_gives : ApplyGives R) (answer_of : AnswerOf R)
    (fate : Fate) (host after : HostDeviceState) (o : Option Transfer) (token : Packet) (payload reply : Option Packet)
    (old mid new : DevControlState R) (taken : Result (Progress × Bool) StackFault) (result : Result Progress StackFault)
    → ((t : Transfer) → o ≡ Some t → IsRunning t.ends.stage)
    → Ok token ≡ control_token_of o → payload ≡ control_payload_of o
    → TokenIsAnswered prepare_gives apply_gives answer_of (arrives_under fate) token payload old mid reply
    → elim o as (λ _. Type 0) [
      | None ↦ (taken ≡ Err (Control NoTransfer)) × (after ≡ host)
      | Some t ↦ TakesReply reply host t taken after
    ]
    → Acknowledges prepare_gives apply_gives answer_of (arrives_under fate) (is_ack_sent taken token) mid new
    → result ≡ progress_in taken
    → elim o as (λ _. Type 0) [
      | None ↦ (result ≡ Err (Control NoTransfer)) × (after ≡ host) × (new ≡ old)
      | Some t ↦ TriesOnce prepare_gives apply_gives answer_of fate host t old result after new
    ]
steps_with prepare_gives apply_gives answer_of fate host after None token payload reply old mid new taken result going token_is payload_is answered takes ack told = absurd (cc)
steps_with prepare_gives apply_gives answer_of fate host after (Some t) token payload reply old mid new taken result going token_is payload_is answered takes ack told =
    tries_so prepare_gives apply_gives answer_of fate host after t token payload reply old mid new taken result (going t refl) (cc) payload_is answered takes ack told

-- a control step is a try by single packets
pub steps_by_packets : {R : Type 0} (prepare_gives : PrepareGives R) (apply_gives : ApplyGives R) (answer_of : AnswerOf R)
    (fate : Fate) (host after : HostDeviceState) (token : Packet) (payload reply : Option Packet)
    (old mid new : DevControlState R) (taken : Result (Progress × Bool) StackFault) (result : Result Progress StackFault)
    → Ok token ≡ control_token_of (running host.transfer) → payload ≡ control_payload_of (running host.transfer)
    → TokenIsAnswered prepare_gives apply_gives answer_of (arrives_under fate) token payload old mid reply
    → TakesControl reply host taken after
    → Acknowledges prepare_gives apply_gives answer_of (arrives_under fate) (is_ack_sent taken token) mid new
    → result ≡ progress_in taken
    → ControlSteps prepare_gives apply_gives answer_of fate host old result after new
steps_by_packets prepare_gives apply_gives answer_of fate host after token payload reply old mid new taken result token_is payload_is answered takes ack told =
    steps_with prepare_gives apply_gives answer_of fate host after (running host.transfer) token payload reply old mid new taken result
    (λ t is. is_running host.transfer t is) token_is payload_is answered takes ack told

-- where no transfer runs no step is made
none_steps : {R : Type 0} (prepare_gives : PrepareGives R) (apply_gives : ApplyGives R) (answer_of : AnswerOf R)
    (fate : Fate) (host : HostDeviceState) (o : Option Transfer) (fault : StackFault) (old : DevControlState R)
    (result : Result Progress StackFault)
    → (let it : Result Packet StackFault = Err fault in it ≡ control_token_of o) → result ≡ Err fault
    → elim o as (λ _. Type 0) [
      | None ↦ (result ≡ Err (Control NoTransfer)) × (host ≡ host) × (old ≡ old)
      | Some t ↦ TriesOnce prepare_gives apply_gives answer_of fate host t old result host old
    ]
none_steps prepare_gives apply_gives answer_of fate host None fault old result none told = (cc, refl, refl)
none_steps prepare_gives apply_gives answer_of fate host (Some t) fault old result none told = absurd (cc)

pub stops_without : {R : Type 0} (prepare_gives : PrepareGives R) (apply_gives : ApplyGives R) (answer_of : AnswerOf R)
    (fate : Fate) (host : HostDeviceState) (fault : StackFault) (old : DevControlState R) (result : Result Progress StackFault)
    → (let it : Result Packet StackFault = Err fault in it ≡ control_token_of (running host.transfer)) → IsErrAnd result (λ e. e ≡ fault)
    → ControlSteps prepare_gives apply_gives answer_of fate host old result host old
stops_without prepare_gives apply_gives answer_of fate host fault old result none told =
    none_steps prepare_gives apply_gives answer_of fate host (running host.transfer) fault old result none (err_is result fault told)

-- where no transfer runs nothing is taken
pub takes_nothing : (reply : Option Packet) (host : HostDeviceState) (result : Result (Progress × Bool) StackFault)
    → is_some (running host.transfer) ≡ false → result ≡ Err (Control NoTransfer) → TakesControl reply host result host
takes_nothing reply host result idle told =
    subst (λ (o : Option Transfer). elim o as (λ _. Type 0) [
      | None ↦ (result ≡ Err (Control NoTransfer)) × (host ≡ host)
      | Some transfer ↦ TakesReply reply host transfer result host
    ]) (sym (none_runs (running host.transfer) idle)) (told, refl)
