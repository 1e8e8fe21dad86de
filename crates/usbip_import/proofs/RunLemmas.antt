-- An import stays in order over every call.
use Rattle.std.proofs.Common.{◌≡◌, ℕ, zero, suc, cond, Bool, true, false, List, [], ◌∷◌, ◌++◌, Option, Some, None, Result, Ok, Err, refl, sym, ap, subst, ◌∙◌, arith, ltb}
use Rattle.std.proofs.Common.{inl, inr}
use Rattle.usb_control.specs.declared.setup.Setup.{Setup}
use Rattle.hid_driver.specs.declared.outcome.DriverEvent.{DriverEvent}
use Rattle.hid_driver.specs.declared.outcome.Outcome.{Outcome}
use Rattle.hid_driver.specs.Requests.{setup_awaited}
use Rattle.hid_driver.proofs.HoldingLemmas.{ask_holds, moves_hold, report_changes, start_due}
use Rattle.usbip.specs.declared.fault.UsbipFault.{UsbipFault}
use Rattle.usbip.specs.declared.message.Reply.{Reply}
use Rattle.usbip.specs.declared.message.Reply.TheVariants as replies
use Rattle.usbip.specs.declared.message.Status.{Status}
use Rattle.usbip.specs.declared.message.SubmitReply.{SubmitReply}
use Rattle.usbip.specs.declared.operation.OperationStatus.{OperationStatus}
use Rattle.usbip.specs.declared.operation.OperationStatus.TheVariants as ends
use Rattle.usbip_import.specs.declared.fault.ImportFault.{ImportFault}
use Rattle.usbip_import.specs.declared.flight.Flight.{Flight}
use Rattle.usbip_import.specs.declared.flight.Purpose.{Purpose}
use Rattle.usbip_import.specs.declared.flight.Purpose.TheVariants as purposes
use Rattle.usbip_import.specs.declared.import.Import.{Import}
use Rattle.usbip_import.specs.declared.stage.Stage.{Stage}
use Rattle.usbip_import.specs.declared.stage.Stage.TheVariants.{Start, Requested, Described, Attached, Answering, Over}
use Rattle.usbip_import.specs.declared.stage.Told.{Told}
use Rattle.usbip_import.specs.declared.submits.Due.{Due}
use Rattle.usbip_import.specs.Flights.{AreSingle, Replies, Sends as Begins, flight_of, is_asked, is_in_flight, without}
use Rattle.usbip_import.specs.Submits.{report_due}
use Rattle.usbip_import.specs.Sending.{RequestSent, Sending, Sends, Sent, SubmitSentIf, control_sending, first_of, flight_begun, import_at_start, import_begun, is_full, report_sending, sending_of_due, sending_of_setup, submit_sending}
use Rattle.usbip_import.specs.Taking.{AnswersBy, HeadLeads, HeaderLeads, ReplyToFlight, ReplyToIf, Takes, is_gone, length_following}
use Rattle.usbip_import.specs.Runs.{AsksOnce, IsCall, IsInOrder, IsRun}
use Rattle.usbip_import.proofs.FlightLemmas.{single-step}

-- ---- what is in flight

-- one more of a number that isn't in flight
single_more : (fs : List Flight) (f : Flight) → is_in_flight f.seqnum fs ≡ false → AreSingle fs → AreSingle (fs ++ f ∷ [])
single_more fs f free single =
    subst AreSingle (ap (λ (b : Bool). fs ++ cond b [] (f ∷ [])) free) (single-step fs (Begins f) single)

single_less : (n : ℕ) (fs : List Flight) → AreSingle fs → AreSingle (without n fs)
single_less n fs single = single-step fs (Replies n) single

-- ---- what is sent

-- a submit has this number, if there is one
abbrev HasNumber : ℕ → Option Sending → Type 0
HasNumber n None = Unit {0}
HasNumber n (Some s) = s.submit.seqnum ≡ n

setup_number : (import : Import) (setup : Option Setup) → HasNumber import.next (sending_of_setup import setup)
setup_number import None = tt
setup_number import (Some setup) = refl

control_number_if : (import : Import) (asked : Bool) (s : Option Sending) → HasNumber import.next s → HasNumber import.next (cond asked None s)
control_number_if import true s has = tt
control_number_if import false s has = has

control_number : (import : Import) → HasNumber import.next (control_sending import)
control_number import =
    control_number_if import (is_asked purposes.Control import.flights) (sending_of_setup import (setup_awaited import.driver.state import.driver.interfaces))
    (setup_number import (setup_awaited import.driver.state import.driver.interfaces))

due_number : (import : Import) (due : Option Due) → HasNumber import.next (sending_of_due import due)
due_number import None = tt
due_number import (Some due) = refl

first_number : (n : ℕ) (one other : Option Sending) → HasNumber n one → HasNumber n other → HasNumber n (first_of one other)
first_number n None other has also = also
first_number n (Some one) other has also = has

submit_number : (import : Import) → HasNumber import.next (submit_sending import)
submit_number import =
    first_number import.next (control_sending import) (report_sending import) (control_number import)
    (due_number import (report_due 0 import.flights import.driver.interfaces))

-- an import with a new submit in flight is in order
begun_in_order : (before : Import) (s : Sending) → is_in_flight before.next before.flights ≡ false → s.submit.seqnum ≡ before.next
    → IsInOrder before → IsInOrder (import_begun s.purpose s.submit before)
begun_in_order before s free is order = record {
  single = single_more before.flights (flight_begun s.purpose s.submit)
      (ap (λ (n : ℕ). is_in_flight n before.flights) is ∙ free) order.single;
  due = order.due;
}

sends_in_order : (s : Option Sending) (before : Import) (result : Result Bool ImportFault) (after : Import) (old new : List ℕ)
    → is_in_flight before.next before.flights ≡ false → HasNumber before.next s → Sends s before result after old new
    → IsInOrder before → IsInOrder after
sends_in_order None before result after old new free has h order = subst IsInOrder (sym h.1) order
sends_in_order (Some s) before (Ok sent) after old new free has h order =
    subst IsInOrder (sym h.1) (begun_in_order before s free has order)
sends_in_order (Some s) before (Err fault) after old new free has h order = subst IsInOrder (sym h.1) order

submit_in_order : (full used : Bool) (before : Import) (result : Result Bool ImportFault) (after : Import) (old new : List ℕ)
    → is_in_flight before.next before.flights ≡ used → SubmitSentIf full used before result after old new
    → IsInOrder before → IsInOrder after
submit_in_order true used before result after old new is h order = subst IsInOrder (sym h.1) order
submit_in_order false true before result after old new is h order =
    subst IsInOrder (sym h.1) (record { single = order.single; due = order.due })
submit_in_order false false before result after old new is h order =
    sends_in_order (submit_sending before) before result after old new is (submit_number before) h order

request_in_order : (bus_id : List ℕ) (before : Import) (result : Result Bool ImportFault) (after : Import) (old new : List ℕ)
    → RequestSent bus_id before result after old new → IsInOrder before → IsInOrder after
request_in_order bus_id before (Ok sent) after old new h order =
    subst IsInOrder (sym h.1) (record { single = order.single; due = order.due })
request_in_order bus_id before (Err fault) after old new h order = subst IsInOrder (sym h.1) order

sent_in_order : (stage : Stage) (before : Import) (result : Result Bool ImportFault) (after : Import) (old new : List ℕ)
    → Sent stage before result after old new → IsInOrder before → IsInOrder after
sent_in_order (Start bus_id) before result after old new h order = request_in_order bus_id before result after old new h order
sent_in_order Attached before result after old new h order =
    submit_in_order (is_full before) (is_in_flight before.next before.flights) before result after old new refl h order
sent_in_order Requested before result after old new h order = subst IsInOrder (sym h.1) order
sent_in_order Described before result after old new h order = subst IsInOrder (sym h.1) order
sent_in_order (Answering flight status len) before result after old new h order = subst IsInOrder (sym h.1) order
sent_in_order Over before result after old new h order = subst IsInOrder (sym h.1) order

-- ---- what is taken

-- another stage, or another number of the device
with_stage : (before after : Import) (stage : Stage) → after ≡ record before { stage = stage } → IsInOrder before → IsInOrder after
with_stage before after stage is order = subst IsInOrder (sym is) (record { single = order.single; due = order.due })

head_in_order : (read : Result OperationStatus UsbipFault) (before : Import) (result : Result Told ImportFault) (after : Import)
    → HeadLeads read before result after → IsInOrder before → IsInOrder after
head_in_order (Ok ends.Success) before result after h order = with_stage before after Described h.1 order
head_in_order (Ok ends.Failed) before result after h order = with_stage before after Over h.1 order
head_in_order (Ok ends.Busy) before result after h order = with_stage before after Over h.1 order
head_in_order (Ok ends.NoDevice) before result after h order = with_stage before after Over h.1 order
head_in_order (Err fault) before result after h order = with_stage before after Over h.1 order

answers_by_in_order : (purpose : Purpose) (status : Status) (outcome : Outcome) (before : Import) (result : Result Told ImportFault)
    (after : Import) (old new : List DriverEvent) → AnswersBy purpose status outcome before result after old new
    → IsInOrder before → IsInOrder after
answers_by_in_order purposes.Control status outcome before result after old new h order = record {
  single = subst AreSingle (sym (ap (λ (i : Import). i.flights) h.3)) order.single;
  due = (moves_hold before.driver outcome h.0 after.driver order.due h.1).due;
}
answers_by_in_order (purposes.Report place) status outcome before result after old new h order =
    subst IsInOrder (sym h.1) (record {
      single = order.single;
      due = (report_changes before.driver place outcome order.due).due;
    })

reply_in_order : (gone long some : Bool) (flight : Flight) (reply : SubmitReply) (before : Import) (result : Result Told ImportFault)
    (after : Import) (old new : List DriverEvent) → ReplyToIf gone long some flight reply before result after old new
    → IsInOrder before → IsInOrder after
reply_in_order true long some flight reply before result after old new h order = with_stage before after Over h.0.1 order
reply_in_order false true some flight reply before result after old new h order = with_stage before after Over h.0.1 order
reply_in_order false false true flight reply before result after old new h order = with_stage before after (Answering flight reply.status (length_following flight reply)) h.0.1 order
reply_in_order false false false flight reply before result after old new h order =
    answers_by_in_order flight.purpose reply.status h.outcome before result after old new h.answers order

flight_in_order : (f : Option Flight) (reply : SubmitReply) (before : Import) (result : Result Told ImportFault) (after : Import)
    (old new : List DriverEvent) → ReplyToFlight f reply before result after old new → IsInOrder before → IsInOrder after
flight_in_order None reply before result after old new h order = with_stage before after Over h.0.1 order
flight_in_order (Some flight) reply before result after old new h order =
    reply_in_order (is_gone reply.status) (ltb flight.room (length_following flight reply)) (ltb 0 (length_following flight reply)) flight reply before result
    after old new h order

header_in_order : (read : Result Reply UsbipFault) (before : Import) (result : Result Told ImportFault) (after : Import)
    (old new : List DriverEvent) → HeaderLeads read before result after old new → IsInOrder before → IsInOrder after
header_in_order (Ok (replies.Submit reply)) before result after old new h order =
    flight_in_order (flight_of reply.seqnum before.flights) reply (record before { flights = without reply.seqnum before.flights })
    result after old new h
    (record { single = single_less reply.seqnum before.flights order.single; due = order.due })
header_in_order (Ok (replies.Unlink reply)) before result after old new h order = with_stage before after Over h.0.1 order
header_in_order (Err fault) before result after old new h order = with_stage before after Over h.0.1 order

taken_in_order : (stage : Stage) (bytes : List ℕ) (before : Import) (result : Result Told ImportFault) (after : Import)
    (old new : List DriverEvent) → Takes stage bytes before result after old new → IsInOrder before → IsInOrder after
taken_in_order (Start bus_id) bytes before result after old new h order = subst IsInOrder (sym h.1) order
taken_in_order Requested bytes before result after old new h order = head_in_order h.0.0 before result after h.0.2 order
taken_in_order Described bytes before result after old new h order =
    subst IsInOrder (sym h.0.1) (record { single = order.single; due = order.due })
taken_in_order Attached bytes before result after old new h order = header_in_order h.0 before result after old new h.2 order
taken_in_order (Answering flight status len) bytes before result after old new h order =
    answers_by_in_order flight.purpose status h.outcome before result after old new h.answers order
taken_in_order Over bytes before result after old new h order = subst IsInOrder (sym h.1) order

-- ---- runs

asked_in_order : (before after : Import) → AsksOnce before after → IsInOrder before → IsInOrder after
asked_in_order before after h order =
    subst IsInOrder (sym h.asks) (record { single = order.single; due = (ask_holds before.driver h.place h.ask order.due).due })

call_in_order : (before after : Import) → IsCall before after → IsInOrder before → IsInOrder after
call_in_order before after h order = elim h [
  | inl sends ↦ sent_in_order before.stage before sends.result after sends.old sends.new sends.sent order
  | inr other ↦ elim other [
    | inl takes ↦ taken_in_order before.stage takes.bytes before takes.result after takes.old takes.new takes.takes order
    | inr asks ↦ asked_in_order before after asks order
  ]
]

run_in_order : (count : ℕ) (before after : Import) → IsRun count before after → IsInOrder before → IsInOrder after
run_in_order zero before after run order = subst IsInOrder (sym run) order
run_in_order (suc count) before after run order =
    run_in_order count run.0 after run.2 (call_in_order before run.0 run.1 order)

pub starts_in_order : (bus_id : List ℕ) → IsInOrder (import_at_start bus_id)
starts_in_order bus_id = record { single = λ n. omega arith; due = start_due }

pub runs_in_order : (count : ℕ) (bus_id : List ℕ) (after : Import) → IsRun count (import_at_start bus_id) after → IsInOrder after
runs_in_order count bus_id after run = run_in_order count (import_at_start bus_id) after run (starts_in_order bus_id)
