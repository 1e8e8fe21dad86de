-- Each command to an exported device is answered once.
use Rattle.std.proofs.Common.{◌≡◌, ℕ, ◌+◌, eqb, Bool, true, false, cond, List, [], ◌∷◌, Option, Some, None, option_map, refl, ap, ◌∙◌, arith, drop}
use Rattle.usb_control.specs.SetupBytes.{setup_of}
use Rattle.hid_device.specs.Core.{CoreState}
use Rattle.hid_device.specs.RequestTable.{core_table}
use Rattle.hid_gadget.specs.declared.outcomes.Control.{Control}
use Rattle.hid_gadget.specs.declared.outcomes.Control.TheVariants as ends
use Rattle.hid_gadget.specs.declared.outcomes.Poll.{Poll}
use Rattle.hid_gadget.specs.declared.outcomes.Poll.TheVariants as polls
use Rattle.hid_gadget.specs.WholeTransfers.{control_result}
use Rattle.hid_gadget.specs.WholeReports.{report_result}
use Rattle.usbip.specs.declared.message.Status.{Status}
use Rattle.usbip.specs.declared.message.Status.TheVariants.{BadRequest, Overflow, Stalled, Success, Unlinked}
use Rattle.usbip.specs.declared.message.Submit.{Submit}
use Rattle.usbip.specs.declared.message.Unlink.{Unlink}
use Rattle.usbip.specs.declared.message.SubmitReply.{SubmitReply}
use Rattle.usbip.specs.declared.message.Reply.TheVariants as replies
use Rattle.usbip.specs.declared.pending.PendingSubmit.{PendingSubmit}
use Rattle.usbip.specs.Pending.{Submits as Waits, Unlinks as Leaves, Answers as Replies, is_pending, one_if_same, one_if_to, pending_after_submit, reply_to_oldest, reply_to_submit, waiting, without}
use Rattle.usbip.proofs.PendingLemmas.{answered_once}
use Rattle.usbip_export.specs.declared.exported_device.ExportedDevice.{ExportedDevice}
use Rattle.usbip_export.specs.ExportedDevices.{asks_for_report, control_reply, core_after_control, ended_reply, fits_setup, pending_after_poll, pending_of_oldest, refused_reply, reply_at_report, reply_at_submit, reply_of_oldest, reply_of_poll, report_room}
use Rattle.usbip_export.specs.Answers.{Happening, Submits, Unlinks, Asks, Becomes, AnswersSubmitsOnce, AnswersUnlinksOnce, answers_by, answers_unlink, device_after, is_unlinked, reply_at, submits_at, unlinks_at}

-- ---- what waits

waits : (n : ℕ) (ps : List PendingSubmit) (s : Submit)
    → one_if_to n (reply_to_submit ps s) + waiting n (pending_after_submit ps s) ≡ one_if_same n s.seqnum + waiting n ps
waits n ps s = omega (arith, answered_once ps (Waits s ∷ []) n)

leaves : (n : ℕ) (ps : List PendingSubmit) (u : Unlink)
    → cond (is_pending u.submit ps) (one_if_same n u.submit) 0 + waiting n (without u.submit ps) ≡ waiting n ps
leaves n ps u = omega (arith, answered_once ps (Leaves u ∷ []) n)

is_answered : (n : ℕ) (ps : List PendingSubmit) (status : Status) (count : ℕ)
    → one_if_to n (reply_to_oldest ps status count) + waiting n (drop 1 ps) ≡ waiting n ps
is_answered n ps status count = omega (arith, answered_once ps (Replies status count ∷ []) n)

-- ---- the number of a reply

ended-seqnum : (s : Submit) (end : Control) → (ended_reply s end).seqnum ≡ s.seqnum
ended-seqnum s ends.Stalled = refl
ended-seqnum s (ends.Done n) = refl

chosen-seqnum : (s : Submit) (b : Bool) (r q : SubmitReply) → r.seqnum ≡ s.seqnum → q.seqnum ≡ s.seqnum
    → (cond b r q).seqnum ≡ s.seqnum
chosen-seqnum s true r q e f = e
chosen-seqnum s false r q e f = f

control-seqnum : (core : CoreState) (s : Submit) → (control_reply core s).seqnum ≡ s.seqnum
control-seqnum core s =
    chosen-seqnum s (fits_setup s (setup_of s.setup)) (ended_reply s (control_result core_table core (setup_of s.setup)))
    (refused_reply s BadRequest) (ended-seqnum s (control_result core_table core (setup_of s.setup))) refl

-- ---- one happening

wait-step : (n : ℕ) (d : ExportedDevice) (s : Submit) (b : Bool)
    → one_if_to n (cond b (reply_to_submit d.pending s) (Some (refused_reply s Stalled)))
    + waiting n (cond b (record d { pending = pending_after_submit d.pending s }) d).pending
    ≡ one_if_same n s.seqnum + waiting n d.pending
wait-step n d s true = waits n d.pending s
wait-step n d s false = refl

submit-step : (n : ℕ) (d : ExportedDevice) (s : Submit) (sent : List ℕ) (b : Bool)
    → one_if_to n (cond b (Some (control_reply d.gadget s))
    (cond (asks_for_report d.gadget s) (reply_to_submit d.pending s) (Some (refused_reply s Stalled))))
    + waiting n (cond b (record d { gadget = core_after_control d.gadget s sent })
    (cond (asks_for_report d.gadget s) (record d { pending = pending_after_submit d.pending s }) d)).pending
    ≡ one_if_same n s.seqnum + waiting n d.pending
submit-step n d s sent true = ap (λ (k : ℕ). one_if_same n k + waiting n d.pending) (control-seqnum d.gadget s)
submit-step n d s sent false = wait-step n d s (asks_for_report d.gadget s)

poll-step : (n : ℕ) (ps : List PendingSubmit) (poll : Poll)
    → one_if_to n (reply_of_poll ps poll) + waiting n (pending_after_poll ps poll) ≡ waiting n ps
poll-step n ps polls.Nothing = omega arith
poll-step n ps (polls.Done k) = is_answered n ps Success k
poll-step n ps polls.Stalled = is_answered n ps Stalled 0
poll-step n ps polls.TooSmall = is_answered n ps Overflow 0

report-step : (n : ℕ) (core : CoreState) (ps : List PendingSubmit)
    → one_if_to n (reply_of_oldest core ps) + waiting n (pending_of_oldest core ps) ≡ waiting n ps
report-step n core [] = refl
report-step n core (p ∷ rest) = poll-step n (p ∷ rest) (report_result core (report_room p))

submitted : (n : ℕ) (s : Submit) (sent : List ℕ) (o : Option SubmitReply)
    → answers_by n (Submits s sent) (option_map replies.Submit o) ≡ one_if_to n o
submitted n s sent None = refl
submitted n s sent (Some r) = refl

asked : (n : ℕ) (o : Option SubmitReply) → answers_by n Asks (option_map replies.Submit o) ≡ one_if_to n o
asked n None = refl
asked n (Some r) = refl

unlinked : (b : Bool) (k : ℕ) → cond (is_unlinked (cond b Unlinked Success)) k 0 ≡ cond b k 0
unlinked true k = refl
unlinked false k = refl

once-step : (n : ℕ) (d : ExportedDevice) (h : Happening)
    → answers_by n h (reply_at d h) + waiting n (device_after d h).pending ≡ submits_at n h + waiting n d.pending
once-step n d (Submits s sent) =
    ap (λ (k : ℕ). k + waiting n (device_after d (Submits s sent)).pending) (submitted n s sent (reply_at_submit d s))
    ∙ submit-step n d s sent (eqb s.endpoint 0)
once-step n d (Unlinks u) =
    ap (λ (k : ℕ). k + waiting n (without u.submit d.pending)) (unlinked (is_pending u.submit d.pending) (one_if_same n u.submit))
    ∙ (leaves n d.pending u ∙ omega arith)
once-step n d Asks =
    ap (λ (k : ℕ). k + waiting n (pending_of_oldest d.gadget d.pending)) (asked n (reply_at_report d))
    ∙ (report-step n d.gadget d.pending ∙ omega arith)
once-step n d (Becomes core) = refl

pub submits_once : (d : ExportedDevice) (hs : List Happening) → AnswersSubmitsOnce d hs
submits_once d [] n = refl
submits_once d (h ∷ hs) n = omega (arith, once-step n d h, submits_once (device_after d h) hs n)

-- ---- unlinks

no-unlink : (n : ℕ) (o : Option SubmitReply) → answers_unlink n (option_map replies.Submit o) ≡ 0
no-unlink n None = refl
no-unlink n (Some r) = refl

unlink-step : (n : ℕ) (d : ExportedDevice) (h : Happening) → answers_unlink n (reply_at d h) ≡ unlinks_at n h
unlink-step n d (Submits s sent) = no-unlink n (reply_at_submit d s)
unlink-step n d (Unlinks u) = refl
unlink-step n d Asks = no-unlink n (reply_at_report d)
unlink-step n d (Becomes core) = refl

pub unlinks_once : (d : ExportedDevice) (hs : List Happening) → AnswersUnlinksOnce d hs
unlinks_once d [] n = refl
unlinks_once d (h ∷ hs) n = omega (arith, unlink-step n d h, unlinks_once (device_after d h) hs n)
