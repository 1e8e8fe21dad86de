-- What happens at an exported device, and how often each command is answered (USB/IP).
use Rattle.std.specs.Prelude.{◌≡◌, ℕ, ◌+◌, Bool, true, false, if◌then◌else◌, List, [], ◌∷◌, Option, Some, None, option_map}
use Rattle.hid_device.specs.Core.{CoreState}
use Rattle.usbip.specs.declared.message.Status.{Status}
use Rattle.usbip.specs.declared.message.Status.TheVariants.{Unlinked}
use Rattle.usbip.specs.declared.message.Submit.{Submit}
use Rattle.usbip.specs.declared.message.Unlink.{Unlink}
use Rattle.usbip.specs.declared.message.UnlinkReply.{UnlinkReply}
use Rattle.usbip.specs.declared.message.Reply.{Reply}
use Rattle.usbip.specs.declared.message.Reply.TheVariants as replies
use Rattle.usbip.specs.Pending.{one_if_same, reply_to_unlink, waiting}
use Rattle.usbip_export.specs.declared.exported_device.ExportedDevice.{ExportedDevice}
use Rattle.usbip_export.specs.ExportedDevices.{device_after_report, device_after_submit, device_after_unlink, reply_at_report, reply_at_submit}

-- What happens at a device: a submit with its data or an unlink comes, a report is asked for, or the gadget becomes another by a
-- change, a frame, a halt or a reset.
pub data Happening : Type 0 where
  Submits : (submit : Submit) → (data_sent : List ℕ) → Happening
  Unlinks : (unlink : Unlink) → Happening
  Asks : Happening
  Becomes : (core : CoreState) → Happening

-- an exported device after something happened
abbrev pub device_after : ExportedDevice → Happening → ExportedDevice
device_after d (Submits s sent) = device_after_submit d s sent
device_after d (Unlinks u) = device_after_unlink d u
device_after d Asks = device_after_report d
device_after d (Becomes core) = record d { gadget = core }

-- an exported device after all of these
abbrev pub device_after_all : ExportedDevice → List Happening → ExportedDevice
device_after_all d [] = d
device_after_all d (h ∷ hs) = device_after_all (device_after d h) hs

-- the reply that goes out where something happens, if one does
abbrev pub reply_at : ExportedDevice → Happening → Option Reply
reply_at d (Submits s sent) = option_map replies.Submit (reply_at_submit d s)
reply_at d (Unlinks u) = Some (replies.Unlink (reply_to_unlink d.pending u))
reply_at d Asks = option_map replies.Submit (reply_at_report d)
reply_at d (Becomes core) = None

-- ---- what a reply answers

-- -104: a submit was taken back
abbrev pub is_unlinked : Status → Bool
is_unlinked Unlinked = true
is_unlinked _ = false

-- how often an unlink answers the submit of this number: once where its reply has -104, and names that submit
abbrev pub answers_by_unlink : ℕ → Unlink → UnlinkReply → ℕ
answers_by_unlink n u r = if is_unlinked r.status then one_if_same n u.submit else 0

-- How often the submit of this number is answered where something happens, by the reply that goes out: by RET_SUBMIT with its
-- number, or by RET_UNLINK with -104 in its place. A RET_UNLINK with 0 answers no submit.
abbrev pub answers_by : ℕ → Happening → Option Reply → ℕ
answers_by n h None = 0
answers_by n h (Some (replies.Submit r)) = one_if_same n r.seqnum
answers_by n (Unlinks u) (Some (replies.Unlink r)) = answers_by_unlink n u r
answers_by n _ (Some (replies.Unlink r)) = 0

-- how often an unlink of this number is answered by a reply: by RET_UNLINK with its number
abbrev pub answers_unlink : ℕ → Option Reply → ℕ
answers_unlink n None = 0
answers_unlink n (Some (replies.Submit r)) = 0
answers_unlink n (Some (replies.Unlink r)) = one_if_same n r.seqnum

-- ---- how often each command comes, and is answered

-- how often a submit of this number comes where something happens
abbrev pub submits_at : ℕ → Happening → ℕ
submits_at n (Submits s sent) = one_if_same n s.seqnum
submits_at n _ = 0

-- how often an unlink of this number comes where something happens
abbrev pub unlinks_at : ℕ → Happening → ℕ
unlinks_at n (Unlinks u) = one_if_same n u.seqnum
unlinks_at n _ = 0

-- how often submits of this number come
abbrev pub submits_of : ℕ → List Happening → ℕ
submits_of n [] = 0
submits_of n (h ∷ hs) = submits_at n h + submits_of n hs

-- how often unlinks of this number come
abbrev pub unlinks_of : ℕ → List Happening → ℕ
unlinks_of n [] = 0
unlinks_of n (h ∷ hs) = unlinks_at n h + unlinks_of n hs

-- how often submits of this number are answered
abbrev pub answers_to : ℕ → ExportedDevice → List Happening → ℕ
answers_to n d [] = 0
answers_to n d (h ∷ hs) = answers_by n h (reply_at d h) + answers_to n (device_after d h) hs

-- how often unlinks of this number are answered
abbrev pub unlink_answers_to : ℕ → ExportedDevice → List Happening → ℕ
unlink_answers_to n d [] = 0
unlink_answers_to n d (h ∷ hs) = answers_unlink n (reply_at d h) + unlink_answers_to n (device_after d h) hs

-- Each submit to a device is answered once, or waits still: of each number as many as came, and waited before, are answered or wait
-- still.
abbrev pub AnswersSubmitsOnce : ExportedDevice → List Happening → Type 0
AnswersSubmitsOnce d hs =
    (n : ℕ) → answers_to n d hs + waiting n (device_after_all d hs).pending ≡ submits_of n hs + waiting n d.pending

-- Each unlink is answered once, and at once: of each number as many as came are answered.
abbrev pub AnswersUnlinksOnce : ExportedDevice → List Happening → Type 0
AnswersUnlinksOnce d hs = (n : ℕ) → unlink_answers_to n d hs ≡ unlinks_of n hs
