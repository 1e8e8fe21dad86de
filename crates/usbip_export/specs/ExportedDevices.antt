-- What an exported device makes of submits and unlinks (USB/IP; USB 2.0, 5.5 and 5.7).
use Rattle.std.specs.Prelude.{ℕ, ◌==◌, ◌&&◌, ◌||◌, not, min, Bool, true, false, if◌then◌else◌, List, [], ◌∷◌, ◌++◌, drop, unwrap_or, Option, Some, None}
use Rattle.usb_control.specs.declared.setup.Setup.{Setup}
use Rattle.usb_control.specs.SetupBytes.{reads, setup_of}
use Rattle.hid_device.specs.Core.{CoreState}
use Rattle.hid_device.specs.RequestTable.{core_table}
use Rattle.hid_gadget.specs.declared.outcomes.Control.{Control}
use Rattle.hid_gadget.specs.declared.outcomes.Control.TheVariants as ends
use Rattle.hid_gadget.specs.declared.outcomes.Poll.{Poll}
use Rattle.hid_gadget.specs.declared.outcomes.Poll.TheVariants as polls
use Rattle.hid_gadget.specs.WholeTransfers.{after_transfer, bytes_given, control_result}
use Rattle.hid_gadget.specs.WholeReports.{bytes_taken, core_after_report, report_result}
use Rattle.usbip.specs.declared.message.Direction.{Direction}
use Rattle.usbip.specs.declared.message.Direction.TheVariants.{Out, In}
use Rattle.usbip.specs.declared.message.Status.{Status}
use Rattle.usbip.specs.declared.message.Status.TheVariants.{Success, Stalled, Overflow, BadRequest}
use Rattle.usbip.specs.declared.message.Submit.{Submit}
use Rattle.usbip.specs.declared.message.Unlink.{Unlink}
use Rattle.usbip.specs.declared.message.SubmitReply.{SubmitReply}
use Rattle.usbip.specs.declared.message.Reply.TheVariants as replies
use Rattle.usbip.specs.declared.pending.PendingSubmit.{PendingSubmit}
use Rattle.usbip.specs.Messages.{reply_bytes}
use Rattle.usbip.specs.Pending.{pending_after_submit, pending_after_unlink, reply_to_oldest, reply_to_submit, reply_to_unlink}
use Rattle.usbip_export.specs.declared.exported_device.TheConstants.{MAX_ROOM}
use Rattle.usbip_export.specs.declared.exported_device.ExportedDevice.{ExportedDevice}

-- ---- control transfers

-- data go the way that the setup data say
abbrev pub is_way : Direction → Bool → Bool
is_way Out is_read = not is_read
is_way In is_read = is_read

-- The length and the direction of a control submit are those of its setup data. Without data either direction will do.
abbrev pub fits_setup : Submit → Setup → Bool
fits_setup s setup = (s.length == setup.length) && ((setup.length == 0) || is_way s.direction (reads setup))

-- the reply to a submit that moves no data
abbrev pub refused_reply : Submit → Status → SubmitReply
refused_reply s status = record { seqnum = s.seqnum; status = status; length = 0 }

-- The reply to a control submit, by how its transfer ends: of a read the length of the answer, of a write all that it sends.
abbrev pub ended_reply : Submit → Control → SubmitReply
ended_reply s ends.Stalled = refused_reply s Stalled
ended_reply s (ends.Done n) =
    record { seqnum = s.seqnum; status = Success; length = if reads (setup_of s.setup) then n else s.length }

-- The reply to a control submit. Example: one whose length isn't wLength is refused with -53
abbrev pub control_reply : CoreState → Submit → SubmitReply
control_reply core s =
    if fits_setup s (setup_of s.setup) then ended_reply s (control_result core_table core (setup_of s.setup))
    else refused_reply s BadRequest

-- the core after a control submit: its transfer is carried out once, or not at all
abbrev pub core_after_control : CoreState → Submit → List ℕ → CoreState
core_after_control core s sent =
    if fits_setup s (setup_of s.setup) then after_transfer core_table core (setup_of s.setup) sent else core

-- the data that a control submit gives its host
abbrev pub control_data : CoreState → Submit → List ℕ
control_data core s =
    if fits_setup s (setup_of s.setup) then unwrap_or (bytes_given core_table core (setup_of s.setup)) [] else []

-- ---- submits

-- The submit asks for a report: endpoint 1 to the host, of a device that is configured.
abbrev pub asks_for_report : CoreState → Submit → Bool
asks_for_report core s = (s.endpoint == 1) && (is_way s.direction true && core.is_configured)

-- The reply to a submit, if it is answered at once. Example: a submit to endpoint 5 is answered with STALL
abbrev pub reply_at_submit : ExportedDevice → Submit → Option SubmitReply
reply_at_submit d s =
    if s.endpoint == 0 then Some (control_reply d.gadget s)
    else if asks_for_report d.gadget s then reply_to_submit d.pending s
    else Some (refused_reply s Stalled)

-- the status of a reply, if there is one
abbrev pub status_of_reply : Option SubmitReply → Option Status
status_of_reply None = None
status_of_reply (Some r) = Some r.status

-- an exported device after a submit with these data
abbrev pub device_after_submit : ExportedDevice → Submit → List ℕ → ExportedDevice
device_after_submit d s sent =
    if s.endpoint == 0 then record d { gadget = core_after_control d.gadget s sent }
    else if asks_for_report d.gadget s then record d { pending = pending_after_submit d.pending s }
    else d

-- the data that a submit gives its host at once
abbrev pub submit_data : ExportedDevice → Submit → List ℕ
submit_data d s = if s.endpoint == 0 then control_data d.gadget s else []

-- ---- reports

-- in bytes, the room of a submit for a report
abbrev pub report_room : PendingSubmit → ℕ
report_room p = min p.length MAX_ROOM

-- the reply to the oldest submit that waits, by how its interrupt transfer ends; none where nothing is due
abbrev pub reply_of_poll : List PendingSubmit → Poll → Option SubmitReply
reply_of_poll ps polls.Nothing = None
reply_of_poll ps (polls.Done n) = reply_to_oldest ps Success n
reply_of_poll ps polls.Stalled = reply_to_oldest ps Stalled 0
reply_of_poll ps polls.TooSmall = reply_to_oldest ps Overflow 0

-- what waits after the interrupt transfer of the oldest submit
abbrev pub pending_after_poll : List PendingSubmit → Poll → List PendingSubmit
pending_after_poll ps polls.Nothing = ps
pending_after_poll ps (polls.Done n) = drop 1 ps
pending_after_poll ps polls.Stalled = drop 1 ps
pending_after_poll ps polls.TooSmall = drop 1 ps

-- the reply to the oldest of these submits, if a report is due
abbrev pub reply_of_oldest : CoreState → List PendingSubmit → Option SubmitReply
reply_of_oldest core [] = None
reply_of_oldest core (p ∷ rest) = reply_of_poll (p ∷ rest) (report_result core (report_room p))

-- the core once the oldest of these submits was asked for
abbrev pub core_of_oldest : CoreState → List PendingSubmit → CoreState
core_of_oldest core [] = core
core_of_oldest core (p ∷ rest) = core_after_report core (report_room p)

-- what waits once the oldest of these submits was asked for
abbrev pub pending_of_oldest : CoreState → List PendingSubmit → List PendingSubmit
pending_of_oldest core [] = []
pending_of_oldest core (p ∷ rest) = pending_after_poll (p ∷ rest) (report_result core (report_room p))

-- the report, or as much of it as fits the room of the oldest of these submits
abbrev pub data_of_oldest : CoreState → List PendingSubmit → List ℕ
data_of_oldest core [] = []
data_of_oldest core (p ∷ rest) = bytes_taken core (report_room p)

-- The reply to the oldest submit that waits, if a report is due. Example: a key goes down, and a submit with room for 8
-- bytes is answered with 8
abbrev pub reply_at_report : ExportedDevice → Option SubmitReply
reply_at_report d = reply_of_oldest d.gadget d.pending

-- an exported device after it was asked for a report
abbrev pub device_after_report : ExportedDevice → ExportedDevice
device_after_report d =
    record d { gadget = core_of_oldest d.gadget d.pending; pending = pending_of_oldest d.gadget d.pending }

-- the data that go with a report
abbrev pub report_data : ExportedDevice → List ℕ
report_data d = data_of_oldest d.gadget d.pending

-- ---- unlinks, and who has the device

-- an exported device after an unlink: the oldest submit of its number doesn't wait any more, and no report is taken
abbrev pub device_after_unlink : ExportedDevice → Unlink → ExportedDevice
device_after_unlink d u = record d { pending = pending_after_unlink d.pending u }

-- an exported device once a connection has it
abbrev pub device_after_import : ExportedDevice → ExportedDevice
device_after_import d = record d { imported = true }

-- an exported device whose connection is over: nothing waits, nobody has it, and its gadget is as it was
abbrev pub device_after_end : ExportedDevice → ExportedDevice
device_after_end d = record d { pending = []; imported = false }

-- ---- the bytes of answers

-- the bytes of a reply to a submit with its data; nothing where there is no reply
abbrev pub answer_bytes : Option SubmitReply → List ℕ → List ℕ
answer_bytes None payload = []
answer_bytes (Some r) payload = reply_bytes (replies.Submit r) ++ payload

-- what is written at a submit
abbrev pub answer_to_submit : ExportedDevice → Submit → List ℕ
answer_to_submit d s = answer_bytes (reply_at_submit d s) (submit_data d s)

-- what is written at a report
abbrev pub answer_of_report : ExportedDevice → List ℕ
answer_of_report d = answer_bytes (reply_at_report d) (report_data d)

-- what is written at an unlink
abbrev pub answer_to_unlink : ExportedDevice → Unlink → List ℕ
answer_to_unlink d u = reply_bytes (replies.Unlink (reply_to_unlink d.pending u))
