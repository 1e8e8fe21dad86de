-- The data after a reply to a submit (USB/IP).
use Rattle.std.specs.Prelude.{◌≡◌, ℕ, ◌≤◌, List, [], ◌∷◌, length, Option, Some, None}
use Rattle.usb_control.specs.SetupBytes.{setup_of}
use Rattle.usbip.specs.declared.message.Direction.{Direction}
use Rattle.usbip.specs.declared.message.Direction.TheVariants.{Out, In}
use Rattle.usbip.specs.declared.message.Submit.{Submit}
use Rattle.usbip.specs.declared.message.SubmitReply.{SubmitReply}
use Rattle.usbip.specs.declared.pending.PendingSubmit.{PendingSubmit}
use Rattle.usbip_export.specs.declared.exported_device.ExportedDevice.{ExportedDevice}
use Rattle.usbip_export.specs.ExportedDevices.{reply_at_report, reply_at_submit, report_data, submit_data}

-- In bytes, the data after a reply of this length: as many where they go to the host, none where they went to the device.
abbrev pub payload_length : Direction → ℕ → ℕ
payload_length Out n = 0
payload_length In n = n

-- A reply has the data that it says: as many to the host, none for data to the device, and no more than there was room for.
pub record HasPayload (direction : Direction) (room : ℕ) (bytes : List ℕ) (r : SubmitReply) : Type 0 where
  pub payload : length bytes ≡ payload_length direction r.length
  pub within : r.length ≤ room

-- A reply has the data that it says, if there is one; without a reply there are no data.
abbrev pub HasPayloadIfAny : Direction → ℕ → List ℕ → Option SubmitReply → Type 0
HasPayloadIfAny direction room payload None = payload ≡ []
HasPayloadIfAny direction room payload (Some r) = HasPayload direction room payload r

-- The reply to the oldest of these submits, if there is one, has the data that it says; where none waits there is no reply.
abbrev pub OldestHasPayload : List PendingSubmit → List ℕ → Option SubmitReply → Type 0
OldestHasPayload [] payload reply = (payload ≡ []) × (reply ≡ None)
OldestHasPayload (p ∷ rest) payload reply = HasPayloadIfAny In p.length payload reply

-- Each reply at a submit has the data that it says, and those of a control transfer are no more than wLength.
pub record SubmitHasPayload (d : ExportedDevice) (s : Submit) : Type 0 where
  pub reply : HasPayloadIfAny s.direction s.length (submit_data d s) (reply_at_submit d s)
  pub within : length (submit_data d s) ≤ (setup_of s.setup).length

-- Each reply at a report has the data that it says.
abbrev pub ReportHasPayload : ExportedDevice → Type 0
ReportHasPayload d = OldestHasPayload d.pending (report_data d) (reply_at_report d)
