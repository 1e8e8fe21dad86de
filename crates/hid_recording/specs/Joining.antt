-- Chunks of a dump, joined to reports as a host joins packets (USB 2.0, 5.7.3; that a chunk is a packet: our choice,
-- docs/RECORDINGS.md).
use Rattle.std.specs.Prelude.{◌≡◌, ℕ, Bool, true, false, ◌&&◌, nat_le, nat_lt, List, [], length, if◌then◌else◌, Option, None, Some}
use Rattle.std.specs.List.{list_any}
use Rattle.std.specs.Option.{option_map}
use Rattle.hid_report_descriptor.specs.declared.report.Report.{Report}
use Rattle.hid_report_descriptor.specs.declared.report.ReportKind.TheVariants.{Input}
use Rattle.hid_report_descriptor.specs.Fields.{same_kind}
use Rattle.hid_layout.specs.Layout.{Contents}
use Rattle.hid_usages.specs.Receiving.{ReceiverState}
use Rattle.hid_usages.specs.Receiving as receiving
use Rattle.hid_recording.specs.declared.device.Joined.{Joined}
use Rattle.hid_recording.specs.declared.device.Joined.TheVariants.{Unknown, Doubtful, Begun, Whole}
use Rattle.hid_recording.specs.declared.fault.Refusal.{Refusal}
use Rattle.hid_recording.specs.declared.fault.Refusal.TheVariants as refusals
use Rattle.hid_recording.specs.Session.{PlayedDevice}

-- an Input report of over 64 bytes with its ID, which spans packets
abbrev pub is_long : Bool → Report → Bool
is_long numbered report = same_kind report.kind Input && nat_lt (if numbered then 504 else 512) report.bits

-- a device that has an Input report of over 64 bytes
abbrev pub has_long : Contents → Bool
has_long layout = list_any (is_long layout.numbered) layout.reports

-- A device of which a part of a report may have been left out: what came of the report is dropped, and the next chunk
-- may be the rest of one, where it has a long one.
abbrev pub member_after_doubt : PlayedDevice → PlayedDevice
member_after_doubt member = record member { collected = []; in_doubt = has_long member.layout }

-- a slot after a part of a report may have been left out of its device; an empty slot stays empty
abbrev pub slot_after_doubt : Option PlayedDevice → Option PlayedDevice
slot_after_doubt slot = option_map member_after_doubt slot

-- the doubt ends with a packet that isn't full, which ends a report
abbrev pub past_chunk : PlayedDevice → List ℕ → PlayedDevice
past_chunk member chunk = record member { in_doubt = nat_le 64 (length chunk) }

-- what a device of a recording has received
abbrev pub receiving_of : PlayedDevice → ReceiverState
receiving_of member = record { layout = member.layout; view = member.states; collected = member.collected }

-- what came of a report, with one more chunk
abbrev pub bytes_with : PlayedDevice → List ℕ → List ℕ
bytes_with member chunk = receiving.bytes_with (receiving_of member) chunk

-- whether a report ends with this chunk, as with a packet
abbrev pub ends_with : PlayedDevice → List ℕ → Bool
ends_with member chunk = receiving.ends_with 64 (receiving_of member) chunk

-- what came of a report is kept until it ends
abbrev pub with_collected : PlayedDevice → List ℕ → PlayedDevice
with_collected member bytes = record member { collected = bytes }

-- What a chunk makes of a device: nothing where there is no device; the chunk is passed over if a part may be missing; or
-- the report goes on after the chunk, or ends with it. Example: 64 bytes, then 17, are a report of 81
abbrev pub Joins : Option PlayedDevice → List ℕ → Joined → Option PlayedDevice → Type 0
Joins slot chunk Unknown after = (slot ≡ None) × (after ≡ None)
Joins slot chunk Doubtful after =
    (member : PlayedDevice) × (slot ≡ Some member) × (member.in_doubt ≡ true)
    × (after ≡ Some (past_chunk member chunk))
Joins slot chunk Begun after =
    (member : PlayedDevice) × (slot ≡ Some member) × (member.in_doubt ≡ false)
    × (ends_with member chunk ≡ false)
    × (after ≡ Some (with_collected member (bytes_with member chunk)))
Joins slot chunk (Whole bytes) after =
    (member : PlayedDevice) × (slot ≡ Some member) × (member.in_doubt ≡ false)
    × (ends_with member chunk ≡ true)
    × (bytes.items ≡ bytes_with member chunk) × (after ≡ Some (with_collected member []))

-- why a chunk is refused; one that goes on or ends a report isn't
abbrev pub IsRefusedAs : Joined → Refusal → Type 0
IsRefusedAs Unknown refusal = refusal ≡ refusals.NoLayout
IsRefusedAs Doubtful refusal = refusal ≡ refusals.PartMissing
IsRefusedAs Begun refusal = ⊥
IsRefusedAs (Whole bytes) refusal = ⊥
