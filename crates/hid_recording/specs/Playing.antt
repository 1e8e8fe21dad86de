-- What a report of a device makes of it, and adds to a text: for proofs (our choice).
use Rattle.std.specs.Prelude.{◌≡◌, ℕ, List, ◌++◌, length, set, slice_get, Option, None, Some, Result, Ok, Err}
use Rattle.hid_snapshots.specs.declared.fault.ReportFault.{ReportFault}
use Rattle.hid_usages.specs.Reading.{report_named}
use Rattle.hid_recording.specs.declared.options.Options.{Options}
use Rattle.hid_recording.specs.declared.fault.Cause.{Cause}
use Rattle.hid_recording.specs.declared.fault.Cause.TheVariants.{Refused, LineTooLong, Read, Write, Memory, TooManyReads, Unended}
use Rattle.hid_recording.specs.declared.fault.Refusal.{Refusal}
use Rattle.hid_recording.specs.declared.fault.Refusal.TheVariants.{NoLayout, Report}
use Rattle.hid_recording.specs.declared.fault.TextFault.{TextFault}
use Rattle.hid_recording.specs.declared.fault.TextFault.TheVariants as faults
use Rattle.hid_recording.specs.declared.event_line.Source.{Source}
use Rattle.hid_recording.specs.Pieces.{Carries, CutsOff}
use Rattle.hid_recording.specs.Session.{PlayedDevice}
use Rattle.hid_recording.specs.Taking.{read_member, member_events}
use Rattle.hid_recording.specs.LineOutput.{report_text, member_in_slot}

-- a report was read, and its text was cut off after what came before it
pub record TakesPart (options : Options) (time : List ℕ) (device : ℕ) (bytes : List ℕ) (member : PlayedDevice)
    (old new : Option (List ℕ)) (text : List ℕ) (fault : TextFault) : Type 0 where
  pub report : ℕ
  pub named : report_named member.layout bytes ≡ Ok report
  pub told : CutsOff old new (text ++ report_text options time device member report bytes) fault

-- the bytes are no report: nothing was written, and the device is as it was
abbrev pub TakesNone : PlayedDevice → List ℕ → Option (List ℕ) → Option (List ℕ) → Refusal → PlayedDevice → Type 0
TakesNone member bytes old new refusal after =
    (after ≡ member) × (fault : ReportFault) × (report_named member.layout bytes ≡ Err fault) × (refusal ≡ Report fault)
    × (new ≡ old)

-- why no report was played to its end
abbrev pub StopsPlaying : Options → List ℕ → ℕ → List ℕ → PlayedDevice → Option (List ℕ) → Option (List ℕ) → List ℕ → Cause
    → PlayedDevice → Type 0
StopsPlaying options time device bytes member old new text Memory after =
    TakesPart options time device bytes member old new text faults.Memory
StopsPlaying options time device bytes member old new text Write after =
    TakesPart options time device bytes member old new text faults.Write
StopsPlaying options time device bytes member old new text (Refused refusal) after =
    TakesNone member bytes old new refusal after
StopsPlaying options time device bytes member old new text LineTooLong after = ⊥
StopsPlaying options time device bytes member old new text Read after = ⊥
StopsPlaying options time device bytes member old new text TooManyReads after = ⊥
StopsPlaying options time device bytes member old new text Unended after = ⊥

-- a report was read, and its text was added to what came before it
pub record TakesOne (options : Options) (time : List ℕ) (device : ℕ) (bytes : List ℕ) (member : PlayedDevice)
    (old new : Option (List ℕ)) (text : List ℕ) (events : ℕ) (after : PlayedDevice) (left : List ℕ) : Type 0 where
  pub report : ℕ
  pub named : report_named member.layout bytes ≡ Ok report
  pub read : after ≡ read_member member report bytes
  pub count : events ≡ length (member_events member report bytes)
  pub told : Carries old new text (report_text options time device member report bytes) left

-- what playing a report of a device makes of the device, of the text and of the writer
abbrev pub PlaysMember : Options → List ℕ → ℕ → List ℕ → PlayedDevice → Option (List ℕ) → Option (List ℕ) → List ℕ
    → Result ℕ Cause → PlayedDevice → List ℕ → Type 0
PlaysMember options time device bytes member old new text (Ok events) after left =
    TakesOne options time device bytes member old new text events after left
PlaysMember options time device bytes member old new text (Err cause) after left =
    StopsPlaying options time device bytes member old new text cause after

-- a report of the device in a slot was played
pub record SlotTakesOne (options : Options) (time : List ℕ) (device : ℕ) (bytes : List ℕ)
    (slot : Option PlayedDevice) (old new : Option (List ℕ))
    (text : List ℕ) (events : ℕ) (after : Option PlayedDevice) (left : List ℕ) : Type 0 where
  pub member : PlayedDevice
  pub next : PlayedDevice
  pub there : slot ≡ Some member
  pub behind : after ≡ Some next
  pub took : TakesOne options time device bytes member old new text events next left

-- a slot without a device: its report is refused, and nothing was written
abbrev pub FindsNone : Option (List ℕ) → Option (List ℕ) → Cause → Option PlayedDevice → Type 0
FindsNone old new (Refused refusal) after = (after ≡ None) × (refusal ≡ NoLayout) × (new ≡ old)
FindsNone old new cause after = ⊥

-- why no report of the device in a slot was played to its end
abbrev pub SlotStops : Options → List ℕ → ℕ → List ℕ → Option PlayedDevice → Option (List ℕ) → Option (List ℕ) → List ℕ
    → Cause → Option PlayedDevice → Type 0
SlotStops options time device bytes None old new text cause after = FindsNone old new cause after
SlotStops options time device bytes (Some member) old new text cause after =
    (next : PlayedDevice) × (after ≡ Some next)
    × StopsPlaying options time device bytes member old new text cause next

-- what playing a report of the device in a slot makes of the slot, of the text and of the writer
abbrev pub PlaysSlot : Options → List ℕ → ℕ → List ℕ → Option PlayedDevice → Option (List ℕ) → Option (List ℕ) → List ℕ
    → Result ℕ Cause → Option PlayedDevice → List ℕ → Type 0
PlaysSlot options time device bytes slot old new text (Ok events) after left =
    SlotTakesOne options time device bytes slot old new text events after left
PlaysSlot options time device bytes slot old new text (Err cause) after left =
    SlotStops options time device bytes slot old new text cause after

-- what playing a report gives: the text of its line, by where the report came from
abbrev pub PlaysReport : Source → List ℕ → Option PlayedDevice → Option (List ℕ) → Option (List ℕ) → List ℕ → Result ℕ Cause
    → Option PlayedDevice → List ℕ → Type 0
PlaysReport source bytes slot old new text result after left =
    PlaysSlot source.options source.time.now source.device bytes slot old new text result after left

-- what playing a report of the device at a place makes of the devices, of the text and of the writer
abbrev pub PlaysAt : Options → List ℕ → ℕ → List ℕ → List (Option PlayedDevice) → Option (List ℕ) → Option (List ℕ) → List ℕ
    → Result ℕ Cause → List (Option PlayedDevice) → List ℕ → Type 0
PlaysAt options time device bytes devices old new text result after left =
    (next : Option PlayedDevice)
    × PlaysSlot options time device bytes (member_in_slot (slice_get devices device)) old new text result next left
    × (after ≡ set devices device next)
