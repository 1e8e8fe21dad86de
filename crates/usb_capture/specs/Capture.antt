-- A capture that is being read, seen as its place.
use Rattle.std.specs.Prelude.{◌≡◌, ◌⊎◌, ℕ, List, [], ◌∷◌, length, Option, Some, None, Result, Ok, Err}
use Rattle.usb_capture.specs.declared.capture.Capture.{Capture}
use Rattle.usb_capture.specs.declared.capture.Part.{Part}
use Rattle.usb_capture.specs.declared.capture.Part.TheVariants.{Begun, Whole, Refused}
use Rattle.usb_capture.specs.declared.fault.CaptureFault.{CaptureFault}
use Rattle.usb_capture.specs.declared.fault.Cause.TheVariants.{Cut, Memory}
use Rattle.usb_capture.specs.declared.format.Format.{Format}
use Rattle.usb_capture.specs.declared.format.Format.TheVariants.{Unknown, Pcap, Section}
use Rattle.usb_capture.specs.FrameRecord.{FrameRecord, frame_in}
use Rattle.usb_capture.specs.Place.{Place, step, fault_at, at_after}
use Rattle.usb_capture.specs.Reading.{Known}

-- where a capture stands, by what came of the block that it keeps
abbrev pub place_by : Part → Known → ℕ → List ℕ → Place
place_by Begun known at block = record { known = known; at = at; begun = block }
place_by (Whole head) known at block = record { known = known; at = at_after at (length block); begun = [] }
place_by (Refused fault) known at block = record { known = known; at = at; begun = block }

-- a capture that keeps no whole block stands here
abbrev pub kept_place : Capture → Place
kept_place c = record { known = record { format = c.format; interfaces = c.interfaces.items }; at = c.at; begun = c.block.items }

-- the place at which a capture of the program stands
abbrev pub place_of : Capture → Place
place_of c = place_by c.part (record { format = c.format; interfaces = c.interfaces.items }) c.at c.block.items

-- the frame of the block that was completed last
abbrev pub frame_by : Part → ℕ → List ℕ → Option FrameRecord
frame_by Begun at block = None
frame_by (Whole head) at block = frame_in at block head
frame_by (Refused fault) at block = None

-- the frame that a capture of the program shows
abbrev pub frame_shown : Capture → Option FrameRecord
frame_shown c = frame_by c.part c.at c.block.items

-- why a capture is refused
abbrev pub refusal_of : Part → Option CaptureFault
refusal_of Begun = None
refusal_of (Whole head) = None
refusal_of (Refused fault) = Some fault

-- where a capture stands, the frame that it shows, and why it is refused, if it is
pub record CaptureState : Type 0 where
  pub place : Place
  pub frame : Option FrameRecord
  pub refusal : Option CaptureFault

-- what callers see of a capture: its place, its frame, and why it is refused
abbrev pub state_of : Capture → CaptureState
state_of c = record { place = place_of c; frame = frame_shown c; refusal = refusal_of c.part }

-- what a call that takes bytes gave, by the refusal before it
abbrev pub TakesBy : Option CaptureFault → CaptureState → List ℕ → Result ℕ CaptureFault → CaptureState → Type 0
TakesBy (Some fault) old bytes result new = (result ≡ Err fault) × (new ≡ old)
TakesBy None old bytes (Ok n) new =
    (step old.place bytes ≡ Ok (record { count = n; place = new.place; frame = new.frame })) × (new.refusal ≡ None)
TakesBy None old bytes (Err fault) new =
    ((fault ≡ fault_at old.place Memory) ⊎ (step old.place bytes ≡ Err fault)) × (new.refusal ≡ Some fault)

-- What a call that takes bytes gives: a refused capture stays so; else the step of the definition, or out of memory.
abbrev pub Takes : CaptureState → List ℕ → Result ℕ CaptureFault → CaptureState → Type 0
Takes old bytes result new = TakesBy old.refusal old bytes result new

-- the end of the bytes, where a block has begun, or none
abbrev pub end_in : Format → ℕ → List ℕ → Result (Unit {0}) CaptureFault
end_in Unknown at block = Err (record { at = at; cause = Cut })
end_in (Pcap order fraction link) at [] = Ok tt
end_in (Section order) at [] = Ok tt
end_in (Pcap order fraction link) at (b ∷ block) = Err (record { at = at; cause = Cut })
end_in (Section order) at (b ∷ block) = Err (record { at = at; cause = Cut })

-- what the end of the bytes gives
abbrev pub end_by : Part → Format → ℕ → List ℕ → Result (Unit {0}) CaptureFault
end_by Begun format at block = end_in format at block
end_by (Whole head) format at block = Ok tt
end_by (Refused fault) format at block = Err fault

-- what the end of the bytes gives a capture of the program
abbrev pub end_of : Capture → Result (Unit {0}) CaptureFault
end_of c = end_by c.part c.format c.at c.block.items
