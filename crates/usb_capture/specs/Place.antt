-- Where a capture stands: what the blocks so far said, the place of the next one, and the bytes that have come of it. What
-- more bytes give there.
use Rattle.std.specs.Prelude.{ℕ, ◌+◌, ◌-◌, ◌^◌, min, Bool, true, false, not, nat_lt, List, [], ◌++◌, length, take, Option, Some, None, Result, Ok, Err}
use Rattle.usb_capture.specs.declared.capture.Part.{Part}
use Rattle.usb_capture.specs.declared.capture.Part.TheVariants.{Begun, Whole, Refused}
use Rattle.usb_capture.specs.declared.fault.Cause.{Cause}
use Rattle.usb_capture.specs.declared.fault.CaptureFault.{CaptureFault}
use Rattle.usb_capture.specs.declared.format.Format.{Format}
use Rattle.usb_capture.specs.declared.format.Format.TheVariants.{Unknown}
use Rattle.usb_capture.specs.declared.reading.Reading.{Reading}
use Rattle.usb_capture.specs.FrameRecord.{FrameRecord, frame_in}
use Rattle.usb_capture.specs.Gathering.{block_length}
use Rattle.usb_capture.specs.Reading.{Known, known_after, frame_head_of, reading}

-- what the blocks so far said, the place of the next one in the file, and the bytes that have come of it
pub record Place : Type 0 where
  pub known : Known
  pub at : ℕ
  pub begun : List ℕ

-- The beginning of a capture: no byte has come.
abbrev pub begin : Place
begin = record { known = record { format = Unknown; interfaces = [] }; at = 0; begun = [] }

-- how many bytes were taken, where the capture stands then, and the frame of the block that they completed
pub record Taken : Type 0 where
  pub count : ℕ
  pub place : Place
  pub frame : Option FrameRecord

-- the place after n bytes; it stops at the greatest number of 64 bits
abbrev pub at_after : ℕ → ℕ → ℕ
at_after at n = min (at + n) (2 ^ 64 - 1)

-- the place after a block
abbrev pub place_after : Place → List ℕ → Reading → Place
place_after place block content =
    record { known = known_after place.known content; at = at_after place.at (length block); begun = [] }

-- a fault of the block at a place
abbrev pub fault_at : Place → Cause → CaptureFault
fault_at place cause = record { at = place.at; cause = cause }

-- a whole block
abbrev pub block_step : Place → ℕ → List ℕ → Result Reading Cause → Result Taken CaptureFault
block_step place count block (Err cause) = Err (fault_at place cause)
block_step place count block (Ok content) = Ok (record {
  count = count;
  place = place_after place block content;
  frame = frame_in place.at block (frame_head_of content);
})

-- more bytes of a block, of which these have come, by the length of the block that they begin with
abbrev pub step_by : Place → List ℕ → List ℕ → Result (Option ℕ) Cause → Result Taken CaptureFault
step_by place bytes come (Err cause) = Err (fault_at place cause)
step_by place bytes come (Ok None) = Ok (record { count = length bytes; place = record place { begun = come }; frame = None })
step_by place bytes come (Ok (Some n)) =
    block_step place (n - length place.begun) (take n come) (reading place.known.format place.known.interfaces (take n come))

-- What more bytes give: they are taken up to the end of the block that they complete, and else all of them.
unfoldable pub step : Place → List ℕ → Result Taken CaptureFault
step place bytes =
    step_by place bytes (place.begun ++ bytes) (block_length place.known.format (place.begun ++ bytes))

-- bytes that begin a block are no whole one
abbrev pub is_begun : Result (Option ℕ) Cause → Bool
is_begun (Ok None) = true
is_begun (Ok (Some n)) = false
is_begun (Err cause) = false

-- The invariant of a capture: the block that is kept isn't whole, or its frame lies in it, or it is refused.
abbrev pub is_sound : Part → Format → List ℕ → Bool
is_sound Begun format block = is_begun (block_length format block)
is_sound (Whole None) format block = true
is_sound (Whole (Some head)) format block = not (nat_lt (length block) (head.from + head.captured))
is_sound (Refused fault) format block = true
