-- What came of a step, by the values of the program.
use Rattle.std.specs.Prelude.{◌≡◌, ◌⊎◌, ℕ, ◌+◌, ◌<◌, ◌≤◌, List, [], length, Option, Some, None, Result, Ok, Err}
use Rattle.usb_capture.specs.declared.advance.Advanced.{Advanced}
use Rattle.usb_capture.specs.declared.advance.Advanced.TheVariants.{All, Whole}
use Rattle.usb_capture.specs.declared.fault.Cause.{Cause}
use Rattle.usb_capture.specs.declared.fault.Cause.TheVariants.{Memory}
use Rattle.usb_capture.specs.declared.reading.FrameHead.{FrameHead}
use Rattle.usb_capture.specs.FrameRecord.{frame_in}
use Rattle.usb_capture.specs.Gathering.{IsPartial}
use Rattle.usb_capture.specs.Place.{Place, step, fault_at, at_after}
use Rattle.usb_capture.specs.Reading.{Known}

-- a frame, if there is one, lies in its block
abbrev pub FrameFits : Option FrameHead → List ℕ → Type 0
FrameFits None block = Unit {0}
FrameFits (Some head) block = head.from + head.captured ≤ length block

-- what a step gave, and what is known and kept after it
abbrev pub Stepped : Place → List ℕ → Result Advanced Cause → Known → List ℕ → Type 0
Stepped place bytes (Ok All) known block =
    (step place bytes ≡ Ok (record { count = length bytes; place = record { known = known; at = place.at; begun = block }; frame = None }))
    × IsPartial known.format block
Stepped place bytes (Ok (Whole n head)) known block =
    (step place bytes ≡ Ok (record {
      count = n;
      place = record { known = known; at = at_after place.at (length block); begun = [] };
      frame = frame_in place.at block head;
    })) × FrameFits head block × (n ≤ length bytes) × (0 < n)
Stepped place bytes (Err cause) known block = (cause ≡ Memory) ⊎ (step place bytes ≡ Err (fault_at place cause))
