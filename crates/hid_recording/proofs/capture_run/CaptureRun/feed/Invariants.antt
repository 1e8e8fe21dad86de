use Rattle.std.proofs.Common.{◌≡◌, ◌++◌, List, ℕ, None, length}
use Rattle.std.specs.Io.KnownBytes.{Appends}
use Rattle.usb_capture.specs.Capture.{refusal_of}
use Rattle.hid_recording.specs.CaptureRun.{capture_place}
use Rattle.hid_recording.specs.CaptureRuns.{PlaysOn}
use Rattle.hid_recording.specs.FrameActs.{given_of}
use Rattle.hid_recording.proofs.capture_run.CaptureRun.feed.Given as goal

-- the bytes before what is left were played, and what is written was told of them
abbrev pub invariant-loop-rest : goal.invariant-loop-rest
invariant-loop-rest g l =
    ((written : List ℕ) × (before : List ℕ) × Appends (g.W.Write.contents l.fn.writer) (g.W.Write.contents l.writer) written
    × PlaysOn (given_of l.fn.self.devices.given) (capture_place l.fn.self) before written (capture_place l.self) × (l.piece ≡ before ++ l.rest))
    × (refusal_of l.self.capture.part ≡ None) × (l.self.devices.given ≡ l.fn.self.devices.given)

abbrev pub decreases-loop-rest : goal.decreases-loop-rest
decreases-loop-rest g l = length l.rest
