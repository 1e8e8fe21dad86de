use Rattle.std.proofs.Common.{◌≡◌, List, ℕ, None}
use Rattle.std.specs.Io.KnownBytes.{Appends, Consumes}
use Rattle.usb_capture.specs.Capture.{refusal_of}
use Rattle.hid_recording.specs.CaptureRun.{capture_place}
use Rattle.hid_recording.specs.CaptureRuns.{PlaysOn}
use Rattle.hid_recording.specs.FrameActs.{given_of}
use Rattle.hid_recording.proofs.capture_run.play_pieces.Given as goal

-- what was read was played, and what is written was told of it
abbrev pub invariant-loop : goal.invariant-loop
invariant-loop g l =
    ((read : List ℕ) × (written : List ℕ)
    × Consumes (g.R.Read.remaining l.fn.reader) (g.R.Read.remaining l.reader) read
    × Appends (g.W.Write.contents l.fn.writer) (g.W.Write.contents l.writer) written
    × PlaysOn (given_of l.fn.run.devices.given) (capture_place l.fn.run) read written (capture_place l.run))
    × (refusal_of l.run.capture.part ≡ None) × (l.run.devices.given ≡ l.fn.run.devices.given)
