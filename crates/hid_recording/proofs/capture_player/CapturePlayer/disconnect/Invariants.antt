use Rattle.std.proofs.Common.{◌≡◌, List, ℕ}
use Rattle.std.specs.Io.KnownBytes.{Appends}
use Rattle.hid_capture.specs.Tracking.{tracking_of}
use Rattle.hid_recording.specs.Acts.{ActsGive}
use Rattle.hid_recording.specs.FrameActs.{first_disconnections}
use Rattle.hid_recording.specs.Moments.{time_text}
use Rattle.hid_recording.specs.Player.{session_of}
use Rattle.hid_recording.proofs.capture_player.CapturePlayer.disconnect.Given as goal

-- the interfaces with lower numbers are gone
abbrev pub invariant-loop-number : goal.invariant-loop-number
invariant-loop-number g l =
    ((written : List ℕ) × Appends (g.W.Write.contents l.fn.writer) (g.W.Write.contents l.writer) written
    × ActsGive (time_text l.time) (session_of l.fn.self.player)
    (first_disconnections l.bus l.device (tracking_of l.fn.self.tracker).interfaces l.number) written (session_of l.self.player))
    × (tracking_of l.self.tracker ≡ tracking_of l.fn.self.tracker) × (l.self.given ≡ l.fn.self.given)
