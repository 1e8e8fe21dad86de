use Rattle.std.proofs.Common.{List, ℕ}
use Rattle.std.specs.Io.KnownBytes.{Appends}
use Rattle.hid_recording.specs.LiveReports.{TimedReport}
use Rattle.hid_recording.specs.LiveRuns.{ReportsGive}
use Rattle.hid_recording.specs.Player.{session_of}
use Rattle.hid_recording.proofs.LiveLemmas.{Came}
use Rattle.hid_recording.proofs.live.play_reports.Given as goal

-- the reports that came were played, and what is written was told of them
abbrev pub invariant-loop : goal.invariant-loop
invariant-loop g l =
    (read : List TimedReport) × (written : List ℕ)
    × Came (g.D.LiveDevice.sent l.fn.device) (g.D.LiveDevice.sent l.device) read
    × Appends (g.W.Write.contents l.fn.writer) (g.W.Write.contents l.writer) written
    × ReportsGive (session_of l.fn.run.player) read written (session_of l.run.player)
