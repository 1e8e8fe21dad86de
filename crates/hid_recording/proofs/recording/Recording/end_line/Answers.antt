use Rattle.std.proofs.Common.{[], ap, ◌∙◌}
use Rattle.std.specs.Str.Lines.{strip_carriage_return}
use Rattle.std.proofs.KnownBytes.{Appends-nil}
use Rattle.hid_recording.specs.Player.{session_of}
use Rattle.hid_recording.specs.Recording.{place_of}
use Rattle.hid_recording.proofs.PlaceLemmas.{stopped_at, advances_line, line_feed_stops, long_line_stops}
use Rattle.hid_recording.proofs.recording.Recording.end_line.Goals as goal

pub returns-in-Err-clause-taken : goal.returns-in-Err-clause-taken
returns-in-Err-clause-taken g c =
    let at = stopped_at
    (session_of c.args.self.now.player) c.args.self.now.lines c.summary-played.result c.stop_at.result c.summary-played.ensures.lines c.summary-played.ensures.counts c.stop_at.ensures.0 c.stop_at.ensures.2 in (
      [],
      Appends-nil _,
      λ more.
          long_line_stops (place_of c.args.self.now) c.args.last.now more c.stop_at.result c.args.self.now.buffer.unbroken c.requires.unbroken c.in-Err.ensures.full at.0 c.stop_at.ensures.1 at.1,
    )

pub returns-in-Err-line-clause-taken : goal.returns-in-Err-line-clause-taken
returns-in-Err-line-clause-taken g c =
    let told = c.in-Err-line.ensures.outcome in
    let at = stopped_at
    (session_of c.args.self.now.player) c.args.self.now.lines c.summary-played.result c.stop_at-in-Err-line.result c.summary-played.ensures.lines c.summary-played.ensures.counts c.stop_at-in-Err-line.ensures.0 c.stop_at-in-Err-line.ensures.2 in (
      told.0,
      told.1,
      λ more. line_feed_stops (place_of c.args.self.now)
          (session_of c.line-2.new.self) c.args.last.now c.line.result.now more told.0 c.in-Err-line.cause c.stop_at-in-Err-line.result
          c.args.self.now.buffer.unbroken c.requires.unbroken
          (c.line.ensures ∙ ap strip_carriage_return c.in_default.ensures.ok) told.2 at.0 c.stop_at-in-Err-line.ensures.1 at.1,
    )

pub returns-clause-taken : goal.returns-clause-taken
returns-clause-taken g c =
    let told = c.in_default-line.ensures.outcome in
    rw c.clear.ensures (
      told.0,
      told.1,
      advances_line _ (session_of c.line-2.new.self) c.args.self.now.buffer.bytes.items c.args.last.now c.line.result.now c.args.self.now.lines told.0
          c.args.self.now.buffer.unbroken c.requires.unbroken (c.line.ensures ∙ ap strip_carriage_return c.in_default.ensures.ok) told.2,
    )
