use Rattle.std.proofs.Common.{[], arith, sym}
use Rattle.std.proofs.KnownBytes.{Appends-nil}
use Rattle.std.proofs.lemmas.Bool.{eqb-true, eqb-false}
use Rattle.std.proofs.lemmas.List.{nil_from_length}
use Rattle.hid_recording.specs.Player.{session_of}
use Rattle.hid_recording.specs.Recording.{place_of}
use Rattle.hid_recording.proofs.PlaceLemmas.{stopped_at, last_line_told, last_line_stops, no_last_line}
use Rattle.hid_recording.proofs.recording.Recording.finish.Goals as goal

pub returns-then-is_empty-clause-ran : goal.returns-then-is_empty-clause-ran
returns-then-is_empty-clause-ran g c = ([], Appends-nil _, no_last_line (place_of c.args.self.now) c.end.result (nil_from_length c.args.self.now.buffer.bytes.items (eqb-true _ _ (sym (rw c.rest-line.ensures.value at c.if-is_empty.ensures)))) c.end.ensures)

pub returns-in-Err-clause-ran : goal.returns-in-Err-clause-ran
returns-in-Err-clause-ran g c =
    let told = rw c.rest-line.ensures.value at c.in-Err.ensures.outcome in
    let at = stopped_at
    (session_of c.args.self.now.player) c.args.self.now.lines c.summary-played.result c.stop_at.result c.summary-played.ensures.lines c.summary-played.ensures.counts c.stop_at.ensures.0 c.stop_at.ensures.2 in (
      told.0,
      told.1,
      last_line_stops (place_of c.args.self.now)
          (session_of c.line.new.self) told.0 c.in-Err.cause c.stop_at.result c.args.self.now.buffer.unbroken
          (omega (arith, eqb-false _ _ (sym (rw c.rest-line.ensures.value at c.if-is_empty.ensures)))) told.2 at.0 c.stop_at.ensures.1 at.1,
    )

pub returns-clause-ran : goal.returns-clause-ran
returns-clause-ran g c =
    let told = rw c.rest-line.ensures.value at c.in_default.ensures.outcome in
    (told.0, told.1, last_line_told (place_of c.args.self.now) (session_of c.line.new.self) told.0 c.end-2.result c.args.self.now.buffer.unbroken (omega (arith, eqb-false _ _ (sym (rw c.rest-line.ensures.value at c.if-is_empty.ensures)))) told.2 c.end-2.ensures)
