use Rattle.hid_recording.specs.Player.{session_of}
use Rattle.hid_recording.specs.Recording.{place_of}
use Rattle.hid_recording.proofs.PlaceLemmas.{long_stops, advances_kept}
use Rattle.hid_recording.proofs.recording.Recording.keep.Goals as goal

pub returns-in-Err-clause-taken : goal.returns-in-Err-clause-taken
returns-in-Err-clause-taken c = λ more.
    long_stops (place_of c.args.self.now) c.args.bytes.now more c.fault.result c.args.self.now.buffer.unbroken c.requires.unbroken c.in-Err.ensures.full c.fault.ensures.0 c.fault.ensures.1 c.fault.ensures.2

pub returns-clause-taken : goal.returns-clause-taken
returns-clause-taken c =
    advances_kept (session_of c.args.self.now.player) c.args.self.now.buffer.bytes.items c.args.bytes.now c.keep.new.self.bytes.items c.args.self.now.lines c.in_default.ensures.ok
