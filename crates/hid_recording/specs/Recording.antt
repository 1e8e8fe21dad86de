-- A recording that is being run, seen as its place: for proofs (our choice).
use Rattle.hid_recording.specs.declared.recording.Recording.{Recording}
use Rattle.hid_recording.specs.Player.{session_of}
use Rattle.hid_recording.specs.Place.{Place}

-- the place at which a recording stands
abbrev pub place_of : Recording → Place
place_of s = record { session = session_of s.player; begun = s.buffer.bytes.items; lines = s.lines }
