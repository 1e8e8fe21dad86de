-- A script that is being run, seen as its place: for proofs (our choice).
use Rattle.hid_script.specs.declared.script.Script.{Script}
use Rattle.hid_script.specs.Interpreter.{session_of}
use Rattle.hid_script.specs.Place.{Place}

-- the place at which a script stands
abbrev pub place_of : Script → Place
place_of s = record { session = session_of s.interpreter; begun = s.buffer.bytes.items; lines = s.lines }
