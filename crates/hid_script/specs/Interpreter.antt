-- The interpreter, seen as the session that it is in: for proofs (our choice).
use Rattle.std.specs.Prelude.{List}
use Rattle.hid_bus.specs.declared.step.Delivered.{Delivered}
use Rattle.hid_script.specs.declared.interpreter.Interpreter.{Interpreter}
use Rattle.hid_script.specs.Session.{Session}

-- the session of an interpreter
abbrev pub session_of : Interpreter → Session
session_of i = record { options = i.options; layout = i.layout; members = i.rig; events = i.events }

-- the events of the last step that was taken
abbrev pub last_events : Interpreter → List Delivered
last_events i = i.delivered.items
