use Rattle.std.proofs.Common.{take}
use Rattle.std.specs.Prelude.{string_bytes}
use Rattle.hid_recording.specs.EventLines.{event_lines}
use Rattle.hid_recording.specs.Pieces.{Carries}
use Rattle.hid_recording.proofs.event_line.print_events.Given as goal

-- the events so far are printed
abbrev pub invariant-loop-event : goal.invariant-loop-event
invariant-loop-event g l =
    Carries (g.W.Write.contents l.fn.writer) (g.W.Write.contents l.writer) (string_bytes l.fn.text)
    (event_lines l.source.time.now l.source.device l.source.options l.layout (take l.event-index l.events)) (string_bytes l.text)
