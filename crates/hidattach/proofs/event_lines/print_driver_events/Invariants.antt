use Rattle.std.proofs.Common.{◌≡◌, ◌++◌, take}
use Rattle.std.specs.Prelude.{string_bytes}
use Rattle.hidattach.specs.EventLines.{driver_lines}
use Rattle.hidattach.proofs.event_lines.print_driver_events.Given as goal

-- the events so far are printed
abbrev pub invariant-loop-told : goal.invariant-loop-told
invariant-loop-told l =
    string_bytes l.text ≡ string_bytes l.fn.text ++ driver_lines l.printing.time.now l.printing.options l.laid (take l.told-index l.events)
