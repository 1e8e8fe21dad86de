use Rattle.std.proofs.Common.{◌+◌, ap, ◌∙◌, ◌++◌, drop}
use Rattle.std.specs.List.{flat_map}
use Rattle.hid_recording.specs.EventLines.{event_line}
use Rattle.hid_recording.proofs.PieceLemmas.{carries_line, carries_same, line_cut, line_memory, lines_of_all, lines_of_more}
use Rattle.hid_recording.proofs.event_line.print_events.Goals as goal
use Rattle.std.proofs.Common.{sym}

pub returns-in_err-print_event : goal.returns-in_err-print_event
returns-in_err-print_event g c =
    let f = event_line c.args.source.now.time.now c.args.source.now.device c.args.source.now.options c.args.layout.now in
    line_memory _ _ _ _ _ _ _ _ _ c.loop-event.invariant (lines_of_all f c.args.events.now c.loop-event.event-index) c.from_residual.ensures.1

pub returns-in_err-write_long : goal.returns-in_err-write_long
returns-in_err-write_long g c =
    let f = event_line c.args.source.now.time.now c.args.source.now.device c.args.source.now.options c.args.layout.now in
    line_cut _ _ _ _ _ _ _ _ _ _ _ _ _ c.loop-event.invariant c.in_ok-print_event.ensures c.in_err-write_long.ensures
    (lines_of_all f c.args.events.now (c.loop-event.event-index + 1)
    ∙ ap (λ l. l ++ flat_map f (drop (c.loop-event.event-index + 1) c.args.events.now)) (lines_of_more f c.args.events.now c.loop-event.event-index _ c.loop-event-test.true)) c.from_residual-in_err-write_long.ensures.1

pub loop-event-preserved : goal.loop-event-preserved
loop-event-preserved g c =
    let f = event_line c.args.source.now.time.now c.args.source.now.device c.args.source.now.options c.args.layout.now in
    carries_same _ _ _ _ _ _ (sym (lines_of_more f c.args.events.now c.loop-event.event-index _ c.loop-event-test.true))
    (carries_line _ _ _ _ _ _ _ _ _ c.loop-event.invariant c.in_ok-print_event.ensures c.in_ok-write_long.ensures)
