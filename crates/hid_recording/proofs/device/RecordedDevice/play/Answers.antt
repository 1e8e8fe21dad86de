use Rattle.std.proofs.Common.{◌++◌, length, refl, ap, ◌∙◌}
use Rattle.std.specs.Prelude.{string_bytes}
use Rattle.hid_usages.specs.Reading.{report_named}
use Rattle.hid_recording.specs.EventLines.{event_lines}
use Rattle.hid_recording.specs.LineOutput.{values_asked}
use Rattle.hid_recording.specs.contracts.device.RecordedDevice.{the_view}
use Rattle.hid_recording.specs.Taking.{member_events}
use Rattle.hid_recording.proofs.PieceLemmas.{cut_before, cut_after}
use Rattle.hid_recording.proofs.PlayerLemmas.{report_read, report_shown, report_taken, report_cut}
use Rattle.hid_recording.proofs.device.RecordedDevice.play.Goals as goal

pub returns-in_err-print_asked-clause-played : goal.returns-in_err-print_asked-clause-played
returns-in_err-print_asked-clause-played g c =
    let taken = c.in-Ok.ensures.taken in
    let source = c.args.source.now in
    let member = the_view c.self.inside in
    rw (← c.self.view_is)
    (report_cut source.options source.time.now source.device c.args.bytes.now member _ _ _ (string_bytes c.args.text.now) _ _ taken.0 _ _ taken.1
    (report_shown source.options source.time.now source.device c.args.bytes.now member c.layout-layout.result.now c.clear.new.self.items c.as_slice-events.result.now taken.0 taken.1 (c.layout-layout.ensures.layout ∙ c.in-Ok.ensures.layout) c.clear.ensures.items (c.as_slice-events.ensures.value ∙ taken.3))
    (cut_before _ _ (string_bytes c.args.text.now)
    (values_asked source.options source.time.now source.device c.layout-layout.result.now (report_named c.layout-layout.result.now c.args.bytes.now) c.args.bytes.now)
    (event_lines source.time.now source.device source.options c.layout-layout.result.now c.as_slice-events.result.now) _ c.in_err-print_asked.ensures) c.from_residual.ensures.1)

pub returns-in_err-print_events-clause-played : goal.returns-in_err-print_events-clause-played
returns-in_err-print_events-clause-played g c =
    let taken = c.in-Ok.ensures.taken in
    let source = c.args.source.now in
    let member = the_view c.self.inside in
    rw (← c.self.view_is)
    (report_cut source.options source.time.now source.device c.args.bytes.now member _ _ _ (string_bytes c.args.text.now) _ _ taken.0 _ _ taken.1
    (report_shown source.options source.time.now source.device c.args.bytes.now member c.layout-layout.result.now c.clear.new.self.items c.as_slice-events.result.now taken.0 taken.1 (c.layout-layout.ensures.layout ∙ c.in-Ok.ensures.layout) c.clear.ensures.items (c.as_slice-events.ensures.value ∙ taken.3))
    (cut_after _ _ _ _ _ _ _ _ c.in_ok-print_asked.ensures c.in_err-print_events.ensures) c.from_residual-in_err-print_events.ensures.1)

pub returns-clause-played : goal.returns-clause-played
returns-clause-played g c =
    let taken = c.in-Ok.ensures.taken in
    let source = c.args.source.now in
    let member = the_view c.self.inside in
    let after = the_view (record { receiver = c.take_report.new.self; events = c.take_report.new.out; in_doubt = c.self.inside.in_doubt }) in
    rw (← c.self.view_is)
    (report_taken source.options source.time.now source.device c.args.bytes.now member after _ _ _ (string_bytes c.args.text.now) _ _ _ _ _ taken.0 taken.1
    (report_read after member c.args.bytes.now taken.0 c.in-Ok.ensures.layout taken.2 c.in-Ok.ensures.collected refl)
    (ap (λ l. length l) (c.as_slice-events.ensures.value ∙ taken.3 ∙ ap (λ l. l ++ member_events member taken.0 c.args.bytes.now) c.clear.ensures.items))
    (report_shown source.options source.time.now source.device c.args.bytes.now member c.layout-layout.result.now c.clear.new.self.items c.as_slice-events.result.now taken.0 taken.1 (c.layout-layout.ensures.layout ∙ c.in-Ok.ensures.layout) c.clear.ensures.items (c.as_slice-events.ensures.value ∙ taken.3))
    c.in_ok-print_asked.ensures c.in_ok-print_events.ensures)
