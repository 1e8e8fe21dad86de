use Rattle.std.proofs.Common.{◌∙◌, refl, sym, ap}
use Rattle.std.proofs.lemmas.Option.{slice_get_read, slice_get_past}
use Rattle.hid_layout.specs.Controls.{is_input, is_input_report}
use Rattle.hid_snapshots.proofs.items.is_input.Goals as goal

pub returns-in-Some : goal.returns-in-Some
returns-in-Some c =
    let found = c.in-Some.ensures.lookup.3 in
    let there = slice_get_read c.reports.result.now _ c.args.report c.in-Some.report.now refl found.0 (found.1 c.in-Some.report.now) in
    c.is_input_kind.ensures ∙ sym (ap is_input_report there) ∙ ap (λ reports. is_input reports c.args.report) c.reports.ensures

pub returns-in-None : goal.returns-in-None
returns-in-None c =
    sym (ap is_input_report (slice_get_past c.reports.result.now c.args.report c.in-None.ensures.lookup.3)) ∙ ap (λ reports. is_input reports c.args.report) c.reports.ensures
