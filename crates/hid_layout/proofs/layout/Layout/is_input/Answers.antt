use Rattle.std.proofs.Common.{◌≡◌, ◌∙◌, refl, sym, ap}
use Rattle.std.proofs.lemmas.Option.{slice_get_read, slice_get_past}
use Rattle.hid_layout.specs.Layout.{Contents}
use Rattle.hid_layout.specs.Controls.{is_input, is_input_report}
use Rattle.hid_layout.proofs.layout.Layout.is_input.Goals as goal

pub returns-in-Some : goal.returns-in-Some
returns-in-Some c =
    let same : c.deref.result.now ≡ c.args.self.now.reports = c.deref.ensures.value ∙ ap (λ (l : Contents). l.reports) c.self.view_is in
    let found = c.in-Some.ensures.lookup.3 in
    let there = slice_get_read c.deref.result.now _ c.args.item.now.report c.in-Some.report.now refl found.0 (found.1 c.in-Some.report.now) in
    c.is.ensures ∙ sym (ap is_input_report there) ∙ ap (λ reports. is_input reports c.args.item.now.report) same

pub returns-in-None : goal.returns-in-None
returns-in-None c =
    let same : c.deref.result.now ≡ c.args.self.now.reports = c.deref.ensures.value ∙ ap (λ (l : Contents). l.reports) c.self.view_is in
    sym (ap is_input_report (slice_get_past c.deref.result.now c.args.item.now.report c.in-None.ensures.lookup.3)) ∙ ap (λ reports. is_input reports c.args.item.now.report) same
