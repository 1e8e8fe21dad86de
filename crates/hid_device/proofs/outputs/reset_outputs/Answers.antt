use Rattle.std.proofs.Common.{◌≡◌, ℕ, ◌-◌, ◌≤◌, List, length, ap, sym, ◌∙◌, arith}
use Rattle.std.specs.Prelude.{slice_set}
use Rattle.std.proofs.lemmas.List.{length-drop}
use Rattle.hid_snapshots.proofs.FillLemmas.{filled}
use Rattle.hid_report_descriptor.specs.declared.report.Report.{Report}
use Rattle.hid_device.specs.Inputs.{input_count}
use Rattle.hid_device.specs.Outputs.{bare_outputs}
use Rattle.hid_device.proofs.OutputLemmas.{bare_next, kept_count}
use Rattle.hid_device.proofs.outputs.reset_outputs.Goals as goal

pub loop-report-preserved : goal.loop-report-preserved
loop-report-preserved c =
    let from : input_count c.args.layout.now.reports ≤ c.loop-report.report = c.loop-report.invariant.from in
    let all : length c.reports-report-end.result.now ≡ length c.args.layout.now.reports = ap (λ (reports : List Report). length reports) c.reports-report-end.ensures in
    record {
      from = omega (arith, from);
      reset = ap (λ (n : ℕ). slice_set c.loop-report.outputs (c.loop-report.report - n) c.bare.result) c.input_count-first.ensures.count
          ∙ bare_next c.args.layout.now c.args.outputs.now c.loop-report.outputs c.loop-report.report c.bare.result c.requires.each from (omega (arith, all)) c.loop-report.invariant.reset c.bare.ensures;
    }

pub returns : goal.returns
returns c =
    let first : ℕ = input_count c.args.layout.now.reports in
    let count : length (bare_outputs c.args.layout.now) ≡ length c.args.layout.now.reports - first
    = kept_count c.args.layout.now ∙ length-drop first c.args.layout.now.reports in
    c.loop-report.invariant.reset
    ∙ filled (bare_outputs c.args.layout.now) c.args.outputs.now (c.loop-report.report - first) (grind (arith, count)) (c.requires.each ∙ sym (kept_count c.args.layout.now))
