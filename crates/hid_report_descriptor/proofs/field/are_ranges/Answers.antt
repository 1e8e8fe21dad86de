use Rattle.std.proofs.Common.{ap, sym, ◌∙◌}
use Rattle.hid_report_descriptor.specs.Usages.{is_range}
use Rattle.hid_report_descriptor.proofs.Paths.{range_passed, range_failed}
use Rattle.hid_report_descriptor.proofs.field.are_ranges.Goals as goal

pub loop-e-preserved : goal.loop-e-preserved
loop-e-preserved c = range_passed _ _ _ _ c.loop-e-test.true (ap is_range (sym c.entry_on_page.ensures) ∙ sym c.is_range.ensures ∙ c.if-not-is_range.false) c.loop-e.invariant

pub returns-then-not-is_range : goal.returns-then-not-is_range
returns-then-not-is_range c = range_failed _ _ _ _ c.loop-e-test.true (ap is_range (sym c.entry_on_page.ensures) ∙ sym c.is_range.ensures ∙ c.if-not-is_range.true) c.loop-e.invariant
