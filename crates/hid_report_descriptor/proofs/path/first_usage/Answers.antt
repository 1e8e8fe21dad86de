use Rattle.std.proofs.Common.{ap, ◌∙◌, Some}
use Rattle.hid_report_descriptor.proofs.Paths.{first_skipped, first_found}
use Rattle.hid_report_descriptor.proofs.path.first_usage.Goals as goal

pub loop-e-preserved : goal.loop-e-preserved
loop-e-preserved c = first_skipped _ _ _ _ c.loop-e-test.true c.if-e.false c.loop-e.invariant

pub returns-then-e : goal.returns-then-e
returns-then-e c = ap Some c.on_page.ensures ∙ first_found _ _ _ _ c.loop-e-test.true c.if-e.true c.loop-e.invariant
