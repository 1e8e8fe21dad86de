use Rattle.std.proofs.Common.{arith}
use Rattle.hid_usages.proofs.planned_report.PlannedReport.changed.Goals as goal

pub returns-else-self : goal.returns-else-self
returns-else-self c = λ n low outside. absurd (c.every_bit.ensures n (omega (arith, low, c.requires.short)) outside)
