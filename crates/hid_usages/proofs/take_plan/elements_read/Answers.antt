use Rattle.std.proofs.Common.{sym, subst}
use Rattle.hid_usages.specs.Ranges.{HoldsSpan}
use Rattle.hid_usages.proofs.RangeLemmas.{holds_all}
use Rattle.hid_usages.proofs.take_plan.elements_read.Goals as goal

pub returns-in-Relative : goal.returns-in-Relative
returns-in-Relative c = subst (HoldsSpan c.args.at c.args.size c.args.count c.args.span) (sym c.every_element.ensures) (holds_all c.args.at c.args.size c.args.count c.args.span)
