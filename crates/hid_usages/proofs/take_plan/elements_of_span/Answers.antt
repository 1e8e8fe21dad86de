use Rattle.std.proofs.Common.{sym, subst}
use Rattle.hid_usages.specs.Ranges.{HoldsSpan}
use Rattle.hid_usages.proofs.RangeLemmas.{holds_all}
use Rattle.hid_usages.proofs.take_plan.elements_of_span.Goals as goal

pub returns-then-count-le-FEW_ELEMENTS : goal.returns-then-count-le-FEW_ELEMENTS
returns-then-count-le-FEW_ELEMENTS c = subst (HoldsSpan c.args.at c.args.size c.args.count c.args.span) (sym c.every_element.ensures) (holds_all c.args.at c.args.size c.args.count c.args.span)
