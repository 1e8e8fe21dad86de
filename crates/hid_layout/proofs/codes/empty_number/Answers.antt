use Rattle.hid_report_descriptor.specs.Usages.{usage_list}
use Rattle.std.proofs.Common.{sym, arith}
use Rattle.std.proofs.lemmas.Int.{ints}
use Rattle.hid_layout.proofs.PatternLemmas.{least_to_zero, greatest_from_zero, least_below_zero, by_first, by_none, by_second}
use Rattle.hid_layout.proofs.codes.empty_number.Goals as goal

pub returns-then-is_some : goal.returns-then-is_some
returns-then-is_some c =
    by_first c.args.item.now (usage_list c.args.entries.now) c.from_zero.result.first c.from_zero.result.end c.least_nothing-found.result c.requires.elements.some_bits c.from_zero.ensures.first c.from_zero.ensures.end c.least_nothing-found.ensures.some (sym c.if-is_some.ensures)

pub returns-then-not-is_signed : goal.returns-then-not-is_signed
returns-then-not-is_signed c =
    by_none c.args.item.now (usage_list c.args.entries.now) c.from_zero.result.first c.from_zero.result.end c.least_nothing-found.result c.from_zero.ensures.first c.from_zero.ensures.end c.least_nothing-found.ensures.none (sym c.if-is_some.ensures) (sym c.if-not-is_signed.ensures)

pub returns : goal.returns
returns c =
    by_second c.args.item.now (usage_list c.args.entries.now) c.from_zero.result.first c.from_zero.result.end c.below_zero.result.first c.below_zero.result.end c.least_nothing-found.result c.least_nothing.result c.requires.elements.some_bits c.from_zero.ensures.first c.from_zero.ensures.end c.below_zero.ensures.first c.below_zero.ensures.end
    c.least_nothing-found.ensures.none (sym c.if-is_some.ensures) (sym c.if-not-is_signed.ensures) c.least_nothing.ensures.some c.least_nothing.ensures.none

pub least_nothing-found-requires-clause-low : goal.least_nothing-found-requires-clause-low
least_nothing-found-requires-clause-low c = rw c.from_zero.ensures.first (least_to_zero c.args.item.now.min c.args.item.now.size)

pub least_nothing-found-requires-clause-some : goal.least_nothing-found-requires-clause-some
least_nothing-found-requires-clause-some c = omega (arith, ints, c.from_zero.ensures.first, c.from_zero.ensures.end, greatest_from_zero c.args.item.now.min c.args.item.now.size)

pub least_nothing-requires-clause-high : goal.least_nothing-requires-clause-high
least_nothing-requires-clause-high c = omega (arith, ints, c.below_zero.ensures.end, greatest_from_zero c.args.item.now.min c.args.item.now.size)

pub least_nothing-requires-clause-some : goal.least_nothing-requires-clause-some
least_nothing-requires-clause-some c = omega (arith, ints, c.below_zero.ensures.first, c.below_zero.ensures.end, least_below_zero c.args.item.now.min c.args.item.now.size (sym c.if-not-is_signed.ensures))
