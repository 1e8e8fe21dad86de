use Rattle.std.proofs.Common.{sym, arith}
use Rattle.hid_layout.proofs.EmptyCodeLemmas.{rolls_on, rolls_here, rolls_nowhere}
use Rattle.hid_layout.proofs.codes.rollover_place.Goals as goal

pub returns-then-is_some-clause-place : goal.returns-then-is_some-clause-place
returns-then-is_some-clause-place c =
    rolls_here c.args.item.now c.args.entries.now _ c.loop-entry.entry-index _ c.rollover_in-found.result c.loop-entry-test.true c.loop-entry.invariant.1 c.rollover_in-found.ensures.place (sym c.if-is_some.ensures)

pub loop-entry-preserved : goal.loop-entry-preserved
loop-entry-preserved c = (
  omega (arith, c.loop-entry.invariant.0, c.entry_count-start.ensures.few),
  rolls_on c.args.item.now c.args.entries.now _ c.loop-entry.entry-index _ _ c.rollover_in-found.result c.entry_count-start.ensures.value c.loop-entry-test.true c.loop-entry.invariant.1 c.rollover_in-found.ensures.place (sym c.if-is_some.ensures),
)

pub returns-clause-place : goal.returns-clause-place
returns-clause-place c = rolls_nowhere c.args.item.now c.args.entries.now _ c.loop-entry.entry-index c.loop-entry.invariant.1 c.loop-entry-test.false
