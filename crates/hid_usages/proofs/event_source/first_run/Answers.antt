use Rattle.std.proofs.Common.{arith}
use Rattle.hid_usages.proofs.PassingLemmas.{holds_on}
use Rattle.hid_usages.proofs.SourceLemmas.{run_begun, run_next, run_is}
use Rattle.hid_usages.proofs.event_source.first_run.Goals as goal

pub loop-ranges-init : goal.loop-ranges-init
loop-ranges-init c = run_begun c.args.entries.now c.args.first _ (record { page = 0; id = 0 }, record { page = 0; id = 0 }) c.requires.some c.requires.first c.entry_count-count.ensures.value c.entry_count-count.ensures.within

pub loop-ranges-preserved : goal.loop-ranges-preserved
loop-ranges-preserved c =
    run_next c.args.entries.now c.args.first c.loop-ranges.ranges c.loop-ranges.count _ (record { page = 0; id = 0 }, record { page = 0; id = 0 }) c.loop-ranges.invariant c.loop-ranges-test.true c.entry_count-count-in-loop-ranges.ensures.value c.entry_count-count-in-loop-ranges.ensures.within
    (holds_on c.follows.result c.follows.ensures c.if-follows.true)

pub follows-requires : goal.follows-requires
follows-requires c = omega (arith, c.loop-ranges.invariant.fits)

pub returns-else-follows : goal.returns-else-follows
returns-else-follows c = run_is c.args.entries.now c.args.first c.loop-ranges.ranges c.loop-ranges.count c.loop-ranges.invariant

pub returns-after-loop-ranges : goal.returns-after-loop-ranges
returns-after-loop-ranges c = run_is c.args.entries.now c.args.first c.loop-ranges.ranges c.loop-ranges.count c.loop-ranges.invariant
