use Rattle.std.proofs.Common.{◌≡◌, ◌+◌, ◌<◌, suc, length, arith, ap}
use Rattle.hid_layout.specs.Plans.{begin_of}
use Rattle.hid_layout.proofs.PlanLemmas.{begun_none, begun_at, begun_more, begun_all, begin_within}
use Rattle.hid_layout.proofs.plans.begin_places.Goals as goal

pub loop-count-init : goal.loop-count-init
loop-count-init c items e = (omega arith, begun_none items (length c.args.counts.now) c.args.counts.now e)

pub overflow_add-end : goal.overflow_add-end
overflow_add-end c =
    let items = c.requires.0 in
    let n = length c.args.counts.now in
    let i = c.loop-count.count-index in
    let now = c.loop-count.invariant items c.requires.2 in
    let h : i < n = omega (arith, c.loop-count-test.true) in
    record { fits = omega (arith, c.requires.1, now.0, begun_at items n i 0 c.loop-count.counts now.1 h, begin_within items (suc i)) }

pub loop-count-preserved : goal.loop-count-preserved
loop-count-preserved c items e =
    let n = length c.args.counts.now in
    let i = c.loop-count.count-index in
    let now = c.loop-count.invariant items e in
    let h : i < n = omega (arith, c.loop-count-test.true) in
    let next : suc i ≡ i + 1 = omega arith in (
      omega (arith, now.0, begun_at items n i 0 c.loop-count.counts now.1 h, ap (begin_of items) next),
      begun_more items n i c.loop-count.counts c.loop-count.start now.1 now.0,
    )

pub returns : goal.returns
returns c items e = begun_all items (length c.args.counts.now) c.loop-count.count-index c.loop-count.counts (c.loop-count.invariant items e).1 (omega (arith, c.loop-count-test.false))
