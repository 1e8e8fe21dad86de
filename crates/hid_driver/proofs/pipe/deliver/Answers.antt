use Rattle.std.proofs.Common.{◌∙◌, arith}
use Rattle.hid_driver.proofs.PipeLemmas.{handed_more}
use Rattle.hid_driver.proofs.pipe.deliver.Goals as goal

pub loop-event-preserved : goal.loop-event-preserved
loop-event-preserved c = record {
  copied = handed_more c.args.interface c.args.events.now c.loop-event.event-index _ c.args.out.now.items c.loop-event.out.items c.push_reserved.new.self.items c.loop-event-test.true c.loop-event.invariant.copied c.push_reserved.ensures.items;
  len = omega (arith, c.loop-event.invariant.len, c.push_reserved.ensures.len);
  capacity = c.push_reserved.ensures.capacity ∙ c.loop-event.invariant.capacity;
}
