use Rattle.std.proofs.Common.{◌≡◌, ◌++◌, ◌+◌, take, map, vec_len, vec_capacity}
use Rattle.hid_driver.specs.Pipe.{event_of}
use Rattle.hid_driver.proofs.pipe.deliver.Given as goal

abbrev pub invariant-loop-event : goal.invariant-loop-event
invariant-loop-event l = record {
  copied : l.out.items ≡ l.fn.out.items ++ map (event_of l.interface) (take l.event-index l.events);
  len : vec_len l.out ≡ vec_len l.fn.out + l.event-index;
  capacity : vec_capacity l.out ≡ vec_capacity l.fn.out;
}
