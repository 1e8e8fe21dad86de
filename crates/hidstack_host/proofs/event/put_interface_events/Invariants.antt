use Rattle.std.proofs.Common.{◌≡◌, map, take, drop, length}
use Rattle.hid_driver.specs.Pipe.{event_of}
use Rattle.hidstack_host.specs.Events.{host_event}
use Rattle.hidstack_host.proofs.event.put_interface_events.Given as goal

-- the places so far have their records, and the others are as they were
abbrev pub invariant-loop-i : goal.invariant-loop-i
invariant-loop-i l =
    record {
      done : take l.i l.out ≡ map host_event (map (event_of l.interface) (take l.i l.events));
      rest : drop l.i l.out ≡ drop l.i l.fn.out;
      size : length l.out ≡ length l.fn.out;
    }
