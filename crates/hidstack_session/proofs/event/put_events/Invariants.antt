use Rattle.std.proofs.Common.{◌≡◌, map, take, drop, length}
use Rattle.hidstack_session.specs.Events.{event_of}
use Rattle.hidstack_session.proofs.event.put_events.Given as goal

-- the places so far have their records, and the others are as they were
abbrev pub invariant-loop-i : goal.invariant-loop-i
invariant-loop-i l =
    record {
      done : take l.i l.out ≡ map event_of (take l.i l.events);
      rest : drop l.i l.out ≡ drop l.i l.fn.out;
      size : length l.out ≡ length l.fn.out;
    }
