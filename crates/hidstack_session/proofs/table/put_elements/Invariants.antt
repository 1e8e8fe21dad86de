use Rattle.std.proofs.Common.{◌≡◌, take, drop, length}
use Rattle.hidstack_session.proofs.table.put_elements.Given as goal

-- the places so far have their records, and the others are as they were
abbrev pub invariant-loop-i : goal.invariant-loop-i
invariant-loop-i l =
    record {
      done : take l.i l.out ≡ take l.i l.elements;
      rest : drop l.i l.out ≡ drop l.i l.fn.out;
      size : length l.out ≡ length l.fn.out;
    }
