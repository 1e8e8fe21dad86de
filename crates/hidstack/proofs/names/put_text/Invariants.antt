use Rattle.std.proofs.Common.{◌≡◌, take, drop, length}
use Rattle.hidstack.proofs.names.put_text.Given as goal

-- the bytes so far are the text's, and the others are as they were
abbrev pub invariant-loop-i : goal.invariant-loop-i
invariant-loop-i l =
    record {
      done : take l.i l.out ≡ take l.i l.text;
      rest : drop l.i l.out ≡ drop l.i l.fn.out;
      size : length l.out ≡ length l.fn.out;
    }
