use Rattle.std.proofs.Common.{◌≡◌, length, Some}
use Rattle.hid_input.specs.Words.{both, run_bytes}
use Rattle.hid_input.proofs.words.add_run.Given as goal

-- the bytes so far, and those of the rest, are those of the run
abbrev pub invariant-loop-rest : goal.invariant-loop-rest
invariant-loop-rest l = both (Some l.bytes.items) (run_bytes l.is_joined l.rest) ≡ both (Some l.fn.bytes.items) (run_bytes l.is_joined l.run)

abbrev pub decreases-loop-rest : goal.decreases-loop-rest
decreases-loop-rest l = length l.rest
