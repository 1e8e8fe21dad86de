use Rattle.std.proofs.Common.{◌≡◌, ◌+◌, ◌≤◌, length}
use Rattle.hid_input.specs.Recorded.{pairs_before}
use Rattle.hid_input.specs.Text.{without_space}
use Rattle.hid_input.proofs.recorded.pairs_before.Given as goal

-- the pairs so far, and those of the rest, are those of the text; each has two bytes
abbrev pub invariant-loop-rest : goal.invariant-loop-rest
invariant-loop-rest l = record {
  all : l.count + pairs_before l.rest ≡ pairs_before l.text;
  room : l.count + length l.rest ≤ length l.text;
  begins : without_space l.rest ≡ l.rest;
}

abbrev pub decreases-loop-rest : goal.decreases-loop-rest
decreases-loop-rest l = length l.rest
