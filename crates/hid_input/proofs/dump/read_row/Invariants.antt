use Rattle.std.proofs.Common.{◌≡◌, [], false, length}
use Rattle.hid_input.specs.Text.{without_space}
use Rattle.hid_input.specs.Dump.{row_bytes}
use Rattle.hid_input.proofs.dump.read_row.Given as goal

-- the bytes so far, and what the rest spells after them
abbrev pub invariant-loop-rest : goal.invariant-loop-rest
invariant-loop-rest l = record {
  all : row_bytes l.had_long l.bytes.items l.rest ≡ row_bytes false [] l.row;
  begins : without_space l.rest ≡ l.rest;
}

abbrev pub decreases-loop-rest : goal.decreases-loop-rest
decreases-loop-rest l = length l.rest
