use Rattle.std.proofs.Common.{◌≡◌, length}
use Rattle.hid_input.specs.Text.{lines_of}
use Rattle.hid_input.specs.Named.{stand, stand_from}
use Rattle.hid_input.proofs.named.fault_beside.Given as goal

-- the lines that are left decide
abbrev pub invariant-loop-line : goal.invariant-loop-line
invariant-loop-line l = stand_from l.shape l.has_mark l.is_block (lines_of l.rest) ≡ stand l.shape l.text

abbrev pub decreases-loop-line : goal.decreases-loop-line
decreases-loop-line l = length l.rest
