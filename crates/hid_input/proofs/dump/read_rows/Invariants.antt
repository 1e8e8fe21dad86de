use Rattle.std.proofs.Common.{◌≡◌, ◌+◌, ◌≤◌, [], length}
use Rattle.hid_input.specs.Text.{lines_of}
use Rattle.hid_input.specs.Dump.{rows_bytes}
use Rattle.hid_input.proofs.dump.read_rows.Given as goal

-- the bytes so far, and what the lines of the rest spell after them; each line has an end
abbrev pub invariant-loop-bytes : goal.invariant-loop-bytes
invariant-loop-bytes l = record {
  all : rows_bytes l.base l.size l.bytes.items (lines_of l.rest) ≡ rows_bytes l.base l.size [] (lines_of l.text);
  room : l.number + length l.rest ≤ length l.text + 1;
}

abbrev pub decreases-loop-bytes : goal.decreases-loop-bytes
decreases-loop-bytes l = length l.rest
