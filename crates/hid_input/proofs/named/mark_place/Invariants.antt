use Rattle.std.proofs.Common.{◌≡◌, ◌+◌, length}
use Rattle.hid_input.specs.Text.{lines_of}
use Rattle.hid_input.specs.Named.{mark_place}
use Rattle.hid_input.proofs.named.mark_place.Given as goal

-- no line so far names a descriptor
abbrev pub invariant-loop-line : goal.invariant-loop-line
invariant-loop-line l = record {
  place : mark_place l.at (lines_of l.rest) ≡ mark_place 0 (lines_of l.text);
  room : l.at + length l.rest ≡ length l.text;
}

abbrev pub decreases-loop-line : goal.decreases-loop-line
decreases-loop-line l = length l.rest
