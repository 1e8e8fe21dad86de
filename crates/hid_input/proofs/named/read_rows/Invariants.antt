use Rattle.std.proofs.Common.{◌≡◌, [], false}
use Rattle.std.specs.Option.{option_copied}
use Rattle.hid_input.specs.Text.{is_newline, parts_below}
use Rattle.hid_input.proofs.SplitLemmas.{length_of}
use Rattle.hid_input.specs.Named.{rows_from}
use Rattle.hid_input.proofs.named.read_rows.Given as goal

-- the lines so far, and the rest
abbrev pub invariant-loop-below : goal.invariant-loop-below
invariant-loop-below l = rows_from l.shape l.was_short l.bytes.items l.number l.last (parts_below is_newline (option_copied l.below)) ≡ rows_from l.shape false [] l.first l.first (parts_below is_newline (option_copied l.text))

abbrev pub decreases-loop-below : goal.decreases-loop-below
decreases-loop-below l = length_of (option_copied l.below)
