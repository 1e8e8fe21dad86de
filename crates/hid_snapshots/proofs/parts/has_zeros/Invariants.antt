use Rattle.std.proofs.Common.{◌≡◌, drop}
use Rattle.hid_layout.specs.Controls.{items_of}
use Rattle.hid_snapshots.specs.Parts.{has_zeros}
use Rattle.hid_snapshots.proofs.parts.has_zeros.Given as goal

abbrev pub invariant-loop-i : goal.invariant-loop-i
invariant-loop-i l = has_zeros (items_of l.layout) ≡ has_zeros (drop l.i (items_of l.layout))
