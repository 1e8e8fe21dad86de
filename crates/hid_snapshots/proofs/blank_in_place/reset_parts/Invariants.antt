use Rattle.std.proofs.Common.{◌≡◌, ◌++◌, take, drop}
use Rattle.hid_layout.specs.Controls.{items_of}
use Rattle.hid_snapshots.specs.Parts.{blank_parts}
use Rattle.hid_snapshots.proofs.blank_in_place.reset_parts.Given as goal

abbrev pub invariant-loop-i : goal.invariant-loop-i
invariant-loop-i l = l.parts ≡ take l.i (blank_parts (items_of l.layout)) ++ drop l.i l.fn.parts
