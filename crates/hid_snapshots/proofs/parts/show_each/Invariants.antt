use Rattle.std.proofs.Common.{◌≡◌, ◌++◌, take, drop}
use Rattle.hid_layout.specs.Controls.{items_of}
use Rattle.hid_snapshots.specs.Parts.{by_item, part_shown}
use Rattle.hid_snapshots.proofs.PlanLemmas.{IsAlong}
use Rattle.hid_snapshots.proofs.parts.show_each.Given as goal

abbrev pub invariant-loop-place : goal.invariant-loop-place
invariant-loop-place l = IsAlong l.layout l.report l.place-index (λ i. l.parts ≡ take i (by_item (part_shown l.still l.report) (items_of l.layout) l.states l.fn.parts) ++ drop i l.fn.parts)
