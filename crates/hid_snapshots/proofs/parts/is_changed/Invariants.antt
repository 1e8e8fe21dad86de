use Rattle.std.proofs.Common.{◌≡◌, drop}
use Rattle.std.specs.List.{list_any}
use Rattle.hid_layout.specs.Controls.{items_of}
use Rattle.hid_snapshots.specs.Parts.{by_item, calls_for, is_changed}
use Rattle.hid_snapshots.proofs.PlanLemmas.{IsAlong}
use Rattle.hid_snapshots.proofs.parts.is_changed.Given as goal

abbrev pub invariant-loop-place : goal.invariant-loop-place
invariant-loop-place l = IsAlong l.layout l.report l.place-index (λ i. is_changed (items_of l.layout) l.report l.states l.parts ≡ list_any (λ called. called) (drop i (by_item (calls_for l.report) (items_of l.layout) l.states l.parts)))
