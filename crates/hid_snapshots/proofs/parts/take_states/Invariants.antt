use Rattle.std.proofs.Common.{◌≡◌, ◌++◌, take, drop}
use Rattle.hid_layout.specs.Controls.{items_of}
use Rattle.hid_snapshots.specs.Parts.{by_item, without_motion_of}
use Rattle.hid_snapshots.proofs.PlanLemmas.{IsAlong}
use Rattle.hid_snapshots.proofs.parts.take_states.Given as goal

abbrev pub invariant-loop-place : goal.invariant-loop-place
invariant-loop-place l =
    IsAlong l.layout l.report l.place-index
    (λ i. l.states
    ≡ take i (by_item (λ item part state. without_motion_of l.report item state part)
    (items_of l.layout) l.parts l.fn.states) ++ drop i l.fn.states)
