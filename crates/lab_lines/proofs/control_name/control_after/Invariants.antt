use Rattle.std.proofs.Common.{◌≡◌, drop}
use Rattle.std.specs.Prelude.{slice_get}
use Rattle.std.specs.List.{filter}
use Rattle.hid_layout.specs.Controls.{items_of}
use Rattle.lab_lines.specs.ControlNames.{sought_by, controls_of_items, controls_of_layout}
use Rattle.lab_lines.proofs.control_name.control_after.Given as goal

-- the control that is looked for is one of those of the items left
abbrev pub invariant-loop-item : goal.invariant-loop-item
invariant-loop-item l =
    slice_get (filter (λ c. sought_by l.sought c.1) (controls_of_layout l.layout)) l.before
    ≡ slice_get (filter (λ c. sought_by l.sought c.1) (controls_of_items l.item (drop l.item (items_of l.layout)))) l.left
