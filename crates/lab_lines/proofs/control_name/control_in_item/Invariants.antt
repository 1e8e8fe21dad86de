use Rattle.std.proofs.Common.{◌≡◌, ◌-◌}
use Rattle.hid_layout.specs.Controls.{items_of, form_at}
use Rattle.lab_lines.specs.ControlNames.{place_count}
use Rattle.lab_lines.proofs.ControlLemmas.{IsLeft, found_from}
use Rattle.lab_lines.proofs.control_name.control_in_item.Given as goal

-- the control that is looked for is one of those at the places left
abbrev pub invariant-loop-index : goal.invariant-loop-index
invariant-loop-index l =
    let form = form_at (items_of l.layout) l.item in
    (l.count ≡ place_count form) × IsLeft (found_from l.sought form l.item 0 (place_count form)) l.before (found_from l.sought form l.item l.index (place_count form - l.index)) l.left

abbrev pub decreases-loop-index : goal.decreases-loop-index
decreases-loop-index l = l.count - l.index
