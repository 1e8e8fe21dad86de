use Rattle.std.proofs.Common.{◌≡◌, ◌≤◌, length, take}
use Rattle.hid_report_descriptor.specs.Usages.{usage_list}
use Rattle.lab_lines.specs.ControlNames.{ArePassed, sought_by}
use Rattle.lab_lines.proofs.ranges.next_place.Given as goal

-- the places of the ranges so far are passed
abbrev pub invariant-loop-i : goal.invariant-loop-i
invariant-loop-i l = record {
  end : l.i-end ≡ length l.entries;
  order : l.from ≤ l.next;
  begun : length (usage_list (take l.i l.entries)) ≤ l.next;
  passed : ArePassed (λ u. sought_by l.sought u) (usage_list l.entries) l.from l.next;
}
