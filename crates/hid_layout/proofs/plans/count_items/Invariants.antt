use Rattle.std.proofs.Common.{◌≡◌, length, map, take}
use Rattle.hid_report_descriptor.specs.Faults.{numbers_from}
use Rattle.hid_layout.specs.Plans.{count_of}
use Rattle.hid_layout.proofs.plans.count_items.Given as goal

-- the items so far are counted
abbrev pub invariant-loop-item : goal.invariant-loop-item
invariant-loop-item l = l.counts ≡ map (count_of (take l.item-index l.items)) (numbers_from 0 (length l.fn.counts))
