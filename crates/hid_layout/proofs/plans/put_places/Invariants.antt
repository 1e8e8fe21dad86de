use Rattle.std.proofs.Common.{◌≡◌, length, map, take}
use Rattle.hid_report_descriptor.specs.Faults.{numbers_from}
use Rattle.hid_layout.specs.Plans.{end_of, ArePut}
use Rattle.hid_layout.proofs.plans.put_places.Given as goal

-- the items so far have their places
abbrev pub invariant-loop-i : goal.invariant-loop-i
invariant-loop-i l = record {
  ends : l.ends ≡ map (end_of l.items (take l.i l.items)) (numbers_from 0 (length l.fn.ends));
  places : ArePut (length l.fn.ends) l.items (take l.i l.items) l.places;
}
