use Rattle.std.proofs.Common.{◌≡◌, List, length, map}
use Rattle.hid_report_descriptor.specs.Faults.{numbers_from}
use Rattle.hid_layout.specs.declared.main_item.MainItem.{MainItem}
use Rattle.hid_layout.specs.Plans.{count_of, begin_of}
use Rattle.hid_layout.proofs.PlanLemmas.{begun}
use Rattle.hid_layout.proofs.plans.begin_places.Given as goal

-- it is known where the reports so far begin
abbrev pub invariant-loop-count : goal.invariant-loop-count
invariant-loop-count l =
    (items : List MainItem) → l.fn.counts ≡ map (count_of items) (numbers_from 0 (length l.fn.counts))
    → (l.start ≡ begin_of items l.count-index)
    × (l.counts ≡ map (begun items l.count-index) (numbers_from 0 (length l.fn.counts)))
