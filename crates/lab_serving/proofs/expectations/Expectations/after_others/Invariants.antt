use Rattle.std.proofs.Common.{◌≡◌, ◌+◌, ◌-◌, length, drop}
use Rattle.lab_serving.specs.Advancing.{others}
use Rattle.lab_serving.proofs.expectations.Expectations.after_others.Given as goal

-- those that were passed over, with those that are to be, are all
abbrev pub invariant-loop-expecting : goal.invariant-loop-expecting
invariant-loop-expecting l =
    l.at + others l.place (drop l.at l.self.all.items) ≡ l.self.next + others l.place (drop l.self.next l.self.all.items)

abbrev pub decreases-loop-expecting : goal.decreases-loop-expecting
decreases-loop-expecting l = length l.self.all.items - l.at
