use Rattle.std.proofs.Common.{◌≡◌, ◌-◌, ◌<◌, ◌≤◌, length}
use Rattle.lab_lines.specs.Copies.{copies}
use Rattle.lab_lines.proofs.body.rounds_of.Given as goal

-- the text so often, so far
abbrev pub invariant-loop-count : goal.invariant-loop-count
invariant-loop-count l =
    (l.rounds.items ≡ copies l.count l.fn.text) × (0 < l.count) × (l.count ≤ l.fn.most) × (0 < length l.rounds.items) × (length l.rounds.items ≤ 4096)

abbrev pub decreases-loop-count : goal.decreases-loop-count
decreases-loop-count l = 4097 - length l.rounds.items
