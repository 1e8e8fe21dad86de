use Rattle.std.proofs.Common.{◌≡◌, ◌≢◌, ◌+◌, ◌≤◌, ◌++◌, ℕ, List, [], length, false, true}
use Rattle.lab_lines.specs.Bodies.{text_to_come}
use Rattle.lab_lines.proofs.body.Body.give_part.Given as goal

-- so much of the text was given, and the rest is still to come
abbrev pub invariant-loop-left : goal.invariant-loop-left
invariant-loop-left l =
    (l.left ≤ 4096)
    × ((given : List ℕ) × (text_to_come l.fn.self ≡ given ++ text_to_come l.self) × (l.room.items ≡ l.fn.room.items ++ given) × (length given + l.left ≤ 4096)
    × (l.some ≡ false → (given ≡ []) × (l.left ≡ 4096)) × (l.some ≡ true → given ≢ []))

abbrev pub decreases-loop-left : goal.decreases-loop-left
decreases-loop-left l = l.left
