-- The text that comes of the lines between `repeat N` and its `end` (our choice: docs/LAB.md).
use Rattle.std.specs.Prelude.{◌≡◌, ◌≢◌, ℕ, zero, suc, ◌-◌, ◌≤◌, Bool, true, false, List, [], ◌++◌, length, drop}
use Rattle.lab_lines.specs.declared.body.Body.{Body}
use Rattle.lab_lines.specs.Copies.{copies}

-- The text that is still to come of a body: what is left of a round, and the other rounds. At first these are N copies of its lines
abbrev pub text_to_come : Body → List ℕ
text_to_come body = drop body.at body.text.items ++ copies (body.left - 1) body.text.items

-- Text that was to come stands after what a room had; none came only where none was to come, and some where that is said.
abbrev pub Gives : List ℕ → List ℕ → List ℕ → List ℕ → Bool → Type 0
Gives before after old new some =
    (given : List ℕ) × (before ≡ given ++ after) × (new ≡ old ++ given) × (length given ≤ 4096)
    × (some ≡ false → (given ≡ []) × (before ≡ [])) × (some ≡ true → given ≢ [])
