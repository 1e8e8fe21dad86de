use Rattle.std.proofs.Common.{◌≡◌, drop}
use Rattle.hid_drawing.specs.Brackets.{deepest_from, bracket_depth}
use Rattle.hid_drawing.proofs.brackets.bracket_depth.Given as goal

-- what the rest of the brackets gives is what all give
abbrev pub invariant-loop-bracket : goal.invariant-loop-bracket
invariant-loop-bracket l = deepest_from l.level (drop l.bracket-index l.brackets) ≡ bracket_depth l.brackets
