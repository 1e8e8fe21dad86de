use Rattle.std.proofs.Common.{◌≡◌, drop}
use Rattle.lab_lines.specs.Keys.{key_under}
use Rattle.lab_lines.proofs.keys.key_under.Given as goal

-- what the rest of the table has is what the table has
abbrev pub invariant-loop-row : goal.invariant-loop-row
invariant-loop-row l = key_under (drop l.row-index l.rows) l.character ≡ key_under l.rows l.character
