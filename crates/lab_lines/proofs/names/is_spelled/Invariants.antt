use Rattle.std.proofs.Common.{◌≡◌, drop}
use Rattle.lab_lines.specs.Names.{spells}
use Rattle.lab_lines.proofs.names.is_spelled.Given as goal

-- what is left is spelled as all of it is
abbrev pub invariant-loop-at : goal.invariant-loop-at
invariant-loop-at l = spells (drop l.at l.name) (drop l.at l.word) ≡ spells l.name l.word
