use Rattle.std.proofs.Common.{◌≡◌, ◌+◌, drop}
use Rattle.std.specs.Option.{option_map}
use Rattle.lab_lines.specs.Names.{place_of}
use Rattle.lab_lines.proofs.names.place_of.Given as goal

-- the text stands at none of the places before
abbrev pub invariant-loop-at : goal.invariant-loop-at
invariant-loop-at l = place_of l.text l.name ≡ option_map (λ k. l.at + k) (place_of l.text (drop l.at l.name))
