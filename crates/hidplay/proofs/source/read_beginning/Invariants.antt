use Rattle.std.proofs.Common.{◌≡◌, ◌<◌, ◌++◌, List, ℕ, length, All}
use Rattle.std.specs.List.{flat_map}
use Rattle.std.specs.Io.KnownBytes.{Consumes}
use Rattle.hidplay.specs.Source.{IsSilent, with_end}
use Rattle.hidplay.proofs.source.read_beginning.Given as goal

-- what was passed is lines that say nothing
abbrev pub invariant-loop : goal.invariant-loop
invariant-loop g l =
    Consumes (g.R.Read.remaining l.fn.reader) (g.R.Read.remaining l.reader) l.bytes.items × (length l.bytes.items < 1056768)
    × ((passed : List (List ℕ)) × (rest : List ℕ) × All IsSilent passed × (l.bytes.items ≡ flat_map with_end passed ++ rest) × (length (flat_map with_end passed) ≡ l.passed))
