use Rattle.std.proofs.Common.{◌≡◌, ◌≤◌, ◌<◌, ◌+◌, List, ℕ, [], ◌++◌, length}
use Rattle.std.specs.Io.KnownBytes.{Consumes}
use Rattle.hidplay.proofs.source.read_on.Given as goal

-- what was added so far: nothing where nothing is wanted, and less than a read too much
abbrev pub invariant-loop : goal.invariant-loop
invariant-loop g l =
    (added : List ℕ) × Consumes (g.R.Read.remaining l.fn.reader) (g.R.Read.remaining l.reader) added × (l.bytes.items ≡ l.fn.bytes.items ++ added)
    × (l.most ≤ length l.fn.bytes.items → added ≡ []) × (length l.fn.bytes.items < l.most → length l.bytes.items < l.most + 8192)
