use Rattle.std.proofs.Common.{◌≡◌}
use Rattle.std.specs.Io.KnownBytes.{Keeps}
use Rattle.hidplay.proofs.source.read_piece.Given as goal

-- a read that was interrupted took nothing
abbrev pub invariant-loop : goal.invariant-loop
invariant-loop g l = (l.bytes ≡ l.fn.bytes) × Keeps (g.R.Read.remaining l.fn.reader) (g.R.Read.remaining l.reader)
