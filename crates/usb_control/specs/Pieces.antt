-- The pieces in which data go: endpoint 0 takes eight bytes a packet (USB 2.0, 5.5.3 and 8.5.3.2).
use Rattle.std.specs.Prelude.{ℕ, List, take, drop}

-- at most eight bytes, from that place on
abbrev pub piece_from : List ℕ → ℕ → List ℕ
piece_from bytes start = take 8 (drop start bytes)
