-- The room that a caller has for the bytes of a transfer (our choice).
use Rattle.std.specs.Prelude.{ℕ, List, ◌++◌, length, drop}

-- a room with bytes at its front; the rest stays. Example: 01 02 in a room of four zeros is 01 02 00 00
abbrev pub with_front : List ℕ → List ℕ → List ℕ
with_front bytes room = bytes ++ drop (length bytes) room
