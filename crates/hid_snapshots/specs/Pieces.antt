-- The pieces in which a report goes: the packets of an interrupt endpoint have 64 bytes at most (USB 2.0, 5.7.3; the
-- size is our choice).
use Rattle.std.specs.Prelude.{ℕ, ◌+◌, ◌-◌, ◌*◌, ◌/◌, Bool, nat_le, if◌then◌else◌, List, [], ◌∷◌, take, drop}
use Rattle.hid_layout.specs.Controls.{Item}
use Rattle.hid_snapshots.specs.Parts.{is_of}

-- in how many pieces a report of this many bytes goes: each piece but the last is full, and there is one at least.
-- Example: one for 64 bytes, two for 65, four for 256
abbrev pub pieces_for : ℕ → ℕ
pieces_for bytes = (bytes - 1) / 64 + 1

-- the pieces of the Input report of this number, by the first item that is in it
abbrev pub pieces_of : List Item → ℕ → ℕ
pieces_of [] r = 1
pieces_of (item ∷ items) r = if is_of r item then pieces_for item.bytes else pieces_of items r

-- the piece at a place, from 0, of these bytes
abbrev pub piece_of : List ℕ → ℕ → List ℕ
piece_of bytes piece = take 64 (drop (64 * piece) bytes)

-- the piece at this place is the last one of the report
abbrev pub is_last_piece : List Item → ℕ → ℕ → Bool
is_last_piece items r piece = nat_le (pieces_of items r) (piece + 1)
