use Rattle.std.proofs.Common.{◌≡◌, ℕ, ◌+◌, ◌*◌, ◌<◌, ◌≤◌, List, [], ◌∷◌, length, get_or, arith}
use Rattle.hid_items.specs.ItemEncoding.{data_of, unsigned_of}
use Rattle.hid_items.proofs.encoding.Item.unsigned.Goals as goal

-- the number of two bytes after the first one
of_two : (bytes : List ℕ) → 3 ≤ length bytes → length bytes < 4
    → get_or bytes 1 0 + 256 * get_or bytes 2 0 ≡ unsigned_of (data_of bytes)
of_two [] low high = absurd (omega arith)
of_two (first ∷ []) low high = absurd (omega arith)
of_two (first ∷ a ∷ []) low high = absurd (omega arith)
of_two (first ∷ a ∷ b ∷ []) low high = omega arith
of_two (first ∷ a ∷ b ∷ c ∷ rest) low high = absurd (omega arith)

-- the number of four bytes after the first one
of_four : (bytes : List ℕ) → 5 ≤ length bytes → length bytes < 6
    → get_or bytes 1 0 + 256 * (get_or bytes 2 0 + 256 * (get_or bytes 3 0 + 256 * get_or bytes 4 0)) ≡ unsigned_of (data_of bytes)
of_four [] low high = absurd (omega arith)
of_four (first ∷ []) low high = absurd (omega arith)
of_four (first ∷ a ∷ []) low high = absurd (omega arith)
of_four (first ∷ a ∷ b ∷ []) low high = absurd (omega arith)
of_four (first ∷ a ∷ b ∷ c ∷ []) low high = absurd (omega arith)
of_four (first ∷ a ∷ b ∷ c ∷ d ∷ []) low high = omega arith
of_four (first ∷ a ∷ b ∷ c ∷ d ∷ e ∷ rest) low high = absurd (omega arith)

-- how much stands after it
behind : (bytes : List ℕ) (n : ℕ) → n + 1 ≤ length bytes → length bytes < n + 2 → length (data_of bytes) ≡ n
behind [] n low high = absurd (omega arith)
behind (first ∷ rest) n low high = omega arith

pub returns-in-len3 : goal.returns-in-len3
returns-in-len3 c =
    let bytes = c.args.self.now.bytes.now in
    record {
      value = of_two bytes c.in-len3.len_at_least c.in-len3.len_below;
      fits = rw (behind bytes 2 c.in-len3.len_at_least c.in-len3.len_below) (omega arith);
      small = omega arith;
    }

pub returns-in-len5 : goal.returns-in-len5
returns-in-len5 c =
    let bytes = c.args.self.now.bytes.now in
    record {
      value = of_four bytes c.in-len5.len_at_least c.in-len5.len_below;
      fits = rw (behind bytes 4 c.in-len5.len_at_least c.in-len5.len_below) (omega arith);
      small = omega arith;
    }
