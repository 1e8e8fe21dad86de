use Rattle.std.proofs.Common.{◌≡◌, ◌++◌, [], ◌∷◌}
use Rattle.hid_drawing.specs.Pieces.{concat_lists, piece_of}
use Rattle.hid_drawing.proofs.pieces.push_pieces.Given as goal

-- the pieces so far
abbrev pub invariant-loop-k : goal.invariant-loop-k
invariant-loop-k l = l.pieces.items ≡ l.fn.pieces.items ++ concat_lists l.k (λ k. piece_of l.stretch k ∷ [])
