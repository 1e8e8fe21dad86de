use Rattle.std.proofs.Common.{◌≡◌, ◌++◌}
use Rattle.std.specs.Prelude.{slice_get}
use Rattle.hid_drawing.specs.Pieces.{concat_lists, id_pieces, item_pieces}
use Rattle.hid_drawing.proofs.pieces.pieces_of.Given as goal

-- the items so far
abbrev pub invariant-loop-i : goal.invariant-loop-i
invariant-loop-i l =
    l.pieces.items ≡ id_pieces l.layout
    ++ concat_lists l.i (λ i. item_pieces l.layout l.r i (slice_get l.layout.items i))
