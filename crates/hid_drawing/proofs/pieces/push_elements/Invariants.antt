use Rattle.std.proofs.Common.{◌≡◌, ◌++◌}
use Rattle.hid_layout.specs.Reports.{element_of}
use Rattle.hid_drawing.specs.Pieces.{concat_lists, element_pieces}
use Rattle.hid_drawing.proofs.pieces.push_elements.Given as goal

-- the fields so far
abbrev pub invariant-loop-j : goal.invariant-loop-j
invariant-loop-j l =
    l.pieces.items ≡ l.fn.pieces.items
    ++ concat_lists l.j (λ j. element_pieces l.layout l.i j (element_of l.layout l.i j))
