use Rattle.std.proofs.Common.{◌≡◌, ◌++◌, take}
use Rattle.std.specs.Prelude.{string_bytes}
use Rattle.std.specs.List.{flat_map}
use Rattle.hid_drawing.specs.Svg.{cell_text}
use Rattle.hid_drawing.proofs.svg.print_cells.Given as goal

-- the cells so far
abbrev pub invariant-loop-piece : goal.invariant-loop-piece
invariant-loop-piece l =
    string_bytes l.text
    ≡ string_bytes l.fn.text
    ++ flat_map (λ piece. cell_text l.layout l.r l.depth l.rows piece) (take l.piece-index l.pieces)
