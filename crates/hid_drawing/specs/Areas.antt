-- The places of the parts of a picture, in its units (our choice: docs/PICTURES.md).
use Rattle.std.specs.Prelude.{ℕ, zero, suc, List, slice_get, unwrap_or, ◌+◌, ◌-◌, ◌*◌, ◌/◌, min, max}
use Rattle.hid_report_descriptor.specs.declared.limits.TheConstants.{MAX_OPEN_COLLECTIONS}
use Rattle.hid_drawing.specs.declared.areas.Area.{Area}
use Rattle.hid_drawing.specs.declared.areas.TheConstants.{BIT, GAP, CELL, LINE, TOP, LEFT, STEP}
use Rattle.hid_drawing.specs.declared.brackets.Bracket.{Bracket}
use Rattle.hid_drawing.specs.declared.pieces.ByteSlice.{ByteSlice}

-- what n brackets take at one side
abbrev pub inset : ℕ → ℕ
inset level = STEP * min level MAX_OPEN_COLLECTIONS

-- the gap between two bytes: room for the brackets that end above it and begin below
abbrev pub gap_of : ℕ → ℕ
gap_of depth = max GAP (inset depth)

-- where the bits begin, right of the brackets
unfoldable pub left_of : ℕ → ℕ
left_of depth = LEFT + inset depth

-- the height of the cells of a byte: two lines, and what each more takes
abbrev pub cell_height : List ℕ → ℕ → ℕ
cell_height rows byte = CELL + LINE * (unwrap_or (slice_get rows byte) 2 - 2)

-- the top of the cells of a byte: below those of all earlier bytes
abbrev pub row_top : ℕ → List ℕ → ℕ → ℕ
row_top depth rows zero = TOP + gap_of depth / 2
row_top depth rows (suc byte) = row_top depth rows byte + (cell_height rows byte + gap_of depth)

-- the area of a piece: bit 7 is the first from the left, and each byte has its row, as high as its cells and bracket
-- names need. Example: Button 1 of the mouse stands at 848, 34
unfoldable pub piece_area : ℕ → List ℕ → ByteSlice → Area
piece_area depth rows piece = record {
  x = left_of depth + (8 - piece.high) * BIT;
  y = row_top depth rows piece.byte;
  width = (piece.high - piece.low) * BIT;
  height = cell_height rows piece.byte;
}

-- what a bracket and those in it take at one side
abbrev pub bracket_room : ℕ → Bracket → ℕ
bracket_room depth bracket = inset (depth - (bracket.level - 1))

-- a bracket stands round the rows of its bytes, and round the brackets in it
unfoldable pub bracket_area : ℕ → List ℕ → Bracket → Area
bracket_area depth rows bracket = record {
  x = LEFT + inset (bracket.level - 1);
  y = row_top depth rows bracket.first - bracket_room depth bracket / 2;
  width = 8 * BIT + 2 * bracket_room depth bracket;
  height =
      ((row_top depth rows bracket.last + cell_height rows bracket.last) - row_top depth rows bracket.first)
      + bracket_room depth bracket;
}

-- the middle of a bit
unfoldable pub bit_middle : ℕ → ℕ → ℕ
bit_middle left k = left + (7 - k) * BIT + BIT / 2

-- where the names of the brackets begin, right of all brackets
unfoldable pub name_left : ℕ → ℕ
name_left depth = LEFT + 2 * inset depth + 8 * BIT + 8
