-- Worked values of where cells stand, of lines and of what is escaped, each by hand.
use Rattle.std.proofs.Common.{◌≡◌, ◌∷◌, [], ℕ, List, map, refl, ◌+◌, ◌/◌, ◌%◌}
use Rattle.std.specs.Prelude.{codes, slice_get, unwrap_or}
use Rattle.hid_notation.specs.Text.{concat_below}
use Rattle.std.specs.Fmt.{digits}
use Rattle.hid_drawing.specs.declared.pieces.BitSource.TheVariants.{Field}
use Rattle.hid_drawing.specs.Areas.{left_of, piece_area}
use Rattle.hid_drawing.specs.Escape.{escaped_words}
use Rattle.hid_drawing.specs.Lines.{line_at, line_count}
use Rattle.hid_drawing.specs.Terminal.{padded_words, bit_columns, bit_line, bit_ruler, row_number}
use Rattle.hid_drawing.specs.declared.glyphs.TheConstants as glyphs

-- the lowest bit of byte 1 stands at the right end of the second row, right of 52 and of one bracket
bit_0 : piece_area 1 (2 ∷ 2 ∷ []) (record { part = Field 0 0; byte = 1; low = 0; high = 1; front = 0; width = 1 })
    ≡ record { x = 842; y = 82; width = 112; height = 36 }
unfolding left_of piece_area
bit_0 = refl

-- a first row of three lines is 14 higher
below_three : piece_area 1 (3 ∷ 4 ∷ []) (record { part = Field 0 0; byte = 1; low = 0; high = 1; front = 0; width = 1 })
    ≡ record { x = 842; y = 96; width = 112; height = 64 }
unfolding left_of piece_area
below_three = refl

-- a word without room stands in the next line, and one that is too long is cut
words : line_at (codes "Keyboard LeftControl") 9 1 ≡ codes "LeftContr"
words = refl

count : line_count (codes "Keyboard LeftControl") 9 ≡ 3
count = refl

a_tag : escaped_words (codes "<b>") ≡ codes "&lt;b&gt;"
a_tag = refl

-- numbers of two digits have a space after them, and beside one of three digits all three columns
numbers : map (row_number 100) (0 ∷ 42 ∷ 99 ∷ []) ≡ codes " 0 " ∷ codes "42 " ∷ codes "99 " ∷ []
unfolding row_number digits
numbers = refl

long_numbers : map (row_number 101) (0 ∷ 42 ∷ 100 ∷ []) ≡ codes "  0" ∷ codes " 42" ∷ codes "100" ∷ []
unfolding row_number digits
long_numbers = refl

-- a character from U+0800 on in UTF-8 (RFC 3629, 3)
in_utf8 : ℕ → List ℕ
in_utf8 code = (0xE0 + code / 4096) ∷ (0x80 + (code / 64) % 64) ∷ (0x80 + code % 64) ∷ []

-- corners and lines, by their numbers in Unicode's chart of box drawings (U+2500 to U+257F): down and right, vertical and
-- right, up and right
left_ends : glyphs.LEFT_FIRST.now ∷ glyphs.LEFT_BOTH.now ∷ glyphs.LEFT_LAST.now ∷ []
    ≡ map in_utf8 (0x250C ∷ 0x251C ∷ 0x2514 ∷ [])
unfolding in_utf8
left_ends = refl

-- down and left, vertical and left, up and left
right_ends : glyphs.RIGHT_FIRST.now ∷ glyphs.RIGHT_BOTH.now ∷ glyphs.RIGHT_LAST.now ∷ []
    ≡ map in_utf8 (0x2510 ∷ 0x2524 ∷ 0x2518 ∷ [])
unfolding in_utf8
right_ends = refl

-- down and horizontal, up and horizontal, vertical and horizontal, horizontal
between_bits : glyphs.DOWNWARD.now ∷ glyphs.UPWARD.now ∷ glyphs.CROSS.now ∷ glyphs.FLAT.now ∷ []
    ≡ map in_utf8 (0x252C ∷ 0x2534 ∷ 0x253C ∷ 0x2500 ∷ [])
unfolding in_utf8
between_bits = refl

-- a bracket begins with an arc down and left, ends with one up and left, and goes on with a vertical line
brackets : glyphs.BRACKET_FIRST.now ∷ glyphs.BRACKET_LAST.now ∷ glyphs.SIDE.now ∷ [] ≡ map in_utf8 (0x256E ∷ 0x256F ∷ 0x2502 ∷ [])
unfolding in_utf8
brackets = refl

-- after its corner a bit of ten columns has nine of the horizontal ones
ten_columns : bit_line 10 ≡ concat_below 9 (λ k. glyphs.FLAT.now)
unfolding bit_line
ten_columns = refl

-- with ten columns a bit begins in the fourth, and its number stands there; that of bit 7 stands after a word
ruler : map (λ column. unwrap_or (slice_get (bit_ruler 10) column) 0)
    (8 ∷ 14 ∷ 24 ∷ 34 ∷ 44 ∷ 54 ∷ 64 ∷ 74 ∷ []) ≡ codes "76543210"
unfolding bit_ruler padded_words
ruler = refl

-- two brackets in 80 columns: 4 for the number and the last side, 2 for the brackets, and nine for each bit; in 100 ten
widths : bit_columns 80 2 ∷ bit_columns 100 2 ∷ bit_columns 84 0 ∷ bit_columns 40 1 ∷ [] ≡ 9 ∷ 10 ∷ 10 ∷ 6 ∷ []
widths = refl
