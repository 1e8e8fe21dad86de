-- The windows of a picture: its parts of n bytes, printed in its place, since a sheet of paper may be shorter
-- than a report (our choice: docs/PICTURES.md).
use Rattle.std.specs.Prelude.{ℕ, zero, suc, ◌+◌, ◌-◌, ◌*◌, ◌/◌, nat_lt, if◌then◌else◌, List, [], ◌∷◌, ◌++◌, codes}
use Rattle.std.specs.Fmt.{decimal}
use Rattle.hid_layout.specs.Layout.{Contents}
use Rattle.hid_layout.specs.Reports.{report_bytes}
use Rattle.hid_notation.specs.Text.{concat_below}
use Rattle.hid_page.specs.declared.windows.TheConstants.{WINDOW, WINDOW_HEAD}
use Rattle.hid_drawing.specs.Areas.{gap_of, row_top, name_left}
use Rattle.hid_drawing.specs.declared.areas.TheConstants.{RIGHT}
use Rattle.hid_drawing.specs.Lines.{rows_of}
use Rattle.hid_drawing.specs.Brackets.{bracket_depth}
use Rattle.hid_drawing.specs.declared.brackets.Bracket.{Bracket}
use Rattle.hid_drawing.specs.declared.pieces.ByteSlice.{ByteSlice}

-- how many windows a report of n bytes has: none where one would hold all of it
abbrev pub window_count : ℕ → ℕ
window_count bytes = if nat_lt WINDOW bytes then (bytes - 1) / WINDOW + 1 else 0

-- where a picture is cut above a byte: at its top above the first, at its end after the last, else between two rows
abbrev pub cut_above : ℕ → List ℕ → ℕ → ℕ → ℕ
cut_above depth rows bytes zero = 0
cut_above depth rows bytes (suc byte) =
    if nat_lt (suc byte) bytes then row_top depth rows (suc byte) - gap_of depth / 2 else row_top depth rows bytes

-- the numbers of a window: where it begins in the picture, its width and its height
unfoldable pub window_box : ℕ → ℕ → ℕ → List ℕ
window_box top width height = decimal top ++ 32 ∷ decimal width ++ 32 ∷ decimal height

-- what a window shows: the picture of the report r
unfoldable pub window_use : ℕ → List ℕ
window_use r = codes "'><use href='#g" ++ decimal r ++ codes "'/></svg>"

-- a window of a picture
unfoldable pub window : ℕ → ℕ → List ℕ → ℕ → ℕ → List ℕ
window r depth rows bytes k =
    WINDOW_HEAD.now
    ++ window_box (cut_above depth rows bytes (WINDOW * k)) (name_left depth + RIGHT)
    (cut_above depth rows bytes (WINDOW * (k + 1)) - cut_above depth rows bytes (WINDOW * k))
    ++ window_use r ++ 10 ∷ []

-- the windows of a picture, by the lines of its rows
unfoldable pub windows_by : ℕ → ℕ → List ℕ → ℕ → List ℕ
windows_by r depth rows bytes = concat_below (window_count bytes) (window r depth rows bytes)

-- the windows of a report's picture, by its brackets and its pieces
unfoldable pub windows : Contents → ℕ → List Bracket → List ByteSlice → List ℕ
windows layout r brackets pieces =
    windows_by r (bracket_depth brackets) (rows_of layout r (report_bytes layout r) brackets pieces)
    (report_bytes layout r)
