-- The places of a report's fields, byte by byte (HID 1.11, 5.8 and 8).
use Rattle.std.specs.Prelude.{ℕ, zero, suc, ◌+◌, ◌-◌, ◌*◌, ◌/◌, ◌%◌, ◌≤◌, min, ◌==◌, List, [], ◌∷◌, ◌++◌, length, slice_get, Option, None, Some, if◌then◌else◌}
use Rattle.hid_report_descriptor.specs.declared.limits.TheConstants.{MAX_REAL_REPORT_BYTES}
use Rattle.hid_report_descriptor.specs.declared.report.Report.{Report}
use Rattle.hid_report_descriptor.specs.declared.shape.Shape.{Shape}
use Rattle.hid_report_descriptor.specs.declared.shape.Shape.TheVariants.{Padding, Variable, Array}
use Rattle.hid_layout.specs.declared.main_item.Element.{Element}
use Rattle.hid_layout.specs.declared.main_item.MainItem.{MainItem}
use Rattle.hid_layout.specs.Layout.{Contents}
use Rattle.hid_layout.specs.Reports.{first_bit, element_of}
use Rattle.hid_drawing.specs.declared.pieces.BitSource.TheVariants.{ReportId, Field, FinalPadding}
use Rattle.hid_drawing.specs.declared.pieces.Segment.{Segment}
use Rattle.hid_drawing.specs.declared.pieces.ByteSlice.{ByteSlice}

-- the lists of 0, 1 and so on below n, joined
abbrev pub concat_lists : {A : Type 0} → ℕ → (ℕ → List A) → List A
concat_lists zero lists = []
concat_lists (suc n) lists = concat_lists n lists ++ lists n

-- an item ends within the longest report
abbrev pub SliceLiesIn : Contents → MainItem → Type 0
SliceLiesIn layout item = first_bit layout + (item.offset + item.size * item.count) ≤ 8 * MAX_REAL_REPORT_BYTES

-- what of a stretch lies in the k-th byte that it touches
abbrev pub piece_of : Segment → ℕ → ByteSlice
piece_of stretch k = record {
  part = stretch.part;
  byte = stretch.bit / 8 + k;
  low = if k == 0 then stretch.bit % 8 else 0;
  high = min ((stretch.bit + stretch.width) - 8 * (stretch.bit / 8 + k)) 8;
  front = (8 * (stretch.bit / 8 + k) + (if k == 0 then stretch.bit % 8 else 0)) - stretch.bit;
  width = stretch.width;
}

-- one piece for each byte that a stretch touches
abbrev pub segment_pieces : Segment → List ByteSlice
segment_pieces stretch =
    concat_lists ((stretch.bit % 8 + stretch.width + 7) / 8) (λ k. piece_of stretch k ∷ [])

-- the stretch of a field
abbrev pub field_segment : Contents → ℕ → ℕ → ℕ → ℕ → Segment
field_segment layout item j bit width =
    record { part = Field item j; bit = first_bit layout + bit; width = width }

-- the pieces of a data field, which stands where the layout says
abbrev pub element_pieces : Contents → ℕ → ℕ → Option Element → List ByteSlice
element_pieces layout item j None = []
element_pieces layout item j (Some element) =
    segment_pieces (field_segment layout item j element.bit element.width)

-- the pieces of an item: padding is one stretch, and each data field is one of its own
abbrev pub shape_pieces : Contents → ℕ → MainItem → Shape → List ByteSlice
shape_pieces layout i item Padding =
    segment_pieces (field_segment layout i 0 item.offset (item.size * item.count))
shape_pieces layout i item Variable =
    concat_lists item.count (λ j. element_pieces layout i j (element_of layout i j))
shape_pieces layout i item Array =
    concat_lists item.count (λ j. element_pieces layout i j (element_of layout i j))

-- the pieces of an item, where it stands in the report
abbrev pub item_pieces : Contents → ℕ → ℕ → Option MainItem → List ByteSlice
item_pieces layout r i None = []
item_pieces layout r i (Some item) = if item.report == r then shape_pieces layout i item item.shape else []

-- the byte of the Report ID
abbrev pub id_pieces : Contents → List ByteSlice
id_pieces layout =
    if layout.numbered
    then record { part = ReportId; byte = 0; low = 0; high = 8; front = 0; width = 8 } ∷ [] else []

-- the bits that fill up the last byte
abbrev pub padding_pieces : Contents → Option Report → List ByteSlice
padding_pieces layout None = []
padding_pieces layout (Some report) =
    if (report.bits % 8) == 0 then []
    else segment_pieces
    (record { part = FinalPadding; bit = first_bit layout + report.bits; width = 8 - report.bits % 8 })

-- The pieces of a report, from its first bit on: a piece is what of a field lies in one byte.
unfoldable pub pieces_of : Contents → ℕ → List ByteSlice
pieces_of layout r =
    (id_pieces layout
    ++ concat_lists (length layout.items) (λ i. item_pieces layout r i (slice_get layout.items i)))
    ++ padding_pieces layout (slice_get layout.reports r)
