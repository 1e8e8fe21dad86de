-- Laws of what is drawn (HID 1.11, 6.2.2.4 and 6.2.2.7).
use Rattle.std.specs.Prelude.{◌≡◌, ℕ, zero, suc, ◌+◌, ◌*◌, ◌/◌, ◌%◌, ◌<◌, ◌≤◌, Bool, ◌==◌, ◌&&◌, nat_le, nat_lt, List, [], ◌∷◌, length, map, count_by}
use Rattle.hid_report_descriptor.specs.declared.limits.Limits.{Limits}
use Rattle.hid_report_descriptor.specs.Faults.{Accepts}
use Rattle.hid_report_descriptor.specs.Fields.{Field, fields, field_of}
use Rattle.hid_report_descriptor.specs.Items.{EncodedItem}
use Rattle.hid_items.specs.declared.encoding.Item.{Item}
use Rattle.hid_layout.specs.Layout.{main_item, layout_of}
use Rattle.hid_layout.specs.Reports.{report_bytes}
use Rattle.hid_drawing.specs.Items.{AreItemsOf, item_encoding_at}
use Rattle.hid_drawing.specs.Origins.{listed_places}
use Rattle.hid_drawing.specs.Pieces.{pieces_of}
use Rattle.hid_drawing.specs.declared.pieces.ByteSlice.{ByteSlice}

-- the first items, this many, the last one first
abbrev pub encoded_before : List Item → ℕ → List EncodedItem
encoded_before items zero = []
encoded_before items (suc k) = item_encoding_at items k ∷ encoded_before items k

-- the field that the main item at a place describes
abbrev pub field_from : List Item → ℕ → Field
field_from items m =
    field_of (fields (encoded_before items m)) (encoded_before items m) (item_encoding_at items m)

-- the fields of a descriptor are those that the places with bits describe, in order
abbrev pub ListsAllFields : Type 0
ListsAllFields = (limits : Limits) (descriptor : List ℕ) (items : List Item) (before : List EncodedItem)
    → AreItemsOf descriptor items → Accepts limits descriptor before
    → fields before ≡ map (field_from items) (listed_places items (length items))

-- The listed items of a descriptor's layout are those of the places with bits, in order.
abbrev pub ListsAllItems : Type 0
ListsAllItems = (limits : Limits) (descriptor : List ℕ) (items : List Item) (before : List EncodedItem)
    → AreItemsOf descriptor items → Accepts limits descriptor before
    → (layout_of before).items
    ≡ map (λ m. main_item (layout_of before).reports (field_from items m))
    (listed_places items (length items))

-- pieces with bits lie one after the other, from one bit of a report to another one
abbrev pub LieFrom : ℕ → List ByteSlice → ℕ → Type 0
LieFrom from [] to = from ≡ to
LieFrom from (piece ∷ pieces) to =
    (8 * piece.byte + piece.low ≡ from) × (piece.low < piece.high) × (piece.high ≤ 8)
    × LieFrom (8 * piece.byte + piece.high) pieces to

-- the pieces of a report lie one after another, from its first bit to the last one of its last byte
abbrev pub FillReports : Type 0
FillReports = (limits : Limits) (descriptor : List ℕ) (before : List EncodedItem) (r : ℕ)
    → Accepts limits descriptor before → r < length (layout_of before).reports
    → LieFrom 0 (pieces_of (layout_of before) r) (8 * report_bytes (layout_of before) r)

-- a piece has a bit of its report
abbrev pub has_bit : ℕ → ByteSlice → Bool
has_bit bit piece = (piece.byte == bit / 8) && (nat_le piece.low (bit % 8) && nat_lt (bit % 8) piece.high)

-- each bit of a report is in one piece, and in one alone
abbrev pub HaveBitsOnce : Type 0
HaveBitsOnce = (limits : Limits) (descriptor : List ℕ) (before : List EncodedItem) (r bit : ℕ)
    → Accepts limits descriptor before → r < length (layout_of before).reports → bit < 8 * report_bytes (layout_of before) r
    → count_by (has_bit bit) (pieces_of (layout_of before) r) ≡ 1
