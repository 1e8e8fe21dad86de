-- Which global items are in force (HID 1.11, 6.2.2.7).
use Rattle.std.specs.Prelude.{ℕ, ◌+◌, ◌%◌, ◌^◌, List, [], ◌∷◌, ◌==◌, ◌&&◌, if◌then◌else◌, ℤ, pos, int_le, count_by, ◌≡◌, ◌++◌, true}
use Rattle.hid_items.specs.ItemEncoding.{data_of, unsigned_of, signed_of}
use Rattle.hid_report_descriptor.specs.Matching.{Placed, waiting_after, open_items}
use Rattle.hid_report_descriptor.specs.Items.{EncodedItem, is, PUSH, POP, USAGE_PAGE, LOGICAL_MINIMUM, LOGICAL_MAXIMUM, REPORT_SIZE, REPORT_ID, REPORT_COUNT}

-- The data of the item that sets this global: the nearest one with the prefix, where what stands between a
-- Pop and its matching Push doesn't count. No data, so 0, where there is none.
abbrev pub look_back : ℕ → ℕ → List EncodedItem → List ℕ
look_back prefix waiting [] = []
look_back prefix waiting (item ∷ before) =
    if waiting == 0 && is prefix item then data_of item
    else look_back prefix (waiting_after PUSH POP waiting item) before

-- the data of the item that sets this global, looking back from where no Pop waits
abbrev pub in_force : ℕ → List EncodedItem → List ℕ
in_force prefix before = look_back prefix 0 before

-- the Pushes that no Pop has matched
abbrev pub open_pushes : List EncodedItem → List Placed
open_pushes before = open_items PUSH POP 0 before

-- the Usage Page in force, of two bytes
abbrev pub usage_page : List EncodedItem → ℕ
usage_page before = unsigned_of (in_force USAGE_PAGE before) % 2 ^ 16

-- the Report Size in force, in bits
abbrev pub report_size : List EncodedItem → ℕ
report_size before = unsigned_of (in_force REPORT_SIZE before)

-- the Report Count in force
abbrev pub report_count : List EncodedItem → ℕ
report_count before = unsigned_of (in_force REPORT_COUNT before)

-- the Report ID in force, 0 where none is set
abbrev pub report_id_in_force : List EncodedItem → ℕ
report_id_in_force before = unsigned_of (in_force REPORT_ID before)

-- the Logical Minimum in force, in two's complement
abbrev pub logical_minimum : List EncodedItem → ℤ
logical_minimum before = signed_of (in_force LOGICAL_MINIMUM before)

-- the Logical Maximum in force, read without sign where the minimum isn't negative (our choice)
abbrev pub logical_maximum : List EncodedItem → ℤ
logical_maximum before =
    let maximum = in_force LOGICAL_MAXIMUM before in
    if int_le (pos 0) (logical_minimum before) then pos (unsigned_of maximum) else signed_of maximum

-- What stands between a Pop and its matching Push, the nearest first: as many Pushes as Pops, and no Push in
-- it has as many Pushes as Pops after it up to the Pop. `more` counts Pops that wait besides.
pub record IsBetween (more : ℕ) (between : List EncodedItem) : Type 0 where
  pub as_many : count_by (is PUSH) between ≡ more + count_by (is POP) between
  pub no_later : (near far : List EncodedItem) (push : EncodedItem) → between ≡ near ++ push ∷ far → is PUSH push ≡ true
      → count_by (is PUSH) near ≡ more + count_by (is POP) near → ⊥
