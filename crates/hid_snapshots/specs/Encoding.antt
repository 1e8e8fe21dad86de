-- Reports as whole texts: which bytes show these numbers (HID 1.11, 5.6, 5.8 and 8).
use Rattle.std.specs.Prelude.{◌≡◌, ◌==◌, ◌&&◌, not, Bool, ℕ, ◌+◌, ◌-◌, ◌*◌, ◌<◌, ◌≤◌, false, if◌then◌else◌, List, [], ◌∷◌, length, replicate, slice_get, Some, None, ℤ, All}
use Rattle.hid_fields.specs.Field.{bit_of, IsOutside}
use Rattle.hid_fields.specs.Value.{is_negative, FitsField}
use Rattle.hid_snapshots.specs.declared.numbers.TheConstants.{MAX_NUMBERS}
use Rattle.hid_layout.specs.declared.main_item.MainItem.{MainItem}
use Rattle.hid_report_descriptor.specs.Fields.{is_padding}
use Rattle.hid_layout.specs.Layout.{Contents}
use Rattle.hid_layout.specs.Reports.{first_bit, report_bytes, report_id}
use Rattle.hid_report_descriptor.specs.declared.shape.Shape.{Shape}
use Rattle.hid_report_descriptor.specs.Usages.{Entry, usage_list}
use Rattle.hid_layout.specs.Controls.{form_of}
use Rattle.hid_snapshots.specs.declared.control_state.ControlState.{ControlState}
use Rattle.hid_snapshots.specs.declared.control_state.ControlState.TheVariants.{Absent, Switches, Values, Motions, RollOver}
use Rattle.hid_snapshots.specs.Sending.{element_numbers}
use Rattle.hid_snapshots.specs.Numbers.{numbers_in}

-- the first bit of an item's elements, in the whole report
abbrev pub field_place : Contents → MainItem → ℕ
field_place layout item = first_bit layout + item.offset

-- an item of the report that has data elements
pub record IsData (layout : Contents) (r i : ℕ) (item : MainItem) : Type 0 where
  pub listed : slice_get layout.items i ≡ Some item
  pub in_report : item.report ≡ r
  pub no_padding : is_padding item.shape ≡ false

-- an item has data elements in a report
abbrev pub is_data_in : ℕ → MainItem → Bool
is_data_in r m = (m.report == r) && not (is_padding m.shape)

-- the numbers of an item's elements in the bytes of its report
abbrev pub item_numbers : Contents → List ℕ → MainItem → List ℤ
item_numbers layout bytes item =
    numbers_in bytes (field_place layout item) item.size (is_negative item.min) item.count

-- In these bytes the elements of the report's first items have these numbers, and every other bit is as before.
pub record Shows (layout : Contents) (r : ℕ) (numbers : ℕ → List ℤ) (count : ℕ) (before bytes : List ℕ) : Type 0 where
  pub elements : (i : ℕ) (item : MainItem) → i < count → IsData layout r i item
      → numbers_in bytes (field_place layout item) item.size (is_negative item.min) item.count ≡ numbers i
  pub others : (n : ℕ) → ((i : ℕ) (item : MainItem) → i < count → IsData layout r i item
      → IsOutside (field_place layout item) (item.size * item.count) n)
      → bit_of bytes n ≡ bit_of before n

-- a report of zeros, after its ID where there are IDs
abbrev pub bare_report : Contents → ℕ → List ℕ
bare_report layout r =
    if layout.numbered then report_id layout r ∷ replicate (report_bytes layout r - 1) 0
    else replicate (report_bytes layout r) 0

-- the bytes of a report whose elements have these numbers: its ID first if there are IDs, and 0 in every bit that no
-- element covers. Example: Shift and a on the keyboard is 02 00 04 00 00 00 00 00
pub record IsEncoding (layout : Contents) (r : ℕ) (numbers : ℕ → List ℤ) (bytes : List ℕ) : Type 0 where
  pub whole : length bytes ≡ report_bytes layout r
  pub shows : Shows layout r numbers (length layout.items) (bare_report layout r) bytes

-- each of these numbers is a byte
abbrev pub AreBytes : List ℕ → Type 0
AreBytes bytes = All (λ b. b < 256) bytes

-- no other bytes are those of a report whose elements have these numbers
abbrev pub IsOnlyEncoding : Contents → ℕ → (ℕ → List ℤ) → List ℕ → Type 0
IsOnlyEncoding layout r numbers bytes =
    (other : List ℕ) → AreBytes other → IsEncoding layout r numbers other → other ≡ bytes

-- the numbers that a report shows of an item of this shape, by its ranges of usages, for what is kept of it
abbrev pub numbers_of_shape : MainItem → List Entry → Shape → ControlState → List ℤ
numbers_of_shape item entries shape state =
    element_numbers item (usage_list entries) (form_of item (usage_list entries) shape) state

-- the numbers that a report shows of an item for what is kept of it
abbrev pub numbers_at : Contents → ℕ → ControlState → List ℤ
numbers_at layout i state =
    elim (slice_get layout.items i) [
      | None ↦ []
      | Some item ↦ elim (slice_get layout.entries i) [
        | None ↦ []
        | Some es ↦
            element_numbers item (usage_list es) (form_of item (usage_list es) item.shape) state
      ]
    ]

-- the numbers that a report shows of the item at a place for these parts
abbrev pub part_numbers : Contents → List ControlState → ℕ → List ℤ
part_numbers layout parts i = elim (slice_get parts i) [ None ↦ [] | Some state ↦ numbers_at layout i state ]

-- what is kept of an item can be sent: one number for each element, which its field can carry
pub record CanSend (item : MainItem) (numbers : List ℤ) : Type 0 where
  pub one_each : length numbers ≡ item.count
  pub fit : All (λ v. FitsField v item.size (is_negative item.min)) numbers

-- what is pressed has no place beyond the numbers of an item
abbrev pub HasFewPlaces : ControlState → Type 0
HasFewPlaces (Switches ps) = length ps ≤ MAX_NUMBERS
HasFewPlaces Absent = Unit {0}
HasFewPlaces (Values vs) = Unit {0}
HasFewPlaces (Motions ms) = Unit {0}
HasFewPlaces (RollOver ps) = Unit {0}

-- the parts of a report can be sent
pub record CanSendAll (layout : Contents) (r : ℕ) (parts : List ControlState) : Type 0 where
  pub all_there : length parts ≡ length layout.items
  pub each_item : (i : ℕ) (item : MainItem) → IsData layout r i item → CanSend item (part_numbers layout parts i)
  pub few_places : (i : ℕ) (state : ControlState) → slice_get parts i ≡ Some state → HasFewPlaces state
