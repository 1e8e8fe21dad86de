-- The bytes of a report's part as a function, bit by bit: the only bytes that show it (HID 1.11, 5.6, 5.8 and 8).
use Rattle.std.specs.Prelude.{ℕ, zero, suc, ◌+◌, ◌-◌, ◌*◌, ◌/◌, ◌%◌, ◌^◌, Bool, ◌&&◌, nat_le, nat_lt, if◌then◌else◌, List, [], ◌∷◌, slice_get, Some, None, ℤ}
use Rattle.std.specs.Int.{bit_at}
use Rattle.hid_fields.specs.Field.{bit_of}
use Rattle.hid_fields.specs.Value.{pattern_for}
use Rattle.hid_layout.specs.declared.main_item.MainItem.{MainItem}
use Rattle.hid_layout.specs.Layout.{Contents}
use Rattle.hid_layout.specs.Reports.{report_bytes}
use Rattle.hid_snapshots.specs.declared.control_state.ControlState.{ControlState}
use Rattle.hid_snapshots.specs.Encoding.{field_place, is_data_in, bare_report, part_numbers}

-- the bit at a distance from the first, of numbers in fields of a width, one after the other
abbrev pub bit_among : List ℤ → ℕ → ℕ → ℕ
bit_among numbers width d =
    elim (slice_get numbers (d / width)) [ None ↦ 0 | Some v ↦ bit_at (pattern_for v width) (d % width) ]

-- the elements of an item cover a bit of the report
abbrev pub covers : Contents → ℕ → MainItem → ℕ → Bool
covers layout r item n =
    is_data_in r item
    && (nat_le (field_place layout item) n && nat_lt n (field_place layout item + item.size * item.count))

-- A bit of a report: of the numbers of the first item that covers it, of those from a place on, else of a report of
-- zeros after its ID.
abbrev pub bit_sent : Contents → ℕ → (ℕ → List ℤ) → ℕ → List MainItem → ℕ → ℕ
bit_sent layout r numbers i [] n = bit_of (bare_report layout r) n
bit_sent layout r numbers i (item ∷ items) n =
    if covers layout r item n then bit_among (numbers i) item.size (n - field_place layout item)
    else bit_sent layout r numbers (i + 1) items n

-- this many bits from one on, as a number, the lowest first
abbrev pub packed_number : (ℕ → ℕ) → ℕ → ℕ → ℕ
packed_number bits at zero = 0
packed_number bits at (suc k) = packed_number bits at k + bits (at + k) * 2 ^ k

-- this many bytes of bits from one on
abbrev pub packed_bytes : (ℕ → ℕ) → ℕ → ℕ → List ℕ
packed_bytes bits i zero = []
packed_bytes bits i (suc n) = packed_number bits (8 * i) 8 ∷ packed_bytes bits (i + 1) n

-- the bytes of a report whose elements have these numbers
abbrev pub bytes_sent : Contents → ℕ → (ℕ → List ℤ) → List ℕ
bytes_sent layout r numbers = packed_bytes (bit_sent layout r numbers 0 layout.items) 0 (report_bytes layout r)

-- The bytes that show the part of a report. Example: more keys than elements on the keyboard is 00 00 01 01 01 01 01 01
unfoldable pub part_bytes : Contents → ℕ → List ControlState → List ℕ
part_bytes layout r parts = bytes_sent layout r (part_numbers layout parts)
