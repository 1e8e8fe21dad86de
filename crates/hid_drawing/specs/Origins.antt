-- Which items made the fields of a main item: those that are in force at it (HID 1.11, 6.2.2.4 to 6.2.2.8). Items are
-- known by their places among the items.
use Rattle.std.specs.Prelude.{ℕ, zero, suc, ◌+◌, ◌/◌, ◌%◌, Bool, false, ◌==◌, ◌&&◌, ◌||◌, nat_lt, nat_le, List, [], ◌∷◌, ◌++◌, drop, Option, None, Some, if◌then◌else◌}
use Rattle.hid_items.specs.declared.encoding.Item.{Item}
use Rattle.hid_items.specs.ItemEncoding.{prefix_of}
use Rattle.hid_report_descriptor.specs.Items.{is, is_main, is_field, USAGE_PAGE, LOGICAL_MINIMUM, LOGICAL_MAXIMUM, REPORT_SIZE, REPORT_ID, REPORT_COUNT, PUSH, POP, COLLECTION, END_COLLECTION}
use Rattle.hid_report_descriptor.specs.Matching.{waiting_after}
use Rattle.hid_drawing.specs.Items.{item_encoding_at, is_positive}
use Rattle.hid_drawing.specs.declared.origins.InForce.{InForce}

-- the globals that fields are made of
abbrev pub is_global : ℕ → Bool
is_global prefix =
    prefix == USAGE_PAGE || (prefix == LOGICAL_MINIMUM || (prefix == LOGICAL_MAXIMUM
    || (prefix == REPORT_SIZE || (prefix == REPORT_ID || prefix == REPORT_COUNT))))

-- a local item: type 2
abbrev pub is_local : ℕ → Bool
is_local prefix = ((prefix / 4) % 4) == 2

-- The nearest item with a prefix among the first ones, looking back, where what stands between a Pop and its matching
-- Push doesn't count.
abbrev pub nearest_place : List Item → ℕ → ℕ → ℕ → Option ℕ
nearest_place items prefix waiting zero = None
nearest_place items prefix waiting (suc k) =
    if (waiting == 0) && is prefix (item_encoding_at items k) then Some k
    else nearest_place items prefix (waiting_after PUSH POP waiting (item_encoding_at items k)) k

-- the item that sets a global in force at a place
abbrev pub global_place : List Item → ℕ → ℕ → Option ℕ
global_place items m prefix = nearest_place items prefix 0 m

-- where the locals of a place begin, by how many items stand before: after the last main item in front of it
abbrev pub locals_start : List Item → ℕ → ℕ
locals_start items zero = 0
locals_start items (suc k) = if is_main (item_encoding_at items k) then suc k else locals_start items k

-- the place of the End Collection of a collection whose first item is at a place
abbrev pub closing_place : ℕ → ℕ → List Item → ℕ
closing_place waiting place [] = place
closing_place waiting place (item ∷ items) =
    if (waiting == 0) && is END_COLLECTION item.bytes.now then place
    else closing_place (waiting_after END_COLLECTION COLLECTION waiting item.bytes.now) (place + 1) items

-- whether a place lies in the collection that another one opens
abbrev pub lies_in : List Item → ℕ → ℕ → Bool
lies_in items c m =
    is COLLECTION (item_encoding_at items c)
    && (nat_lt c m && nat_lt m (closing_place 0 (c + 1) (drop (c + 1) items)))

-- whether an optional place is this one; false for none
abbrev pub is_at : Option ℕ → ℕ → Bool
is_at None k = false
is_at (Some found) k = found == k

-- what is in force at a place: the items that set the globals there, and where its locals begin
abbrev pub origins_in_force : List Item → ℕ → InForce
origins_in_force items m = record {
  page = global_place items m USAGE_PAGE;
  min = global_place items m LOGICAL_MINIMUM;
  max = global_place items m LOGICAL_MAXIMUM;
  size = global_place items m REPORT_SIZE;
  id = global_place items m REPORT_ID;
  count = global_place items m REPORT_COUNT;
  locals = locals_start items m;
}

-- The item k made fields of the main item m. Example: the buttons of the mouse are made by the items at 4, 8 and 10 to
-- 24
abbrev pub is_origin : List Item → ℕ → ℕ → Bool
is_origin items m k =
    let prefix = prefix_of (item_encoding_at items k) in
    (k == m) || ((is_global prefix && is_at (global_place items m prefix) k)
    || ((is_local prefix && (nat_le (locals_start items m) k && nat_lt k m)) || lies_in items k m))

-- some global is in force, and isn't 0
abbrev pub is_positive_at : List Item → Option ℕ → Bool
is_positive_at items None = false
is_positive_at items (Some k) = is_positive (item_encoding_at items k)

-- an Input, Output or Feature item with bits
abbrev pub is_listed : List Item → ℕ → Bool
is_listed items m =
    is_field (item_encoding_at items m) && (is_positive_at items (global_place items m REPORT_SIZE)
    && is_positive_at items (global_place items m REPORT_COUNT))

-- the places among the first ones of the items that have bits
abbrev pub listed_places : List Item → ℕ → List ℕ
listed_places items zero = []
listed_places items (suc m) = listed_places items m ++ (if is_listed items m then m ∷ [] else [])
