-- Which descriptors are refused, for which cause and at which place (HID 1.11, 5.6 and 6.2.2; the limits
-- and the order of causes are our choice).
use Rattle.std.specs.Prelude.{◌≡◌, ℕ, zero, suc, ◌+◌, ◌-◌, ◌*◌, ◌^◌, ◌<◌, ◌≤◌, Bool, true, false, not, List, [], ◌∷◌, ◌++◌, length, take, drop, reverse, filter, sum_by, Option, Some, None, Result, Ok, Err, ◌==◌, nat_le, nat_lt, ◌&&◌, ◌||◌, if◌then◌else◌, ℤ, pos, neg_ℤ, int_le, int_lt, ◌⊎◌}
use Rattle.std.specs.List.{list_any}
use Rattle.std.specs.Option.{option_map}
use Rattle.hid_items.specs.ItemEncoding.{data_of, unsigned_of, IsItemEncoding, AreItems, IsCut}
use Rattle.hid_report_descriptor.specs.declared.limits.TheConstants.{MAX_DESCRIPTOR, MAX_ITEMS, MAX_ENTRIES, MAX_OPEN_PUSHES, MAX_OPEN_COLLECTIONS, MAX_REPORT_IDS, MAX_WIDTH}
use Rattle.hid_report_descriptor.specs.declared.limits.Limits.{Limits}
use Rattle.hid_report_descriptor.specs.Limits.{longest_report, most_elements, widest_field}
use Rattle.hid_report_descriptor.specs.declared.fault.Cause.{Cause}
use Rattle.hid_report_descriptor.specs.declared.fault.Cause.TheVariants.{Truncated, TooLong, PopEmpty, PushDepth, CollectionDepth, EndWithout, Unclosed, BadReportId, MixedReportId, BadRange, BadSize, BadUsageRange, UnpairedUsage, Delimiter, ReportTooLong, TooMany, Memory}
use Rattle.hid_report_descriptor.specs.Items.{EncodedItem, is, is_field, PUSH, POP, REPORT_ID, DELIMITER, COLLECTION, END_COLLECTION}
use Rattle.hid_report_descriptor.specs.Globals.{open_pushes}
use Rattle.hid_report_descriptor.specs.Usages.{Entry, entries, are_paired, are_ranges}
use Rattle.hid_report_descriptor.specs.Path.{path}
use Rattle.hid_report_descriptor.specs.Fields.{Field, fields, list_field, field_of, report_bits, has_flag, CONSTANT, is_padding}

-- a step that is done has no fault, and one that is refused has its cause
abbrev pub IsCauseOf : Result Unit Cause → Option Cause → Type 0
IsCauseOf (Ok done) fault = fault ≡ None
IsCauseOf (Err cause) fault = fault ≡ Some cause

-- running out of memory is no fault of the descriptor
abbrev pub is_memory : Cause → Bool
is_memory Memory = true
is_memory _ = false

-- the first cause whose test is met
abbrev pub first_met : List (Bool × Cause) → Option Cause
first_met [] = None
first_met (t ∷ ts) = if t.0 then Some t.1 else first_met ts

-- the least value of a field of this width, in two's complement where the minimum is negative
abbrev pub least_value : ℤ → ℕ → ℤ
least_value min width = if int_lt min (pos 0) then neg_ℤ (pos (2 ^ (width - 1))) else pos 0

-- the greatest value of a field of this width, in two's complement where the minimum is negative
abbrev pub greatest_value : ℤ → ℕ → ℤ
greatest_value min width = if int_lt min (pos 0) then pos (2 ^ (width - 1) - 1) else pos (2 ^ width - 1)

-- some pattern of the width stands for a value from the minimum to the maximum
abbrev pub has_value : ℤ → ℤ → ℕ → Bool
has_value min max width =
    int_le min max && (int_le (least_value min width) max && int_le min (greatest_value min width))

-- the numbers from `from` on
unfoldable pub numbers_from : ℕ → ℕ → List ℕ
numbers_from from zero = []
numbers_from from (suc n) = from ∷ numbers_from (from + 1) n

-- the IDs but 0 that have a report
unfoldable pub report_ids : List Field → List ℕ
report_ids fs = filter (λ id. list_any (λ field. field.id == id) fs) (numbers_from 1 255)

-- the elements of the fields that aren't padding
abbrev pub element_count : List Field → ℕ
element_count fs = sum_by (λ field. if is_padding field.shape then 0 else field.count) fs

-- the fields are more than the limits allow
unfoldable pub are_too_many : Limits → List Field → Bool
are_too_many limits fs =
    nat_lt MAX_ITEMS (length fs)
    || (nat_lt (most_elements limits) (element_count fs) || nat_lt MAX_REPORT_IDS (length (report_ids fs)))

-- the most bits of a report after its ID, which takes a byte where it isn't 0
abbrev pub report_limit : Limits → ℕ → ℕ
report_limit limits id = if id == 0 then 8 * longest_report limits else 8 * (longest_report limits - 1)

-- what is wrong with the usages, the range and the size of an item that is neither Constant nor without elements
abbrev pub value_tests : Limits → Field → Bool → List Entry → List (Bool × Cause)
value_tests limits field paired es =
    let used = not (length es == 0) in
    (not paired, UnpairedUsage)
    ∷ (not (are_ranges es), BadUsageRange)
    ∷ (used && ((field.size == 0) || nat_lt (widest_field limits) field.size), BadSize)
    ∷ (used && (nat_le field.size MAX_WIDTH && not (has_value field.min field.max field.size)), BadRange)
    ∷ []

-- what is wrong with the values of an item, with no test if it is Constant or has no elements
abbrev pub checked_values : Limits → Field → Bool → List Entry → List (Bool × Cause)
checked_values limits field paired es =
    if has_flag CONSTANT field.flags || (field.count == 0) then [] else value_tests limits field paired es

-- what is wrong with an item whatever its values are, once the fields are these
abbrev pub limit_tests : Limits → List Field → Field → List (Bool × Cause)
limit_tests limits fs field =
    (nat_lt (report_limit limits field.id) (report_bits field.kind field.id fs), ReportTooLong)
    ∷ (are_too_many limits fs || nat_lt MAX_ENTRIES (length field.entries), TooMany)
    ∷ []

-- all tests of a field, in the order in which a cause is reported
abbrev pub field_tests : Limits → List Field → List EncodedItem → Field → List (Bool × Cause)
field_tests limits earlier before field =
    checked_values limits field (are_paired before) (entries before) ++ limit_tests limits (list_field earlier field) field

-- the cause for which an Input, Output or Feature item is refused after the items before it
unfoldable pub field_fault : Limits → List EncodedItem → EncodedItem → Option Cause
field_fault limits before item =
    first_met (field_tests limits (fields before) before (field_of (fields before) before item))

-- the cause for which another item is refused
abbrev pub other_fault : List EncodedItem → EncodedItem → Option Cause
other_fault before item = first_met (
    (is POP item && (length (open_pushes before) == 0), PopEmpty)
    ∷ (is PUSH item && nat_le MAX_OPEN_PUSHES (length (open_pushes before)), PushDepth)
    ∷ (is COLLECTION item && nat_le MAX_OPEN_COLLECTIONS (length (path before)), CollectionDepth)
    ∷ (is END_COLLECTION item && (length (path before) == 0), EndWithout)
    ∷ (is REPORT_ID item && ((unsigned_of (data_of item) == 0) || nat_lt 255 (unsigned_of (data_of item))), BadReportId)
    ∷ (is DELIMITER item, Delimiter)
    ∷ [])

-- the cause for which an item is refused
abbrev pub fault_of : Limits → List EncodedItem → EncodedItem → Option Cause
fault_of limits before item = if is_field item then field_fault limits before item else other_fault before item

-- no item of these (the last one first) is refused
abbrev pub AreAccepted : Limits → List EncodedItem → Type 0
AreAccepted limits [] = Unit {0}
AreAccepted limits (item ∷ before) = AreAccepted limits before × (fault_of limits before item ≡ None)

-- some field has no ID, though some item sets one
abbrev pub is_mixed : List EncodedItem → Bool
is_mixed before = list_any (is REPORT_ID) before && list_any (λ field. field.id == 0) (fields before)

-- a descriptor that isn't too long begins with these items (the last one first), which take `at` bytes and are accepted
pub record Reaches (limits : Limits) (bytes : List ℕ) (at : ℕ) (before : List EncodedItem) : Type 0 where
  pub short : length bytes ≤ MAX_DESCRIPTOR
  pub within : at ≤ length bytes
  pub items : AreItems (take at bytes) (reverse before)
  pub accepted : AreAccepted limits before

-- the item after these is refused for this cause, at this place of the descriptor
pub record IsRefused (limits : Limits) (bytes : List ℕ) (cause : Cause) (at : ℕ) (before : List EncodedItem) (item : EncodedItem) : Type 0 where
  pub reaches : Reaches limits bytes at before
  pub encoded : IsItemEncoding item
  pub next : (more : List ℕ) × (drop at bytes ≡ item ++ more)
  pub fault : fault_of limits before item ≡ Some cause

-- an item of the descriptor is refused for this cause at this place
abbrev pub IsRefusedAtItem : Limits → List ℕ → Cause → ℕ → Type 0
IsRefusedAtItem limits bytes cause at = (before : List EncodedItem) × (item : EncodedItem) × IsRefused limits bytes cause at before item

-- The descriptor is refused as a whole: it is too long, cut off after its items, or its items are accepted
-- and a collection is open at the end, or an item has no report ID though some item sets one.
abbrev pub IsRefusedAsWhole : Limits → List ℕ → Cause → ℕ → Type 0
IsRefusedAsWhole limits bytes TooLong at = (MAX_DESCRIPTOR < length bytes) × (at ≡ MAX_DESCRIPTOR)
IsRefusedAsWhole limits bytes Truncated at = (before : List EncodedItem) × Reaches limits bytes at before × IsCut (drop at bytes)
IsRefusedAsWhole limits bytes Unclosed at =
    (before : List EncodedItem) × Reaches limits bytes at before × (at ≡ length bytes) × (0 < length (path before))
IsRefusedAsWhole limits bytes MixedReportId at =
    (before : List EncodedItem) × Reaches limits bytes at before × (at ≡ length bytes)
    × (length (path before) ≡ 0) × (is_mixed before ≡ true)
IsRefusedAsWhole limits bytes cause at = ⊥

-- the descriptor is refused for this cause at this place, at an item or as a whole
abbrev pub Refuses : Limits → List ℕ → Cause → ℕ → Type 0
Refuses limits bytes cause at = IsRefusedAtItem limits bytes cause at ⊎ IsRefusedAsWhole limits bytes cause at

-- Why parse gave no layout: out of memory, which is reported at 0 and of no descriptor that is too long, or the one
-- refusal, the first cause in their order at the earliest item.
abbrev pub Explains : Limits → List ℕ → Cause → ℕ → Type 0
Explains limits bytes Memory at = (length bytes ≤ MAX_DESCRIPTOR) × (at ≡ 0)
Explains limits bytes cause at = Refuses limits bytes cause at

-- the descriptor is accepted, with these items (the last one first)
pub record Accepts (limits : Limits) (bytes : List ℕ) (before : List EncodedItem) : Type 0 where
  pub reaches : Reaches limits bytes (length bytes) before
  pub closed : length (path before) ≡ 0
  pub unmixed : is_mixed before ≡ false

-- the first of two places that there is
abbrev pub or_else : Option (Cause × ℕ) → Option (Cause × ℕ) → Option (Cause × ℕ)
or_else None other = other
or_else (Some x) other = Some x

-- the first refused item after the items before it, with its cause and its place
abbrev pub first_fault : Limits → List EncodedItem → ℕ → List EncodedItem → Option (Cause × ℕ)
first_fault limits before at [] = None
first_fault limits before at (item ∷ items) =
    or_else (option_map (λ cause. (cause, at)) (fault_of limits before item))
    (first_fault limits (item ∷ before) (at + length item) items)
