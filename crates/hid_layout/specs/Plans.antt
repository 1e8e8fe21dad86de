-- The places of the items of each report, kept in one list (our choice): where the places of each report begin, where
-- those of the last one end, and then the places, one report after the other.
use Rattle.std.specs.Prelude.{◌≡◌, ℕ, zero, suc, ◌+◌, ◌<◌, ◌≤◌, ◌==◌, if◌then◌else◌, List, [], ◌∷◌, map, length, drop, get_or, slice_get, slice_range, Some}
use Rattle.hid_layout.specs.declared.main_item.MainItem.{MainItem}
use Rattle.hid_report_descriptor.specs.Faults.{numbers_from}
use Rattle.hid_layout.specs.ArrayCodes.{places_from}

-- each item is one of n reports
abbrev pub AreIn : ℕ → List MainItem → Type 0
AreIn reports items = (i : ℕ) (item : MainItem) → slice_get items i ≡ Some item → item.report < reports

-- how many items a report has
abbrev pub count_of : List MainItem → ℕ → ℕ
count_of [] r = 0
count_of (item ∷ items) r = (if item.report == r then 1 else 0) + count_of items r

-- the index at which the places of a report begin: after those of the earlier reports
abbrev pub begin_of : List MainItem → ℕ → ℕ
begin_of items zero = 0
begin_of items (suc r) = begin_of items r + count_of items r

-- the index at which the places of a report end, once the first items have theirs
abbrev pub end_of : List MainItem → List MainItem → ℕ → ℕ
end_of items first r = begin_of items r + count_of first r

-- the first items have their places: those of each report, from where they begin
pub record ArePut (reports : ℕ) (items first : List MainItem) (places : List ℕ) : Type 0 where
  pub room : length places ≡ length items
  pub put : (r : ℕ) → r < reports
      → slice_range places (begin_of items r) (end_of items first r) ≡ places_from 0 r first

-- the places of each report
abbrev pub plans_in : ℕ → List ℕ → List (List ℕ)
plans_in reports kept =
    map (λ r. slice_range (drop (reports + 1) kept) (get_or kept r 0) (get_or kept (r + 1) 0))
    (numbers_from 0 reports)

-- the bounds are there, and the places of each report
pub record ArePlans (reports : ℕ) (kept : List ℕ) : Type 0 where
  pub bounds_there : reports < length kept
  pub ordered : (r : ℕ) → r < reports → get_or kept r 0 ≤ get_or kept (r + 1) 0
  pub within : (r : ℕ) → r < reports → reports + 1 + get_or kept (r + 1) 0 ≤ length kept
