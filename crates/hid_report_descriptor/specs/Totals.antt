-- What the parser keeps of the reports and their IDs (HID 1.11, 5.6).
use Rattle.std.specs.Prelude.{◌≡◌, ℕ, ◌+◌, ◌≤◌, Bool, true, false, not, Option, Some, None, List, [], ◌∷◌, ◌++◌, ◌==◌, nat_lt, ◌&&◌, ◌||◌, if◌then◌else◌, length, slice_get}
use Rattle.std.specs.List.{list_any, list_all}
use Rattle.hid_report_descriptor.specs.declared.report.Report.{Report}
use Rattle.hid_report_descriptor.specs.declared.report.ReportKind.{ReportKind}
use Rattle.hid_report_descriptor.specs.Kinds.{same_kind, rank}

-- whether a report is that of a kind with an ID
abbrev pub is_report : ReportKind → ℕ → Report → Bool
is_report kind id r = same_kind r.kind kind && (r.id == id)

-- a report that may be there is that of a kind with an ID
abbrev pub has_report : ReportKind → ℕ → Option Report → Bool
has_report kind id None = false
has_report kind id (Some r) = is_report kind id r

-- a report stands before that of a kind with an ID, by kind and then by ID
abbrev pub comes_before : ReportKind → ℕ → Report → Bool
comes_before kind id r = nat_lt (rank r.kind) (rank kind) || (same_kind r.kind kind && nat_lt r.id id)

-- the bits of the report of a kind with an ID
abbrev pub bits_in_report : ReportKind → ℕ → List Report → ℕ
bits_in_report kind id [] = 0
bits_in_report kind id (r ∷ rs) = if is_report kind id r then r.bits else bits_in_report kind id rs

-- the reports, once that of a kind with an ID has n bits more
abbrev pub with_bits : ReportKind → ℕ → ℕ → List Report → List Report
with_bits kind id bits [] = record { kind = kind; id = id; bits = bits } ∷ []
with_bits kind id bits (r ∷ rs) =
    if comes_before kind id r then r ∷ with_bits kind id bits rs
    else (if is_report kind id r then record r { bits = r.bits + bits } ∷ rs
    else record { kind = kind; id = id; bits = bits } ∷ r ∷ rs)

-- the place of the first report that doesn't stand before that of a kind with an ID
abbrev pub place_for : ReportKind → ℕ → List Report → ℕ
place_for kind id [] = 0
place_for kind id (r ∷ rs) = if comes_before kind id r then place_for kind id rs + 1 else 0

-- the place of the report of a kind with an ID
abbrev pub report_place : ReportKind → ℕ → List Report → ℕ
report_place kind id [] = 0
report_place kind id (r ∷ rs) = if is_report kind id r then 0 else report_place kind id rs + 1

-- Reports by kind and then by ID, no two of them alike: each stands before all after it (5.6; the order is our choice).
abbrev pub are_in_order : List Report → Bool
are_in_order [] = true
are_in_order (r ∷ rs) = list_all (λ later. comes_before later.kind later.id r) rs && are_in_order rs

-- the report of a kind with an ID is at this place
pub record IsFound (kind : ReportKind) (id : ℕ) (reports : List Report) (i : ℕ) : Type 0 where
  pub its_place : i ≡ place_for kind id reports
  pub there : has_report kind id (slice_get reports i) ≡ true

-- No report of a kind with an ID is in the list, and its place would be this one. Example: of Input 1 and Input 3,
-- Input 2 would stand at place 1
pub record IsAbsent (kind : ReportKind) (id : ℕ) (reports : List Report) (i : ℕ) : Type 0 where
  pub its_place : i ≡ place_for kind id reports
  pub within : i ≤ length reports
  pub none : list_any (is_report kind id) reports ≡ false

-- the IDs, once one more is there
abbrev pub with_id : ℕ → List ℕ → List ℕ
with_id id ids = if not (id == 0) && not (list_any (λ other. other == id) ids) then ids ++ id ∷ [] else ids
