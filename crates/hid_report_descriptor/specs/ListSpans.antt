-- Lists that stand one after the other in one list (our choice).
use Rattle.std.specs.Prelude.{◌≡◌, ℕ, ◌≤◌, List, map, length, slice_get, slice_range, Some}
use Rattle.hid_report_descriptor.specs.declared.span.Span.{Span}

-- the lists that stand at these places
abbrev pub lists_at : {T : Type 0} → List T → List Span → List (List T)
lists_at values spans = map (λ span. slice_range values span.start span.end) spans

-- each place lies among the values
abbrev pub AreWithin : {T : Type 0} → List T → List Span → Type 0
AreWithin values spans = (i : ℕ) (span : Span) → slice_get spans i ≡ Some span
    → (span.start ≤ span.end) × (span.end ≤ length values)
