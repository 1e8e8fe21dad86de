-- The totals that the parser keeps are those of the fields.
use Rattle.std.proofs.Common.{◌≡◌, ℕ, zero, suc, ◌+◌, Bool, true, false, cond, List, [], ◌∷◌, get_or, set, refl, ap, arith, nat_lt}
use Rattle.std.specs.Prelude.{insert, slice_get}
use Rattle.std.proofs.lemmas.Grind.{common_steps}
use Rattle.std.proofs.lemmas.Bool.Decides.{nat_tests}
use Rattle.hid_report_descriptor.specs.declared.report.Report.{Report}
use Rattle.hid_report_descriptor.specs.declared.report.ReportKind.{ReportKind}
use Rattle.hid_report_descriptor.specs.declared.report.ReportKind.TheVariants.{Input, Output, Feature}
use Rattle.hid_report_descriptor.specs.Kinds.{same_kind, rank}
use Rattle.hid_report_descriptor.specs.Totals.{is_report, has_report, comes_before, bits_in_report, with_bits, place_for}

-- kinds that come one before the other differ
ranked : (a b : ReportKind) → nat_lt (rank a) (rank b) ≡ true → same_kind a b ≡ false
ranked Input Input h = absurd (cc)
ranked Input Output h = refl
ranked Input Feature h = refl
ranked Output Input h = refl
ranked Output Output h = absurd (cc)
ranked Output Feature h = refl
ranked Feature Input h = refl
ranked Feature Output h = refl
ranked Feature Feature h = absurd (cc)

-- what stands before a report is another one
pub before_is_other : (kind : ReportKind) (id : ℕ) (r : Report) → comes_before kind id r ≡ true → is_report kind id r ≡ false
before_is_other kind id r h = by_case (nat_lt (rank r.kind) (rank kind)) refl
  where
    by_case : (b : Bool) → nat_lt (rank r.kind) (rank kind) ≡ b → is_report kind id r ≡ false
    by_case true e = rw (ranked r.kind kind e) refl
    by_case false e = grind (arith, common_steps, nat_tests)

-- the report at the place has the bits
pub bits_at_place : (kind : ReportKind) (id : ℕ) (rs : List Report) (i : ℕ) (d : Report) → i ≡ place_for kind id rs
    → has_report kind id (slice_get rs i) ≡ true → (get_or rs i d).bits ≡ bits_in_report kind id rs
bits_at_place kind id [] i d e t = absurd (cc)
bits_at_place kind id (r ∷ rs) i d e t = by_case (comes_before kind id r) refl i e t (λ i p u. bits_at_place kind id rs i d p u)
  where
    by_case : (b : Bool) → comes_before kind id r ≡ b → (i : ℕ) → i ≡ cond b (place_for kind id rs + 1) 0 → has_report kind id (slice_get (r ∷ rs) i) ≡ true
        → ((i : ℕ) → i ≡ place_for kind id rs → has_report kind id (slice_get rs i) ≡ true
        → (get_or rs i d).bits ≡ bits_in_report kind id rs)
        → (get_or (r ∷ rs) i d).bits ≡ cond (is_report kind id r) r.bits (bits_in_report kind id rs)
    by_case true c zero p t more = absurd (omega arith)
    by_case true c (suc i) p t more = rw (before_is_other kind id r c) (more i (omega arith) t)
    by_case false c zero p t more = rw t refl
    by_case false c (suc i) p t more = absurd (omega arith)

pub bits_set : (kind : ReportKind) (id bits : ℕ) (rs : List Report) (i : ℕ) (d : Report) → i ≡ place_for kind id rs → has_report kind id (slice_get rs i) ≡ true
    → set rs i (record (get_or rs i d) { bits = (get_or rs i d).bits + bits }) ≡ with_bits kind id bits rs
bits_set kind id bits [] i d e t = absurd (cc)
bits_set kind id bits (r ∷ rs) i d e t = by_case (comes_before kind id r) refl i e t (λ i p u. bits_set kind id bits rs i d p u)
  where
    by_case : (b : Bool) → comes_before kind id r ≡ b → (i : ℕ) → i ≡ cond b (place_for kind id rs + 1) 0 → has_report kind id (slice_get (r ∷ rs) i) ≡ true
        → ((i : ℕ) → i ≡ place_for kind id rs → has_report kind id (slice_get rs i) ≡ true → set rs i (record (get_or rs i d) { bits = (get_or rs i d).bits + bits }) ≡ with_bits kind id bits rs)
        → set (r ∷ rs) i (record (get_or (r ∷ rs) i d) { bits = (get_or (r ∷ rs) i d).bits + bits }) ≡ cond b (r ∷ with_bits kind id bits rs) (cond (is_report kind id r) (record r { bits = r.bits + bits } ∷ rs) (record { kind = kind; id = id; bits = bits } ∷ r ∷ rs))
    by_case true c zero p t more = absurd (omega arith)
    by_case true c (suc i) p t more = ap (λ l. r ∷ l) (more i (omega arith) t)
    by_case false c zero p t more = rw t refl
    by_case false c (suc i) p t more = absurd (omega arith)

pub bits_inserted : (kind : ReportKind) (id bits : ℕ) (rs : List Report) (i : ℕ) → i ≡ place_for kind id rs → has_report kind id (slice_get rs i) ≡ false
    → insert rs i (record { kind = kind; id = id; bits = bits }) ≡ with_bits kind id bits rs
bits_inserted kind id bits [] zero e t = refl
bits_inserted kind id bits [] (suc i) e t = absurd (omega arith)
bits_inserted kind id bits (r ∷ rs) i e t = by_case (comes_before kind id r) refl i e t (λ i p u. bits_inserted kind id bits rs i p u)
  where
    by_case : (b : Bool) → comes_before kind id r ≡ b → (i : ℕ) → i ≡ cond b (place_for kind id rs + 1) 0 → has_report kind id (slice_get (r ∷ rs) i) ≡ false
        → ((i : ℕ) → i ≡ place_for kind id rs → has_report kind id (slice_get rs i) ≡ false → insert rs i (record { kind = kind; id = id; bits = bits }) ≡ with_bits kind id bits rs)
        → insert (r ∷ rs) i (record { kind = kind; id = id; bits = bits }) ≡ cond b (r ∷ with_bits kind id bits rs) (cond (is_report kind id r) (record r { bits = r.bits + bits } ∷ rs) (record { kind = kind; id = id; bits = bits } ∷ r ∷ rs))
    by_case true c zero p t more = absurd (omega arith)
    by_case true c (suc i) p t more = ap (λ l. r ∷ l) (more i (omega arith) t)
    by_case false c zero p t more = rw t refl
    by_case false c (suc i) p t more = absurd (omega arith)
