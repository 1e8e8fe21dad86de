-- Reports by kind and then by ID, and the search among them.
use Rattle.std.proofs.Common.{◌≡◌, ℕ, zero, suc, ◌+◌, ◌-◌, ◌<◌, ◌≤◌, Bool, true, false, cond, ◌&&◌, ◌||◌, List, [], ◌∷◌, length, get_or, refl, sym, ap, ◌∙◌, arith, nat_eq, nat_lt}
use Rattle.std.specs.Prelude.{slice_get}
use Rattle.std.specs.List.{list_all, list_any}
use Rattle.std.proofs.lemmas.Grind.{common_steps}
use Rattle.std.proofs.lemmas.Bool.{and_parts, and_from, or_from}
use Rattle.std.proofs.lemmas.Bool.Decides.{nat_tests}
use Rattle.hid_report_descriptor.specs.declared.report.Report.{Report}
use Rattle.hid_report_descriptor.specs.declared.report.ReportKind.{ReportKind}
use Rattle.hid_report_descriptor.specs.declared.report.ReportKind.TheVariants.{Input, Output, Feature}
use Rattle.hid_report_descriptor.specs.Kinds.{same_kind, rank}
use Rattle.hid_report_descriptor.specs.Totals.{is_report, has_report, comes_before, bits_in_report, with_bits, place_for, report_place, are_in_order, IsFound}
use Rattle.hid_report_descriptor.proofs.TotalsLemmas.{before_is_other}

-- kinds are the same where their ranks are
same_rank : (a b : ReportKind) → same_kind a b ≡ nat_eq (rank a) (rank b)
same_rank Input Input = refl
same_rank Input Output = refl
same_rank Input Feature = refl
same_rank Output Input = refl
same_rank Output Output = refl
same_rank Output Feature = refl
same_rank Feature Input = refl
same_rank Feature Output = refl
same_rank Feature Feature = refl

-- of two pairs of numbers the first comes before, by its first number and then by its second
abbrev precedes : ℕ → ℕ → ℕ → ℕ → Bool
precedes r i s j = nat_lt r s || (nat_eq r s && nat_lt i j)

by_ranks : (kind : ReportKind) (id : ℕ) (r : Report) → comes_before kind id r ≡ precedes (rank r.kind) r.id (rank kind) id
by_ranks kind id r = ap (λ b. nat_lt (rank r.kind) (rank kind) || (b && nat_lt r.id id)) (same_rank r.kind kind)

is_by_ranks : (kind : ReportKind) (id : ℕ) (r : Report) → is_report kind id r ≡ (nat_eq (rank r.kind) (rank kind) && nat_eq r.id id)
is_by_ranks kind id r = ap (λ b. b && nat_eq r.id id) (same_rank r.kind kind)

through : (r i s j t k : ℕ) → precedes r i s j ≡ true → precedes s j t k ≡ true → precedes r i t k ≡ true
through r i s j t k h g = grind (arith, common_steps, nat_tests)

other_way : (r i s j : ℕ) → precedes r i s j ≡ false → (nat_eq r s && nat_eq i j) ≡ false → precedes s j r i ≡ true
other_way r i s j h g = grind (arith, common_steps, nat_tests)

-- what stands before a report that stands before another one stands before that
before_both : (kind : ReportKind) (id : ℕ) (a b : Report) → comes_before b.kind b.id a ≡ true → comes_before kind id b ≡ true → comes_before kind id a ≡ true
before_both kind id a b h g =
    by_ranks kind id a ∙ through (rank a.kind) a.id (rank b.kind) b.id (rank kind) id (sym (by_ranks b.kind b.id a) ∙ h) (sym (by_ranks kind id b) ∙ g)

-- what neither stands before a report nor is it stands after it
behind : (kind : ReportKind) (id bits : ℕ) (r : Report) → comes_before kind id r ≡ false → is_report kind id r ≡ false → comes_before r.kind r.id (record { kind = kind; id = id; bits = bits }) ≡ true
behind kind id bits r h g =
    by_ranks r.kind r.id (record { kind = kind; id = id; bits = bits }) ∙ other_way (rank r.kind) r.id (rank kind) id (sym (by_ranks kind id r) ∙ h) (sym (is_by_ranks kind id r) ∙ g)

-- a report that another one stands before
abbrev stands_before : Report → Report → Bool
stands_before r later = comes_before later.kind later.id r

all_from : (a b : Report) (rs : List Report) → stands_before a b ≡ true → list_all (stands_before b) rs ≡ true → list_all (stands_before a) rs ≡ true
all_from a b [] h g = refl
all_from a b (r ∷ rs) h g =
    let both = and_parts (stands_before b r) (list_all (stands_before b) rs) g in
    and_from (stands_before a r) (list_all (stands_before a) rs) (before_both r.kind r.id a b h both.0) (all_from a b rs h both.1)

all_with : (kind : ReportKind) (id bits : ℕ) (a : Report) (rs : List Report) → comes_before kind id a ≡ true → list_all (stands_before a) rs ≡ true → list_all (stands_before a) (with_bits kind id bits rs) ≡ true
all_with kind id bits a [] h g = and_from (comes_before kind id a) true h refl
all_with kind id bits a (r ∷ rs) h g =
    let both = and_parts (stands_before a r) (list_all (stands_before a) rs) g in
    by_case (comes_before kind id r) (is_report kind id r) (all_with kind id bits a rs h both.1)
  where
    by_case : (b c : Bool) → list_all (stands_before a) (with_bits kind id bits rs) ≡ true
        → list_all (stands_before a) (cond b (r ∷ with_bits kind id bits rs) (cond c (record r { bits = r.bits + bits } ∷ rs) (record { kind = kind; id = id; bits = bits } ∷ r ∷ rs))) ≡ true
    by_case true c more = and_from (stands_before a r) (list_all (stands_before a) (with_bits kind id bits rs)) (and_parts (stands_before a r) (list_all (stands_before a) rs) g).0 more
    by_case false true more = g
    by_case false false more = and_from (comes_before kind id a) (list_all (stands_before a) (r ∷ rs)) h g

-- reports stay in order when bits are added
pub order_kept : (kind : ReportKind) (id bits : ℕ) (rs : List Report) → are_in_order rs ≡ true → are_in_order (with_bits kind id bits rs) ≡ true
order_kept kind id bits [] h = refl
order_kept kind id bits (r ∷ rs) h = by_case (comes_before kind id r) (is_report kind id r) refl refl (order_kept kind id bits rs parts.1)
  where
    parts : (list_all (stands_before r) rs ≡ true) × (are_in_order rs ≡ true)
    parts = and_parts (list_all (stands_before r) rs) (are_in_order rs) h

    new : Report
    new = record { kind = kind; id = id; bits = bits }

    by_case : (b c : Bool) → comes_before kind id r ≡ b → is_report kind id r ≡ c → are_in_order (with_bits kind id bits rs) ≡ true
        → are_in_order (cond b (r ∷ with_bits kind id bits rs) (cond c (record r { bits = r.bits + bits } ∷ rs) (record { kind = kind; id = id; bits = bits } ∷ r ∷ rs))) ≡ true
    by_case true c e f more = and_from (list_all (stands_before r) (with_bits kind id bits rs)) (are_in_order (with_bits kind id bits rs)) (all_with kind id bits r rs e parts.0) more
    by_case false true e f more = h
    by_case false false e f more =
        let first : stands_before new r ≡ true = behind kind id bits r e f in
        and_from (list_all (stands_before new) (r ∷ rs)) (are_in_order (r ∷ rs)) (and_from (stands_before new r) (list_all (stands_before new) rs) first (all_from new r rs first parts.0)) h

all_at : (p : Report → Bool) (rs : List Report) (i : ℕ) (d : Report) → i < length rs → list_all p rs ≡ true → p (get_or rs i d) ≡ true
all_at p [] i d h g = absurd (omega (arith, h))
all_at p (r ∷ rs) zero d h g = (and_parts (p r) (list_all p rs) g).0
all_at p (r ∷ rs) (suc i) d h g = all_at p rs i d (omega (arith, h)) (and_parts (p r) (list_all p rs) g).1

-- the place with a report before it that stands before the one that is sought, and one at it that doesn't
pub searched : (kind : ReportKind) (id : ℕ) (rs : List Report) (n : ℕ) (d : Report) → are_in_order rs ≡ true → n ≤ length rs
    → (0 < n → comes_before kind id (get_or rs (n - 1) d) ≡ true) → (n < length rs → comes_before kind id (get_or rs n d) ≡ false) → n ≡ place_for kind id rs
searched kind id [] n d h w last next = omega (arith, w)
searched kind id (r ∷ rs) zero d h w last next = by_case (comes_before kind id r) (next (omega arith))
  where
    by_case : (b : Bool) → b ≡ false → 0 ≡ cond b (place_for kind id rs + 1) 0
    by_case true e = absurd (cc)
    by_case false e = refl
searched kind id (r ∷ rs) (suc m) d h w last next =
    let same : m ≡ suc m - 1 = omega arith in
    let here : comes_before kind id (get_or (r ∷ rs) m d) ≡ true = ap (λ n. comes_before kind id (get_or (r ∷ rs) n d)) same ∙ last (omega arith) in
    by_case (comes_before kind id r) (first m w here)
    (searched kind id rs m d parts.1 (omega (arith, w)) (λ some. before m some here) (λ lt. next (omega (arith, lt))))
  where
    parts : (list_all (stands_before r) rs ≡ true) × (are_in_order rs ≡ true)
    parts = and_parts (list_all (stands_before r) rs) (are_in_order rs) h

    first : (m : ℕ) → suc m ≤ length (r ∷ rs) → comes_before kind id (get_or (r ∷ rs) m d) ≡ true → comes_before kind id r ≡ true
    first zero w e = e
    first (suc k) w e = before_both kind id r (get_or rs k d) (all_at (stands_before r) rs k d (omega (arith, w)) parts.0) e

    before : (m : ℕ) → 0 < m → comes_before kind id (get_or (r ∷ rs) m d) ≡ true → comes_before kind id (get_or rs (m - 1) d) ≡ true
    before zero some e = absurd (omega (arith, some))
    before (suc k) some e = let same : suc k - 1 ≡ k = omega arith in ap (λ n. comes_before kind id (get_or rs n d)) same ∙ e

    by_case : (b : Bool) → b ≡ true → m ≡ place_for kind id rs → suc m ≡ cond b (place_for kind id rs + 1) 0
    by_case true e more = omega (arith, more)
    by_case false e more = absurd (cc)

-- a report that isn't at its place isn't there
pub none_found : (kind : ReportKind) (id : ℕ) (rs : List Report) → are_in_order rs ≡ true → has_report kind id (slice_get rs (place_for kind id rs)) ≡ false → list_any (is_report kind id) rs ≡ false
none_found kind id [] h t = refl
none_found kind id (r ∷ rs) h t = by_case (comes_before kind id r) refl t (λ u. none_found kind id rs parts.1 u)
  where
    parts : (list_all (stands_before r) rs ≡ true) × (are_in_order rs ≡ true)
    parts = and_parts (list_all (stands_before r) rs) (are_in_order rs) h

    other : (s : Report) → comes_before kind id r ≡ false → stands_before r s ≡ true → is_report kind id s ≡ false
    other s e g = is_by_ranks kind id s ∙ apart (rank r.kind) r.id (rank s.kind) s.id (rank kind) id (sym (by_ranks kind id r) ∙ e) (sym (by_ranks s.kind s.id r) ∙ g)
      where
        apart : (r i s j t k : ℕ) → precedes r i t k ≡ false → precedes r i s j ≡ true → (nat_eq s t && nat_eq j k) ≡ false
        apart r i s j t k e g = grind (arith, common_steps, nat_tests)

    none : (ss : List Report) → comes_before kind id r ≡ false → list_all (stands_before r) ss ≡ true → list_any (is_report kind id) ss ≡ false
    none [] e g = refl
    none (s ∷ ss) e g =
        let both = and_parts (stands_before r s) (list_all (stands_before r) ss) g in
        or_from (is_report kind id s) (list_any (is_report kind id) ss) (other s e both.0) (none ss e both.1)

    by_case : (b : Bool) → comes_before kind id r ≡ b → has_report kind id (slice_get (r ∷ rs) (cond b (place_for kind id rs + 1) 0)) ≡ false
        → (has_report kind id (slice_get rs (place_for kind id rs)) ≡ false → list_any (is_report kind id) rs ≡ false) → list_any (is_report kind id) (r ∷ rs) ≡ false
    by_case true e t more = or_from (is_report kind id r) (list_any (is_report kind id) rs) (before_is_other kind id r e) (more (later t))
      where
        later : has_report kind id (slice_get (r ∷ rs) (place_for kind id rs + 1)) ≡ false → has_report kind id (slice_get rs (place_for kind id rs)) ≡ false
        later t = let one : suc (place_for kind id rs) ≡ place_for kind id rs + 1 = omega arith in ap (λ n. has_report kind id (slice_get (r ∷ rs) n)) one ∙ t
    by_case false e t more = or_from (is_report kind id r) (list_any (is_report kind id) rs) t (none rs e parts.0)

-- a report that isn't there stands at no place
pub nowhere : (kind : ReportKind) (id : ℕ) (rs : List Report) (i : ℕ) → list_any (is_report kind id) rs ≡ false → has_report kind id (slice_get rs i) ≡ false
nowhere kind id [] i h = refl
nowhere kind id (r ∷ rs) i h = by_case (is_report kind id r) refl h i (nowhere kind id rs)
  where
    by_case : (b : Bool) → is_report kind id r ≡ b → (b || list_any (is_report kind id) rs) ≡ false → (i : ℕ) → ((i : ℕ) → list_any (is_report kind id) rs ≡ false → has_report kind id (slice_get rs i) ≡ false) → has_report kind id (slice_get (r ∷ rs) i) ≡ false
    by_case true e h i more = absurd (cc)
    by_case false e h zero more = e
    by_case false e h (suc i) more = more i h

-- a report that isn't there has no bits
pub bits_absent : (kind : ReportKind) (id : ℕ) (rs : List Report) → list_any (is_report kind id) rs ≡ false
    → bits_in_report kind id rs ≡ 0
bits_absent kind id [] h = refl
bits_absent kind id (r ∷ rs) h = by_case (is_report kind id r) h (bits_absent kind id rs)
  where
    by_case : (b : Bool) → (b || list_any (is_report kind id) rs) ≡ false
        → (list_any (is_report kind id) rs ≡ false → bits_in_report kind id rs ≡ 0)
        → cond b r.bits (bits_in_report kind id rs) ≡ 0
    by_case true h more = absurd (cc)
    by_case false h more = more h

-- the places of a report that is there, and of one that isn't
pub report_place-found : (kind : ReportKind) (id : ℕ) (rs : List Report) (i : ℕ) → IsFound kind id rs i
    → i ≡ report_place kind id rs
report_place-found kind id rs i f =
    f.its_place ∙ same rs (ap (λ n. has_report kind id (slice_get rs n)) (sym f.its_place) ∙ f.there)
  where
    same : (rs : List Report) → has_report kind id (slice_get rs (place_for kind id rs)) ≡ true
        → place_for kind id rs ≡ report_place kind id rs
    same [] t = refl
    same (r ∷ rs) t = by_case (comes_before kind id r) refl t (same rs)
      where
        by_case : (b : Bool) → comes_before kind id r ≡ b → has_report kind id (slice_get (r ∷ rs) (cond b (place_for kind id rs + 1) 0)) ≡ true
            → (has_report kind id (slice_get rs (place_for kind id rs)) ≡ true
            → place_for kind id rs ≡ report_place kind id rs)
            → cond b (place_for kind id rs + 1) 0 ≡ cond (is_report kind id r) 0 (report_place kind id rs + 1)
        by_case true e t more = rw (before_is_other kind id r e) (ap (λ n. n + 1) (more (later t)))
          where
            later : has_report kind id (slice_get (r ∷ rs) (place_for kind id rs + 1)) ≡ true → has_report kind id (slice_get rs (place_for kind id rs)) ≡ true
            later t = let one : suc (place_for kind id rs) ≡ place_for kind id rs + 1 = omega arith in ap (λ n. has_report kind id (slice_get (r ∷ rs) n)) one ∙ t
        by_case false e t more = rw t refl

pub report_place-absent : (kind : ReportKind) (id : ℕ) (rs : List Report) → list_any (is_report kind id) rs ≡ false
    → length rs ≡ report_place kind id rs
report_place-absent kind id [] h = refl
report_place-absent kind id (r ∷ rs) h = by_case (is_report kind id r) h (report_place-absent kind id rs)
  where
    by_case : (b : Bool) → (b || list_any (is_report kind id) rs) ≡ false
        → (list_any (is_report kind id) rs ≡ false → length rs ≡ report_place kind id rs)
        → length (r ∷ rs) ≡ cond b 0 (report_place kind id rs + 1)
    by_case true h more = absurd (cc)
    by_case false h more = omega (arith, more h)
