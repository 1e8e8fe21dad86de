-- The reports that the parser keeps, each with its bits so far, are the reports of the fields.
use Rattle.std.proofs.Common.{◌≡◌, ◌≢◌, ℕ, zero, suc, ◌+◌, ◌<◌, ◌≤◌, Bool, true, false, cond, not, ◌&&◌, ◌||◌, List, [], ◌∷◌, ◌++◌, append_assoc, append-nil, filter, refl, subst, sym, ap, ◌∙◌, arith, nat_eq, nat_lt}
use Rattle.std.specs.Prelude.{sum_by}
use Rattle.std.proofs.lemmas.List.Sums.{sum_by-append}
use Rattle.std.proofs.lemmas.List.Elements.{filter-append}
use Rattle.std.specs.List.{flat_map, list_all}
use Rattle.std.proofs.lemmas.Grind.{common_steps}
use Rattle.std.proofs.lemmas.Bool.Decides.{nat_tests}
use Rattle.hid_report_descriptor.specs.declared.report.Report.{Report}
use Rattle.hid_report_descriptor.specs.declared.report.ReportKind.{ReportKind}
use Rattle.hid_report_descriptor.specs.declared.report.ReportKind.TheVariants.{Input, Output, Feature}
use Rattle.hid_report_descriptor.specs.Kinds.{same_kind, rank}
use Rattle.hid_report_descriptor.specs.Fields.{Field, bits_of, report_bits}
use Rattle.hid_report_descriptor.specs.Faults.{numbers_from}
use Rattle.hid_report_descriptor.specs.Reporting.{report_if_any, reports_of_kind, reports_of}
use Rattle.hid_report_descriptor.specs.Totals.{is_report, comes_before, bits_in_report, with_bits}

abbrev pub kind_reports : List Field → ReportKind → ℕ → ℕ → List Report
kind_reports fs kind from n = flat_map (report_if_any fs kind) (numbers_from from n)

all_both : (p : Report → Bool) (xs ys : List Report) → list_all p xs ≡ true → list_all p ys ≡ true → list_all p (xs ++ ys) ≡ true
all_both p [] ys a b = b
all_both p (x ∷ xs) ys a b = head (p x) (list_all p xs) (list_all p (xs ++ ys)) a (λ e. all_both p xs ys e b)
  where
    head : (c d e : Bool) → (c && d) ≡ true → (d ≡ true → e ≡ true) → (c && e) ≡ true
    head true d e h k = k h
    head false d e h k = absurd (cc)

if_any_all : (p : Report → Bool) (fs : List Field) (kind : ReportKind) (i : ℕ) → ((bits : ℕ) → p (record { kind = kind; id = i; bits = bits }) ≡ true) → list_all p (report_if_any fs kind i) ≡ true
if_any_all p fs kind i h = by_case (nat_eq (report_bits kind i fs) 0)
  where
    by_case : (b : Bool) → list_all p (cond b [] (record { kind = kind; id = i; bits = report_bits kind i fs } ∷ [])) ≡ true
    by_case true = refl
    by_case false = rw (h (report_bits kind i fs)) refl

-- what holds of each report that there may be holds of all that there are
kind_all : (p : Report → Bool) (fs : List Field) (kind : ReportKind) (from n : ℕ) → ((i bits : ℕ) → from ≤ i → i < from + n → p (record { kind = kind; id = i; bits = bits }) ≡ true) → list_all p (kind_reports fs kind from n) ≡ true
unfolding numbers_from
kind_all p fs kind from zero h = refl
kind_all p fs kind from (suc n) h =
    all_both p (report_if_any fs kind from) (kind_reports fs kind (from + 1) n) (if_any_all p fs kind from (λ bits. h from bits (omega arith) (omega arith)))
    (kind_all p fs kind (from + 1) n (λ i bits a b. h i bits (omega arith) (omega arith)))

-- the bits of a report, with one more field
pub bits_added : (kind : ReportKind) (id : ℕ) (fs : List Field) (f : Field) → report_bits kind id (fs ++ f ∷ []) ≡ report_bits kind id fs + cond (same_kind f.kind kind && nat_eq f.id id) (bits_of f) 0
bits_added kind id fs f =
    let p : Field → Bool = λ field. same_kind field.kind kind && nat_eq field.id id in
    ap (sum_by bits_of) (filter-append p fs (f ∷ [])) ∙ sum_by-append bits_of (filter p fs) _ ∙ ap (λ n. sum_by bits_of (filter p fs) + n) (sum_one (p f))
  where
    sum_one : (b : Bool) → sum_by bits_of (cond b (f ∷ []) []) ≡ cond b (bits_of f) 0
    sum_one true = omega arith
    sum_one false = refl

-- the fields of one report leave the others
if_any_other : (kind : ReportKind) (i : ℕ) (fs : List Field) (f : Field) → (same_kind f.kind kind && nat_eq f.id i) ≡ false → report_if_any (fs ++ f ∷ []) kind i ≡ report_if_any fs kind i
if_any_other kind i fs f h =
    let e : report_bits kind i (fs ++ f ∷ []) ≡ report_bits kind i fs = bits_added kind i fs f ∙ rw h (omega arith) in
    ap (λ bits. cond (nat_eq bits 0) [] (record { kind = kind; id = i; bits = bits } ∷ [])) e

kind_other : (kind : ReportKind) (fs : List Field) (f : Field) (from n : ℕ) → ((i : ℕ) → from ≤ i → i < from + n → (same_kind f.kind kind && nat_eq f.id i) ≡ false) → kind_reports (fs ++ f ∷ []) kind from n ≡ kind_reports fs kind from n
unfolding numbers_from
kind_other kind fs f from zero h = refl
kind_other kind fs f from (suc n) h =
    ap (λ l. l ++ kind_reports (fs ++ f ∷ []) kind (from + 1) n) (if_any_other kind from fs f (h from (omega arith) (omega arith)))
    ∙ ap (λ l. report_if_any fs kind from ++ l) (kind_other kind fs f (from + 1) n (λ i a b. h i (omega arith) (omega arith)))

-- adding goes past the reports that stand before
with_bits_past : (kind : ReportKind) (id b : ℕ) (xs ys : List Report) → list_all (comes_before kind id) xs ≡ true → with_bits kind id b (xs ++ ys) ≡ xs ++ with_bits kind id b ys
with_bits_past kind id b [] ys h = refl
with_bits_past kind id b (x ∷ xs) ys h = head (comes_before kind id x) refl (list_all (comes_before kind id) xs) refl h (λ e. with_bits_past kind id b xs ys e)
  where
    head : (c : Bool) → comes_before kind id x ≡ c → (d : Bool) → list_all (comes_before kind id) xs ≡ d → (c && d) ≡ true → (list_all (comes_before kind id) xs ≡ true → with_bits kind id b (xs ++ ys) ≡ xs ++ with_bits kind id b ys)
        → cond c (x ∷ with_bits kind id b (xs ++ ys)) (cond (is_report kind id x) (record x { bits = x.bits + b } ∷ xs ++ ys) (record { kind = kind; id = id; bits = b } ∷ x ∷ xs ++ ys)) ≡ x ∷ xs ++ with_bits kind id b ys
    head true c d e g k = ap (λ l. x ∷ l) (k (e ∙ g))
    head false c d e g k = absurd (cc)

-- a report after that of a kind with an ID
abbrev pub comes_after : ReportKind → ℕ → Report → Bool
comes_after kind id r = not (comes_before kind id r) && not (is_report kind id r)

with_bits_here : (kind : ReportKind) (id b : ℕ) (ys : List Report) → list_all (comes_after kind id) ys ≡ true → with_bits kind id b ys ≡ record { kind = kind; id = id; bits = b } ∷ ys
with_bits_here kind id b [] h = refl
with_bits_here kind id b (y ∷ ys) h = by_case (comes_before kind id y) (is_report kind id y) (list_all (comes_after kind id) ys) h
  where
    by_case : (c d e : Bool) → ((not c && not d) && e) ≡ true
        → cond c (y ∷ with_bits kind id b ys) (cond d (record y { bits = y.bits + b } ∷ ys) (record { kind = kind; id = id; bits = b } ∷ y ∷ ys)) ≡ record { kind = kind; id = id; bits = b } ∷ y ∷ ys
    by_case true d e h = absurd (cc)
    by_case false true e h = absurd (cc)
    by_case false false e h = refl

pub same_itself : (kind : ReportKind) → same_kind kind kind ≡ true
same_itself Input = refl
same_itself Output = refl
same_itself Feature = refl

-- where the report stands among those of its kind, from this ID on
with_bits_first : (fs : List Field) (f : Field) (n : ℕ) (rest : List Report) → bits_of f ≢ 0 → list_all (comes_after f.kind f.id) rest ≡ true
    → with_bits f.kind f.id (bits_of f) ((report_if_any fs f.kind f.id ++ kind_reports fs f.kind (f.id + 1) n) ++ rest) ≡ (report_if_any (fs ++ f ∷ []) f.kind f.id ++ kind_reports (fs ++ f ∷ []) f.kind (f.id + 1) n) ++ rest
with_bits_first fs f n rest some after =
    let others : kind_reports (fs ++ f ∷ []) f.kind (f.id + 1) n ≡ kind_reports fs f.kind (f.id + 1) n = kind_other f.kind fs f (f.id + 1) n (λ i a b. grind (arith, nat_tests, common_steps)) in
    let more : report_bits f.kind f.id (fs ++ f ∷ []) ≡ report_bits f.kind f.id fs + bits_of f = bits_added f.kind f.id fs f ∙ rw (same_itself f.kind) (grind (arith, nat_tests, common_steps)) in
    let behind : list_all (comes_after f.kind f.id) (kind_reports fs f.kind (f.id + 1) n ++ rest) ≡ true = all_both (comes_after f.kind f.id) (kind_reports fs f.kind (f.id + 1) n) rest (kind_all (comes_after f.kind f.id) fs f.kind (f.id + 1) n (λ i bits a b. rw (same_itself f.kind) (grind (arith, nat_tests, common_steps)))) after in
    first (report_bits f.kind f.id fs) (nat_eq (report_bits f.kind f.id fs) 0) refl (kind_reports fs f.kind (f.id + 1) n ++ rest) (append_assoc (report_if_any fs f.kind f.id) (kind_reports fs f.kind (f.id + 1) n) rest) behind
    ∙ ap (λ l. record { kind = f.kind; id = f.id; bits = report_bits f.kind f.id fs + bits_of f } ∷ (l ++ rest)) (sym others)
    ∙ sym (ap (λ l. (l ++ kind_reports (fs ++ f ∷ []) f.kind (f.id + 1) n) ++ rest) (shown (report_bits f.kind f.id fs + bits_of f) more (omega arith)))
  where
    first : (old : ℕ) (z : Bool) → nat_eq old 0 ≡ z → (ys : List Report) {xs : List Report} → xs ≡ cond z [] (record { kind = f.kind; id = f.id; bits = old } ∷ []) ++ ys → list_all (comes_after f.kind f.id) ys ≡ true
        → with_bits f.kind f.id (bits_of f) xs ≡ record { kind = f.kind; id = f.id; bits = old + bits_of f } ∷ ys
    first old true e ys x h =
        let zero_bits : bits_of f ≡ old + bits_of f = grind (arith, nat_tests) in
        ap (with_bits f.kind f.id (bits_of f)) x ∙ with_bits_here f.kind f.id (bits_of f) ys h ∙ ap (λ (n : ℕ). record { kind = f.kind; id = f.id; bits = n } ∷ ys) zero_bits
    first old false e ys x h =
        let b : comes_before f.kind f.id (record { kind = f.kind; id = f.id; bits = old }) ≡ false = grind (arith, nat_tests, common_steps) in
        let r : is_report f.kind f.id (record { kind = f.kind; id = f.id; bits = old }) ≡ true = rw (same_itself f.kind) (grind (arith, nat_tests, common_steps)) in
        ap (with_bits f.kind f.id (bits_of f)) x ∙ rw b (rw r refl)

    shown : (bits : ℕ) → report_bits f.kind f.id (fs ++ f ∷ []) ≡ bits → bits ≢ 0 → report_if_any (fs ++ f ∷ []) f.kind f.id ≡ record { kind = f.kind; id = f.id; bits = bits } ∷ []
    shown bits e n =
        let z : nat_eq bits 0 ≡ false = grind (arith, nat_tests) in
        ap (λ (m : ℕ). cond (nat_eq m 0) [] (record { kind = f.kind; id = f.id; bits = m } ∷ [])) e ∙ rw z refl

-- the report among those of its kind
with_bits_in_kind : (fs : List Field) (f : Field) (from n : ℕ) (rest : List Report) → bits_of f ≢ 0 → from ≤ f.id → f.id < from + n → list_all (comes_after f.kind f.id) rest ≡ true
    → with_bits f.kind f.id (bits_of f) (kind_reports fs f.kind from n ++ rest) ≡ kind_reports (fs ++ f ∷ []) f.kind from n ++ rest
unfolding numbers_from
with_bits_in_kind fs f from zero rest some low high after = absurd (omega arith)
with_bits_in_kind fs f from (suc n) rest some low high after = by_case (nat_eq from f.id) refl (λ lt. with_bits_in_kind fs f (from + 1) n rest some lt (omega arith) after)
  where
    by_case : (b : Bool) → nat_eq from f.id ≡ b → (from + 1 ≤ f.id → with_bits f.kind f.id (bits_of f) (kind_reports fs f.kind (from + 1) n ++ rest) ≡ kind_reports (fs ++ f ∷ []) f.kind (from + 1) n ++ rest)
        → with_bits f.kind f.id (bits_of f) ((report_if_any fs f.kind from ++ kind_reports fs f.kind (from + 1) n) ++ rest) ≡ (report_if_any (fs ++ f ∷ []) f.kind from ++ kind_reports (fs ++ f ∷ []) f.kind (from + 1) n) ++ rest
    by_case true e more =
        let here : f.id ≡ from = grind (arith, nat_tests) in
        subst (λ at. with_bits f.kind f.id (bits_of f) ((report_if_any fs f.kind at ++ kind_reports fs f.kind (at + 1) n) ++ rest) ≡ (report_if_any (fs ++ f ∷ []) f.kind at ++ kind_reports (fs ++ f ∷ []) f.kind (at + 1) n) ++ rest) here
        (with_bits_first fs f n rest some after)
    by_case false e more =
        let lt : from + 1 ≤ f.id = grind (arith, nat_tests) in
        let other : (same_kind f.kind f.kind && nat_eq f.id from) ≡ false = grind (arith, nat_tests, common_steps) in
        let past : list_all (comes_before f.kind f.id) (report_if_any fs f.kind from) ≡ true = if_any_all (comes_before f.kind f.id) fs f.kind from (λ bits. rw (same_itself f.kind) (grind (arith, nat_tests, common_steps))) in
        ap (with_bits f.kind f.id (bits_of f)) (append_assoc (report_if_any fs f.kind from) (kind_reports fs f.kind (from + 1) n) rest)
        ∙ with_bits_past f.kind f.id (bits_of f) (report_if_any fs f.kind from) (kind_reports fs f.kind (from + 1) n ++ rest) past
        ∙ ap (λ l. report_if_any fs f.kind from ++ l) (more lt)
        ∙ ap (λ l. l ++ (kind_reports (fs ++ f ∷ []) f.kind (from + 1) n ++ rest)) (sym (if_any_other f.kind from fs f other))
        ∙ sym (append_assoc (report_if_any (fs ++ f ∷ []) f.kind from) (kind_reports (fs ++ f ∷ []) f.kind (from + 1) n) rest)

kinds_after : (fs : List Field) (kind other : ReportKind) (id : ℕ) → nat_lt (rank kind) (rank other) ≡ true → list_all (comes_after kind id) (kind_reports fs other 0 256) ≡ true
kinds_after fs kind other id h = kind_all (comes_after kind id) fs other 0 256 (λ i bits a b. by_kinds kind other i h)
  where
    by_kinds : (kind other : ReportKind) (i : ℕ) → nat_lt (rank kind) (rank other) ≡ true → (not (nat_lt (rank other) (rank kind) || (same_kind other kind && nat_lt i id)) && not (same_kind other kind && nat_eq i id)) ≡ true
    by_kinds Input Input i h = absurd (cc)
    by_kinds Input Output i h = refl
    by_kinds Input Feature i h = refl
    by_kinds Output Input i h = absurd (cc)
    by_kinds Output Output i h = absurd (cc)
    by_kinds Output Feature i h = refl
    by_kinds Feature Input i h = absurd (cc)
    by_kinds Feature Output i h = absurd (cc)
    by_kinds Feature Feature i h = absurd (cc)

kinds_before : (fs : List Field) (kind other : ReportKind) (id : ℕ) → nat_lt (rank other) (rank kind) ≡ true → list_all (comes_before kind id) (kind_reports fs other 0 256) ≡ true
kinds_before fs kind other id h = kind_all (comes_before kind id) fs other 0 256 (λ i bits a b. rw h refl)

kinds_kept : (fs : List Field) (f : Field) (other : ReportKind) → same_kind f.kind other ≡ false → kind_reports (fs ++ f ∷ []) other 0 256 ≡ kind_reports fs other 0 256
kinds_kept fs f other h = kind_other other fs f 0 256 (λ i a b. rw h refl)

-- the reports of the field's kind, with those of kinds before and after
with_bits_around : (fs : List Field) (f : Field) (kind : ReportKind) (front back : List Report) → bits_of f ≢ 0 → f.id < 256 → f.kind ≡ kind → list_all (comes_before f.kind f.id) front ≡ true → list_all (comes_after f.kind f.id) back ≡ true
    → with_bits f.kind f.id (bits_of f) (front ++ (kind_reports fs kind 0 256 ++ back)) ≡ front ++ (kind_reports (fs ++ f ∷ []) kind 0 256 ++ back)
with_bits_around fs f kind front back some small k before after =
    with_bits_past f.kind f.id (bits_of f) front (kind_reports fs kind 0 256 ++ back) before
    ∙ ap (λ x. front ++ with_bits f.kind f.id (bits_of f) (kind_reports fs x 0 256 ++ back)) (sym k)
    ∙ ap (λ l. front ++ l) (with_bits_in_kind fs f 0 256 back some (omega arith) small after)
    ∙ ap (λ x. front ++ (kind_reports (fs ++ f ∷ []) x 0 256 ++ back)) k

-- the reports, once more fields with bits are listed
pub with_bits-reports_of : (fs : List Field) (f : Field) → bits_of f ≢ 0 → f.id < 256 → with_bits f.kind f.id (bits_of f) (reports_of fs) ≡ reports_of (fs ++ f ∷ [])
unfolding reports_of reports_of_kind
with_bits-reports_of fs f some small = by_kind f.kind refl
  where
    kept : (kind other : ReportKind) → f.kind ≡ kind → same_kind kind other ≡ false → kind_reports fs other 0 256 ≡ kind_reports (fs ++ f ∷ []) other 0 256
    kept kind other k h = sym (kinds_kept fs f other (ap (λ x. same_kind x other) k ∙ h))

    behind : (kind other : ReportKind) → f.kind ≡ kind → nat_lt (rank kind) (rank other) ≡ true → list_all (comes_after f.kind f.id) (kind_reports fs other 0 256) ≡ true
    behind kind other k h = kinds_after fs f.kind other f.id (ap (λ x. nat_lt (rank x) (rank other)) k ∙ h)

    before : (kind other : ReportKind) → f.kind ≡ kind → nat_lt (rank other) (rank kind) ≡ true → list_all (comes_before f.kind f.id) (kind_reports fs other 0 256) ≡ true
    before kind other k h = kinds_before fs f.kind other f.id (ap (λ x. nat_lt (rank other) (rank x)) k ∙ h)

    by_kind : (kind : ReportKind) → f.kind ≡ kind → with_bits f.kind f.id (bits_of f) ((kind_reports fs Input 0 256 ++ kind_reports fs Output 0 256) ++ kind_reports fs Feature 0 256)
        ≡ (kind_reports (fs ++ f ∷ []) Input 0 256 ++ kind_reports (fs ++ f ∷ []) Output 0 256) ++ kind_reports (fs ++ f ∷ []) Feature 0 256
    by_kind Input k =
        ap (with_bits f.kind f.id (bits_of f)) (append_assoc (kind_reports fs Input 0 256) (kind_reports fs Output 0 256) (kind_reports fs Feature 0 256))
        ∙ with_bits_around fs f Input [] (kind_reports fs Output 0 256 ++ kind_reports fs Feature 0 256) some small k refl
        (all_both (comes_after f.kind f.id) (kind_reports fs Output 0 256) (kind_reports fs Feature 0 256) (behind Input Output k refl) (behind Input Feature k refl))
        ∙ ap (λ l. kind_reports (fs ++ f ∷ []) Input 0 256 ++ (l ++ kind_reports fs Feature 0 256)) (kept Input Output k refl)
        ∙ ap (λ l. kind_reports (fs ++ f ∷ []) Input 0 256 ++ (kind_reports (fs ++ f ∷ []) Output 0 256 ++ l)) (kept Input Feature k refl)
        ∙ sym (append_assoc (kind_reports (fs ++ f ∷ []) Input 0 256) (kind_reports (fs ++ f ∷ []) Output 0 256) (kind_reports (fs ++ f ∷ []) Feature 0 256))
    by_kind Output k =
        ap (with_bits f.kind f.id (bits_of f)) (append_assoc (kind_reports fs Input 0 256) (kind_reports fs Output 0 256) (kind_reports fs Feature 0 256))
        ∙ with_bits_around fs f Output (kind_reports fs Input 0 256) (kind_reports fs Feature 0 256) some small k (before Output Input k refl) (behind Output Feature k refl)
        ∙ ap (λ l. l ++ (kind_reports (fs ++ f ∷ []) Output 0 256 ++ kind_reports fs Feature 0 256)) (kept Output Input k refl)
        ∙ ap (λ l. kind_reports (fs ++ f ∷ []) Input 0 256 ++ (kind_reports (fs ++ f ∷ []) Output 0 256 ++ l)) (kept Output Feature k refl)
        ∙ sym (append_assoc (kind_reports (fs ++ f ∷ []) Input 0 256) (kind_reports (fs ++ f ∷ []) Output 0 256) (kind_reports (fs ++ f ∷ []) Feature 0 256))
    by_kind Feature k =
        ap (λ l. with_bits f.kind f.id (bits_of f) ((kind_reports fs Input 0 256 ++ kind_reports fs Output 0 256) ++ l)) (sym (append-nil (kind_reports fs Feature 0 256)))
        ∙ with_bits_around fs f Feature (kind_reports fs Input 0 256 ++ kind_reports fs Output 0 256) [] some small k
        (all_both (comes_before f.kind f.id) (kind_reports fs Input 0 256) (kind_reports fs Output 0 256) (before Feature Input k refl) (before Feature Output k refl)) refl
        ∙ ap (λ l. (l ++ kind_reports fs Output 0 256) ++ (kind_reports (fs ++ f ∷ []) Feature 0 256 ++ [])) (kept Feature Input k refl)
        ∙ ap (λ l. (kind_reports (fs ++ f ∷ []) Input 0 256 ++ l) ++ (kind_reports (fs ++ f ∷ []) Feature 0 256 ++ [])) (kept Feature Output k refl)
        ∙ ap (λ l. (kind_reports (fs ++ f ∷ []) Input 0 256 ++ kind_reports (fs ++ f ∷ []) Output 0 256) ++ l) (append-nil (kind_reports (fs ++ f ∷ []) Feature 0 256))

-- the bits of a report that isn't there
bits_in_none : (kind : ReportKind) (id : ℕ) (xs ys : List Report)
    → list_all (λ r. not (is_report kind id r)) xs ≡ true
    → bits_in_report kind id (xs ++ ys) ≡ bits_in_report kind id ys
bits_in_none kind id [] ys h = refl
bits_in_none kind id (x ∷ xs) ys h =
    head (is_report kind id x) (list_all (λ r. not (is_report kind id r)) xs) (bits_in_report kind id (xs ++ ys)) h
    (λ e. bits_in_none kind id xs ys e)
  where
    head : (c d : Bool) (n : ℕ) → (not c && d) ≡ true → (d ≡ true → n ≡ bits_in_report kind id ys)
        → cond c x.bits n ≡ bits_in_report kind id ys
    head true d n h k = absurd (cc)
    head false d n h k = k h

bits_in_kind : (fs : List Field) (kind : ReportKind) (id from n : ℕ) (rest : List Report) → from ≤ id → id < from + n
    → list_all (λ r. not (is_report kind id r)) rest ≡ true
    → bits_in_report kind id (kind_reports fs kind from n ++ rest) ≡ report_bits kind id fs
unfolding numbers_from
bits_in_kind fs kind id from zero rest low high none = absurd (omega arith)
bits_in_kind fs kind id from (suc n) rest low high none = by_case (nat_eq from id) refl (λ lt. bits_in_kind fs kind id (from + 1) n rest lt (omega arith) none)
  where
    here : (bits : ℕ) (b : Bool) → nat_eq bits 0 ≡ b → (ys : List Report) → bits_in_report kind id ys ≡ 0
        → bits_in_report kind id (cond b [] (record { kind = kind; id = id; bits = bits } ∷ []) ++ ys) ≡ bits
    here bits true e ys h = h ∙ grind (arith, nat_tests)
    here bits false e ys h = let r : is_report kind id (record { kind = kind; id = id; bits = bits }) ≡ true = rw (same_itself kind) (grind (arith, nat_tests, common_steps)) in rw r refl

    by_case : (b : Bool) → nat_eq from id ≡ b
        → (from + 1 ≤ id
        → bits_in_report kind id (kind_reports fs kind (from + 1) n ++ rest) ≡ report_bits kind id fs)
        → bits_in_report kind id ((report_if_any fs kind from ++ kind_reports fs kind (from + 1) n) ++ rest)
        ≡ report_bits kind id fs
    by_case true e more =
        let at : id ≡ from = grind (arith, nat_tests) in
        let p : Report → Bool = λ r. not (is_report kind id r) in
        let others : list_all p (kind_reports fs kind (id + 1) n ++ rest) ≡ true = all_both p (kind_reports fs kind (id + 1) n) rest (kind_all p fs kind (id + 1) n (λ i bits a b. rw (same_itself kind) (grind (arith, nat_tests, common_steps)))) none in
        let zero_bits : bits_in_report kind id (kind_reports fs kind (id + 1) n ++ rest) ≡ 0 =
        ap (bits_in_report kind id) (sym (append-nil _))
        ∙ bits_in_none kind id (kind_reports fs kind (id + 1) n ++ rest) [] others in
        subst (λ k. bits_in_report kind id ((report_if_any fs kind k ++ kind_reports fs kind (k + 1) n) ++ rest)
        ≡ report_bits kind id fs) at
        (ap (bits_in_report kind id) (append_assoc (report_if_any fs kind id) (kind_reports fs kind (id + 1) n) rest)
        ∙ here (report_bits kind id fs) (nat_eq (report_bits kind id fs) 0) refl
        (kind_reports fs kind (id + 1) n ++ rest) zero_bits)
    by_case false e more =
        let lt : from + 1 ≤ id = grind (arith, nat_tests) in
        let none_here : list_all (λ r. not (is_report kind id r)) (report_if_any fs kind from) ≡ true = if_any_all (λ r. not (is_report kind id r)) fs kind from (λ bits. grind (arith, nat_tests, common_steps)) in
        ap (bits_in_report kind id)
        (append_assoc (report_if_any fs kind from) (kind_reports fs kind (from + 1) n) rest)
        ∙ bits_in_none kind id (report_if_any fs kind from) (kind_reports fs kind (from + 1) n ++ rest) none_here
        ∙ more lt

none_of_kind : (fs : List Field) (kind other : ReportKind) (id : ℕ) → same_kind other kind ≡ false → list_all (λ r. not (is_report kind id r)) (kind_reports fs other 0 256) ≡ true
none_of_kind fs kind other id h = kind_all (λ r. not (is_report kind id r)) fs other 0 256 (λ i bits a b. rw h refl)

-- the bits kept of a report are those of its fields
pub bits_in_report-reports_of : (kind : ReportKind) (id : ℕ) (fs : List Field) → id < 256
    → bits_in_report kind id (reports_of fs) ≡ report_bits kind id fs
unfolding reports_of reports_of_kind
bits_in_report-reports_of Input id fs small =
    ap (bits_in_report Input id)
    (append_assoc (kind_reports fs Input 0 256) (kind_reports fs Output 0 256) (kind_reports fs Feature 0 256))
    ∙ bits_in_kind fs Input id 0 256 (kind_reports fs Output 0 256 ++ kind_reports fs Feature 0 256) (omega arith) small
    (all_both (λ r. not (is_report Input id r)) (kind_reports fs Output 0 256) (kind_reports fs Feature 0 256) (none_of_kind fs Input Output id refl) (none_of_kind fs Input Feature id refl))
bits_in_report-reports_of Output id fs small =
    ap (bits_in_report Output id)
    (append_assoc (kind_reports fs Input 0 256) (kind_reports fs Output 0 256) (kind_reports fs Feature 0 256))
    ∙ bits_in_none Output id (kind_reports fs Input 0 256) (kind_reports fs Output 0 256 ++ kind_reports fs Feature 0 256) (none_of_kind fs Output Input id refl)
    ∙ bits_in_kind fs Output id 0 256 (kind_reports fs Feature 0 256) (omega arith) small (none_of_kind fs Output Feature id refl)
bits_in_report-reports_of Feature id fs small =
    bits_in_none Feature id (kind_reports fs Input 0 256 ++ kind_reports fs Output 0 256) (kind_reports fs Feature 0 256)
    (all_both (λ r. not (is_report Feature id r)) (kind_reports fs Input 0 256) (kind_reports fs Output 0 256) (none_of_kind fs Feature Input id refl) (none_of_kind fs Feature Output id refl))
    ∙ ap (bits_in_report Feature id) (sym (append-nil (kind_reports fs Feature 0 256)))
    ∙ bits_in_kind fs Feature id 0 256 [] (omega arith) small refl

-- without fields there are no reports
none_yet : (kind : ReportKind) (from n : ℕ) → kind_reports [] kind from n ≡ []
unfolding numbers_from
none_yet kind from zero = refl
none_yet kind from (suc n) = none_yet kind (from + 1) n

pub reports_of-nil : reports_of [] ≡ []
unfolding reports_of reports_of_kind
reports_of-nil = rw none_yet refl
