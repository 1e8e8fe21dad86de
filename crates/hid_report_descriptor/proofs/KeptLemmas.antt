-- What the parser keeps of the listed fields, once more of them are listed.
use Rattle.std.proofs.Common.{◌≡◌, ◌≢◌, ℕ, zero, suc, ◌+◌, ◌*◌, ◌<◌, ◌≤◌, Bool, true, false, cond, not, ◌&&◌, ◌||◌, List, [], ◌∷◌, ◌++◌, length, filter, refl, sym, ap, subst, ◌∙◌, arith, nat_eq, nat_lt, length-append, Some, unwrap_or}
use Rattle.std.specs.List.{list_any}
use Rattle.std.specs.Prelude.{sum_by}
use Rattle.std.proofs.lemmas.Grind.{common_steps}
use Rattle.std.proofs.lemmas.Bool.Decides.{nat_tests}
use Rattle.std.proofs.lemmas.List.{map-append, length-map}
use Rattle.std.proofs.lemmas.List.Sums.{sum_by-append}
use Rattle.std.proofs.lemmas.List.Folds.{list_any-append}
use Rattle.hid_report_descriptor.specs.Limits.{most_elements}
use Rattle.hid_report_descriptor.specs.declared.limits.Limits.{Limits}
use Rattle.hid_report_descriptor.specs.declared.field.KeptField.{KeptField}
use Rattle.hid_report_descriptor.specs.declared.field_list.KeptFields.{KeptFields}
use Rattle.hid_report_descriptor.specs.Fields.{Field, is_padding, bits_of, report_bits}
use Rattle.hid_report_descriptor.specs.Faults.{numbers_from, report_ids, element_count, are_too_many}
use Rattle.hid_report_descriptor.specs.Totals.{with_id, with_bits, bits_in_report}
use Rattle.hid_report_descriptor.specs.KeptFields.{kept_field_of, whole_field, AreFieldsPlaced}
use Rattle.hid_report_descriptor.specs.Usages.{Entry}
use Rattle.hid_report_descriptor.specs.declared.collection.Collection.{Collection}
use Rattle.hid_report_descriptor.specs.FieldList.{AreKept}
use Rattle.hid_report_descriptor.specs.ItemLists.{Listed, no_lists, lists_with}
use Rattle.hid_report_descriptor.proofs.ReportsLemmas.{with_bits-reports_of, bits_in_report-reports_of, reports_of-nil}
use Rattle.hid_report_descriptor.proofs.Shares.{share, bits-cons}
use Rattle.hid_report_descriptor.specs.declared.report.ReportKind.{ReportKind}
use Rattle.hid_report_descriptor.specs.Kinds.{same_kind}

some_is : (a b : KeptField) → Some a ≡ Some b → a ≡ b
some_is a b e = ap (λ o. unwrap_or o a) e

-- one more number passes a test
passed_more : (p q : ℕ → Bool) (x from n : ℕ) → ((i : ℕ) → q i ≡ (p i || nat_eq x i))
    → length (filter q (numbers_from from n))
    ≡ length (filter p (numbers_from from n)) + cond ((not (p x) && nat_lt x (from + n)) && not (nat_lt x from)) 1 0
unfolding numbers_from
passed_more p q x from zero h = grind (arith, common_steps, nat_tests)
passed_more p q x from (suc n) h = by_case (nat_eq x from) refl (passed_more p q x (from + 1) n h)
  where
    ends : (a c : Bool) (xs ys : List ℕ) → length xs ≡ length ys + cond (c && false) 1 0 → length (cond (a || true) (from ∷ xs) xs) ≡ length (cond a (from ∷ ys) ys) + cond ((not a && true) && true) 1 0
    ends true true xs ys m = omega arith
    ends true false xs ys m = omega arith
    ends false true xs ys m = omega arith
    ends false false xs ys m = omega arith

    goes_on : (a : Bool) (k : ℕ) (xs ys : List ℕ) → length xs ≡ length ys + k → length (cond (a || false) (from ∷ xs) xs) ≡ length (cond a (from ∷ ys) ys) + k
    goes_on true k xs ys m = omega arith
    goes_on false k xs ys m = omega arith

    by_case : (b : Bool) → nat_eq x from ≡ b
        → length (filter q (numbers_from (from + 1) n))
        ≡ length (filter p (numbers_from (from + 1) n)) + cond
        ((not (p x) && nat_lt x ((from + 1) + n)) && not (nat_lt x (from + 1))) 1 0
        → length (cond (q from) (from ∷ filter q (numbers_from (from + 1) n)) (filter q (numbers_from (from + 1) n)))
        ≡ length (cond (p from) (from ∷ filter p (numbers_from (from + 1) n))
        (filter p (numbers_from (from + 1) n))) + cond
        ((not (p x) && nat_lt x (from + suc n)) && not (nat_lt x from)) 1 0
    by_case true e more =
        let same : x ≡ from = grind (arith, nat_tests) in
        let a : p x ≡ p from = ap p same in
        let b : q from ≡ (p from || nat_eq x from) = h from in
        let l : nat_lt x (from + suc n) ≡ true = grind (arith, nat_tests) in
        let m : nat_lt x (from + 1) ≡ true = grind (arith, nat_tests) in
        let o : nat_lt x from ≡ false = grind (arith, nat_tests) in
        let here : length (filter q (numbers_from (from + 1) n))
        ≡ length (filter p (numbers_from (from + 1) n)) + cond
        ((not (p x) && nat_lt x ((from + 1) + n)) && false) 1 0 =
        subst (λ c. length (filter q (numbers_from (from + 1) n))
        ≡ length (filter p (numbers_from (from + 1) n)) + cond
        ((not (p x) && nat_lt x ((from + 1) + n)) && not c) 1 0) m more in
        rw (b, e, a, l, o) (ends (p from) (not (p x) && nat_lt x ((from + 1) + n)) _ _ here)
    by_case false e more =
        let b : q from ≡ (p from || nat_eq x from) = h from in
        let l : nat_lt x (from + suc n) ≡ nat_lt x ((from + 1) + n) = ap (nat_lt x) (omega arith) in
        let o : nat_lt x from ≡ nat_lt x (from + 1) = grind (arith, nat_tests) in
        rw (b, e, l, o) (goes_on (p from) (cond ((not (p x) && nat_lt x ((from + 1) + n)) && not (nat_lt x (from + 1))) 1 0) _ _ more)

pub any_id : (fs : List Field) (f : Field) (id : ℕ) → list_any (λ (field : Field). nat_eq field.id id) (fs ++ f ∷ []) ≡ (list_any (λ (field : Field). nat_eq field.id id) fs || nat_eq f.id id)
any_id fs f id = list_any-append (λ (field : Field). nat_eq field.id id) fs (f ∷ []) ∙ ap (λ b. list_any (λ (field : Field). nat_eq field.id id) fs || b) (or_false (nat_eq f.id id))
  where
    or_false : (b : Bool) → (b || false) ≡ b
    or_false true = refl
    or_false false = refl

-- the IDs, once a field is listed
ids_more : (id : ℕ) (ids : List ℕ) (other : ℕ) → list_any (λ k. nat_eq k other) (with_id id ids) ≡ (list_any (λ k. nat_eq k other) ids || (not (nat_eq id 0) && nat_eq id other))
ids_more id ids other = by_case (nat_eq id 0) (list_any (λ k. nat_eq k id) ids) refl
  where
    or_false : (b : Bool) → (b || false) ≡ b
    or_false true = refl
    or_false false = refl

    there : (xs : List ℕ) → list_any (λ k. nat_eq k id) xs ≡ true → list_any (λ k. nat_eq k other) xs ≡ (list_any (λ k. nat_eq k other) xs || nat_eq id other)
    there [] h = absurd (cc)
    there (x ∷ xs) h = grind (arith, common_steps, nat_tests, there xs)

    by_case : (z b : Bool) → list_any (λ k. nat_eq k id) ids ≡ b → list_any (λ k. nat_eq k other) (cond (not z && not b) (ids ++ id ∷ []) ids) ≡ (list_any (λ k. nat_eq k other) ids || (not z && nat_eq id other))
    by_case true b e = sym (or_false _)
    by_case false true e = there ids e
    by_case false false e = list_any-append (λ k. nat_eq k other) ids (id ∷ []) ∙ ap (λ b. list_any (λ k. nat_eq k other) ids || b) (or_false (nat_eq id other))

ids_length : (id : ℕ) (ids : List ℕ) → length (with_id id ids) ≡ length ids + cond (not (nat_eq id 0) && not (list_any (λ k. nat_eq k id) ids)) 1 0
ids_length id ids = by_case (not (nat_eq id 0) && not (list_any (λ k. nat_eq k id) ids))
  where
    by_case : (b : Bool) → length (cond b (ids ++ id ∷ []) ids) ≡ length ids + cond b 1 0
    by_case true = length-append ids (id ∷ [])
    by_case false = omega arith

-- a report with bits has a field with its ID
id_of_bits : (kind : ReportKind) (id : ℕ) (fs : List Field) → 0 < report_bits kind id fs → list_any (λ (field : Field). nat_eq field.id id) fs ≡ true
id_of_bits kind id [] h = absurd (omega (arith, h))
id_of_bits kind id (f ∷ fs) h = by_case (nat_eq f.id id) refl (λ some. id_of_bits kind id fs some)
  where
    none : (b : Bool) → cond (b && false) (bits_of f) 0 ≡ 0
    none true = refl
    none false = refl

    by_case : (b : Bool) → nat_eq f.id id ≡ b → (0 < report_bits kind id fs → list_any (λ (field : Field). nat_eq field.id id) fs ≡ true) → (b || list_any (λ (field : Field). nat_eq field.id id) fs) ≡ true
    by_case true e more = refl
    by_case false e more =
        let other : share kind id f ≡ 0 = ap (λ b. cond (same_kind f.kind kind && b) (bits_of f) 0) e ∙ none (same_kind f.kind kind) in
        more (omega (arith, h, bits-cons kind id f fs, other))

-- the ID of a report with bits is there, unless it is 0
pub id_there : (fs : List Field) (kind : ReportKind) (id : ℕ) (old : KeptFields) → AreKept fs old → id < 256
    → 0 < bits_in_report kind id old.reports.list.items → old.ids.list.items ≡ with_id id old.ids.list.items
id_there fs kind id old k small some =
    by_case (nat_eq id 0) (list_any (λ (field : Field). nat_eq field.id id) fs)
    (id_of_bits kind id fs
    (omega (arith, some, ap (bits_in_report kind id) k.reports ∙ bits_in_report-reports_of kind id fs small)))
    (list_any (λ x. nat_eq x id) old.ids.list.items) (k.ids id)
  where
    by_case : (z b : Bool) → b ≡ true → (c : Bool) → c ≡ (not z && b) → old.ids.list.items ≡ cond (not z && not c) (old.ids.list.items ++ id ∷ []) old.ids.list.items
    by_case true b h c e = refl
    by_case false b h true e = refl
    by_case false true h false e = absurd (cc)
    by_case false false h false e = absurd (cc)

-- the elements of a field that is not too long
pub few_elements : (f : KeptField) → f.size * f.count ≢ 0 → f.offset + f.size * f.count ≤ 131072 → cond (is_padding f.shape) 0 f.count ≤ 131072
few_elements f some short = by_case f.size f.count (is_padding f.shape) some (omega (arith, short))
  where
    by_case : (size count : ℕ) (b : Bool) → size * count ≢ 0 → size * count ≤ 131072 → cond b 0 count ≤ 131072
    by_case size count true some short = omega arith
    by_case zero count false some short = absurd (some (omega arith))
    by_case (suc size) count false some short = omega (arith, short)

placed_more : (heads : List KeptField) (f : KeptField) → AreFieldsPlaced heads → f.offset + f.size * f.count ≤ 131072 → AreFieldsPlaced (heads ++ f ∷ [])
placed_more [] f w h zero g e = let same : f ≡ g = some_is f g e in subst (λ (x : KeptField). x.offset + x.size * x.count ≤ 131072) same h
placed_more [] f w h (suc i) g e = absurd (cc)
placed_more (x ∷ xs) f w h zero g e = w zero g e
placed_more (x ∷ xs) f w h (suc i) g e = placed_more xs f (λ k a b. w (suc k) a b) h i g e

ids_counted : (id : ℕ) (ids : List ℕ) (here : Bool) → id < 256 → list_any (λ k. nat_eq k id) ids ≡ (not (nat_eq id 0) && here) → length (with_id id ids) ≡ length ids + cond ((not here && nat_lt id (1 + 255)) && not (nat_lt id 1)) 1 0
ids_counted id ids here small e =
    let l : nat_lt id (1 + 255) ≡ true = grind (arith, nat_tests) in
    let z : nat_lt id 1 ≡ nat_eq id 0 = grind (arith, nat_tests) in
    ids_length id ids ∙ rw (e, l, z) (by_case (nat_eq id 0) here)
  where
    by_case : (z here : Bool) → length ids + cond (not z && not (not z && here)) 1 0 ≡ length ids + cond ((not here && true) && not z) 1 0
    by_case true true = refl
    by_case true false = refl
    by_case false true = refl
    by_case false false = refl

ids_told : (id other : ℕ) (old new there : Bool) → old ≡ (not (nat_eq other 0) && there) → new ≡ (old || (not (nat_eq id 0) && nat_eq id other)) → new ≡ (not (nat_eq other 0) && (there || nat_eq id other))
ids_told id other old new there o n = by_case (nat_eq id other) refl
  where
    all_cases : (z : Bool) → ((not z && there) || (not z && true)) ≡ (not z && (there || true))
    all_cases true = refl
    all_cases false = by_there there
      where
        by_there : (b : Bool) → (b || true) ≡ (b || true)
        by_there b = refl

    none : (z y : Bool) → ((not z && there) || (not y && false)) ≡ (not z && (there || false))
    none true true = refl
    none true false = refl
    none false true = refl
    none false false = refl

    by_case : (b : Bool) → nat_eq id other ≡ b → new ≡ (not (nat_eq other 0) && (there || nat_eq id other))
    by_case true e =
        let same : id ≡ other = grind (arith, nat_tests) in
        n ∙ ap (λ x. x || (not (nat_eq id 0) && nat_eq id other)) o ∙ ap (λ k. (not (nat_eq other 0) && there) || (not (nat_eq k 0) && nat_eq id other)) same ∙ rw e (all_cases (nat_eq other 0))
    by_case false e = n ∙ ap (λ x. x || (not (nat_eq id 0) && nat_eq id other)) o ∙ rw e (none (nat_eq other 0) (nat_eq id 0))

-- one more field with its usages and its collections
pub kept_more : (fs : List Field) (f : KeptField) (es : List Entry) (path : List Collection) (old new : KeptFields) → AreKept fs old → f.size * f.count ≢ 0 → f.id < 256 → f.offset + f.size * f.count ≤ 131072
    → new.list.items ≡ old.list.items ++ f ∷ [] → new.lists ≡ lists_with old.lists es path
    → new.reports.list.items ≡ with_bits f.kind f.id (f.size * f.count) old.reports.list.items
    → new.elements ≡ old.elements + cond (is_padding f.shape) 0 f.count → new.ids.list.items ≡ with_id f.id old.ids.list.items → AreKept (fs ++ whole_field f es path ∷ []) new
unfolding report_ids
kept_more fs f es path old new k some small short l ls r n i =
    let w : Field = whole_field f es path in
    let one : sum_by (λ (field : Field). cond (is_padding field.shape) 0 field.count) (w ∷ []) ≡ cond (is_padding f.shape) 0 f.count = omega arith in
    record {
      heads = l ∙ ap (λ xs. xs ++ f ∷ []) k.heads ∙ sym (map-append kept_field_of fs (w ∷ []));
      placed = subst AreFieldsPlaced (sym l) (placed_more old.list.items f k.placed short);
      entries = ap (λ (x : Listed). x.entries) ls ∙ ap (λ xs. xs ++ es ∷ []) k.entries ∙ sym (map-append (λ (field : Field). field.entries) fs (w ∷ []));
      paths = ap (λ (x : Listed). x.paths) ls ∙ ap (λ xs. xs ++ path ∷ []) k.paths ∙ sym (map-append (λ (field : Field). field.path) fs (w ∷ []));
      reports = r ∙ ap (with_bits f.kind f.id (f.size * f.count)) k.reports ∙ with_bits-reports_of fs w some small;
      elements = n ∙ ap (λ m. m + cond (is_padding f.shape) 0 f.count) k.elements ∙ ap (λ m. element_count fs + m) (sym one) ∙ sym (sum_by-append (λ (field : Field). cond (is_padding field.shape) 0 field.count) fs (w ∷ []));
      id_count = ap length i ∙ ids_counted f.id old.ids.list.items (list_any (λ (field : Field). nat_eq field.id f.id) fs) small (k.ids f.id)
          ∙ ap (λ m. m + cond ((not (list_any (λ (field : Field). nat_eq field.id f.id) fs) && nat_lt f.id (1 + 255)) && not (nat_lt f.id 1)) 1 0) k.id_count
          ∙ sym (passed_more (λ id. list_any (λ (field : Field). nat_eq field.id id) fs) (λ id. list_any (λ (field : Field). nat_eq field.id id) (fs ++ w ∷ [])) f.id 1 255 (any_id fs w));
      ids = λ other. ids_told f.id other (list_any (λ x. nat_eq x other) old.ids.list.items) (list_any (λ x. nat_eq x other) new.ids.list.items) (list_any (λ (field : Field). nat_eq field.id other) fs) (k.ids other)
          (ap (list_any (λ x. nat_eq x other)) i ∙ ids_more f.id old.ids.list.items other)
          ∙ ap (λ b. not (nat_eq other 0) && b) (sym (any_id fs w other));
    }

none_passed : (from n : ℕ) → filter (λ id. false) (numbers_from from n) ≡ []
unfolding numbers_from
none_passed from zero = refl
none_passed from (suc n) = none_passed (from + 1) n

-- before all fields
pub kept_none : (new : KeptFields) → new.list.items ≡ [] → new.lists ≡ no_lists → new.reports.list.items ≡ []
    → new.elements ≡ 0 → new.ids.list.items ≡ [] → AreKept [] new
unfolding report_ids
kept_none new l ls r n i = record {
  heads = l;
  placed = subst AreFieldsPlaced (sym l) (λ k a b. absurd (cc));
  entries = ap (λ (x : Listed). x.entries) ls;
  paths = ap (λ (x : Listed). x.paths) ls;
  reports = r ∙ sym reports_of-nil;
  elements = n;
  id_count = ap length i ∙ sym (ap length (none_passed 1 255));
  ids = λ other. ap (list_any (λ x. nat_eq x other)) i ∙ by_case (nat_eq other 0);
}
  where
    by_case : (b : Bool) → false ≡ (not b && false)
    by_case true = refl
    by_case false = refl

-- the limits, by what is kept
pub too_many_kept : (limits : Limits) (fs : List Field) (kept : KeptFields) → AreKept fs kept → length kept.list.items ≤ 512 → are_too_many limits fs ≡ (nat_lt (most_elements limits) kept.elements || nat_lt 64 (length kept.ids.list.items))
unfolding are_too_many
too_many_kept limits fs kept k few =
    let n : length fs ≡ length kept.list.items = sym (ap length k.heads ∙ length-map fs kept_field_of) in
    let b : nat_lt 512 (length fs) ≡ false = grind (arith, nat_tests) in
    rw b (ap (λ m. nat_lt (most_elements limits) m || nat_lt 64 (length (report_ids fs))) (sym k.elements) ∙ ap (λ m. nat_lt (most_elements limits) kept.elements || nat_lt 64 m) (sym k.id_count))

pub too_many_there : (limits : Limits) (fs : List Field) (field : Field) (kept : KeptFields) → AreKept fs kept → 512 ≤ length kept.list.items → are_too_many limits (fs ++ field ∷ []) ≡ true
unfolding are_too_many
too_many_there limits fs field kept k h =
    let n : length fs ≡ length kept.list.items = sym (ap length k.heads ∙ length-map fs kept_field_of) in
    let b : nat_lt 512 (length (fs ++ field ∷ [])) ≡ true = grind (arith, common_steps, nat_tests, length-append) in
    rw b refl
