-- What holds of every layout that accepted items give.
use Rattle.std.proofs.Common.{◌≡◌, ◌≢◌, ℕ, zero, suc, ◌+◌, ◌*◌, ◌-◌, ◌/◌, ◌^◌, ◌<◌, ◌≤◌, Bool, true, false, cond, ◌&&◌, ◌||◌, List, [], ◌∷◌, ◌++◌, length, map, reverse, take, refl, sym, ◌∙◌, ap, subst, arith, nat_eq, nat_le, add-one, Some, None, Option, ℤ, length-append}
use Rattle.std.specs.Prelude.{pos, neg_ℤ, ◌≤ℤ◌, int_le, int_lt, All}
use Rattle.std.specs.List.{slice_get, list_any, flat_map, list_all}
use Rattle.std.proofs.lemmas.Int.{ints, clamps}
use Rattle.std.proofs.lemmas.Float.{T_from_true}
use Rattle.std.proofs.Math.Nat.{one-le-pow, le-mul_of_pos_right, mul_comm}
use Rattle.std.proofs.Math.Pow.{pow_mono}
use Rattle.std.specs.Int.{int_max, int_min}
use Rattle.hid_report_descriptor.specs.Usages.{Entry, entry_count, usages_from, usage_list, are_ranges}
use Rattle.hid_layout.specs.Reports.{HasElements, IsLayout, KeepsTo, first_bit, report_bytes, bits_of as bits_of_report}
use Rattle.hid_report_descriptor.proofs.Taking.{reverse_more}
use Rattle.hid_report_descriptor.proofs.Places.{usages_from-length}
use Rattle.std.proofs.lemmas.Grind.{common_steps}
use Rattle.std.proofs.lemmas.List.Concat.{flat_map-cons}
use Rattle.std.proofs.lemmas.Bool.Decides.{nat_tests}
use Rattle.hid_report_descriptor.specs.declared.report.Report.{Report}
use Rattle.hid_report_descriptor.specs.declared.report.ReportKind.{ReportKind}
use Rattle.hid_report_descriptor.specs.declared.report.ReportKind.TheVariants.{Input, Output, Feature}
use Rattle.hid_layout.specs.declared.main_item.MainItem.{MainItem}
use Rattle.hid_report_descriptor.specs.Kinds.{same_kind}
use Rattle.hid_report_descriptor.specs.Fields.{Field, bits_of, report_bits, is_padding, fields}
use Rattle.hid_report_descriptor.specs.Limits.{longest_report}
use Rattle.hid_report_descriptor.specs.declared.limits.Limits.{Limits}
use Rattle.hid_report_descriptor.specs.declared.limits.Limits.TheVariants.{Bus, Real}
use Rattle.hid_report_descriptor.specs.Faults.{numbers_from, report_limit, least_value, greatest_value, has_value, Accepts}
use Rattle.hid_report_descriptor.specs.Reporting.{report_if_any, reports_of_kind, reports_of}
use Rattle.hid_layout.specs.Layout.{report_place, main_item, contents_of, layout_of}
use Rattle.hid_report_descriptor.proofs.Shares.{same_kind_itself, kinds_equal, some_field, up_to, before_later}
use Rattle.hid_report_descriptor.proofs.FieldFacts.{AreListed, AreSpelled}
use Rattle.hid_report_descriptor.proofs.ListedLemmas.{id_of, listed}
use Rattle.hid_report_descriptor.proofs.ReportIdLemmas.{one_place, byte_id, fields_unnumbered}
use Rattle.hid_report_descriptor.specs.Items.{EncodedItem, is, REPORT_ID}
use Rattle.std.proofs.lemmas.List.Elements.{All-nil, All-cons, All-head, All-tail}
use Rattle.hid_items.specs.ItemEncoding.{IsItemEncoding}

-- each report of a list has the bits of its fields, and some
abbrev IsReport : List Field → Report → Type 0
IsReport fs r = (r.bits ≡ report_bits r.kind r.id fs) × (0 < r.bits)

abbrev AreReports : List Field → List Report → Type 0
AreReports fs [] = Unit {0}
AreReports fs (r ∷ rs) = IsReport fs r × AreReports fs rs

both_reports : (fs : List Field) (xs ys : List Report) → AreReports fs xs → AreReports fs ys → AreReports fs (xs ++ ys)
both_reports fs [] ys a b = b
both_reports fs (x ∷ xs) ys a b = (a.0, both_reports fs xs ys a.1 b)

one_report : (fs : List Field) (kind : ReportKind) (id : ℕ) (b : Bool) → nat_eq (report_bits kind id fs) 0 ≡ b → AreReports fs (cond b [] (record { kind = kind; id = id; bits = report_bits kind id fs } ∷ []))
one_report fs kind id true e = tt
one_report fs kind id false e = ((refl, grind (arith, nat_tests)), tt)

reports_in : (fs : List Field) (kind : ReportKind) (ids : List ℕ) → AreReports fs (flat_map (report_if_any fs kind) ids)
reports_in fs kind [] = tt
reports_in fs kind (id ∷ ids) = rw (flat_map-cons (report_if_any fs kind) id ids)
    (both_reports fs (report_if_any fs kind id) (flat_map (report_if_any fs kind) ids) (one_report fs kind id (nat_eq (report_bits kind id fs) 0) refl) (reports_in fs kind ids))

all_reports : (fs : List Field) → AreReports fs (reports_of fs)
unfolding reports_of reports_of_kind
all_reports fs = both_reports fs (reports_of_kind fs Input ++ reports_of_kind fs Output) (reports_of_kind fs Feature)
    (both_reports fs (reports_of_kind fs Input) (reports_of_kind fs Output) (reports_in fs Input (numbers_from 0 256))
    (reports_in fs Output (numbers_from 0 256))) (reports_in fs Feature (numbers_from 0 256))

report_at : (fs : List Field) (rs : List Report) (p : ℕ) (r : Report) → AreReports fs rs → slice_get rs p ≡ Some r → IsReport fs r
report_at fs [] p r a e = absurd cc
report_at fs (x ∷ rs) zero r a e = let same : x ≡ r = cc in subst (IsReport fs) same a.0
report_at fs (x ∷ rs) (suc p) r a e = report_at fs rs p r a.1 e

-- the report of a kind with an ID is there where it has bits
abbrev is_report : ReportKind → ℕ → Report → Bool
is_report kind id r = same_kind r.kind kind && nat_eq r.id id

has_one : ReportKind → ℕ → List Report → Bool
has_one kind id rs = list_any (is_report kind id) rs

any_left : (kind : ReportKind) (id : ℕ) (xs ys : List Report) → list_any (is_report kind id) xs ≡ true → list_any (is_report kind id) (xs ++ ys) ≡ true
any_left kind id [] ys e = absurd cc
any_left kind id (x ∷ xs) ys e = by_case (is_report kind id x) e (any_left kind id xs ys)
  where
    by_case : (b : Bool) → (b || list_any (is_report kind id) xs) ≡ true → (list_any (is_report kind id) xs ≡ true → list_any (is_report kind id) (xs ++ ys) ≡ true) → (b || list_any (is_report kind id) (xs ++ ys)) ≡ true
    by_case true e rest = refl
    by_case false e rest = rest e

any_right : (kind : ReportKind) (id : ℕ) (xs ys : List Report) → list_any (is_report kind id) ys ≡ true → list_any (is_report kind id) (xs ++ ys) ≡ true
any_right kind id [] ys e = e
any_right kind id (x ∷ xs) ys e = by_case (is_report kind id x) (any_right kind id xs ys e)
  where
    by_case : (b : Bool) → list_any (is_report kind id) (xs ++ ys) ≡ true → (b || list_any (is_report kind id) (xs ++ ys)) ≡ true
    by_case true rest = refl
    by_case false rest = rest

itself : (kind : ReportKind) (id bits : ℕ) → is_report kind id (record { kind = kind; id = id; bits = bits }) ≡ true
itself kind id bits = let k : same_kind kind kind ≡ true = same_kind_itself kind in grind (arith, common_steps, nat_tests)

any_there : (fs : List Field) (kind : ReportKind) (id : ℕ) → 0 < report_bits kind id fs → list_any (is_report kind id) (report_if_any fs kind id) ≡ true
any_there fs kind id h =
    let some : nat_eq (report_bits kind id fs) 0 ≡ false = grind (arith, nat_tests) in
    rw some (ap (λ b. b || false) (itself kind id (report_bits kind id fs)))

any_in : (fs : List Field) (kind : ReportKind) (id : ℕ) → 0 < report_bits kind id fs → (from n : ℕ) → from ≤ id
    → id < from + n → list_any (is_report kind id) (flat_map (report_if_any fs kind) (numbers_from from n)) ≡ true
unfolding numbers_from
any_in fs kind id h from zero l u = absurd (omega (arith, l, u))
any_in fs kind id h from (suc n) l u =
    rw (flat_map-cons (report_if_any fs kind) from (numbers_from (from + 1) n))
    (by_case (nat_eq from id) refl (λ later. any_in fs kind id h (from + 1) n later (omega (arith, u))))
  where
    by_case : (b : Bool) → nat_eq from id ≡ b
        → (from + 1 ≤ id
        → list_any (is_report kind id) (flat_map (report_if_any fs kind) (numbers_from (from + 1) n)) ≡ true)
        → list_any (is_report kind id)
        (report_if_any fs kind from ++ flat_map (report_if_any fs kind) (numbers_from (from + 1) n)) ≡ true
    by_case true e rest = let same : id ≡ from = grind (arith, nat_tests) in any_left kind id (report_if_any fs kind from) _ (subst (λ k. list_any (is_report kind id) (report_if_any fs kind k) ≡ true) same (any_there fs kind id h))
    by_case false e rest = any_right kind id (report_if_any fs kind from) _ (rest (grind (arith, nat_tests)))

any_report : (fs : List Field) (kind : ReportKind) (id : ℕ) → 0 < report_bits kind id fs → id < 256 → list_any (is_report kind id) (reports_of fs) ≡ true
unfolding reports_of reports_of_kind
any_report fs Input id h small = any_left Input id (reports_of_kind fs Input ++ reports_of_kind fs Output) (reports_of_kind fs Feature)
    (any_left Input id (reports_of_kind fs Input) (reports_of_kind fs Output) (any_in fs Input id h 0 256 (omega arith) (omega (arith, small))))
any_report fs Output id h small = any_left Output id (reports_of_kind fs Input ++ reports_of_kind fs Output) (reports_of_kind fs Feature)
    (any_right Output id (reports_of_kind fs Input) (reports_of_kind fs Output) (any_in fs Output id h 0 256 (omega arith) (omega (arith, small))))
any_report fs Feature id h small = any_right Feature id (reports_of_kind fs Input ++ reports_of_kind fs Output) (reports_of_kind fs Feature)
    (any_in fs Feature id h 0 256 (omega arith) (omega (arith, small)))

-- the report at its own place
pub record StandsAt (rs : List Report) (kind : ReportKind) (id p : ℕ) : Type 0 where
  pub report : Report
  pub there : slice_get rs p ≡ Some report
  pub kind_is : report.kind ≡ kind
  pub id_is : report.id ≡ id

one_later : (r : Report) (rs : List Report) (kind : ReportKind) (id p : ℕ) → StandsAt rs kind id p → StandsAt (r ∷ rs) kind id (p + 1)
one_later r rs kind id p s = rw add-one (record { report = s.report; there = s.there; kind_is = s.kind_is; id_is = s.id_is })

placed : (kind : ReportKind) (id : ℕ) (rs : List Report) → list_any (is_report kind id) rs ≡ true
    → StandsAt rs kind id (report_place kind id rs)
placed kind id [] e = absurd cc
placed kind id (r ∷ rs) e = by_case (same_kind r.kind kind) (nat_eq r.id id) refl refl e (placed kind id rs)
  where
    by_case : (k n : Bool) → same_kind r.kind kind ≡ k → nat_eq r.id id ≡ n
        → ((k && n) || list_any (is_report kind id) rs) ≡ true
        → (list_any (is_report kind id) rs ≡ true → StandsAt rs kind id (report_place kind id rs))
        → StandsAt (r ∷ rs) kind id (cond (k && n) 0 (report_place kind id rs + 1))
    by_case true true k n e rest = record { report = r; there = refl; kind_is = kinds_equal r.kind kind k; id_is = grind (arith, nat_tests) }
    by_case true false k n e rest = one_later r rs kind id (report_place kind id rs) (rest e)
    by_case false m k n e rest = one_later r rs kind id (report_place kind id rs) (rest e)

-- the report of a sound field
field_report : (limits : Limits) (fs : List Field) (i : ℕ) (f : Field) → AreListed limits fs → slice_get fs i ≡ Some f → StandsAt (reports_of fs) f.kind f.id (report_place f.kind f.id (reports_of fs))
field_report limits fs i f a e =
    let sound = a.sound i f e in
    let some : 0 < report_bits f.kind f.id fs = omega (arith, up_to fs i f e, sound.some_bits) in
    placed f.kind f.id (reports_of fs) (any_report fs f.kind f.id some sound.small_id)

get_within : {A : Type 0} (xs : List A) (p : ℕ) (x : A) → slice_get xs p ≡ Some x → p < length xs
get_within [] p x e = absurd cc
get_within (y ∷ xs) zero x e = omega arith
get_within (y ∷ xs) (suc p) x e = omega (arith, get_within xs p x e)

there_at : {A : Type 0} (xs : List A) (p : ℕ) → p < length xs → (x : A) × (slice_get xs p ≡ Some x)
there_at [] p h = absurd (omega (arith, h))
there_at (y ∷ xs) zero h = (y, refl)
there_at (y ∷ xs) (suc p) h = there_at xs p (omega (arith, h))

-- what an element of a mapped list comes from
record From {A B : Type 0} (h : A → B) (xs : List A) (i : ℕ) (y : B) : Type 0 where
  pub source : A
  pub there : slice_get xs i ≡ Some source
  pub made : y ≡ h source

get_map : {A B : Type 0} (h : A → B) (xs : List A) (i : ℕ) (y : B) → slice_get (map h xs) i ≡ Some y → From h xs i y
get_map h [] i y e = absurd cc
get_map h (x ∷ xs) zero y e = record { source = x; there = refl; made = cc }
get_map h (x ∷ xs) (suc i) y e = let r = get_map h xs i y e in record { source = r.source; there = r.there; made = r.made }

map_get : {A B : Type 0} (h : A → B) (xs : List A) (i : ℕ) (x : A) → slice_get xs i ≡ Some x → slice_get (map h xs) i ≡ Some (h x)
map_get h [] i x e = absurd cc
map_get h (y ∷ xs) zero x e = let same : y ≡ x = cc in ap (λ z. Some (h z)) same
map_get h (y ∷ xs) (suc i) x e = map_get h xs i x e

length_map : {A B : Type 0} (h : A → B) (xs : List A) → length (map h xs) ≡ length xs
length_map h [] = refl
length_map h (x ∷ xs) = ap suc (length_map h xs)

-- a range with values: its least encodable value isn't over the greatest
le_of : (a b : ℤ) → int_le a b ≡ true → a ≤ℤ b
le_of a b e = record { le = T_from_true (int_le a b) e }

both_true : (a b : Bool) → (a && b) ≡ true → (a ≡ true) × (b ≡ true)
both_true true b e = (refl, e)
both_true false b e = absurd cc

least_not_over : (min : ℤ) (width : ℕ) → 0 < width → least_value min width ≤ℤ greatest_value min width
least_not_over min width h = by_sign (int_lt min (pos 0)) (one-le-pow (width - 1) 2 (omega arith)) (one-le-pow width 2 (omega arith))
  where
    by_sign : (b : Bool) → 1 ≤ 2 ^ (width - 1) → 1 ≤ 2 ^ width → cond b (neg_ℤ (pos (2 ^ (width - 1)))) (pos 0) ≤ℤ cond b (pos (2 ^ (width - 1) - 1)) (pos (2 ^ width - 1))
    by_sign true h k = omega (arith, ints, h)
    by_sign false h k = omega (arith, ints, k)

some_value : (min max : ℤ) (width : ℕ) → 0 < width → has_value min max width ≡ true → int_max min (least_value min width) ≤ℤ int_min max (greatest_value min width)
some_value min max width h e =
    let a = both_true (int_le min max) (int_le (least_value min width) max && int_le min (greatest_value min width)) e in
    let b = both_true (int_le (least_value min width) max) (int_le min (greatest_value min width)) a.1 in
    four (least_value min width) (greatest_value min width) (le_of _ _ a.0) (le_of _ _ b.0) (le_of _ _ b.1) (least_not_over min width h)
  where
    four : (l g : ℤ) → min ≤ℤ max → l ≤ℤ max → min ≤ℤ g → l ≤ℤ g → int_max min l ≤ℤ int_min max g
    four l g p q r s = omega (arith, ints, clamps, p, q, r, s)

not_high : (min max : ℤ) (width : ℕ) → 0 < width → width ≤ 32 → has_value min max width ≡ true → min ≤ℤ pos (2 ^ 32)
not_high min max width h n e =
    let a = both_true (int_le min max) (int_le (least_value min width) max && int_le min (greatest_value min width)) e in
    let b = both_true (int_le (least_value min width) max) (int_le min (greatest_value min width)) a.1 in
    under (int_lt min (pos 0)) (pow_mono n) (pow_mono (less-one n)) (le_of min (greatest_value min width) b.1)
  where
    less-one : width ≤ 32 → width - 1 ≤ 32
    less-one h = omega (arith, h)

    under : (b : Bool) → 2 ^ width ≤ 2 ^ 32 → 2 ^ (width - 1) ≤ 2 ^ 32 → min ≤ℤ cond b (pos (2 ^ (width - 1) - 1)) (pos (2 ^ width - 1)) → min ≤ℤ pos (2 ^ 32)
    under true h k e = omega (arith, ints, h, k, e)
    under false h k e = omega (arith, ints, h, k, e)

-- some bytes, and no more than any limits allow
longest : (limits : Limits) → (1 ≤ longest_report limits) × (longest_report limits ≤ 16384)
longest Bus = (omega arith, omega arith)
longest Real = (omega arith, omega arith)

-- no report is over the bits of the longest one
limit_at_most : (limits : Limits) (id : ℕ) → report_limit limits id ≤ 8 * longest_report limits
limit_at_most limits id = by_id (nat_eq id 0)
  where
    by_id : (b : Bool) → cond b (8 * longest_report limits) (8 * (longest_report limits - 1)) ≤ 8 * longest_report limits
    by_id true = omega arith
    by_id false = omega arith

few_bits : (limits : Limits) (fs : List Field) (i : ℕ) (f : Field) → AreListed limits fs → slice_get fs i ≡ Some f → f.offset + bits_of f ≤ 131072
few_bits limits fs i f a e = omega (arith, a.offsets i f e, up_to fs i f e, a.short f.kind f.id, limit_at_most limits f.id, (longest limits).1)

has_elements : (limits : Limits) (fs : List Field) (rs : List Report) (i : ℕ) (f : Field) → AreListed limits fs → slice_get fs i ≡ Some f → is_padding f.shape ≡ false → HasElements (main_item rs f)
has_elements limits fs rs i f a e p =
    let sound = a.sound i f e in
    let values = sound.values p in
    let count : f.count ≤ f.size * f.count = subst (λ n. f.count ≤ n) (mul_comm f.count f.size) (le-mul_of_pos_right f.count values.some_bits) in
    record {
      some_bits = values.some_bits;
      narrow = values.narrow;
      some = sound.some_count p;
      few = omega (arith, count, few_bits limits fs i f a e);
      some_value = some_value f.min f.max f.size values.some_bits values.value;
      not_low = sound.low;
      not_high = not_high f.min f.max f.size values.some_bits values.narrow values.value;
    }

-- a range that isn't reversed writes out some usage
some_usage : (es : List Entry) → 0 < length es → are_ranges es ≡ true → 0 < length (usage_list es)
some_usage [] h r = absurd (omega (arith, h))
some_usage (e ∷ es) h r =
    let a = both_true (nat_eq e.0.page e.1.page && nat_le e.0.id e.1.id) (list_all (λ e. nat_eq e.0.page e.1.page && nat_le e.0.id e.1.id) es) r in
    let b = both_true (nat_eq e.0.page e.1.page) (nat_le e.0.id e.1.id) a.0 in
    let up : e.0.id ≤ e.1.id = at_most e.0.id e.1.id b.1 in
    let first : length (usages_from e.0.page e.0.id (entry_count e)) ≡ entry_count e =
    usages_from-length e.0.page e.0.id (entry_count e) in
    let all : usage_list (e ∷ es) ≡ usages_from e.0.page e.0.id (entry_count e) ++ usage_list es =
    flat_map-cons (λ (e : Entry). usages_from e.0.page e.0.id (entry_count e)) e es in
    let n : length (usage_list (e ∷ es))
    ≡ length (usages_from e.0.page e.0.id (entry_count e)) + length (usage_list es) =
    ap length all ∙ length-append (usages_from e.0.page e.0.id (entry_count e)) (usage_list es) in
    omega (arith, up, first, n)
  where
    at_most : (a b : ℕ) → nat_le a b ≡ true → a ≤ b
    at_most a b h = grind (arith, common_steps, nat_tests)

-- items of one report lie apart
lie_apart : (limits : Limits) (fs : List Field) (i k : ℕ) (f g : Field) → AreListed limits fs → i < k → slice_get fs i ≡ Some f → slice_get fs k ≡ Some g
    → report_place f.kind f.id (reports_of fs) ≡ report_place g.kind g.id (reports_of fs)
    → f.offset + bits_of f ≤ g.offset
lie_apart limits fs i k f g a h e d p =
    let here = field_report limits fs i f a e in
    let there = field_report limits fs k g a d in
    let same : here.report ≡ there.report = some_same (sym here.there ∙ ap (slice_get (reports_of fs)) p ∙ there.there) in
    let kind : g.kind ≡ f.kind = sym there.kind_is ∙ sym (ap (λ (r : Report). r.kind) same) ∙ here.kind_is in
    let id : g.id ≡ f.id = sym there.id_is ∙ sym (ap (λ (r : Report). r.id) same) ∙ here.id_is in
    let offset : g.offset ≡ report_bits f.kind f.id (take k fs) = a.offsets k g d ∙ ap (λ n. report_bits g.kind n (take k fs)) id ∙ ap (λ m. report_bits m f.id (take k fs)) kind in
    omega (arith, a.offsets i f e, before_later fs i k f h e, offset)
  where
    some_same : {A : Type 0} {x y : A} → Some x ≡ Some y → x ≡ y
    some_same e = cc

bits_there : (rs : List Report) (p : ℕ) (r : Report) → slice_get rs p ≡ Some r → bits_of_report rs p ≡ r.bits
bits_there rs p r e = rw (e, bits_of_report) refl

-- a field lies inside its report
lies_inside : (limits : Limits) (fs : List Field) (numbered : Bool) (i : ℕ) (f : Field) → AreListed limits fs → slice_get fs i ≡ Some f
    → cond numbered 8 0 + (f.offset + bits_of f) ≤ 8 *
    ((bits_of_report (reports_of fs) (report_place f.kind f.id (reports_of fs)) + 7) / 8 + cond numbered 1 0)
lies_inside limits fs numbered i f a e =
    let here = field_report limits fs i f a e in
    let whole : here.report.bits ≡ report_bits f.kind f.id fs =
    (report_at fs (reports_of fs) _ here.report (all_reports fs) here.there).0 ∙ ap (λ n. report_bits here.report.kind n fs) here.id_is ∙ ap (λ k. report_bits k f.id fs) here.kind_is in
    let bits : bits_of_report (reports_of fs) (report_place f.kind f.id (reports_of fs))
    ≡ report_bits f.kind f.id fs = bits_there (reports_of fs) _ here.report here.there ∙ whole in
    by_numbers numbered (bits_of_report (reports_of fs) (report_place f.kind f.id (reports_of fs)))
    (omega (arith, bits, a.offsets i f e, up_to fs i f e))
  where
    by_numbers : (numbered : Bool) (bits : ℕ) → f.offset + bits_of f ≤ bits → cond numbered 8 0 + (f.offset + bits_of f) ≤ 8 * ((bits + 7) / 8 + cond numbered 1 0)
    by_numbers true bits h = omega (arith, h)
    by_numbers false bits h = omega (arith, h)

-- no field of these has the ID 0
none_any : {A : Type 0} (p : A → Bool) (xs : List A) (i : ℕ) (x : A) → list_any p xs ≡ false → slice_get xs i ≡ Some x → p x ≡ false
none_any p [] i x n e = absurd cc
none_any p (y ∷ xs) zero x n e = let same : y ≡ x = cc in subst (λ z. p z ≡ false) same (left_false (p y) (list_any p xs) n)
  where
    left_false : (a b : Bool) → (a || b) ≡ false → a ≡ false
    left_false true b e = absurd cc
    left_false false b e = refl
none_any p (y ∷ xs) (suc i) x n e = none_any p xs i x (right_false (p y) (list_any p xs) n) e
  where
    right_false : (a b : Bool) → (a || b) ≡ false → b ≡ false
    right_false true b e = absurd cc
    right_false false b e = e

-- the reports of fields with IDs have IDs
id_there : (fs : List Field) (r : ℕ) (report : Report) → slice_get (reports_of fs) r ≡ Some report → list_any (λ f. nat_eq f.id 0) fs ≡ false → report.id ≢ 0
id_there fs r report e none =
    let is = report_at fs (reports_of fs) r report (all_reports fs) e in
    let found = some_field report.kind report.id fs (omega (arith, is.0, is.1)) in
    let same = (id_of report.kind report.id found.0 found.3).1 in
    let not_zero : nat_eq found.0.id 0 ≡ false = none_any (λ (f : Field). nat_eq f.id 0) fs found.1 found.0 none found.2 in
    grind (arith, nat_tests, same, not_zero)

-- the reports of fields without IDs have ID 0
zero_id : (fs : List Field) (r : ℕ) (report : Report) → ((i : ℕ) (f : Field) → slice_get fs i ≡ Some f → f.id ≡ 0) → slice_get (reports_of fs) r ≡ Some report → report.id ≡ 0
zero_id fs r report zeros e =
    let is = report_at fs (reports_of fs) r report (all_reports fs) e in
    let found = some_field report.kind report.id fs (omega (arith, is.0, is.1)) in
    sym (id_of report.kind report.id found.0 found.3).1 ∙ zeros found.1 found.0 found.2

-- no report is longer than the limits allow
all_short : (limits : Limits) (fs : List Field) (numbered : Bool) (r : ℕ) → AreListed limits fs → (numbered ≡ true → list_any (λ f. nat_eq f.id 0) fs ≡ false) → (bits_of_report (reports_of fs) r + 7) / 8 + cond numbered 1 0 ≤ longest_report limits
all_short limits fs numbered r a unmixed = by_report (slice_get (reports_of fs) r) refl
  where
    with_id : (n : Bool) (id bits : ℕ) → bits ≤ report_limit limits id → (n ≡ true → id ≢ 0) → (bits + 7) / 8 + cond n 1 0 ≤ longest_report limits
    with_id false id bits h some = omega (arith, h, limit_at_most limits id)
    with_id true id bits h some =
        let not_zero : nat_eq id 0 ≡ false = let s : id ≢ 0 = some refl in grind (arith, nat_tests) in
        let limit : report_limit limits id ≡ 8 * (longest_report limits - 1) = rw not_zero refl in
        omega (arith, h, limit, (longest limits).0)

    without : (n : Bool) → (0 + 7) / 8 + cond n 1 0 ≤ longest_report limits
    without true = omega (arith, (longest limits).0)
    without false = omega arith

    by_report : (o : Option Report) → slice_get (reports_of fs) r ≡ o → (elim o [ None ↦ 0 | Some report ↦ report.bits ] + 7) / 8 + cond numbered 1 0 ≤ longest_report limits
    by_report None e = without numbered
    by_report (Some report) e =
        let is = report_at fs (reports_of fs) r report (all_reports fs) e in
        with_id numbered report.id report.bits (omega (arith, is.0, a.short report.kind report.id)) (λ n. id_there fs r report e (unmixed n))

-- a report has an item
any_at : {A : Type 0} (p : A → Bool) (xs : List A) (i : ℕ) (x : A) → slice_get xs i ≡ Some x → p x ≡ true → list_any p xs ≡ true
any_at p [] i x e h = absurd cc
any_at p (y ∷ xs) zero x e h = let same : y ≡ x = cc in ap (λ z. p z || list_any p xs) same ∙ ap (λ b. b || list_any p xs) h
any_at p (y ∷ xs) (suc i) x e h = ap (λ b. p y || b) (any_at p xs i x e h) ∙ or_true (p y)
  where
    or_true : (b : Bool) → (b || true) ≡ true
    or_true true = refl
    or_true false = refl

has_item : (limits : Limits) (fs : List Field) (r : ℕ) (report : Report) → AreListed limits fs → slice_get (reports_of fs) r ≡ Some report → list_any (λ (item : MainItem). nat_eq item.report r) (map (main_item (reports_of fs)) fs) ≡ true
has_item limits fs r report a e =
    let is = report_at fs (reports_of fs) r report (all_reports fs) e in
    let found = some_field report.kind report.id fs (omega (arith, is.0, is.1)) in
    let named = id_of report.kind report.id found.0 found.3 in
    let here = field_report limits fs found.1 found.0 a found.2 in
    let at : report_place found.0.kind found.0.id (reports_of fs) ≡ r =
    one_place fs _ r here.report report here.there e (here.kind_is ∙ named.0) (here.id_is ∙ named.1) in
    any_at (λ (item : MainItem). nat_eq item.report r) (map (main_item (reports_of fs)) fs) found.1 (main_item (reports_of fs) found.0) (map_get (main_item (reports_of fs)) fs found.1 found.0 found.2) (grind (arith, nat_tests, at))

-- the layout of these fields
pub well_formed : (limits : Limits) (fs : List Field) (numbered : Bool) → AreListed limits fs → (numbered ≡ true → list_any (λ f. nat_eq f.id 0) fs ≡ false) → (numbered ≡ false → (i : ℕ) (f : Field) → slice_get fs i ≡ Some f → f.id ≡ 0)
    → IsLayout (contents_of fs numbered)
well_formed limits fs numbered a unmixed zeros = record {
  entries_there = length_map (λ (f : Field). f.entries) fs ∙ sym (length_map (main_item (reports_of fs)) fs);
  few_entries = λ i es e.
      let f = get_map (λ (f : Field). f.entries) fs i es e in
      subst (λ (l : List Entry). length l ≤ 64) (sym f.made) (a.sound i f.source f.there).few_entries;
  some_usage = λ i item es e d p.
      let f = get_map (main_item (reports_of fs)) fs i item e in
      let g = get_map (λ (f : Field). f.entries) fs i es d in
      let same : g.source ≡ f.source = one_value (sym g.there ∙ f.there) in
      let padding : is_padding f.source.shape ≡ false = sym (ap (λ (m : MainItem). is_padding m.shape) f.made) ∙ p in
      let sound = a.sound i f.source f.there in
      subst (λ (l : List Entry). 0 < length (usage_list l)) (sym (g.made ∙ ap (λ (h : Field). h.entries) same)) (some_usage f.source.entries (sound.some_entries padding) (sound.values padding).ranges);
  report_there = λ i item e.
      let f = get_map (main_item (reports_of fs)) fs i item e in
      let here = field_report limits fs i f.source a f.there in
      subst (λ (m : MainItem). m.report < length (reports_of fs)) (sym f.made) (get_within (reports_of fs) _ here.report here.there);
  item_there = λ r within. let report = there_at (reports_of fs) r within in has_item limits fs r report.0 a report.1;
  elements = λ i item e p.
      let f = get_map (main_item (reports_of fs)) fs i item e in
      let padding : is_padding f.source.shape ≡ false = sym (ap (λ (m : MainItem). is_padding m.shape) f.made) ∙ p in
      subst HasElements (sym f.made) (has_elements limits fs (reports_of fs) i f.source a f.there padding);
  apart = λ i k x y h e d p.
      let f = get_map (main_item (reports_of fs)) fs i x e in
      let g = get_map (main_item (reports_of fs)) fs k y d in
      let same : report_place f.source.kind f.source.id (reports_of fs)
      ≡ report_place g.source.kind g.source.id (reports_of fs) =
      sym (ap (λ (m : MainItem). m.report) f.made) ∙ p ∙ ap (λ (m : MainItem). m.report) g.made in
      subst (λ (m : MainItem). m.offset + m.size * m.count ≤ y.offset) (sym f.made) (subst (λ (m : MainItem). f.source.offset + bits_of f.source ≤ m.offset) (sym g.made) (lie_apart limits fs i k f.source g.source a h f.there g.there same));
  inside = λ i item e.
      let f = get_map (main_item (reports_of fs)) fs i item e in
      subst (λ (m : MainItem). first_bit (contents_of fs numbered) + (m.offset + m.size * m.count) ≤ 8 * report_bytes (contents_of fs numbered) m.report) (sym f.made) (lies_inside limits fs numbered i f.source a f.there);
  short = λ r. omega (arith, all_short limits fs numbered r a unmixed, (longest limits).1);
  one_place = λ r k x y e d kinds ids. one_place fs r k x y e d kinds ids;
  byte_id = λ r report e. byte_id fs r report e;
  unnumbered = λ r report n e. zero_id fs r report (zeros n) e;
}
  where
    one_value : {A : Type 0} {x y : A} → Some x ≡ Some y → x ≡ y
    one_value e = cc

-- accepted items give a layout
all_and_last : (items : List EncodedItem) (item : EncodedItem) → All IsItemEncoding (items ++ item ∷ []) → All IsItemEncoding items × IsItemEncoding item
all_and_last [] item all = (All-nil IsItemEncoding, All-head IsItemEncoding item [] all)
all_and_last (first ∷ items) item all =
    let rest = all_and_last items item (All-tail IsItemEncoding first (items ++ item ∷ []) all) in
    (All-cons IsItemEncoding first items (All-head IsItemEncoding first (items ++ item ∷ []) all) rest.0, rest.1)

encoded_before : (before : List EncodedItem) → All IsItemEncoding (reverse before) → AreSpelled before
encoded_before [] all = tt
encoded_before (item ∷ before) all =
    let split = all_and_last (reverse before) item (subst (All IsItemEncoding) (reverse_more before item) all) in
    (split.1, encoded_before before split.0)

pub layout_of_accepted : (limits : Limits) (bytes : List ℕ) (before : List EncodedItem) → Accepts limits bytes before → IsLayout (layout_of before)
layout_of_accepted limits bytes before a =
    well_formed limits (fields before) (list_any (is REPORT_ID) before) (listed limits before a.reaches.accepted (encoded_before before a.reaches.items.encoded)) (λ n. mixed_not (list_any (is REPORT_ID) before) (list_any (λ f. nat_eq f.id 0) (fields before)) n a.unmixed)
    (λ n. fields_unnumbered before n)
  where
    mixed_not : (n b : Bool) → n ≡ true → (n && b) ≡ false → b ≡ false
    mixed_not true b t e = e
    mixed_not false b t e = absurd cc

-- no report of an accepted descriptor is longer than the limits allow
pub accepted_keeps : (limits : Limits) (bytes : List ℕ) (before : List EncodedItem) → Accepts limits bytes before → KeepsTo limits (layout_of before)
accepted_keeps limits bytes before a r =
    all_short limits (fields before) (list_any (is REPORT_ID) before) r (listed limits before a.reaches.accepted (encoded_before before a.reaches.items.encoded)) (λ n. mixed_not (list_any (is REPORT_ID) before) (list_any (λ f. nat_eq f.id 0) (fields before)) n a.unmixed)
  where
    mixed_not : (n b : Bool) → n ≡ true → (n && b) ≡ false → b ≡ false
    mixed_not true b t e = e
    mixed_not false b t e = absurd cc
