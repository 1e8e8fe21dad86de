-- The reports of a layout differ in kind or ID, and have ID 0 where no item sets one.
use Rattle.std.proofs.Common.{◌≡◌, ℕ, zero, suc, ◌+◌, ◌*◌, ◌<◌, ◌≤◌, Bool, true, false, cond, ◌||◌, ◌&&◌, List, length, [], ◌∷◌, ◌++◌, append_assoc, append-nil, refl, sym, ap, ◌∙◌, subst, arith, nat_eq, Some}
use Rattle.std.specs.Prelude.{◌⊎◌}
use mathlib.Core.Logic.{inl, inr}
use Rattle.std.specs.List.{slice_get, list_any, flat_map}
use Rattle.std.proofs.lemmas.List.Concat.{flat_map-cons}
use Rattle.std.proofs.lemmas.Bool.{cases_lt}
use Rattle.hid_items.specs.ItemEncoding.{data_of, unsigned_of}
use Rattle.hid_report_descriptor.specs.declared.report.Report.{Report}
use Rattle.hid_report_descriptor.specs.declared.report.ReportKind.{ReportKind}
use Rattle.hid_report_descriptor.specs.declared.report.ReportKind.TheVariants.{Input, Output, Feature}
use Rattle.hid_report_descriptor.specs.Kinds.{rank}
use Rattle.hid_report_descriptor.specs.Items.{EncodedItem, is, is_field, PUSH, POP, REPORT_ID}
use Rattle.hid_report_descriptor.specs.Matching.{waiting_after}
use Rattle.hid_report_descriptor.specs.Globals.{look_back}
use Rattle.hid_report_descriptor.specs.Fields.{Field, bits_of, report_bits, field_of, add_field, fields}
use Rattle.hid_report_descriptor.specs.Faults.{numbers_from}
use Rattle.hid_report_descriptor.specs.Reporting.{report_if_any, reports_of_kind, reports_of}
use Rattle.hid_report_descriptor.proofs.Places.{get_left}
use Rattle.hid_report_descriptor.proofs.ListedLemmas.{get_end}

-- the order in which reports are listed
abbrev key : Report → ℕ
key r = 256 * rank r.kind + r.id

-- these reports stand in that order, from one on
AreRising : ℕ → List Report → Type 0
AreRising low [] = Unit {0}
AreRising low (r ∷ rs) = (low ≤ key r) × (r.id < 256) × AreRising (key r + 1) rs

from_lower : (low high : ℕ) (rs : List Report) → low ≤ high → AreRising high rs → AreRising low rs
unfolding AreRising
from_lower low high [] h a = tt
from_lower low high (r ∷ rs) h a = let first = a.0 in (omega arith, a.1, a.2)

kind_rises : (fs : List Field) (kind : ReportKind) (from n : ℕ) (rest : List Report) → from + n ≤ 256 → AreRising (256 * rank kind + (from + n)) rest
    → AreRising (256 * rank kind + from) (flat_map (report_if_any fs kind) (numbers_from from n) ++ rest)
unfolding numbers_from AreRising
kind_rises fs kind from zero rest few a = from_lower (256 * rank kind + from) (256 * rank kind + (from + 0)) rest (omega arith) a
kind_rises fs kind from (suc n) rest few a =
    rw (
      flat_map-cons (report_if_any fs kind) from (numbers_from (from + 1) n),
      append_assoc (report_if_any fs kind from) (flat_map (report_if_any fs kind) (numbers_from (from + 1) n)) rest,
    )
    (by_bits (nat_eq (report_bits kind from fs) 0) (kind_rises fs kind (from + 1) n rest (omega arith) (let e : from + suc n ≡ (from + 1) + n = omega arith in subst (λ (k : ℕ). AreRising (256 * rank kind + k) rest) e a)))
  where
    behind : List Report
    behind = flat_map (report_if_any fs kind) (numbers_from (from + 1) n) ++ rest

    by_bits : (b : Bool) → AreRising (256 * rank kind + (from + 1)) behind → AreRising (256 * rank kind + from) (cond b [] (record { kind = kind; id = from; bits = report_bits kind from fs } ∷ []) ++ behind)
    by_bits true more = from_lower (256 * rank kind + from) (256 * rank kind + (from + 1)) behind (omega arith) more
    by_bits false more = (omega arith, omega arith, from_lower ((256 * rank kind + from) + 1) (256 * rank kind + (from + 1)) behind (omega arith) more)

all_rise : (fs : List Field) → AreRising 0 (reports_of fs)
unfolding AreRising reports_of reports_of_kind
all_rise fs =
    let input = reports_of_kind fs Input in
    let output = reports_of_kind fs Output in
    let feature = reports_of_kind fs Feature in
    let whole : (input ++ output) ++ feature ≡ input ++ (output ++ (feature ++ [])) = append_assoc input output feature ∙ ap (λ (l : List Report). input ++ (output ++ l)) (sym (append-nil feature)) in
    rw whole (kind_rises fs Input 0 256 (output ++ (feature ++ [])) (omega arith) (kind_rises fs Output 0 256 (feature ++ []) (omega arith) (kind_rises fs Feature 0 256 [] (omega arith) tt)))

key_over : (low : ℕ) (rs : List Report) (k : ℕ) (r : Report) → AreRising low rs → slice_get rs k ≡ Some r → (low ≤ key r) × (r.id < 256)
unfolding AreRising
key_over low [] k r a e = absurd (cc)
key_over low (x ∷ rs) zero r a e = let same : x ≡ r = cc in subst (λ (y : Report). (low ≤ key y) × (y.id < 256)) same (a.0, a.1)
key_over low (x ∷ rs) (suc k) r a e = let rest = key_over (key x + 1) rs k r a.2 e in let first = a.0 in let later = rest.0 in (omega arith, rest.1)

key_rises : (low : ℕ) (rs : List Report) (i k : ℕ) (a b : Report) → AreRising low rs → i < k → slice_get rs i ≡ Some a → slice_get rs k ≡ Some b → key a < key b
unfolding AreRising
key_rises low [] i k a b h lt e f = absurd (cc)
key_rises low (x ∷ rs) i zero a b h lt e f = absurd (omega arith)
key_rises low (x ∷ rs) zero (suc k) a b h lt e f =
    let same : x ≡ a = cc in
    let later = (key_over (key x + 1) rs k b h.2 f).0 in
    subst (λ (y : Report). key y < key b) same (omega arith)
key_rises low (x ∷ rs) (suc i) (suc k) a b h lt e f = key_rises (key x + 1) rs i k a b h.2 (omega arith) e f

-- no two reports have the same kind and ID
pub one_place : (fs : List Field) (i k : ℕ) (a b : Report) → slice_get (reports_of fs) i ≡ Some a → slice_get (reports_of fs) k ≡ Some b → a.kind ≡ b.kind → a.id ≡ b.id → i ≡ k
one_place fs i k a b e f kinds ids =
    let same : key a ≡ key b = rw (kinds, ids) refl in
    elim (cases_lt i k) [
      | inl lt ↦ absurd (omega (arith, key_rises 0 (reports_of fs) i k a b (all_rise fs) lt e f, same))
      | inr ge ↦ elim (cases_lt k i) [
        | inl lt ↦ absurd (omega (arith, key_rises 0 (reports_of fs) k i b a (all_rise fs) lt f e, same))
        | inr le ↦ omega arith
      ]
    ]

-- an ID takes a byte
pub byte_id : (fs : List Field) (i : ℕ) (r : Report) → slice_get (reports_of fs) i ≡ Some r → r.id < 256
byte_id fs i r e = (key_over 0 (reports_of fs) i r (all_rise fs) e).1

none_set : (waiting : ℕ) (before : List EncodedItem) → list_any (is REPORT_ID) before ≡ false → look_back REPORT_ID waiting before ≡ []
none_set waiting [] none = refl
none_set waiting (item ∷ before) none = by_item (is REPORT_ID item) (nat_eq waiting 0) none (λ rest. none_set (waiting_after PUSH POP waiting item) before rest)
  where
    by_item : (b w : Bool) → (b || list_any (is REPORT_ID) before) ≡ false → (list_any (is REPORT_ID) before ≡ false → look_back REPORT_ID (waiting_after PUSH POP waiting item) before ≡ [])
        → cond (w && b) (data_of item) (look_back REPORT_ID (waiting_after PUSH POP waiting item) before) ≡ []
    by_item true w e rest = absurd (cc)
    by_item false true e rest = rest e
    by_item false false e rest = rest e

-- where no item sets a report ID, no field has one
pub fields_unnumbered : (before : List EncodedItem) → list_any (is REPORT_ID) before ≡ false → (i : ℕ) (f : Field) → slice_get (fields before) i ≡ Some f → f.id ≡ 0
unfolding add_field
fields_unnumbered [] none i f e = absurd (cc)
fields_unnumbered (item ∷ before) none i f e = by_field (is_field item) (nat_eq (bits_of field) 0) (fields_unnumbered before rest i f) e
  where
    field : Field
    field = field_of (fields before) before item

    rest : list_any (is REPORT_ID) before ≡ false
    rest = by_item (is REPORT_ID item) none
      where
        by_item : (b : Bool) → (b || list_any (is REPORT_ID) before) ≡ false → list_any (is REPORT_ID) before ≡ false
        by_item true h = absurd (cc)
        by_item false h = h

    at_end : (slice_get (fields before) i ≡ Some f → f.id ≡ 0) → (i < length (fields before)) ⊎ ((i ≡ length (fields before)) × (f ≡ field)) → slice_get (fields before ++ field ∷ []) i ≡ Some f → f.id ≡ 0
    at_end so_far (inl lt) there = so_far (sym (get_left (fields before) (field ∷ []) i lt) ∙ there)
    at_end so_far (inr last) there = ap (λ (g : Field). g.id) last.1 ∙ ap unsigned_of (none_set 0 before rest)

    by_field : (b z : Bool) → (slice_get (fields before) i ≡ Some f → f.id ≡ 0) → slice_get (cond b (cond z (fields before) (fields before ++ field ∷ [])) (fields before)) i ≡ Some f → f.id ≡ 0
    by_field false z so_far there = so_far there
    by_field true true so_far there = so_far there
    by_field true false so_far there = at_end so_far (get_end (fields before) field i f there) there
