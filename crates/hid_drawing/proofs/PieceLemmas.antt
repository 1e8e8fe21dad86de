-- Where the fields of an item end.
use Rattle.std.proofs.Common.{◌≡◌, ℕ, ◌+◌, ◌≤◌, Bool, true, false, nat_lt, not, cond, Option, None, Some, arith, refl, subst, ap, List}
use Rattle.std.specs.Prelude.{slice_get, ◌&&◌}
use Rattle.std.proofs.Math.Nat.{mul-le-mul_left}
use Rattle.std.proofs.lemmas.Bool.{and_parts, ltb-true}
use Rattle.hid_report_descriptor.specs.declared.report.Report.{Report}
use Rattle.hid_report_descriptor.specs.Fields.{is_padding}
use Rattle.hid_layout.specs.declared.main_item.MainItem.{MainItem}
use Rattle.hid_layout.specs.declared.main_item.Element.{Element}
use Rattle.hid_layout.specs.Layout.{Contents}
use Rattle.hid_layout.specs.Reports.{IsLayout, first_bit, bits_of, field_at, element_in, element_of}
use Rattle.hid_drawing.specs.Pieces.{SliceLiesIn}

pub item_lies : (layout : Contents) (i : ℕ) (item : MainItem) → IsLayout layout → slice_get layout.items i ≡ Some item
    → SliceLiesIn layout item
item_lies layout i item h at = omega (arith, h.inside i item at, h.short item.report)

some_if : {A : Type 0} (b : Bool) (x y : A) → cond b (Some x) None ≡ Some y → (b ≡ true) × (x ≡ y)
some_if true x y e = (refl, cc)
some_if false x y e = cc

field_ends : (layout : Contents) (j : ℕ) (item : MainItem) (element : Element) → SliceLiesIn layout item
    → element_in item j ≡ Some element → (first_bit layout + element.bit) + element.width ≤ 131072
field_ends layout j item element lies e =
    let found = some_if (not (is_padding item.shape) && nat_lt j item.count) (field_at item j) element e in
    let tests = and_parts (not (is_padding item.shape)) (nat_lt j item.count) found.0 in
    let below = ltb-true j item.count tests.1 in
    let ends = mul-le-mul_left item.size (let more : j + 1 ≤ item.count = omega (arith, below) in more) in
    subst (λ (x : Element). (first_bit layout + x.bit) + x.width ≤ 131072) found.1 (omega (arith, lies, ends))

pub element_ends : (layout : Contents) (i j : ℕ) (item : MainItem) (element : Element) → slice_get layout.items i ≡ Some item
    → SliceLiesIn layout item → element_of layout i j ≡ Some element
    → (first_bit layout + element.bit) + element.width ≤ 131072
element_ends layout i j item element at lies e =
    field_ends layout j item element lies (rw at at e)

pub bits_at : (reports : List Report) (r : ℕ) (report : Report) → slice_get reports r ≡ Some report
    → bits_of reports r ≡ report.bits
bits_at reports r report at = ap (λ (o : Option Report). elim o [ None ↦ 0 | Some found ↦ found.bits ]) at

pub report_short : (layout : Contents) (r : ℕ) (report : Report) → IsLayout layout → slice_get layout.reports r ≡ Some report
    → report.bits ≤ 131072
report_short layout r report h at = omega (arith, h.short r, bits_at layout.reports r report at)
