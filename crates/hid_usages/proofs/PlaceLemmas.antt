-- Elements begin in their reports, which are short.
use Rattle.std.proofs.Common.{◌≡◌, ℕ, ◌+◌, ◌*◌, ◌<◌, ◌≤◌, Bool, true, false, nat_lt, not, cond, Option, None, Some, arith, refl, subst}
use Rattle.std.specs.Prelude.{slice_get, ◌&&◌}
use Rattle.std.specs.Option.{option_and_then}
use Rattle.std.proofs.Math.Nat.{mul-le-mul_left}
use Rattle.std.proofs.lemmas.Bool.{and_parts, ltb-true}
use Rattle.hid_report_descriptor.specs.Fields.{is_padding}
use Rattle.hid_layout.specs.Layout.{Contents}
use Rattle.hid_layout.specs.declared.main_item.MainItem.{MainItem}
use Rattle.hid_layout.specs.declared.main_item.Element.{Element}
use Rattle.hid_layout.specs.Reports.{IsLayout, field_at, element_in, element_of}

begins : (offset size count j : ℕ) → j < count → offset + j * size ≤ offset + size * count
begins offset size count j below = omega (arith, mul-le-mul_left size (let more : j ≤ count = omega arith in more))

there : {A : Type 0} (b : Bool) (x y : A) → cond b (Some x) None ≡ Some y → (b ≡ true) × (x ≡ y)
there true x y e = (refl, cc)
there false x y e = cc

in_item : (layout : Contents) (i j : ℕ) (item : Option MainItem) (element : Element) → IsLayout layout → slice_get layout.items i ≡ item
    → option_and_then (λ found. element_in found j) item ≡ Some element → element.bit ≤ 131072
in_item layout i j None element h at e = cc
in_item layout i j (Some item) element h at e =
    let found = there (not (is_padding item.shape) && nat_lt j item.count) (field_at item j) element e in
    let tests = and_parts (not (is_padding item.shape)) (nat_lt j item.count) found.0 in
    let inside = h.inside i item at in let short = h.short item.report in
    let first = begins item.offset item.size item.count j (ltb-true j item.count tests.1) in
    subst (λ (x : Element). x.bit ≤ 131072) found.1 (omega (arith, inside, short, first))

-- a data element begins in the bits of the longest report
pub bit_short : (layout : Contents) (i j : ℕ) (element : Element) → IsLayout layout → element_of layout i j ≡ Some element → element.bit ≤ 131072
bit_short layout i j element h e = in_item layout i j (slice_get layout.items i) element h refl e
