-- Where the elements of a report lie.
use Rattle.std.proofs.Common.{◌≡◌, ℕ, ◌+◌, ◌*◌, ◌<◌, ◌≤◌, Bool, true, false, nat_lt, not, cond, Option, None, Some, Result, OnOk, ℤ, List, [], ◌++◌, length, get_or, arith, refl, sym, ap, ◌∙◌, subst, IfSome}
use Rattle.std.specs.Prelude.{slice_get, is_some, ◌&&◌, IsSomeAnd}
use Rattle.std.specs.Option.{option_and_then}
use Rattle.std.proofs.Math.Nat.{mul-le-mul_left}
use Rattle.std.proofs.lemmas.Bool.{and_parts, ltb-true, not-true, cond-true, cond-false, eq-eqb, ne_eqb}
use Rattle.std.proofs.lemmas.Option.{slice_get-get_or}
use Rattle.std.specs.declared.alloc.AllocError.{AllocError}
use Rattle.hid_report_descriptor.specs.declared.usage.Usage.{Usage}
use Rattle.hid_layout.specs.declared.main_item.MainItem.{MainItem}
use Rattle.hid_layout.specs.declared.main_item.Element.{Element}
use Rattle.hid_report_descriptor.specs.Fields.{is_padding}
use Rattle.hid_layout.specs.Layout.{Contents}
use Rattle.hid_report_descriptor.specs.Usages.{Entry, usage_list}
use Rattle.hid_usages.specs.Reading.{IsInside, element_number}
use Rattle.hid_notation.specs.Text.{concat_below}
use Rattle.hid_text.specs.ValuesText.{usage_shown, value_line, value_at, element_line, values_in, values_at}
use Rattle.hid_layout.specs.Reports.{IsLayout, report_bytes, field_at, element_in, element_of}

-- what stands in a list that is the same
pub same_stands : {A : Type 0} (xs ys : List A) (i : ℕ) (d : A) → ys ≡ xs → i < length xs → slice_get xs i ≡ Some (get_or ys i d)
same_stands xs ys i d is below = slice_get-get_or xs i d below ∙ ap (λ l. Some (get_or l i d)) (sym is)

end_of_field : (offset size count j : ℕ) → j < count → offset + j * size + size ≤ offset + size * count
end_of_field offset size count j below = omega (arith, mul-le-mul_left size (let more : j + 1 ≤ count = omega arith in more))

some_if : {A : Type 0} (b : Bool) (x y : A) → cond b (Some x) None ≡ Some y → (b ≡ true) × (x ≡ y)
some_if true x y e = (refl, cc)
some_if false x y e = cc

field_lies : (layout : Contents) (bytes : List ℕ) (i j : ℕ) (item : MainItem) (element : Element) → IsLayout layout → slice_get layout.items i ≡ Some item → report_bytes layout item.report ≤ length bytes
    → element_in item j ≡ Some element → IsInside layout bytes element
field_lies layout bytes i j item element h at enough e =
    let found = some_if (not (is_padding item.shape) && nat_lt j item.count) (field_at item j) element e in
    let tests = and_parts (not (is_padding item.shape)) (nat_lt j item.count) found.0 in
    let fields = h.elements i item at (not-true (is_padding item.shape) tests.0) in
    let inside = h.inside i item at in
    let ends = end_of_field item.offset item.size item.count j (ltb-true j item.count tests.1) in
    subst (IsInside layout bytes) found.1 (fields.some_bits, fields.narrow, omega (arith, inside, ends, enough))

element_found : (layout : Contents) (bytes : List ℕ) (i j : ℕ) (item : Option MainItem) (element : Element) → IsLayout layout → slice_get layout.items i ≡ item → IfSome item (λ found. report_bytes layout found.report ≤ length bytes)
    → option_and_then (λ found. element_in found j) item ≡ Some element → IsInside layout bytes element
element_found layout bytes i j None element h at enough e = cc
element_found layout bytes i j (Some item) element h at enough e = field_lies layout bytes i j item element h at enough e

-- an element that is there lies in the bytes of its report
pub element_lies : (layout : Contents) (bytes : List ℕ) (i j : ℕ) (o : Option Element) → IsLayout layout → IfSome (slice_get layout.items i) (λ item. report_bytes layout item.report ≤ length bytes)
    → element_of layout i j ≡ o → is_some o ≡ true → IsSomeAnd o (IsInside layout bytes)
element_lies layout bytes i j None h enough e some = absurd (cc)
element_lies layout bytes i j (Some element) h enough e some = element_found layout bytes i j (slice_get layout.items i) element h refl enough e

-- the line of an element that is there
pub value_found : (layout : Contents) (bytes : List ℕ) (i j : ℕ) (items : List MainItem) (d : MainItem) (entries : List Entry) (element : Element) → items ≡ layout.items → i < length layout.items → slice_get layout.entries i ≡ Some entries
    → element_of layout i j ≡ Some element → value_at layout bytes i j ≡ element_line layout bytes i j (get_or items i d) (usage_list entries) (Some element)
unfolding value_at
value_found layout bytes i j items d entries element is below stands e =
    let at = same_stands layout.items items i d is below in
    let found : element_in (get_or items i d) j ≡ Some element = sym (ap (option_and_then (λ x. element_in x j)) at) ∙ e in
    rw (at, stands, found) refl

-- what was added is that line
pub value_printed : (layout : Contents) (bytes : List ℕ) (i j : ℕ) (items : List MainItem) (d : MainItem) (entries : List Entry) (o : Option Element) (number : ℤ) (usage : Option Usage) (r : Result (Unit {0}) AllocError) (old new : List ℕ)
    → items ≡ layout.items → i < length layout.items → slice_get layout.entries i ≡ Some entries → element_of layout i j ≡ o → is_some o ≡ true
    → IfSome o (λ element. number ≡ element_number layout bytes element) → usage ≡ usage_shown (get_or items i d).shape (get_or items i d) (usage_list entries) j number
    → OnOk r (new ≡ old ++ value_line i j number usage) → OnOk r (new ≡ old ++ value_at layout bytes i j)
value_printed layout bytes i j items d entries None number usage r old new is below stands e some number-is usage-is h = absurd (cc)
value_printed layout bytes i j items d entries (Some element) number usage r old new is below stands e some number-is usage-is h =
    rw (value_found layout bytes i j items d entries element is below stands e) (rw (usage-is, number-is) at h)

-- of an item that stands in the report the bytes are long enough
pub item_whole : (layout : Contents) (bytes : List ℕ) (r i : ℕ) (items : List MainItem) (d : MainItem) → items ≡ layout.items → i < length layout.items → (get_or items i d).report ≡ r → report_bytes layout r ≤ length bytes
    → IfSome (slice_get layout.items i) (λ item. report_bytes layout item.report ≤ length bytes)
item_whole layout bytes r i items d is below in_it enough = rw (same_stands layout.items items i d is below, in_it) enough

-- its lines, and none of an item that stands elsewhere
pub values_found : (layout : Contents) (bytes : List ℕ) (r i : ℕ) (items : List MainItem) (d : MainItem) → items ≡ layout.items → i < length layout.items → (get_or items i d).report ≡ r
    → values_at layout r bytes i ≡ concat_below (get_or items i d).count (value_at layout bytes i)
unfolding values_at
values_found layout bytes r i items d is below in_it =
    ap (values_in layout r bytes i) (same_stands layout.items items i d is below) ∙ cond-true _ _ _ (eq-eqb (get_or items i d).report r in_it)

pub values_elsewhere : (layout : Contents) (bytes : List ℕ) (r i : ℕ) (items : List MainItem) (d : MainItem) → items ≡ layout.items → i < length layout.items → ((get_or items i d).report ≡ r → ⊥)
    → values_at layout r bytes i ≡ []
unfolding values_at
values_elsewhere layout bytes r i items d is below other =
    ap (values_in layout r bytes i) (same_stands layout.items items i d is below) ∙ cond-false _ _ _ (ne_eqb (get_or items i d).report r other)
