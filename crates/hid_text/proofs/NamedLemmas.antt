-- The lines of a layout and of values, with names.
use Rattle.std.proofs.Common.{◌≡◌, ℕ, ◌<◌, Bool, true, Option, None, Some, Result, OnOk, ℤ, List, [], ◌++◌, length, get_or, append_assoc, sym, ap, ◌∙◌, IfSome, refl}
use Rattle.std.specs.Prelude.{slice_get, is_some}
use Rattle.std.specs.Option.{option_and_then}
use Rattle.std.proofs.lemmas.Bool.{cond-true, cond-false, eq-eqb, ne_eqb}
use Rattle.std.specs.declared.alloc.AllocError.{AllocError}
use Rattle.hid_report_descriptor.specs.declared.collection.Collection.{Collection}
use Rattle.hid_report_descriptor.specs.declared.report.Report.{Report}
use Rattle.hid_report_descriptor.specs.declared.usage.Usage.{Usage}
use Rattle.hid_report_descriptor.specs.Usages.{Entry, usage_list}
use Rattle.hid_layout.specs.declared.main_item.MainItem.{MainItem}
use Rattle.hid_layout.specs.declared.main_item.Element.{Element}
use Rattle.hid_layout.specs.Layout.{Contents}
use Rattle.hid_layout.specs.Reports.{IsLayout, element_in, element_of}
use Rattle.hid_usages.specs.Reading.{element_number}
use Rattle.hid_notation.specs.Text.{concat_below}
use Rattle.hid_text.specs.LayoutText.{report_text_at}
use Rattle.hid_text.specs.ValuesText.{usage_shown}
use Rattle.hid_text.specs.NamedText.{named_item, named_item_at, named_lines, named_value, named_value_at, named_element, named_values_in, named_values_at}
use Rattle.hid_text.proofs.ValueLemmas.{same_stands}
use Rattle.hid_text.proofs.LayoutLemmas.{report_of_item}

-- a layout's lines are those of its reports and of its items
pub named_lines_whole : (layout : Contents) (n : ℕ) (old new : List ℕ) → n ≡ length layout.items
    → new ≡ (old ++ concat_below (length layout.reports) (λ r. report_text_at layout r (slice_get layout.reports r)))
    ++ concat_below n (λ i. named_item_at layout i (slice_get layout.items i))
    → new ≡ old ++ named_lines layout
unfolding named_lines
named_lines_whole layout n old new all is = is ∙ rw all (append_assoc old _ _)

-- what was added is the item's line
pub named_item_printed : (layout : Contents) (i : ℕ) (items : List MainItem) (d : MainItem) (reports : List Report) (e : Report) (entries : List Entry) (path : List Collection) (r : Result (Unit {0}) AllocError) (old new : List ℕ)
    → IsLayout layout → items ≡ layout.items → reports ≡ layout.reports → i < length layout.items → slice_get layout.entries i ≡ Some entries → slice_get layout.paths i ≡ Some path
    → OnOk r (new ≡ old ++ named_item i (get_or reports (get_or items i d).report e) (get_or items i d) entries path)
    → OnOk r (new ≡ old ++ named_item_at layout i (slice_get layout.items i))
named_item_printed layout i items d reports e entries path r old new laid is same below stands ends h =
    let at = same_stands layout.items items i d is below in
    let in_report = same_stands layout.reports reports (get_or items i d).report e same (report_of_item layout i items d laid is below) in
    rw (at, in_report, stands, ends) h

-- the line of an element that is there
named_value_found : (layout : Contents) (bytes : List ℕ) (i j : ℕ) (items : List MainItem) (d : MainItem) (entries : List Entry) (element : Element) → items ≡ layout.items → i < length layout.items → slice_get layout.entries i ≡ Some entries
    → element_of layout i j ≡ Some element → named_value_at layout bytes i j ≡ named_element layout bytes i j (get_or items i d) (usage_list entries) (Some element)
unfolding named_value_at
named_value_found layout bytes i j items d entries element is below stands e =
    let at = same_stands layout.items items i d is below in
    let found : element_in (get_or items i d) j ≡ Some element = sym (ap (option_and_then (λ x. element_in x j)) at) ∙ e in
    rw (at, stands, found) refl

-- what was added is that line
pub named_value_printed : (layout : Contents) (bytes : List ℕ) (i j : ℕ) (items : List MainItem) (d : MainItem) (entries : List Entry) (o : Option Element) (number : ℤ) (usage : Option Usage) (r : Result (Unit {0}) AllocError) (old new : List ℕ)
    → items ≡ layout.items → i < length layout.items → slice_get layout.entries i ≡ Some entries → element_of layout i j ≡ o → is_some o ≡ true
    → IfSome o (λ element. number ≡ element_number layout bytes element) → usage ≡ usage_shown (get_or items i d).shape (get_or items i d) (usage_list entries) j number
    → OnOk r (new ≡ old ++ named_value i j number usage) → OnOk r (new ≡ old ++ named_value_at layout bytes i j)
named_value_printed layout bytes i j items d entries None number usage r old new is below stands e some number-is usage-is h = absurd (cc)
named_value_printed layout bytes i j items d entries (Some element) number usage r old new is below stands e some number-is usage-is h =
    rw (named_value_found layout bytes i j items d entries element is below stands e) (rw (usage-is, number-is) at h)

-- the lines of an item of the report, and none of one that stands elsewhere
pub named_values_found : (layout : Contents) (bytes : List ℕ) (r i : ℕ) (items : List MainItem) (d : MainItem) → items ≡ layout.items → i < length layout.items → (get_or items i d).report ≡ r
    → named_values_at layout r bytes i ≡ concat_below (get_or items i d).count (named_value_at layout bytes i)
unfolding named_values_at
named_values_found layout bytes r i items d is below in_it =
    ap (named_values_in layout r bytes i) (same_stands layout.items items i d is below) ∙ cond-true _ _ _ (eq-eqb (get_or items i d).report r in_it)

pub named_values_elsewhere : (layout : Contents) (bytes : List ℕ) (r i : ℕ) (items : List MainItem) (d : MainItem) → items ≡ layout.items → i < length layout.items → ((get_or items i d).report ≡ r → ⊥)
    → named_values_at layout r bytes i ≡ []
unfolding named_values_at
named_values_elsewhere layout bytes r i items d is below other =
    ap (named_values_in layout r bytes i) (same_stands layout.items items i d is below) ∙ cond-false _ _ _ (ne_eqb (get_or items i d).report r other)
