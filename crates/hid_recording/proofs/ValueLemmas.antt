-- The values of a report, item by item.
use Rattle.std.proofs.Common.{◌≡◌, ◌<◌, ℕ, zero, suc, ◌∷◌, get_or, arith, Bool, true, false, List, [], length, sym, ap, ◌∙◌, refl, Some}
use Rattle.std.specs.Prelude.{slice_get}
use Rattle.std.proofs.lemmas.Bool.{eq-eqb, ne_eqb}
use Rattle.hid_layout.specs.Layout.{Contents}
use Rattle.hid_layout.specs.declared.main_item.MainItem.{MainItem}
use Rattle.hid_notation.specs.Text.{concat_below}
use Rattle.hid_text.specs.ValuesText.{values_in, values_at, values_text}
use Rattle.hid_text.specs.NamedText.{named_values_in, named_values_at, named_values}
use Rattle.hid_recording.specs.LineOutput.{value_shown, values_shown_at, values_shown}

-- the item at a place
at_place : (items : List MainItem) (i : ℕ) (d : MainItem) → i < length items → slice_get items i ≡ Some (get_or items i d)
at_place [] i d there = absurd (omega arith)
at_place (item ∷ items) zero d there = refl
at_place (item ∷ items) (suc i) d there = at_place items i d (omega arith)

-- those of an item that stands in the report
pub item_shown : (names : Bool) (layout : Contents) (items : List MainItem) (r : ℕ) (bytes : List ℕ) (i : ℕ) (d : MainItem) → items ≡ layout.items
    → i < length layout.items → (get_or items i d).report ≡ r
    → concat_below (get_or items i d).count (value_shown names layout bytes i) ≡ values_shown_at names layout r bytes i
unfolding values_at named_values_at
item_shown true layout items r bytes i d same there stands =
    sym (ap (named_values_in layout r bytes i) (at_place layout.items i d there ∙ ap (λ l. Some (get_or l i d)) (sym same)) ∙ rw (eq-eqb (get_or items i d).report r stands) refl)
item_shown false layout items r bytes i d same there stands =
    sym (ap (values_in layout r bytes i) (at_place layout.items i d there ∙ ap (λ l. Some (get_or l i d)) (sym same)) ∙ rw (eq-eqb (get_or items i d).report r stands) refl)

-- those of one that doesn't
pub item_hidden : (names : Bool) (layout : Contents) (items : List MainItem) (r : ℕ) (bytes : List ℕ) (i : ℕ) (d : MainItem) → items ≡ layout.items
    → i < length layout.items → ((get_or items i d).report ≡ r → ⊥) → [] ≡ values_shown_at names layout r bytes i
unfolding values_at named_values_at
item_hidden true layout items r bytes i d same there other =
    sym (ap (named_values_in layout r bytes i) (at_place layout.items i d there ∙ ap (λ l. Some (get_or l i d)) (sym same)) ∙ rw (ne_eqb (get_or items i d).report r other) refl)
item_hidden false layout items r bytes i d same there other =
    sym (ap (values_in layout r bytes i) (at_place layout.items i d there ∙ ap (λ l. Some (get_or l i d)) (sym same)) ∙ rw (ne_eqb (get_or items i d).report r other) refl)

-- those of all items
pub all_shown : (names : Bool) (layout : Contents) (r : ℕ) (bytes : List ℕ)
    → concat_below (length layout.items) (values_shown_at names layout r bytes) ≡ values_shown names layout r bytes
unfolding values_text named_values
all_shown true layout r bytes = refl
all_shown false layout r bytes = refl
