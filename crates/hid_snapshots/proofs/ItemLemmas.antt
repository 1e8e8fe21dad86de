-- The items that definitions see of a layout, and their controls.
use Rattle.std.proofs.Common.{◌≡◌, ℕ, zero, suc, ◌<◌, ◌≤◌, List, [], ◌∷◌, length, Option, Some, None, refl, ap, arith}
use Rattle.std.specs.List.{slice_get, slice_set}
use Rattle.std.specs.Option.{option_map}
use Rattle.std.proofs.lemmas.Option.{slice_get_within}
use Rattle.hid_layout.specs.declared.main_item.MainItem.{MainItem}
use Rattle.hid_layout.specs.declared.control.Control.{Control}
use Rattle.hid_layout.specs.declared.control.ControlId.{ControlId}
use Rattle.hid_report_descriptor.specs.Usages.{Entry}
use Rattle.hid_layout.specs.Layout.{Contents}
use Rattle.hid_layout.specs.Reports.{IsLayout}
use Rattle.hid_layout.specs.Controls.{Form, NoControls, Item, items_of, items_from, item_of, control_of, control_in, form_at}

pub items_from-at : (layout : Contents) (ms : List MainItem) (ess : List (List Entry)) (i : ℕ) (m : MainItem) (es : List Entry) → slice_get ms i ≡ Some m → slice_get ess i ≡ Some es
    → slice_get (items_from layout ms ess) i ≡ Some (item_of layout m es)
unfolding items_from
items_from-at layout [] ess i m es h k = absurd (cc)
items_from-at layout (a ∷ ms) [] i m es h k = absurd (cc)
items_from-at layout (a ∷ ms) (b ∷ ess) zero m es h k =
    let e : a ≡ m = cc in
    let f : b ≡ es = cc in
    rw (e, f) refl
items_from-at layout (a ∷ ms) (b ∷ ess) (suc i) m es h k = items_from-at layout ms ess i m es h k

pub items_from-length : (layout : Contents) (ms : List MainItem) (ess : List (List Entry)) → length ess ≡ length ms → length (items_from layout ms ess) ≡ length ms
unfolding items_from
items_from-length layout [] [] h = refl
items_from-length layout [] (e ∷ ess) h = refl
items_from-length layout (m ∷ ms) [] h = absurd (omega arith)
items_from-length layout (m ∷ ms) (e ∷ ess) h = ap suc (items_from-length layout ms ess (omega arith))

pub items_from-short : (layout : Contents) (ms : List MainItem) (ess : List (List Entry)) → length (items_from layout ms ess) ≤ length ms
unfolding items_from
items_from-short layout [] ess = omega arith
items_from-short layout (m ∷ ms) [] = omega arith
items_from-short layout (m ∷ ms) (e ∷ ess) = omega (arith, items_from-short layout ms ess)

pub items_of-length : (layout : Contents) → IsLayout layout → length (items_of layout) ≡ length layout.items
items_of-length layout laid = items_from-length layout layout.items layout.entries laid.entries_there

-- an item by its place
pub got : {A : Type 0} (xs : List A) (i : ℕ) → i < length xs → (x : A) × (slice_get xs i ≡ Some x)
got [] i h = absurd (omega arith)
got (x ∷ xs) zero h = (x, refl)
got (x ∷ xs) (suc i) h = got xs i (omega arith)

-- A control that a layout has stands at an item.
pub record IsControl (items : List Item) (c : ControlId) (control : Control) : Type 0 where
  pub item : Item
  pub there : slice_get items c.item ≡ Some item
  pub is : control_in item.form c.index ≡ Some control

pub control_found : (items : List Item) (c : ControlId) (control : Control) → control_of items c ≡ Some control → IsControl items c control
control_found items c control h = by_item (slice_get items c.item) refl h
  where
    by_item : (o : Option Item) → slice_get items c.item ≡ o → elim o as (λ _. Option Control) [ None ↦ None | Some item ↦ control_in item.form c.index ] ≡ Some control → IsControl items c control
    by_item None e k = absurd (cc)
    by_item (Some item) e k = record { item = item; there = e; is = k }

pub control_within : (layout : Contents) (c : ControlId) (control : Control) → control_of (items_of layout) c ≡ Some control → c.item < length layout.items
control_within layout c control h =
    let found = control_found (items_of layout) c control h in
    omega (arith, slice_get_within (items_of layout) c.item found.item found.there, items_from-short layout layout.items layout.entries)

pub form_at-is : (items : List Item) (i : ℕ) (item : Item) → slice_get items i ≡ Some item → form_at items i ≡ item.form
form_at-is items i item h = ap (λ (o : Option Item). elim o as (λ _. Form) [ None ↦ NoControls | Some found ↦ found.form ]) h

-- an option that is there once it is mapped
pub mapped_some : {A B : Type 0} (f : A → B) (o : Option A) (b : B) → option_map f o ≡ Some b → (a : A) × (o ≡ Some a)
mapped_some f None b h = absurd (cc)
mapped_some f (Some a) b h = (a, refl)

-- a list with one place set
pub set_same : {A : Type 0} (xs : List A) (i : ℕ) (x : A) → slice_get xs i ≡ Some x → slice_set xs i x ≡ xs
set_same [] i x h = refl
set_same (y ∷ xs) zero x h = let e : y ≡ x = cc in rw e refl
set_same (y ∷ xs) (suc i) x h = ap (λ t. y ∷ t) (set_same xs i x h)

pub set_here : {A : Type 0} (xs : List A) (i : ℕ) (x : A) → i < length xs → slice_get (slice_set xs i x) i ≡ Some x
set_here [] i x h = absurd (omega arith)
set_here (y ∷ xs) zero x h = refl
set_here (y ∷ xs) (suc i) x h = set_here xs i x (omega arith)

pub set_there : {A : Type 0} (xs : List A) (i k : ℕ) (x : A) → (i ≡ k → ⊥) → slice_get (slice_set xs i x) k ≡ slice_get xs k
set_there [] i k x ne = refl
set_there (y ∷ xs) zero zero x ne = absurd (ne refl)
set_there (y ∷ xs) zero (suc k) x ne = refl
set_there (y ∷ xs) (suc i) zero x ne = refl
set_there (y ∷ xs) (suc i) (suc k) x ne = set_there xs i k x (λ e. ne (omega arith))

-- what a call on the entries of an item tells of them
pub same_entries : (layout : Contents) (i : ℕ) (a b : List Entry) → slice_get layout.entries i ≡ Some a → slice_get layout.entries i ≡ Some b → a ≡ b
same_entries layout i a b h k = cc

pub same_item : (layout : Contents) (i : ℕ) (a b : MainItem) → slice_get layout.items i ≡ Some a → slice_get layout.items i ≡ Some b → a ≡ b
same_item layout i a b h k = cc

pub ruleset item_counts = (items_of-length)
