-- The usages of an item's controls, in the usage list of the item.
use Rattle.std.proofs.Common.{◌≡◌, ℕ, zero, suc, ◌+◌, ◌-◌, ◌<◌, ◌≤◌, Bool, true, false, cond, List, [], ◌∷◌, length, take, min, Option, Some, None, refl, sym, ap, ◌∙◌, subst, arith}
use Rattle.std.specs.List.{slice_get}
use Rattle.std.specs.Option.{option_and_then}
use Rattle.std.proofs.lemmas.List.{length-take}
use Rattle.std.proofs.lemmas.Option.{slice_get_within}
use Rattle.hid_layout.specs.declared.main_item.MainItem.{MainItem}
use Rattle.hid_report_descriptor.specs.declared.shape.Shape.{Shape}
use Rattle.hid_report_descriptor.specs.declared.shape.Shape.TheVariants.{Padding, Variable, Array}
use Rattle.hid_report_descriptor.specs.declared.usage.Usage.{Usage}
use Rattle.hid_report_descriptor.specs.Usages.{Entry, usage_list}
use Rattle.hid_report_descriptor.specs.Fields.{is_padding}
use Rattle.hid_layout.specs.Layout.{Contents}
use Rattle.hid_layout.specs.Reports.{IsLayout, usage_of, report_bytes}
use Rattle.hid_layout.specs.Controls.{Form, NoControls, Item, items_of, item_of, form_of, form_at, is_input, spread_usages, keys_from, key_places, input_item, no_item}
use Rattle.hid_snapshots.specs.Events.{usage_place, usages_of, usages_at, key_usages}
pub use Rattle.hid_snapshots.proofs.ItemLemmas.{same_entries, same_item}
use Rattle.hid_snapshots.proofs.ItemLemmas.{items_from-at, items_from-short, items_of-length, form_at-is, got}

pub spread_usages-at : (n : ℕ) (us : List Usage) (j : ℕ) → 0 < length us → j < n
    → slice_get (spread_usages n us) j ≡ slice_get us (min j (length us - 1))
unfolding spread_usages
spread_usages-at zero us j h k = absurd (omega arith)
spread_usages-at (suc n) [] j h k = absurd (omega arith)
spread_usages-at (suc n) (u ∷ []) zero h k = refl
spread_usages-at (suc n) (u ∷ []) (suc j) h k = let e : min (suc j) 0 ≡ min j 0 =
    omega arith in spread_usages-at n (u ∷ []) j h (omega arith) ∙ ap (slice_get (u ∷ [])) (sym e)
spread_usages-at (suc n) (u ∷ v ∷ us) zero h k = let e : min 0 (suc (suc (length us)) - 1) ≡ 0 =
    omega arith in ap (slice_get (u ∷ v ∷ us)) (sym e)
spread_usages-at (suc n) (u ∷ v ∷ us) (suc j) h k =
    let e : min (suc j) (length {A = Usage} (u ∷ v ∷ us) - 1) ≡ suc (min j (length {A = Usage} (v ∷ us) - 1)) = omega arith in
    let rest : slice_get (spread_usages n (v ∷ us)) j
    ≡ slice_get (u ∷ v ∷ us) (suc (min j (length {A = Usage} (v ∷ us) - 1))) =
    spread_usages-at n (v ∷ us) j (omega arith) (omega arith) in
    rest ∙ ap (slice_get (u ∷ v ∷ us)) (sym e)

pub key_usages-is : (m : MainItem) (i : ℕ) (us : List Usage) → key_usages (keys_from m i us) ≡ us
unfolding keys_from
key_usages-is m i [] = refl
key_usages-is m i (u ∷ us) = ap (λ t. u ∷ t) (key_usages-is m (i + 1) us)

take-get : {A : Type 0} (n : ℕ) (xs : List A) (j : ℕ) → j < length (take n xs) → slice_get (take n xs) j ≡ slice_get xs j
take-get zero xs j h = absurd (omega arith)
take-get (suc n) [] j h = absurd (omega arith)
take-get (suc n) (x ∷ xs) zero h = refl
take-get (suc n) (x ∷ xs) (suc j) h = take-get n xs j (omega arith)

pub record HasUsage (layout : Contents) (i j : ℕ) : Type 0 where
  pub item : MainItem
  pub entries : List Entry
  pub listed : slice_get layout.items i ≡ Some item
  pub entries_there : slice_get layout.entries i ≡ Some entries
  pub data_ : is_padding item.shape ≡ false
  pub some : 0 < length (usage_list entries)
  pub is : slice_get (usages_at layout i) j ≡ slice_get (usage_list entries) (usage_place item.shape (usage_list entries) j)
  pub within : usage_place item.shape (usage_list entries) j < length (usage_list entries)

spread_usages-short : (n : ℕ) (us : List Usage) → length (spread_usages n us) ≤ n
unfolding spread_usages
spread_usages-short zero us = omega arith
spread_usages-short (suc n) [] = omega arith
spread_usages-short (suc n) (u ∷ []) = omega (arith, spread_usages-short n (u ∷ []))
spread_usages-short (suc n) (u ∷ v ∷ us) = omega (arith, spread_usages-short n (v ∷ us))

of_form : (m : MainItem) (us : List Usage) (shape : Shape) (j : ℕ) → (is_padding shape ≡ false → 0 < length us) → j < length (usages_of (form_of m us shape))
    → (is_padding shape ≡ false) × (slice_get (usages_of (form_of m us shape)) j ≡ slice_get us (usage_place shape us j)) × (usage_place shape us j < length us)
of_form m us Padding j some h = absurd (omega arith)
of_form m us Variable j some h =
    let few : j < m.count = omega (arith, spread_usages-short m.count us) in
    (refl, spread_usages-at m.count us j (some refl) few, let here = some refl in omega arith)
of_form m us Array j some h =
    let same = key_usages-is m 0 (key_places us) in
    let within : j < length (take 65536 us) = omega (arith, ap length same) in
    (refl, ap (λ (l : List Usage). slice_get l j) same ∙ take-get 65536 us j within, omega (arith, length-take 65536 us))

usage_of_item : (layout : Contents) (i j : ℕ) (m : MainItem) (es : List Entry) → slice_get layout.items i ≡ Some m → slice_get layout.entries i ≡ Some es
    → (is_padding m.shape ≡ false → 0 < length (usage_list es)) → j < length (usages_at layout i) → HasUsage layout i j
usage_of_item layout i j m es listed there some h =
    of_item (is_input layout.reports m.report) (form_at-is (items_of layout) i (item_of layout m es) (items_from-at layout layout.items layout.entries i m es listed there)) h
  where
    of_item : (b : Bool)
        → (let a : Item = input_item m.report (report_bytes layout m.report) (form_of m (usage_list es) m.shape) in let z : Item = no_item in form_at (items_of layout) i ≡ (cond b a z).form)
        → j < length (usages_at layout i) → HasUsage layout i j
    of_item false e k = absurd (omega (arith, ap (λ (f : Form). length (usages_of f)) e))
    of_item true e k =
        let long = ap (λ (f : Form). length (usages_of f)) e in
        let facts = of_form m (usage_list es) m.shape j some (omega arith) in
        record {
          item = m;
          entries = es;
          listed = listed;
          entries_there = there;
          data_ = facts.0;
          some = some facts.0;
          is = ap (λ (f : Form). slice_get (usages_of f) j) e ∙ facts.1;
          within = facts.2;
        }

pub usage_there : (layout : Contents) (i j : ℕ) → IsLayout layout → j < length (usages_at layout i) → HasUsage layout i j
usage_there layout i j laid h = by_item (slice_get (items_of layout) i) refl h
  where
    by_item : (o : Option Item) → slice_get (items_of layout) i ≡ o → j < length (usages_of (elim o as (λ _. Form) [ None ↦ NoControls | Some item ↦ item.form ])) → HasUsage layout i j
    by_item None e k = absurd (omega arith)
    by_item (Some item) e k =
        let within : i < length layout.items = omega (arith, slice_get_within (items_of layout) i item e, items_of-length layout laid) in
        let m = got layout.items i within in
        let es = got layout.entries i (omega (arith, laid.entries_there)) in
        usage_of_item layout i j m.0 es.0 m.1 es.1 (laid.some_usage i m.0 es.0 m.1 es.1) h

pub usage_of-is : (layout : Contents) (i : ℕ) (es : List Entry) (place : ℕ) → slice_get layout.entries i ≡ Some es → usage_of layout i place ≡ slice_get (usage_list es) place
usage_of-is layout i es place h = ap (option_and_then (λ fs. slice_get (usage_list fs) place)) h

-- the usage found at that place is the control's
pub usage_found : (layout : Contents) (i j : ℕ) (m : MainItem) (es : List Entry) (place : ℕ) → HasUsage layout i j → slice_get layout.items i ≡ Some m → slice_get layout.entries i ≡ Some es
    → place ≡ usage_place m.shape (usage_list es) j → (slice_get (usages_at layout i) j ≡ usage_of layout i place) × (place < length (usage_list es))
usage_found layout i j m es place has h k is =
    let e = same_entries layout i has.entries es has.entries_there k in
    let f = same_item layout i has.item m has.listed h in
    let at : usage_place has.item.shape (usage_list has.entries) j ≡ place = rw (e, f) (sym is) in (
      has.is ∙ ap (λ (fs : List Entry). slice_get (usage_list fs) (usage_place has.item.shape (usage_list has.entries) j)) e ∙ ap (slice_get (usage_list es)) at ∙ sym (usage_of-is layout i es place k),
      (let P : List Entry → Type 0 = λ fs. usage_place has.item.shape (usage_list has.entries) j < length (usage_list fs) in let within : P es = subst P e has.within in omega (arith, at)),
    )

pub usages_within : (layout : Contents) (i j : ℕ) → j < length (usages_at layout i) → i < length layout.items
usages_within layout i j h = by_item (slice_get (items_of layout) i) refl h
  where
    by_item : (o : Option Item) → slice_get (items_of layout) i ≡ o → j < length (usages_of (elim o as (λ _. Form) [ None ↦ NoControls | Some item ↦ item.form ])) → i < length layout.items
    by_item None e k = absurd (omega arith)
    by_item (Some item) e k = omega (arith, slice_get_within (items_of layout) i item e, items_from-short layout layout.items layout.entries)

place_within : (shape : Shape) (us : List Usage) (j : ℕ) → j < length us → usage_place shape us j ≡ j
place_within Padding us j h = refl
place_within Variable us j h = omega arith
place_within Array us j h = refl

-- an item has usages where one of them is found
usage_shown : (layout : Contents) (i j : ℕ) (usage : Usage) → j < length (usages_at layout i) → usage_of layout i j ≡ Some usage → HasUsage layout i j
usage_shown layout i j usage h found = by_entries (slice_get layout.entries i) refl found
  where
    by_entries : (o : Option (List Entry)) → slice_get layout.entries i ≡ o → option_and_then (λ fs. slice_get (usage_list fs) j) o ≡ Some usage → HasUsage layout i j
    by_entries None e is = absurd (cc)
    by_entries (Some es) e is =
        let m = got layout.items i (usages_within layout i j h) in
        let within = slice_get_within (usage_list es) j usage is in
        usage_of_item layout i j m.0 es m.1 e (λ _. omega (arith, within)) h

-- a usage at that place of the list itself is the control's
pub usage_here : (layout : Contents) (i j : ℕ) (usage : Usage) → j < length (usages_at layout i) → usage_of layout i j ≡ Some usage → slice_get (usages_at layout i) j ≡ Some usage
usage_here layout i j usage h found =
    let has = usage_shown layout i j usage h found in
    let listed : slice_get (usage_list has.entries) j ≡ Some usage = sym (usage_of-is layout i has.entries j has.entries_there) ∙ found in
    let place = place_within has.item.shape (usage_list has.entries) j (slice_get_within (usage_list has.entries) j usage listed) in
    has.is ∙ ap (slice_get (usage_list has.entries)) place ∙ listed
