-- The controls of an item by their places.
use Rattle.std.proofs.Common.{◌≡◌, ℕ, zero, suc, ◌+◌, ◌-◌, ◌<◌, ◌≤◌, min, Bool, true, false, cond, List, [], ◌∷◌, length, take, refl, ap, ◌∙◌, arith, Option, Some, None, unwrap_or}
use Rattle.std.specs.List.{slice_get}
use Rattle.std.specs.Option.{option_map}
use Rattle.std.proofs.lemmas.Option.{slice_get_past}
use Rattle.std.proofs.lemmas.List.{length-take, take_all}
use Rattle.hid_report_descriptor.specs.declared.usage.Usage.{Usage}
use Rattle.hid_layout.specs.declared.main_item.MainItem.{MainItem}
use Rattle.std.specs.Prelude.{is_some, pos, ◌+ℤ◌}
use Rattle.hid_layout.specs.Codes.{rollover_number}
use Rattle.hid_layout.specs.declared.control.ControlId.{ControlId}
use Rattle.hid_report_descriptor.specs.Usages.{Entry, usage_list}
use Rattle.hid_layout.specs.Layout.{Contents, report_bytes}
use Rattle.hid_layout.specs.Controls.{Item, NoControls, input_item, no_item, spread_usages, keys_from, is_key, has_place, rollover_from, is_input, item_of, form_of, items_from, items_of, form_of_item, form_at, control_in, control_of_item, control_of, events_in, max_events}
use Rattle.std.proofs.lemmas.List.Sums.{sum_by-append}
use Rattle.hid_layout.proofs.IndexLemmas.{take_next}

-- there is one usage for each element
pub spread_usages-length : (n : ℕ) (us : List Usage) → 0 < length us → length (spread_usages n us) ≡ n
unfolding spread_usages
spread_usages-length zero us h = refl
spread_usages-length (suc n) [] h = absurd (omega arith)
spread_usages-length (suc n) (u ∷ []) h = ap suc (spread_usages-length n (u ∷ []) (omega arith))
spread_usages-length (suc n) (u ∷ v ∷ us) h = ap suc (spread_usages-length n (v ∷ us) (omega arith))

-- the usage of an element is that at its place, or the last one
pub spread_usages-get : (n : ℕ) (us : List Usage) (j : ℕ) → 0 < length us → j < n
    → slice_get (spread_usages n us) j ≡ slice_get us (min j (length us - 1))
unfolding spread_usages
spread_usages-get zero us j h lt = absurd (omega arith)
spread_usages-get (suc n) [] j h lt = absurd (omega arith)
spread_usages-get (suc n) (u ∷ []) zero h lt = refl
spread_usages-get (suc n) (u ∷ []) (suc j) h lt =
    let e : min j (suc 0 - 1) ≡ min (suc j) (suc 0 - 1) = omega arith in
    spread_usages-get n (u ∷ []) j (omega arith) (omega arith) ∙ ap (slice_get (u ∷ [])) e
spread_usages-get (suc n) (u ∷ v ∷ us) zero h lt = let e : 0 ≡ min 0 (suc (suc (length us)) - 1) =
    omega arith in ap (slice_get (u ∷ v ∷ us)) e
spread_usages-get (suc n) (u ∷ v ∷ us) (suc j) h lt =
    let e : suc (min j (suc (length us) - 1)) ≡ min (suc j) (suc (suc (length us)) - 1) = omega arith in
    spread_usages-get n (v ∷ us) j (omega arith) (omega arith) ∙ ap (slice_get (u ∷ v ∷ us)) e

pub spread_usages-past : (n : ℕ) (us : List Usage) (j : ℕ) → 0 < length us → n ≤ j
    → slice_get (spread_usages n us) j ≡ None
spread_usages-past n us j h le = slice_get_past (spread_usages n us) j (omega (arith, spread_usages-length n us h))

-- the key at a place
keys_from-get : (item : MainItem) (i : ℕ) (us : List Usage) (j : ℕ) → slice_get (keys_from item i us) j ≡ option_map (λ u. record { usage = u; is_switch = is_key item (i + j) u }) (slice_get us j)
unfolding keys_from
keys_from-get item i [] j = refl
keys_from-get item i (u ∷ us) zero = ap (λ n. Some (record { usage = u; is_switch = is_key item n u })) (omega arith)
keys_from-get item i (u ∷ us) (suc j) = keys_from-get item (i + 1) us j ∙ ap (λ n. option_map (λ u. record { usage = u; is_switch = is_key item n u }) (slice_get us j)) (omega arith)

pub keys_from-length : (item : MainItem) (i : ℕ) (us : List Usage) → length (keys_from item i us) ≡ length us
unfolding keys_from
keys_from-length item i [] = refl
keys_from-length item i (u ∷ us) = ap suc (keys_from-length item (i + 1) us)

take-get : {A : Type 0} (n : ℕ) (xs : List A) (j : ℕ) → j < n → slice_get (take n xs) j ≡ slice_get xs j
take-get zero xs j h = absurd (omega arith)
take-get (suc n) [] j h = refl
take-get (suc n) (x ∷ xs) zero h = refl
take-get (suc n) (x ∷ xs) (suc j) h = take-get n xs j (omega arith)

-- a key at one of the first 65,536 places
pub key-get : (item : MainItem) (us : List Usage) (j : ℕ) → j < 65536 → slice_get (keys_from item 0 (take 65536 us)) j ≡ option_map (λ u. record { usage = u; is_switch = is_key item j u }) (slice_get us j)
key-get item us j h =
    keys_from-get item 0 (take 65536 us) j ∙ ap (λ o. option_map (λ u. record { usage = u; is_switch = is_key item (0 + j) u }) o) (take-get 65536 us j h)
    ∙ ap (λ n. option_map (λ u. record { usage = u; is_switch = is_key item n u }) (slice_get us j)) (omega arith)

pub key-past : (item : MainItem) (us : List Usage) (j : ℕ) → 65536 ≤ j → slice_get (keys_from item 0 (take 65536 us)) j ≡ None
key-past item us j h = slice_get_past (keys_from item 0 (take 65536 us)) j (omega (arith, keys_from-length item 0 (take 65536 us), length-take 65536 us))

pub keys-length : (item : MainItem) (us : List Usage) → length (keys_from item 0 (take 65536 us)) ≡ min (length us) 65536
keys-length item us = keys_from-length item 0 (take 65536 us) ∙ length-take 65536 us ∙ omega arith

-- an array rolls over where it has a code for it
pub rolls_over : (item : MainItem) (us : List Usage) → is_some (rollover_number item us) ≡ has_place (rollover_from item 0 us)
rolls_over item us = by_place (rollover_from item 0 us)
  where
    by_place : (o : Option ℕ) → is_some (option_map (λ i. item.min +ℤ pos i) o) ≡ has_place o
    by_place None = refl
    by_place (Some i) = refl

-- an item of a layout, as the definitions of controls see it
pub items_from-get : (layout : Contents) (items : List MainItem) (ess : List (List Entry)) (i : ℕ) (item : MainItem) (es : List Entry) → slice_get items i ≡ Some item → slice_get ess i ≡ Some es → slice_get (items_from layout items ess) i ≡ Some (item_of layout item es)
unfolding items_from
items_from-get layout [] ess i item es a b = absurd (cc)
items_from-get layout (x ∷ items) [] i item es a b = absurd (cc)
items_from-get layout (x ∷ items) (y ∷ ess) zero item es a b =
    ap (λ z. Some (item_of layout z y)) (ap (λ o. unwrap_or o item) a) ∙ ap (λ z. Some (item_of layout item z)) (ap (λ o. unwrap_or o es) b)
items_from-get layout (x ∷ items) (y ∷ ess) (suc i) item es a b = items_from-get layout items ess i item es a b

pub items_from-past : (layout : Contents) (items : List MainItem) (ess : List (List Entry)) (i : ℕ) → length items ≤ i → slice_get (items_from layout items ess) i ≡ None
unfolding items_from
items_from-past layout [] ess i h = refl
items_from-past layout (x ∷ items) [] i h = refl
items_from-past layout (x ∷ items) (y ∷ ess) zero h = absurd (omega arith)
items_from-past layout (x ∷ items) (y ∷ ess) (suc i) h = items_from-past layout items ess i (omega arith)

-- by whether its report is an Input report
abbrev item_if : Contents → MainItem → List Entry → Bool → Item
item_if layout item es b = cond b (input_item item.report (report_bytes layout item.report) (form_of item (usage_list es) item.shape)) no_item

pub item-input : (layout : Contents) (item : MainItem) (es : List Entry) → is_input layout.reports item.report ≡ true → (item_of layout item es).form ≡ form_of item (usage_list es) item.shape
item-input layout item es h = ap (λ b. (item_if layout item es b).form) h

pub item-other : (layout : Contents) (item : MainItem) (es : List Entry) → is_input layout.reports item.report ≡ false → (item_of layout item es).form ≡ NoControls
item-other layout item es h = ap (λ b. (item_if layout item es b).form) h

pub form-input : (layout : Contents) (i : ℕ) (item : MainItem) (es : List Entry) → slice_get layout.items i ≡ Some item → slice_get layout.entries i ≡ Some es → is_input layout.reports item.report ≡ true → form_at (items_of layout) i ≡ form_of item (usage_list es) item.shape
form-input layout i item es a b h = ap form_of_item (items_from-get layout layout.items layout.entries i item es a b) ∙ item-input layout item es h

pub form-other : (layout : Contents) (i : ℕ) (item : MainItem) (es : List Entry) → slice_get layout.items i ≡ Some item → slice_get layout.entries i ≡ Some es → is_input layout.reports item.report ≡ false → form_at (items_of layout) i ≡ NoControls
form-other layout i item es a b h = ap form_of_item (items_from-get layout layout.items layout.entries i item es a b) ∙ item-other layout item es h

-- the control at a place is that of the item's form
pub control-form : (items : List Item) (c : ControlId) → control_of items c ≡ control_in (form_at items c.item) c.index
control-form items c = by_item (slice_get items c.item)
  where
    by_item : (o : Option Item) → control_of_item c.index o ≡ control_in (form_of_item o) c.index
    by_item None = refl
    by_item (Some item) = refl

pub items_from-length : (layout : Contents) (items : List MainItem) (ess : List (List Entry)) → length ess ≡ length items → length (items_from layout items ess) ≡ length items
unfolding items_from
items_from-length layout [] ess e = refl
items_from-length layout (x ∷ items) [] e = absurd (omega arith)
items_from-length layout (x ∷ items) (y ∷ ess) e = ap suc (items_from-length layout items ess (omega arith))

pub some_at : {A : Type 0} (xs : List A) (i : ℕ) → i < length xs → (x : A) × (slice_get xs i ≡ Some x)
some_at [] i h = absurd (omega arith)
some_at (x ∷ xs) zero h = (x, refl)
some_at (x ∷ xs) (suc i) h = some_at xs i (omega arith)

-- the events of one more item
pub events-more : (items : List Item) (i n m : ℕ) → i < length items → n ≡ max_events (take i items) → m ≡ events_in (form_at items i) → n + m ≡ max_events (take (i + 1) items)
events-more items i n m h e f =
    let found = some_at items i h in
    let one : max_events (found.0 ∷ []) ≡ events_in found.0.form = omega arith in
    let more : max_events (take (i + 1) items) ≡ max_events (take i items) + events_in found.0.form =
    ap max_events (take_next items i found.0 found.1) ∙ sum_by-append (λ (item : Item). events_in item.form) (take i items) (found.0 ∷ []) ∙ ap (λ k. max_events (take i items) + k) one in
    let last : m ≡ events_in found.0.form = f ∙ ap (λ o. events_in (form_of_item o)) found.1 in
    omega (arith, e, more, last)

pub events-all : (items : List Item) (i n : ℕ) → length items ≤ i → n ≡ max_events (take i items) → n ≡ max_events items
events-all items i n h e = e ∙ ap max_events (take_all i items h)
