-- The collections that are open, and their first usages.
use Rattle.std.proofs.Common.{◌≡◌, ℕ, Bool, true, false, suc, ◌+◌, ◌-◌, ◌<◌, ◌≤◌, List, [], ◌∷◌, ◌++◌, length, drop, get_or, add-one, map, refl, sym, ◌∙◌, ap, arith, Some}
use Rattle.std.specs.List.{slice_get, list_all}
use Rattle.std.proofs.Math.Seq.{drop-cons}
use Rattle.std.proofs.lemmas.Grind.{common_steps}
use Rattle.std.proofs.lemmas.Bool.Decides.{nat_tests}
use Rattle.hid_items.specs.ItemEncoding.{prefix_of}
use Rattle.hid_report_descriptor.specs.declared.collection.Collection.{Collection}
use Rattle.hid_report_descriptor.specs.Items.{EncodedItem, COLLECTION, END_COLLECTION}
use Rattle.hid_report_descriptor.specs.Matching.{Placed, open_items}
use Rattle.hid_report_descriptor.specs.Usages.{Entry, usage_list, is_range, are_ranges}
use Rattle.hid_report_descriptor.specs.Path.{collection_of, path}
use Rattle.hid_report_descriptor.specs.declared.usage.Usage.{Usage}
use Rattle.hid_report_descriptor.specs.declared.locals.NamedUsage.{NamedUsage}
use Rattle.hid_report_descriptor.specs.Locals.{on_page, entry_on_page}
use Rattle.hid_report_descriptor.proofs.Matching.{open_items_cut}
use Rattle.hid_report_descriptor.proofs.Saved.{LastOf, last_of}

all_passed : {A : Type 0} (p : A → Bool) (x : A) (xs : List A) → p x ≡ true → list_all p (x ∷ xs) ≡ list_all p xs
all_passed p x xs h = grind (arith, common_steps)

all_failed : {A : Type 0} (p : A → Bool) (x : A) (xs : List A) → p x ≡ false → list_all p (x ∷ xs) ≡ false
all_failed p x xs h = grind (arith, common_steps)

-- whether named ranges are ranges on a page
abbrev pub ranges_on : ℕ → List (NamedUsage × NamedUsage) → Bool
ranges_on page es = are_ranges (map (entry_on_page page) es)

pub range_passed : (page : ℕ) (es : List (NamedUsage × NamedUsage)) (i : ℕ) (d : NamedUsage × NamedUsage) → i < length es → is_range (entry_on_page page (get_or es i d)) ≡ true → ranges_on page (drop i es) ≡ ranges_on page es → ranges_on page (drop (i + 1) es) ≡ ranges_on page es
range_passed page es i d h t e =
    rw add-one (sym (all_passed is_range (entry_on_page page (get_or es i d)) (map (entry_on_page page) (drop (suc i) es)) t) ∙ ap (ranges_on page) (sym (drop-cons es i d h)) ∙ e)

pub range_failed : (page : ℕ) (es : List (NamedUsage × NamedUsage)) (i : ℕ) (d : NamedUsage × NamedUsage) → i < length es → is_range (entry_on_page page (get_or es i d)) ≡ false → ranges_on page (drop i es) ≡ ranges_on page es → false ≡ ranges_on page es
range_failed page es i d h t e =
    sym (all_failed is_range (entry_on_page page (get_or es i d)) (map (entry_on_page page) (drop (suc i) es)) t) ∙ ap (ranges_on page) (sym (drop-cons es i d h)) ∙ e

open_matched : (before : List EncodedItem) (item : EncodedItem) (front : List Placed) (p : Placed) → prefix_of item ≡ END_COLLECTION → open_items COLLECTION END_COLLECTION 0 before ≡ front ++ p ∷ [] → open_items COLLECTION END_COLLECTION 0 (item ∷ before) ≡ front
open_matched before item front p h e =
    let q : open_items COLLECTION END_COLLECTION 1 before ≡ front = open_items_cut COLLECTION END_COLLECTION (λ d. absurd (omega arith)) 0 before front p e in
    grind (arith, common_steps, nat_tests)

-- an End Collection closes the innermost collection
pub path_ended : (before : List EncodedItem) (item : EncodedItem) (rest : List Collection) (last : Collection) → prefix_of item ≡ END_COLLECTION → path before ≡ rest ++ last ∷ [] → path (item ∷ before) ≡ rest
path_ended before item rest last h e =
    let l : LastOf collection_of (open_items COLLECTION END_COLLECTION 0 before) rest last = last_of collection_of (open_items COLLECTION END_COLLECTION 0 before) rest last e in
    ap (map collection_of) (open_matched before item l.front l.last h l.whole) ∙ l.images

-- an entry whose minimum is over its maximum has no usage
pub usage_list_skip : (e : Entry) (es : List Entry) → e.1.id < e.0.id → usage_list (e ∷ es) ≡ usage_list es
usage_list_skip e es h =
    let n : (e.1.id + 1) - e.0.id ≡ 0 = omega arith in
    rw n refl

pub usage_list_first : (e : Entry) (es : List Entry) → e.0.id ≤ e.1.id → slice_get (usage_list (e ∷ es)) 0 ≡ Some (e.0)
usage_list_first e es h =
    let n : (e.1.id + 1) - e.0.id ≡ suc (e.1.id - e.0.id) = omega arith in
    rw n refl

-- how named ranges are put on a page
abbrev pub OnPage : Type 0
OnPage = NamedUsage × NamedUsage → Entry

-- the usages of named ranges on a page
abbrev pub listed_on : ℕ → List (NamedUsage × NamedUsage) → List Usage
listed_on page es = usage_list (map (entry_on_page page) es)

pub first_skipped : (page : ℕ) (es : List (NamedUsage × NamedUsage)) (i : ℕ) (d : NamedUsage × NamedUsage) → i < length es → (get_or es i d).1.id < (get_or es i d).0.id → listed_on page (drop i es) ≡ listed_on page es → listed_on page (drop (i + 1) es) ≡ listed_on page es
first_skipped page es i d h lt e =
    rw add-one (sym (usage_list_skip (entry_on_page page (get_or es i d)) (map (entry_on_page page) (drop (suc i) es)) lt) ∙ ap (listed_on page) (sym (drop-cons es i d h)) ∙ e)

pub first_found : (page : ℕ) (es : List (NamedUsage × NamedUsage)) (i : ℕ) (d : NamedUsage × NamedUsage) → i < length es → (get_or es i d).0.id ≤ (get_or es i d).1.id → listed_on page (drop i es) ≡ listed_on page es → Some (on_page page ((get_or es i d).0)) ≡ slice_get (listed_on page es) 0
first_found page es i d h le e =
    sym (usage_list_first (entry_on_page page (get_or es i d)) (map (entry_on_page page) (drop (suc i) es)) le) ∙ ap (λ l. slice_get (listed_on page l) 0) (sym (drop-cons es i d h)) ∙ ap (λ l. slice_get l 0) e
