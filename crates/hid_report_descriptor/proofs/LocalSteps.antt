-- What the parser keeps of one more local item.
use Rattle.std.proofs.Common.{◌≡◌, ℕ, Bool, true, false, cond, List, [], ◌∷◌, ◌++◌, length, map, filter, refl, sym, ◌∙◌, ap, subst, arith, append_assoc, append-nil, Option, Some, None}
use Rattle.std.specs.List.{slice_get}
use Rattle.std.specs.Option.{option_map}
use Rattle.std.proofs.lemmas.Grind.{common_steps}
use Rattle.std.proofs.lemmas.Option.{slice_get-map}
use Rattle.std.proofs.lemmas.List.{map-append, length-map}
use Rattle.hid_items.specs.ItemEncoding.{prefix_of}
use Rattle.hid_report_descriptor.specs.declared.locals.NamedUsage.{NamedUsage}
use Rattle.hid_report_descriptor.specs.declared.locals.Locals.{Locals}
use Rattle.hid_report_descriptor.specs.Items.{EncodedItem, is, is_main, USAGE, USAGE_MINIMUM, USAGE_MAXIMUM}
use Rattle.hid_report_descriptor.specs.Usages.{usage_named, entry_of, to_list, locals, minima, maxima, entry_at, following_entries}
use Rattle.hid_report_descriptor.specs.Locals.{named_usage, on_page, entry_on_page, AreLocals, AddsLocal, entry_completed}

pub locals_more : (before : List EncodedItem) (item : EncodedItem) → is_main item ≡ false → locals (item ∷ before) ≡ locals before ++ item ∷ []
locals_more before item h = grind (arith, common_steps)

pub filter_more : (p : EncodedItem → Bool) (xs : List EncodedItem) (x : EncodedItem) → filter p (xs ++ x ∷ []) ≡ filter p xs ++ cond (p x) (x ∷ []) []
filter_more p [] x = grind (arith, common_steps)
filter_more p (y ∷ xs) x = grind (arith, common_steps, filter_more p xs x)

pub entries_more : (page : ℕ) (front xs : List EncodedItem) (x : EncodedItem)
    → following_entries page front (xs ++ x ∷ []) ≡ following_entries page front xs ++ entry_at page (front ++ xs) x
entries_more page front [] x = rw append-nil (rw append-nil refl)
entries_more page front (y ∷ xs) x =
    ap (λ r. entry_at page front y ++ r) (entries_more page (front ++ y ∷ []) xs x)
    ∙ sym (append_assoc (entry_at page front y) _ _)
    ∙ ap (λ f. (entry_at page front y ++ following_entries page (front ++ y ∷ []) xs) ++ entry_at page f x)
    (append_assoc front (y ∷ []) xs)

option_map_map : {A B C : Type 0} (g : B → C) (f : A → B) (o : Option A) → option_map g (option_map f o) ≡ option_map (λ x. g (f x)) o
option_map_map g f None = refl
option_map_map g f (Some x) = refl

map_to_list : {A B : Type 0} (f : A → B) (o : Option A) → map f (to_list o) ≡ to_list (option_map f o)
map_to_list f None = refl
map_to_list f (Some x) = refl

named_on_page : (page : ℕ) (item : EncodedItem) → on_page page (named_usage item) ≡ usage_named page item
named_on_page page item = grind (arith, common_steps)

-- an entry that a pair of kept usages makes, where the other one is looked up
pair_low : (page : ℕ) (item : EncodedItem) (o : Option EncodedItem)
    → map (entry_on_page page) (to_list (option_map (λ high. (named_usage item, high)) (option_map named_usage o)))
    ≡ to_list (option_map (λ high. entry_of page item high) o)
pair_low page item None = refl
pair_low page item (Some high) =
    ap (λ e. e ∷ [])
    (ap (λ u. (u, on_page page (named_usage high))) (named_on_page page item)
    ∙ ap (λ u. (usage_named page item, u)) (named_on_page page high))

pair_high : (page : ℕ) (item : EncodedItem) (o : Option EncodedItem)
    → map (entry_on_page page) (to_list (option_map (λ low. (low, named_usage item)) (option_map named_usage o)))
    ≡ to_list (option_map (λ low. entry_of page low item) o)
pair_high page item None = refl
pair_high page item (Some low) =
    ap (λ e. e ∷ [])
    (ap (λ u. (u, on_page page (named_usage item))) (named_on_page page low)
    ∙ ap (λ u. (usage_named page low, u)) (named_on_page page item))

pair_one : (page : ℕ) (item : EncodedItem)
    → map (entry_on_page page) ((named_usage item, named_usage item) ∷ []) ≡ entry_of page item item ∷ []
pair_one page item = pair_low page item (Some item)

length_named : (xs : List EncodedItem) → length (map named_usage xs) ≡ length xs
length_named xs = length-map xs named_usage

-- the entry kept at a local item is the one that counts there
completed : (page : ℕ) (ls : List EncodedItem) (item : EncodedItem)
    → map (entry_on_page page)
    (entry_completed (prefix_of item) (named_usage item) (map named_usage (minima ls)) (map named_usage (maxima ls)))
    ≡ entry_at page ls item
completed page ls item = by_case (is USAGE item) (is USAGE_MINIMUM item) (is USAGE_MAXIMUM item)
  where
    by_case : (a b c : Bool)
        → map (entry_on_page page)
        (cond a ((named_usage item, named_usage item) ∷ [])
        (cond b (to_list
        (option_map (λ high. (named_usage item, high))
        (slice_get (map named_usage (maxima ls)) (length (map named_usage (minima ls))))))
        (cond c (to_list
        (option_map (λ low. (low, named_usage item))
        (slice_get (map named_usage (minima ls)) (length (map named_usage (maxima ls)))))) [])))
        ≡ cond a (entry_of page item item ∷ []) (cond b (to_list (option_map (λ high. entry_of page item high) (slice_get (maxima ls) (length (minima ls))))) (cond c (to_list (option_map (λ low. entry_of page low item) (slice_get (minima ls) (length (maxima ls))))) []))
    by_case true b c = pair_one page item
    by_case false true c =
        rw (length_named (minima ls), slice_get-map named_usage (maxima ls) (length (minima ls)))
        (pair_low page item (slice_get (maxima ls) (length (minima ls))))
    by_case false false true =
        rw (length_named (maxima ls), slice_get-map named_usage (minima ls) (length (maxima ls)))
        (pair_high page item (slice_get (minima ls) (length (maxima ls))))
    by_case false false false = refl

map_if : {A B : Type 0} (f : A → B) (b : Bool) (x : A) → map f (cond b (x ∷ []) []) ≡ cond b (f x ∷ []) []
map_if f true x = refl
map_if f false x = refl

kept_more : (p : EncodedItem → Bool) (ls : List EncodedItem) (item : EncodedItem) (old new : List NamedUsage)
    → old ≡ map named_usage (filter p ls) → new ≡ old ++ cond (p item) (named_usage item ∷ []) []
    → new ≡ map named_usage (filter p (ls ++ item ∷ []))
kept_more p ls item old new e f =
    f ∙ ap (λ o. o ++ cond (p item) (named_usage item ∷ []) []) e
    ∙ ap (λ t. map named_usage (filter p ls) ++ t) (sym (map_if named_usage (p item) item))
    ∙ sym (map-append named_usage (filter p ls) _) ∙ ap (map named_usage) (sym (filter_more p ls item))

-- what is kept of one more local item is what counts of it
pub locals_added : (before : List EncodedItem) (item : EncodedItem) (old new : Locals) → is_main item ≡ false
    → AreLocals before old → AddsLocal (prefix_of item) (named_usage item) old new → AreLocals (item ∷ before) new
locals_added before item old new h is_old adds =
    let more : locals (item ∷ before) ≡ locals before ++ item ∷ [] = locals_more before item h in
    record {
      all_minima =
          kept_more (is USAGE_MINIMUM) (locals before) item _ _ is_old.all_minima adds.minima_after
          ∙ ap (λ ls. map named_usage (minima ls)) (sym more);
      all_maxima =
          kept_more (is USAGE_MAXIMUM) (locals before) item _ _ is_old.all_maxima adds.maxima_after
          ∙ ap (λ ls. map named_usage (maxima ls)) (sym more);
      all_entries = λ page.
          ap (map (entry_on_page page))
          (adds.entries_after
          ∙ ap (λ lows. old.entries.items
          ++ entry_completed (prefix_of item) (named_usage item) lows old.maxima) is_old.all_minima
          ∙ ap (λ highs. old.entries.items
          ++ entry_completed (prefix_of item) (named_usage item)
          (map named_usage (minima (locals before))) highs) is_old.all_maxima)
          ∙ map-append (entry_on_page page) old.entries.items _
          ∙ ap (λ t. t
          ++ map (entry_on_page page)
          (entry_completed (prefix_of item) (named_usage item) (map named_usage (minima (locals before)))
          (map named_usage (maxima (locals before))))) (is_old.all_entries page)
          ∙ ap (λ t. following_entries page [] (locals before) ++ t) (completed page (locals before) item)
          ∙ sym (entries_more page [] (locals before) item)
          ∙ ap (following_entries page []) (sym more);
    }

-- the kept item is the one that was read
pub adds_item : (prefix : ℕ) (item : EncodedItem) (old new : Locals) → prefix ≡ prefix_of item
    → AddsLocal prefix (named_usage item) old new → AddsLocal (prefix_of item) (named_usage item) old new
adds_item prefix item old new p a = subst (λ n. AddsLocal n (named_usage item) old new) p a
