-- Places of usage lists.
use Rattle.std.proofs.Common.{◌≡◌, ℕ, zero, suc, ◌+◌, ◌-◌, ◌<◌, ◌≤◌, List, [], ◌∷◌, ◌++◌, length, length-append, get_or, drop, Some, refl, sym, ap, ◌∙◌, arith}
use Rattle.std.specs.List.{slice_get}
use Rattle.std.proofs.lemmas.List.{drop_more}
use Rattle.hid_report_descriptor.specs.Usages.{Entry, entry_count, usage_list, usages_from}

pub get_left : {A : Type 0} (xs ys : List A) (i : ℕ) → i < length xs → slice_get (xs ++ ys) i ≡ slice_get xs i
get_left [] ys i h = absurd (omega arith)
get_left (x ∷ xs) ys zero h = refl
get_left (x ∷ xs) ys (suc i) h = get_left xs ys i (omega arith)

pub get_right : {A : Type 0} (xs ys : List A) (i : ℕ) → length xs ≤ i → slice_get (xs ++ ys) i ≡ slice_get ys (i - length xs)
get_right [] ys i h = let e : i - 0 ≡ i = omega arith in rw e refl
get_right (x ∷ xs) ys zero h = absurd (omega arith)
get_right (x ∷ xs) ys (suc i) h = let e : suc i - suc (length xs) ≡ i - length xs = omega arith in rw e (get_right xs ys i (omega arith))

pub usages_from-length : (page id n : ℕ) → length (usages_from page id n) ≡ n
usages_from-length page id zero = refl
usages_from-length page id (suc n) = ap suc (usages_from-length page (id + 1) n)

pub usages_from-get : (page id n i : ℕ) → i < n
    → slice_get (usages_from page id n) i ≡ Some (record { page = page; id = id + i })
usages_from-get page id zero i h = absurd (omega arith)
usages_from-get page id (suc n) zero h = let e : id ≡ id + 0 =
    omega arith in ap (λ (k : ℕ). Some (record { page = page; id = k })) e
usages_from-get page id (suc n) (suc i) h = let e : (id + 1) + i ≡ id + suc i =
    omega arith in usages_from-get page (id + 1) n i (omega arith)
    ∙ ap (λ (k : ℕ). Some (record { page = page; id = k })) e

-- the list from an entry on
pub list_from : (es : List Entry) (i : ℕ) (d : Entry) → i < length es
    → usage_list (drop i es) ≡ usages_from (get_or es i d).0.page (get_or es i d).0.id (entry_count (get_or es i d))
    ++ usage_list (drop (i + 1) es)
list_from es i d h = rw (drop_more es i d h) refl

pub found : (es : List Entry) (k rest : ℕ) (d : Entry) → k < length es → rest < entry_count (get_or es k d)
    → slice_get (usage_list (drop k es)) rest ≡ Some (record { page = (get_or es k d).0.page; id = (get_or es k d).0.id + rest })
found es k rest d within h =
    let l : rest < length (usages_from (get_or es k d).0.page (get_or es k d).0.id (entry_count (get_or es k d))) =
    rw usages_from-length h in
    rw (list_from es k d within) (get_left _ _ rest l ∙ usages_from-get _ _ _ rest h)

pub skipped : (es : List Entry) (k rest : ℕ) (d : Entry) → k < length es → entry_count (get_or es k d) ≤ rest
    → slice_get (usage_list (drop k es)) rest ≡ slice_get (usage_list (drop (k + 1) es)) (rest - entry_count (get_or es k d))
skipped es k rest d within h =
    let n : length (usages_from (get_or es k d).0.page (get_or es k d).0.id (entry_count (get_or es k d)))
    ≡ entry_count (get_or es k d) = usages_from-length _ _ _ in
    rw (list_from es k d within)
    (get_right (usages_from (get_or es k d).0.page (get_or es k d).0.id (entry_count (get_or es k d)))
    (usage_list (drop (k + 1) es)) rest (omega (arith, n)) ∙ rw n refl)

pub counted : (es : List Entry) (k : ℕ) (d : Entry) → k < length es → length (usage_list (drop k es)) ≡ entry_count (get_or es k d) + length (usage_list (drop (k + 1) es))
counted es k d within = rw (list_from es k d within) (grind (arith, length-append, usages_from-length))

-- a usage found or passed over, as a loop over the entries meets it
pub found_in : (es : List Entry) (k rest index n : ℕ) (d : Entry) → k < length es → n ≡ entry_count (get_or es k d) → rest < n
    → slice_get (usage_list es) index ≡ slice_get (usage_list (drop k es)) rest
    → Some (record { page = (get_or es k d).0.page; id = (get_or es k d).0.id + rest }) ≡ slice_get (usage_list es) index
found_in es k rest index n d within e h so_far = sym (so_far ∙ found es k rest d within (omega arith))

pub skipped_in : (es : List Entry) (k rest index n : ℕ) (d : Entry) → k < length es → n ≡ entry_count (get_or es k d) → n ≤ rest
    → slice_get (usage_list es) index ≡ slice_get (usage_list (drop k es)) rest
    → slice_get (usage_list es) index ≡ slice_get (usage_list (drop (k + 1) es)) (rest - n)
skipped_in es k rest index n d within e h so_far = so_far ∙ skipped es k rest d within (omega arith) ∙ ap (λ (m : ℕ). slice_get (usage_list (drop (k + 1) es)) (rest - m)) (sym e)

pub counted_in : (es : List Entry) (k count n all : ℕ) (d : Entry) → k < length es → n ≡ entry_count (get_or es k d)
    → all ≡ count + length (usage_list (drop k es)) → all ≡ count + n + length (usage_list (drop (k + 1) es))
counted_in es k count n all d within e so_far = omega (arith, counted es k d within)
