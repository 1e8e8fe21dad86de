-- Where the ranges of a usage list begin.
use Rattle.std.proofs.Common.{◌≡◌, ℕ, zero, suc, ◌+◌, ◌-◌, ◌<◌, ◌≤◌, List, [], ◌∷◌, ◌++◌, length, take, drop, get_or, refl, sym, ap, ◌∙◌, arith, add-one, length-append, Some, None, Bool, true, false, nat_lt}
use Rattle.std.specs.List.{slice_get}
use Rattle.std.proofs.lemmas.List.{take-append-drop, take_all, drop_all}
use Rattle.std.proofs.lemmas.Grind.{flat_map-append}
use Rattle.hid_report_descriptor.specs.Usages.{Entry, entry_count, usages_from, usage_list, starts_from, starts_of}
use Rattle.std.proofs.lemmas.Bool.Decides.{nat_tests}
use Rattle.hid_report_descriptor.proofs.Places.{get_right, usages_from-length, found, skipped}

pub starts-length : (n : ℕ) (es : List Entry) → length (starts_from n es) ≡ length es
starts-length n [] = refl
starts-length n (e ∷ es) = ap suc (starts-length (n + entry_count e) es)

ranges-length : (e : Entry) (es : List Entry) → length (usage_list (e ∷ es)) ≡ entry_count e + length (usage_list es)
ranges-length e es =
    length-append (usages_from e.0.page e.0.id (entry_count e)) (usage_list es)
    ∙ ap (λ n. n + length (usage_list es)) (usages_from-length e.0.page e.0.id (entry_count e))

-- a range begins after the usages of those before it
starts-get : (n : ℕ) (es : List Entry) (k : ℕ) → k < length es → get_or (starts_from n es) k 0 ≡ n + length (usage_list (take k es))
starts-get n [] k h = absurd (omega arith)
starts-get n (e ∷ es) zero h = omega arith
starts-get n (e ∷ es) (suc k) h = starts-get (n + entry_count e) es k (omega arith) ∙ omega (arith, ranges-length e (take k es))

split_list : (es : List Entry) (k : ℕ) → usage_list es ≡ usage_list (take k es) ++ usage_list (drop k es)
split_list es k =
    ap usage_list (sym (take-append-drop k es))
    ∙ flat_map-append (λ e. usages_from e.0.page e.0.id (entry_count e)) (take k es) (drop k es)

pub next_start : (es : List Entry) (k : ℕ) (d : Entry) → k < length es → length (usage_list (take (k + 1) es)) ≡ length (usage_list (take k es)) + entry_count (get_or es k d)
next_start [] k d h = absurd (omega arith)
next_start (e ∷ es) zero d h = ranges-length e [] ∙ omega arith
next_start (e ∷ es) (suc k) d h = rw add-one (omega (arith, ranges-length e (take (suc k) es), ranges-length e (take k es), rw add-one at (next_start es k d (omega arith))))

-- the place after the start of a range
pub from_start : (es : List Entry) (k index : ℕ) → length (usage_list (take k es)) ≤ index → slice_get (usage_list es) index ≡ slice_get (usage_list (drop k es)) (index - length (usage_list (take k es)))
from_start es k index h = ap (λ l. slice_get l index) (split_list es k) ∙ get_right (usage_list (take k es)) (usage_list (drop k es)) index h

pub at_start : (es : List Entry) (starts : List ℕ) (k : ℕ) → starts ≡ starts_of es → k < length es → get_or starts k 0 ≡ length (usage_list (take k es))
at_start es starts k s within = omega (arith, ap (λ l. get_or l k 0) s, starts-get 0 es k within)

pub found_by_start : (es : List Entry) (starts : List ℕ) (k index : ℕ) (d : Entry) → starts ≡ starts_of es → k < length es → get_or starts k 0 ≤ index → index - get_or starts k 0 < entry_count (get_or es k d)
    → Some (record { page = (get_or es k d).0.page; id = (get_or es k d).0.id + (index - get_or starts k 0) }) ≡ slice_get (usage_list es) index
found_by_start es starts k index d s within low high =
    let at : get_or starts k 0 ≡ length (usage_list (take k es)) = omega (arith, ap (λ l. get_or l k 0) s, starts-get 0 es k within) in
    let e : index - length (usage_list (take k es)) ≡ index - get_or starts k 0 = omega (arith, at) in
    sym (from_start es k index (omega (arith, at)) ∙ ap (slice_get (usage_list (drop k es))) e ∙ found es k (index - get_or starts k 0) d within high)

pub past_by_start : (es : List Entry) (starts : List ℕ) (k index : ℕ) (d : Entry) → starts ≡ starts_of es → k < length es → get_or starts k 0 ≤ index → entry_count (get_or es k d) ≤ index - get_or starts k 0 → (k + 1 < length starts → index < get_or starts (k + 1) 0)
    → None ≡ slice_get (usage_list es) index
past_by_start es starts k index d s within low past next =
    let at : get_or starts k 0 ≡ length (usage_list (take k es)) = omega (arith, ap (λ l. get_or l k 0) s, starts-get 0 es k within) in
    let n : length starts ≡ length es = ap length s ∙ starts-length 0 es in
    let e : index - length (usage_list (take k es)) ≡ index - get_or starts k 0 = omega (arith, at) in
    sym (from_start es k index (omega (arith, at)) ∙ ap (slice_get (usage_list (drop k es))) e ∙ skipped es k (index - get_or starts k 0) d within past ∙ ap (λ l. slice_get (usage_list l) ((index - get_or starts k 0) - entry_count (get_or es k d))) (drop_all (k + 1) es (last n at)))
  where
    last : length starts ≡ length es → get_or starts k 0 ≡ length (usage_list (take k es)) → length es ≤ k + 1
    last n at = by_test (nat_lt (k + 1) (length es)) refl
      where
        by_test : (b : Bool) → nat_lt (k + 1) (length es) ≡ b → length es ≤ k + 1
        by_test false t = grind (arith, nat_tests)
        by_test true t =
            let more : k + 1 < length es = grind (arith, nat_tests) in
            absurd (omega (arith, more, at, past, low, next (omega (arith, more, n)), next_start es k d within, ap (λ l. get_or l (k + 1) 0) s, starts-get 0 es (k + 1) more))

-- the last range begins after the usages of the others, and ends the list
pub counted : (es : List Entry) (starts : List ℕ) (k : ℕ) (d : Entry) → starts ≡ starts_of es → k + 1 ≡ length es → get_or starts k 0 + entry_count (get_or es k d) ≡ length (usage_list es)
counted es starts k d s n =
    let within : k < length es = omega (arith, n) in
    omega (arith, at_start es starts k s within, next_start es k d within, ap (λ l. length (usage_list l)) (ap (λ m. take m es) n ∙ take_all (length es) es (omega arith)))

pub none_by_start : (es : List Entry) (starts : List ℕ) (index : ℕ) → starts ≡ starts_of es → (0 < length starts → index < get_or starts 0 0) → None ≡ slice_get (usage_list es) index
none_by_start [] starts index s next = refl
none_by_start (e ∷ es) starts index s next = absurd (omega (arith, next (omega (arith, ap length s)), ap (λ l. get_or l 0 0) s))
