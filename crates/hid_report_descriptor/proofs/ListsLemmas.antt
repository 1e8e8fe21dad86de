-- A list put after the others leaves those where they stand.
use Rattle.std.proofs.Common.{length-append, Some, unwrap_or, ◌≡◌, ℕ, zero, suc, ◌+◌, ◌-◌, ◌≤◌, List, [], ◌∷◌, ◌++◌, length, take, drop, refl, sym, ap, ◌∙◌, arith}
use Rattle.std.specs.List.{slice_get, slice_range}
use Rattle.std.specs.Option.{option_map}
use Rattle.std.proofs.lemmas.Option.{slice_get-map}
use Rattle.std.proofs.lemmas.List.{map-append, take-append-le, drop-append-le, length-drop}
use Rattle.std.proofs.Math.Seq.{drop-append_seam, take-length}
use Rattle.hid_report_descriptor.specs.declared.span.Span.{Span}
use Rattle.hid_report_descriptor.specs.ListSpans.{lists_at, AreWithin}

pub range_kept : {T : Type 0} (values more : List T) (a b : ℕ) → a ≤ b → b ≤ length values → slice_range (values ++ more) a b ≡ slice_range values a b
range_kept values more a b le within =
    ap (take (b - a)) (drop-append-le a values more (omega arith)) ∙ take-append-le (b - a) (drop a values) more (omega (arith, length-drop a values))

pub range_added : {T : Type 0} (values more : List T) (a b : ℕ) → a ≡ length values → b ≡ length values + length more → slice_range (values ++ more) a b ≡ more
range_added values more a b start end =
    let n : b - a ≡ length more = omega arith in
    rw start (ap (take (b - length values)) (drop-append_seam values more) ∙ ap (λ k. take k more) (omega arith) ∙ take-length more)

lists_kept : {T : Type 0} (values more : List T) (spans : List Span) → AreWithin values spans → lists_at (values ++ more) spans ≡ lists_at values spans
lists_kept values more [] w = refl
lists_kept values more (span ∷ spans) w =
    let h : (span.start ≤ span.end) × (span.end ≤ length values) = w zero span refl in
    let e : slice_range (values ++ more) span.start span.end ≡ slice_range values span.start span.end = range_kept values more span.start span.end h.0 h.1 in
    let r : lists_at (values ++ more) spans ≡ lists_at values spans = lists_kept values more spans (λ i s at. w (suc i) s at) in
    cc

-- one more list
pub lists_more : {T : Type 0} (values more : List T) (spans : List Span) (a b : ℕ) → AreWithin values spans → a ≡ length values → b ≡ length values + length more
    → lists_at (values ++ more) (spans ++ record { start = a; end = b } ∷ []) ≡ lists_at values spans ++ more ∷ []
lists_more {T} values more spans a b w start end =
    let f : Span → List T = λ span. slice_range (values ++ more) span.start span.end in
    map-append f spans (record { start = a; end = b } ∷ [])
    ∙ ap (λ l. l ++ slice_range (values ++ more) a b ∷ []) (lists_kept values more spans w)
    ∙ ap (λ l. lists_at values spans ++ l ∷ []) (range_added values more a b start end)

-- the list at a place
pub list_there : {T : Type 0} (values : List T) (spans : List Span) (i : ℕ) (span : Span) → slice_get spans i ≡ Some span → slice_get (lists_at values spans) i ≡ Some (slice_range values span.start span.end)
list_there {T} values spans i span e =
    let f : Span → List T = λ s. slice_range values s.start s.end in
    slice_get-map f spans i ∙ ap (option_map f) e

-- the places still lie among the values, with one more
within_at : {T : Type 0} (values more : List T) (spans : List Span) (s : Span) → AreWithin values spans → s.start ≡ length values → s.end ≡ length values + length more
    → (i : ℕ) (span : Span) → slice_get (spans ++ s ∷ []) i ≡ Some span → (span.start ≤ span.end) × (span.end ≤ length (values ++ more))
within_at values more [] s w start end zero span e =
    let same : s ≡ span = ap (λ o. unwrap_or o s) e in
    let a : span.start ≡ length values = ap (λ (x : Span). x.start) (sym same) ∙ start in
    let b : span.end ≡ length values + length more = ap (λ (x : Span). x.end) (sym same) ∙ end in (omega arith, omega (arith, length-append values more))
within_at values more [] s w start end (suc i) span e = absurd (cc)
within_at values more (x ∷ spans) s w start end zero span e =
    let old : (span.start ≤ span.end) × (span.end ≤ length values) = w zero span e in (old.0, omega (arith, old.1, length-append values more))
within_at values more (x ∷ spans) s w start end (suc i) span e = within_at values more spans s (λ k t at. w (suc k) t at) start end i span e

pub within_more : {T : Type 0} (values more : List T) (spans : List Span) (s : Span) → AreWithin values spans → s.start ≡ length values → s.end ≡ length values + length more → AreWithin (values ++ more) (spans ++ s ∷ [])
within_more values more spans s w start end = λ i span e. within_at values more spans s w start end i span e

-- the last of a list, or an earlier one
pub data Placed {A : Type 0} (xs : List A) (x : A) (j : ℕ) (y : A) : Type 0 where
  earlier : slice_get xs j ≡ Some y → Placed xs x j y
  last : j ≡ length xs → x ≡ y → Placed xs x j y

placed_next : {A : Type 0} (z : A) (xs : List A) (x : A) (j : ℕ) (y : A) → Placed xs x j y → Placed (z ∷ xs) x (suc j) y
placed_next z xs x j y (earlier e) = earlier e
placed_next z xs x j y (last n e) = last (ap suc n) e

pub placed : {A : Type 0} (xs : List A) (x : A) (j : ℕ) (y : A) → slice_get (xs ++ x ∷ []) j ≡ Some y → Placed xs x j y
placed [] x zero y e = last refl (ap (λ o. unwrap_or o x) e)
placed [] x (suc j) y e = absurd (cc)
placed (z ∷ xs) x zero y e = earlier e
placed (z ∷ xs) x (suc j) y e = placed_next z xs x j y (placed xs x j y e)
