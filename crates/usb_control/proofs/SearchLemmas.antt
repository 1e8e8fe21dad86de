-- The first descriptor of a kind among descriptors one after another.
use Rattle.std.proofs.Common.{◌≡◌, ℕ, suc, ◌+◌, ◌≤◌, refl, sym, ◌∙◌, ap, subst, Bool, true, false, List, [], ◌∷◌, ◌++◌, length, take, drop, Some, None, arith, append_assoc, length-append}
use Rattle.std.specs.Prelude.{find}
use Rattle.std.specs.List.{before_first, after_first, position_or_len}
use Rattle.std.proofs.lemmas.List.{drop-drop, length-drop}
use Rattle.std.proofs.Math.Seq.{take-add, take-append_seam, drop-append_seam, drop-append-add}
use Rattle.usb_control.specs.Descriptors.{IsDescriptor, IsWalk}
use Rattle.usb_control.proofs.WalkLemmas.{goes_on, ended, walk_append, walk_of_one}

abbrev pub AllFail : (List ℕ → Bool) → List (List ℕ) → Type 0
AllFail test [] = Unit {0}
AllFail test (d ∷ ds) = (test d ≡ false) × AllFail test ds

fail_append : (test : List ℕ → Bool) (ds : List (List ℕ)) (d : List ℕ) → AllFail test ds → test d ≡ false → AllFail test (ds ++ d ∷ [])
fail_append test [] d h e = (e, tt)
fail_append test (x ∷ ds) d h e = (h.0, fail_append test ds d h.1 e)

find_behind : (test : List ℕ → Bool) (ds es : List (List ℕ)) → AllFail test ds → find test (ds ++ es) ≡ find test es
find_behind test [] es h = refl
find_behind test (d ∷ ds) es h = rw h.0 (find_behind test ds es h.1)

place_behind : (test : List ℕ → Bool) (ds es : List (List ℕ)) → AllFail test ds → position_or_len test (ds ++ es) ≡ length ds + position_or_len test es
place_behind test [] es h = omega arith
place_behind test (d ∷ ds) es h = rw h.0 (omega (arith, place_behind test ds es h.1))

place_here : (test : List ℕ → Bool) (d : List ℕ) (es : List (List ℕ)) → test d ≡ true → position_or_len test (d ∷ es) ≡ 0
place_here test d es h = rw h refl

-- what a search has passed: the bytes before it and those after it, by descriptors of which none before it is wanted
pub record Passed (test : List ℕ → Bool) (ds : List (List ℕ)) (front back : List ℕ) : Type 0 where
  pub before : List (List ℕ)
  pub behind : List (List ℕ)
  pub split : ds ≡ before ++ behind
  pub front_walk : IsWalk front before
  pub back_walk : IsWalk back behind
  pub none : AllFail test before

pub nothing_passed : (test : List ℕ → Bool) (ds : List (List ℕ)) (bytes : List ℕ) → IsWalk bytes ds → Passed test ds [] bytes
nothing_passed test ds bytes walk = record {
  before = [];
  behind = ds;
  split = refl;
  front_walk = record { each = tt; whole = refl };
  back_walk = walk;
  none = tt;
}

pub one_passed : (test : List ℕ → Bool) (ds : List (List ℕ)) (front d behind : List ℕ) → IsDescriptor d → test d ≡ false → Passed test ds front (d ++ behind) → Passed test ds (front ++ d) behind
one_passed test ds front d behind is fails p =
    let next = goes_on d behind p.behind is p.back_walk in
    record {
      before = p.before ++ d ∷ [];
      behind = next.rest;
      split = p.split ∙ ap (λ (xs : List (List ℕ)). p.before ++ xs) next.split ∙ sym (append_assoc p.before (d ∷ []) next.rest);
      front_walk = walk_append front d p.before (d ∷ []) p.front_walk (walk_of_one d is);
      back_walk = next.walk;
      none = fail_append test p.before d p.none fails;
    }

-- where the next descriptor is wanted
pub record Found (test : List ℕ → Bool) (ds : List (List ℕ)) (front d behind : List ℕ) : Type 0 where
  pub first : find test ds ≡ Some d
  pub before : IsWalk front (before_first test ds)
  pub after : IsWalk behind (after_first test ds)

found_at : (test : List ℕ → Bool) (ds es : List (List ℕ)) (front d behind : List ℕ) → AllFail test ds → test d ≡ true → IsWalk front ds → IsWalk behind es → Found test (ds ++ d ∷ es) front d behind
found_at test ds es front d behind none is h g =
    let place : position_or_len test (ds ++ d ∷ es) ≡ length ds = place_behind test ds (d ∷ es) none ∙ ap (λ (n : ℕ). length ds + n) (place_here test d es is) ∙ omega arith in
    let front_is : before_first test (ds ++ d ∷ es) ≡ ds = ap (λ (n : ℕ). take n (ds ++ d ∷ es)) place ∙ take-append_seam ds (d ∷ es) in
    let back_is : after_first test (ds ++ d ∷ es) ≡ es = ap (λ (n : ℕ). drop (n + 1) (ds ++ d ∷ es)) place ∙ drop-append-add ds (d ∷ es) 1 in
    record {
      first = find_behind test ds (d ∷ es) none ∙ rw is refl;
      before = subst (λ (xs : List (List ℕ)). IsWalk front xs) (sym front_is) h;
      after = subst (λ (xs : List (List ℕ)). IsWalk behind xs) (sym back_is) g;
    }

pub found : (test : List ℕ → Bool) (ds : List (List ℕ)) (front d behind : List ℕ) → IsDescriptor d → test d ≡ true → Passed test ds front (d ++ behind) → Found test ds front d behind
found test ds front d behind is passes p =
    let next = goes_on d behind p.behind is p.back_walk in
    let split : ds ≡ p.before ++ d ∷ next.rest = p.split ∙ ap (λ (xs : List (List ℕ)). p.before ++ xs) next.split in
    subst (λ (xs : List (List ℕ)). Found test xs front d behind) (sym split)
    (found_at test p.before next.rest front d behind p.none passes p.front_walk next.walk)

pub none_found : (test : List ℕ → Bool) (ds : List (List ℕ)) (front back : List ℕ) → ((d behind : List ℕ) → IsDescriptor d → back ≡ d ++ behind → ⊥) → Passed test ds front back → find test ds ≡ None
none_found test ds front back stops p =
    let e = (ended back p.behind stops p.back_walk).0 in
    ap (find test) (p.split ∙ ap (λ (xs : List (List ℕ)). p.before ++ xs) e) ∙ find_behind test p.before [] p.none

-- without any interface after it, all descriptors belong to the interface
pub all_before : (test : List ℕ → Bool) (ds : List (List ℕ)) → find test ds ≡ None → before_first test ds ≡ ds
all_before test [] h = refl
all_before test (d ∷ ds) h = by (test d) refl h (all_before test ds)
  where
    by : (b : Bool) → test d ≡ b → find test (d ∷ ds) ≡ None → (find test ds ≡ None → before_first test ds ≡ ds) → before_first test (d ∷ ds) ≡ d ∷ ds
    by true e h more = let g : Some d ≡ None = sym (rw e refl) ∙ h in cc
    by false e h more =
        let place : position_or_len test (d ∷ ds) ≡ suc (position_or_len test ds) = rw e (omega arith) in
        let rest : find test ds ≡ None = rw e at h in
        ap (λ (n : ℕ). take n (d ∷ ds)) place ∙ ap (λ (xs : List (List ℕ)). d ∷ xs) (more rest)

-- the cut moves after the next descriptor
pub record CutBehind (bytes d behind : List ℕ) (at : ℕ) : Type 0 where
  pub within : at + length d ≤ length bytes
  pub front : take (at + length d) bytes ≡ take at bytes ++ d
  pub back : drop (at + length d) bytes ≡ behind

pub cut_behind : (bytes d behind : List ℕ) (at : ℕ) → at ≤ length bytes → drop at bytes ≡ d ++ behind → CutBehind bytes d behind at
cut_behind bytes d behind at le e = record {
  within = omega (arith, ap (λ (l : List ℕ). length l) e, length-append d behind, length-drop at bytes);
  front = take-add at (length d) bytes ∙ ap (λ (l : List ℕ). take at bytes ++ take (length d) l) e ∙ ap (λ (l : List ℕ). take at bytes ++ l) (take-append_seam d behind);
  back = sym (drop-drop (length d) at bytes) ∙ ap (drop (length d)) e ∙ drop-append_seam d behind;
}

pub passed_more : (test : List ℕ → Bool) (ds : List (List ℕ)) (bytes rest d behind : List ℕ) (at : ℕ) → take (at + length d) bytes ≡ take at bytes ++ d → rest ≡ d ++ behind → IsDescriptor d → test d ≡ false → Passed test ds (take at bytes) rest → Passed test ds (take (at + length d) bytes) behind
passed_more test ds bytes rest d behind at front e is fails p =
    rw front (one_passed test ds (take at bytes) d behind is fails (subst (λ (xs : List ℕ). Passed test ds (take at bytes) xs) e p))
