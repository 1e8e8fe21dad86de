-- Expectations of other devices, one by one.
use Rattle.std.proofs.Common.{◌≡◌, ℕ, zero, suc, ◌+◌, ◌<◌, ◌≤◌, length, get_or, Bool, true, false, List, [], ◌∷◌, drop, Option, Some, None, cond, refl, sym, ap, ◌∙◌, arith}
use Rattle.std.specs.List.{slice_get}
use Rattle.std.proofs.lemmas.Option.{slice_get_past, slice_get_read}
use Rattle.hid_snapshots.proofs.ListLemmas.{drop_at}
use Rattle.lab_serving.specs.declared.expecting.Expecting.{Expecting}
use Rattle.lab_serving.specs.Expecting.{is_of_other}
use Rattle.lab_serving.specs.Advancing.{others}

-- what was read of a list stands in it
pub read_there : (read all : List Expecting) (at : ℕ) (x : Expecting) → read ≡ all → at < length read → x ≡ get_or read at x
    → slice_get all at ≡ Some x
read_there read all at x same within is =
    ap (λ xs. slice_get xs at) (sym same) ∙ slice_get_read read (length read) at x refl within is

-- a place past the end of what was read has nothing
pub read_past : (read all : List Expecting) (at : ℕ) → read ≡ all → length read ≤ at → slice_get all at ≡ None
read_past read all at same past = ap (λ xs. slice_get xs at) (sym same) ∙ slice_get_past read at past

others_step : (place : Option ℕ) (x : Expecting) (more : List Expecting)
    → others place (x ∷ more) ≡ cond (is_of_other place x) (suc (others place more)) 0
unfolding others
others_step place x more = refl

others_at : (place : Option ℕ) (all : List Expecting) (at : ℕ) (x : Expecting) → slice_get all at ≡ Some x
    → others place (drop at all) ≡ cond (is_of_other place x) (suc (others place (drop (at + 1) all))) 0
others_at place all at x is = ap (others place) (drop_at all at x is) ∙ others_step place x (drop (at + 1) all)

-- an expectation of another device is passed over
pub other_passed : (place : Option ℕ) (all : List Expecting) (at total : ℕ) (x : Expecting) (is_other : Bool)
    → at + others place (drop at all) ≡ total → slice_get all at ≡ Some x → is_other ≡ is_of_other place x → is_other ≡ true
    → (at + 1) + others place (drop (at + 1) all) ≡ total
other_passed place all at total x is_other is found agrees here =
    let step : others place (drop at all) ≡ suc (others place (drop (at + 1) all)) =
    others_at place all at x found ∙ ap (λ t. cond t (suc (others place (drop (at + 1) all))) 0) (sym agrees ∙ here) in
    omega (arith, step, is)

-- an expectation of this device isn't
pub other_found : (place : Option ℕ) (all : List Expecting) (at total : ℕ) (x : Expecting) (is_other : Bool)
    → at + others place (drop at all) ≡ total → slice_get all at ≡ Some x → is_other ≡ is_of_other place x → is_other ≡ false
    → at ≡ total
other_found place all at total x is_other is found agrees here =
    let step : others place (drop at all) ≡ 0 =
    others_at place all at x found ∙ ap (λ t. cond t (suc (others place (drop (at + 1) all))) 0) (sym agrees ∙ here) in
    omega (arith, step, is)

no_others : (place : Option ℕ) (all : List Expecting) (at : ℕ) → slice_get all at ≡ None → others place (drop at all) ≡ 0
unfolding others
no_others place [] zero none = refl
no_others place [] (suc at) none = refl
no_others place (x ∷ more) zero none = absurd (cc)
no_others place (x ∷ more) (suc at) none = no_others place more at none

-- none is left
pub other_end : (place : Option ℕ) (all : List Expecting) (at total : ℕ) → at + others place (drop at all) ≡ total
    → slice_get all at ≡ None → at ≡ total
other_end place all at total is none = let step : others place (drop at all) ≡ 0 = no_others place all at none in omega (arith, step, is)
