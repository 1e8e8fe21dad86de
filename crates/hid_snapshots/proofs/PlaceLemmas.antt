-- Pressed keys by rising place.
use Rattle.std.proofs.Common.{◌≡◌, ℕ, zero, suc, ◌+◌, ◌-◌, ◌<◌, ◌≤◌, inl, inr, sym, List, [], ◌∷◌, length, drop, Some, Bool, true, false, refl, ap, ◌∙◌, arith, ℤ, pos, ◌+ℤ◌}
use Rattle.std.specs.List.{slice_get}
use Rattle.std.proofs.lemmas.Bool.{cases_lt}
use Rattle.std.proofs.lemmas.List.{drop_all}
use Rattle.std.proofs.lemmas.Option.{slice_get-get_or, unwrap_or-slice_get}
use Rattle.hid_snapshots.specs.ControlStates.{switch_count}
use Rattle.hid_snapshots.specs.Words.{is_on, IsFirst}
use Rattle.hid_snapshots.specs.Sending.{pressed_places_from}
use Rattle.hid_snapshots.proofs.ListLemmas.{cons_count, drop_at}

-- as many numbers as pressed keys
pub pressed_places_from-length : (min : ℤ) (i : ℕ) (ps : List Bool)
    → length (pressed_places_from min i ps) ≡ switch_count ps
pressed_places_from-length min i [] = refl
pressed_places_from-length min i (true ∷ ps) =
    omega (arith, pressed_places_from-length min (i + 1) ps, cons_count true ps)
pressed_places_from-length min i (false ∷ ps) =
    omega (arith, pressed_places_from-length min (i + 1) ps, cons_count false ps)

-- a place that is known to be pressed or not
place_is : (ps : List Bool) (i : ℕ) (b : Bool) → i < length ps → is_on ps i ≡ b → slice_get ps i ≡ Some b
place_is ps i b h e = slice_get-get_or ps i false h ∙ ap Some (sym (unwrap_or-slice_get ps i false) ∙ e)

-- Where nothing is pressed from one place up to another, there is no number.
placed_quiet : (min : ℤ) (ps : List Bool) (from n : ℕ) → from + n ≤ length ps → ((i : ℕ) → from ≤ i → i < from + n → is_on ps i ≡ false)
    → pressed_places_from min from (drop from ps) ≡ pressed_places_from min (from + n) (drop (from + n) ps)
placed_quiet min ps from zero within quiet =
    let e : from ≡ from + 0 = omega arith in
    ap (λ k. pressed_places_from min k (drop k ps)) e
placed_quiet min ps from (suc n) within quiet =
    let e : (from + n) + 1 ≡ from + suc n = omega arith in
    let here = place_is ps (from + n) false (omega arith) (quiet (from + n) (omega arith) (omega arith)) in
    placed_quiet min ps from n (omega arith) (λ i a b. quiet i a (omega arith))
    ∙ ap (pressed_places_from min (from + n)) (drop_at ps (from + n) false here)
    ∙ ap (λ k. pressed_places_from min k (drop k ps)) e

-- the first number is that of the first pressed key
pub placed_next : (min : ℤ) (ps : List Bool) (from place : ℕ) → IsFirst (is_on ps) from (length ps) place
    → pressed_places_from min from (drop from ps) ≡ (min +ℤ pos place)
    ∷ pressed_places_from min (place + 1) (drop (place + 1) ps)
placed_next min ps from place first =
    let low = first.low in
    let high = first.high in
    let e : from + (place - from) ≡ place = omega arith in
    placed_quiet min ps from (place - from) (omega arith) (λ i a b. first.before i a (omega arith))
    ∙ ap (λ k. pressed_places_from min k (drop k ps)) e
    ∙ ap (pressed_places_from min place) (drop_at ps place true (place_is ps place true high first.hit))

-- where nothing is pressed from one place on, no number is left
pub placed_none : (min : ℤ) (ps : List Bool) (from : ℕ) → ((i : ℕ) → from ≤ i → i < length ps → is_on ps i ≡ false)
    → pressed_places_from min from (drop from ps) ≡ []
placed_none min ps from none = elim (cases_lt from (length ps)) [
  | inl below ↦
      let e : from + (length ps - from) ≡ length ps = omega arith in
      placed_quiet min ps from (length ps - from) (omega arith) (λ i a b. none i a (omega arith))
      ∙ ap (λ k. pressed_places_from min k (drop k ps)) e
      ∙ ap (pressed_places_from min (length ps)) (drop_all (length ps) ps (omega arith))
  | inr past ↦ ap (pressed_places_from min from) (drop_all from ps past)
]
