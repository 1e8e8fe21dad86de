-- What a part shows of an item is told from its codes: null lies out of the range, the empty code names nothing, and the
-- rollover code names ErrorRollOver.
use Rattle.std.proofs.Common.{◌≡◌, ℕ, zero, suc, ◌+◌, ◌-◌, ◌^◌, ◌<◌, ◌≤◌, ◌⊎◌, inl, inr, not, ◌&&◌, ◌||◌, ◌==◌, Bool, true, false, cond, nat_lt, List, [], ◌∷◌, take, replicate, Option, Some, None, ℤ, pos, negsuc, ◌+ℤ◌, ◌-ℤ◌, ◌≤ℤ◌, refl, sym, ap, ◌∙◌, subst, arith}
use Rattle.std.specs.Prelude.{int_lt}
use Rattle.std.specs.List.{slice_get, list_any}
use Rattle.std.specs.Option.{option_map, is_some}
use Rattle.std.specs.Int.Signed.{le_z}
use Rattle.std.specs.Ordering.{int_eq}
use Rattle.std.proofs.lemmas.Int.{ints, int_min_is, int_max_is}
use Rattle.std.proofs.lemmas.Nat.{pow_pos}
use Rattle.std.proofs.lemmas.Bool.{cases_lt, cases_Bool}
use Rattle.std.proofs.lemmas.Bool.Decides.{Decides-int_eq}
use Rattle.std.proofs.lemmas.List.Folds.{list_any-append}
use Rattle.hid_fields.specs.Value.{is_negative}
use Rattle.hid_fields.proofs.ValueLemmas.{twice_half}
use Rattle.hid_layout.specs.declared.main_item.MainItem.{MainItem}
use Rattle.hid_report_descriptor.specs.declared.shape.Shape.{Shape}
use Rattle.hid_report_descriptor.specs.declared.shape.Shape.TheVariants.{Padding, Variable, Array}
use Rattle.hid_report_descriptor.specs.declared.usage.Usage.{Usage}
use Rattle.hid_layout.specs.declared.control.ControlKind.{ControlKind}
use Rattle.hid_layout.specs.declared.control.ControlKind.TheVariants.{Switch, Value, NullValue, Relative}
use Rattle.hid_report_descriptor.specs.Faults.{least_value, greatest_value}
use Rattle.hid_report_descriptor.specs.Flags.{has_flag, RELATIVE, NULL_STATE}
use Rattle.hid_report_descriptor.specs.Fields.{is_padding}
use Rattle.hid_layout.specs.Reports.{HasElements}
use Rattle.hid_layout.specs.Controls.{Elements, Keys, least_of, greatest_of, is_encodable, has_outside, element_kind, is_key, keys_from, key_places, rollover_from, has_place, form_of, controls_of_form, spread_usages, array_keys}
use Rattle.hid_report_descriptor.specs.Usages.{is_keyboard_error, is_rollover}
use Rattle.hid_layout.specs.Codes.{is_in, at_zero, place_named, number_of_pattern, first_passing, least_pattern, names_nothing, null_number, empty_number, rollover_number}
use Rattle.hid_layout.proofs.PatternLemmas.{greatest_at, least_at, plain, low, high}
use Rattle.hid_snapshots.specs.declared.control_state.ControlState.{ControlState}
use Rattle.hid_snapshots.specs.declared.control_state.ControlState.TheVariants.{Absent, Switches, Values, Motions, RollOver}
use Rattle.hid_snapshots.specs.ControlStates.{has_null, are_pressable, HasRoom, InPart}
use Rattle.hid_usages.specs.Reading.{is_rollover_at, names_rollover}
use Rattle.hid_snapshots.specs.Sending.{or_zero, pressed_places_from, switch_count}
use Rattle.hid_usages.specs.NumbersReadBack.{names_no_key, IsPart}
use Rattle.hid_snapshots.proofs.CodeLemmas.{test_true, true_test, both_true}
use Rattle.hid_usages.proofs.KeyLemmas.{rollover_named}
use Rattle.hid_usages.proofs.LawLemmas.{any_of_same}

-- the least number that passes, passes
passes : (test : ℕ → Bool) (from count p : ℕ) → first_passing test from count ≡ Some p → test p ≡ true
unfolding first_passing
passes test from zero p h = absurd (cc)
passes test from (suc count) p h = by_test (passes test (from + 1) count p) (test from) refl h
  where
    by_test : (first_passing test (from + 1) count ≡ Some p → test p ≡ true) → (b : Bool) → test from ≡ b → cond b (Some from) (first_passing test (from + 1) count) ≡ Some p → test p ≡ true
    by_test rest true e k = let same : from ≡ p = cc in rw (← same) e
    by_test rest false e k = rest k

-- where no number is the least that passes, none passes
fails : (test : ℕ → Bool) (from count p : ℕ) → first_passing test from count ≡ None → from ≤ p → p < from + count → test p ≡ false
unfolding first_passing
fails test from zero p h low high = absurd (omega arith)
fails test from (suc count) p h low high = by_test (fails test (from + 1) count p) (test from) refl h
  where
    at_first : (b : Bool) → test from ≡ false → (from < p) ⊎ (p ≤ from) → (from < p → test p ≡ false) → test p ≡ false
    at_first b e (inl lt) rest = rest lt
    at_first b e (inr ge) rest = let same : p ≡ from = omega arith in rw same e

    by_test : (first_passing test (from + 1) count ≡ None → from + 1 ≤ p → p < (from + 1) + count → test p ≡ false) → (b : Bool) → test from ≡ b → cond b (Some from) (first_passing test (from + 1) count) ≡ None → test p ≡ false
    by_test rest true e k = absurd (cc)
    by_test rest false e k = at_first false e (cases_lt from p) (λ lt. rest k (omega arith) (omega arith))

-- the number of the code that a test finds passes it
code_passes : (m : MainItem) (test : ℤ → Bool)
    → is_some (option_map (number_of_pattern m) (least_pattern m test)) ≡ true
    → test (or_zero (option_map (number_of_pattern m) (least_pattern m test))) ≡ true
code_passes m test there = by_code (least_pattern m test) refl there
  where
    by_code : (o : Option ℕ) → least_pattern m test ≡ o → is_some (option_map (number_of_pattern m) o) ≡ true
        → test (or_zero (option_map (number_of_pattern m) o)) ≡ true
    by_code None e h = absurd (cc)
    by_code (Some p) e h = passes (λ pattern. test (number_of_pattern m pattern)) 0 (2 ^ m.size) p e

-- a code that some pattern's number passes is there
code_there : (m : MainItem) (test : ℤ → Bool) (p : ℕ) → p < 2 ^ m.size → test (number_of_pattern m p) ≡ true
    → is_some (option_map (number_of_pattern m) (least_pattern m test)) ≡ true
code_there m test p fits ok = by_code (least_pattern m test) refl
  where
    by_code : (o : Option ℕ) → least_pattern m test ≡ o → is_some (option_map (number_of_pattern m) o) ≡ true
    by_code None e = let no_pass =
        fails (λ pattern. test (number_of_pattern m pattern)) 0 (2 ^ m.size) p e (omega arith) (omega arith) in
        absurd (cc)
    by_code (Some q) e = refl

-- the patterns of the least and the greatest number
pub record IsPatternOf (m : MainItem) (v : ℤ) : Type 0 where
  pub pattern : ℕ
  pub fits : pattern < 2 ^ m.size
  pub is : number_of_pattern m pattern ≡ v

least_pattern_of : (m : MainItem) → 0 < m.size → IsPatternOf m (least_value m.min m.size)
least_pattern_of m some = by_sign (is_negative m.min) refl
  where
    by_sign : (s : Bool) → is_negative m.min ≡ s → IsPatternOf m (least_value m.min m.size)
    by_sign true e =
        let twice = twice_half m.size some in
        let half = pow_pos (m.size - 1) in
        record {
          pattern = 2 ^ (m.size - 1);
          fits = omega arith;
          is = high m (2 ^ (m.size - 1)) e some (omega arith) (omega arith) ∙ omega (arith, ints, least_at m.min m.size true e);
        }
    by_sign false e = record { pattern = 0; fits = pow_pos m.size; is = plain m 0 e ∙ sym (least_at m.min m.size false e) }

greatest_pattern_of : (m : MainItem) → 0 < m.size → IsPatternOf m (greatest_value m.min m.size)
greatest_pattern_of m some = by_sign (is_negative m.min) refl
  where
    by_sign : (s : Bool) → is_negative m.min ≡ s → IsPatternOf m (greatest_value m.min m.size)
    by_sign true e =
        let twice = twice_half m.size some in
        let half = pow_pos (m.size - 1) in
        record {
          pattern = 2 ^ (m.size - 1) - 1;
          fits = omega arith;
          is = low m (2 ^ (m.size - 1) - 1) (omega arith) ∙ sym (greatest_at m.min m.size true e);
        }
    by_sign false e = let some_pattern = pow_pos m.size in record { pattern = 2 ^ m.size - 1; fits = omega arith; is = plain m (2 ^ m.size - 1) e ∙ sym (greatest_at m.min m.size false e) }

outside_low : (min max v : ℤ) → int_lt v min ≡ true → not (is_in min max v) ≡ true
outside_low min max v h = elim (cases_Bool (is_in min max v)) [
  | inl e ↦ let within : min ≤ℤ v = record { le = true_test (le_z min v) ((both_true _ _ e).0) } in absurd (omega (arith, ints))
  | inr e ↦ rw e refl
]

outside_high : (min max v : ℤ) → int_lt max v ≡ true → not (is_in min max v) ≡ true
outside_high min max v h = elim (cases_Bool (is_in min max v)) [
  | inl e ↦ let within : v ≤ℤ max = record { le = true_test (le_z v max) ((both_true _ _ e).1) } in absurd (omega (arith, ints))
  | inr e ↦ rw e refl
]

-- an item with a pattern out of its range has a null code
null_there : (m : MainItem) → 0 < m.size → has_outside m ≡ true → is_some (null_number m) ≡ true
null_there m some out = by_side (int_lt (least_value m.min m.size) m.min) (int_lt m.max (greatest_value m.min m.size)) refl refl out
  where
    by_side : (a b : Bool) → int_lt (least_value m.min m.size) m.min ≡ a → int_lt m.max (greatest_value m.min m.size) ≡ b → (a || b) ≡ true → is_some (null_number m) ≡ true
    by_side true b e f h = let p = least_pattern_of m some in code_there m (λ v. not (is_in m.min m.max v)) p.pattern p.fits (rw p.is (outside_low m.min m.max (least_value m.min m.size) e))
    by_side false true e f h = let p = greatest_pattern_of m some in code_there m (λ v. not (is_in m.min m.max v)) p.pattern p.fits (rw p.is (outside_high m.min m.max (greatest_value m.min m.size) f))
    by_side false false e f h = absurd (cc)

-- a number that can be sent lies in the logical range
in_range : (m : MainItem) (v : ℤ) → is_in (least_of m) (greatest_of m) v ≡ true → (m.min ≤ℤ v) × (v ≤ℤ m.max)
in_range m v h =
    let both = both_true (le_z (least_of m) v) (le_z v (greatest_of m)) h in
    let lower : least_of m ≤ℤ v = record { le = true_test (le_z (least_of m) v) both.0 } in
    let upper : v ≤ℤ greatest_of m = record { le = true_test (le_z v (greatest_of m)) both.1 } in
    let a = int_max_is m.min (least_value m.min m.size) in
    let b = int_min_is m.max (greatest_value m.min m.size) in
    (omega (arith, ints, a), omega (arith, ints, b))

is_within : (min max v : ℤ) → min ≤ℤ v → v ≤ℤ max → is_in min max v ≡ true
is_within min max v a b = rw (test_true (le_z min v) a.le, test_true (le_z v max) b.le) refl

-- null can't be mistaken for a value
null_outside : (m : MainItem) → 0 < m.size → has_outside m ≡ true → is_in (least_of m) (greatest_of m) (or_zero (null_number m)) ≡ false
null_outside m some out =
    elim (cases_Bool (is_in (least_of m) (greatest_of m) (or_zero (null_number m)))) [
      | inl e ↦
          let within = in_range m (or_zero (null_number m)) e in
          let inside = is_within m.min m.max (or_zero (null_number m)) within.0 within.1 in
          let outside = code_passes m (λ v. not (is_in m.min m.max v)) (null_there m some out) in
          absurd (both_ways (is_in m.min m.max (or_zero (null_number m))) inside outside)
      | inr e ↦ e
    ]
  where
    both_ways : (b : Bool) → b ≡ true → not b ≡ true → ⊥
    both_ways true e f = cc
    both_ways false e f = cc

-- only an item with a pattern out of its range has null
has_outside_where : (m : MainItem) → has_null (element_kind m) ≡ true → has_outside m ≡ true
has_outside_where m h = by_flags (has_flag RELATIVE m.flags.0) (int_eq m.min (pos 0) && int_eq m.max (pos 1) && not (has_flag NULL_STATE m.flags.0)) (has_flag NULL_STATE m.flags.0) (has_outside m) h
  where
    by_flags : (r s n o : Bool) → has_null (cond r Relative (cond s Switch (cond (n && o) NullValue Value))) ≡ true → o ≡ true
    by_flags true s n o e = absurd (cc)
    by_flags false true n o e = absurd (cc)
    by_flags false false true true e = refl
    by_flags false false true false e = absurd (cc)
    by_flags false false false o e = absurd (cc)

-- the usages of a list from a place on
pub StandsFrom : List Usage → ℕ → List Usage → Type 0
StandsFrom us i ks = (j : ℕ) (u : Usage) → slice_get ks j ≡ Some u → slice_get us (i + j) ≡ Some u

stands_here : (us : List Usage) (i : ℕ) (u : Usage) (ks : List Usage) → StandsFrom us i (u ∷ ks) → slice_get us i ≡ Some u
unfolding StandsFrom
stands_here us i u ks at = let z : i + 0 ≡ i = omega arith in rw z at (at 0 u refl)

stands_next : (us : List Usage) (i : ℕ) (u : Usage) (ks : List Usage) → StandsFrom us i (u ∷ ks) → StandsFrom us (i + 1) ks
unfolding StandsFrom
stands_next us i u ks at = λ j v h. let e : (i + 1) + j ≡ i + suc j = omega arith in rw e (at (suc j) v h)

stands_all : (us : List Usage) → StandsFrom us 0 us
unfolding StandsFrom
stands_all us = λ j u h. let e : 0 + j ≡ j = omega arith in rw e h

-- the place that the number of a key names
named_place : (m : MainItem) (i : ℕ) → is_encodable m (m.min +ℤ pos i) ≡ true → place_named m (m.min +ℤ pos i) ≡ Some i
named_place m i h =
    let within = in_range m (m.min +ℤ pos i) h in
    let inside = is_within m.min m.max (m.min +ℤ pos i) within.0 within.1 in
    let place : at_zero ((m.min +ℤ pos i) -ℤ m.min) ≡ i = zero_of ((m.min +ℤ pos i) -ℤ m.min) i (omega (arith, ints)) in
    rw (inside, place) refl
  where
    zero_of : (z : ℤ) (p : ℕ) → z ≡ pos p → at_zero z ≡ p
    zero_of (pos n) p e = cc
    zero_of (negsuc n) p e = absurd (cc)

-- what is told of a place with a usage
nothing_there : (m : MainItem) (us : List Usage) (i : ℕ) (u : Usage) → is_encodable m (m.min +ℤ pos i) ≡ true
    → slice_get us i ≡ Some u → names_nothing m us (m.min +ℤ pos i) ≡ not (is_key m i u || is_keyboard_error u)
nothing_there m us i u h at =
    ap (λ (o : Option ℕ). elim o as
    (λ _. Bool) [
      | None ↦ true
      | Some j ↦
          elim (slice_get us j) as (λ _. Bool) [ None ↦ true | Some w ↦ not (is_key m j w || is_keyboard_error w) ]
    ])
    (named_place m i h)
    ∙ ap (λ (o : Option Usage). elim o as
    (λ _. Bool) [ None ↦ true | Some w ↦ not (is_key m i w || is_keyboard_error w) ]) at

rollover_is : (us : List Usage) (i : ℕ) (u : Usage) → slice_get us i ≡ Some u → is_rollover_at us i ≡ is_rollover u
rollover_is us i u at = ap (λ (o : Option Usage). elim o as (λ _. Bool) [ None ↦ false | Some w ↦ is_rollover w ]) at

-- the empty code names no key
no_key_named : (m : MainItem) (us : List Usage) (code : ℤ) (i : ℕ) (ks : List Usage) → names_nothing m us code ≡ true → StandsFrom us i ks → names_no_key code m.min i (keys_from m i ks)
unfolding keys_from
no_key_named m us code i [] nothing at = tt
no_key_named m us code i (u ∷ ks) nothing at = (λ on. elim (cases_Bool (int_eq code (m.min +ℤ pos i))) [ inl e ↦ absurd (not_both on e) | inr e ↦ e ], no_key_named m us code (i + 1) ks nothing (stands_next us i u ks at))
  where
    on_and_off : (k t : Bool) → k ≡ true → not (k || t) ≡ true → ⊥
    on_and_off true t e f = cc
    on_and_off false t e f = cc

    not_both : is_key m i u ≡ true → int_eq code (m.min +ℤ pos i) ≡ true → ⊥
    not_both on e =
        let same : code ≡ m.min +ℤ pos i = (Decides-int_eq code (m.min +ℤ pos i)).0 e in
        let there = nothing_there m us i u ((both_true _ _ on).0) (stands_here us i u ks at) in
        on_and_off (is_key m i u) (is_keyboard_error u) on (sym there ∙ ap (names_nothing m us) (sym same) ∙ nothing)

-- the empty code doesn't name ErrorRollOver
no_rollover_named : (m : MainItem) (us : List Usage) (v : ℤ) → names_nothing m us v ≡ true → names_rollover m us v ≡ false
no_rollover_named m us v h = by_place (place_named m v) h
  where
    by_error : (u : Usage) (i : ℕ) (k p a b c : Bool) → not (k || (p && (a || (b || c)))) ≡ true → (p && a) ≡ false
    by_error u i true p a b c e = absurd (cc)
    by_error u i false false a b c e = refl
    by_error u i false true false b c e = refl
    by_error u i false true true b c e = absurd (cc)

    by_usage : (i : ℕ) (o : Option Usage)
        → elim o as (λ _. Bool) [ None ↦ true | Some u ↦ not (is_key m i u || is_keyboard_error u) ] ≡ true
        → elim o as (λ _. Bool) [ None ↦ false | Some u ↦ is_rollover u ] ≡ false
    by_usage i None e = refl
    by_usage i (Some u) e = by_error u i (is_key m i u) (u.page == 7) (u.id == 1) (u.id == 2) (u.id == 3) e

    by_place : (o : Option ℕ)
        → elim o as
        (λ _. Bool) [
          | None ↦ true
          | Some i ↦
              elim (slice_get us i) as (λ _. Bool) [ None ↦ true | Some u ↦ not (is_key m i u || is_keyboard_error u) ]
        ]
        ≡ true
        → elim (elim o as (λ _. Option Usage) [ None ↦ None | Some i ↦ slice_get us i ]) as (λ _. Bool) [ None ↦ false | Some u ↦ is_rollover u ] ≡ false
    by_place None e = refl
    by_place (Some i) e = by_usage i (slice_get us i) e

-- a key isn't ErrorRollOver
no_rollover_key : (m : MainItem) (us : List Usage) (i : ℕ) (u : Usage) → is_key m i u ≡ true → slice_get us i ≡ Some u → names_rollover m us (m.min +ℤ pos i) ≡ false
no_rollover_key m us i u on at = rollover_named m us (m.min +ℤ pos i) i refl ∙ ap (λ (b : Bool). le_z (m.min +ℤ pos i) m.max && b) (rollover_is us i u at ∙ no_error (is_encodable m (m.min +ℤ pos i)) (nat_lt i 65536) (u.id == 0) (u.page == 7) (u.id == 1) (u.id == 2) (u.id == 3) on) ∙ last (le_z (m.min +ℤ pos i) m.max)
  where
    no_error : (e n z p a b c : Bool) → (e && (n && (not z && not (p && (a || (b || c)))))) ≡ true → (p && a) ≡ false
    no_error false n z p a b c h = absurd (cc)
    no_error true false z p a b c h = absurd (cc)
    no_error true true true p a b c h = absurd (cc)
    no_error true true false false a b c h = refl
    no_error true true false true false b c h = refl
    no_error true true false true true b c h = absurd (cc)

    last : (b : Bool) → (b && false) ≡ false
    last true = refl
    last false = refl

-- no key that is pressed is ErrorRollOver
no_rollover_placed : (m : MainItem) (us : List Usage) (i : ℕ) (ks : List Usage) (ps : List Bool) → StandsFrom us i ks
    → are_pressable (keys_from m i ks) ps → list_any (names_rollover m us) (pressed_places_from m.min i ps) ≡ false
unfolding keys_from
no_rollover_placed m us i [] [] at ok = refl
no_rollover_placed m us i [] (p ∷ ps) at ok = absurd ok
no_rollover_placed m us i (u ∷ ks) [] at ok = absurd ok
no_rollover_placed m us i (u ∷ ks) (true ∷ ps) at ok =
    rw (no_rollover_key m us i u (ok.0 refl) (stands_here us i u ks at)) (no_rollover_placed m us (i + 1) ks ps (stands_next us i u ks at) ok.1)
no_rollover_placed m us i (u ∷ ks) (false ∷ ps) at ok = no_rollover_placed m us (i + 1) ks ps (stands_next us i u ks at) ok.1

-- the rollover code names ErrorRollOver
rollover_there : (m : MainItem) (us : List Usage) (i n : ℕ) (ks : List Usage) → StandsFrom us i ks → rollover_from m i ks ≡ Some n → (is_rollover_at us n ≡ true) × (is_encodable m (m.min +ℤ pos n) ≡ true)
unfolding rollover_from
rollover_there m us i n [] at h = absurd (cc)
rollover_there m us i n (u ∷ ks) at h = by_test (rollover_there m us (i + 1) n ks (stands_next us i u ks at)) (is_rollover u && is_encodable m (m.min +ℤ pos i)) refl h
  where
    by_test : (rollover_from m (i + 1) ks ≡ Some n → (is_rollover_at us n ≡ true) × (is_encodable m (m.min +ℤ pos n) ≡ true)) → (b : Bool) → (is_rollover u && is_encodable m (m.min +ℤ pos i)) ≡ b
        → cond b (Some i) (rollover_from m (i + 1) ks) ≡ Some n → (is_rollover_at us n ≡ true) × (is_encodable m (m.min +ℤ pos n) ≡ true)
    by_test rest true e k =
        let same : i ≡ n = cc in
        let both = both_true (is_rollover u) (is_encodable m (m.min +ℤ pos i)) e in
        let here : is_rollover_at us i ≡ true = rollover_is us i u (stands_here us i u ks at) ∙ both.0 in
        let P : ℕ → Type 0 = λ p. (is_rollover_at us p ≡ true) × (is_encodable m (m.min +ℤ pos p) ≡ true) in
        subst P same (here, both.1)
    by_test rest false e k = rest k

rolls_over_named : (m : MainItem) (us : List Usage) → has_place (rollover_from m 0 us) ≡ true → names_rollover m us (or_zero (rollover_number m us)) ≡ true
rolls_over_named m us h = by_place (rollover_from m 0 us) refl h
  where
    by_place : (o : Option ℕ) → rollover_from m 0 us ≡ o → has_place o ≡ true → names_rollover m us (or_zero (option_map (λ i. m.min +ℤ pos i) o)) ≡ true
    by_place None e k = absurd (cc)
    by_place (Some n) e k =
        let there = rollover_there m us 0 n us (stands_all us) e in
        let within = in_range m (m.min +ℤ pos n) there.1 in
        rollover_named m us (m.min +ℤ pos n) n refl ∙ rw (test_true (le_z (m.min +ℤ pos n) m.max) within.1.le, there.0) refl

-- a place among the first ones
stands_first : (n : ℕ) (us : List Usage) → StandsFrom us 0 (take n us)
unfolding StandsFrom
stands_first n us = λ j u h. let e : 0 + j ≡ j = omega arith in rw e (first n us j u h)
  where
    first : (n : ℕ) (us : List Usage) (j : ℕ) (u : Usage) → slice_get (take n us) j ≡ Some u → slice_get us j ≡ Some u
    first zero us j u h = absurd (cc)
    first (suc n) [] j u h = absurd (cc)
    first (suc n) (x ∷ us) zero u h = h
    first (suc n) (x ∷ us) (suc j) u h = first n us j u h

keys_part : (m : MainItem) (us : List Usage) (state : ControlState) → HasElements m
    → is_some (empty_number m us) ≡ true
    → HasRoom (controls_of_form (Keys m.count (has_place (rollover_from m 0 us)) (array_keys m us))) state
    → InPart (Keys m.count (has_place (rollover_from m 0 us)) (array_keys m us)) state
    → IsPart m us (Keys m.count (has_place (rollover_from m 0 us)) (array_keys m us)) state
keys_part m us Absent has there room ok = absurd room
keys_part m us (Values vs) has there room ok = absurd room
keys_part m us (Motions ms) has there room ok = absurd room
keys_part m us (RollOver ps) has there room ok = (has.some, rolls_over_named m us ok)
keys_part m us (Switches ps) has there room ok =
    let code = or_zero (empty_number m us) in
    let nothing : names_nothing m us code ≡ true = code_passes m (names_nothing m us) there in
    let at = stands_first 65536 us in
    let rest = m.count - switch_count ps in (
      ok.0,
      no_key_named m us code 0 (key_places us) nothing at,
      list_any-append (names_rollover m us) (pressed_places_from m.min 0 ps) (replicate rest code)
          ∙ rw (no_rollover_placed m us 0 (key_places us) ps at ok.0) (any_of_same (names_rollover m us) rest code (no_rollover_named m us code nothing)),
    )

elements_part : (m : MainItem) (us usages : List Usage) (kind : ControlKind) (state : ControlState) → HasElements m
    → element_kind m ≡ kind → HasRoom (controls_of_form (Elements kind (least_of m) (greatest_of m) usages)) state
    → InPart (Elements kind (least_of m) (greatest_of m) usages) state → IsPart m us (Elements kind (least_of m) (greatest_of m) usages) state
elements_part m us usages kind (Switches ps) has is room ok = tt
elements_part m us usages kind (Values vs) has is room ok =
    (ok, λ null. null_outside m has.some_bits (has_outside_where m (rw is null)))
elements_part m us usages kind (Motions ms) has is room ok = ok
elements_part m us usages Switch Absent has is room ok = absurd room
elements_part m us usages Value Absent has is room ok = absurd room
elements_part m us usages NullValue Absent has is room ok = absurd room
elements_part m us usages Relative Absent has is room ok = absurd room
elements_part m us usages Switch (RollOver ps) has is room ok = absurd room
elements_part m us usages Value (RollOver ps) has is room ok = absurd room
elements_part m us usages NullValue (RollOver ps) has is room ok = absurd room
elements_part m us usages Relative (RollOver ps) has is room ok = absurd room

-- What a report shows of an item is a part of it.
pub is_part : (m : MainItem) (us : List Usage) (shape : Shape) (state : ControlState)
    → (is_padding shape ≡ false → HasElements m) → (shape ≡ Array → is_some (empty_number m us) ≡ true)
    → HasRoom (controls_of_form (form_of m us shape)) state → InPart (form_of m us shape) state
    → IsPart m us (form_of m us shape) state
is_part m us Padding Absent has there room ok = tt
is_part m us Padding (Switches ps) has there room ok = absurd room
is_part m us Padding (Values ps) has there room ok = absurd room
is_part m us Padding (Motions ps) has there room ok = absurd room
is_part m us Padding (RollOver ps) has there room ok = absurd room
is_part m us Variable state has there room ok =
    elements_part m us (spread_usages m.count us) (element_kind m) state (has refl) refl room ok
is_part m us Array state has there room ok = keys_part m us state (has refl) (there refl) room ok

pub ruleset coded = (is_part)
