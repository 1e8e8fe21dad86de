-- What a part shows can be sent: there is a number for each element, and its field can carry it.
use Rattle.std.proofs.Common.{◌≡◌, ℕ, zero, suc, ◌+◌, ◌-◌, ◌^◌, ◌<◌, ◌≤◌, inl, inr, not, ◌&&◌, Bool, true, false, cond, List, [], ◌∷◌, ◌++◌, length, map, replicate, All, Option, Some, None, unwrap_or, get_or, ℤ, pos, negsuc, neg_ℤ, ◌+ℤ◌, ◌≤ℤ◌, length-append, refl, ap, ◌∙◌, arith}
use Rattle.std.specs.Option.{option_map}
use Rattle.std.specs.Int.{int_min, int_max}
use Rattle.std.specs.Prelude.{int_lt}
use Rattle.std.specs.Int.Signed.{le_z}
use Rattle.std.specs.Ordering.{int_eq}
use Rattle.std.proofs.lemmas.List.{length-map, length-replicate, length-take}
use Rattle.std.proofs.lemmas.Int.{ints, int_min_is, int_max_is}
use Rattle.std.proofs.lemmas.Nat.{pow_pos}
use Rattle.std.proofs.lemmas.Bool.{cases_lt}
use Rattle.std.proofs.lemmas.Bool.Decides.{Decides-int_eq}
use Rattle.hid_fields.specs.Value.{value_of, is_negative, FitsField}
use Rattle.hid_fields.proofs.ValueLemmas.{twice_half, value_of-low, value_of-high}
use Rattle.hid_layout.specs.declared.main_item.MainItem.{MainItem}
use Rattle.hid_report_descriptor.specs.declared.shape.Shape.{Shape}
use Rattle.hid_report_descriptor.specs.declared.shape.Shape.TheVariants.{Padding, Variable, Array}
use Rattle.hid_report_descriptor.specs.declared.usage.Usage.{Usage}
use Rattle.hid_layout.specs.declared.control.ControlKind.{ControlKind}
use Rattle.hid_layout.specs.declared.control.ControlKind.TheVariants.{Switch, Value, NullValue, Relative}
use Rattle.hid_report_descriptor.specs.Faults.{least_value, greatest_value}
use Rattle.hid_report_descriptor.specs.Flags.{has_flag, RELATIVE, NULL_STATE}
use Rattle.hid_report_descriptor.specs.Fields.{is_padding}
use Rattle.hid_layout.specs.Reports.{HasElements}
use Rattle.hid_layout.specs.Controls.{Elements, Keys, least_of, greatest_of, is_encodable, element_kind, has_outside, spread_usages, keys_from, key_places, rollover_from, form_of, controls_of_form, array_keys}
use Rattle.hid_report_descriptor.specs.Usages.{is_rollover}
use Rattle.hid_snapshots.specs.declared.control_state.ControlState.{ControlState}
use Rattle.hid_snapshots.specs.declared.control_state.ControlState.TheVariants.{Absent, Switches, Values, Motions, RollOver}
use Rattle.hid_snapshots.specs.ControlStates.{is_in, switch_count, are_values, are_motions, are_pressable, HasRoom, InPart}
use Rattle.hid_layout.specs.Codes.{first_passing}
use Rattle.hid_snapshots.specs.Sending.{number_of_pattern, least_pattern, null_number, empty_number, rollover_number, or_zero, names_nothing, switch_number, pressed_places_from, element_numbers}
use Rattle.hid_snapshots.specs.Encoding.{CanSend, HasFewPlaces}
use Rattle.hid_snapshots.proofs.CodeLemmas.{true_test, both_true}
use Rattle.hid_snapshots.proofs.PlaceLemmas.{pressed_places_from-length}

-- each number can be carried
FitEach : MainItem → List ℤ → Type 0
FitEach m [] = Unit {0}
FitEach m (v ∷ vs) = FitsField v m.size (is_negative m.min) × FitEach m vs

fit_all : (m : MainItem) (vs : List ℤ) → FitEach m vs → All (λ v. FitsField v m.size (is_negative m.min)) vs
unfolding FitEach
fit_all m [] ok = λ k d h. absurd (omega arith)
fit_all m (v ∷ vs) ok = at (fit_all m vs ok.1)
  where
    at : All (λ x. FitsField x m.size (is_negative m.min)) vs → (k : ℕ) (d : ℤ) → k < length (v ∷ vs) → FitsField (get_or (v ∷ vs) k d) m.size (is_negative m.min)
    at rest zero d h = ok.0
    at rest (suc k) d h = rest k d (omega arith)

fit_both : (m : MainItem) (xs ys : List ℤ) → FitEach m xs → FitEach m ys → FitEach m (xs ++ ys)
unfolding FitEach
fit_both m [] ys ok ok' = ok'
fit_both m (x ∷ xs) ys ok ok' = (ok.0, fit_both m xs ys ok.1 ok')

fit_same : (m : MainItem) (n : ℕ) (v : ℤ) → FitsField v m.size (is_negative m.min) → FitEach m (replicate n v)
unfolding FitEach
fit_same m zero v ok = tt
fit_same m (suc n) v ok = (ok, fit_same m n v ok)

-- 0 can be carried by every field
zero_fits : (w : ℕ) (signed : Bool) → 0 < w → FitsField (pos 0) w signed
zero_fits w true some = (omega (arith, ints, pow_pos (w - 1)), omega (arith, ints, pow_pos (w - 1)))
zero_fits w false some = (omega (arith, ints), omega (arith, ints, pow_pos w))

-- the number of a pattern can be carried
pub pattern_fits : (p w : ℕ) (signed : Bool) → 0 < w → p < 2 ^ w → FitsField (value_of p w signed) w signed
pattern_fits p w false some h = (omega (arith, ints), omega (arith, ints))
pattern_fits p w true some h = elim (cases_lt p (2 ^ (w - 1))) [
  | inl low ↦ rw (value_of-low p w true low) (omega (arith, ints), omega (arith, ints))
  | inr high ↦ let twice = twice_half w some in rw (value_of-high p w some high h) (omega (arith, ints), omega (arith, ints))
]

first_passing_lt : (test : ℕ → Bool) (from count p : ℕ) → first_passing test from count ≡ Some p → p < from + count
unfolding first_passing
first_passing_lt test from zero p h = absurd (cc)
first_passing_lt test from (suc count) p h = by_test (first_passing_lt test (from + 1) count p) (test from) h
  where
    by_test : (first_passing test (from + 1) count ≡ Some p → p < (from + 1) + count) → (b : Bool) → cond b (Some from) (first_passing test (from + 1) count) ≡ Some p → p < from + suc count
    by_test rest true e = let same : from ≡ p = cc in omega arith
    by_test rest false e = let next = rest e in omega arith

code_fits : (m : MainItem) (test : ℤ → Bool) → HasElements m
    → FitsField (or_zero (option_map (number_of_pattern m) (least_pattern m test))) m.size (is_negative m.min)
code_fits m test has = by_code (least_pattern m test) refl
  where
    by_code : (o : Option ℕ) → least_pattern m test ≡ o
        → FitsField (or_zero (option_map (number_of_pattern m) o)) m.size (is_negative m.min)
    by_code None e = zero_fits m.size (is_negative m.min) has.some_bits
    by_code (Some p) e = let below = first_passing_lt _ 0 (2 ^ m.size) p e in pattern_fits p m.size (is_negative m.min) has.some_bits (omega arith)

to_le : (a b : ℤ) → le_z a b ≡ true → a ≤ℤ b
to_le a b h = record { le = true_test (le_z a b) h }

-- a value within what patterns of the width stand for can be carried
within_fits : (min max : ℤ) (w : ℕ) (v : ℤ) → 0 < w → int_max min (least_value min w) ≤ℤ v → v ≤ℤ int_min max (greatest_value min w) → FitsField v w (is_negative min)
within_fits (pos n) max w v some low high = by_sign (int_lt (pos n) (pos 0)) refl low high
  where
    by_sign : (b : Bool) → int_lt (pos n) (pos 0) ≡ b → int_max (pos n) (cond b (neg_ℤ (pos (2 ^ (w - 1)))) (pos 0)) ≤ℤ v → v ≤ℤ int_min max (cond b (pos (2 ^ (w - 1) - 1)) (pos (2 ^ w - 1))) → FitsField v w false
    by_sign true e low high = absurd (omega (arith, ints))
    by_sign false e low high =
        let lower = int_max_is (pos n) (pos 0) in
        let upper = int_min_is max (pos (2 ^ w - 1)) in
        let some_pattern = pow_pos w in
        (omega (arith, ints, lower), omega (arith, ints, upper, some_pattern))
within_fits (negsuc n) max w v some low high = by_sign (int_lt (negsuc n) (pos 0)) refl low high
  where
    by_sign : (b : Bool) → int_lt (negsuc n) (pos 0) ≡ b → int_max (negsuc n) (cond b (neg_ℤ (pos (2 ^ (w - 1)))) (pos 0)) ≤ℤ v → v ≤ℤ int_min max (cond b (pos (2 ^ (w - 1) - 1)) (pos (2 ^ w - 1))) → FitsField v w true
    by_sign false e low high = absurd (cc)
    by_sign true e low high =
        let lower = int_max_is (negsuc n) (neg_ℤ (pos (2 ^ (w - 1)))) in
        let upper = int_min_is max (pos (2 ^ (w - 1) - 1)) in
        let some_pattern = pow_pos (w - 1) in
        (omega (arith, ints, lower), omega (arith, ints, upper, some_pattern))

encodable_fits : (m : MainItem) (v : ℤ) → HasElements m → is_in (least_of m) (greatest_of m) v ≡ true → FitsField v m.size (is_negative m.min)
encodable_fits m v has h =
    let both = both_true (le_z (least_of m) v) (le_z v (greatest_of m)) h in
    within_fits m.min m.max m.size v has.some_bits (to_le _ v both.0) (to_le v _ both.1)

values_fit : (m : MainItem) (null : Bool) (vs : List (Option ℤ)) → HasElements m → are_values null (least_of m) (greatest_of m) vs → FitEach m (map (λ v. unwrap_or v (or_zero (null_number m))) vs)
unfolding FitEach
values_fit m null [] has ok = tt
values_fit m null (None ∷ vs) has ok = (code_fits m (λ v. not (is_in m.min m.max v)) has, values_fit m null vs has ok.1)
values_fit m null (Some v ∷ vs) has ok = (encodable_fits m v has ok.0, values_fit m null vs has ok.1)

motions_fit : (m : MainItem) (ms : List ℤ) → HasElements m → are_motions (least_of m) (greatest_of m) ms → FitEach m ms
unfolding FitEach
motions_fit m [] has ok = tt
motions_fit m (v ∷ ms) has ok = (encodable_fits m v has ok.0, motions_fit m ms has ok.1)

-- a switch sends 0 or 1
one_fits : (m : MainItem) → HasElements m → element_kind m ≡ Switch → FitsField (pos 1) m.size (is_negative m.min)
one_fits m has is = by_min m.min refl (min_zero (has_flag RELATIVE m.flags.0) (int_eq m.min (pos 0)) (int_eq m.max (pos 1)) (not (has_flag NULL_STATE m.flags.0)) is)
  where
    min_zero : (r z y n : Bool) → cond r Relative (cond ((z && y) && n) Switch (cond (has_flag NULL_STATE m.flags.0 && has_outside m) NullValue Value)) ≡ Switch → z ≡ true
    min_zero true z y n h = absurd (cc)
    min_zero false true y n h = refl
    min_zero false false y n h = absurd (no_switch (has_flag NULL_STATE m.flags.0 && has_outside m) h)
      where
        no_switch : (b : Bool) → cond b NullValue Value ≡ Switch → ⊥
        no_switch true h = cc
        no_switch false h = cc

    by_min : (min : ℤ) → m.min ≡ min → int_eq m.min (pos 0) ≡ true → FitsField (pos 1) m.size (is_negative m.min)
    by_min min e z =
        let zero_ : m.min ≡ pos 0 = (Decides-int_eq m.min (pos 0)).0 z in
        rw zero_ (omega (arith, ints), omega (arith, ints, two_patterns m.size has.some_bits))
      where
        two_patterns : (w : ℕ) → 0 < w → 2 ≤ 2 ^ w
        two_patterns w some = let twice = twice_half w some in let some_pattern = pow_pos (w - 1) in omega arith

switches_fit : (m : MainItem) (ps : List Bool) → HasElements m → element_kind m ≡ Switch → FitEach m (map switch_number ps)
unfolding FitEach
switches_fit m [] has is = tt
switches_fit m (true ∷ ps) has is = (one_fits m has is, switches_fit m ps has is)
switches_fit m (false ∷ ps) has is = (zero_fits m.size (is_negative m.min) has.some_bits, switches_fit m ps has is)

-- pressed keys can be sent
keys_fit : (m : MainItem) (i : ℕ) (us : List Usage) (ps : List Bool) → HasElements m
    → are_pressable (keys_from m i us) ps → FitEach m (pressed_places_from m.min i ps)
unfolding FitEach keys_from
keys_fit m i [] [] has ok = tt
keys_fit m i [] (p ∷ ps) has ok = absurd ok
keys_fit m i (u ∷ us) [] has ok = absurd ok
keys_fit m i (u ∷ us) (true ∷ ps) has ok =
    (encodable_fits m (m.min +ℤ pos i) has ((both_true _ _ (ok.0 refl)).0), keys_fit m (i + 1) us ps has ok.1)
keys_fit m i (u ∷ us) (false ∷ ps) has ok = keys_fit m (i + 1) us ps has ok.1

rollover_found : (m : MainItem) (i n : ℕ) (us : List Usage) → rollover_from m i us ≡ Some n → is_encodable m (m.min +ℤ pos n) ≡ true
unfolding rollover_from
rollover_found m i n [] h = absurd (cc)
rollover_found m i n (u ∷ us) h = by_test (rollover_found m (i + 1) n us) (is_rollover u && is_encodable m (m.min +ℤ pos i)) refl h
  where
    by_test : (rollover_from m (i + 1) us ≡ Some n → is_encodable m (m.min +ℤ pos n) ≡ true) → (b : Bool) → (is_rollover u && is_encodable m (m.min +ℤ pos i)) ≡ b
        → cond b (Some i) (rollover_from m (i + 1) us) ≡ Some n → is_encodable m (m.min +ℤ pos n) ≡ true
    by_test rest true e k =
        let same : i ≡ n = cc in
        rw (← same) ((both_true _ _ e).1)
    by_test rest false e k = rest k

rollover_fits : (m : MainItem) (us : List Usage) → HasElements m → FitsField (or_zero (rollover_number m us)) m.size (is_negative m.min)
rollover_fits m us has = by_code (rollover_from m 0 us) refl
  where
    by_code : (o : Option ℕ) → rollover_from m 0 us ≡ o → FitsField (or_zero (option_map (λ i. m.min +ℤ pos i) o)) m.size (is_negative m.min)
    by_code None e = zero_fits m.size (is_negative m.min) has.some_bits
    by_code (Some n) e = encodable_fits m (m.min +ℤ pos n) has (rollover_found m 0 n us e)

pub spread_usages-length : (n : ℕ) (us : List Usage) → 0 < length us → length (spread_usages n us) ≡ n
unfolding spread_usages
spread_usages-length zero us h = refl
spread_usages-length (suc n) [] h = absurd (omega arith)
spread_usages-length (suc n) (u ∷ []) h = ap suc (spread_usages-length n (u ∷ []) h)
spread_usages-length (suc n) (u ∷ v ∷ us) h = ap suc (spread_usages-length n (v ∷ us) (omega arith))

pub keys_from-length : (m : MainItem) (i : ℕ) (us : List Usage) → length (keys_from m i us) ≡ length us
unfolding keys_from
keys_from-length m i [] = refl
keys_from-length m i (u ∷ us) = ap suc (keys_from-length m (i + 1) us)

-- a variable item's part, by the kind of its elements
elements_send : (m : MainItem) (us : List Usage) (kind : ControlKind) (state : ControlState) → HasElements m
    → 0 < length us → element_kind m ≡ kind
    → HasRoom (controls_of_form (Elements kind (least_of m) (greatest_of m) (spread_usages m.count us))) state
    → InPart (Elements kind (least_of m) (greatest_of m) (spread_usages m.count us)) state
    → CanSend m (element_numbers m us (Elements kind (least_of m) (greatest_of m) (spread_usages m.count us)) state)
elements_send m us Switch (Switches ps) has some is room ok =
    record {
      one_each = length-map ps switch_number ∙ room ∙ spread_usages-length m.count us some;
      fit =
          fit_all m _ (switches_fit m ps has is);
    }
elements_send m us Switch Absent has some is room ok = absurd room
elements_send m us Switch (Values vs) has some is room ok = absurd room
elements_send m us Switch (Motions vs) has some is room ok = absurd room
elements_send m us Switch (RollOver vs) has some is room ok = absurd room
elements_send m us Value (Values vs) has some is room ok =
    record {
      one_each = length-map vs _ ∙ room ∙ spread_usages-length m.count us some;
      fit =
          fit_all m _ (values_fit m false vs has ok);
    }
elements_send m us Value Absent has some is room ok = absurd room
elements_send m us Value (Switches vs) has some is room ok = absurd room
elements_send m us Value (Motions vs) has some is room ok = absurd room
elements_send m us Value (RollOver vs) has some is room ok = absurd room
elements_send m us NullValue (Values vs) has some is room ok =
    record {
      one_each = length-map vs _ ∙ room ∙ spread_usages-length m.count us some;
      fit =
          fit_all m _ (values_fit m true vs has ok);
    }
elements_send m us NullValue Absent has some is room ok = absurd room
elements_send m us NullValue (Switches vs) has some is room ok = absurd room
elements_send m us NullValue (Motions vs) has some is room ok = absurd room
elements_send m us NullValue (RollOver vs) has some is room ok = absurd room
elements_send m us Relative (Motions ms) has some is room ok =
    record { one_each = room ∙ spread_usages-length m.count us some; fit = fit_all m _ (motions_fit m ms has ok) }
elements_send m us Relative Absent has some is room ok = absurd room
elements_send m us Relative (Switches vs) has some is room ok = absurd room
elements_send m us Relative (Values vs) has some is room ok = absurd room
elements_send m us Relative (RollOver vs) has some is room ok = absurd room

keys_send : (m : MainItem) (us : List Usage) (rolls : Bool) (state : ControlState) → HasElements m
    → HasRoom (controls_of_form (Keys m.count rolls (array_keys m us))) state
    → InPart (Keys m.count rolls (array_keys m us)) state
    → CanSend m (element_numbers m us (Keys m.count rolls (array_keys m us)) state)
keys_send m us rolls (Switches ps) has room ok =
    let rest = m.count - switch_count ps in
    let code = or_zero (empty_number m us) in
    let placed = pressed_places_from-length m.min 0 ps in
    let same : length (replicate rest code) ≡ rest = length-replicate rest code in
    let few : switch_count ps ≤ m.count = ok.1 in
    record {
      one_each = length-append (pressed_places_from m.min 0 ps) (replicate rest code) ∙ omega arith;
      fit = fit_all m _ (fit_both m _ _ (keys_fit m 0 (key_places us) ps has ok.0) (fit_same m rest code (code_fits m (names_nothing m us) has)));
    }
keys_send m us rolls (RollOver ps) has room ok =
    record { one_each = length-replicate m.count _; fit = fit_all m _ (fit_same m m.count _ (rollover_fits m us has)) }
keys_send m us rolls Absent has room ok = absurd room
keys_send m us rolls (Values vs) has room ok = absurd room
keys_send m us rolls (Motions vs) has room ok = absurd room

-- what a part shows of an item can be sent
pub can_send : (m : MainItem) (us : List Usage) (shape : Shape) (state : ControlState) → is_padding shape ≡ false
    → HasElements m → 0 < length us → HasRoom (controls_of_form (form_of m us shape)) state
    → InPart (form_of m us shape) state
    → CanSend m (element_numbers m us (form_of m us shape) state)
can_send m us Padding state data_ has some room ok = absurd (cc)
can_send m us Variable state data_ has some room ok = elements_send m us (element_kind m) state has some refl room ok
can_send m us Array state data_ has some room ok = keys_send m us _ state has room ok

pub places_few : (m : MainItem) (us : List Usage) → length (array_keys m us) ≤ 65536
places_few m us = omega (arith, keys_from-length m 0 (key_places us), length-take 65536 us)

-- no control state of an item has more places than an array may
pub few_places : (m : MainItem) (us : List Usage) (shape : Shape) (state : ControlState)
    → (is_padding shape ≡ false → HasElements m) → (is_padding shape ≡ false → 0 < length us)
    → HasRoom (controls_of_form (form_of m us shape)) state → HasFewPlaces state
few_places m us shape Absent has some room = tt
few_places m us shape (Values vs) has some room = tt
few_places m us shape (Motions vs) has some room = tt
few_places m us shape (RollOver vs) has some room = tt
few_places m us Padding (Switches ps) has some room = absurd room
few_places m us Variable (Switches ps) has some room = by_kind (element_kind m) room
  where
    by_kind : (kind : ControlKind)
        → HasRoom (controls_of_form (Elements kind (least_of m) (greatest_of m) (spread_usages m.count us)))
        (Switches ps)
        → length ps ≤ 131072
    by_kind Switch h = omega (arith, h, spread_usages-length m.count us (some refl), (has refl).few)
    by_kind Value h = absurd h
    by_kind NullValue h = absurd h
    by_kind Relative h = absurd h
few_places m us Array (Switches ps) has some room = omega (arith, room, places_few m us)
