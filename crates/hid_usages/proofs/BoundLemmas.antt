-- Of the numbers that fit the fields of an item, those lie in its logical range that an element can carry.
use Rattle.std.proofs.Common.{◌≡◌, ℕ, ◌+◌, ◌-◌, ◌*◌, ◌^◌, ◌<◌, ◌&&◌, ◌++◌, Bool, true, false, cond, Option, Some, List, [], ◌∷◌, map, All, ℤ, pos, negsuc, neg_ℤ, ◌≤ℤ◌, ◌<ℤ◌, int_le, int_lt, refl, sym, ap, ◌∙◌, subst, arith}
use Rattle.std.specs.List.{slice_get, zip}
use Rattle.std.specs.Int.{int_min, int_max}
use Rattle.std.proofs.lemmas.Int.{ints, clamps}
use Rattle.std.proofs.lemmas.Nat.{pow_pos}
use Rattle.std.proofs.lemmas.Float.{T_from_true}
use Rattle.std.proofs.lemmas.Option.{get_or_from_slice_get, slice_get_within}
use Rattle.std.proofs.lemmas.List.Elements.{All-head, All-tail}
use Rattle.hid_report_descriptor.specs.declared.usage.Usage.{Usage}
use Rattle.hid_report_descriptor.specs.declared.shape.Shape.TheVariants.{Variable}
use Rattle.hid_report_descriptor.specs.Faults.{least_value, greatest_value}
use Rattle.hid_fields.specs.Value.{is_negative, FitsField}
use Rattle.hid_fields.proofs.FieldLemmas.{pattern_of-lt}
use Rattle.hid_layout.specs.declared.main_item.MainItem.{MainItem}
use Rattle.hid_layout.specs.declared.control.ControlKind.{ControlKind}
use Rattle.hid_layout.specs.declared.control.ControlKind.TheVariants.{Switch, Value, NullValue, Relative}
use Rattle.hid_layout.specs.Layout.{Contents}
use Rattle.hid_layout.specs.Controls.{Form, Elements, element_kind, form_at, form_of, items_of, is_encodable, least_of, greatest_of, spread_usages}
use Rattle.hid_layout.proofs.CodeLemmas.{inside, under, above}
use Rattle.hid_snapshots.specs.declared.control_state.ControlState.{ControlState}
use Rattle.hid_snapshots.specs.declared.control_state.ControlState.TheVariants.{Absent, Switches, Values, Motions, RollOver}
use Rattle.hid_snapshots.specs.ControlStates.{has_null}
use Rattle.hid_snapshots.specs.Events.{change_events, element_events, usages_at, usages_of}
use Rattle.hid_snapshots.specs.Views.{form_motions, motions_of}
use Rattle.hid_snapshots.specs.Numbers.{number_at, numbers_in}
use Rattle.hid_snapshots.proofs.NumberLemmas.{numbers_in-at, numbers_in-length}
use Rattle.hid_snapshots.proofs.SendLemmas.{pattern_fits}
use Rattle.hid_usages.specs.Reading.{is_in, FitsFields, read_value, read_motion, read_elements, motion_elements, read_state, motion_state}
use Rattle.hid_usages.specs.Taking.{list_at, IsFormOf, state_after_numbers_at, events_of_numbers_at}

-- of the numbers that fit the fields of an item, those lie in this range that an element can carry
abbrev pub AreBounds : MainItem → ℤ → ℤ → Type 0
AreBounds item least greatest = (v : ℤ) → FitsFields item v → is_in least greatest v ≡ is_encodable item v

-- a number that fits a field is one of those from its least to its greatest
pub field_bounds : (min v : ℤ) (w : ℕ) → FitsField v w (is_negative min) → (least_value min w ≤ℤ v) × (v ≤ℤ greatest_value min w)
field_bounds (pos n) v w fits = by_sign (int_lt (pos n) (pos 0)) refl
  where
    by_sign : (b : Bool) → int_lt (pos n) (pos 0) ≡ b → (cond b (neg_ℤ (pos (2 ^ (w - 1)))) (pos 0) ≤ℤ v) × (v ≤ℤ cond b (pos (2 ^ (w - 1) - 1)) (pos (2 ^ w - 1)))
    by_sign true e = absurd (omega (arith, ints))
    by_sign false e = (fits.0, omega (arith, ints, fits, pow_pos w))
field_bounds (negsuc n) v w fits = by_sign (int_lt (negsuc n) (pos 0)) refl
  where
    by_sign : (b : Bool) → int_lt (negsuc n) (pos 0) ≡ b → (cond b (neg_ℤ (pos (2 ^ (w - 1)))) (pos 0) ≤ℤ v) × (v ≤ℤ cond b (pos (2 ^ (w - 1) - 1)) (pos (2 ^ w - 1)))
    by_sign false e = absurd (cc)
    by_sign true e = (fits.0, omega (arith, ints, fits, pow_pos (w - 1)))

not_at_most : (a b : ℤ) → int_le a b ≡ false → b <ℤ a
not_at_most a b h = omega (arith, ints)

-- a range and the part of it that a field can carry have the same of the numbers that fit it
same_range : (min max low high v : ℤ) → low ≤ℤ v → v ≤ℤ high → is_in min max v ≡ is_in (int_max min low) (int_min max high) v
same_range min max low high v l h = by_tests (int_le min v) (int_le v max) refl refl
  where
    by_tests : (a b : Bool) → int_le min v ≡ a → int_le v max ≡ b → (a && b) ≡ is_in (int_max min low) (int_min max high) v
    by_tests true true e f =
        let m : min ≤ℤ v = record { le = T_from_true (int_le min v) e } in
        let n : v ≤ℤ max = record { le = T_from_true (int_le v max) f } in
        sym (inside (int_max min low) (int_min max high) v (omega (arith, ints, clamps, m, l)) (omega (arith, ints, clamps, n, h)))
    by_tests true false e f = let n = not_at_most v max f in sym (above (int_max min low) (int_min max high) v (omega (arith, ints, clamps, n)))
    by_tests false b e f = let n = not_at_most min v e in sym (under (int_max min low) (int_min max high) v (omega (arith, ints, clamps, n)))

pub in_range : (item : MainItem) (least greatest : ℤ) → least ≡ item.min → greatest ≡ item.max → AreBounds item least greatest
in_range item least greatest is_least is_greatest v fits =
    let ends = field_bounds item.min v item.size fits in
    ap (λ (a : ℤ). is_in a greatest v) is_least ∙ ap (λ (b : ℤ). is_in item.min b v) is_greatest
    ∙ same_range item.min item.max (least_value item.min item.size) (greatest_value item.min item.size) v ends.0 ends.1

-- each number of a run of fields fits them
pub numbers_fit : (bytes : List ℕ) (at w : ℕ) (signed : Bool) (n : ℕ) → 0 < w → All (λ v. FitsField v w signed) (numbers_in bytes at w signed n)
numbers_fit bytes at w signed n some = λ k d h.
    let here = numbers_in-at bytes at w signed n k (omega (arith, h, numbers_in-length bytes at w signed n)) in
    let is = get_or_from_slice_get (numbers_in bytes at w signed n) k (number_at bytes (at + w * k) w signed) d here in
    rw is (pattern_fits _ w signed some (pattern_of-lt bytes (at + w * k) w))

-- one of numbers that each fit
pub fits_at : (item : MainItem) (vs : List ℤ) (k : ℕ) (v : ℤ) → All (FitsFields item) vs → slice_get vs k ≡ Some v → FitsFields item v
fits_at item vs k v fits here = subst (FitsFields item) (get_or_from_slice_get vs k v v here) (fits k v (slice_get_within vs k v here))

same_values : (item : MainItem) (null : Bool) (a b c d : ℤ) (bs : List (Option ℤ)) (vs : List ℤ) → ((v : ℤ) → FitsFields item v → is_in a b v ≡ is_in c d v) → All (FitsFields item) vs
    → map (λ p. read_value null a b p.0 p.1) (zip bs vs) ≡ map (λ p. read_value null c d p.0 p.1) (zip bs vs)
same_values item null a b c d [] vs same fits = refl
same_values item null a b c d (x ∷ bs) [] same fits = refl
same_values item null a b c d (x ∷ bs) (v ∷ vs) same fits =
    rw (same v (All-head (FitsFields item) v vs fits), same_values item null a b c d bs vs same (All-tail (FitsFields item) v vs fits)) refl

same_motions : (item : MainItem) (a b c d : ℤ) (vs : List ℤ) → ((v : ℤ) → FitsFields item v → is_in a b v ≡ is_in c d v) → All (FitsFields item) vs
    → map (read_motion a b) vs ≡ map (read_motion c d) vs
same_motions item a b c d [] same fits = refl
same_motions item a b c d (v ∷ vs) same fits =
    rw (same v (All-head (FitsFields item) v vs fits), same_motions item a b c d vs same (All-tail (FitsFields item) v vs fits)) refl

read_alike : (item : MainItem) (kind : ControlKind) (a b c d : ℤ) (state : ControlState) (vs : List ℤ)
    → ((v : ℤ) → FitsFields item v → is_in a b v ≡ is_in c d v) → All (FitsFields item) vs
    → read_elements kind a b state vs ≡ read_elements kind c d state vs
read_alike item kind a b c d (Values bs) vs same fits =
    ap Values (same_values item (has_null kind) a b c d bs vs same fits)
read_alike item kind a b c d (Switches bs) vs same fits = refl
read_alike item kind a b c d (Motions ms) vs same fits = refl
read_alike item kind a b c d (RollOver bs) vs same fits = refl
read_alike item kind a b c d Absent vs same fits = refl

moved_alike : (item : MainItem) (kind : ControlKind) (a b c d : ℤ) (vs : List ℤ) → ((v : ℤ) → FitsFields item v → is_in a b v ≡ is_in c d v) → All (FitsFields item) vs
    → motion_elements kind a b vs ≡ motion_elements kind c d vs
moved_alike item Relative a b c d vs same fits = ap Motions (same_motions item a b c d vs same fits)
moved_alike item Switch a b c d vs same fits = refl
moved_alike item Value a b c d vs same fits = refl
moved_alike item NullValue a b c d vs same fits = refl

-- What the numbers of a variable item's elements make of its control state, and tell, is what they do within bounds of it.
pub record ReadsWithin (layout : Contents) (i : ℕ) (m : MainItem) (kind : ControlKind) (least greatest : ℤ)
    (state : ControlState) (vs : List ℤ) : Type 0 where
  pub read : read_elements kind least greatest state vs ≡ state_after_numbers_at layout i m state vs
  pub told : (after : ControlState)
      → element_events i (usages_at layout i) state after
      ++ motions_of i (usages_at layout i) (motion_elements kind least greatest vs)
      ≡ events_of_numbers_at layout i m state after vs

pub reads_within : (layout : Contents) (i : ℕ) (m : MainItem) (kind : ControlKind) (least greatest : ℤ)
    (state : ControlState) (vs : List ℤ) → IsFormOf layout i m → m.shape ≡ Variable → kind ≡ element_kind m
    → AreBounds m least greatest → All (FitsFields m) vs
    → ReadsWithin layout i m kind least greatest state vs
reads_within layout i m kind least greatest state vs form shape of_kind bounds fits =
    let us = list_at layout i in
    let uses = spread_usages m.count us in
    let is : form_at (items_of layout) i ≡ Elements kind (least_of m) (greatest_of m) uses = form ∙ ap (form_of m us) shape ∙ ap (λ (k : ControlKind). Elements k (least_of m) (greatest_of m) uses) (sym of_kind) in
    let moved = moved_alike m kind least greatest (least_of m) (greatest_of m) vs bounds fits in
    record {
      read = read_alike m kind least greatest (least_of m) (greatest_of m) state vs bounds fits ∙ ap (λ (f : Form). read_state m us f state vs) (sym is);
      told = λ after.
          ap (λ (l : List Usage). element_events i l state after ++ motions_of i l (motion_elements kind least greatest vs)) (ap usages_of is)
          ∙ ap (λ (part : ControlState). element_events i uses state after ++ motions_of i uses part) moved
          ∙ ap (λ (f : Form). change_events i f state after ++ form_motions i f (motion_state f vs)) (sym is);
    }
