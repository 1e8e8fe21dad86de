-- Elements of an item whose bits stayed are left by their numbers.
use Rattle.std.proofs.Common.{◌≡◌, ℕ, zero, suc, ◌+◌, ◌-◌, ◌*◌, ◌/◌, ◌%◌, min, ◌<◌, ◌≤◌, inl, inr, Bool, List, [], ◌∷◌, length, map, Option, Some, ℤ, sym, ap, ◌∙◌, subst, arith}
use Rattle.std.specs.List.{slice_get, zip}
use Rattle.std.proofs.Math.Nat.{mul-le-mul_left}
use Rattle.std.proofs.lemmas.Grind.{div_ceil_times}
use Rattle.hid_fields.specs.Field.{bit_of}
use Rattle.hid_fields.specs.Value.{value_of}
use Rattle.hid_layout.specs.declared.control.ControlKind.{ControlKind}
use Rattle.hid_layout.specs.declared.control.ControlKind.TheVariants.{Switch, Value, NullValue, Relative}
use Rattle.hid_layout.specs.declared.control.Controls.TheVariants as head
use Rattle.hid_snapshots.specs.declared.control_state.ControlState.{ControlState}
use Rattle.hid_snapshots.specs.declared.control_state.ControlState.TheVariants.{Absent, Switches, Values, Motions, RollOver}
use Rattle.hid_snapshots.specs.ControlStates.{HasRoom}
use Rattle.hid_snapshots.specs.Numbers.{numbers_in, number_at}
use Rattle.hid_snapshots.proofs.NumberLemmas.{pattern_of-agree, numbers_in-at}
use Rattle.hid_usages.specs.declared.changed_bits.BitSpan.{BitSpan}
use Rattle.hid_usages.specs.declared.elements.ElementRange.{ElementRange}
use Rattle.hid_usages.specs.declared.value_range.Bounds.{Bounds}
use Rattle.hid_usages.specs.ChangedBits.{IsOutsideSpan}
use Rattle.hid_usages.specs.Elements.{switch_by_number, value_by_number}
use Rattle.hid_usages.specs.Keeping.{AreKept, KeepsOthers}
use Rattle.hid_usages.specs.Ranges.{LeaveOthers, HoldsSpan, carriable_of}
use Rattle.hid_usages.specs.Reading.{read_elements}

-- what numbers leave as a whole they leave element by element
fixed_at : {A : Type 0} (read : A × ℤ → A) (xs : List A) (vs : List ℤ) (j : ℕ) (x : A) (v : ℤ) → map read (zip xs vs) ≡ xs → slice_get xs j ≡ Some x → slice_get vs j ≡ Some v → read (x, v) ≡ x
fixed_at read [] vs j x v fixed h g = absurd (cc)
fixed_at read (y ∷ xs) [] j x v fixed h g = absurd (cc)
fixed_at read (y ∷ xs) (w ∷ vs) zero x v fixed h g =
    let same : y ≡ x = cc in
    let same' : w ≡ v = cc in
    let here : read (y, w) ≡ y = cc in
    subst (λ a. read (a, v) ≡ a) same (subst (λ (n : ℤ). read (y, n) ≡ y) same' here)
fixed_at read (y ∷ xs) (w ∷ vs) (suc j) x v fixed h g =
    let rest : map read (zip xs vs) ≡ xs = cc in
    fixed_at read xs vs j x v rest h g

-- an element whose own bits stayed is kept, whatever became of its neighbours
pub kept_by_bits : {A : Type 0} (read : A × ℤ → A) (held : List A) (now last : List ℕ) (at width : ℕ) (signed : Bool) (count from end : ℕ) → end ≤ count → ((j : ℕ) → from ≤ j → j < end → map read (zip held (numbers_in last at width signed count)) ≡ held)
    → ((j n : ℕ) → from ≤ j → j < end → at + width * j ≤ n → n < at + width * j + width → bit_of now n ≡ bit_of last n) → AreKept read held (numbers_in now at width signed count) from end
kept_by_bits read held now last at width signed count from end within fixed same = λ j x v low high h g.
    let here : j < count = omega arith in
    let bits : number_at now (at + width * j) width signed ≡ number_at last (at + width * j) width signed =
    ap (λ (p : ℕ). value_of p width signed) (pattern_of-agree now last (at + width * j) width (λ n a b. same j n low high a b)) in
    let one : Some v ≡ Some (number_at now (at + width * j) width signed) = sym g ∙ numbers_in-at now at width signed count j here in
    let is : v ≡ number_at last (at + width * j) width signed = (let e : v ≡ number_at now (at + width * j) width signed = cc in e ∙ bits) in
    fixed_at read held (numbers_in last at width signed count) j x v (fixed j low high) h (numbers_in-at last at width signed count j here ∙ ap (λ (n : ℤ). Some n) (sym is))

-- an element's field ends within those of all elements
field_within : (width j count : ℕ) → j < count → width * j + width ≤ width * count
field_within width j count h = omega (arith, mul-le-mul_left width h)

-- elements outside of a range that has the bits of a span are left, if the bits outside of the span stayed
pub others_kept : {A : Type 0} (read : A × ℤ → A) (held : List A) (now last : List ℕ) (at width : ℕ) (signed : Bool) (count : ℕ) (span : BitSpan) (range : ElementRange) → 0 < width → length held ≡ count
    → ((n : ℕ) → n < at + width * count → IsOutsideSpan span n → map read (zip held (numbers_in last at width signed count)) ≡ held)
    → HoldsSpan at width count span range → ((n : ℕ) → n < at + width * count → IsOutsideSpan span n → bit_of now n ≡ bit_of last n)
    → KeepsOthers read held (numbers_in now at width signed count) range
others_kept read held now last at width signed count span range some long fixed holds same = record {
  before = kept_by_bits read held now last at width signed count 0 range.first holds.first
      (λ j low high. fixed (at + width * j) (omega (arith, some, field_within width j count (omega (arith, holds.first)))) (inl (omega (arith, some, holds.before j high))))
      (λ j n low high a b. same n (omega (arith, field_within width j count (omega (arith, holds.first)))) (inl (omega (arith, holds.before j high))));
  after = subst (AreKept read held (numbers_in now at width signed count) range.end) (sym long)
      (kept_by_bits read held now last at width signed count range.end count (omega arith)
      (λ j low high. fixed (at + width * j) (omega (arith, some, field_within width j count high)) (inr (holds.after j low high)))
      (λ j n low high a b. same n (omega (arith, field_within width j count high)) (inr (omega (arith, holds.after j low high)))));
  first = omega (arith, holds.first);
  end = omega (arith, holds.end);
}

-- of switches and values as many as an item has
switches_room : (kind : ControlKind) (least greatest : ℤ) (n : ℕ) (bs : List Bool) → HasRoom (head.Elements kind least greatest n) (Switches bs) → length bs ≡ n
switches_room Switch least greatest n bs h = h
switches_room Value least greatest n bs h = absurd h
switches_room NullValue least greatest n bs h = absurd h
switches_room Relative least greatest n bs h = absurd h

values_room : (kind : ControlKind) (least greatest : ℤ) (n : ℕ) (vs : List (Option ℤ)) → HasRoom (head.Elements kind least greatest n) (Values vs) → length vs ≡ n
values_room Switch least greatest n vs h = absurd h
values_room Value least greatest n vs h = h
values_room NullValue least greatest n vs h = h
values_room Relative least greatest n vs h = absurd h

-- of an item whose bits stayed outside of a span
pub others_left : (kind : ControlKind) (bounds : Bounds) (now last : List ℕ) (at width : ℕ) (signed : Bool) (count : ℕ) (span : BitSpan) (range : ElementRange) (least greatest : ℤ) (state : ControlState) → 0 < width → HasRoom (head.Elements kind least greatest count) state
    → ((n : ℕ) → n < at + width * count → IsOutsideSpan span n → read_elements kind bounds.least bounds.greatest state (numbers_in last at width signed count) ≡ state) → HoldsSpan at width count span range
    → ((n : ℕ) → n < at + width * count → IsOutsideSpan span n → bit_of now n ≡ bit_of last n) → LeaveOthers kind bounds (numbers_in now at width signed count) range state
others_left kind bounds now last at width signed count span range least greatest Absent some room fixed holds same = tt
others_left kind bounds now last at width signed count span range least greatest (Motions ms) some room fixed holds same = tt
others_left kind bounds now last at width signed count span range least greatest (RollOver bs) some room fixed holds same = tt
others_left kind bounds now last at width signed count span range least greatest (Switches bs) some room fixed holds same =
    others_kept switch_by_number bs now last at width signed count span range some (switches_room kind least greatest count bs room) (λ n low outside. let e = fixed n low outside in cc) holds same
others_left kind bounds now last at width signed count span range least greatest (Values vs) some room fixed holds same =
    others_kept (value_by_number (carriable_of kind bounds)) vs now last at width signed count span range some (values_room kind least greatest count vs room) (λ n low outside. let e = fixed n low outside in cc) holds same

-- an element before the first one of a span ends before the span, and one from its end on begins behind it
before_first : (at width first q j : ℕ) → 0 < width → q ≡ (first - at) / width → j < q → at + width * j + width ≤ first
before_first at width first q j some is low =
    let up : width * (j + 1) ≤ width * q = mul-le-mul_left width (omega arith) in
    let down : width * ((first - at) / width) ≤ first - at = omega arith in
    let same : width * q ≡ width * ((first - at) / width) = ap (λ (n : ℕ). width * n) is in
    let more : 0 < width * q = omega (arith, up) in
    omega (arith, up, down, same, more)

after_end : (at width end q j : ℕ) → 0 < width → q ≡ (end - at) / width + min 1 ((end - at) % width) → q ≤ j → end ≤ at + width * j
after_end at width end q j some is low =
    let up : width * q ≤ width * j = mul-le-mul_left width low in
    let all : end - at ≤ ((end - at) / width + min 1 ((end - at) % width)) * width = (div_ceil_times (end - at) width some).0 in
    let same : q * width ≡ ((end - at) / width + min 1 ((end - at) % width)) * width = ap (λ (n : ℕ). n * width) is in
    omega (arith, up, all, same)

-- the range of all elements has the bits of each span
pub holds_all : (at width count : ℕ) (span : BitSpan) → HoldsSpan at width count span (record { first = 0; end = count })
holds_all at width count span = record {
  first = omega arith;
  end = omega arith;
  before = λ j low. absurd (omega arith);
  after = λ j high inside. absurd (omega arith);
}

-- the range of the elements with the bits of a span, as it is computed
pub holds_span : (at width count : ℕ) (span : BitSpan) (range : ElementRange) (q p : ℕ) → 0 < width → q ≡ (span.first - at) / width → p ≡ (span.end - at) / width + min 1 ((span.end - at) % width)
    → range.first ≡ min q count → range.end ≡ min p count → HoldsSpan at width count span range
holds_span at width count span range q p some first_is end_is first end = record {
  first = omega (arith, first);
  end = omega (arith, end);
  before = λ j low. before_first at width span.first q j some first_is (omega (arith, first, low));
  after = λ j high inside. after_end at width span.end p j some end_is (omega (arith, end, high, inside));
}
