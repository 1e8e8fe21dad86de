-- What an element of an array names by its number.
use Rattle.std.proofs.Common.{◌≡◌, ℕ, ◌-◌, ◌^◌, ◌≤◌, Bool, true, false, not, ◌&&◌, ◌||◌, List, refl, ap, subst, ◌∙◌, arith, cond, nat_lt, nat_eq, Some, None, Option, T}
use Rattle.std.specs.Prelude.{ℤ, pos, negsuc, ◌+ℤ◌, ◌-ℤ◌, ◌≤ℤ◌, ◌<ℤ◌, int_le, int_lt}
use Rattle.std.specs.Int.{int_min, int_max}
use Rattle.std.specs.List.{slice_get}
use Rattle.std.proofs.lemmas.Int.{ints, clamps}
use Rattle.std.proofs.lemmas.Float.{T_from_true}
use Rattle.std.proofs.Math.Pow.{pow_mono}
use Rattle.hid_report_descriptor.specs.declared.usage.Usage.{Usage}
use Rattle.hid_layout.specs.declared.main_item.MainItem.{MainItem}
use Rattle.hid_layout.specs.Controls.{is_key, is_encodable, least_of, greatest_of}
use Rattle.hid_report_descriptor.specs.Usages.{is_keyboard_error}
use Rattle.hid_report_descriptor.specs.Faults.{least_value, greatest_value}
use Rattle.hid_layout.specs.Codes.{is_in, at_zero, place_named, names_nothing}
use Rattle.hid_layout.specs.EmptyCodes.{is_nothing, IsFirst}

test_true : (b : Bool) → T b → b ≡ true
test_true true h = refl
test_true false h = absurd h

at_most : (a b : ℤ) → a ≤ℤ b → int_le a b ≡ true
at_most a b h = test_true (int_le a b) h.le

over : (a b : ℤ) → b <ℤ a → int_le a b ≡ false
over a b h = by_test (int_le a b) refl
  where
    by_test : (t : Bool) → int_le a b ≡ t → t ≡ false
    by_test false e = refl
    by_test true e = let le : a ≤ℤ b = record { le = T_from_true (int_le a b) e } in absurd (omega (arith, ints, h, le))

pub inside : (least greatest v : ℤ) → least ≤ℤ v → v ≤ℤ greatest → is_in least greatest v ≡ true
inside least greatest v a b = rw (at_most least v a, at_most v greatest b) refl

pub under : (least greatest v : ℤ) → v <ℤ least → is_in least greatest v ≡ false
under least greatest v h = rw (over least v h) refl

pub above : (least greatest v : ℤ) → greatest <ℤ v → is_in least greatest v ≡ false
above least greatest v h = rw (over v greatest h) (by_least (int_le least v))
  where
    by_least : (b : Bool) → (b && false) ≡ false
    by_least true = refl
    by_least false = refl

-- out of the range nothing is named
pub out_of_range : (item : MainItem) (us : List Usage) (v : ℤ) → is_in item.min item.max v ≡ false → names_nothing item us v ≡ true
out_of_range item us v e =
    ap (λ b. elim
    (cond b (Some (at_zero (v -ℤ item.min))) None) [
      | None ↦ true
      | Some i ↦
          elim (slice_get us i) [ None ↦ true | Some u ↦ not (is_key item i u || is_keyboard_error u) ]
    ]) e

same_name : (encodable below some error : Bool) → encodable ≡ true → not ((encodable && (below && (some && not error))) || error) ≡ not ((below && some) || error)
same_name true true true true e = refl
same_name true true true false e = refl
same_name true true false true e = refl
same_name true true false false e = refl
same_name true false some true e = refl
same_name true false some false e = refl
same_name false below some error e = absurd cc

name_of : (item : MainItem) (k : ℕ) (o : Option Usage) → is_encodable item (item.min +ℤ pos k) ≡ true
    → elim o [ None ↦ true | Some u ↦ not (is_key item k u || is_keyboard_error u) ] ≡ is_nothing k o
name_of item k None e = refl
name_of item k (Some u) e =
    same_name (is_encodable item (item.min +ℤ pos k)) (nat_lt k 65536) (not (nat_eq u.id 0)) (is_keyboard_error u) e

-- in the range an element names what stands at its place
pub named_at : (item : MainItem) (us : List Usage) (v : ℤ) (k : ℕ) → (item.min +ℤ pos k) ≡ v → v ≤ℤ item.max → least_value item.min item.size ≤ℤ v → v ≤ℤ greatest_value item.min item.size
    → names_nothing item us v ≡ is_nothing k (slice_get us k)
named_at item us v k e high low fits =
    let place : at_zero (v -ℤ item.min) ≡ k = let d : (v -ℤ item.min) ≡ pos k = omega (arith, ints, e) in ap at_zero d in
    let within : is_in item.min item.max v ≡ true = inside item.min item.max v (omega (arith, ints, e)) high in
    let encodable : is_encodable item (item.min +ℤ pos k) ≡ true =
    inside (least_of item) (greatest_of item) (item.min +ℤ pos k) (low_of (least_value item.min item.size) (omega (arith, ints, e, low))) (high_of (greatest_value item.min item.size) (omega (arith, ints, e, high)) (omega (arith, ints, e, fits))) in
    let there : place_named item v ≡ Some k = ap (λ b. cond b (Some (at_zero (v -ℤ item.min))) None) within ∙ ap (λ n. Some n) place in
    ap (λ o. elim o [
      | None ↦ true
      | Some i ↦
          elim (slice_get us i) [ None ↦ true | Some u ↦ not (is_key item i u || is_keyboard_error u) ]
    ]) there
    ∙ name_of item k (slice_get us k) encodable
  where
    low_of : (l : ℤ) → l ≤ℤ (item.min +ℤ pos k) → int_max item.min l ≤ℤ (item.min +ℤ pos k)
    low_of l h = omega (arith, ints, clamps, h)

    high_of : (g : ℤ) → (item.min +ℤ pos k) ≤ℤ item.max → (item.min +ℤ pos k) ≤ℤ g → (item.min +ℤ pos k) ≤ℤ int_min item.max g
    high_of g a b = omega (arith, ints, clamps, a, b)

-- no value of a field of at most 32 bits is larger
pub greatest_small : (min : ℤ) (width : ℕ) → width ≤ 32 → greatest_value min width ≤ℤ pos (2 ^ 32 - 1)
greatest_small min width n = by_sign (int_lt min (pos 0)) (pow_mono n) (pow_mono (one_less n))
  where
    one_less : width ≤ 32 → width - 1 ≤ 32
    one_less h = omega (arith, h)

    by_sign : (b : Bool) → 2 ^ width ≤ 2 ^ 32 → 2 ^ (width - 1) ≤ 2 ^ 32 → cond b (pos (2 ^ (width - 1) - 1)) (pos (2 ^ width - 1)) ≤ℤ pos (2 ^ 32 - 1)
    by_sign true h k = omega (arith, ints, k)
    by_sign false h k = omega (arith, ints, h)

place_back : (min v d : ℤ) → d ≡ (v -ℤ min) → min ≤ℤ v → (min +ℤ pos (at_zero d)) ≡ v
place_back min v (pos n) e h = omega (arith, ints, e)
place_back min v (negsuc n) e h = absurd (omega (arith, ints, e, h))

-- What is known where the first place from one on names nothing.
pub record IsPlaced (item : MainItem) (us : List Usage) (first end : ℤ) (from place : ℕ) : Type 0 where
  pub low : least_value item.min item.size ≤ℤ first
  pub high : end ≤ℤ (greatest_value item.min item.size +ℤ pos 1)
  pub some : first <ℤ end
  pub within : first ≤ℤ item.max
  pub from_is : (item.min +ℤ pos from) ≡ first
  pub is : IsFirst us from place

greatest_facts : (max g v : ℤ) → (v ≤ℤ int_min max g → (v ≤ℤ max) × (v ≤ℤ g)) × (v ≤ℤ max → v ≤ℤ g → v ≤ℤ int_min max g)
greatest_facts max g v = (λ h. (omega (arith, ints, clamps, h), omega (arith, ints, clamps, h)), λ a b. omega (arith, ints, clamps, a, b))

-- a number up to the greatest names what stands at its place
by_place : (item : MainItem) (us : List Usage) (first end : ℤ) (from place : ℕ) → IsPlaced item us first end from place → (v : ℤ) → first ≤ℤ v → v ≤ℤ greatest_of item
    → (k : ℕ) × ((item.min +ℤ pos k) ≡ v) × (from ≤ k) × (names_nothing item us v ≡ is_nothing k (slice_get us k))
by_place item us first end from place p v low high =
    let k : ℕ = at_zero (v -ℤ item.min) in
    let over_min : item.min ≤ℤ v = omega (arith, ints, low, p.from_is) in
    let e : (item.min +ℤ pos k) ≡ v = place_back item.min v (v -ℤ item.min) refl over_min in
    let both = (greatest_facts item.max (greatest_value item.min item.size) v).0 high in
    (k, e, omega (arith, ints, e, low, p.from_is), named_at item us v k e both.0 (omega (arith, ints, low, p.low)) both.1)

-- a number over the greatest names nothing
by_range : (item : MainItem) (us : List Usage) (first end : ℤ) (from place : ℕ) → IsPlaced item us first end from place → (v : ℤ) → greatest_of item <ℤ v → v <ℤ end → names_nothing item us v ≡ true
by_range item us first end from place p v low high =
    out_of_range item us v (above item.min item.max v (over_max (greatest_value item.min item.size) low (omega (arith, ints, high, p.high))))
  where
    over_max : (g : ℤ) → int_min item.max g <ℤ v → v ≤ℤ g → item.max <ℤ v
    over_max g a b = omega (arith, ints, clamps, a, b)

all_named : (item : MainItem) (us : List Usage) (first end : ℤ) (from place : ℕ) → IsPlaced item us first end from place → (v : ℤ) → first ≤ℤ v → v ≤ℤ greatest_of item → v <ℤ (item.min +ℤ pos place) → names_nothing item us v ≡ false
all_named item us first end from place p v low high less =
    let at = by_place item us first end from place p v low high in
    at.3 ∙ p.is.named at.0 at.2 (omega (arith, ints, at.1, less))

first_unnamed : (item : MainItem) (us : List Usage) (first end : ℤ) (from place : ℕ) → IsPlaced item us first end from place → (item.min +ℤ pos place) ≤ℤ greatest_of item → names_nothing item us (item.min +ℤ pos place) ≡ true
first_unnamed item us first end from place p high =
    let v : ℤ = item.min +ℤ pos place in
    let both = (greatest_facts item.max (greatest_value item.min item.size) v).0 high in
    let low : first ≤ℤ v = omega (arith, ints, p.from_is, p.is.low_bound) in
    named_at item us v place refl both.0 (omega (arith, ints, low, p.low)) both.1 ∙ p.is.nothing

first_within : (item : MainItem) (us : List Usage) (first end : ℤ) (from place : ℕ) → IsPlaced item us first end from place → first ≤ℤ greatest_of item
first_within item us first end from place p = (greatest_facts item.max (greatest_value item.min item.size) first).1 p.within (omega (arith, ints, p.some, p.high))

pub greatest_of_small : (item : MainItem) → item.size ≤ 32 → greatest_of item ≤ℤ pos (2 ^ 32 - 1)
greatest_of_small item n = under_both (greatest_value item.min item.size) (greatest_small item.min item.size n)
  where
    under_both : (g : ℤ) → g ≤ℤ pos (2 ^ 32 - 1) → int_min item.max g ≤ℤ pos (2 ^ 32 - 1)
    under_both g h = omega (arith, ints, clamps, h)

pub first_small : (item : MainItem) (first end : ℤ) → item.size ≤ 32 → end ≤ℤ (greatest_value item.min item.size +ℤ pos 1) → first <ℤ end → first ≤ℤ pos (2 ^ 32)
first_small item first end n h s = by_greatest (greatest_value item.min item.size) (greatest_small item.min item.size n) h
  where
    by_greatest : (g : ℤ) → g ≤ℤ pos (2 ^ 32 - 1) → end ≤ℤ (g +ℤ pos 1) → first ≤ℤ pos (2 ^ 32)
    by_greatest g a b = omega (arith, ints, a, b, s)

-- the number at the place, which is the first one over the greatest at most
by_greatest : (item : MainItem) (us : List Usage) (first end : ℤ) (from place : ℕ) → IsPlaced item us first end from place → (item.min +ℤ pos place) ≤ℤ (greatest_of item +ℤ pos 1) → (item.min +ℤ pos place) <ℤ end
    → names_nothing item us (item.min +ℤ pos place) ≡ true
by_greatest item us first end from place p near below = by_test (int_le (item.min +ℤ pos place) (greatest_of item)) refl
  where
    by_test : (b : Bool) → int_le (item.min +ℤ pos place) (greatest_of item) ≡ b → names_nothing item us (item.min +ℤ pos place) ≡ true
    by_test true e = first_unnamed item us first end from place p (record { le = T_from_true _ e })
    by_test false e = by_range item us first end from place p (item.min +ℤ pos place) (not_at_most (item.min +ℤ pos place) (greatest_of item) e) below
      where
        not_at_most : (a b : ℤ) → int_le a b ≡ false → b <ℤ a
        not_at_most a b e = grind (arith, ints)

-- the number of the place, or the first one over the greatest where that is less, is the least that names nothing
pub unnamed_low : (item : MainItem) (us : List Usage) (first end : ℤ) (from place : ℕ) → IsPlaced item us first end from place
    → first ≤ℤ int_min (item.min +ℤ pos place) (greatest_of item +ℤ pos 1)
unnamed_low item us first end from place p = by_both (greatest_of item) (first_within item us first end from place p) (omega (arith, ints, p.from_is, p.is.low_bound))
  where
    by_both : (g : ℤ) → first ≤ℤ g → first ≤ℤ (item.min +ℤ pos place) → first ≤ℤ int_min (item.min +ℤ pos place) (g +ℤ pos 1)
    by_both g a b = omega (arith, ints, clamps, a, b)

pub unnamed_nothing : (item : MainItem) (us : List Usage) (first end : ℤ) (from place : ℕ) → IsPlaced item us first end from place
    → int_min (item.min +ℤ pos place) (greatest_of item +ℤ pos 1) <ℤ end
    → names_nothing item us (int_min (item.min +ℤ pos place) (greatest_of item +ℤ pos 1)) ≡ true
unnamed_nothing item us first end from place p below = by_test (int_le (item.min +ℤ pos place) (greatest_of item +ℤ pos 1)) refl
  where
    v : ℤ
    v = item.min +ℤ pos place

    least_left : (g : ℤ) → v ≤ℤ g → int_min v g ≡ v
    least_left g h = omega (arith, ints, clamps, h)

    least_right : (g : ℤ) → g <ℤ v → int_min v g ≡ g
    least_right g h = omega (arith, ints, clamps, h)

    not_at_most : (a b : ℤ) → int_le a b ≡ false → b <ℤ a
    not_at_most a b e = grind (arith, ints)

    by_test : (b : Bool) → int_le v (greatest_of item +ℤ pos 1) ≡ b → names_nothing item us (int_min v (greatest_of item +ℤ pos 1)) ≡ true
    by_test true e =
        let near : v ≤ℤ (greatest_of item +ℤ pos 1) = record { le = T_from_true (int_le v (greatest_of item +ℤ pos 1)) e } in
        let same : int_min v (greatest_of item +ℤ pos 1) ≡ v = least_left (greatest_of item +ℤ pos 1) near in
        ap (names_nothing item us) same ∙ by_greatest item us first end from place p near (subst (λ (n : ℤ). n <ℤ end) same below)
    by_test false e =
        let over : (greatest_of item +ℤ pos 1) <ℤ v = not_at_most v (greatest_of item +ℤ pos 1) e in
        let same : int_min v (greatest_of item +ℤ pos 1) ≡ (greatest_of item +ℤ pos 1) = least_right (greatest_of item +ℤ pos 1) over in
        ap (names_nothing item us) same ∙ by_range item us first end from place p (greatest_of item +ℤ pos 1) (one_more (greatest_of item)) (subst (λ (n : ℤ). n <ℤ end) same below)
      where
        one_more : (g : ℤ) → g <ℤ (g +ℤ pos 1)
        one_more g = omega (arith, ints)

pub unnamed_named : (item : MainItem) (us : List Usage) (first end : ℤ) (from place : ℕ) → IsPlaced item us first end from place
    → (v : ℤ) → first ≤ℤ v → v <ℤ int_min (item.min +ℤ pos place) (greatest_of item +ℤ pos 1) → names_nothing item us v ≡ false
unnamed_named item us first end from place p v low less = let both = by_both (greatest_of item) less in all_named item us first end from place p v low both.0 both.1
  where
    by_both : (g : ℤ) → v <ℤ int_min (item.min +ℤ pos place) (g +ℤ pos 1) → (v ≤ℤ g) × (v <ℤ (item.min +ℤ pos place))
    by_both g h = (omega (arith, ints, clamps, h), omega (arith, ints, clamps, h))
