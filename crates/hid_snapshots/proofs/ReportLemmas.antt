-- The parts of a report can be sent, and one list of bytes alone shows them.
use Rattle.std.proofs.Common.{◌≡◌, ℕ, zero, suc, ◌+◌, ◌-◌, ◌*◌, ◌/◌, ◌%◌, ◌<◌, ◌≤◌, ◌⊎◌, inl, inr, not, ◌&&◌, ◌==◌, Bool, true, false, cond, List, [], ◌∷◌, ◌++◌, length, replicate, Option, Some, None, get_or, ℤ, refl, sym, ap, ◌∙◌, subst, arith}
use Rattle.std.specs.List.{slice_get}
use Rattle.std.proofs.lemmas.List.{get_or_default}
use Rattle.std.proofs.lemmas.Option.{slice_get_within}
use Rattle.hid_layout.specs.declared.main_item.MainItem.{MainItem}
use Rattle.hid_report_descriptor.specs.Usages.{Entry, usage_list}
use Rattle.hid_report_descriptor.specs.Fields.{is_padding}
use Rattle.hid_layout.specs.Layout.{Contents}
use Rattle.hid_layout.specs.Reports.{IsLayout, HasElements, report_bytes}
use Rattle.hid_layout.specs.Controls.{Form, NoControls, Item, items_of, item_of, form_of, controls_of_form, is_input, input_item, no_item}
use Rattle.hid_snapshots.specs.declared.control_state.ControlState.{ControlState}
use Rattle.hid_snapshots.specs.declared.control_state.ControlState.TheVariants.{Absent, Switches, Values, Motions, RollOver}
use Rattle.hid_snapshots.specs.ControlStates.{FitControlStates, HasRoom, InPart}
use Rattle.hid_snapshots.specs.Parts.{IsInput}
use Rattle.hid_snapshots.specs.Sending.{element_numbers}
use Rattle.hid_snapshots.specs.Encoding.{IsData, CanSendAll, HasFewPlaces, numbers_at, field_place, AreBytes, IsEncoding, is_data_in, part_numbers}
use Rattle.std.specs.Int.{bit_at}
use Rattle.std.proofs.lemmas.Grind.{same_number_lists}
use Rattle.std.proofs.Math.Nat.{mul-le-mul_left}
use Rattle.std.proofs.lemmas.Bool.{cases_lt}
use Rattle.hid_fields.specs.Field.{bit_of, pattern_of, IsOutside}
use Rattle.hid_fields.specs.Value.{is_negative, pattern_for}
use Rattle.hid_fields.proofs.FieldLemmas.{pattern_of-lt, pattern_of-same}
use Rattle.hid_fields.proofs.ValueLemmas.{pattern_for-only}
use Rattle.hid_fields.proofs.WordLemmas.{bit_at-pattern_of, pattern_of-byte}
use Rattle.hid_snapshots.specs.Numbers.{number_at, numbers_in}
use Rattle.hid_snapshots.specs.PartBytes.{bit_among, bit_sent, packed_bytes, packed_number, part_bytes}
use Rattle.std.specs.Prelude.{nat_le, nat_lt, if◌then◌else◌}
use Rattle.std.proofs.lemmas.Bool.Decides.{nat_tests}
use Rattle.hid_snapshots.proofs.NumberLemmas.{numbers_in-at}
use Rattle.hid_snapshots.proofs.EncodingLemmas.{state_numbers, data_if, no_data_if}
use Rattle.hid_snapshots.proofs.ItemLemmas.{items_from-at, items_of-length, got}
use Rattle.hid_snapshots.proofs.SendLemmas.{can_send, few_places}

-- the numbers of a listed item
pub numbers_at-is : (layout : Contents) (i : ℕ) (m : MainItem) (es : List Entry) (state : ControlState)
    → slice_get layout.items i ≡ Some m → slice_get layout.entries i ≡ Some es
    → numbers_at layout i state ≡ element_numbers m (usage_list es) (form_of m (usage_list es) m.shape) state
numbers_at-is layout i m es state h k =
    ap (λ (o : Option MainItem). elim o as
    (λ _. List ℤ) [
      | None ↦ []
      | Some item ↦
          elim (slice_get layout.entries i) as
          (λ _. List ℤ) [
            | None ↦ []
            | Some fs ↦
                element_numbers item (usage_list fs) (form_of item (usage_list fs) item.shape) state
          ]
    ]) h
    ∙ ap (λ (o : Option (List Entry)). elim o as
    (λ _. List ℤ) [
      | None ↦ []
      | Some fs ↦
          element_numbers m (usage_list fs) (form_of m (usage_list fs) m.shape) state
    ]) k

-- an item of an Input report has the controls of its form
pub form_in_input : (layout : Contents) (r : ℕ) (m : MainItem) (es : List Entry) → IsInput layout r → m.report ≡ r → (item_of layout m es).form ≡ form_of m (usage_list es) m.shape
form_in_input layout r m es input at_r =
    let in_it : is_input layout.reports m.report ≡ true = ap (is_input layout.reports) at_r ∙ input in
    rw in_it refl

item_room : (layout : Contents) (m : MainItem) (es : List Entry) (state : ControlState)
    → (is_padding m.shape ≡ false → HasElements m) → (is_padding m.shape ≡ false → 0 < length (usage_list es))
    → HasRoom (controls_of_form (item_of layout m es).form) state → HasFewPlaces state
item_room layout m es state has some room = by_input (is_input layout.reports m.report) room
  where
    vacant : (state : ControlState) → HasRoom (controls_of_form NoControls) state → HasFewPlaces state
    vacant Absent h = tt
    vacant (Switches ps) h = absurd h
    vacant (Values ps) h = absurd h
    vacant (Motions ps) h = absurd h
    vacant (RollOver ps) h = absurd h

    by_input : (b : Bool)
        → HasRoom
        (controls_of_form
        (let a : Item =
        input_item m.report (report_bytes layout m.report) (form_of m (usage_list es) m.shape) in let z : Item =
        no_item in cond b a z).form) state → HasFewPlaces state
    by_input true h = few_places m (usage_list es) m.shape state has some h
    by_input false h = vacant state h

-- The parts of an Input report can be sent.
pub can_send_all : (layout : Contents) (r : ℕ) (parts : List ControlState) → IsLayout layout → IsInput layout r
    → FitControlStates InPart (items_of layout) parts → CanSendAll layout r parts
can_send_all layout r parts laid input fits = record {
  all_there = fits.one_each ∙ items_of-length layout laid;
  each_item = λ i m d.
      let es = got layout.entries i (omega (arith, laid.entries_there, slice_get_within layout.items i m d.listed)) in
      let state = got parts i (omega (arith, fits.one_each, items_of-length layout laid, slice_get_within layout.items i m d.listed)) in
      let item = items_from-at layout layout.items layout.entries i m es.0 d.listed es.1 in
      let room = fits.room i (item_of layout m es.0) state.0 item state.1 in
      let ok = fits.suits i (item_of layout m es.0) state.0 item state.1 in
      let form = form_in_input layout r m es.0 input d.in_report in
      rw (state_numbers layout parts i state.0 state.1, numbers_at-is layout i m es.0 state.0 d.listed es.1)
      (can_send m (usage_list es.0) m.shape state.0 d.no_padding (laid.elements i m d.listed d.no_padding) (laid.some_usage i m es.0 d.listed es.1 d.no_padding)
      (subst (λ (f : Form). HasRoom (controls_of_form f) state.0) form room)
      (subst (λ (f : Form). InPart f state.0) form ok));
  few_places = λ i state h.
      let within : i < length layout.items = omega (arith, fits.one_each, items_of-length layout laid, slice_get_within parts i state h) in
      let m = got layout.items i within in
      let es = got layout.entries i (omega (arith, laid.entries_there)) in
      let item = items_from-at layout layout.items layout.entries i m.0 es.0 m.1 es.1 in
      item_room layout m.0 es.0 state (laid.elements i m.0 m.1) (laid.some_usage i m.0 es.0 m.1 es.1) (fits.room i (item_of layout m.0 es.0) state item h);
}

-- two lists of bytes with the same numbers have the same bits there
same_bits : (xs ys : List ℕ) (at w : ℕ) (signed : Bool) (n m : ℕ) → 0 < w → numbers_in xs at w signed n ≡ numbers_in ys at w signed n → at ≤ m → m < at + w * n → bit_of xs m ≡ bit_of ys m
same_bits xs ys at w signed n m some same low high =
    let d = m - at in
    let j = d / w in
    let k = d % w in
    let split : w * j + k ≡ d = omega arith in
    let small : k < w = omega arith in
    let within : j < n = below j n k (omega arith) in
    let here : Some (number_at xs (at + w * j) w signed) ≡ Some (number_at ys (at + w * j) w signed) =
    sym (numbers_in-at xs at w signed n j within) ∙ ap (λ (l : List ℤ). slice_get l j) same ∙ numbers_in-at ys at w signed n j within
    in
    let number : number_at xs (at + w * j) w signed ≡ number_at ys (at + w * j) w signed = cc in
    let pattern : pattern_of xs (at + w * j) w ≡ pattern_of ys (at + w * j) w =
    sym (pattern_for-only _ w signed (pattern_of xs (at + w * j) w) some (pattern_of-lt xs (at + w * j) w) refl)
    ∙ pattern_for-only _ w signed (pattern_of ys (at + w * j) w) some (pattern_of-lt ys (at + w * j) w) (sym number)
    in
    let bit : bit_of xs ((at + w * j) + k) ≡ bit_of ys ((at + w * j) + k) =
    sym (bit_at-pattern_of xs (at + w * j) w k small) ∙ ap (λ (p : ℕ). bit_at p k) pattern ∙ bit_at-pattern_of ys (at + w * j) w k small
    in
    let field_place : (at + w * j) + k ≡ m = omega arith in
    rw field_place at bit
  where
    below : (j n k : ℕ) → w * j + k < w * n → j < n
    below j n k h = elim (cases_lt j n) [ inl lt ↦ lt | inr ge ↦ let more = mul-le-mul_left w ge in absurd (omega arith) ]

-- a bit that a data element of the report covers
record Covers (layout : Contents) (r k n : ℕ) : Type 0 where
  index : ℕ
  item : MainItem
  below : index < k
  is_data : IsData layout r index item
  low : field_place layout item ≤ n
  high : n < field_place layout item + item.size * item.count

AreOutside : Contents → ℕ → ℕ → ℕ → Type 0
AreOutside layout r k n =
    (i : ℕ) (m : MainItem) → i < k → IsData layout r i m → IsOutside (field_place layout m) (m.size * m.count) n

one_item_more : (layout : Contents) (r k n : ℕ) (m : MainItem) → slice_get layout.items k ≡ Some m
    → AreOutside layout r k n → IsOutside (field_place layout m) (m.size * m.count) n → AreOutside layout r (suc k) n
unfolding AreOutside
one_item_more layout r k n m there before here = λ i a h d.
    elim (cases_lt i k) [
      | inl lt ↦ before i a lt d
      | inr ge ↦
          let e : i ≡ k = omega arith in
          let P : ℕ → Type 0 = λ j. slice_get layout.items j ≡ Some a in
          let same : a ≡ m = same_place layout.items k a m (subst P e d.listed) there in
          rw same here
    ]
  where
    same_place : (xs : List MainItem) (j : ℕ) (a b : MainItem) → slice_get xs j ≡ Some a → slice_get xs j ≡ Some b → a ≡ b
    same_place xs j a b h g = cc

no_item_more : (layout : Contents) (r k n : ℕ) → ((m : MainItem) → IsData layout r k m → ⊥) → AreOutside layout r k n → AreOutside layout r (suc k) n
unfolding AreOutside
no_item_more layout r k n none before = λ i a h d.
    elim (cases_lt i k) [
      | inl lt ↦ before i a lt d
      | inr ge ↦ let e : i ≡ k = omega arith in let P : ℕ → Type 0 = λ j. IsData layout r j a in absurd (none a (subst P e d))
    ]

covered_or_not : (layout : Contents) (r k n : ℕ) → k ≤ length layout.items → Covers layout r k n ⊎ AreOutside layout r k n
unfolding AreOutside
covered_or_not layout r zero n h = inr (λ i m lt d. absurd (omega arith))
covered_or_not layout r (suc k) n h = by_before (covered_or_not layout r k n (omega arith)) (got layout.items k (omega arith))
  where
    by_bits : (m : MainItem) → slice_get layout.items k ≡ Some m → AreOutside layout r k n → IsData layout r k m → Covers layout r (suc k) n ⊎ AreOutside layout r (suc k) n
    by_bits m there before d = elim (cases_lt n (field_place layout m)) [
      | inl under ↦ inr (one_item_more layout r k n m there before (inl under))
      | inr low ↦ elim (cases_lt n (field_place layout m + m.size * m.count)) [
        | inl high ↦ inl (record { index = k; item = m; below = omega arith; is_data = d; low = low; high = high })
        | inr over ↦ inr (one_item_more layout r k n m there before (inr over))
      ]
    ]

    by_test : (m : MainItem) → slice_get layout.items k ≡ Some m → AreOutside layout r k n → (b : Bool) → (m.report == r && not (is_padding m.shape)) ≡ b → Covers layout r (suc k) n ⊎ AreOutside layout r (suc k) n
    by_test m there before true e = by_bits m there before (data_if layout r k m there e)
    by_test m there before false e = inr (no_item_more layout r k n (no_data_if layout r k m there e) before)

    by_before : Covers layout r k n ⊎ AreOutside layout r k n → (m : MainItem) × (slice_get layout.items k ≡ Some m) → Covers layout r (suc k) n ⊎ AreOutside layout r (suc k) n
    by_before (inl c) m = inl (record { index = c.index; item = c.item; below = (let b = c.below in omega arith); is_data = c.is_data; low = c.low; high = c.high })
    by_before (inr out) m = by_test m.0 m.1 out (m.0.report == r && not (is_padding m.0.shape)) refl

-- One list of bytes alone shows these numbers.
pub only_one : (layout : Contents) (r : ℕ) (numbers : ℕ → List ℤ) (a b : List ℕ) → IsLayout layout → AreBytes a → AreBytes b → IsEncoding layout r numbers a → IsEncoding layout r numbers b → a ≡ b
unfolding AreOutside
only_one layout r numbers a b laid bytes_a bytes_b is_a is_b = same_number_lists a b (is_a.whole ∙ sym is_b.whole) byte
  where
    bit : (n : ℕ) → bit_of a n ≡ bit_of b n
    bit n = elim (covered_or_not layout r (length layout.items) n (omega arith)) [
      | inl c ↦
          let d = c.is_data in
          let has = laid.elements c.index c.item d.listed d.no_padding in
          same_bits a b (field_place layout c.item) c.item.size (is_negative c.item.min) c.item.count n has.some_bits
          (is_a.shows.elements c.index c.item c.below d ∙ sym (is_b.shows.elements c.index c.item c.below d)) c.low c.high
      | inr out ↦ is_a.shows.others n out ∙ sym (is_b.shows.others n out)
    ]

    byte : (i : ℕ) → i < length a → get_or a i 0 ≡ get_or b i 0
    byte i h =
        let h' : i < length b = omega (arith, is_a.whole, is_b.whole) in
        sym (pattern_of-byte a i (bytes_a i 0 h)) ∙ pattern_of-same a b (8 * i) (8 * i) 8 (λ k lt. bit (8 * i + k)) ∙ pattern_of-byte b i (bytes_b i 0 h')

all_zeros : (n k d : ℕ) → (let zeros : List ℕ = replicate n 0 in k < length zeros → get_or zeros k d < 256)
all_zeros zero k d h = absurd (omega arith)
all_zeros (suc n) zero d h = omega arith
all_zeros (suc n) (suc k) d h = all_zeros n k d (omega arith)

-- an ID and zeros are bytes
pub byte_then_zeros : (id n : ℕ) (before one bytes : List ℕ) → before ≡ [] → one ≡ before ++ id ∷ [] → bytes ≡ one ++ replicate n 0 → id < 256 → AreBytes bytes
byte_then_zeros id n before one bytes none some is small = rw (is, some, none) at
  where
    at : (k d : ℕ) → (let zeros : List ℕ = id ∷ replicate n 0 in k < length zeros → get_or zeros k d < 256)
    at zero d h = small
    at (suc k) d h = all_zeros n k d (omega arith)

-- zeros alone are bytes
pub zeros_alone : (n : ℕ) (before bytes : List ℕ) → before ≡ [] → bytes ≡ before ++ replicate n 0 → AreBytes bytes
zeros_alone n before bytes none is = rw (is, none) (all_zeros n)

-- what stands in a slice of bytes
pub are_bytes : (bytes : List ℕ) → ((i : ℕ) → get_or bytes i 0 < 256) → AreBytes bytes
are_bytes bytes small = λ k d within. omega (arith, get_or_default bytes k d 0 within, small k)

-- The bytes as a function, bit by bit.

place_among : (bytes : List ℕ) (at w : ℕ) (signed : Bool) (count n : ℕ) (numbers : List ℤ) → 0 < w → numbers_in bytes at w signed count ≡ numbers → at ≤ n → n < at + w * count
    → bit_of bytes n ≡ bit_among numbers w (n - at)
place_among bytes at w signed count n numbers some shows low high =
    let d = n - at in
    let j = d / w in
    let k = d % w in
    let split : w * j + k ≡ d = omega arith in
    let small : k < w = omega arith in
    let within : j < count = below j count k (omega arith) in
    let v : ℤ = number_at bytes (at + w * j) w signed in
    let here : slice_get numbers j ≡ Some v = ap (λ (l : List ℤ). slice_get l j) (sym shows) ∙ numbers_in-at bytes at w signed count j within in
    let pattern : pattern_of bytes (at + w * j) w ≡ pattern_for v w = sym (pattern_for-only v w signed (pattern_of bytes (at + w * j) w) some (pattern_of-lt bytes (at + w * j) w) refl) in
    let field_place : (at + w * j) + k ≡ n = omega arith in
    let bit : bit_at (pattern_of bytes (at + w * j) w) k ≡ bit_of bytes ((at + w * j) + k) = bit_at-pattern_of bytes (at + w * j) w k small in
    ap (bit_of bytes) (sym field_place) ∙ sym bit ∙ ap (λ (p : ℕ). bit_at p k) pattern
    ∙ sym (ap (λ (o : Option ℤ). elim o as (λ _. ℕ) [ None ↦ 0 | Some x ↦ bit_at (pattern_for x w) k ]) here)
  where
    below : (j count k : ℕ) → w * j + k < w * count → j < count
    below j count k h = elim (cases_lt j count) [ inl lt ↦ lt | inr ge ↦ let more = mul-le-mul_left w ge in absurd (omega arith) ]

-- of the items from a place on, where none before it covers the bit
abbrev AreFrom : Contents → ℕ → List MainItem → Type 0
AreFrom layout i items = (j : ℕ) → slice_get items j ≡ slice_get layout.items (i + j)

abbrev SentBit : Contents → ℕ → (ℕ → List ℤ) → List ℕ → ℕ → ℕ → MainItem → List MainItem → Bool → Type 0
SentBit layout r numbers bytes n i item items b =
    bit_of bytes n
    ≡ (if b &&
    (nat_le (field_place layout item) n
    && nat_lt n (field_place layout item + item.size * item.count)) then bit_among (numbers i) item.size
    (n - field_place layout item) else bit_sent layout r numbers (i + 1) items n)

sent_bits : (layout : Contents) (r : ℕ) (numbers : ℕ → List ℤ) (bytes : List ℕ) (n : ℕ) → IsLayout layout → IsEncoding layout r numbers bytes
    → (i : ℕ) (items : List MainItem) → i + length items ≡ length layout.items → AreFrom layout i items → AreOutside layout r i n
    → bit_of bytes n ≡ bit_sent layout r numbers i items n
unfolding AreOutside
sent_bits layout r numbers bytes n laid is i [] whole from out =
    let all : i ≡ length layout.items = omega arith in
    is.shows.others n (subst (λ (k : ℕ). AreOutside layout r k n) all out)
sent_bits layout r numbers bytes n laid is i (item ∷ items) whole from out =
    let rest = sent_bits layout r numbers bytes n laid is (i + 1) items (omega arith) (λ j. from (suc j) ∙ ap (slice_get layout.items) (omega arith)) in
    by_data (is_data_in r item) refl rest
  where
    there : slice_get layout.items i ≡ Some item
    there = sym (from 0 ∙ ap (slice_get layout.items) (omega arith))

    next : AreOutside layout r (suc i) n → AreOutside layout r (i + 1) n
    next o = subst (λ (k : ℕ). AreOutside layout r k n) (let e : suc i ≡ i + 1 = omega arith in e) o

    inside : IsData layout r i item → field_place layout item ≤ n
        → n < field_place layout item + item.size * item.count
        → bit_of bytes n ≡ bit_among (numbers i) item.size (n - field_place layout item)
    inside d low high =
        let has = laid.elements i item d.listed d.no_padding in
        place_among bytes (field_place layout item) item.size (is_negative item.min) item.count n
        (numbers i) has.some_bits
        (is.shows.elements i item (slice_get_within layout.items i item there) d) low high

    by_bits : IsData layout r i item → (AreOutside layout r (i + 1) n → bit_of bytes n ≡ bit_sent layout r numbers (i + 1) items n) → SentBit layout r numbers bytes n i item items true
    by_bits d rest = elim (cases_lt n (field_place layout item)) [
      | inl under ↦
          let test : nat_le (field_place layout item) n && nat_lt n (field_place layout item + item.size * item.count)
          ≡ false = grind (arith, nat_tests, under) in
          rest (next (one_item_more layout r i n item there out (inl under)))
          ∙ sym (ap
          (λ (b : Bool). if b then bit_among (numbers i) item.size
          (n - field_place layout item) else bit_sent layout r numbers (i + 1) items n) test)
      | inr low ↦ elim (cases_lt n (field_place layout item + item.size * item.count)) [
        | inl high ↦
            let test : nat_le (field_place layout item) n
            && nat_lt n (field_place layout item + item.size * item.count) ≡ true =
            grind (arith, nat_tests, low, high) in
            inside d low high
            ∙ sym (ap
            (λ (b : Bool). if b then bit_among (numbers i) item.size
            (n - field_place layout item) else bit_sent layout r numbers (i + 1) items n) test)
        | inr over ↦
            let test : nat_le (field_place layout item) n
            && nat_lt n (field_place layout item + item.size * item.count) ≡ false =
            grind (arith, nat_tests, over) in
            rest (next (one_item_more layout r i n item there out (inr over)))
            ∙ sym (ap
            (λ (b : Bool). if b then bit_among (numbers i) item.size
            (n - field_place layout item) else bit_sent layout r numbers (i + 1) items n) test)
      ]
    ]

    by_data : (b : Bool) → is_data_in r item ≡ b → (AreOutside layout r (i + 1) n → bit_of bytes n ≡ bit_sent layout r numbers (i + 1) items n) → SentBit layout r numbers bytes n i item items b
    by_data true e rest = by_bits (data_if layout r i item there e) rest
    by_data false e rest = rest (next (no_item_more layout r i n (no_data_if layout r i item there e) out))

packed_is : (bytes : List ℕ) (bits : ℕ → ℕ) (at w : ℕ) → ((n : ℕ) → bit_of bytes n ≡ bits n)
    → pattern_of bytes at w ≡ packed_number bits at w
packed_is bytes bits at zero same = refl
packed_is bytes bits at (suc k) same = rw (packed_is bytes bits at k same, same (at + k)) refl

bytes_are : (bytes : List ℕ) (bits : ℕ → ℕ) (i n : ℕ) → length bytes ≡ n
    → ((j : ℕ) → j < n → get_or bytes j 0 ≡ packed_number bits (8 * (i + j)) 8) → bytes ≡ packed_bytes bits i n
bytes_are [] bits i zero len same = refl
bytes_are [] bits i (suc n) len same = absurd (omega arith)
bytes_are (b ∷ bytes) bits i zero len same = absurd (omega arith)
bytes_are (b ∷ bytes) bits i (suc n) len same =
    let head : b ≡ packed_number bits (8 * i) 8 =
    same 0 (omega arith) ∙ ap (λ (k : ℕ). packed_number bits k 8) (omega arith) in
    let tail : bytes ≡ packed_bytes bits (i + 1) n =
    bytes_are bytes bits (i + 1) n (omega arith)
    (λ j lt. same (suc j) (omega arith) ∙ ap (λ (k : ℕ). packed_number bits k 8) (omega arith)) in
    ap (λ (x : ℕ). x ∷ bytes) head ∙ ap (λ (xs : List ℕ). packed_number bits (8 * i) 8 ∷ xs) tail

-- The bytes that show a part are computed.
pub bytes_are_of_part : (layout : Contents) (r : ℕ) (parts : List ControlState) (bytes : List ℕ) → IsLayout layout
    → AreBytes bytes → IsEncoding layout r (part_numbers layout parts) bytes → bytes ≡ part_bytes layout r parts
unfolding AreOutside part_bytes
bytes_are_of_part layout r parts bytes laid are is = bytes_are bytes sent_bit 0 (report_bytes layout r) is.whole byte
  where
    sent_bit : ℕ → ℕ
    sent_bit = bit_sent layout r (part_numbers layout parts) 0 layout.items

    bit : (n : ℕ) → bit_of bytes n ≡ sent_bit n
    bit n = sent_bits layout r (part_numbers layout parts) bytes n laid is 0 layout.items (omega arith) (λ j. ap (slice_get layout.items) (omega arith)) (λ i m lt d. absurd (omega arith))

    byte : (j : ℕ) → j < report_bytes layout r → get_or bytes j 0 ≡ packed_number sent_bit (8 * (0 + j)) 8
    byte j lt =
        let e : 8 * j ≡ 8 * (0 + j) = omega arith in
        sym (pattern_of-byte bytes j (are j 0 (omega (arith, is.whole)))) ∙ packed_is bytes sent_bit (8 * j) 8 bit
        ∙ ap (λ (k : ℕ). packed_number sent_bit k 8) e
