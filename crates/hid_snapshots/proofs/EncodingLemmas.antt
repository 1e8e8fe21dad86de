-- A report is written item after item.
use Rattle.std.proofs.Common.{◌≡◌, ◌==◌, ◌&&◌, not, ℕ, ◌+◌, ◌-◌, ◌*◌, ◌<◌, ◌≤◌, ◌⊎◌, inl, inr, Bool, true, false, List, [], ◌++◌, length, Option, Some, None, ℤ, All, length-append, replicate, append-nil, take, drop, refl, sym, ap, subst, ◌∙◌, arith}
use Rattle.std.specs.List.{slice_get}
use Rattle.std.proofs.Math.Seq.{drop-length, take-length}
use Rattle.std.proofs.lemmas.Bool.{cases_lt}
use Rattle.hid_fields.specs.Field.{bit_of, IsOutside}
use Rattle.hid_fields.specs.Value.{is_negative, FitsField, FitsEitherSign}
use Rattle.hid_fields.proofs.ValueLemmas.{twice_half}
use Rattle.std.proofs.lemmas.Int.{ints}
use Rattle.std.proofs.lemmas.Nat.{pow_pos}
use Rattle.hid_layout.specs.declared.main_item.MainItem.{MainItem}
use Rattle.hid_layout.specs.Layout.{Contents}
use Rattle.hid_layout.specs.Reports.{IsLayout, HasElements, first_bit, report_bytes}
use Rattle.hid_report_descriptor.specs.Fields.{is_padding}
use Rattle.hid_report_descriptor.specs.Usages.{Entry, usage_list}
use Rattle.hid_report_descriptor.specs.declared.shape.Shape.{Shape}
use Rattle.hid_layout.specs.Controls.{form_of}
use Rattle.std.proofs.lemmas.Bool.Decides.{nat_tests}
use Rattle.hid_snapshots.specs.Numbers.{numbers_in}
use Rattle.hid_snapshots.specs.Encoding.{IsData, Shows, CanSend, IsEncoding, bare_report, part_numbers, numbers_at, field_place}
use Rattle.hid_snapshots.proofs.PlanLemmas.{Skips}
use Rattle.hid_snapshots.specs.declared.control_state.ControlState.{ControlState}
use Rattle.hid_snapshots.specs.Sending.{element_numbers, pressed_places_from, switch_count}
use Rattle.hid_snapshots.proofs.PlaceLemmas.{pressed_places_from-length}
use Rattle.hid_snapshots.proofs.NumberLemmas.{numbers_in-agree}

below_next : (i k : ℕ) → i < k + 1 → (i < k) ⊎ (i ≡ k)
below_next i k h = elim (cases_lt i k) [ inl a ↦ inl a | inr b ↦ inr (omega arith) ]

same_item : (layout : Contents) (r i : ℕ) (a b : MainItem) → slice_get layout.items i ≡ Some a → slice_get layout.items i ≡ Some b → a ≡ b
same_item layout r i a b h k = cc

-- nothing is written yet
pub shows_none : (layout : Contents) (r : ℕ) (numbers : ℕ → List ℤ) (bytes : List ℕ) → Shows layout r numbers 0 bytes bytes
shows_none layout r numbers bytes = record { elements = λ i item h. absurd (omega arith); others = λ n h. refl }

-- an item of another report, or without data, is passed
pub shows_passed : (layout : Contents) (r : ℕ) (numbers : ℕ → List ℤ) (k : ℕ) (before bytes : List ℕ) → ((item : MainItem) → IsData layout r k item → ⊥)
    → Shows layout r numbers k before bytes → Shows layout r numbers (k + 1) before bytes
shows_passed layout r numbers k before bytes not_data s = record {
  elements = λ i item h d. elim (below_next i k h) [ inl lt ↦ s.elements i item lt d | inr e ↦ absurd (not_data item (let P : ℕ → Type 0 = λ j. IsData layout r j item in subst P e d)) ];
  others = λ n out. s.others n (λ i item h d. out i item (omega arith) d);
}

-- one item more is shown, and the bytes are put back
pub shows_put : (layout : Contents) (r : ℕ) (numbers : ℕ → List ℤ) (i : ℕ) (before xs old new ys : List ℕ) → old ≡ xs → ys ≡ new → ((b : List ℕ) → Shows layout r numbers i b old → Shows layout r numbers (i + 1) b new)
    → Shows layout r numbers i before xs → Shows layout r numbers (i + 1) before ys
shows_put layout r numbers i before xs old new ys e f step s = rw f (step before (rw e s))

-- an item of another report shows nothing
pub other_passed : (layout : Contents) (r : ℕ) (numbers : ℕ → List ℤ) (before bytes : List ℕ) → Skips layout r (λ i. Shows layout r numbers i before bytes)
other_passed layout r numbers before bytes i item listed other s =
    shows_passed layout r numbers i before bytes (λ m d. let same : item ≡ m = same_item layout r i item m listed d.listed in let at : item.report ≡ r = rw same d.in_report in grind (arith, nat_tests)) s

-- an item's elements are written
pub shows_next : (layout : Contents) (r : ℕ) (numbers : ℕ → List ℤ) (k : ℕ) (item : MainItem) (before xs ys : List ℕ) → IsLayout layout → IsData layout r k item
    → numbers_in ys (field_place layout item) item.size (is_negative item.min) item.count ≡ numbers k
    → ((n : ℕ) → IsOutside (field_place layout item) (item.size * item.count) n → bit_of ys n ≡ bit_of xs n)
    → Shows layout r numbers k before xs → Shows layout r numbers (k + 1) before ys
shows_next layout r numbers k item before xs ys laid d written others s = record {
  elements = λ i a h da. elim (below_next i k h) [
    | inl lt ↦
        let behind : a.offset + a.size * a.count ≤ item.offset = laid.apart i k a item lt da.listed d.listed (da.in_report ∙ sym d.in_report) in
        numbers_in-agree ys xs (field_place layout a) a.size (is_negative a.min) a.count
        (λ m from to. others m (inl (omega arith))) ∙ s.elements i a lt da
    | inr e ↦
        let same : a ≡ item = same_item layout r k a item (let P : ℕ → Type 0 = λ j. slice_get layout.items j ≡ Some a in subst P e da.listed) d.listed in
        rw (same, e) written
  ];
  others = λ n out. others n (out k item (omega arith) d) ∙ s.others n (λ i a h da. out i a (omega arith) da);
}

-- a number that a field can carry with its sign, it can carry
pub either_sign : (v : ℤ) (w : ℕ) (signed : Bool) → 0 < w → FitsField v w signed → FitsEitherSign v w
either_sign v w true some h = (h.0, omega (arith, ints, twice_half w some))
either_sign v w false some h = (omega (arith, ints, h.0, pow_pos (w - 1)), h.1)

pub each_fits : (item : MainItem) (numbers : List ℤ) → HasElements item → CanSend item numbers → All (λ v. FitsEitherSign v item.size) numbers
each_fits item numbers has can = λ k d h. either_sign _ item.size (is_negative item.min) has.some_bits (can.fit k d h)

pub ruleset sending = (each_fits)

-- what the test of an item tells
pub data_if : (layout : Contents) (r i : ℕ) (item : MainItem) → slice_get layout.items i ≡ Some item → (item.report == r && not (is_padding item.shape)) ≡ true → IsData layout r i item
data_if layout r i item listed h = record { listed = listed; in_report = grind (arith, nat_tests); no_padding = grind (arith, nat_tests) }

pub no_data_if : (layout : Contents) (r i : ℕ) (item : MainItem) → slice_get layout.items i ≡ Some item → (item.report == r && not (is_padding item.shape)) ≡ false → (other : MainItem) → IsData layout r i other → ⊥
no_data_if layout r i item listed h other d =
    let same : item ≡ other = same_item layout r i item other listed d.listed in
    let at_item : item.report ≡ r = rw same d.in_report in
    let shape : is_padding item.shape ≡ false = rw same d.no_padding in
    grind (arith, nat_tests)

-- the item's elements lie in the report
pub place_inside : (layout : Contents) (r i : ℕ) (item : MainItem) → IsLayout layout → IsData layout r i item
    → field_place layout item + item.size * item.count ≤ 8 * report_bytes layout r
place_inside layout r i item laid d =
    let h : first_bit layout + (item.offset + item.size * item.count) ≤ 8 * report_bytes layout r = rw (← d.in_report) (laid.inside i item d.listed) in
    omega arith

pub refill_same : (n : ℕ) (xs ws : List ℕ) → n ≡ length xs → length ws ≡ length xs → take n (ws ++ drop (length ws) xs) ≡ ws
refill_same n xs ws e h = rw (h, drop-length xs, append-nil ws, e, ← h) (take-length ws)

pub ruleset whole_report = (refill_same, shows_none)

-- all items are shown
pub encoded : (layout : Contents) (r k : ℕ) (numbers : ℕ → List ℤ) (bytes : List ℕ) → k ≡ length layout.items → length bytes ≡ report_bytes layout r
    → Shows layout r numbers k (bare_report layout r) bytes → IsEncoding layout r numbers bytes
encoded layout r k numbers bytes e whole s = record { whole = whole; shows = rw (← e) s }

-- what is sent of a control state at a listed item, by the item and its usages
pub sent_there : (layout : Contents) (i : ℕ) (item : MainItem) (es : List Entry) (state : ControlState) (shape : Shape)
    → slice_get layout.items i ≡ Some item → slice_get layout.entries i ≡ Some es → item.shape ≡ shape
    → numbers_at layout i state ≡ element_numbers item (usage_list es) (form_of item (usage_list es) shape) state
sent_there layout i item es state shape it ranges is =
    ap (λ (o : Option MainItem). elim o as
    (λ _. List ℤ) [
      | None ↦ []
      | Some x ↦
          elim (slice_get layout.entries i) as
          (λ _. List ℤ) [
            | None ↦ []
            | Some l ↦
                element_numbers x (usage_list l) (form_of x (usage_list l) x.shape) state
          ]
    ]) it
    ∙ ap (λ (o : Option (List Entry)). elim o as
    (λ _. List ℤ) [
      | None ↦ []
      | Some l ↦
          element_numbers item (usage_list l) (form_of item (usage_list l) item.shape) state
    ]) ranges
    ∙ ap (λ (s : Shape). element_numbers item (usage_list es) (form_of item (usage_list es) s) state) is

pub state_numbers : (layout : Contents) (parts : List ControlState) (i : ℕ) (state : ControlState)
    → slice_get parts i ≡ Some state → part_numbers layout parts i ≡ numbers_at layout i state
state_numbers layout parts i state h =
    ap (λ (o : Option ControlState). elim o as (λ _. List ℤ) [ None ↦ [] | Some x ↦ numbers_at layout i x ]) h

-- an array that can be sent has no more pressed keys than elements
pub keys_few : (item : MainItem) (ps : List Bool) (rest : ℕ) (v : ℤ)
    → CanSend item (pressed_places_from item.min 0 ps ++ replicate rest v) → switch_count ps ≤ item.count
keys_few item ps rest v can =
    omega (
      arith,
      can.one_each,
      pressed_places_from-length item.min 0 ps,
      length-append (pressed_places_from item.min 0 ps) (replicate rest v),
    )

pub ruleset keys_sent = (keys_few)
