-- The bytes of a part are those of a report whose elements have the part's numbers.
use Rattle.std.proofs.Common.{◌≡◌, ◌==◌, ◌&&◌, not, ℕ, zero, suc, ◌+◌, ◌-◌, ◌*◌, ◌/◌, ◌%◌, ◌^◌, ◌<◌, ◌≤◌, inl, inr, Bool, true, false, List, [], ◌∷◌, length, replicate, Option, Some, None, get_or, ℤ, All, refl, sym, ap, subst, ◌∙◌, add_comm, mul_comm, pos, one-add, arith}
use Rattle.std.specs.Prelude.{nat_le, nat_lt, if◌then◌else◌}
use Rattle.std.specs.List.{slice_get}
use Rattle.std.specs.Int.{bit_at}
use Rattle.std.proofs.Math.Nat.{mod-eq_of_lt, mul-add-mod_self_left, pow-suc}
use Rattle.std.proofs.lemmas.Bool.{cases_eq, cases_lt}
use Rattle.std.proofs.lemmas.Bool.Decides.{nat_tests}
use Rattle.std.proofs.lemmas.Nat.{div-mul-add, mod-pow-add, shr_high}
use Rattle.std.proofs.lemmas.Nat.Bits.{bit_at-lt, bit_at-zero, bit_at_cat_low}
use Rattle.std.proofs.lemmas.Option.{slice_get-get_or, slice_get_past, slice_get_within}
use Rattle.hid_fields.specs.Field.{IsOutside, bit_of, pattern_of}
use Rattle.hid_fields.specs.Value.{FitsField, is_negative, pattern_for, value_of}
use Rattle.hid_fields.proofs.ValueLemmas.{pattern_for-lt, value_of-pattern_for}
use Rattle.hid_report_descriptor.specs.Fields.{is_padding}
use Rattle.hid_layout.specs.declared.main_item.MainItem.{MainItem}
use Rattle.hid_layout.specs.Layout.{Contents}
use Rattle.hid_layout.specs.Reports.{IsLayout, bits_of, report_bytes, report_id}
use Rattle.hid_snapshots.specs.declared.control_state.ControlState.{ControlState}
use Rattle.hid_snapshots.specs.Encoding.{AreBytes, CanSendAll, IsData, IsEncoding, bare_report, field_place, is_data_in, part_numbers}
use Rattle.hid_snapshots.specs.Numbers.{number_at, numbers_in}
use Rattle.hid_snapshots.specs.PartBytes.{bit_among, bit_sent, covers, packed_bytes, packed_number, part_bytes}
use Rattle.hid_snapshots.proofs.EncodingLemmas.{data_if, either_sign, place_inside}
use Rattle.hid_snapshots.proofs.NumberLemmas.{numbers_in-at, numbers_in-length, step_within}
use Rattle.hid_snapshots.proofs.ReportLemmas.{are_bytes}

-- ---- bits as bytes

-- each of these is 0 or 1
abbrev AreBits : (ℕ → ℕ) → Type 0
AreBits bits = (n : ℕ) → bits n < 2

bit_times : (b x : ℕ) → b < 2 → b * x ≤ x
bit_times zero x h = omega arith
bit_times (suc zero) x h = omega arith
bit_times (suc (suc b)) x h = omega arith

packed-lt : (bits : ℕ → ℕ) (at w : ℕ) → AreBits bits → packed_number bits at w < 2 ^ w
packed-lt bits at zero are = omega arith
packed-lt bits at (suc w) are =
    rw (pow-suc 2 w)
    (omega (arith, packed-lt bits at w are, bit_times (bits (at + w)) (2 ^ w) (are (at + w))))

bit_at-packed : (bits : ℕ → ℕ) (at w k : ℕ) → AreBits bits → k < w
    → bit_at (packed_number bits at w) k ≡ bits (at + k)
bit_at-packed bits at zero k are h = absurd (omega arith)
bit_at-packed bits at (suc w) k are h =
    elim (cases_eq k w) [
      | inl e ↦
          rw (e, add_comm (packed_number bits at w) (bits (at + w) * 2 ^ w), shr_high (bits (at + w)) w (packed_number bits at w) (packed-lt bits at w are))
          (mod-eq_of_lt (are (at + w)))
      | inr ne ↦
          let lt : k < w = omega arith in
          rw (add_comm (packed_number bits at w) (bits (at + w) * 2 ^ w))
          (bit_at_cat_low (bits (at + w)) w (packed_number bits at w) k lt ∙ bit_at-packed bits at w k are lt)
    ]

packed-length : (bits : ℕ → ℕ) (i n : ℕ) → length (packed_bytes bits i n) ≡ n
packed-length bits i zero = refl
packed-length bits i (suc n) = ap suc (packed-length bits (i + 1) n)

packed_at : (bits : ℕ → ℕ) (i n j : ℕ) → j < n
    → get_or (packed_bytes bits i n) j 0 ≡ packed_number bits (8 * (i + j)) 8
packed_at bits i zero j h = absurd (omega arith)
packed_at bits i (suc n) zero h =
    let e : 8 * i ≡ 8 * (i + 0) = omega arith in
    ap (λ (k : ℕ). packed_number bits k 8) e
packed_at bits i (suc n) (suc j) h =
    let e : 8 * ((i + 1) + j) ≡ 8 * (i + suc j) = omega arith in
    packed_at bits (i + 1) n j (omega arith) ∙ ap (λ (k : ℕ). packed_number bits k 8) e

packed_past : (bits : ℕ → ℕ) (i n j : ℕ) → n ≤ j → get_or (packed_bytes bits i n) j 0 ≡ 0
packed_past bits i zero j h = refl
packed_past bits i (suc n) zero h = absurd (omega arith)
packed_past bits i (suc n) (suc j) h = packed_past bits (i + 1) n j (omega arith)

packed_bit : (bits : ℕ → ℕ) (n m : ℕ) → AreBits bits → m < 8 * n → bit_of (packed_bytes bits 0 n) m ≡ bits m
packed_bit bits n m are h =
    let within : m / 8 < n = omega arith in
    let small : m % 8 < 8 = omega arith in
    let e : 8 * (0 + m / 8) + m % 8 ≡ m = omega arith in
    ap (λ (x : ℕ). bit_at x (m % 8)) (packed_at bits 0 n (m / 8) within)
    ∙ bit_at-packed bits (8 * (0 + m / 8)) 8 (m % 8) are small
    ∙ ap bits e

packed_no_bit : (bits : ℕ → ℕ) (n m : ℕ) → 8 * n ≤ m → bit_of (packed_bytes bits 0 n) m ≡ 0
packed_no_bit bits n m h =
    let past : n ≤ m / 8 = omega arith in
    ap (λ (x : ℕ). bit_at x (m % 8)) (packed_past bits 0 n (m / 8) past) ∙ bit_at-zero (m % 8)

packed_are_bytes : (bits : ℕ → ℕ) (n : ℕ) → AreBits bits → AreBytes (packed_bytes bits 0 n)
packed_are_bytes bits n are = are_bytes (packed_bytes bits 0 n) small
  where
    small : (j : ℕ) → get_or (packed_bytes bits 0 n) j 0 < 256
    small j = elim (cases_lt j n) [
      | inl lt ↦
          let few : packed_number bits (8 * (0 + j)) 8 < 256 = packed-lt bits (8 * (0 + j)) 8 are in
          omega (arith, packed_at bits 0 n j lt, few)
      | inr ge ↦ omega (arith, packed_past bits 0 n j ge)
    ]

-- ---- numbers, by their bits

pattern_by_bits : (bytes : List ℕ) (at w p : ℕ) → ((k : ℕ) → k < w → bit_of bytes (at + k) ≡ bit_at p k)
    → pattern_of bytes at w ≡ p % 2 ^ w
pattern_by_bits bytes at zero p same = omega arith
pattern_by_bits bytes at (suc w) p same =
    let split = rw (one-add w) at (mod-pow-add p 1 w) in
    rw (pattern_by_bits bytes at w p (λ k lt. same k (omega arith)), same w (omega arith)) (add_comm _ _ ∙ sym split)

number_by_bits : (bytes : List ℕ) (at w : ℕ) (signed : Bool) (v : ℤ) → 0 < w → FitsField v w signed
    → ((k : ℕ) → k < w → bit_of bytes (at + k) ≡ bit_at (pattern_for v w) k) → number_at bytes at w signed ≡ v
number_by_bits bytes at w signed v some fits same =
    let lt : pattern_for v w < 2 ^ w = pattern_for-lt v w some (either_sign v w signed some fits) in
    let pattern : pattern_of bytes at w ≡ pattern_for v w = pattern_by_bits bytes at w (pattern_for v w) same ∙ mod-eq_of_lt lt in
    ap (λ (p : ℕ). value_of p w signed) pattern ∙ value_of-pattern_for v w signed some fits

-- lists with the same elements are the same
same_lists : (xs ys : List ℤ) → length xs ≡ length ys → ((j : ℕ) → j < length xs → slice_get xs j ≡ slice_get ys j) → xs ≡ ys
same_lists [] [] len same = refl
same_lists [] (y ∷ ys) len same = absurd (omega (arith, len))
same_lists (x ∷ xs) [] len same = absurd (omega (arith, len))
same_lists (x ∷ xs) (y ∷ ys) len same =
    let first : Some x ≡ Some y = same 0 (omega arith) in
    let head : x ≡ y = cc in
    let tail : xs ≡ ys = same_lists xs ys (omega (arith, len)) (λ j lt. same (suc j) (omega (arith, lt))) in
    ap (λ (a : ℤ). a ∷ xs) head ∙ ap (λ (more : List ℤ). y ∷ more) tail

-- a bit of a number among others
among_is : (numbers : List ℤ) (at w j k : ℕ) (v : ℤ) → k < w → slice_get numbers j ≡ Some v
    → bit_among numbers w (((at + w * j) + k) - at) ≡ bit_at (pattern_for v w) k
among_is numbers at w j k v small there =
    let d : ((at + w * j) + k) - at ≡ w * j + k = omega arith in
    let q : (w * j + k) / w ≡ j = ap (λ (x : ℕ). (x + k) / w) (mul_comm w j) ∙ div-mul-add j w k small in
    let r : (w * j + k) % w ≡ k = mul-add-mod_self_left w j k ∙ mod-eq_of_lt small in
    ap (bit_among numbers w) d
    ∙ ap (λ (i : ℕ). elim (slice_get numbers i) as
    (λ _. ℕ) [ None ↦ 0 | Some x ↦ bit_at (pattern_for x w) ((w * j + k) % w) ]) q
    ∙ ap (λ (o : Option ℤ). elim o as (λ _. ℕ) [ None ↦ 0 | Some x ↦ bit_at (pattern_for x w) ((w * j + k) % w) ]) there
    ∙ ap (bit_at (pattern_for v w)) r

numbers_by_bits : (bytes : List ℕ) (at w : ℕ) (signed : Bool) (numbers : List ℤ) (count : ℕ) → 0 < w → length numbers ≡ count
    → All (λ v. FitsField v w signed) numbers
    → ((n : ℕ) → at ≤ n → n < at + w * count → bit_of bytes n ≡ bit_among numbers w (n - at))
    → numbers_in bytes at w signed count ≡ numbers
numbers_by_bits bytes at w signed numbers count some len fits bits =
    same_lists (numbers_in bytes at w signed count) numbers (numbers_in-length bytes at w signed count ∙ sym len) each
  where
    each : (j : ℕ) → j < length (numbers_in bytes at w signed count)
        → slice_get (numbers_in bytes at w signed count) j ≡ slice_get numbers j
    each j lt =
        let within : j < count = omega (arith, numbers_in-length bytes at w signed count, lt) in
        let inside : j < length numbers = omega (arith, len, within) in
        let v : ℤ = get_or numbers j (pos 0) in
        let there : slice_get numbers j ≡ Some v = slice_get-get_or numbers j (pos 0) inside in
        let room : w * j + w ≤ w * count = step_within w j count within in
        let number : number_at bytes (at + w * j) w signed ≡ v =
        number_by_bits bytes (at + w * j) w signed v some (fits j (pos 0) inside)
        (λ k small. bits ((at + w * j) + k) (omega arith) (omega (arith, room, small)) ∙ among_is numbers at w j k v small there) in
        numbers_in-at bytes at w signed count j within ∙ ap Some number ∙ sym there

-- ---- the bits of a report, item by item

either_small : (b : Bool) (x y : ℕ) → x < 2 → y < 2 → (if b then x else y) < 2
either_small true x y p q = p
either_small false x y p q = q

named_small : (o : Option ℤ) (w k : ℕ) → (elim o as (λ _. ℕ) [ None ↦ 0 | Some v ↦ bit_at (pattern_for v w) k ]) < 2
named_small None w k = omega arith
named_small (Some v) w k = bit_at-lt (pattern_for v w) k

sent_small : (layout : Contents) (r : ℕ) (numbers : ℕ → List ℤ) (i : ℕ) (items : List MainItem) (n : ℕ)
    → bit_sent layout r numbers i items n < 2
sent_small layout r numbers i [] n = bit_at-lt _ _
sent_small layout r numbers i (item ∷ items) n =
    either_small (covers layout r item n) (bit_among (numbers i) item.size (n - field_place layout item))
    (bit_sent layout r numbers (i + 1) items n)
    (named_small (slice_get (numbers i) ((n - field_place layout item) / item.size)) item.size ((n - field_place layout item) % item.size))
    (sent_small layout r numbers (i + 1) items n)

and_false : (b : Bool) → (b && false) ≡ false
and_false true = refl
and_false false = refl

-- whether the elements of an item hold a bit
abbrev in_field : Contents → MainItem → ℕ → Bool
in_field layout item n =
    nat_le (field_place layout item) n && nat_lt n (field_place layout item + item.size * item.count)

covers_outside : (layout : Contents) (r : ℕ) (item : MainItem) (n : ℕ)
    → IsOutside (field_place layout item) (item.size * item.count) n → covers layout r item n ≡ false
covers_outside layout r item n (inl under) =
    let test : nat_le (field_place layout item) n && nat_lt n (field_place layout item + item.size * item.count) ≡ false = grind (arith, nat_tests, under) in
    ap (λ (b : Bool). is_data_in r item && b) test ∙ and_false (is_data_in r item)
covers_outside layout r item n (inr over) =
    let test : nat_le (field_place layout item) n && nat_lt n (field_place layout item + item.size * item.count) ≡ false = grind (arith, nat_tests, over) in
    ap (λ (b : Bool). is_data_in r item && b) test ∙ and_false (is_data_in r item)

covers_no_data : (layout : Contents) (r : ℕ) (item : MainItem) (n : ℕ) → is_data_in r item ≡ false
    → covers layout r item n ≡ false
covers_no_data layout r item n e = ap (λ (b : Bool). b && in_field layout item n) e

covers_inside : (layout : Contents) (r : ℕ) (item : MainItem) (n : ℕ) → is_data_in r item ≡ true
    → field_place layout item ≤ n → n < field_place layout item + item.size * item.count
    → covers layout r item n ≡ true
covers_inside layout r item n e low high =
    let test : nat_le (field_place layout item) n && nat_lt n (field_place layout item + item.size * item.count) ≡ true = grind (arith, nat_tests, low, high) in
    ap (λ (b : Bool). b && in_field layout item n) e ∙ test

is_data : (layout : Contents) (r i : ℕ) (item : MainItem) → IsData layout r i item → is_data_in r item ≡ true
is_data layout r i item d =
    let report : item.report ≡ r = d.in_report in
    let here : (item.report == r) ≡ true = grind (arith, nat_tests, report) in
    ap (λ (b : Bool). b && not (is_padding item.shape)) here ∙ ap not d.no_padding

-- of the items from a place on
abbrev AreFrom : Contents → ℕ → List MainItem → Type 0
AreFrom layout i items = (j : ℕ) → slice_get items j ≡ slice_get layout.items (i + j)

first_there : (layout : Contents) (i : ℕ) (item : MainItem) (items : List MainItem) → AreFrom layout i (item ∷ items)
    → slice_get layout.items i ≡ Some item
first_there layout i item items from =
    let e : i + 0 ≡ i = omega arith in
    sym (from 0 ∙ ap (slice_get layout.items) e)

rest_from : (layout : Contents) (i : ℕ) (item : MainItem) (items : List MainItem) → AreFrom layout i (item ∷ items)
    → AreFrom layout (i + 1) items
rest_from layout i item items from = λ j.
    let e : i + suc j ≡ (i + 1) + j = omega arith in
    from (suc j) ∙ ap (slice_get layout.items) e

-- a bit by whether the first item covers it
abbrev bit_by : Contents → ℕ → (ℕ → List ℤ) → ℕ → MainItem → List MainItem → ℕ → Bool → ℕ
bit_by layout r numbers i item items n b =
    if b then bit_among (numbers i) item.size (n - field_place layout item)
    else bit_sent layout r numbers (i + 1) items n

uncovered : (layout : Contents) (r : ℕ) (numbers : ℕ → List ℤ) (n i : ℕ) (items : List MainItem) → AreFrom layout i items
    → ((j : ℕ) (item : MainItem) → i ≤ j → IsData layout r j item → IsOutside (field_place layout item) (item.size * item.count) n)
    → bit_sent layout r numbers i items n ≡ bit_of (bare_report layout r) n
uncovered layout r numbers n i [] from out = refl
uncovered layout r numbers n i (item ∷ items) from out =
    ap (bit_by layout r numbers i item items n) (by_data (is_data_in r item) refl)
    ∙ uncovered layout r numbers n (i + 1) items (rest_from layout i item items from) (λ j m le d. out j m (omega arith) d)
  where
    by_data : (b : Bool) → is_data_in r item ≡ b → covers layout r item n ≡ false
    by_data true e =
        covers_outside layout r item n
        (out i item (omega arith) (data_if layout r i item (first_there layout i item items from) e))
    by_data false e = covers_no_data layout r item n e

covered : (layout : Contents) (r : ℕ) (numbers : ℕ → List ℤ) (n k : ℕ) (item : MainItem) → IsLayout layout
    → IsData layout r k item → field_place layout item ≤ n → n < field_place layout item + item.size * item.count
    → (i : ℕ) (items : List MainItem) → AreFrom layout i items → i ≤ k
    → bit_sent layout r numbers i items n ≡ bit_among (numbers k) item.size (n - field_place layout item)
covered layout r numbers n k item laid d low high i [] from le =
    let at_k : i + (k - i) ≡ k = omega arith in
    let none : None ≡ Some item =
    sym (slice_get_past [] (k - i) (omega arith)) ∙ from (k - i) ∙ ap (slice_get layout.items) at_k ∙ d.listed in
    absurd (cc)
covered layout r numbers n k item laid d low high i (x ∷ items) from le =
    elim (cases_eq i k) [
      | inl e ↦
          let some : Some item ≡ Some x = sym d.listed ∙ ap (slice_get layout.items) (sym e) ∙ there in
          let same : item ≡ x = cc in
          let test : covers layout r x n ≡ true =
          subst (λ (m : MainItem). covers layout r m n ≡ true) same
          (covers_inside layout r item n (is_data layout r k item d) low high) in
          ap (bit_by layout r numbers i x items n) test
          ∙ ap (λ (m : MainItem). bit_among (numbers i) m.size (n - field_place layout m)) (sym same)
          ∙ ap (λ (j : ℕ). bit_among (numbers j) item.size (n - field_place layout item)) e
      | inr ne ↦
          let lt : i < k = omega arith in
          ap (bit_by layout r numbers i x items n) (by_data lt (is_data_in r x) refl)
          ∙ covered layout r numbers n k item laid d low high (i + 1) items (rest_from layout i x items from) (omega arith)
    ]
  where
    there : slice_get layout.items i ≡ Some x
    there = first_there layout i x items from

    by_data : i < k → (b : Bool) → is_data_in r x ≡ b → covers layout r x n ≡ false
    by_data lt true e =
        let here = data_if layout r i x there e in
        let apart : x.offset + x.size * x.count ≤ item.offset =
        laid.apart i k x item lt here.listed d.listed (here.in_report ∙ sym d.in_report) in
        covers_outside layout r x n (inr (omega (arith, apart, low)))
    by_data lt false e = covers_no_data layout r x n e

-- ---- a report of zeros has no bit after its last byte

zeros : (k j : ℕ) → (let all : List ℕ = replicate k 0 in get_or all j 0 ≡ 0)
zeros zero j = refl
zeros (suc k) zero = refl
zeros (suc k) (suc j) = zeros k j

zeros_after_one : (id k j : ℕ) → 0 < j → get_or (id ∷ replicate k 0) j 0 ≡ 0
zeros_after_one id k zero h = absurd (omega arith)
zeros_after_one id k (suc j) h = zeros k j

-- a report of zeros by whether reports are numbered
abbrev bare_by : Contents → ℕ → Bool → List ℕ
bare_by layout r b =
    if b then report_id layout r ∷ replicate (report_bytes layout r - 1) 0 else replicate (report_bytes layout r) 0

bare_past : (layout : Contents) (r n : ℕ) (b : Bool) → layout.numbered ≡ b → 8 * report_bytes layout r ≤ n
    → bit_of (bare_report layout r) n ≡ 0
bare_past layout r n true e h =
    let more : report_bytes layout r ≡ (bits_of layout.reports r + 7) / 8 + 1 =
    ap (λ (b : Bool). (bits_of layout.reports r + 7) / 8 + (if b then 1 else 0)) e in
    let some : 0 < n / 8 = omega (arith, more, h) in
    ap (λ (b : Bool). bit_of (bare_by layout r b) n) e
    ∙ ap (λ (x : ℕ). bit_at x (n % 8)) (zeros_after_one (report_id layout r) (report_bytes layout r - 1) (n / 8) some)
    ∙ bit_at-zero (n % 8)
bare_past layout r n false e h =
    ap (λ (b : Bool). bit_of (bare_by layout r b) n) e
    ∙ ap (λ (x : ℕ). bit_at x (n % 8)) (zeros (report_bytes layout r) (n / 8))
    ∙ bit_at-zero (n % 8)

-- ---- a report's part

-- each bit of a part
abbrev part_bits : Contents → ℕ → List ControlState → ℕ → ℕ
part_bits layout r parts = bit_sent layout r (part_numbers layout parts) 0 layout.items

part_are_bits : (layout : Contents) (r : ℕ) (parts : List ControlState) → AreBits (part_bits layout r parts)
part_are_bits layout r parts n = sent_small layout r (part_numbers layout parts) 0 layout.items n

all_from : (layout : Contents) → AreFrom layout 0 layout.items
all_from layout = λ j.
    let e : j ≡ 0 + j = omega arith in
    ap (slice_get layout.items) e

pub part_is_bytes : (layout : Contents) (r : ℕ) (parts : List ControlState) → AreBytes (part_bytes layout r parts)
unfolding part_bytes
part_is_bytes layout r parts = packed_are_bytes (part_bits layout r parts) (report_bytes layout r) (part_are_bits layout r parts)

pub part_length : (layout : Contents) (r : ℕ) (parts : List ControlState) → length (part_bytes layout r parts) ≡ report_bytes layout r
unfolding part_bytes
part_length layout r parts = packed-length (part_bits layout r parts) 0 (report_bytes layout r)

pub part_encodes : (layout : Contents) (r : ℕ) (parts : List ControlState) → IsLayout layout → CanSendAll layout r parts
    → IsEncoding layout r (part_numbers layout parts) (part_bytes layout r parts)
unfolding part_bytes
part_encodes layout r parts laid can = record {
  whole = part_length layout r parts;
  shows = record { elements = element; others = other };
}
  where
    element : (i : ℕ) (item : MainItem) → i < length layout.items → IsData layout r i item
        → numbers_in (part_bytes layout r parts) (field_place layout item) item.size (is_negative item.min) item.count
        ≡ part_numbers layout parts i
    element i item lt d =
        let has = laid.elements i item d.listed d.no_padding in
        let sends = can.each_item i item d in
        let room = place_inside layout r i item laid d in
        numbers_by_bits (part_bytes layout r parts) (field_place layout item) item.size (is_negative item.min)
        (part_numbers layout parts i) item.count has.some_bits sends.one_each sends.fit
        (λ n low high. packed_bit (part_bits layout r parts) (report_bytes layout r) n (part_are_bits layout r parts) (omega (arith, room, high))
        ∙ covered layout r (part_numbers layout parts) n i item laid d low high 0 layout.items (all_from layout) (omega arith))

    other : (n : ℕ) → ((i : ℕ) (item : MainItem) → i < length layout.items → IsData layout r i item
        → IsOutside (field_place layout item) (item.size * item.count) n)
        → bit_of (part_bytes layout r parts) n ≡ bit_of (bare_report layout r) n
    other n out = elim (cases_lt n (8 * report_bytes layout r)) [
      | inl lt ↦
          packed_bit (part_bits layout r parts) (report_bytes layout r) n (part_are_bits layout r parts) lt
          ∙ uncovered layout r (part_numbers layout parts) n 0 layout.items (all_from layout)
          (λ j item le d. out j item (slice_get_within layout.items j item d.listed) d)
      | inr ge ↦
          packed_no_bit (part_bits layout r parts) (report_bytes layout r) n ge
          ∙ sym (bare_past layout r n layout.numbered refl ge)
    ]
