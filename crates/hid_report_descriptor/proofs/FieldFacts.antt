-- What holds of each field that accepted items list.
use Rattle.std.proofs.Common.{◌≡◌, ℕ, zero, suc, ◌*◌, ◌-◌, ◌%◌, ◌^◌, ◌<◌, ◌≤◌, Bool, true, false, cond, not, ◌&&◌, ◌||◌, List, [], ◌∷◌, ◌++◌, length, take, refl, subst, arith, nat_eq, nat_lt, nat_le, Some, None, Option, ℤ}
use Rattle.std.specs.Prelude.{pos, neg_ℤ, ◌-ℤ◌, ◌≤ℤ◌}
use Rattle.std.specs.List.{slice_get}
use Rattle.std.proofs.lemmas.Int.{ints}
use Rattle.hid_report_descriptor.specs.Limits.{longest_report, widest_field}
use Rattle.hid_report_descriptor.specs.declared.limits.Limits.{Limits}
use Rattle.hid_report_descriptor.specs.declared.report.ReportKind.{ReportKind}
use Rattle.std.proofs.lemmas.Grind.{common_steps}
use Rattle.std.proofs.lemmas.Bool.Decides.{nat_tests}
use Rattle.hid_report_descriptor.specs.declared.fault.Cause.{Cause}
use Rattle.hid_report_descriptor.specs.declared.fault.Cause.TheVariants.{PopEmpty, PushDepth, CollectionDepth, EndWithout, Delimiter, BadReportId, UnpairedUsage, BadUsageRange, BadSize, BadRange}
use Rattle.hid_report_descriptor.specs.Items.{EncodedItem, is, is_field, REPORT_ID, PUSH, POP, COLLECTION, END_COLLECTION, DELIMITER, LOGICAL_MINIMUM}
use Rattle.hid_report_descriptor.specs.Matching.{waiting_after}
use Rattle.hid_report_descriptor.specs.Globals.{look_back, open_pushes}
use Rattle.hid_report_descriptor.specs.Usages.{Entry, are_ranges}
use Rattle.hid_report_descriptor.specs.declared.shape.Shape.{Shape}
use Rattle.hid_report_descriptor.specs.declared.shape.Shape.TheVariants.{Padding, Variable, Array}
use Rattle.hid_report_descriptor.specs.Fields.{VARIABLE, Field, bits_of, report_bits, shape_of, shown_entries, is_padding, has_flag, CONSTANT}
use Rattle.hid_report_descriptor.specs.Faults.{first_met, value_tests, field_fault, other_fault, fault_of, AreAccepted, has_value, report_limit}
use Rattle.hid_items.specs.ItemEncoding.{data_of, unsigned_of, signed_of, prefix_of, IsItemEncoding, IsLongRest, data_length, little_endian}
use Rattle.std.specs.Bool.{MatchBool}
use Rattle.hid_report_descriptor.specs.Path.{path}

-- none of the tests is met
pub none_met : (b : Bool) (k : Cause) (ts : List (Bool × Cause)) → first_met ((b, k) ∷ ts) ≡ None → (b ≡ false) × (first_met ts ≡ None)
none_met true k ts e = absurd cc
none_met false k ts e = (refl, e)

pub none_met_in : (ts us : List (Bool × Cause)) → first_met (ts ++ us) ≡ None → (first_met ts ≡ None) × (first_met us ≡ None)
none_met_in [] us e = (refl, e)
none_met_in (t ∷ ts) us e =
    let split = none_met t.0 t.1 (ts ++ us) e in
    let rest = none_met_in ts us split.1 in
    (rw split.0 rest.0, rest.1)

-- what the value tests leave of a data item
pub record HasValues (es : List Entry) (min max : ℤ) (size : ℕ) : Type 0 where
  pub ranges : are_ranges es ≡ true
  pub some_bits : 0 < size
  pub narrow : size ≤ 32
  pub value : has_value min max size ≡ true

of_not : (b : Bool) → not b ≡ false → b ≡ true
of_not true e = refl
of_not false e = absurd cc

pub not_met : (b : Bool) (k : Cause) (o : Option Cause) → cond b (Some k) o ≡ None → (b ≡ false) × (o ≡ None)
not_met true k o e = absurd cc
not_met false k o e = (refl, e)

-- four tests in order, none of which is met
four_unmet : (a b c d : Bool) (i j k l : Cause) → cond a (Some i) (cond b (Some j) (cond c (Some k) (cond d (Some l) None))) ≡ None → (a ≡ false) × (b ≡ false) × (c ≡ false) × (d ≡ false)
four_unmet a b c d i j k l e =
    let p = not_met a i (cond b (Some j) (cond c (Some k) (cond d (Some l) None))) e in
    let q = not_met b j (cond c (Some k) (cond d (Some l) None)) p.1 in
    let r = not_met c k (cond d (Some l) None) q.1 in
    let s = not_met d l None r.1 in
    (p.0, q.0, r.0, s.0)

size_fits : (size : ℕ) (wide : Bool) → (nat_eq size 0 || wide) ≡ false → 0 < size
size_fits size true e = absurd (by_zero (nat_eq size 0) e)
  where
    by_zero : (b : Bool) → (b || true) ≡ false → ⊥
    by_zero true e = cc
    by_zero false e = cc
size_fits size false e = grind (arith, common_steps, nat_tests)

-- a field that isn't wide is as narrow as a number
narrow : (size : ℕ) → nat_lt 32 size ≡ false → (size ≤ 32) × (nat_le size 32 ≡ true)
narrow size e = (grind (arith, nat_tests), grind (arith, nat_tests))

true_and : (u b : Bool) → u ≡ true → (u && b) ≡ false → b ≡ false
true_and true b t e = e
true_and false b t e = absurd cc

are_some : (e : Entry) (es : List Entry) → not (nat_eq (length (e ∷ es)) 0) ≡ true
are_some e es = grind (arith, common_steps, nat_tests)

pub values_of : (limits : Limits) (f : Field) (paired : Bool) (e : Entry) (es : List Entry) → nat_lt 32 f.size ≡ false → first_met (value_tests limits f paired (e ∷ es)) ≡ None → HasValues (e ∷ es) f.min f.max f.size
values_of limits f paired e es n h =
    let u : Bool = not (nat_eq (length (e ∷ es)) 0) in
    let some = are_some e es in
    let unmet = four_unmet (not paired) (not (are_ranges (e ∷ es))) (u && (nat_eq f.size 0 || nat_lt (widest_field limits) f.size)) (u && (nat_le f.size 32 && not (has_value f.min f.max f.size))) UnpairedUsage BadUsageRange BadSize BadRange h in
    let small = narrow f.size n in
    record {
      ranges = of_not (are_ranges (e ∷ es)) unmet.1;
      some_bits = size_fits f.size (nat_lt (widest_field limits) f.size) (true_and u (nat_eq f.size 0 || nat_lt (widest_field limits) f.size) some unmet.2);
      narrow = small.0;
      value = of_not (has_value f.min f.max f.size) (true_and (nat_le f.size 32) (not (has_value f.min f.max f.size)) small.1 (true_and u (nat_le f.size 32 && not (has_value f.min f.max f.size)) some unmet.3));
    }

-- What holds of each listed field: it has bits, few entries, and a small report ID; where it isn't padding it has
-- usages, elements, and a range with values.
pub record IsSound (field : Field) : Type 0 where
  pub some_bits : 0 < bits_of field
  pub few_entries : length field.entries ≤ 64
  pub small_id : field.id < 256
  pub low : neg_ℤ (pos (2 ^ 32)) ≤ℤ field.min
  pub some_count : is_padding field.shape ≡ false → 0 < field.count
  pub some_entries : is_padding field.shape ≡ false → 0 < length field.entries
  pub values : is_padding field.shape ≡ false → HasValues field.entries field.min field.max field.size

-- the tests on the values of an item that is no padding
pub data_item : (flags size count : ℕ) (es : List Entry) → is_padding (shape_of flags size count es) ≡ false → ((has_flag CONSTANT flags || nat_eq count 0) ≡ false) × (nat_lt 32 size ≡ false)
data_item flags size count [] e = absurd cc
data_item flags size count (x ∷ xs) e = by_case (has_flag CONSTANT flags || nat_eq count 0) (nat_lt 32 size) e
  where
    by_case : (b w : Bool) → is_padding (cond (b || w) Padding (cond (has_flag VARIABLE flags) Variable Array)) ≡ false → (b ≡ false) × (w ≡ false)
    by_case true w e = absurd cc
    by_case false true e = absurd cc
    by_case false false e = (refl, refl)

pub data_entries : (flags size count : ℕ) (es : List Entry) → is_padding (shape_of flags size count es) ≡ false → shown_entries (shape_of flags size count es) es ≡ es
data_entries flags size count [] e = absurd cc
data_entries flags size count (x ∷ xs) e = by_shape (shape_of flags size count (x ∷ xs)) e
  where
    by_shape : (s : Shape) → is_padding s ≡ false → shown_entries s (x ∷ xs) ≡ x ∷ xs
    by_shape Padding e = absurd cc
    by_shape Variable e = refl
    by_shape Array e = refl

-- an item of this prefix is no field
no_field : (item : EncodedItem) → is REPORT_ID item ≡ true → is_field item ≡ false
no_field item r = let h : prefix_of item ≡ 0x84 = grind (arith, nat_tests) in rw h refl

fifth_unmet : (a b c d e : Bool) (i j k l m : Cause) (o : Option Cause) → cond a (Some i) (cond b (Some j) (cond c (Some k) (cond d (Some l) (cond e (Some m) o)))) ≡ None → e ≡ false
fifth_unmet a b c d e i j k l m o h =
    let p = not_met a i (cond b (Some j) (cond c (Some k) (cond d (Some l) (cond e (Some m) o)))) h in
    let q = not_met b j (cond c (Some k) (cond d (Some l) (cond e (Some m) o))) p.1 in
    let r = not_met c k (cond d (Some l) (cond e (Some m) o)) q.1 in
    let s = not_met d l (cond e (Some m) o) r.1 in
    (not_met e m o s.1).0

-- an accepted Report ID has at most 255
id_unmet : (limits : Limits) (before : List EncodedItem) (item : EncodedItem) → fault_of limits before item ≡ None → is REPORT_ID item ≡ true → unsigned_of (data_of item) < 256
id_unmet limits before item e r =
    let other : other_fault before item ≡ None = subst (λ b. cond b (field_fault limits before item) (other_fault before item) ≡ None) (no_field item r) e in
    let n : ℕ = unsigned_of (data_of item) in
    let bad : (is REPORT_ID item && (nat_eq n 0 || nat_lt 255 n)) ≡ false =
    fifth_unmet (is POP item && nat_eq (length (open_pushes before)) 0) (is PUSH item && nat_le 8 (length (open_pushes before))) (is COLLECTION item && nat_le 16 (length (path before))) (is END_COLLECTION item && nat_eq (length (path before)) 0)
    (is REPORT_ID item && (nat_eq n 0 || nat_lt 255 n)) PopEmpty PushDepth CollectionDepth EndWithout BadReportId (cond (is DELIMITER item) (Some Delimiter) None) other in
    small_of n (true_and (is REPORT_ID item) (nat_eq n 0 || nat_lt 255 n) r bad)
  where
    small_of : (n : ℕ) → (nat_eq n 0 || nat_lt 255 n) ≡ false → n < 256
    small_of n h = grind (arith, common_steps, nat_tests)

-- going back over accepted items, the Report ID in force has at most 255
pub small_ids : (limits : Limits) (waiting : ℕ) (before : List EncodedItem) → AreAccepted limits before → unsigned_of (look_back REPORT_ID waiting before) < 256
small_ids limits waiting [] a = omega arith
small_ids limits waiting (item ∷ before) a = by_case (nat_eq waiting 0) (is REPORT_ID item) refl (id_unmet limits before item a.1) (small_ids limits (waiting_after PUSH POP waiting item) before a.0)
  where
    by_case : (w b : Bool) → is REPORT_ID item ≡ b → (is REPORT_ID item ≡ true → unsigned_of (data_of item) < 256) → unsigned_of (look_back REPORT_ID (waiting_after PUSH POP waiting item) before) < 256
        → unsigned_of (cond (w && b) (data_of item) (look_back REPORT_ID (waiting_after PUSH POP waiting item) before)) < 256
    by_case true true e here rest = here e
    by_case true false e here rest = rest
    by_case false b e here rest = rest

-- each of these items is encoded as one
abbrev pub AreSpelled : List EncodedItem → Type 0
AreSpelled [] = Unit {0}
AreSpelled (item ∷ before) = IsItemEncoding item × AreSpelled before

-- the data of a short item of a size that its first byte tells
short_data : (item : EncodedItem) → IsItemEncoding item → is LOGICAL_MINIMUM item ≡ true → length (data_of item) ≤ 4
short_data [] s r = absurd s
short_data (first ∷ rest) s r =
    let h : first - first % 4 ≡ 0x14 = grind (arith, nat_tests) in
    let short : nat_eq first 0xFE ≡ false = grind (arith, nat_tests) in
    let l : length rest ≡ data_length first = subst (λ b. MatchBool b (IsLongRest rest) (length rest ≡ data_length first)) short s in
    let k : data_length first ≤ 4 = by_size (nat_eq (first % 4) 3) (omega arith) in
    omega (arith, l, k)
  where
    by_size : (b : Bool) → first % 4 < 4 → cond b 4 (first % 4) ≤ 4
    by_size true h = omega arith
    by_size false h = omega arith

pattern_count : (n : ℕ) → n ≤ 4 → 256 ^ n ≤ 2 ^ 32
pattern_count zero h = omega arith
pattern_count (suc zero) h = omega arith
pattern_count (suc (suc zero)) h = omega arith
pattern_count (suc (suc (suc zero))) h = omega arith
pattern_count (suc (suc (suc (suc zero)))) h = omega arith
pattern_count (suc (suc (suc (suc (suc n))))) h = absurd (omega (arith, h))

low_by_sign : (b : Bool) (patterns n : ℕ) → patterns ≤ 2 ^ 32 → neg_ℤ (pos (2 ^ 32)) ≤ℤ cond b (pos n) (pos n -ℤ pos patterns)
low_by_sign true patterns n h = omega (arith, ints)
low_by_sign false patterns n h = omega (arith, ints, h)

-- a number in two's complement isn't under the least of its size
pub low_signed : (bytes : List ℕ) → length bytes ≤ 4 → neg_ℤ (pos (2 ^ 32)) ≤ℤ signed_of bytes
low_signed bytes h = low_by_sign (nat_lt (2 * little_endian bytes) (256 ^ length bytes)) (256 ^ length bytes) (little_endian bytes) (pattern_count (length bytes) h)

-- a Logical Minimum in force has at most four bytes
pub short_minimum : (waiting : ℕ) (before : List EncodedItem) → AreSpelled before → length (look_back LOGICAL_MINIMUM waiting before) ≤ 4
short_minimum waiting [] s = omega arith
short_minimum waiting (item ∷ before) s = by_case (nat_eq waiting 0) (is LOGICAL_MINIMUM item) refl (short_data item s.0) (short_minimum (waiting_after PUSH POP waiting item) before s.1)
  where
    by_case : (w b : Bool) → is LOGICAL_MINIMUM item ≡ b → (is LOGICAL_MINIMUM item ≡ true → length (data_of item) ≤ 4) → length (look_back LOGICAL_MINIMUM (waiting_after PUSH POP waiting item) before) ≤ 4
        → length (cond (w && b) (data_of item) (look_back LOGICAL_MINIMUM (waiting_after PUSH POP waiting item) before)) ≤ 4
    by_case true true e here rest = here e
    by_case true false e here rest = rest
    by_case false b e here rest = rest

-- What is known of the fields that accepted items list: each is sound and lies after the earlier ones of its report,
-- and no report is over its limit.
pub record AreListed (limits : Limits) (fs : List Field) : Type 0 where
  pub sound : (i : ℕ) (f : Field) → slice_get fs i ≡ Some f → IsSound f
  pub offsets : (i : ℕ) (f : Field) → slice_get fs i ≡ Some f → f.offset ≡ report_bits f.kind f.id (take i fs)
  pub short : (kind : ReportKind) (id : ℕ) → report_bits kind id fs ≤ report_limit limits id
  pub few : length fs ≤ 512

pub none_listed : (limits : Limits) → AreListed limits []
none_listed limits = record {
  sound = λ i f e. absurd (cc);
  offsets = λ i f e. absurd (cc);
  short = λ kind id. small_limit id (nat_eq id 0);
  few = omega arith;
}
  where
    small_limit : (id : ℕ) (b : Bool) → 0 ≤ cond b (8 * longest_report limits) (8 * (longest_report limits - 1))
    small_limit id b = omega arith
