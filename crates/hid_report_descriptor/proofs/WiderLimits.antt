-- What the limits of the bus allow, those of real devices allow too.
use Rattle.std.proofs.Common.{◌≡◌, ℕ, Bool, true, false, cond, not, ◌&&◌, ◌||◌, List, [], ◌∷◌, ◌++◌, length, refl, arith, nat_eq, nat_lt, Option, Some, None}
use Rattle.std.proofs.lemmas.Bool.Decides.{nat_tests}
use Rattle.hid_report_descriptor.specs.declared.limits.Limits.TheVariants.{Bus, Real}
use Rattle.hid_report_descriptor.specs.declared.fault.Cause.{Cause}
use Rattle.hid_report_descriptor.specs.Items.{EncodedItem, is_field}
use Rattle.hid_report_descriptor.specs.Usages.{Entry, entries, are_paired}
use Rattle.hid_report_descriptor.specs.Flags.{has_flag, CONSTANT}
use Rattle.hid_report_descriptor.specs.Fields.{Field, fields, field_of, list_field}
use Rattle.hid_report_descriptor.specs.Faults.{first_met, element_count, report_ids, value_tests, limit_tests, report_limit, are_too_many, field_fault, other_fault, fault_of, AreAccepted, Accepts}

-- each of these tests is met only where the other test at its place is
abbrev IsMetLess : List (Bool × Cause) → List (Bool × Cause) → Type 0
IsMetLess [] [] = Unit {0}
IsMetLess [] (u ∷ us) = ⊥
IsMetLess (t ∷ ts) [] = ⊥
IsMetLess (t ∷ ts) (u ∷ us) = (t.0 ≡ true → u.0 ≡ true) × IsMetLess ts us

head_met : (a b : Bool) (j k : Cause) (o p : Option Cause) → (a ≡ true → b ≡ true) → (p ≡ None → o ≡ None) → cond b (Some k) p ≡ None → cond a (Some j) o ≡ None
head_met false true j k o p met more n = absurd (cc)
head_met false false j k o p met more n = more n
head_met true true j k o p met more n = absurd (cc)
head_met true false j k o p met more n = let clash : false ≡ true = met refl in absurd (cc)

none_met : (ts us : List (Bool × Cause)) → IsMetLess ts us → first_met us ≡ None → first_met ts ≡ None
none_met [] [] less none = refl
none_met [] (u ∷ us) less none = absurd less
none_met (t ∷ ts) [] less none = absurd less
none_met (t ∷ ts) (u ∷ us) less none = head_met t.0 u.0 t.1 u.1 (first_met ts) (first_met us) less.0 (none_met ts us less.1) none

-- a test that is met less, among others that stay
less_met : (used zero wide wider : Bool) → (wide ≡ true → wider ≡ true) → (used && (zero || wide)) ≡ true → (used && (zero || wider)) ≡ true
less_met false zero wide wider met h = h
less_met true true wide wider met h = h
less_met true false wide wider met h = met h

fewer_met : (items more most ids others : Bool) → (more ≡ true → most ≡ true) → ((items || (more || ids)) || others) ≡ true → ((items || (most || ids)) || others) ≡ true
fewer_met true more most ids others met h = h
fewer_met false false true ids others met h = refl
fewer_met false false false ids others met h = h
fewer_met false true true ids others met h = refl
fewer_met false true false ids others met h = let clash : false ≡ true = met refl in absurd (cc)

longer_met : (id bits : ℕ) → nat_lt (report_limit Real id) bits ≡ true → nat_lt (report_limit Bus id) bits ≡ true
longer_met id bits h = by_case (nat_eq id 0) h
  where
    by_case : (b : Bool) → nat_lt (cond b 131072 131064) bits ≡ true → nat_lt (cond b 2048 2040) bits ≡ true
    by_case true h = grind (arith, nat_tests)
    by_case false h = grind (arith, nat_tests)

wider_met : (n : ℕ) → nat_lt 131072 n ≡ true → nat_lt 32 n ≡ true
wider_met n h = grind (arith, nat_tests)

more_met : (n : ℕ) → nat_lt 65536 n ≡ true → nat_lt 4096 n ≡ true
more_met n h = grind (arith, nat_tests)

many_met : (fs : List Field) (others : Bool) → (are_too_many Real fs || others) ≡ true → (are_too_many Bus fs || others) ≡ true
unfolding are_too_many
many_met fs others h =
    fewer_met (nat_lt 512 (length fs)) (nat_lt 65536 (element_count fs)) (nat_lt 4096 (element_count fs)) (nat_lt 64 (length (report_ids fs))) others (more_met (element_count fs)) h

tests_met : (b : Bool) (fs : List Field) (field : Field) (paired : Bool) (es : List Entry)
    → IsMetLess (cond b [] (value_tests Real field paired es) ++ limit_tests Real fs field)
    (cond b [] (value_tests Bus field paired es) ++ limit_tests Bus fs field)
tests_met true fs field paired es = (longer_met field.id _, (many_met fs _, tt))
tests_met false fs field paired es = (
  λ h. h,
  (
    λ h. h,
    (
      less_met (not (nat_eq (length es) 0)) (nat_eq field.size 0) (nat_lt 131072 field.size) (nat_lt 32 field.size) (wider_met field.size),
      (
        λ h. h,
        (
          longer_met field.id _,
          (
            many_met fs _,
            tt,
          ),
        ),
      ),
    ),
  ),
)

field_allowed : (before : List EncodedItem) (item : EncodedItem) → field_fault Bus before item ≡ None → field_fault Real before item ≡ None
unfolding field_fault
field_allowed before item none =
    let field : Field = field_of (fields before) before item in
    let fs : List Field = list_field (fields before) field in
    let unchecked : Bool = has_flag CONSTANT field.flags || nat_eq field.count 0 in
    none_met (cond unchecked [] (value_tests Real field (are_paired before) (entries before)) ++ limit_tests Real fs field)
    (cond unchecked [] (value_tests Bus field (are_paired before) (entries before)) ++ limit_tests Bus fs field)
    (tests_met unchecked fs field (are_paired before) (entries before)) none

allowed : (before : List EncodedItem) (item : EncodedItem) → fault_of Bus before item ≡ None → fault_of Real before item ≡ None
allowed before item none = by_case (is_field item) none
  where
    by_case : (b : Bool) → cond b (field_fault Bus before item) (other_fault before item) ≡ None → cond b (field_fault Real before item) (other_fault before item) ≡ None
    by_case true none = field_allowed before item none
    by_case false none = none

all_allowed : (before : List EncodedItem) → AreAccepted Bus before → AreAccepted Real before
all_allowed [] accepted = tt
all_allowed (item ∷ before) accepted = (all_allowed before accepted.0, allowed before item accepted.1)

pub accepted_too : (bytes : List ℕ) (before : List EncodedItem) → Accepts Bus bytes before → Accepts Real bytes before
accepted_too bytes before a = record {
  reaches = record {
    short = a.reaches.short;
    within = a.reaches.within;
    items = a.reaches.items;
    accepted = all_allowed before a.reaches.accepted;
  };
  closed = a.closed;
  unmixed = a.unmixed;
}
