-- Tests in their order, and the limits of the fields.
use Rattle.std.proofs.Common.{◌≡◌, ◌≢◌, ◌+◌, Bool, true, false, cond, ◌||◌, List, [], ◌∷◌, ◌++◌, length, refl, sym, ap, subst, ◌∙◌, arith, nat_eq, nat_lt, Option, Some, None, Result, Ok, Err}
use Rattle.std.proofs.lemmas.Grind.{common_steps}
use Rattle.std.proofs.lemmas.Bool.Decides.{nat_tests}
use Rattle.hid_report_descriptor.specs.declared.limits.Limits.{Limits}
use Rattle.hid_report_descriptor.specs.declared.fault.Cause.{Cause}
use Rattle.hid_report_descriptor.specs.declared.fault.Cause.TheVariants.{Memory, ReportTooLong, TooMany}
use Rattle.hid_report_descriptor.specs.declared.field_list.KeptFields.{KeptFields}
use Rattle.hid_report_descriptor.specs.Fields.{Field, bits_of, report_bits, list_field}
use Rattle.hid_report_descriptor.specs.Faults.{first_met, limit_tests, are_too_many, report_limit}
use Rattle.hid_report_descriptor.specs.FieldList.{AreKept, Keeps}
use Rattle.hid_report_descriptor.specs.Parser.{AddsField}
use Rattle.hid_report_descriptor.proofs.ReportsLemmas.{bits_added, same_itself}

-- the tests that stand after others count where none of those is met
pub met_behind : (ts us : List (Bool × Cause)) → first_met ts ≡ None → first_met (ts ++ us) ≡ first_met us
met_behind [] us h = refl
met_behind (t ∷ ts) us h = met_head (t.0) (t.1) (first_met ts) (first_met (ts ++ us)) (first_met us) (met_behind ts us) h
  where
    met_head : (b : Bool) (k : Cause) (o p q : Option Cause) → (o ≡ None → p ≡ q) → cond b (Some k) o ≡ None → cond b (Some k) p ≡ q
    met_head true k o p q f h = absurd (cc)
    met_head false k o p q f h = f h

pub met_before : (ts us : List (Bool × Cause)) (k : Cause) → first_met ts ≡ Some k → first_met (ts ++ us) ≡ Some k
met_before [] us k h = absurd (cc)
met_before (t ∷ ts) us k h = met_head (t.0) (t.1) (first_met ts) (first_met (ts ++ us)) (met_before ts us k) h
  where
    met_head : (b : Bool) (j : Cause) (o p : Option Cause) → (o ≡ Some k → p ≡ Some k) → cond b (Some j) o ≡ Some k → cond b (Some j) p ≡ Some k
    met_head true j o p f h = h
    met_head false j o p f h = f h

bits_more : (fs : List Field) (field : Field) → report_bits field.kind field.id (fs ++ field ∷ []) ≡ report_bits field.kind field.id fs + bits_of field
bits_more fs field = bits_added field.kind field.id fs field ∙ rw (same_itself field.kind) (grind (arith, nat_tests, common_steps))

-- a report's bits, once a field of it is listed
pub bits_listed : (fs : List Field) (field : Field) → report_bits field.kind field.id (list_field fs field) ≡ report_bits field.kind field.id fs + bits_of field
bits_listed fs field = by_case (nat_eq (bits_of field) 0) refl
  where
    by_case : (b : Bool) → nat_eq (bits_of field) 0 ≡ b → report_bits field.kind field.id (cond b fs (fs ++ field ∷ [])) ≡ report_bits field.kind field.id fs + bits_of field
    by_case true e = let z : bits_of field ≡ 0 = grind (arith, nat_tests) in omega (arith, z)
    by_case false e = bits_more fs field

-- the limit of the report, and the others
limited : (limits : Limits) (fs : List Field) (field : Field) (long many : Bool) → field.offset ≡ report_bits field.kind field.id fs → nat_lt (report_limit limits field.id) (field.offset + bits_of field) ≡ long → (are_too_many limits (list_field fs field) || nat_lt 64 (length field.entries)) ≡ many
    → first_met (limit_tests limits (list_field fs field) field) ≡ cond long (Some ReportTooLong) (cond many (Some TooMany) None)
limited limits fs field long many at l m =
    let t : nat_lt (report_limit limits field.id) (report_bits field.kind field.id (list_field fs field)) ≡ long = ap (nat_lt (report_limit limits field.id)) (bits_listed fs field ∙ ap (λ n. n + bits_of field) (sym at)) ∙ l in
    ap (λ b. cond b (Some ReportTooLong) (cond (are_too_many limits (list_field fs field) || nat_lt 64 (length field.entries)) (Some TooMany) None)) t ∙ ap (λ b. cond long (Some ReportTooLong) (cond b (Some TooMany) None)) m

pub told_too_long : (limits : Limits) (fs : List Field) (field : Field) (new : KeptFields) → field.offset ≡ report_bits field.kind field.id fs → nat_lt (report_limit limits field.id) (field.offset + bits_of field) ≡ true → AddsField limits fs field (Err ReportTooLong) new
told_too_long limits fs field new at l = limited limits fs field true _ at l refl

pub told_entries : (limits : Limits) (fs : List Field) (field : Field) (new : KeptFields) → field.offset ≡ report_bits field.kind field.id fs → nat_lt (report_limit limits field.id) (field.offset + bits_of field) ≡ false → nat_lt 64 (length field.entries) ≡ true → AddsField limits fs field (Err TooMany) new
told_entries limits fs field new at l e = limited limits fs field false true at l (ap (λ b. are_too_many limits (list_field fs field) || b) e ∙ or_true (are_too_many limits (list_field fs field)))
  where
    or_true : (b : Bool) → (b || true) ≡ true
    or_true true = refl
    or_true false = refl

or_false : (b : Bool) → (b || false) ≡ b
or_false true = refl
or_false false = refl

-- a field without bits isn't listed
pub told_unlisted : (limits : Limits) (fs : List Field) (field : Field) (many : Bool) → field.offset ≡ report_bits field.kind field.id fs → nat_lt (report_limit limits field.id) (field.offset + bits_of field) ≡ false → nat_lt 64 (length field.entries) ≡ false → bits_of field ≡ 0 → many ≡ are_too_many limits fs
    → first_met (limit_tests limits (list_field fs field) field) ≡ cond many (Some TooMany) None
told_unlisted limits fs field many at l e z m =
    let n : nat_eq (bits_of field) 0 ≡ true = grind (arith, nat_tests) in
    limited limits fs field false many at l (ap (λ b. are_too_many limits (list_field fs field) || b) e ∙ or_false _ ∙ rw n (sym m))

pub unlisted : (fs : List Field) (field : Field) → bits_of field ≡ 0 → list_field fs field ≡ fs
unlisted fs field z = let n : nat_eq (bits_of field) 0 ≡ true = grind (arith, nat_tests) in rw n refl

-- a field with bits is listed, as keeping it tells
pub told_kept : (limits : Limits) (fs : List Field) (field : Field) (r : Result Unit Cause) (new : KeptFields) → field.offset ≡ report_bits field.kind field.id fs → nat_lt (report_limit limits field.id) (field.offset + bits_of field) ≡ false → nat_lt 64 (length field.entries) ≡ false → bits_of field ≢ 0
    → Keeps limits fs field r new → AddsField limits fs field r new
told_kept limits fs field (Ok done) new at l e some k =
    let n : nat_eq (bits_of field) 0 ≡ false = grind (arith, nat_tests) in
    let listed : list_field fs field ≡ fs ++ field ∷ [] = rw n refl in
    (subst (λ xs. AreKept xs new) (sym listed) k.0, limited limits fs field false false at l (ap (λ b. are_too_many limits (list_field fs field) || b) e ∙ or_false _ ∙ ap (are_too_many limits) listed ∙ k.1))
told_kept limits fs field (Err Memory) new at l e some k = tt
told_kept limits fs field (Err cause) new at l e some k =
    let n : nat_eq (bits_of field) 0 ≡ false = grind (arith, nat_tests) in
    let listed : list_field fs field ≡ fs ++ field ∷ [] = rw n refl in
    limited limits fs field false true at l (ap (λ b. are_too_many limits (list_field fs field) || b) e ∙ or_false _ ∙ ap (are_too_many limits) listed ∙ k.1) ∙ ap Some (sym k.0)
