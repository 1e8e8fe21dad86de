-- The bits of a report, field by field.
use Rattle.std.proofs.Common.{◌≡◌, ℕ, zero, suc, ◌+◌, ◌<◌, ◌≤◌, Bool, true, false, cond, ◌&&◌, List, [], ◌∷◌, ◌++◌, take, refl, sym, ap, subst, arith, nat_eq, Some}
use Rattle.std.specs.List.{slice_get}
use Rattle.std.proofs.lemmas.Grind.{common_steps}
use Rattle.std.proofs.lemmas.Bool.Decides.{nat_tests}
use Rattle.hid_report_descriptor.specs.declared.report.ReportKind.{ReportKind}
use Rattle.hid_report_descriptor.specs.declared.report.ReportKind.TheVariants.{Input, Output, Feature}
use Rattle.hid_report_descriptor.specs.Kinds.{same_kind}
use Rattle.hid_report_descriptor.specs.Fields.{Field, bits_of, report_bits}

-- whether a field is in the report of a kind with an ID
abbrev pub is_of : ReportKind → ℕ → Field → Bool
is_of kind id field = same_kind field.kind kind && nat_eq field.id id

-- what a field adds to a report
abbrev pub share : ReportKind → ℕ → Field → ℕ
share kind id field = cond (is_of kind id field) (bits_of field) 0

pub bits-cons : (kind : ReportKind) (id : ℕ) (f : Field) (fs : List Field) → report_bits kind id (f ∷ fs) ≡ share kind id f + report_bits kind id fs
bits-cons kind id f fs = grind (arith, common_steps)

pub bits-append : (kind : ReportKind) (id : ℕ) (fs gs : List Field) → report_bits kind id (fs ++ gs) ≡ report_bits kind id fs + report_bits kind id gs
bits-append kind id [] gs = omega arith
bits-append kind id (f ∷ fs) gs = omega (arith, bits-cons kind id f (fs ++ gs), bits-cons kind id f fs, bits-append kind id fs gs)

pub same_kind_itself : (kind : ReportKind) → same_kind kind kind ≡ true
same_kind_itself Input = refl
same_kind_itself Output = refl
same_kind_itself Feature = refl

pub kinds_equal : (a b : ReportKind) → same_kind a b ≡ true → a ≡ b
kinds_equal Input Input e = refl
kinds_equal Input Output e = absurd cc
kinds_equal Input Feature e = absurd cc
kinds_equal Output Input e = absurd cc
kinds_equal Output Output e = refl
kinds_equal Output Feature e = absurd cc
kinds_equal Feature Input e = absurd cc
kinds_equal Feature Output e = absurd cc
kinds_equal Feature Feature e = refl

-- a field counts in its own report
pub own_share : (f : Field) → share f.kind f.id f ≡ bits_of f
own_share f = let s : same_kind f.kind f.kind ≡ true = same_kind_itself f.kind in grind (arith, common_steps, nat_tests)

-- a report is as long as what stands before one of its fields, that field, and what stands after
pub up_to : (fs : List Field) (i : ℕ) (f : Field) → slice_get fs i ≡ Some f
    → report_bits f.kind f.id (take i fs) + bits_of f ≤ report_bits f.kind f.id fs
up_to [] i f e = absurd cc
up_to (g ∷ fs) zero f e =
    let same : g ≡ f = cc in
    let own : share f.kind f.id g ≡ bits_of f = subst (λ (h : Field). share f.kind f.id h ≡ bits_of f) (sym same) (own_share f) in
    omega (arith, bits-cons f.kind f.id g fs, own)
up_to (g ∷ fs) (suc i) f e =
    omega (arith, bits-cons f.kind f.id g fs, bits-cons f.kind f.id g (take i fs), up_to fs i f e)

-- what stands before a later field of the same report has the earlier field
pub before_later : (fs : List Field) (i k : ℕ) (f : Field) → i < k → slice_get fs i ≡ Some f
    → report_bits f.kind f.id (take i fs) + bits_of f ≤ report_bits f.kind f.id (take k fs)
before_later [] i k f h e = absurd cc
before_later (g ∷ fs) i zero f h e = absurd (omega (arith, h))
before_later (g ∷ fs) zero (suc k) f h e =
    let same : g ≡ f = cc in
    let own : share f.kind f.id g ≡ bits_of f = subst (λ (h : Field). share f.kind f.id h ≡ bits_of f) (sym same) (own_share f) in
    omega (arith, bits-cons f.kind f.id g (take k fs), own)
before_later (g ∷ fs) (suc i) (suc k) f h e =
    omega (arith, bits-cons f.kind f.id g (take i fs), bits-cons f.kind f.id g (take k fs), before_later fs i k f (omega (arith, h)) e)

-- a report with bits has a field
abbrev pub HasField : ReportKind → ℕ → List Field → Type 0
HasField kind id fs = (f : Field) × (i : ℕ) × (slice_get fs i ≡ Some f) × (is_of kind id f ≡ true)

one_of_both : (kind : ReportKind) (id : ℕ) (f : Field) (fs : List Field) (b : Bool) → is_of kind id f ≡ b → (b ≡ false → HasField kind id fs) → HasField kind id (f ∷ fs)
one_of_both kind id f fs true e rest = (f, 0, refl, e)
one_of_both kind id f fs false e rest = ((rest refl).0, suc (rest refl).1, (rest refl).2, (rest refl).3)

pub some_field : (kind : ReportKind) (id : ℕ) (fs : List Field) → 0 < report_bits kind id fs → HasField kind id fs
some_field kind id [] h = absurd (omega (arith, h))
some_field kind id (f ∷ fs) h =
    one_of_both kind id f fs (is_of kind id f) refl
    (λ e. let none : share kind id f ≡ 0 = ap (λ b. cond b (bits_of f) 0) e in some_field kind id fs (omega (arith, h, none, bits-cons kind id f fs)))
