-- The fields of accepted items are sound, and lie one after the other in their reports.
use Rattle.std.proofs.Common.{◌≡◌, ◌≢◌, ℕ, zero, suc, ◌^◌, ◌<◌, ◌≤◌, Bool, true, false, cond, ◌&&◌, ◌||◌, List, [], ◌∷◌, ◌++◌, length, take, refl, sym, ◌∙◌, ap, subst, arith, nat_eq, nat_lt, Some, None}
use Rattle.std.specs.Prelude.{pos, neg_ℤ, ◌≤ℤ◌, ◌⊎◌}
use mathlib.Core.Logic.{inl, inr}
use Rattle.hid_report_descriptor.specs.Limits.{most_elements}
use Rattle.hid_report_descriptor.specs.declared.limits.Limits.{Limits}
use Rattle.hid_report_descriptor.specs.Kinds.{same_kind}
use Rattle.std.specs.List.{slice_get}
use Rattle.std.proofs.lemmas.Grind.{common_steps}
use Rattle.std.proofs.lemmas.Bool.Decides.{nat_tests}
use Rattle.hid_report_descriptor.specs.declared.report.ReportKind.{ReportKind}
use Rattle.hid_report_descriptor.specs.declared.fault.Cause.TheVariants.{ReportTooLong, TooMany}
use Rattle.hid_report_descriptor.specs.Items.{EncodedItem, is_field}
use Rattle.hid_report_descriptor.specs.Usages.{Entry, entries, are_paired}
use Rattle.hid_report_descriptor.specs.Fields.{Field, bits_of, report_bits, shape_of, shown_entries, is_padding, field_of, list_field, add_field, fields, has_flag, CONSTANT}
use Rattle.hid_report_descriptor.specs.Faults.{first_met, checked_values, value_tests, limit_tests, field_fault, other_fault, fault_of, AreAccepted, are_too_many, report_limit, element_count, report_ids}
use Rattle.hid_report_descriptor.proofs.Places.{get_left}
use Rattle.hid_report_descriptor.proofs.Shares.{is_of, share, bits-cons, bits-append, kinds_equal}
use Rattle.hid_report_descriptor.proofs.FieldFacts.{none_met_in, not_met, IsSound, HasValues, values_of, data_item, data_entries, AreListed, none_listed, AreSpelled, small_ids, short_minimum, low_signed}

-- the values of a data item, where its tests aren't met
values_checked : (limits : Limits) (f : Field) (paired : Bool) (es : List Entry) → is_padding (shape_of f.flags f.size f.count es) ≡ false → first_met (checked_values limits f paired es) ≡ None → (HasValues es f.min f.max f.size) × (0 < length es)
values_checked limits f paired [] p h = absurd cc
values_checked limits f paired (e ∷ es) p h =
    let data_of = data_item f.flags f.size f.count (e ∷ es) p in
    let tests : checked_values limits f paired (e ∷ es) ≡ value_tests limits f paired (e ∷ es) = rw data_of.0 refl in
    (values_of limits f paired e es data_of.1 (subst (λ l. first_met l ≡ None) tests h), omega arith)

some_count : (flags size count : ℕ) (es : List Entry) → is_padding (shape_of flags size count es) ≡ false → 0 < count
some_count flags size count es p = by_test (has_flag CONSTANT flags) (data_item flags size count es p).0
  where
    by_test : (b : Bool) → (b || nat_eq count 0) ≡ false → 0 < count
    by_test true e = absurd cc
    by_test false e = grind (arith, common_steps, nat_tests)

-- a field by what its item says of it
sound_field : (limits : Limits) (f : Field) (paired : Bool) (es : List Entry) → f.shape ≡ shape_of f.flags f.size f.count es → f.entries ≡ shown_entries f.shape es → bits_of f ≢ 0 → f.id < 256 → neg_ℤ (pos (2 ^ 32)) ≤ℤ f.min
    → first_met (checked_values limits f paired es) ≡ None → length f.entries ≤ 64 → IsSound f
sound_field limits f paired es shape shown bits small low unmet few = record {
  some_bits = omega (arith, bits);
  few_entries = few;
  small_id = small;
  low = low;
  some_count = λ p. some_count f.flags f.size f.count es (plain p);
  some_entries = λ p. subst (λ (l : List Entry). 0 < length l) (sym (all p)) (values_checked limits f paired es (plain p) unmet).1;
  values = λ p. subst (λ (l : List Entry). HasValues l f.min f.max f.size) (sym (all p)) (values_checked limits f paired es (plain p) unmet).0;
}
  where
    plain : is_padding f.shape ≡ false → is_padding (shape_of f.flags f.size f.count es) ≡ false
    plain p = sym (ap is_padding shape) ∙ p

    all : is_padding f.shape ≡ false → f.entries ≡ es
    all p = shown ∙ ap (λ s. shown_entries s es) shape ∙ data_entries f.flags f.size f.count es (plain p)

-- what the limit tests leave
pub record IsWithin (limits : Limits) (fs : List Field) (field : Field) : Type 0 where
  pub short : report_bits field.kind field.id fs ≤ report_limit limits field.id
  pub few : length fs ≤ 512
  pub few_entries : length field.entries ≤ 64

few_of : (limits : Limits) (fs : List Field) (b : Bool) → (are_too_many limits fs || b) ≡ false → (length fs ≤ 512) × (b ≡ false)
unfolding are_too_many
few_of limits fs b e = by_tests (nat_lt 512 (length fs)) (nat_lt (most_elements limits) (element_count fs)) (nat_lt 64 (length (report_ids fs))) b refl e
  where
    by_tests : (l m n b : Bool) → nat_lt 512 (length fs) ≡ l → ((l || (m || n)) || b) ≡ false → (length fs ≤ 512) × (b ≡ false)
    by_tests true m n b h e = absurd cc
    by_tests false true n b h e = absurd cc
    by_tests false false true b h e = absurd cc
    by_tests false false false b h e = (grind (arith, common_steps, nat_tests), e)

not_over : (limit bits : ℕ) → nat_lt limit bits ≡ false → bits ≤ limit
not_over limit bits e = grind (arith, common_steps, nat_tests)

within_limits : (limits : Limits) (fs : List Field) (field : Field) → first_met (limit_tests limits fs field) ≡ None → IsWithin limits fs field
within_limits limits fs field e =
    let a = not_met (nat_lt (report_limit limits field.id) (report_bits field.kind field.id fs)) ReportTooLong (cond (are_too_many limits fs || nat_lt 64 (length field.entries)) (Some TooMany) None) e in
    let b = not_met (are_too_many limits fs || nat_lt 64 (length field.entries)) TooMany None a.1 in
    let c = few_of limits fs (nat_lt 64 (length field.entries)) b.0 in
    record { short = not_over (report_limit limits field.id) (report_bits field.kind field.id fs) a.0; few = c.0; few_entries = not_over 64 (length field.entries) c.1 }

-- an accepted Input, Output or Feature item describes a sound field, within the limits
pub accepted_field : (limits : Limits) (before : List EncodedItem) (item : EncodedItem) → AreAccepted limits before → AreSpelled before → field_fault limits before item ≡ None → bits_of (field_of (fields before) before item) ≢ 0
    → IsSound (field_of (fields before) before item) × IsWithin limits (list_field (fields before) (field_of (fields before) before item)) (field_of (fields before) before item)
unfolding field_fault
accepted_field limits before item a s e bits =
    let field : Field = field_of (fields before) before item in
    let split = none_met_in (checked_values limits field (are_paired before) (entries before)) (limit_tests limits (list_field (fields before) field) field) e in
    let within = within_limits limits (list_field (fields before) field) field split.1 in
    (sound_field limits field (are_paired before) (entries before) refl refl bits (small_ids limits 0 before a) (low_signed _ (short_minimum 0 before s)) split.0 within.few_entries, within)

-- the place of an element, at the end of a list or before it
pub get_end : {A : Type 0} (xs : List A) (x : A) (i : ℕ) (y : A) → slice_get (xs ++ x ∷ []) i ≡ Some y → (i < length xs) ⊎ ((i ≡ length xs) × (y ≡ x))
get_end [] x zero y e = inr (refl, cc)
get_end [] x (suc i) y e = absurd cc
get_end (z ∷ xs) x zero y e = inl (omega arith)
get_end (z ∷ xs) x (suc i) y e = by_rest (get_end xs x i y e)
  where
    by_rest : (i < length xs) ⊎ ((i ≡ length xs) × (y ≡ x)) → (suc i < suc (length xs)) ⊎ ((suc i ≡ suc (length xs)) × (y ≡ x))
    by_rest (inl h) = inl (omega (arith, h))
    by_rest (inr h) = inr (ap suc h.0, h.1)

take_left : {A : Type 0} (xs : List A) (x : A) (i : ℕ) → i ≤ length xs → take i (xs ++ x ∷ []) ≡ take i xs
take_left xs x zero h = refl
take_left [] x (suc i) h = absurd (omega (arith, h))
take_left (z ∷ xs) x (suc i) h = ap (λ l. z ∷ l) (take_left xs x i (omega (arith, h)))

take_whole : {A : Type 0} (xs : List A) → take (length xs) xs ≡ xs
take_whole [] = refl
take_whole (x ∷ xs) = ap (λ l. x ∷ l) (take_whole xs)

-- a report that a field isn't in stays as long as it was
other_report : (kind : ReportKind) (id : ℕ) (fs : List Field) (f : Field) → is_of kind id f ≡ false → report_bits kind id (fs ++ f ∷ []) ≡ report_bits kind id fs
other_report kind id fs f e =
    let none : share kind id f ≡ 0 = ap (λ b. cond b (bits_of f) 0) e in
    omega (arith, bits-append kind id fs (f ∷ []), bits-cons kind id f [], none)

pub id_of : (kind : ReportKind) (id : ℕ) (f : Field) → is_of kind id f ≡ true → (f.kind ≡ kind) × (f.id ≡ id)
id_of kind id f e = by_kind (same_kind f.kind kind) refl e
  where
    by_kind : (b : Bool) → same_kind f.kind kind ≡ b → (b && nat_eq f.id id) ≡ true → (f.kind ≡ kind) × (f.id ≡ id)
    by_kind true k e = (kinds_equal f.kind kind k, grind (arith, nat_tests))
    by_kind false k e = absurd cc

pub one_more : (limits : Limits) (fs : List Field) (f : Field) → AreListed limits fs → IsSound f → f.offset ≡ report_bits f.kind f.id fs → report_bits f.kind f.id (fs ++ f ∷ []) ≤ report_limit limits f.id → length (fs ++ f ∷ []) ≤ 512 → AreListed limits (fs ++ f ∷ [])
one_more limits fs f a s o short few = record { sound = sounds; offsets = offsets; short = shorts; few = few }
  where
    sounds : (i : ℕ) (g : Field) → slice_get (fs ++ f ∷ []) i ≡ Some g → IsSound g
    sounds i g e = by_place (get_end fs f i g e)
      where
        by_place : (i < length fs) ⊎ ((i ≡ length fs) × (g ≡ f)) → IsSound g
        by_place (inl h) = a.sound i g (sym (get_left fs (f ∷ []) i h) ∙ e)
        by_place (inr h) = subst IsSound (sym h.1) s

    offsets : (i : ℕ) (g : Field) → slice_get (fs ++ f ∷ []) i ≡ Some g → g.offset ≡ report_bits g.kind g.id (take i (fs ++ f ∷ []))
    offsets i g e = by_place (get_end fs f i g e)
      where
        by_place : (i < length fs) ⊎ ((i ≡ length fs) × (g ≡ f)) → g.offset ≡ report_bits g.kind g.id (take i (fs ++ f ∷ []))
        by_place (inl h) = rw (take_left fs f i (omega (arith, h))) (a.offsets i g (sym (get_left fs (f ∷ []) i h) ∙ e))
        by_place (inr h) =
            let whole : take i (fs ++ f ∷ []) ≡ fs = take_left fs f i (omega (arith, h.0)) ∙ ap (λ n. take n fs) h.0 ∙ take_whole fs in
            rw whole (subst (λ (k : Field). k.offset ≡ report_bits k.kind k.id fs) (sym h.1) o)

    shorts : (kind : ReportKind) (id : ℕ) → report_bits kind id (fs ++ f ∷ []) ≤ report_limit limits id
    shorts kind id = by_report (is_of kind id f) refl
      where
        by_report : (b : Bool) → is_of kind id f ≡ b → report_bits kind id (fs ++ f ∷ []) ≤ report_limit limits id
        by_report true e =
            let same = id_of kind id f e in
            subst (λ (n : ℕ). report_bits kind n (fs ++ f ∷ []) ≤ report_limit limits n) same.1 (subst (λ (k : ReportKind). report_bits k f.id (fs ++ f ∷ []) ≤ report_limit limits f.id) same.0 short)
        by_report false e = subst (λ (n : ℕ). n ≤ report_limit limits id) (sym (other_report kind id fs f e)) (a.short kind id)

-- a field is listed where it has bits
list_step : (limits : Limits) (fs : List Field) (f : Field) (b : Bool) → nat_eq (bits_of f) 0 ≡ b → AreListed limits fs → f.offset ≡ report_bits f.kind f.id fs → (bits_of f ≢ 0 → IsSound f × IsWithin limits (list_field fs f) f) → AreListed limits (cond b fs (fs ++ f ∷ []))
list_step limits fs f true z a o facts = a
list_step limits fs f false z a o facts =
    let some : bits_of f ≢ 0 = grind (arith, nat_tests) in
    let grown : list_field fs f ≡ fs ++ f ∷ [] = rw z refl in
    let within : IsWithin limits (fs ++ f ∷ []) f = subst (λ l. IsWithin limits l f) grown (facts some).1 in
    one_more limits fs f a (facts some).0 o within.short within.few

field_step : (limits : Limits) (before : List EncodedItem) (item : EncodedItem) (b : Bool) → is_field item ≡ b → AreAccepted limits before → AreSpelled before → fault_of limits before item ≡ None → AreListed limits (fields before)
    → AreListed limits (cond b (list_field (fields before) (field_of (fields before) before item)) (fields before))
field_step limits before item true e a s h so_far =
    let unmet : field_fault limits before item ≡ None = subst (λ b. cond b (field_fault limits before item) (other_fault before item) ≡ None) e h in
    list_step limits (fields before) (field_of (fields before) before item) (nat_eq (bits_of (field_of (fields before) before item)) 0) refl so_far refl (accepted_field limits before item a s unmet)
field_step limits before item false e a s h so_far = so_far

-- the fields that accepted items list
pub listed : (limits : Limits) (before : List EncodedItem) → AreAccepted limits before → AreSpelled before → AreListed limits (fields before)
unfolding add_field
listed limits [] a s = none_listed limits
listed limits (item ∷ before) a s = field_step limits before item (is_field item) refl a.0 s.1 a.1 (listed limits before a.0 s.1)
