-- What stands after the last item: whether IDs are mixed, and whether the descriptor is accepted.
use Rattle.std.proofs.Common.{◌≡◌, ℕ, Bool, true, false, ◌&&◌, List, [], ◌∷◌, length, map, refl, sym, ◌∙◌, ap, arith, nat_eq, inr}
use Rattle.std.specs.List.{list_any}
use Rattle.std.proofs.lemmas.Grind.{common_steps}
use Rattle.hid_report_descriptor.specs.declared.limits.Limits.{Limits}
use Rattle.hid_report_descriptor.specs.declared.fault.Cause.TheVariants.{MixedReportId}
use Rattle.hid_report_descriptor.specs.declared.field.KeptField.{KeptField}
use Rattle.hid_report_descriptor.specs.declared.parser.Parser.{Parser}
use Rattle.hid_report_descriptor.specs.Items.{EncodedItem, is, REPORT_ID}
use Rattle.hid_report_descriptor.specs.Fields.{fields}
use Rattle.hid_report_descriptor.specs.KeptFields.{kept_field_of}
use Rattle.hid_report_descriptor.specs.Faults.{Reaches, Accepts, Refuses, is_mixed}
use Rattle.hid_report_descriptor.specs.Parser.{HasStateAfter}

pub any_map : {A B : Type 0} (p : B → Bool) (f : A → B) (xs : List A) → list_any p (map f xs) ≡ list_any (λ x. p (f x)) xs
any_map p f [] = refl
any_map p f (x ∷ xs) = grind (arith, common_steps, any_map p f xs)

pub mixed_there : (before : List EncodedItem) (parser : Parser) → HasStateAfter before parser
    → (parser.numbered && list_any (λ f. nat_eq f.id 0) parser.fields.list.items) ≡ is_mixed before
mixed_there before parser s =
    ap (λ b. b && list_any (λ (f : KeptField). nat_eq f.id 0) parser.fields.list.items) s.numbered_there
    ∙ ap (λ b. list_any (is REPORT_ID) before && b)
    (ap (list_any (λ (f : KeptField). nat_eq f.id 0)) s.fields_there.heads
    ∙ any_map (λ (f : KeptField). nat_eq f.id 0) kept_field_of (fields before))

pub mixed_refused : (limits : Limits) (bytes : List ℕ) (before : List EncodedItem) (parser : Parser) → Reaches limits bytes (length bytes) before → HasStateAfter before parser → length parser.collections.open.items ≡ 0 → is_mixed before ≡ true → Refuses limits bytes MixedReportId (length bytes)
mixed_refused limits bytes before parser r s c m = inr (before, r, refl, sym (ap length s.path_there) ∙ c, m)

pub all_accepted : (limits : Limits) (bytes : List ℕ) (before : List EncodedItem) (parser : Parser) → Reaches limits bytes (length bytes) before → HasStateAfter before parser → length parser.collections.open.items ≡ 0 → is_mixed before ≡ false → Accepts limits bytes before
all_accepted limits bytes before parser r s c m = record { reaches = r; closed = sym (ap length s.path_there) ∙ c; unmixed = m }
