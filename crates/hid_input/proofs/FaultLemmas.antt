-- Bytes with a fault are no descriptor.
use Rattle.std.proofs.Common.{◌≡◌, ℕ, ◌<◌, Bool, true, false, List, [], ◌∷◌, ◌++◌, length, All, Option, None, Some, inl, inr, refl, sym, ap, subst, ◌∙◌, arith, length-append}
use Rattle.std.specs.Prelude.{◌==◌, ◌&&◌, not, cond, nat_lt}
use Rattle.std.specs.List.{flat_map, list_all}
use Rattle.std.specs.Option.{option_and_then}
use Rattle.std.proofs.lemmas.Bool.{and_parts, eqb-true}
use Rattle.std.proofs.lemmas.Option.{option_and_then_some}
use Rattle.std.proofs.lemmas.List.{append_assoc, append_cancel_left}
use Rattle.std.proofs.lemmas.List.Elements.{All-head, All-tail}
use Rattle.hid_items.specs.ItemEncoding.{IsItemEncoding}
use Rattle.hid_input.specs.declared.whole.DescriptorCause.{DescriptorCause}
use Rattle.hid_input.specs.declared.whole.Progress.{Progress}
use Rattle.hid_input.specs.Descriptor.{after_prefix, after_item, after_items, IsWrong}

-- no item is the beginning of another
abbrev pub PrefixFree : Type 0
PrefixFree = (item other more rest : List ℕ) → IsItemEncoding item → IsItemEncoding other → item ++ more ≡ other ++ rest → item ≡ other

some_byte : (item : List ℕ) → IsItemEncoding item → 0 < length item
some_byte [] encoded = absurd encoded
some_byte (first ∷ rest) encoded = omega arith

abbrev nothing : Option Progress
nothing = None

never : (is_begun has_data : Bool) (next : Progress) → cond (cond is_begun (has_data && false) false) (Some next) None ≡ nothing
never false has_data next = refl
never true false next = refl
never true true next = refl

-- an item of zeros comes nowhere
no_zero_item : (p : Progress) (item more : List ℕ) → IsItemEncoding item → list_all (λ byte. byte == 0) (item ++ more) ≡ true → after_item p item ≡ None
no_zero_item p [] more encoded zeros = absurd encoded
no_zero_item p (first ∷ rest) more encoded zeros =
    let zero : first ≡ 0 = eqb-true first 0 (and_parts (first == 0) _ zeros).0 in
    ap (λ (byte : ℕ). after_item p (byte ∷ rest)) zero ∙ never p.is_begun (not (not (nat_lt 0 p.depth) && (length (0 ∷ rest) == 1))) (after_prefix p 0)

none_after : (p q : Progress) (item : List ℕ) (items : List (List ℕ)) → after_item p item ≡ None → after_items p (item ∷ items) ≡ Some q → ⊥
none_after p q item items none some =
    let gone : after_items p (item ∷ items) ≡ None = ap (option_and_then (λ (r : Progress). after_items r items)) none in
    cc

-- what is wrong after some items isn't a further item
not_wrong : PrefixFree → (q last : Progress) (cause : DescriptorCause) (rest item more : List ℕ) (items : List (List ℕ)) → IsItemEncoding item → rest ≡ item ++ more
    → after_items q (item ∷ items) ≡ Some last → IsWrong q rest cause → ⊥
not_wrong free q last cause rest item more items encoded is nested (inl cut) = cut.0.none item more encoded is
not_wrong free q last cause rest item more items encoded is nested (inr (inl refused)) =
    let same : refused.item ≡ item = free refused.item item refused.more more refused.encoded encoded (sym refused.first ∙ is) in
    none_after q last item items (ap (after_item q) (sym same) ∙ refused.refused) nested
not_wrong free q last cause rest item more items encoded is nested (inr (inr end)) =
    let some = some_byte item encoded in
    omega (arith, some, ap length (sym is ∙ end.0), length-append item more)

pub refuted : PrefixFree → (p q last : Progress) (ours theirs : List (List ℕ)) (rest zeros : List ℕ) (cause : DescriptorCause) → All IsItemEncoding ours
    → All IsItemEncoding theirs → flat_map (λ item. item) ours ++ rest ≡ flat_map (λ item. item) theirs ++ zeros → after_items p ours ≡ Some q
    → after_items p theirs ≡ Some last → last.is_closed ≡ true → list_all (λ byte. byte == 0) zeros ≡ true
    → (q.is_closed && list_all (λ byte. byte == 0) rest) ≡ false → IsWrong q rest cause → ⊥
refuted free p q last [] [] rest zeros cause our their joined reached nested closed padded unended wrong =
    let same : q ≡ last = cc in
    let both : (q.is_closed && list_all (λ byte. byte == 0) rest) ≡ true =
    ap (λ (b : Bool). b && list_all (λ byte. byte == 0) rest) (ap (λ (r : Progress). r.is_closed) same ∙ closed) ∙ (ap (list_all (λ (byte : ℕ). byte == 0)) joined ∙ padded) in
    cc
refuted free p q last [] (item ∷ theirs) rest zeros cause our their joined reached nested closed padded unended wrong =
    let same : p ≡ q = cc in
    not_wrong free q last cause rest item (flat_map (λ i. i) theirs ++ zeros) theirs (All-head IsItemEncoding item theirs their)
    (joined ∙ append_assoc item (flat_map (λ i. i) theirs) zeros) (subst (λ (r : Progress). after_items r (item ∷ theirs) ≡ Some last) same nested) wrong
refuted free p q last (item ∷ ours) [] rest zeros cause our their joined reached nested closed padded unended wrong =
    let first : item ++ (flat_map (λ i. i) ours ++ rest) ≡ zeros = sym (append_assoc item (flat_map (λ i. i) ours) rest) ∙ joined in
    none_after p q item ours (no_zero_item p item (flat_map (λ i. i) ours ++ rest) (All-head IsItemEncoding item ours our) (ap (list_all (λ (byte : ℕ). byte == 0)) first ∙ padded)) reached
refuted free p q last (item ∷ ours) (other ∷ theirs) rest zeros cause our their joined reached nested closed padded unended wrong =
    let all : item ++ (flat_map (λ i. i) ours ++ rest) ≡ other ++ (flat_map (λ i. i) theirs ++ zeros) =
    sym (append_assoc item (flat_map (λ i. i) ours) rest) ∙ (joined ∙ append_assoc other (flat_map (λ i. i) theirs) zeros) in
    let same : item ≡ other = free item other _ _ (All-head IsItemEncoding item ours our) (All-head IsItemEncoding other theirs their) all in
    let behind : flat_map (λ i. i) ours ++ rest ≡ flat_map (λ i. i) theirs ++ zeros =
    append_cancel_left other _ _ (subst (λ (l : List ℕ). l ++ (flat_map (λ i. i) ours ++ rest) ≡ other ++ (flat_map (λ i. i) theirs ++ zeros)) same all) in
    option_and_then_some (λ (r : Progress). after_items r ours) (after_item p item) q reached (λ next took ours_reached.
    refuted free next q last ours theirs rest zeros cause (All-tail IsItemEncoding item ours our) (All-tail IsItemEncoding other theirs their) behind ours_reached
    (sym (ap (option_and_then (λ (r : Progress). after_items r theirs)) (sym (ap (after_item p) same) ∙ took)) ∙ nested) closed padded unended wrong)
