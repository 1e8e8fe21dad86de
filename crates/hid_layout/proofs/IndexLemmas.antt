-- What a layout keeps beside its items, built item by item.
use Rattle.std.proofs.Common.{◌≡◌, ℕ, zero, suc, ◌+◌, ◌<◌, List, [], ◌∷◌, ◌++◌, length, map, take, refl, sym, subst, ap, ◌∙◌, arith, add-one, Some, unwrap_or}
use Rattle.std.specs.List.{slice_get}
use Rattle.std.proofs.lemmas.List.{length-map}
use Rattle.std.proofs.lemmas.Option.{slice_get-map}
use Rattle.std.specs.Option.{option_map}
use Rattle.hid_layout.specs.declared.main_item.MainItem.{MainItem}
use Rattle.hid_layout.specs.declared.codes.Codes.{Codes}
use Rattle.hid_report_descriptor.specs.Usages.{Entry, usage_list}
use Rattle.hid_report_descriptor.specs.declared.shape.Shape.TheVariants.{Array}
use Rattle.hid_report_descriptor.specs.Faults.{numbers_from}
use Rattle.hid_layout.specs.Codes.{AreCodes}
use Rattle.hid_report_descriptor.proofs.ListsLemmas.{Placed, earlier, last, placed}
use Rattle.hid_layout.specs.ArrayCodes.{FitArrays}

take_suc : {A : Type 0} (xs : List A) (i : ℕ) (x : A) → slice_get xs i ≡ Some x → take (suc i) xs ≡ take i xs ++ x ∷ []
take_suc [] i x e = absurd (cc)
take_suc (y ∷ xs) zero x e = ap (λ z. z ∷ []) (ap (λ o. unwrap_or o x) e)
take_suc (y ∷ xs) (suc i) x e = ap (λ l. y ∷ l) (take_suc xs i x e)

-- one more element of a list
pub take_next : {A : Type 0} (xs : List A) (i : ℕ) (x : A) → slice_get xs i ≡ Some x → take (i + 1) xs ≡ take i xs ++ x ∷ []
take_next xs i x e = rw add-one (take_suc xs i x e)

-- the codes of the item and the usages that stand at a place
pub only_item : (P : MainItem → Type 0) (main item : MainItem) (es us : List Entry) (c : Codes) → Some main ≡ Some item → Some es ≡ Some us → (P item → AreCodes item (usage_list us) c) → P main → AreCodes main (usage_list es) c
only_item P main item es us c same_item same_usages codes p =
    let item_is : item ≡ main = sym (ap (λ o. unwrap_or o main) same_item) in
    let usages_are : us ≡ es = sym (ap (λ o. unwrap_or o es) same_usages) in
    let there : AreCodes item (usage_list us) c = codes (subst P (sym item_is) p) in
    subst (λ x. AreCodes x (usage_list es) c) item_is (subst (λ x. AreCodes item (usage_list x) c) usages_are there)

-- one more item's codes
pub codes_more : (items : List MainItem) (item : MainItem) (entries : List (List Entry)) (es : List Entry) (codes : List Codes) (c : Codes) → FitArrays items entries codes → slice_get items (length codes) ≡ Some item
    → slice_get entries (length codes) ≡ Some es → (item.shape ≡ Array → AreCodes item (usage_list es) c) → FitArrays items entries (codes ++ c ∷ [])
codes_more items item entries es codes c old here at new j it us k a b d p = by_place j it us k a b (placed codes c j k d) p
  where
    by_place : (j : ℕ) (it : MainItem) (us : List Entry) (k : Codes) → slice_get items j ≡ Some it → slice_get entries j ≡ Some us → Placed codes c j k → it.shape ≡ Array → AreCodes it (usage_list us) k
    by_place j it us k a b (earlier d) p = old j it us k a b d p
    by_place j it us k a b (last m f) p =
        subst (λ x. AreCodes it (usage_list us) x) f
        (only_item (λ x. x.shape ≡ Array) it item us es c (sym a ∙ ap (slice_get items) m ∙ here) (sym b ∙ ap (slice_get entries) m ∙ at) new p)

pub numbers_from-length : (from n : ℕ) → length (numbers_from from n) ≡ n
unfolding numbers_from
numbers_from-length from zero = refl
numbers_from-length from (suc n) = ap suc (numbers_from-length (from + 1) n)

pub numbers_from-get : (from n i : ℕ) → i < n → slice_get (numbers_from from n) i ≡ Some (from + i)
unfolding numbers_from
numbers_from-get from zero i h = absurd (omega arith)
numbers_from-get from (suc n) zero h = ap Some (omega arith)
numbers_from-get from (suc n) (suc i) h = numbers_from-get (from + 1) n i (omega arith) ∙ ap Some (omega arith)

-- what stands at a place of a list made number by number
pub made_at : {A : Type 0} (f : ℕ → A) (n i : ℕ) (xs : List A) (x : A) → i < n → xs ≡ map f (numbers_from 0 n)
    → slice_get xs i ≡ Some x → x ≡ f i
made_at f n i xs x h e at =
    let there : slice_get (map f (numbers_from 0 n)) i ≡ Some (f i) =
    slice_get-map f (numbers_from 0 n) i ∙ ap (option_map f) (numbers_from-get 0 n i h)
    ∙ ap (λ k. Some (f k)) (omega arith) in
    ap (λ o. unwrap_or o x) (sym at ∙ ap (λ l. slice_get l i) e ∙ there)

pub made_length : {A : Type 0} (f : ℕ → A) (n : ℕ) (xs : List A) → xs ≡ map f (numbers_from 0 n) → length xs ≡ n
made_length f n xs e = ap length e ∙ length-map (numbers_from 0 n) f ∙ numbers_from-length 0 n
