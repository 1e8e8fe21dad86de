-- Opening and closing items that match, by counting.
use Rattle.std.proofs.Common.{◌≡◌, ◌≢◌, ℕ, zero, suc, ◌+◌, ◌-◌, Bool, true, false, cond, ◌&&◌, List, [], ◌∷◌, ◌++◌, refl, sym, ◌∙◌, ap, arith, nat_eq}
use Rattle.std.proofs.lemmas.Grind.{common_steps}
use Rattle.std.proofs.lemmas.Bool.Decides.{nat_tests}
use Rattle.hid_items.specs.ItemEncoding.{data_of}
use Rattle.hid_report_descriptor.specs.Items.{EncodedItem, is, PUSH, POP}
use Rattle.hid_report_descriptor.specs.Matching.{Placed, open_items}
use Rattle.hid_report_descriptor.specs.Globals.{look_back}

-- one step back, by what the item is
step : (closes opens : Bool) (k : ℕ) (sets : Bool) (own : List ℕ) (here : Placed) (front : List Placed) (p : Placed)
    (look : ℕ → List ℕ) (open_at : ℕ → List Placed) (at : Placed → List ℕ)
    → (closes ≡ true → opens ≡ false)
    → at here ≡ look 0
    → ((j : ℕ) → (fr : List Placed) → (q : Placed) → open_at j ≡ fr ++ q ∷ [] → look (suc j) ≡ at q)
    → open_at (cond closes (k + 1) (cond opens (k - 1) k)) ++ cond (opens && nat_eq k 0) (here ∷ []) [] ≡ front ++ p ∷ []
    → cond (nat_eq (suc k) 0 && sets) own (look (cond closes (suc k + 1) (cond opens (suc k - 1) (suc k)))) ≡ at p
step true true k sets own here front p look open_at at not_both h ih e = absurd (let q : true ≡ false = not_both refl in cc)
step true false k sets own here front p look open_at at not_both h ih e =
    let q : look (suc (k + 1)) ≡ at p = ih (k + 1) front p (grind (arith, common_steps)) in
    let b : suc k + 1 ≡ suc (k + 1) = omega arith in
    grind (arith, common_steps, nat_tests, ap look b)
step false false k sets own here front p look open_at at not_both h ih e =
    let q : look (suc k) ≡ at p = ih k front p (grind (arith, common_steps)) in
    grind (arith, common_steps, nat_tests)
step false true zero sets own here front p look open_at at not_both h ih e = grind (arith, common_steps, nat_tests)
step false true (suc k) sets own here front p look open_at at not_both h ih e =
    let a : suc k - 1 ≡ k = omega arith in
    let b : suc (suc k) - 1 ≡ suc k = omega arith in
    let e' : open_at (suc k - 1) ≡ front ++ p ∷ [] = grind (arith, common_steps, nat_tests) in
    let q : look (suc k) ≡ at p = ih k front p (ap open_at (sym a) ∙ e') in
    grind (arith, common_steps, nat_tests, ap look b)

-- the Push that a Pop waits for is the last one that is open
pub look_back_matched : (prefix k : ℕ) (before : List EncodedItem) (front : List Placed) (p : Placed) → open_items PUSH POP k before ≡ front ++ p ∷ [] → look_back prefix (suc k) before ≡ look_back prefix 0 (p.0)
look_back_matched prefix k [] front p e = grind (arith, common_steps)
look_back_matched prefix k (item ∷ before) front p e =
    step (is POP item) (is PUSH item) k (is prefix item) (data_of item) (before, item) front p (λ j. look_back prefix j before) (λ j. open_items PUSH POP j before) (λ q. look_back prefix 0 (q.0))
    (λ h. grind (arith, common_steps, nat_tests)) refl (λ j fr q. look_back_matched prefix j before fr q) e

-- a step back over one item, of the items that stay open
cut_step : (closes opens : Bool) (k : ℕ) (here : Placed) (front : List Placed) (p : Placed) (open_at : ℕ → List Placed)
    → (closes ≡ true → opens ≡ false)
    → ((j : ℕ) → (fr : List Placed) → (q : Placed) → open_at j ≡ fr ++ q ∷ [] → open_at (suc j) ≡ fr)
    → open_at (cond closes (k + 1) (cond opens (k - 1) k)) ++ cond (opens && nat_eq k 0) (here ∷ []) [] ≡ front ++ p ∷ []
    → open_at (cond closes (suc k + 1) (cond opens (suc k - 1) (suc k))) ++ cond (opens && nat_eq (suc k) 0) (here ∷ []) [] ≡ front
cut_step true true k here front p open_at not_both ih e = absurd (let q : true ≡ false = not_both refl in cc)
cut_step true false k here front p open_at not_both ih e =
    let q : open_at (suc (k + 1)) ≡ front = ih (k + 1) front p (grind (arith, common_steps)) in
    let b : suc k + 1 ≡ suc (k + 1) = omega arith in
    grind (arith, common_steps, nat_tests, ap open_at b)
cut_step false false k here front p open_at not_both ih e =
    let q : open_at (suc k) ≡ front = ih k front p (grind (arith, common_steps)) in
    grind (arith, common_steps, nat_tests)
cut_step false true zero here front p open_at not_both ih e = grind (arith, common_steps, nat_tests)
cut_step false true (suc k) here front p open_at not_both ih e =
    let a : suc k - 1 ≡ k = omega arith in
    let b : suc (suc k) - 1 ≡ suc k = omega arith in
    let e' : open_at (suc k - 1) ≡ front ++ p ∷ [] = grind (arith, common_steps, nat_tests) in
    let q : open_at (suc k) ≡ front = ih k front p (ap open_at (sym a) ∙ e') in
    grind (arith, common_steps, nat_tests, ap open_at b)

-- a closing item closes the last one that is open
pub open_items_cut : (opening closing : ℕ) → opening ≢ closing → (k : ℕ) (before : List EncodedItem) (front : List Placed) (p : Placed) → open_items opening closing k before ≡ front ++ p ∷ [] → open_items opening closing (suc k) before ≡ front
open_items_cut opening closing d k [] front p e = grind (arith, common_steps)
open_items_cut opening closing d k (item ∷ before) front p e =
    cut_step (is closing item) (is opening item) k (before, item) front p (λ j. open_items opening closing j before)
    (λ h. grind (arith, common_steps, nat_tests)) (λ j fr q. open_items_cut opening closing d j before fr q) e
