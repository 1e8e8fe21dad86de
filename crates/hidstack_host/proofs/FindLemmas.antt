-- The elements of lists that pass a test are counted one list after the other.
use Rattle.std.proofs.Common.{◌≡◌, ℕ, zero, suc, ◌+◌, ◌≤◌, inl, inr, Bool, true, false, List, [], ◌∷◌, ◌++◌, length, filter, Option, Some, None, refl, sym, ap, subst, ◌∙◌, add-one, length-append, arith, ◌⊎◌}
use Rattle.std.specs.List.{slice_get}
use Rattle.std.proofs.lemmas.List.Elements.{filter-append}
use Rattle.std.proofs.Math.Nat.{le-suc_iff}
use Rattle.std.proofs.lemmas.Option.{slice_get_past}
use Rattle.hidstack_session.specs.declared.element.HidElement.{HidElement}
use Rattle.hidstack_host.specs.declared.find.Sought.{Sought}
use Rattle.hidstack_host.specs.declared.find.Sought.TheVariants.{Found, Left}
use Rattle.hidstack_host.specs.Finding.{IsNth}

get_left : {A : Type 0} (xs ys : List A) (k : ℕ) (x : A) → slice_get xs k ≡ Some x → slice_get (xs ++ ys) k ≡ Some x
get_left [] ys k x e = absurd (cc)
get_left (z ∷ xs) ys zero x e = e
get_left (z ∷ xs) ys (suc k) x e = get_left xs ys k x e

get_right : {A : Type 0} (xs ys : List A) (k n : ℕ) (x : A) → length xs + k ≡ n → slice_get ys k ≡ Some x → slice_get (xs ++ ys) n ≡ Some x
get_right [] ys k n x same e = let is : k ≡ n = omega arith in subst (λ (j : ℕ). slice_get ys j ≡ Some x) is e
get_right (z ∷ xs) ys k zero x same e = absurd (omega arith)
get_right (z ∷ xs) ys k (suc n) x same e = let rest : length xs + k ≡ n = omega arith in get_right xs ys k n x rest e

-- Where those of one list are counted, the element that is sought among those of the next is so among those of both.
pub nth_after : (p : HidElement → Bool) (xs ys : List HidElement) (nth left : ℕ) (sought : Sought) → length (filter p xs) + left ≡ nth → IsNth p ys left sought → IsNth p (xs ++ ys) nth sought
nth_after p xs ys nth left (Found element) before here =
    subst (λ (zs : List HidElement). slice_get zs nth ≡ Some element) (sym (filter-append p xs ys)) (get_right (filter p xs) (filter p ys) left nth element before here)
nth_after p xs ys nth left (Left rest) before here =
    let both = ap length (filter-append p xs ys) in
    let sum = length-append (filter p xs) (filter p ys) in
    omega (arith, both, sum, before, here)

-- lists that grow by what stands behind them: one more is looked at
pub nth_next : (p : HidElement → Bool) (lists more : ℕ → List HidElement) → ((n : ℕ) → lists (suc n) ≡ lists n ++ more n) → (n nth left : ℕ) (result sought : Sought)
    → length (filter p (lists n)) + left ≡ nth → IsNth p (more n) left result → result ≡ sought → IsNth p (lists (n + 1)) nth sought
nth_next p lists more grows n nth left result sought before here is =
    rw add-one (subst (λ (zs : List HidElement). IsNth p zs nth sought) (sym (grows n))
    (nth_after p (lists n) (more n) nth left sought before (subst (λ (r : Sought). IsNth p (more n) left r) is here)))

-- an element that was found stays where it is
pub found_stays : (p : HidElement → Bool) (lists more : ℕ → List HidElement) → ((n : ℕ) → lists (suc n) ≡ lists n ++ more n) → (m n nth : ℕ) (element : HidElement) → m ≤ n
    → slice_get (filter p (lists m)) nth ≡ Some element → slice_get (filter p (lists n)) nth ≡ Some element
found_stays p lists more grows m zero nth element few found = let is : m ≡ 0 = omega arith in subst (λ (k : ℕ). slice_get (filter p (lists k)) nth ≡ Some element) is found
found_stays p lists more grows m (suc n) nth element few found =
    by_order (λ few'. found_stays p lists more grows m n nth element few' found) ((le-suc_iff {m = m} {n = n}).0 few)
  where
    by_order : (m ≤ n → slice_get (filter p (lists n)) nth ≡ Some element) → (m ≤ n) ⊎ (m ≡ suc n) → slice_get (filter p (lists (suc n))) nth ≡ Some element
    by_order before (inl few') =
        subst (λ (zs : List HidElement). slice_get zs nth ≡ Some element) (sym (ap (filter p) (grows n) ∙ filter-append p (lists n) (more n)))
        (get_left (filter p (lists n)) (filter p (more n)) nth element (before few'))
    by_order before (inr is) = subst (λ (k : ℕ). slice_get (filter p (lists k)) nth ≡ Some element) is found

-- past the last
pub none_left : (p : HidElement → Bool) (xs : List HidElement) (nth left : ℕ) → length (filter p xs) + left ≡ nth → slice_get (filter p xs) nth ≡ None
none_left p xs nth left before = let past : length (filter p xs) ≤ nth = omega arith in slice_get_past (filter p xs) nth past
