-- Bytes are items in one way at most, since no encoding is the beginning of another (HID 1.11, 6.2.2).
use Rattle.std.proofs.Common.{◌≡◌, ℕ, suc, Bool, true, false, List, [], ◌∷◌, ◌++◌, length, take, drop, sym, ◌∙◌, ap, subst, arith, nat_eq, refl}
use Rattle.std.specs.Prelude.{All}
use Rattle.std.proofs.Math.Seq.{take-append_seam}
use Rattle.std.proofs.lemmas.List.{append_assoc, append-nil, append_cancel_left, take-append-drop, length-drop}
use Rattle.std.proofs.lemmas.List.Concat.{flat_map-cons}
use Rattle.std.proofs.lemmas.List.Elements.{All-head, All-tail}
use Rattle.std.specs.Bool.{MatchBool}
use Rattle.std.specs.List.{flat_map}
use Rattle.hid_items.specs.ItemEncoding.{IsItemEncoding, IsLongRest, data_length, AreItems, IsTruncatedAt}

-- the rests of two long items that begin alike are equally long
long_same : (x y p q : List ℕ) → IsLongRest x → IsLongRest y → x ++ p ≡ y ++ q → length x ≡ length y
long_same [] y p q s t e = absurd s
long_same (n ∷ []) y p q s t e = absurd s
long_same (n ∷ tag ∷ x) [] p q s t e = absurd t
long_same (n ∷ tag ∷ x) (m ∷ []) p q s t e = absurd t
long_same (n ∷ tag ∷ x) (m ∷ tag' ∷ y) p q s t e = let k : n ≡ m = cc in omega arith

-- so are the rests of any two items after the same first byte
rest_same : (l : Bool) (a : ℕ) (x y p q : List ℕ) → MatchBool l (IsLongRest x) (length x ≡ data_length a) → MatchBool l (IsLongRest y) (length y ≡ data_length a) → x ++ p ≡ y ++ q → length x ≡ length y
rest_same true a x y p q s t e = long_same x y p q s t e
rest_same false a x y p q s t e = s ∙ sym t

-- an encoding's length is told by its first bytes
same_length : (x y p q : List ℕ) → IsItemEncoding x → IsItemEncoding y → x ++ p ≡ y ++ q → length x ≡ length y
same_length [] y p q s t e = absurd s
same_length (a ∷ x) [] p q s t e = absurd t
same_length (a ∷ x) (b ∷ y) p q s t e =
    let h : a ≡ b = cc in
    let r : x ++ p ≡ y ++ q = cc in
    ap (λ n. suc n) (rest_same (nat_eq a 0xFE) a x y p q s (subst (λ f. MatchBool (nat_eq f 0xFE) (IsLongRest y) (length y ≡ data_length f)) (sym h) t) r)

-- bytes begin with one encoding at most
pub same_spelling : (x y p q : List ℕ) → IsItemEncoding x → IsItemEncoding y → x ++ p ≡ y ++ q → x ≡ y
same_spelling x y p q s t e = sym (take-append_seam x p) ∙ ap (λ n. take n (x ++ p)) (same_length x y p q s t e) ∙ ap (take (length y)) e ∙ take-append_seam y q

-- no item begins here
abbrev BeginsNone : List ℕ → Type 0
BeginsNone rest = (item more : List ℕ) → IsItemEncoding item → rest ≡ item ++ more → ⊥

nothing_begins : BeginsNone []
nothing_begins [] more encoded e = absurd encoded
nothing_begins (first ∷ item) more encoded e = absurd cc

abbrev all_of : List (List ℕ) → List ℕ
all_of items = flat_map (λ item. item) items

all_of-cons : (x : List ℕ) (xs : List (List ℕ)) (p : List ℕ) → all_of (x ∷ xs) ++ p ≡ x ++ (all_of xs ++ p)
all_of-cons x xs p = ap (λ l. l ++ p) (flat_map-cons (λ item. item) x xs) ∙ append_assoc x (all_of xs) p

-- two readings of equal bytes have equal items, as far as items begin
same_reading : (xs ys : List (List ℕ)) (p q : List ℕ) → All IsItemEncoding xs → All IsItemEncoding ys → BeginsNone p → BeginsNone q → all_of xs ++ p ≡ all_of ys ++ q → (xs ≡ ys) × (p ≡ q)
same_reading [] [] p q a b m n e = (refl, e)
same_reading [] (y ∷ ys) p q a b m n e = absurd (m y (all_of ys ++ q) (All-head IsItemEncoding y ys b) (e ∙ all_of-cons y ys q))
same_reading (x ∷ xs) [] p q a b m n e = absurd (n x (all_of xs ++ p) (All-head IsItemEncoding x xs a) (sym e ∙ all_of-cons x xs p))
same_reading (x ∷ xs) (y ∷ ys) p q a b m n e =
    let joined : x ++ (all_of xs ++ p) ≡ y ++ (all_of ys ++ q) = sym (all_of-cons x xs p) ∙ e ∙ all_of-cons y ys q in
    let first : x ≡ y = same_spelling x y (all_of xs ++ p) (all_of ys ++ q) (All-head IsItemEncoding x xs a) (All-head IsItemEncoding y ys b) joined in
    let behind : all_of xs ++ p ≡ all_of ys ++ q = append_cancel_left y (all_of xs ++ p) (all_of ys ++ q) (subst (λ l. l ++ (all_of xs ++ p) ≡ y ++ (all_of ys ++ q)) first joined) in
    let rest = same_reading xs ys p q (All-tail IsItemEncoding x xs a) (All-tail IsItemEncoding y ys b) m n behind in
    (ap (λ h. h ∷ xs) first ∙ ap (λ t. y ∷ t) rest.0, rest.1)

-- a list of items, and a truncated one, as items with what is left
whole : (bytes : List ℕ) (items : List (List ℕ)) → AreItems bytes items → all_of items ++ [] ≡ bytes
whole bytes items are = append-nil (all_of items) ∙ are.joined

cut_off : (bytes : List ℕ) (at : ℕ) (items : List (List ℕ)) → IsTruncatedAt bytes at items → all_of items ++ drop at bytes ≡ bytes
cut_off bytes at items is = ap (λ l. l ++ drop at bytes) is.items_before.joined ∙ take-append-drop at bytes

pub one_reading : (bytes : List ℕ) (items others : List (List ℕ)) → AreItems bytes items → AreItems bytes others → items ≡ others
one_reading bytes items others a b =
    (same_reading items others [] [] a.encoded b.encoded nothing_begins nothing_begins (whole bytes items a ∙ sym (whole bytes others b))).0

pub truncation_is_no_reading : (bytes : List ℕ) (at : ℕ) (items others : List (List ℕ)) → IsTruncatedAt bytes at items → AreItems bytes others → ⊥
truncation_is_no_reading bytes at items others t a =
    let same = same_reading items others (drop at bytes) [] t.items_before.encoded a.encoded t.cut.none nothing_begins (cut_off bytes at items t ∙ sym (whole bytes others a)) in
    let none : length (drop at bytes) ≡ 0 = ap length same.1 in
    omega (arith, none, t.cut.some)

same_truncation : (bytes : List ℕ) (at there : ℕ) (items others : List (List ℕ)) → IsTruncatedAt bytes at items → IsTruncatedAt bytes there others → (items ≡ others) × (drop at bytes ≡ drop there bytes)
same_truncation bytes at there items others a b =
    same_reading items others (drop at bytes) (drop there bytes) a.items_before.encoded b.items_before.encoded a.cut.none b.cut.none (cut_off bytes at items a ∙ sym (cut_off bytes there others b))

pub one_truncation : (bytes : List ℕ) (at there : ℕ) (items others : List (List ℕ)) → IsTruncatedAt bytes at items → IsTruncatedAt bytes there others → at ≡ there
one_truncation bytes at there items others a b =
    let same : length (drop at bytes) ≡ length (drop there bytes) = ap length (same_truncation bytes at there items others a b).1 in
    omega (arith, same, length-drop at bytes, length-drop there bytes, a.within, b.within)

pub one_truncation_items : (bytes : List ℕ) (at there : ℕ) (items others : List (List ℕ)) → IsTruncatedAt bytes at items → IsTruncatedAt bytes there others → items ≡ others
one_truncation_items bytes at there items others a b = (same_truncation bytes at there items others a b).0
