-- Bits of a part of a slice, and of a slice whose part was written.
use Rattle.std.proofs.Common.{◌≡◌, ℕ, ◌+◌, ◌-◌, ◌*◌, ◌/◌, ◌%◌, ◌<◌, ◌≤◌, ◌⊎◌, inl, inr, length, List, get_or, drop, refl, sym, ap, ◌∙◌, arith}
use borrow.Rule.Slice.PartMut.{put_mid}
use Rattle.std.specs.Int.{bit_at}
use Rattle.std.specs.List.{between}
use Rattle.std.proofs.lemmas.List.Edits.{get_or-between}
use Rattle.std.proofs.lemmas.List.{get_or-take, get_or-drop}
use Rattle.std.proofs.lemmas.Slice.{between-put_mid, take-put_mid_below, drop-put_mid}
use Rattle.hid_fields.specs.Field.{bit_of, pattern_of}
use Rattle.hid_fields.proofs.FieldLemmas.{pattern_of-same}

-- a bit of a part is one of the whole
pub bit_of-between : (xs : List ℕ) (first last k : ℕ) → k < 8 * (last - first)
    → bit_of (between first last xs) k ≡ bit_of xs (8 * first + k)
bit_of-between xs first last k h =
    let byte : (8 * first + k) / 8 ≡ first + k / 8 = omega arith in
    let bit : (8 * first + k) % 8 ≡ k % 8 = omega arith in
    let within : first + k / 8 < last = omega arith in
    rw (byte, bit, get_or-between xs first last (k / 8) 0 within) refl

-- a field of a part is one of the whole
pub pattern_of-between : (xs : List ℕ) (first last at width : ℕ) → at + width ≤ 8 * (last - first)
    → pattern_of (between first last xs) at width ≡ pattern_of xs (8 * first + at) width
pattern_of-between xs first last at width h =
    pattern_of-same _ _ at (8 * first + at) width
    (λ k lt. let there : 8 * first + (at + k) ≡ 8 * first + at + k = omega arith in bit_of-between xs first last (at + k) (omega arith) ∙ ap (bit_of xs) there)

-- a field of what was written into a part
pub pattern_of-put : (xs ys : List ℕ) (first last at width : ℕ) → first ≤ length xs
    → length ys ≡ last - first
    → at + width ≤ 8 * (last - first)
    → pattern_of (put_mid first (last - first) xs ys) (8 * first + at) width ≡ pattern_of ys at width
pattern_of-put xs ys first last at width inside len h =
    sym (pattern_of-between (put_mid first (last - first) xs ys) first last at width h)
    ∙ ap (λ (zs : List ℕ). pattern_of zs at width) (between-put_mid first (last - first) xs ys last inside len)

-- a bit of what was written into a part
pub bit_of-put : (xs ys : List ℕ) (first last k : ℕ) → first ≤ length xs → length ys ≡ last - first
    → k < 8 * (last - first)
    → bit_of (put_mid first (last - first) xs ys) (8 * first + k) ≡ bit_of ys k
bit_of-put xs ys first last k inside len h =
    sym (bit_of-between (put_mid first (last - first) xs ys) first last k h)
    ∙ ap (λ (zs : List ℕ). bit_of zs k) (between-put_mid first (last - first) xs ys last inside len)

-- the bits of the other bytes stay
pub bit_of-put_other : (xs ys : List ℕ) (first last n : ℕ) → first ≤ last → last ≤ length xs
    → length ys ≡ last - first
    → (n < 8 * first) ⊎ (8 * last ≤ n) → bit_of (put_mid first (last - first) xs ys) n ≡ bit_of xs n
bit_of-put_other xs ys first last n order inside len (inl below) =
    let whole = put_mid first (last - first) xs ys in
    let h : n / 8 < first = omega arith in
    let e : get_or whole (n / 8) 0 ≡ get_or xs (n / 8) 0 =
    sym (get_or-take first whole (n / 8) 0 h)
    ∙ ap (λ (zs : List ℕ). get_or zs (n / 8) 0) (take-put_mid_below first (last - first) xs ys first (omega arith) (omega arith))
    ∙ get_or-take first xs (n / 8) 0 h
    in
    ap (λ (byte : ℕ). bit_at byte (n % 8)) e
bit_of-put_other xs ys first last n order inside len (inr above) =
    let whole = put_mid first (last - first) xs ys in
    let h : last + (n / 8 - last) ≡ n / 8 = omega arith in
    let same : drop last whole ≡ drop last xs = drop-put_mid first (last - first) xs ys last (omega arith) (omega arith) len in
    let e : get_or whole (last + (n / 8 - last)) 0 ≡ get_or xs (last + (n / 8 - last)) 0 =
    sym (get_or-drop last whole (n / 8 - last) 0)
    ∙ ap (λ (zs : List ℕ). get_or zs (n / 8 - last) 0) same
    ∙ get_or-drop last xs (n / 8 - last) 0
    in
    ap (λ (byte : ℕ). bit_at byte (n % 8)) (rw h at e)
