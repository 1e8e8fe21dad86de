-- Fields of several bytes as one word.
use Rattle.std.proofs.Common.{◌≡◌, ℕ, zero, suc, ◌+◌, ◌-◌, ◌*◌, ◌/◌, ◌%◌, ◌^◌, ◌<◌, ◌≤◌, ◌≢◌, ◌⊎◌, inl, inr, length, List, get_or, set, get_or-set_same, get_or-set_other, length-set, refl, sym, ap, ◌∙◌, bit_and, bit_or, add_comm, one-add, arith}
use Rattle.std.specs.Int.{bit_at, sum_through, byte_worth, to_le_bytes, w64}
use Rattle.std.proofs.lemmas.Nat.Bits.{bit_at-lt, bit_at_cat_low, bit_at_cat_high}
use Rattle.std.proofs.lemmas.Nat.{or_shifted, pow_below, and_mask, shr_below, mod-pow-add, shr_split, shr_high, mod_low, mod_below, pow_pos, pow-add}
use Rattle.std.proofs.Math.Nat.{mod-eq_of_lt, mul-le-mul_right, pow-suc}
use Rattle.std.proofs.lemmas.Bool.{cases_eq, cases_lt}
use borrow.Rule.Slice.PartMut.{put_mid}
use Rattle.std.specs.List.{between}
use Rattle.std.proofs.lemmas.List.Edits.{length-between}
use Rattle.hid_fields.proofs.PartLemmas.{pattern_of-between, bit_of-between, bit_of-put, bit_of-put_other}
use Rattle.hid_fields.specs.Field.{bit_of, pattern_of, IsOutside}
use Rattle.hid_fields.specs.Word.{splice}
use Rattle.hid_fields.proofs.FieldLemmas.{pattern_of-lt}

-- a field is its low part and its high part
pub pattern_of-add : (bytes : List ℕ) (at m n : ℕ)
    → pattern_of bytes at (m + n) ≡ pattern_of bytes at m + pattern_of bytes (at + m) n * 2 ^ m
pattern_of-add bytes at m zero =
    let e : m + 0 ≡ m = omega arith in
    rw e (grind arith)
pattern_of-add bytes at m (suc n) =
    let here : at + (m + n) ≡ (at + m) + n = omega arith in
    let e : m + suc n ≡ suc (m + n) = omega arith in
    let p : 2 ^ (m + n) ≡ 2 ^ m * 2 ^ n = pow-add 2 m n in
    rw (e, pattern_of-add bytes at m n, here, p) (grind arith)

-- the low bits of a byte
low_bits : (bytes : List ℕ) (i k : ℕ) → k ≤ 8
    → pattern_of bytes (8 * i) k ≡ get_or bytes i 0 % 2 ^ k
low_bits bytes i zero h = omega arith
low_bits bytes i (suc k) h =
    let e : (8 * i + k) / 8 ≡ i = omega arith in
    let f : (8 * i + k) % 8 ≡ k = omega arith in
    let split = rw (one-add k) at (mod-pow-add (get_or bytes i 0) 1 k) in
    rw (low_bits bytes i k (omega arith), e, f) (add_comm _ _ ∙ sym split)

-- a byte is its eight bits
pub pattern_of-byte : (bytes : List ℕ) (i : ℕ) → get_or bytes i 0 < 256
    → pattern_of bytes (8 * i) 8 ≡ get_or bytes i 0
pattern_of-byte bytes i small = low_bits bytes i 8 (omega arith) ∙ mod-eq_of_lt small

-- a whole byte that is replaced
pub byte_put-field : (bytes : List ℕ) (at w pattern : ℕ) → w ≡ 8 → at % 8 ≡ 0 → at / 8 < length bytes → pattern < 2 ^ w
    → pattern_of (set bytes (at / 8) pattern) at w ≡ pattern
byte_put-field bytes at w pattern eight whole inside fits =
    let here : at ≡ 8 * (at / 8) = omega arith in
    let byte : get_or (set bytes (at / 8) pattern) (at / 8) 0 ≡ pattern = get_or-set_same bytes (at / 8) pattern 0 inside in
    let small : pattern < 2 ^ 8 = rw eight at fits in
    rw eight
    (ap (λ (a : ℕ). pattern_of (set bytes (at / 8) pattern) a 8) here
    ∙ pattern_of-byte (set bytes (at / 8) pattern) (at / 8) (rw byte small) ∙ byte)

pub byte_put-others : (bytes : List ℕ) (at w pattern n : ℕ) → w ≡ 8 → at % 8 ≡ 0 → IsOutside at w n
    → bit_of (set bytes (at / 8) pattern) n ≡ bit_of bytes n
byte_put-others bytes at w pattern n eight whole outside =
    let apart : n / 8 ≢ at / 8 = elim outside [ inl below ↦ omega arith | inr above ↦ omega arith ] in
    ap (λ (x : ℕ). bit_at x (n % 8)) (get_or-set_other bytes (at / 8) (n / 8) pattern 0 apart)

-- the bits of the next byte
pattern_of-next_byte : (bytes : List ℕ) (k : ℕ) → get_or bytes k 0 < 256
    → pattern_of bytes 0 (8 * suc k) ≡ pattern_of bytes 0 (8 * k) + get_or bytes k 0 * 2 ^ (8 * k)
pattern_of-next_byte bytes k small =
    let next : 8 * suc k ≡ 8 * k + 8 = omega arith in
    let here : 0 + 8 * k ≡ 8 * k = omega arith in
    rw (next, pattern_of-add bytes 0 (8 * k) 8, here, pattern_of-byte bytes k small) refl

power_of_256 : (k : ℕ) → 2 ^ (8 * k) ≡ 256 ^ k
power_of_256 zero = refl
power_of_256 (suc k) =
    let next : 8 * suc k ≡ 8 + 8 * k = omega arith in
    rw (next, pow-add 2 8 (8 * k), power_of_256 k, pow-suc 256 k) (omega arith)

-- bytes, the first one lowest, are the sum of their worths
pattern_of-bytes : (bytes : List ℕ) (k : ℕ) → ((i : ℕ) → get_or bytes i 0 < 256)
    → pattern_of bytes 0 (8 * suc k) ≡ sum_through (λ i. byte_worth i (get_or bytes i 0)) k
pattern_of-bytes bytes zero small = pattern_of-byte bytes 0 (small 0)
pattern_of-bytes bytes (suc k) small =
    let power = power_of_256 (suc k) in
    rw (pattern_of-next_byte bytes (suc k) (small (suc k)), power, pattern_of-bytes bytes k small) refl

-- what is gathered from a whole slice
pub gathered : (bytes : List ℕ) (k word : ℕ) → length bytes ≡ suc k
    → ((i : ℕ) → get_or bytes i 0 < 256)
    → word ≡ sum_through (λ i. byte_worth i (get_or bytes i 0)) k
    → word ≡ pattern_of bytes 0 (8 * length bytes)
gathered bytes k word len small is = rw len (is ∙ sym (pattern_of-bytes bytes k small))

-- the first n bytes are those of the word
abbrev pub HasBytes : List ℕ → ℕ → ℕ → Type 0
HasBytes bytes word zero = Unit {0}
HasBytes bytes word (suc k) = HasBytes bytes word k × (get_or bytes k 0 ≡ word / 2 ^ (8 * k) % 256)

pattern_of-scattered : (bytes : List ℕ) (word n : ℕ) → HasBytes bytes word n
    → pattern_of bytes 0 (8 * n) ≡ word % 2 ^ (8 * n)
pattern_of-scattered bytes word zero has = omega arith
pattern_of-scattered bytes word (suc k) has =
    let small : get_or bytes k 0 < 256 = rw has.1 (omega arith) in
    let next : 8 * suc k ≡ 8 + 8 * k = omega arith in
    pattern_of-next_byte bytes k small
    ∙ rw (pattern_of-scattered bytes word k has.0, has.1)
    (add_comm _ _ ∙ sym (mod-pow-add word 8 (8 * k)) ∙ ap (λ (m : ℕ). word % 2 ^ m) (sym next))

-- what is scattered into a whole slice
pub scattered : (bytes : List ℕ) (word n : ℕ) → length bytes ≡ n → word < 2 ^ (8 * length bytes)
    → HasBytes bytes word n → pattern_of bytes 0 (8 * length bytes) ≡ word
scattered bytes word n len fits has =
    let small : word < 2 ^ (8 * n) = rw len at fits in
    rw len (pattern_of-scattered bytes word n has ∙ mod-eq_of_lt small)

-- the first n bytes replaced, one after another
abbrev put_first : List ℕ → List ℕ → ℕ → List ℕ
put_first bytes from zero = bytes
put_first bytes from (suc k) = set (put_first bytes from k) k (get_or from k 0)

length-put_first : (bytes from : List ℕ) (n : ℕ) → length (put_first bytes from n) ≡ length bytes
length-put_first bytes from zero = refl
length-put_first bytes from (suc k) = length-set (put_first bytes from k) k (get_or from k 0) ∙ length-put_first bytes from k

get_or-put_first : (bytes from : List ℕ) (n k : ℕ) → k < n → n ≤ length bytes → get_or (put_first bytes from n) k 0 ≡ get_or from k 0
get_or-put_first bytes from zero k h inside = absurd (omega arith)
get_or-put_first bytes from (suc n) k h inside =
    elim (cases_eq k n) [
      | inl e ↦ rw e (get_or-set_same (put_first bytes from n) n (get_or from n 0) 0 (omega (arith, length-put_first bytes from n)))
      | inr ne ↦
          get_or-set_other (put_first bytes from n) n k (get_or from n 0) 0 ne
          ∙ get_or-put_first bytes from n k (omega arith) (omega arith)
    ]

has-put_first : (bytes from : List ℕ) (word n m : ℕ) → n ≤ m → m ≤ length bytes → HasBytes from word n → HasBytes (put_first bytes from m) word n
has-put_first bytes from word zero m h inside has = tt
has-put_first bytes from word (suc n) m h inside has =
    (has-put_first bytes from word n m (omega arith) inside has.0, get_or-put_first bytes from m n (omega arith) inside ∙ has.1)

-- the bytes of a word
pub bytes_of_word : (from : List ℕ) (word : ℕ) → from ≡ to_le_bytes w64 word → HasBytes from word 5
bytes_of_word from word is =
    let lowest : word % 256 ≡ word / 1 % 256 = omega arith in
    rw is (((((tt, lowest), refl), refl), refl), refl)

-- what is scattered into a whole slice, byte by byte
pub scattered_first : (bytes from : List ℕ) (word n : ℕ) → length bytes ≡ n → word < 2 ^ (8 * length bytes) → HasBytes from word n
    → pattern_of (put_first bytes from n) 0 (8 * length (put_first bytes from n)) ≡ word
scattered_first bytes from word n len fits has =
    let same = length-put_first bytes from n in
    scattered (put_first bytes from n) word n (same ∙ len) (rw same fits) (has-put_first bytes from word n n (omega arith) (omega arith) has)

-- a bit of a field
pub bit_at-pattern_of : (bytes : List ℕ) (at w k : ℕ) → k < w
    → bit_at (pattern_of bytes at w) k ≡ bit_of bytes (at + k)
bit_at-pattern_of bytes at zero k h = absurd (omega arith)
bit_at-pattern_of bytes at (suc w) k h =
    elim (cases_eq k w) [
      | inl e ↦
          rw (e, add_comm (pattern_of bytes at w) (bit_of bytes (at + w) * 2 ^ w), shr_high (bit_of bytes (at + w)) w (pattern_of bytes at w) (pattern_of-lt bytes at w))
          (mod-eq_of_lt (bit_at-lt _ _))
      | inr ne ↦
          let lt : k < w = omega arith in
          rw (add_comm (pattern_of bytes at w) (bit_of bytes (at + w) * 2 ^ w))
          (bit_at_cat_low (bit_of bytes (at + w)) w (pattern_of bytes at w) k lt ∙ bit_at-pattern_of bytes at w k lt)
    ]

-- a field inside a word
pub field_of_word : (bytes : List ℕ) (at s w m : ℕ) → s + w ≤ m
    → pattern_of bytes at m / 2 ^ s % 2 ^ w ≡ pattern_of bytes (at + s) w
field_of_word bytes at s w m h =
    let rest = m - (s + w) in
    let e : m ≡ s + (w + rest) = omega arith in
    let parts : pattern_of bytes at m ≡ (pattern_of bytes ((at + s) + w) rest * 2 ^ w + pattern_of bytes (at + s) w) * 2 ^ s + pattern_of bytes at s =
    rw (e, pattern_of-add bytes at s (w + rest), pattern_of-add bytes (at + s) w rest) (grind arith)
    in
    rw (parts, shr_high (pattern_of bytes ((at + s) + w) rest * 2 ^ w + pattern_of bytes (at + s) w) s (pattern_of bytes at s) (pattern_of-lt bytes at s))
    (mod_low (pattern_of bytes ((at + s) + w) rest) w (pattern_of bytes (at + s) w) (pattern_of-lt bytes (at + s) w))

-- a field of a word of bytes, as it is read: shifted, and masked
pub field_read : (bytes : List ℕ) (first at w m word : ℕ) → w ≤ 32 → 8 * first ≤ at → at + w ≤ 8 * first + m → word ≡ pattern_of bytes (8 * first) m
    → bit_and (word / 2 ^ (at - 8 * first)) (1 * 2 ^ w % 2 ^ 64 - 1) ≡ pattern_of bytes at w
field_read bytes first at w m word narrow low enough is =
    let one : 1 * 2 ^ w % 2 ^ 64 ≡ 2 ^ w = mod-eq_of_lt (omega (arith, pow_below w 64 (omega arith))) ∙ omega arith in
    let here : 8 * first + (at - 8 * first) ≡ at = omega arith in
    rw (one, and_mask, is)
    (field_of_word bytes (8 * first) (at - 8 * first) w m (omega arith) ∙ ap (λ (a : ℕ). pattern_of bytes a w) here)

-- what is gathered of a part of the bytes
pub gathered_part : (bytes : List ℕ) (first count word : ℕ) → first + count ≤ length bytes
    → word ≡ pattern_of (between first (first + count) bytes) 0 (8 * length (between first (first + count) bytes))
    → word ≡ pattern_of bytes (8 * first) (8 * count)
gathered_part bytes first count word inside is =
    let len : length (between first (first + count) bytes) ≡ count = length-between bytes first (first + count) (omega arith) ∙ omega arith in
    let here : 8 * first + 0 ≡ 8 * first = omega arith in
    is ∙ ap (λ (n : ℕ). pattern_of (between first (first + count) bytes) 0 (8 * n)) len
    ∙ pattern_of-between bytes first (first + count) 0 (8 * count) (omega arith)
    ∙ ap (λ (a : ℕ). pattern_of bytes a (8 * count)) here

low_fits : (n s : ℕ) → n % 2 ^ s < 2 ^ s
low_fits n s = mod_below n (2 ^ s) (pow_pos s)

pub splice-field : (s w pattern word : ℕ) → pattern < 2 ^ w
    → splice s w pattern word / 2 ^ s % 2 ^ w ≡ pattern
splice-field s w pattern word h =
    rw (shr_high (word / 2 ^ (s + w) * 2 ^ w + pattern) s (word % 2 ^ s) (low_fits word s))
    (mod_low (word / 2 ^ (s + w)) w pattern h)

cat_lt : (a b p q : ℕ) → a < p → b < q → a * q + b < p * q
cat_lt a b zero q h k = absurd (omega arith)
cat_lt a b (suc p) q h k =
    let le : a * q ≤ p * q = mul-le-mul_right q (omega arith) in
    let e : suc p * q ≡ p * q + q = grind arith in
    rw e (omega arith)

split_sum : (r s w : ℕ) → r + (s + w) ≡ r + w + s
split_sum r s w = omega arith

bit_low : (n s k : ℕ) → k < s → bit_at (n % 2 ^ s) k ≡ bit_at n k
bit_low n s k h = sym (bit_at_cat_low (n / 2 ^ s) s (n % 2 ^ s) k h) ∙ ap (λ (m : ℕ). bit_at m k) (shr_split n s)

bit_high : (n s k : ℕ) → s ≤ k → bit_at (n / 2 ^ s) (k - s) ≡ bit_at n k
bit_high n s k h = sym (bit_at_cat_high (n / 2 ^ s) s (n % 2 ^ s) k (low_fits n s) h) ∙ ap (λ (m : ℕ). bit_at m k) (shr_split n s)

pub splice-others : (s w pattern word k : ℕ) → pattern < 2 ^ w → (k < s) ⊎ (s + w ≤ k)
    → bit_at (splice s w pattern word) k ≡ bit_at word k
splice-others s w pattern word k h (inl below) =
    bit_at_cat_low (word / 2 ^ (s + w) * 2 ^ w + pattern) s (word % 2 ^ s) k below
    ∙ bit_low word s k below
splice-others s w pattern word k h (inr above) =
    let e : k - s - w ≡ k - (s + w) = omega arith in
    bit_at_cat_high (word / 2 ^ (s + w) * 2 ^ w + pattern) s (word % 2 ^ s) k (low_fits word s) (omega arith)
    ∙ bit_at_cat_high (word / 2 ^ (s + w)) w pattern (k - s) h (omega arith)
    ∙ ap (λ (j : ℕ). bit_at (word / 2 ^ (s + w)) j) e
    ∙ bit_high word (s + w) k above

-- a bound on a word with a field replaced
pub splice-lt : (s w pattern word m : ℕ) → pattern < 2 ^ w → s + w ≤ m → word < 2 ^ m
    → splice s w pattern word < 2 ^ m
splice-lt s w pattern word m h inside word_fits =
    let rest = m - (s + w) in
    let e : rest + (s + w) ≡ m = omega arith in
    let word_fits' : word < 2 ^ (rest + (s + w)) = rw e word_fits in
    let high : word / 2 ^ (s + w) < 2 ^ rest = shr_below word rest (s + w) word_fits' in
    let mid : word / 2 ^ (s + w) * 2 ^ w + pattern < 2 ^ rest * 2 ^ w = cat_lt _ _ _ _ high h in
    let all : (word / 2 ^ (s + w) * 2 ^ w + pattern) * 2 ^ s + word % 2 ^ s < 2 ^ rest * 2 ^ w * 2 ^ s = cat_lt _ _ _ _ mid (low_fits word s) in
    let p : 2 ^ m ≡ 2 ^ rest * 2 ^ w * 2 ^ s = ap (λ (n : ℕ). 2 ^ n) (sym e ∙ split_sum rest s w) ∙ pow-add 2 (rest + w) s ∙ ap (λ (n : ℕ). n * 2 ^ s) (pow-add 2 rest w) in
    rw p all

-- what the code makes, step by step
pub splice-made : (word s w pattern : ℕ) → word < 2 ^ 40 → s < 8 → w ≤ 32 → pattern < 2 ^ w
    → bit_or (bit_or (word / 2 ^ (s + w) * 2 ^ w % 2 ^ 64) pattern * 2 ^ s % 2 ^ 64)
    (bit_and word (1 * 2 ^ s % 2 ^ 64 - 1)) ≡ splice s w pattern word
splice-made word s w pattern word_fits s_fits w_fits h =
    let one : 1 * 2 ^ s % 2 ^ 64 ≡ 2 ^ s = mod-eq_of_lt (omega (arith, pow_below s 64 (omega arith))) ∙ omega arith in
    let whole : splice s w pattern word < 2 ^ 40 = splice-lt s w pattern word 40 h (omega arith) word_fits in
    let word_fits' : word < 2 ^ ((40 - (s + w)) + (s + w)) = let e : (40 - (s + w)) + (s + w) ≡ 40 = omega arith in rw e word_fits in
    let high : word / 2 ^ (s + w) * 2 ^ w + 0 < 2 ^ (40 - (s + w)) * 2 ^ w = cat_lt _ _ _ _ (shr_below word (40 - (s + w)) (s + w) word_fits') (pow_pos w) in
    let high_fits : word / 2 ^ (s + w) * 2 ^ w < 2 ^ 64 = omega (arith, sym (pow-add 2 (40 - (s + w)) w), pow_below (40 - (s + w) + w) 64 (omega arith)) in
    let mid_fits : (word / 2 ^ (s + w) * 2 ^ w + pattern) * 2 ^ s < 2 ^ 64 = omega arith in
    rw (one, and_mask, mod-eq_of_lt high_fits, or_shifted (word / 2 ^ (s + w)) w pattern h, mod-eq_of_lt mid_fits)
    (or_shifted (word / 2 ^ (s + w) * 2 ^ w + pattern) s (word % 2 ^ s) (low_fits word s))

-- a bit outside a field that was replaced in a word of bytes
pub bit_of-splice : (xs ys : List ℕ) (at s w m pattern k : ℕ) → pattern < 2 ^ w → k < m
    → pattern_of ys at m ≡ splice s w pattern (pattern_of xs at m)
    → (k < s) ⊎ (s + w ≤ k) → bit_of ys (at + k) ≡ bit_of xs (at + k)
bit_of-splice xs ys at s w m pattern k h inside word outside =
    sym (bit_at-pattern_of ys at m k inside)
    ∙ ap (λ (x : ℕ). bit_at x k) word
    ∙ splice-others s w pattern (pattern_of xs at m) k h outside
    ∙ bit_at-pattern_of xs at m k inside

-- a bit outside a field that was replaced in a part of a slice
pub put_elsewhere : (xs ys : List ℕ) (first last s w pattern n : ℕ) → first ≤ last → last ≤ length xs
    → length (between first last xs) ≡ last - first → length ys ≡ last - first
    → pattern < 2 ^ w
    → pattern_of ys 0 (8 * length (between first last xs))
    ≡ splice s w pattern (pattern_of (between first last xs) 0 (8 * length (between first last xs)))
    → IsOutside (8 * first + s) w n → bit_of (put_mid first (last - first) xs ys) n ≡ bit_of xs n
put_elsewhere xs ys first last s w pattern n order inside part_len len fits word outside =
    elim (cases_lt n (8 * first)) [
      | inl below ↦ bit_of-put_other xs ys first last n order inside len (inl below)
      | inr from ↦ elim (cases_lt n (8 * last)) [
        | inr above ↦ bit_of-put_other xs ys first last n order inside len (inr above)
        | inl within ↦
            let k = n - 8 * first in
            let place : 8 * first + (0 + k) ≡ n = omega arith in
            let low : 0 + k < 8 * (last - first) = omega arith in
            let apart : (k < s) ⊎ (s + w ≤ k) = elim outside [ inl a ↦ inl (omega arith) | inr b ↦ inr (omega arith) ] in
            ap (bit_of (put_mid first (last - first) xs ys)) (sym place)
            ∙ bit_of-put xs ys first last (0 + k) (omega arith) len low
            ∙ bit_of-splice (between first last xs) ys 0 s w (8 * length (between first last xs)) pattern k fits
            (omega arith) word apart
            ∙ bit_of-between xs first last (0 + k) low
            ∙ ap (bit_of xs) place
      ]
    ]
