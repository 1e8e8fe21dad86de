-- The bytes that words of hex encode, pair by pair of a text.
use Rattle.std.proofs.Common.{◌≡◌, ℕ, ◌+◌, ◌*◌, ◌/◌, ◌%◌, Bool, true, false, ◌&&◌, List, [], ◌∷◌, ◌++◌, length, refl, sym, ap, arith, ◌∙◌, append_assoc, append-nil, length-append, take, drop, get_or, ◌-◌, ◌<◌, ◌≤◌, Option, None, Some, Result, Ok, Err, cond, nat_eq, not, ⊎_elim}
use Rattle.std.proofs.lemmas.Bool.{cases_Bool, eqb-true}
use Rattle.std.proofs.lemmas.List.{take_all}
use Rattle.std.proofs.lemmas.List.Sums.{sum_by-cons}
use Rattle.std.specs.Prelude.{is_ok, filter}
use Rattle.std.specs.List.{list_all, flat_map, slice_split, onto_first}
use Rattle.std.specs.Option.{option_map}
use Rattle.std.specs.Result.{result_unwrap_or, result_ok}
use Rattle.hex.specs.Hex.{decode_of, decode_pairs, pair_value, value_at, digit_or_error, hex_digit_value, ◌>>=◌}
use Rattle.hex.specs.declared.error.FromHexError.{FromHexError}
use Rattle.hex.specs.declared.error.FromHexError.TheVariants.{OddLength}
use Rattle.hid_text.specs.Words.{Word, is_blank, words_of, hex_of, pair_of, byte_from, byte_count}
use Rattle.hid_text.proofs.PartLemmas.{first_part, some_byte}

-- what is encoded, whatever the error is where nothing is
abbrev encoded : Result (List ℕ) FromHexError → Option (List ℕ)
encoded (Ok bytes) = Some bytes
encoded (Err cause) = None

-- bytes before those that other words encode
abbrev pub before : List ℕ → Option (List ℕ) → Option (List ℕ)
before bytes more = option_map (λ m. bytes ++ m) more

-- the bytes of a word before those of other words
abbrev joined : Option (List ℕ) → Option (List ℕ) → Option (List ℕ)
joined None more = None
joined (Some bytes) more = before bytes more

-- a byte before those of more digits
abbrev onto : Option ℕ → Option (List ℕ) → Option (List ℕ)
onto byte None = None
onto None (Some more) = None
onto (Some byte) (Some more) = Some (byte ∷ more)

no_byte : (more : Option (List ℕ)) → onto None more ≡ None
no_byte None = refl
no_byte (Some more) = refl

joined_onto : (byte : Option ℕ) (word more : Option (List ℕ)) → joined (onto byte word) more ≡ onto byte (joined word more)
joined_onto byte None more = refl
joined_onto None (Some bytes) more = sym (no_byte (before bytes more))
joined_onto (Some byte) (Some bytes) None = refl
joined_onto (Some byte) (Some bytes) (Some more) = refl

-- ---- a word of hex

one_more : (byte : ℕ) (r : Result (List ℕ) FromHexError) → encoded (r >>= (λ bytes. Ok (byte ∷ bytes))) ≡ onto (Some byte) (encoded r)
one_more byte (Ok bytes) = refl
one_more byte (Err cause) = refl

pair_spelled : (i high low : ℕ) (r : Result (List ℕ) FromHexError) → encoded (pair_value high low i >>= (λ byte. r >>= (λ bytes. Ok (byte ∷ bytes)))) ≡ onto (pair_of high low) (encoded r)
pair_spelled i high low r = elim (hex_digit_value high) as (λ o. encoded ((digit_or_error high i o >>= (λ h. value_at low (i + 1) >>= (λ l. Ok (h * 16 + l)))) >>= (λ byte. r >>= (λ bytes. Ok (byte ∷ bytes)))) ≡ onto (byte_from o (hex_digit_value low)) (encoded r)) [
  | None ↦ sym (no_byte (encoded r))
  | Some h ↦ elim (hex_digit_value low) as (λ o. encoded ((digit_or_error low (i + 1) o >>= (λ l. Ok (h * 16 + l))) >>= (λ byte. r >>= (λ bytes. Ok (byte ∷ bytes)))) ≡ onto (byte_from (Some h) o) (encoded r)) [ None ↦ sym (no_byte (encoded r)) | Some l ↦ one_more (h * 16 + l) r ]
]

-- what digits encode doesn't depend on the place that an error tells
same_pairs : (i j : ℕ) (word : Word) → encoded (decode_pairs i word) ≡ encoded (decode_pairs j word)
unfolding decode_pairs
same_pairs i j [] = refl
same_pairs i j (digit ∷ []) = refl
same_pairs i j (high ∷ low ∷ word) =
    pair_spelled i high low (decode_pairs (i + 2) word) ∙ ap (onto (pair_of high low)) (same_pairs (i + 2) (j + 2) word)
    ∙ sym (pair_spelled j high low (decode_pairs (j + 2) word))

spelled_either : (odd : Bool) (r : Result (List ℕ) FromHexError) → encoded (cond odd (Err OddLength) r) ≡ cond odd None (encoded r)
spelled_either true r = refl
spelled_either false r = refl

onto_either : (odd : Bool) (byte : Option ℕ) (more : Option (List ℕ)) → cond odd None (onto byte more) ≡ onto byte (cond odd None more)
onto_either true byte more = refl
onto_either false byte more = refl

-- a pair of digits before a word
pair_word : (high low : ℕ) (word : Word) → encoded (decode_of (high ∷ low ∷ word)) ≡ onto (pair_of high low) (encoded (decode_of word))
unfolding decode_pairs
pair_word high low word =
    let odd = nat_eq (length word % 2) 1 in
    let same : length (high ∷ low ∷ word) % 2 ≡ length word % 2 = omega arith in
    ap (λ n. encoded (cond (nat_eq n 1) (Err OddLength) (decode_pairs 0 (high ∷ low ∷ word)))) same
    ∙ spelled_either odd (decode_pairs 0 (high ∷ low ∷ word))
    ∙ ap (cond odd None) (pair_spelled 0 high low (decode_pairs 2 word) ∙ ap (onto (pair_of high low)) (same_pairs 2 0 word))
    ∙ onto_either odd (pair_of high low) (encoded (decode_pairs 0 word))
    ∙ ap (onto (pair_of high low)) (sym (spelled_either odd (decode_pairs 0 word)))

is_encoded : (r : Result (List ℕ) FromHexError) → result_ok r ≡ encoded r
is_encoded (Ok bytes) = refl
is_encoded (Err cause) = refl

onto_nothing : (byte : Option ℕ) → onto byte (Some []) ≡ option_map (λ b. b ∷ []) byte
onto_nothing None = refl
onto_nothing (Some byte) = refl

-- what a pair of digits alone encodes
pub pair_alone : (high low : ℕ) → result_ok (decode_of (high ∷ low ∷ [])) ≡ option_map (λ b. b ∷ []) (pair_of high low)
unfolding decode_pairs
pair_alone high low = is_encoded (decode_of (high ∷ low ∷ [])) ∙ pair_word high low [] ∙ onto_nothing (pair_of high low)

-- ---- the words of a text

-- the parts that are words
abbrev some_of : List Word → List Word
some_of parts = filter (λ word. not (nat_eq (length word) 0)) parts

some_first : (b : ℕ) (word : Word) (parts : List Word) → some_of ((b ∷ word) ∷ parts) ≡ (b ∷ word) ∷ some_of parts
some_first b word parts = rw (some_byte (b ∷ word) (omega arith)) refl

with_word : (r : Result (List ℕ) FromHexError) (all : Bool) (more : List ℕ) → cond (is_ok r && all) (Some (result_unwrap_or r [] ++ more)) None ≡ joined (encoded r) (cond all (Some more) None)
with_word (Ok bytes) true more = refl
with_word (Ok bytes) false more = refl
with_word (Err cause) all more = refl

nothing_before : (more : Option (List ℕ)) → more ≡ before [] more
nothing_before None = refl
nothing_before (Some more) = refl

first_hex : (part : Word) (parts : List Word) → hex_of (some_of (part ∷ parts)) ≡ joined (encoded (decode_of part)) (hex_of (some_of parts))
unfolding hex_of decode_pairs
first_hex [] parts = nothing_before (hex_of (some_of parts))
first_hex (b ∷ word) parts = ap hex_of (some_first b word parts) ∙ with_word (decode_of (b ∷ word)) (list_all (λ w. is_ok (decode_of w)) (some_of parts)) (flat_map (λ w. result_unwrap_or (decode_of w) []) (some_of parts))

first_count : (part : Word) (parts : List Word) → byte_count (some_of (part ∷ parts)) ≡ length part / 2 + byte_count (some_of parts)
first_count [] parts = omega arith
first_count (b ∷ word) parts = ap byte_count (some_first b word parts) ∙ sum_by-cons (λ (w : List ℕ). length w / 2) (b ∷ word) (some_of parts)

-- a blank parts no word
behind_blank : (b : ℕ) (text : List ℕ) → is_blank b ≡ true → words_of (b ∷ text) ≡ words_of text
behind_blank b text blank = rw blank refl

two_split : (high low : ℕ) (text word : Word) (parts : List Word) → is_blank high ≡ false → is_blank low ≡ false → slice_split is_blank text ≡ word ∷ parts
    → slice_split is_blank (high ∷ low ∷ text) ≡ (high ∷ low ∷ word) ∷ parts
two_split high low text word parts first second rest = rw (first, second) (ap (λ l. onto_first high (onto_first low l)) rest)

-- a pair before a text, as it is read
pair_text : (high low : ℕ) (text : List ℕ) → is_blank high ≡ false → is_blank low ≡ false
    → (hex_of (words_of (high ∷ low ∷ text)) ≡ onto (pair_of high low) (hex_of (words_of text))) × (byte_count (words_of (high ∷ low ∷ text)) ≡ 1 + byte_count (words_of text))
pair_text high low text first second =
    let rest = first_part text in
    let parts = rest.0 in
    let word : Word = _ in
    let here : words_of text ≡ some_of (word ∷ parts) = ap some_of rest.1 in
    let whole : words_of (high ∷ low ∷ text) ≡ some_of ((high ∷ low ∷ word) ∷ parts) = ap some_of (two_split high low text word parts first second rest.1) in (
      ap hex_of whole ∙ first_hex (high ∷ low ∷ word) parts ∙ ap (λ w. joined w (hex_of (some_of parts))) (pair_word high low word) ∙ joined_onto (pair_of high low) (encoded (decode_of word)) (hex_of (some_of parts))
          ∙ ap (onto (pair_of high low)) (sym (first_hex word parts) ∙ sym (ap hex_of here)),
      omega (arith, ap byte_count whole, ap byte_count here, first_count (high ∷ low ∷ word) parts, first_count word parts),
    )

no_low : (high : Option ℕ) → byte_from high None ≡ None
no_low None = refl
no_low (Some high) = refl

-- a blank is no digit
low_blank : (high low : ℕ) → is_blank low ≡ true → pair_of high low ≡ None
low_blank high low blank = ⊎_elim
    (λ (space : nat_eq low 32 ≡ true). rw (eqb-true low 32 space) (no_low (hex_digit_value high)))
    (λ (other : nat_eq low 32 ≡ false). let tab : nat_eq low 9 ≡ true = rw other at blank in rw (eqb-true low 9 tab) (no_low (hex_digit_value high)))
    (cases_Bool (nat_eq low 32))

-- a digit before a blank, or at the end
one_digit : (high : ℕ) (text : List ℕ) (parts : List Word) → slice_split is_blank text ≡ [] ∷ parts → is_blank high ≡ false → hex_of (words_of (high ∷ text)) ≡ None
unfolding decode_pairs
one_digit high text parts ends byte =
    let split : slice_split is_blank (high ∷ text) ≡ (high ∷ []) ∷ parts = rw byte (ap (onto_first high) ends) in
    ap (λ l. hex_of (some_of l)) split ∙ first_hex (high ∷ []) parts

digit_alone : (high : ℕ) → is_blank high ≡ false → hex_of (words_of (high ∷ [])) ≡ None
digit_alone high byte = one_digit high [] [] refl byte

-- two bytes that are no pair of digits
no_pair : (high low : ℕ) (text : List ℕ) → is_blank high ≡ false → pair_of high low ≡ None → hex_of (words_of (high ∷ low ∷ text)) ≡ None
no_pair high low text byte none = ⊎_elim
    (λ (blank : is_blank low ≡ true). one_digit high (low ∷ text) (slice_split is_blank text) (rw blank refl) byte)
    (λ (digit : is_blank low ≡ false). (pair_text high low text byte digit).0 ∙ ap (λ p. onto p (hex_of (words_of text))) none ∙ no_byte (hex_of (words_of text)))
    (cases_Bool (is_blank low))

before_onto : (bytes : List ℕ) (byte : ℕ) (more : Option (List ℕ)) → before bytes (onto (Some byte) more) ≡ before (bytes ++ byte ∷ []) more
before_onto bytes byte None = refl
before_onto bytes byte (Some more) = ap (λ l. Some l) (sym (append_assoc bytes (byte ∷ []) more))

-- one pair more
one_pair : (bytes : List ℕ) (high low byte : ℕ) (text : List ℕ) → is_blank high ≡ false → pair_of high low ≡ Some byte
    → (before bytes (hex_of (words_of (high ∷ low ∷ text))) ≡ before (bytes ++ byte ∷ []) (hex_of (words_of text))) × (byte_count (words_of (high ∷ low ∷ text)) ≡ 1 + byte_count (words_of text))
one_pair bytes high low byte text first some = ⊎_elim
    (λ (blank : is_blank low ≡ true). let none : pair_of high low ≡ None = low_blank high low blank in let both : None ≡ Some byte = sym none ∙ some in cc)
    (λ (second : is_blank low ≡ false).
    let pair = pair_text high low text first second in
    (ap (before bytes) (pair.0 ∙ ap (λ p. onto p (hex_of (words_of text))) some) ∙ before_onto bytes byte (hex_of (words_of text)), pair.1))
    (cases_Bool (is_blank low))

-- ---- the steps of a reading

-- a text of a byte or more
pub one_first : (text : List ℕ) → 1 ≤ length text → text ≡ get_or text 0 0 ∷ take (length text - 1) (drop 1 text)
one_first [] some = absurd (omega arith)
one_first (b ∷ text) some = ap (λ l. b ∷ l) (sym (take_all (length (b ∷ text) - 1) text (omega arith)))

-- one digit is left of a word
pub ends_odd : (all : Option (List ℕ)) (bytes rest behind : List ℕ) (high : ℕ) → all ≡ before bytes (hex_of (words_of rest)) → rest ≡ high ∷ behind → length behind < 1 → is_blank high ≡ false → all ≡ None
ends_odd all bytes rest [] high is parts few byte = is ∙ ap (λ t. before bytes (hex_of (words_of t))) parts ∙ ap (before bytes) (digit_alone high byte)
ends_odd all bytes rest (b ∷ behind) high is parts few byte = absurd (omega arith)

-- two bytes are no pair
pub ends_bad : (all : Option (List ℕ)) (bytes rest behind more : List ℕ) (high low : ℕ) → all ≡ before bytes (hex_of (words_of rest)) → rest ≡ high ∷ behind → behind ≡ low ∷ more → is_blank high ≡ false
    → pair_of high low ≡ None → all ≡ None
ends_bad all bytes rest behind more high low is parts second byte none =
    is ∙ ap (λ t. before bytes (hex_of (words_of t))) (parts ∙ ap (λ t. high ∷ t) second) ∙ ap (before bytes) (no_pair high low more byte none)

-- a pair is read
pub goes_on : (all : Option (List ℕ)) (count : ℕ) (bytes next rest behind more : List ℕ) (high low byte : ℕ) → all ≡ before bytes (hex_of (words_of rest)) → count ≡ length bytes + byte_count (words_of rest)
    → 2 * length bytes + length rest ≤ 1024
    → rest ≡ high ∷ behind → behind ≡ low ∷ more → is_blank high ≡ false → pair_of high low ≡ Some byte → next ≡ bytes ++ byte ∷ []
    → (all ≡ before next (hex_of (words_of more))) × (count ≡ length next + byte_count (words_of more)) × (2 * length next + length more ≤ 1024)
goes_on all count bytes next rest behind more high low byte is counts room parts second digit some grows =
    let whole = parts ∙ ap (λ t. high ∷ t) second in
    let pair = one_pair bytes high low byte more digit some in (
      is ∙ ap (λ t. before bytes (hex_of (words_of t))) whole ∙ pair.0 ∙ ap (λ l. before l (hex_of (words_of more))) (sym grows),
      omega (arith, counts, ap (λ t. byte_count (words_of t)) whole, pair.1, ap length grows, length-append bytes (byte ∷ [])),
      omega (arith, room, ap length whole, ap length grows, length-append bytes (byte ∷ [])),
    )

-- all is read
pub ends_whole : (all : Option (List ℕ)) (bytes rest : List ℕ) → all ≡ before bytes (hex_of (words_of rest)) → length rest < 1 → all ≡ Some bytes
unfolding hex_of
ends_whole all bytes [] is none = is ∙ ap (λ l. Some l) (append-nil bytes)
ends_whole all bytes (b ∷ rest) is none = absurd (omega arith)
