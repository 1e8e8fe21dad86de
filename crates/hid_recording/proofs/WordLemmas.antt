-- Times are ASCII, and the bytes of words are those of each, joined.
use Rattle.std.proofs.Common.{◌≡◌, ℕ, ◌+◌, ◌<◌, ◌≤◌, ◌^◌, min, subst, not, Bool, true, false, cond, nat_lt, List, [], ◌∷◌, ◌++◌, ◌-◌, length, get_or, take, drop, take_all, append_assoc, append-nil, length-append, refl, sym, ap, ◌∙◌, arith, Option, None, Some, Result, Ok, Err, Bor, inl, inr, nat_eq, ⊎_elim}
use Rattle.std.specs.Prelude.{MatchResult, filter, position, ◌&&◌, is_ok, is_some, ok_or}
use Rattle.std.specs.Option.{option_map, option_and_then, unwrap_or}
use Rattle.std.specs.List.{All, list_all, flat_map, position_or_len}
use Rattle.hex.specs.Hex.{decode_of, hex_digit_value}
use Rattle.hex.specs.declared.error.FromHexError.{FromHexError}
use Rattle.hid_text.specs.Words.{is_blank, is_no_blank, words_of, after_word, hex_of, byte_from, pair_of}
use Rattle.hid_text.specs.Numbers.{number_of}
use Rattle.hid_text.proofs.WordLemmas.{pair_alone}
use Rattle.std.specs.Char.{digit_value}
use Rattle.std.specs.Str.Parse.{digits_value}
use Rattle.std.proofs.lemmas.Str.{digit_value_digit}
use Rattle.std.proofs.lemmas.Int.Digits.{digits_value_push}
use Rattle.hid_text.proofs.PartLemmas.{some_byte}
use Rattle.std.proofs.lemmas.List.{take-append-drop, length-take-le, length-drop}
use Rattle.std.proofs.lemmas.List.Sums.{prefix_len-le-length}
use Rattle.std.proofs.lemmas.List.Splits.{slice_split_at, slice_split_none}
use Rattle.std.proofs.Math.Numerals.{one-add}
use Rattle.hid_recording.specs.declared.fault.Cause.{Cause}
use Rattle.hid_recording.specs.declared.fault.Cause.TheVariants.{Refused, LineTooLong, Read, Write, Memory, TooManyReads, Unended}
use Rattle.std.specs.Str.{IsUtf8, IsAscii}
use Rattle.std.proofs.lemmas.Str.{IsUtf8-from_ascii}
use Rattle.std.proofs.lemmas.Str.Ascii.{IsAscii-from_reads}
use Rattle.std.specs.Result.{result_ok, result_unwrap_or}
use Rattle.std.specs.Bool.{OnTrue}
use Rattle.std.proofs.lemmas.List.Folds.{list_all_at}
use Rattle.std.proofs.lemmas.Bool.{cases_Bool, cases_lt, le-leb, lt-ltb, le-ltb, cond-false, or_cases, and_parts, leb-true, eqb-true, ne_eqb, cond-true}
use Rattle.hid_recording.specs.declared.fault.Refusal.TheVariants.{BadHex}
use Rattle.hid_recording.specs.Words.{IsNone, IsNoHex, BeginsWithPair, ends_word, bytes_before, bad_byte_from, bad_byte, bytes_of, spelled_bytes, BeginsWithCount, BeginsWithTime, decimal_of, is_time_byte, is_no_time_byte, is_time, time_of}

small : (b : ℕ) → is_time_byte b ≡ true → b < 128
small b e = elim (or_cases _ _ e) [
  | inl h ↦ omega (arith, leb-true b 57 (and_parts _ _ h).1)
  | inr h ↦ omega (arith, eqb-true b 46 h)
]

each_passes : (word : List ℕ) (k : ℕ) (b : Bool) → is_time word ≡ true → k < length word → is_time_byte (get_or word k 0) ≡ b → is_time_byte (get_or word k 0) ≡ true
each_passes word k true all below e = e
each_passes word k false all below e = let none = list_all_at is_time_byte word k 0 below e in absurd (cc)

time_is_ascii : (word : List ℕ) → is_time word ≡ true → IsAscii word
time_is_ascii word all = IsAscii-from_reads word (length word) (omega arith) (λ k below. small (get_or word k 0) (each_passes word k (is_time_byte (get_or word k 0)) all below refl))

pub time_is_text : (word : List ℕ) → is_time word ≡ true → IsUtf8 word
time_is_text word all = IsUtf8-from_ascii word (time_is_ascii word all)

-- bytes before those that more words encode
abbrev pub before : List ℕ → Option (List ℕ) → Option (List ℕ)
before bytes more = option_map (λ m. bytes ++ m) more

with_word : (r : Result (List ℕ) FromHexError) (all : Bool) (more : List ℕ) → cond (is_ok r && all) (Some (result_unwrap_or r [] ++ more)) None
    ≡ option_and_then (λ bytes. before bytes (cond all (Some more) None)) (result_ok r)
with_word (Ok bytes) true more = refl
with_word (Ok bytes) false more = refl
with_word (Err cause) all more = refl

nothing_before : (more : Option (List ℕ)) → more ≡ before [] more
nothing_before None = refl
nothing_before (Some m) = refl

-- what a word and others encode
hex_first : (word : List ℕ) (words : List (List ℕ)) → hex_of (word ∷ words) ≡ option_and_then (λ bytes. before bytes (hex_of words)) (result_ok (decode_of word))
unfolding hex_of
hex_first word words = with_word (decode_of word) (list_all (λ w. is_ok (decode_of w)) words) (flat_map (λ w. result_unwrap_or (decode_of w) []) words)

before_before : (a b : List ℕ) (more : Option (List ℕ)) → before a (before b more) ≡ before (a ++ b) more
before_before a b None = refl
before_before a b (Some m) = ap (λ l. Some l) (sym (append_assoc a b m))

-- the place of what isn't hex, behind a word that is
behind_whole : (r : Result (List ℕ) FromHexError) (word more : List ℕ) (behind : ℕ) → result_ok r ≡ Some more → bad_byte_from r word behind ≡ length more + behind
behind_whole (Ok bytes) word more behind e = let same : bytes ≡ more = cc in rw same refl
behind_whole (Err cause) word more behind e = absurd (cc)

in_broken : (r : Result (List ℕ) FromHexError) (word : List ℕ) (behind : ℕ) → result_ok r ≡ None → bad_byte_from r word behind ≡ bytes_before word
in_broken (Ok bytes) word behind e = absurd (cc)
in_broken (Err cause) word behind e = refl

-- what words say: their bytes are these and those of the words that are left, and so is the place of what isn't hex
abbrev pub IsReadTo : List (List ℕ) → List ℕ → List (List ℕ) → Type 0
IsReadTo words bytes left = (hex_of words ≡ before bytes (hex_of left)) × (bad_byte words ≡ length bytes + bad_byte left)

-- nothing is read yet
pub none_read : (words : List (List ℕ)) → IsReadTo words [] words
none_read words = (nothing_before (hex_of words), omega arith)

-- one word more is read
pub hex_more : (words left others : List (List ℕ)) (word bytes more next : List ℕ) → IsReadTo words bytes left → left ≡ word ∷ others
    → result_ok (decode_of word) ≡ Some more → next ≡ bytes ++ more → IsReadTo words next others
unfolding bad_byte
hex_more words left others word bytes more next read first one grows = (
  read.0 ∙ ap (λ l. before bytes (hex_of l)) first
      ∙ ap (before bytes) (hex_first word others ∙ ap (option_and_then (λ b. before b (hex_of others))) one)
      ∙ before_before bytes more (hex_of others) ∙ ap (λ l. before l (hex_of others)) (sym grows),
  omega (
    arith,
    read.1,
    ap bad_byte first,
    behind_whole (decode_of word) word more (bad_byte others) one,
    ap length grows,
    length-append bytes more,
  ),
)

-- all words are read
pub hex_whole : (words left : List (List ℕ)) (bytes : List ℕ) → IsReadTo words bytes left → left ≡ [] → bytes_of words ≡ Ok bytes
unfolding hex_of
hex_whole words left bytes read none =
    let all : hex_of words ≡ Some bytes = read.0 ∙ ap (λ l. before bytes (hex_of l)) none ∙ ap (λ l. Some l) (append-nil bytes) in
    ap (λ o. ok_or o (BadHex (bad_byte words))) all

-- one word isn't hex
hex_none : (words left others : List (List ℕ)) (word bytes : List ℕ) → IsReadTo words bytes left → left ≡ word ∷ others
    → result_ok (decode_of word) ≡ None → bytes_of words ≡ Err (BadHex (length bytes + bytes_before word))
unfolding bad_byte
hex_none words left others word bytes read first none =
    let all : hex_of words ≡ None =
    read.0 ∙ ap (λ l. before bytes (hex_of l)) first
    ∙ ap (before bytes) (hex_first word others ∙ ap (option_and_then (λ b. before b (hex_of others))) none) in
    let place : bad_byte words ≡ length bytes + bytes_before word =
    read.1 ∙ ap (λ l. length bytes + bad_byte l) first ∙ ap (λ n. length bytes + n) (in_broken (decode_of word) word (bad_byte others) none) in
    ap (λ o. ok_or o (BadHex (bad_byte words))) all ∙ ap (λ n. Err (BadHex n)) place

-- a word of two bytes
pub pair_read : (word : List ℕ) (byte : Option ℕ) → 2 ≤ length word → length word < 3 → byte ≡ pair_of (get_or word 0 0) (get_or word 1 0) → result_ok (decode_of word) ≡ option_map (λ b. b ∷ []) byte
pair_read [] byte some few is = absurd (omega arith)
pair_read (high ∷ []) byte some few is = absurd (omega arith)
pair_read (high ∷ low ∷ []) byte some few is = pair_alone high low ∙ ap (option_map (λ b. b ∷ [])) (sym is)
pair_read (high ∷ low ∷ more ∷ word) byte some few is = absurd (omega arith)

-- two bytes that are no pair of digits
pub bad_pair : (word : List ℕ) (byte : Option ℕ) → 2 ≤ length word → byte ≡ pair_of (get_or word 0 0) (get_or word 1 0) → is_some byte ≡ false → bytes_before word ≡ 0
unfolding bytes_before
bad_pair [] byte some is none = absurd (omega arith)
bad_pair (high ∷ []) byte some is none = absurd (omega arith)
bad_pair (high ∷ low ∷ rest) byte some is none = rw (← is) (rw none refl)

-- a pair of digits
pub good_pair : (word : List ℕ) (byte : Option ℕ) → 2 ≤ length word → byte ≡ pair_of (get_or word 0 0) (get_or word 1 0) → is_some byte ≡ true
    → bytes_before word ≡ bytes_before (take (length word - 2) (drop 2 word)) + 1
unfolding bytes_before
good_pair [] byte some is found = absurd (omega arith)
good_pair (high ∷ []) byte some is found = absurd (omega arith)
good_pair (high ∷ low ∷ rest) byte some is found =
    let left : rest ≡ take (length (high ∷ low ∷ rest) - 2) rest = sym (take_all (length (high ∷ low ∷ rest) - 2) rest (omega arith)) in
    rw (← is) (rw found (ap (λ l. bytes_before l + 1) left))

-- no pair is left
pub no_pair : (word : List ℕ) → length word < 2 → bytes_before word ≡ 0
unfolding bytes_before
no_pair [] few = refl
no_pair (byte ∷ []) few = refl
no_pair (high ∷ low ∷ rest) few = absurd (omega arith)

-- a blank is no digit
no_low : (high : Option ℕ) → byte_from high None ≡ None
no_low None = refl
no_low (Some high) = refl

blank_high : (high low : ℕ) → is_blank high ≡ true → pair_of high low ≡ None
blank_high high low blank = ⊎_elim
    (λ (space : nat_eq high 32 ≡ true). rw (eqb-true high 32 space) refl)
    (λ (other : nat_eq high 32 ≡ false). let tab : nat_eq high 9 ≡ true = rw other at blank in rw (eqb-true high 9 tab) refl)
    (cases_Bool (nat_eq high 32))

blank_low : (high low : ℕ) → is_blank low ≡ true → pair_of high low ≡ None
blank_low high low blank = ⊎_elim
    (λ (space : nat_eq low 32 ≡ true). rw (eqb-true low 32 space) (no_low (hex_digit_value high)))
    (λ (other : nat_eq low 32 ≡ false). let tab : nat_eq low 9 ≡ true = rw other at blank in rw (eqb-true low 9 tab) (no_low (hex_digit_value high)))
    (cases_Bool (nat_eq low 32))

-- what isn't so where there is no byte, isn't so where there is one
not_so : (so : Bool) (found : Option ℕ) (byte : ℕ) → (so ≡ true → found ≡ None) → found ≡ Some byte → so ≡ false
not_so true found byte none some = let nothing : found ≡ None = none refl in absurd (cc)
not_so false found byte none some = refl

pair_between : (high low : ℕ) (rest : List ℕ) → is_blank high ≡ false → is_blank low ≡ false → ends_word rest ≡ true
    → words_of (32 ∷ high ∷ low ∷ rest) ≡ (high ∷ low ∷ []) ∷ words_of rest
pair_between high low [] first second ended = rw (first, second) refl
pair_between high low (next ∷ rest) first second ended = rw (first, second, ended) refl

-- a text begins with a space and two digits
pub pair_first : (text : List ℕ) (byte : ℕ) → 3 ≤ length text → get_or text 0 0 ≡ 32 → ends_word (take (length text - 3) (drop 3 text)) ≡ true
    → pair_of (get_or text 1 0) (get_or text 2 0) ≡ Some byte → BeginsWithPair (words_of text) byte (words_of (take (length text - 3) (drop 3 text)))
pair_first [] byte some space ended pair = absurd (omega arith)
pair_first (a ∷ []) byte some space ended pair = absurd (omega arith)
pair_first (a ∷ high ∷ []) byte some space ended pair = absurd (omega arith)
pair_first (a ∷ high ∷ low ∷ rest) byte some space ended pair =
    let left : take (length (a ∷ high ∷ low ∷ rest) - 3) rest ≡ rest = take_all (length (a ∷ high ∷ low ∷ rest) - 3) rest (omega arith) in
    let first = not_so (is_blank high) (pair_of high low) byte (blank_high high low) pair in
    let second = not_so (is_blank low) (pair_of high low) byte (blank_low high low) pair in (
      high ∷ low ∷ [],
      ap (λ b. words_of (b ∷ high ∷ low ∷ rest)) space ∙ pair_between high low rest first second (rw left at ended) ∙ ap (λ l. (high ∷ low ∷ []) ∷ words_of l) (sym left),
      pair_alone high low ∙ ap (option_map (λ b. b ∷ [])) pair,
    )

-- nothing is left
none_left : (rest : List ℕ) → length rest ≡ 0 → rest ≡ []
none_left [] none = refl
none_left (b ∷ rest) none = absurd (omega (arith, none))

-- where nothing is left, all is read
pub all_read : (text rest bytes : List ℕ) (none : Bool) → none ≡ nat_eq (length rest) 0
    → IsReadTo (words_of text) bytes (words_of rest) → OnTrue none (spelled_bytes text ≡ Ok bytes)
all_read text rest bytes true is read =
    hex_whole (words_of text) (words_of rest) bytes read (ap words_of (none_left rest (eqb-true (length rest) 0 (sym is))))
all_read text rest bytes false is read = tt

-- why one word has no bytes is why all have none
pub no_bytes : (cause : Cause) (words left others : List (List ℕ)) (word bytes : List ℕ) → IsReadTo words bytes left → left ≡ word ∷ others
    → IsNoHex cause (length bytes) word → IsNone cause (bytes_of words)
no_bytes Memory words left others word bytes read first h = h
no_bytes (Refused refusal) words left others word bytes read first h =
    let same : BadHex (length bytes + bytes_before word) ≡ refusal = let e = h.0 in cc in
    hex_none words left others word bytes read first h.1 ∙ ap (λ r. Err r) same
no_bytes LineTooLong words left others word bytes read first h = let e = h.0 in absurd (cc)
no_bytes Read words left others word bytes read first h = let e = h.0 in absurd (cc)
no_bytes Write words left others word bytes read first h = let e = h.0 in absurd (cc)
no_bytes TooManyReads words left others word bytes read first h = let e = h.0 in absurd (cc)
no_bytes Unended words left others word bytes read first h = let e = h.0 in absurd (cc)

-- a time, once its bytes are read as text
pub time_read : {E : Type 0} (word : List ℕ) (r : Result (Bor (List ℕ)) E) (o : Option (Bor (List ℕ))) (P : E → Type 0) → is_time word ≡ true
    → length word ≤ 32 → MatchResult r (λ s. (s.now ≡ word) × IsUtf8 word) (λ e. (IsUtf8 word → ⊥) × P e) → o ≡ result_ok r → option_map (λ t. t.now) o ≡ time_of word
time_read word (Ok s) o P timed short cases is =
    rw is (ap Some cases.0 ∙ sym (rw (timed, le-leb (length word) 32 short) refl))
time_read word (Err e) o P timed short cases is = absurd (cases.0 (time_is_text word timed))

-- a digit or a point is no blank
from_point : (b : ℕ) → is_time_byte b ≡ true → 46 ≤ b
from_point b e = elim (or_cases _ _ e) [
  | inl h ↦ omega (arith, leb-true 48 b (and_parts _ _ h).0)
  | inr h ↦ omega (arith, eqb-true b 46 h)
]

no_blank : (b : ℕ) → is_time_byte b ≡ true → is_blank b ≡ false
no_blank b e =
    let above : 46 ≤ b = from_point b e in
    rw (ne_eqb b 32 (λ same. omega (arith, above, same)), ne_eqb b 9 (λ same. omega (arith, above, same))) refl

passes_at : (word : List ℕ) (k other : ℕ) (b : Bool) → is_time word ≡ true → k < length word → is_time_byte (get_or word k other) ≡ b
    → is_time_byte (get_or word k other) ≡ true
passes_at word k other true all below e = e
passes_at word k other false all below e = let none = list_all_at is_time_byte word k other below e in absurd (cc)

no_blanks : (word : List ℕ) → is_time word ≡ true → All (λ b. is_blank b ≡ false) word
no_blanks word all = λ k other below. no_blank (get_or word k other) (passes_at word k other (is_time_byte (get_or word k other)) all below refl)

-- a time between a space and a blank or the end is the first word
first_time : (time rest : List ℕ) → is_time time ≡ true → 0 < length time → ends_word rest ≡ true → words_of (32 ∷ (time ++ rest)) ≡ time ∷ words_of rest
first_time time [] timed some ended =
    ap (λ l. words_of (32 ∷ l)) (append-nil time) ∙ ap (λ parts. filter (λ word. not (nat_eq (length word) 0)) parts) (slice_split_none is_blank time (no_blanks time timed))
    ∙ cond-true (not (nat_eq (length time) 0)) _ _ (some_byte time some)
first_time time (next ∷ rest) timed some ended =
    ap (λ parts. filter (λ word. not (nat_eq (length word) 0)) parts) (slice_split_at is_blank time next rest (no_blanks time timed) ended)
    ∙ cond-true (not (nat_eq (length time) 0)) _ _ (some_byte time some) ∙ ap (λ words. time ∷ words) (sym (rw ended refl))

-- digits and points up to the first byte that is neither are a time
time_front : (text : List ℕ) → is_time (take (position_or_len is_no_time_byte text) text) ≡ true
time_front [] = refl
time_front (b ∷ text) = ⊎_elim
    (λ (timed : is_time_byte b ≡ true).
    rw timed (subst (λ k. is_time (take k (b ∷ text)) ≡ true) (sym (one-add (position_or_len is_no_time_byte text))) (rw timed (time_front text))))
    (λ (other : is_time_byte b ≡ false). rw other refl) (cases_Bool (is_time_byte b))

-- where these end
time_end : (text : List ℕ) (end : ℕ) → end ≡ unwrap_or (position is_no_time_byte text) (length text) → end ≡ position_or_len is_no_time_byte text
time_end text end is =
    let n = position_or_len is_no_time_byte text in
    ⊎_elim (λ (below : n < length text). is ∙ ap (λ o. unwrap_or o (length text)) (cond-true (nat_lt n (length text)) (Some n) None (lt-ltb n (length text) below)))
    (λ (all : length text ≤ n). is ∙ ap (λ o. unwrap_or o (length text)) (cond-false (nat_lt n (length text)) (Some n) None (le-ltb n (length text) all)) ∙ (omega (arith, all, prefix_len-le-length (λ b. not (is_no_time_byte b)) text)))
    (cases_lt n (length text))

-- what stands after a time
after_digits : (time rest : List ℕ) → is_time time ≡ true → ends_word rest ≡ true → drop (position_or_len is_blank (time ++ rest)) (time ++ rest) ≡ rest
after_digits [] [] timed ended = refl
after_digits [] (next ∷ rest) timed ended = rw ended refl
after_digits (b ∷ time) rest timed ended =
    let parts = and_parts (is_time_byte b) (is_time time) timed in
    rw (no_blank b parts.0) (
    subst (λ k. drop k (b ∷ (time ++ rest)) ≡ rest) (sym (one-add (position_or_len is_blank (time ++ rest)))) (after_digits time rest parts.1 ended)
    )

after_time : (time rest : List ℕ) → is_time time ≡ true → 0 < length time → ends_word rest ≡ true → after_word (32 ∷ (time ++ rest)) ≡ rest
after_time [] rest timed some ended = absurd (omega arith)
after_time (b ∷ time) rest timed some ended =
    let parts = and_parts (is_time_byte b) (is_time time) timed in
    let first : drop (position_or_len is_no_blank (32 ∷ b ∷ (time ++ rest))) (32 ∷ b ∷ (time ++ rest)) ≡ b ∷ (time ++ rest) =
    rw (no_blank b parts.0) refl in
    ap (λ word. drop (position_or_len is_blank word) word) first ∙ after_digits (b ∷ time) rest timed ended

-- a text begins with a space and a time
pub time_first : (text rest time left : List ℕ) (end stop : ℕ) → 1 ≤ length text → get_or text 0 0 ≡ 32 → rest ≡ take (length text - 1) (drop 1 text)
    → end ≡ unwrap_or (position is_no_time_byte rest) (length rest) → 0 < end → end ≤ 32 → time ≡ take stop rest → stop ≡ end → left ≡ take (length rest - end) (drop end rest) → ends_word left ≡ true
    → BeginsWithTime text time left
time_first [] rest time left end stop long space is found some few stopped same lefts ended = absurd (omega arith)
time_first (a ∷ text) rest time left end stop long space is found some few stopped same lefts ended =
    let at = time_end rest end found in
    let times : time ≡ take end rest = stopped ∙ ap (λ n. take n rest) same in
    let all : rest ≡ text = is ∙ take_all (length (a ∷ text) - 1) text (omega arith) in
    let within : end ≤ length rest = omega (arith, at, prefix_len-le-length (λ b. not (is_no_time_byte b)) rest) in
    let more : left ≡ drop end rest = lefts ∙ take_all (length rest - end) (drop end rest) (omega (arith, length-drop end rest)) in
    let timed : is_time time ≡ true = rw (times, at) (time_front rest) in
    let long_time : 0 < length time = omega (arith, ap length times, length-take-le end rest within, some) in
    let joined : text ≡ time ++ left = sym all ∙ sym (rw (times, more) (take-append-drop end rest)) in
    let whole : a ∷ text ≡ 32 ∷ (time ++ left) = ap (λ b. b ∷ text) space ∙ ap (λ l. 32 ∷ l) joined in (
      ap words_of whole ∙ first_time time left timed long_time ended,
      ap after_word whole ∙ after_time time left timed long_time ended,
      rw (timed, le-leb (length time) 32 (omega (arith, ap length times, length-take-le end rest within, few))) refl,
    )

-- a digit is a time too, and a number
digit_timed : (b : ℕ) → 48 ≤ b → b ≤ 57 → is_time (b ∷ []) ≡ true
digit_timed b low high = rw (le-leb 48 b low, le-leb b 57 high) refl

digit_decimal : (b : ℕ) → 48 ≤ b → b ≤ 57 → decimal_of (b ∷ []) ≡ Some (b - 48)
unfolding number_of
digit_decimal b low high =
    let value : digit_value b ≡ b - 48 = omega (arith, digit_value_digit b (low, high)) in
    let small : nat_lt (digit_value b) 10 ≡ true = lt-ltb (digit_value b) 10 (omega (arith, value, low, high)) in
    let none : digits_value 10 [] ≡ 0 = refl in
    let digits : digits_value 10 (b ∷ []) ≡ b - 48 = omega (arith, digits_value_push 10 [] b, none, value) in
    let number : number_of 10 (b ∷ []) ≡ Some (b - 48) = rw small (ap (λ n. Some n) digits) in
    let whole : min (b - 48) (2 ^ 64 - 1) ≡ b - 48 = omega (arith, high) in
    ap (option_map (λ n. min n (2 ^ 64 - 1))) number ∙ ap (λ n. Some n) whole

pub digit_first : (text left : List ℕ) (digit : ℕ) → 2 ≤ length text → get_or text 0 0 ≡ 32 → 48 ≤ get_or text 1 0 → get_or text 1 0 ≤ 57
    → digit ≡ get_or text 1 0 - 48 → left ≡ take (length text - 2) (drop 2 text) → ends_word left ≡ true → BeginsWithCount text digit left
digit_first [] left digit long space low high is lefts ended = absurd (omega arith)
digit_first (a ∷ []) left digit long space low high is lefts ended = absurd (omega arith)
digit_first (a ∷ b ∷ text) left digit long space low high is lefts ended =
    let all : left ≡ text = lefts ∙ take_all (length (a ∷ b ∷ text) - 2) text (omega arith) in
    let timed = digit_timed b low high in
    let whole : a ∷ b ∷ text ≡ 32 ∷ b ∷ left = ap (λ c. c ∷ b ∷ text) space ∙ ap (λ l. 32 ∷ b ∷ l) (sym all) in (
      b ∷ [],
      ap words_of whole ∙ first_time (b ∷ []) left timed (omega arith) ended,
      ap after_word whole ∙ after_time (b ∷ []) left timed (omega arith) ended,
      digit_decimal b low high ∙ ap (λ n. Some n) (sym is),
    )

-- the text of bytes that were read as text
pub text_read : {E : Type 0} (word : List ℕ) (r : Result (Bor (List ℕ)) E) (o : Option (Bor (List ℕ))) (text : Bor (List ℕ)) (P : E → Type 0)
    → MatchResult r (λ s. (s.now ≡ word) × IsUtf8 word) (λ e. (IsUtf8 word → ⊥) × P e) → o ≡ result_ok r → o ≡ Some text → text.now ≡ word
text_read word (Ok s) o text P cases is some = let same : s ≡ text = cc in ap (λ b. b.now) (sym same) ∙ cases.0
text_read word (Err e) o text P cases is some = absurd (cc)
