-- The first word of a text, and the words after it.
use Rattle.std.proofs.Common.{◌≡◌, ℕ, ◌-◌, ◌<◌, ◌≤◌, Bool, true, false, List, [], ◌∷◌, length, take, drop, nat_lt, refl, sym, ap, subst, ◌∙◌, arith, not, nat_eq, cond, Option, None, Some, Ok, Err, IfSome, get_or, ⊎_elim}
use Rattle.std.proofs.lemmas.Bool.{cases_Bool, cases_lt, cond-true, cond-false, lt-ltb, le-ltb, ltb-true, ne_eqb, eq-eqb, true≢false}
use Rattle.std.proofs.lemmas.Option.{cond_some}
use Rattle.std.proofs.lemmas.List.{length-take-le, length-drop, get_or-drop, get_or-take, take_all}
use Rattle.std.proofs.lemmas.List.Sums.{passes_at_first, prefix_len-le-length}
use Rattle.std.proofs.Math.ListN.{drop_of_length-le}
use Rattle.std.proofs.Math.Numerals.{one-add}
use Rattle.std.proofs.Math.Nat.{add-zero}
use Rattle.std.specs.Prelude.{filter, position}
use Rattle.std.specs.Option.{unwrap_or, option_map}
use Rattle.std.specs.List.{slice_split, onto_first, position_or_len, slice_index}
use Rattle.hid_text.specs.declared.line.Keyword.{Keyword}
use Rattle.hid_text.specs.declared.line.Keyword.TheVariants as keywords
use Rattle.hid_text.specs.declared.line.Line.TheVariants.{Nothing, Layout, Values, Device, Step}
use Rattle.hid_text.specs.declared.short.ShortLine.{ShortLine}
use Rattle.hid_text.specs.declared.short.ShortLine.TheVariants.{Press, Release, Null, Set, Move, Frame, Poll, Control, Reset, Halt}
use Rattle.hid_text.specs.declared.fault.LineFault.TheVariants.{LineTooLong}
use Rattle.hid_text.specs.Arguments.{or_syntax, with_bytes, both, start_of, boot_of, control_meaning, set_meaning, move_meaning, frame_meaning, poll_meaning, one_device_meaning}
use Rattle.hid_text.specs.Numbers.{device_of}
use Rattle.hid_text.specs.Requests.{begin_meaning, begin_with, request_meaning}
use Rattle.hid_text.specs.Short.{short_meaning}
use Rattle.hid_text.specs.Line.{meaning_of, line_meaning, words_meaning, keyword_meaning, keyword_of, device_meaning, attachment, short_of}
use Rattle.hid_text.specs.Words.{Word, is_blank, is_no_blank, words_of, after_word, hex_of}

-- blanks before the first word are none of it
behind_blanks : (text : List ℕ) → words_of text ≡ words_of (drop (position_or_len is_no_blank text) text)
behind_blanks [] = refl
behind_blanks (b ∷ text) = ⊎_elim
    (λ (blank : is_blank b ≡ true). rw blank (behind_blanks text ∙ ap (λ k. words_of (drop k (b ∷ text))) (sym (one-add (position_or_len is_no_blank text)))))
    (λ (byte : is_blank b ≡ false). rw byte (rw byte refl)) (cases_Bool (is_blank b))

-- the part up to the first blank, and the words after that
pub first_part : (text : List ℕ) → (parts : List Word) × (slice_split is_blank text ≡ take (position_or_len is_blank text) text ∷ parts)
    × (filter (λ word. not (nat_eq (length word) 0)) parts ≡ words_of (drop (position_or_len is_blank text) text))
first_part [] = ([], refl, refl)
first_part (b ∷ text) = ⊎_elim
    (λ (blank : is_blank b ≡ true). rw blank (slice_split is_blank text, refl, rw blank refl))
    (λ (byte : is_blank b ≡ false).
    let rest = first_part text in
    let more = sym (one-add (position_or_len is_blank text)) in
    rw byte (
      rest.0,
      subst (λ k. onto_first b (slice_split is_blank text) ≡ take k (b ∷ text) ∷ rest.0) more (ap (onto_first b) rest.1),
      subst (λ k. filter (λ word. not (nat_eq (length word) 0)) rest.0 ≡ words_of (drop k (b ∷ text))) more rest.2,
    )) (cases_Bool (is_blank b))

none_passes : (b : Bool) (n : ℕ) → cond b (Some n) None ≡ None → b ≡ false
none_passes true n e = cc
none_passes false n e = refl

-- a text of blanks has no word
pub no_word : (text : List ℕ) → position is_no_blank text ≡ None → words_of text ≡ []
no_word text none =
    let n = position_or_len is_no_blank text in
    let all : length text ≤ n = ⊎_elim (λ (below : n < length text). absurd (true≢false (sym (lt-ltb n (length text) below) ∙ none_passes _ n none))) (λ h. h) (cases_lt n (length text)) in
    behind_blanks text ∙ ap (λ rest. words_of rest) (drop_of_length-le text all)

-- a first byte that is no blank begins a word
some_part : (text : List ℕ) → 0 < length text → is_no_blank (get_or text 0 0) ≡ true → 0 < position_or_len is_blank text
some_part [] some byte = absurd (omega arith)
some_part (b ∷ text) some byte = ⊎_elim
    (λ (blank : is_blank b ≡ true). cc)
    (λ (no : is_blank b ≡ false). rw no (omega arith)) (cases_Bool (is_blank b))

pub some_byte : (word : List ℕ) → 0 < length word → not (nat_eq (length word) 0) ≡ true
some_byte [] some = absurd (omega arith)
some_byte (b ∷ word) some = rw (ne_eqb (length (b ∷ word)) 0 (λ e. omega (arith, some, e))) refl

-- the first word, where a text has one, and the words after it
pub one_word : (text rest : List ℕ) (start : ℕ) → position is_no_blank text ≡ Some start → rest ≡ drop start text
    → (words_of text ≡ take (position_or_len is_blank rest) rest ∷ words_of (drop (position_or_len is_blank rest) rest)) × (0 < position_or_len is_blank rest)
one_word text rest start found is =
    let n = position_or_len is_no_blank text in
    let at = cond_some (nat_lt n (length text)) n start found in
    let below : n < length text = ltb-true n (length text) at.0 in
    let byte : is_no_blank (get_or (drop n text) 0 0) ≡ true = rw (get_or-drop n text 0 0, add-zero n) (passes_at_first is_no_blank text 0 below) in
    let same : rest ≡ drop n text = is ∙ ap (λ k. drop k text) (sym at.1) in
    let some : 0 < position_or_len is_blank rest = subst (λ r. 0 < position_or_len is_blank r) (sym same) (some_part (drop n text) (omega (arith, length-drop n text)) byte) in
    let part = first_part rest in
    let long : 0 < length (take (position_or_len is_blank rest) rest) = omega (arith, length-take-le (position_or_len is_blank rest) rest (prefix_len-le-length _ rest), some) in (
      behind_blanks text ∙ ap (λ r. words_of r) (sym same) ∙ ap (λ parts. filter (λ word. not (nat_eq (length word) 0)) parts) part.1
          ∙ cond-true (not (nat_eq (length (take (position_or_len is_blank rest) rest)) 0)) _ _ (some_byte _ long)
          ∙ ap (λ words. take (position_or_len is_blank rest) rest ∷ words) part.2,
      some,
    )

-- where the first part ends
pub part_end : (rest : List ℕ) (end : ℕ) → end ≡ unwrap_or (position is_blank rest) (length rest) → end ≡ position_or_len is_blank rest
part_end rest end is =
    let n = position_or_len is_blank rest in
    ⊎_elim (λ (below : n < length rest). is ∙ ap (λ o. unwrap_or o (length rest)) (cond-true (nat_lt n (length rest)) (Some n) None (lt-ltb n (length rest) below)))
    (λ (all : length rest ≤ n). is ∙ ap (λ o. unwrap_or o (length rest)) (cond-false (nat_lt n (length rest)) (Some n) None (le-ltb n (length rest) all)) ∙ (omega (arith, all, prefix_len-le-length (λ b. not (is_blank b)) rest)))
    (cases_lt n (length rest))

-- a word that is found by the place of its first byte and by the blank after it
pub found_word : (text part : List ℕ) (start end : ℕ) → position is_no_blank text ≡ Some start → part ≡ take (length text - start) (drop start text)
    → end ≡ unwrap_or (position is_blank part) (length part)
    → (words_of text ≡ take end part ∷ words_of (take (length part - end) (drop end part))) × (0 < length (take end part))
found_word text part start end found is ends =
    let rest : part ≡ drop start text = is ∙ take_all (length text - start) (drop start text) (omega (arith, length-drop start text)) in
    let more : take (length part - end) (drop end part) ≡ drop end part = take_all (length part - end) (drop end part) (omega (arith, length-drop end part)) in
    let at : end ≡ position_or_len is_blank part = part_end part end ends in
    let word = one_word text part start found rest in
    (rw (more, at) word.0, omega (arith, at, word.1, length-take-le end part (omega (arith, at, prefix_len-le-length (λ b. not (is_blank b)) part))))

-- what stands after a word that is found so
pub after_found : (text part : List ℕ) (start end : ℕ) → position is_no_blank text ≡ Some start → part ≡ take (length text - start) (drop start text)
    → end ≡ unwrap_or (position is_blank part) (length part) → take (length part - end) (drop end part) ≡ after_word text
after_found text part start end found is ends =
    let n = position_or_len is_no_blank text in
    let at = cond_some (nat_lt n (length text)) n start found in
    let same : part ≡ drop n text = is ∙ take_all (length text - start) (drop start text) (omega (arith, length-drop start text)) ∙ ap (λ k. drop k text) (sym at.1) in
    take_all (length part - end) (drop end part) (omega (arith, length-drop end part)) ∙ ap (λ k. drop k part) (part_end part end ends)
    ∙ ap (λ w. drop (position_or_len is_blank w) w) same

-- ---- lines that say nothing

short_line : (line : List ℕ) → length line ≤ 1024 → meaning_of line ≡ line_meaning (words_of line)
unfolding meaning_of
short_line line short =
    cond-false (nat_lt 1024 (length line)) (Err LineTooLong) (line_meaning (words_of line))
    (le-ltb 1024 (length line) short)

-- a line of blanks
pub empty_line : (line : List ℕ) → length line ≤ 1024 → position is_no_blank line ≡ None → meaning_of line ≡ Ok Nothing
unfolding line_meaning
empty_line line short none = short_line line short ∙ ap line_meaning (no_word line none)

-- a comment
pub comment_line : (line : List ℕ) (start : ℕ) → length line ≤ 1024 → position is_no_blank line ≡ Some start → get_or line start 0 ≡ 35 → meaning_of line ≡ Ok Nothing
unfolding line_meaning
comment_line line start short found mark =
    let rest = drop start line in
    let end = position_or_len is_blank rest in
    let word = one_word line rest start found refl in
    let first : slice_index (take end rest) 0 ≡ 35 = get_or-take end rest 0 0 word.1 ∙ get_or-drop start line 0 0 ∙ rw (add-zero start) mark in
    short_line line short ∙ ap line_meaning word.0
    ∙ cond-true (nat_eq (slice_index (take end rest) 0) 35) (Ok Nothing)
    (keyword_meaning (keyword_of (take end rest)) (words_of (drop end rest))) (eq-eqb _ 35 first)

-- ---- lines that begin with a keyword

-- a line says what stands after its keyword
pub keyword_first : (words : List Word) (first : Word) (rest : List Word) (keyword : Keyword) → words ≡ first ∷ rest
    → (slice_index first 0 ≡ 35 → ⊥) → keyword_of first ≡ Some keyword
    → line_meaning words ≡ words_meaning keyword rest
unfolding line_meaning
keyword_first words first rest keyword is other key =
    ap line_meaning is
    ∙ cond-false (nat_eq (slice_index first 0) 35) (Ok Nothing) _ (ne_eqb (slice_index first 0) 35 other)
    ∙ ap (λ k. keyword_meaning k rest) key

-- what stands after the keyword of a short line is a step
short_keyword : (keyword : Keyword) (words : List Word) (short : ShortLine) → short_meaning keyword words ≡ Some short
    → words_meaning keyword words ≡ Ok (Step short)
unfolding words_meaning short_meaning
short_keyword keywords.Layout words short is = absurd (cc)
short_keyword keywords.Values words short is = absurd (cc)
short_keyword keywords.Device words short is = absurd (cc)
short_keyword keywords.Begin words short is = absurd (cc)
short_keyword keyword words short is = ap (or_syntax Step) is

step_said : (o : Option ShortLine) → short_of (or_syntax Step o) ≡ o
step_said None = refl
step_said (Some short) = refl

-- words after a keyword say the short line that they are, if they are one
short_words : (keyword : Keyword) (words : List Word) → short_of (words_meaning keyword words) ≡ short_meaning keyword words
unfolding words_meaning short_meaning device_meaning begin_meaning
short_words keywords.Layout words = elim (hex_of words) as (λ o. short_of (with_bytes Layout o) ≡ None) [ None ↦ refl | Some bytes ↦ refl ]
short_words keywords.Values words = elim (hex_of words) as (λ o. short_of (with_bytes Values o) ≡ None) [ None ↦ refl | Some bytes ↦ refl ]
short_words keywords.Device [] = refl
short_words keywords.Device (start ∷ []) = refl
short_words keywords.Device (start ∷ kind ∷ hex) = elim (both (start_of start) (boot_of kind)) as (λ said. short_of (attachment said hex) ≡ None) [
  | None ↦ refl
  | Some said ↦ elim (hex_of hex) as (λ o. short_of (with_bytes (Device said.0 said.1) o) ≡ None) [ None ↦ refl | Some bytes ↦ refl ]
]
short_words keywords.Begin [] = refl
short_words keywords.Begin (dev ∷ request) = elim (device_of dev) as (λ d. short_of (begin_with d (request_meaning request)) ≡ None) [
  | None ↦ refl
  | Some d ↦ elim (request_meaning request) as (λ r. short_of (begin_with (Some d) r) ≡ None) [ Ok r ↦ refl | Err e ↦ refl ]
]
short_words keywords.Press words = step_said (option_map (λ said. Press said.0 said.1) (control_meaning words))
short_words keywords.Release words = step_said (option_map (λ said. Release said.0 said.1) (control_meaning words))
short_words keywords.Null words = step_said (option_map (λ said. Null said.0 said.1) (control_meaning words))
short_words keywords.Set words = step_said (option_map (λ said. Set said.0 said.1 said.2) (set_meaning words))
short_words keywords.Move words = step_said (option_map (λ said. Move said.0 said.1 said.2) (move_meaning words))
short_words keywords.Frame words = step_said (option_map Frame (frame_meaning words))
short_words keywords.Poll words = step_said (option_map (λ said. Poll said.0 said.1 said.2) (poll_meaning words))
short_words keywords.Control words = step_said (option_map (λ said. Control said.0 said.1 said.2) (poll_meaning words))
short_words keywords.Reset words = step_said (option_map Reset (one_device_meaning words))
short_words keywords.Halt words = step_said (option_map Halt (one_device_meaning words))

pub no_short_words : (words : List Word) → words ≡ [] → None ≡ short_of (line_meaning words)
unfolding line_meaning
no_short_words words none = rw none refl

pub no_short_comment : (words : List Word) (first : Word) (rest : List Word) → words ≡ first ∷ rest → slice_index first 0 ≡ 35 → None ≡ short_of (line_meaning words)
unfolding line_meaning
no_short_comment words first rest is mark =
    sym (ap (λ w. short_of (line_meaning w)) is ∙ ap short_of (cond-true (nat_eq (slice_index first 0) 35) (Ok Nothing) _ (eq-eqb _ 35 mark)))

pub no_short_keyword : (words : List Word) (first : Word) (rest : List Word) → words ≡ first ∷ rest → (slice_index first 0 ≡ 35 → ⊥) → keyword_of first ≡ None → None ≡ short_of (line_meaning words)
unfolding line_meaning
no_short_keyword words first rest is other none =
    sym (ap (λ w. short_of (line_meaning w)) is ∙ ap short_of (cond-false (nat_eq (slice_index first 0) 35) (Ok Nothing) _ (ne_eqb (slice_index first 0) 35 other) ∙ ap (λ k. keyword_meaning k rest) none))

-- a line with a keyword says the short line that its words are
pub short_exact : (words : List Word) (first : Word) (rest : List Word) (keyword : Keyword) (short : Option ShortLine) → words ≡ first ∷ rest → (slice_index first 0 ≡ 35 → ⊥) → keyword_of first ≡ Some keyword
    → short ≡ short_meaning keyword rest → short ≡ short_of (line_meaning words)
short_exact words first rest keyword short is other key said =
    said ∙ sym (short_words keyword rest) ∙ ap short_of (sym (keyword_first words first rest keyword is other key))

-- a line with the keyword of a short line and its words is a step
pub short_first : (words : List Word) (first : Word) (rest : List Word) (keyword : Keyword) (short : Option ShortLine) → words ≡ first ∷ rest → (slice_index first 0 ≡ 35 → ⊥) → keyword_of first ≡ Some keyword
    → short ≡ short_meaning keyword rest → IfSome short (λ line. line_meaning words ≡ Ok (Step line))
short_first words first rest keyword None is other key said = tt
short_first words first rest keyword (Some line) is other key said = keyword_first words first rest keyword is other key ∙ short_keyword keyword rest line (sym said)
