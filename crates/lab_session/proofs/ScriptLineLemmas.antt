-- What the bench reads in a line of at most 1,024 bytes, beside what hidrun reads there.
use Rattle.std.proofs.Common.{◌≡◌, ℕ, ◌<◌, ◌≤◌, Bool, true, false, List, [], ◌∷◌, length, refl, sym, ap, subst, ◌∙◌, nat_eq, nat_lt, cond, codes, Option, None, Some, Result, Ok, Err, arith, inl, inr, ◌⊎◌, ⊎_elim}
use Rattle.std.proofs.lemmas.Bool.{cases_Bool, cases_lt, cond-true, cond-false, lt-ltb, le-ltb, eqb-true}
use Rattle.std.proofs.KnownBytes.{Appends-nil}
use Rattle.std.specs.Prelude.{◌&&◌, is_ok, is_some, not, slice_index, IfSome}
use Rattle.std.specs.List.{list_all, flat_map}
use Rattle.std.specs.Result.{result_unwrap_or}
use Rattle.std.specs.Str.{bytes_eq}
use Rattle.hex.specs.Hex.{decode_of}
use Rattle.hid_requests.specs.declared.boot.Boot.{Boot}
use Rattle.hid_bus.specs.declared.start.Start.{Start}
use Rattle.hid_text.specs.declared.fault.LineFault.{LineFault}
use Rattle.hid_text.specs.declared.fault.LineFault.TheVariants as fault
use Rattle.hid_text.specs.declared.change_kind.ChangeKind.{ChangeKind}
use Rattle.hid_text.specs.declared.change_kind.ChangeKind.TheVariants.{Press, Release, Null, Set, Move}
use Rattle.hid_text.specs.declared.line.Line.{Line}
use Rattle.hid_text.specs.declared.line.Line.TheVariants as line
use Rattle.hid_text.specs.declared.short.ShortLine.{ShortLine}
use Rattle.hid_text.specs.Arguments.{or_syntax, with_bytes, both, start_of, boot_of}
use Rattle.hid_text.specs.Line.{attachment, device_meaning, keyword_meaning, keyword_of, line_meaning, meaning_of, short_of, words_meaning}
use Rattle.hid_text.specs.Numbers.{device_of, count_of, short_number_of, signed_of_word, amount_of}
use Rattle.hid_text.specs.Words.{Word, words_of, after_word, hex_of}
use Rattle.hid_script.specs.declared.fault.Cause.{Cause}
use Rattle.hid_script.specs.declared.fault.Cause.TheVariants as causes
use Rattle.hid_script.specs.Runs.{ending_of}
use Rattle.hid_script.specs.Session.{Session}
use Rattle.lab_lines.specs.declared.expected.Expected.{Expected}
use Rattle.lab_lines.specs.declared.expected.Expected.TheVariants as place
use Rattle.lab_lines.specs.ControlNames.{control_name_of}
use Rattle.lab_lines.specs.LabLines.{Said, Refusal, TooLong, Wrong, ◌>>=◌, word_meaning, first_of, at_place, said_at_end, device_at, click_meaning, typing_end, typing_of, typing, type_meaning, percent_of, lose_meaning, count_meaning, expect_meaning, file_name, include_meaning, lab_keyword_of, new_meaning, change_word_of, change_meaning, descriptor, attachment_meaning, script_meaning, old_meaning, by_keyword, other_meaning, short_or, lab_meaning}
use Rattle.lab_lines.specs.LabLines as lab
use Rattle.lab_lines.specs.Typing.{trim, text_in_quotes, untyped_rest}
use Rattle.lab_session.specs.declared.fault.LabCause.{LabCause}
use Rattle.lab_session.specs.declared.fault.LabCause.TheVariants.{Script}
use Rattle.lab_session.specs.Asking.{asked_by, cause_by}
use Rattle.lab_session.specs.Scripts.{script_said, is_file, is_line_of_hidrun, IsScripts, PrintsAs, PrintsSaid}
use Rattle.lab_session.proofs.WordLemmas.{each_found, same_word, first_or_none, at_word, at_no_hex}

-- ---- what agrees

-- what the bench reads is what hidrun reads, if it is one of hidrun's lines; else hidrun refuses the line
abbrev ReadsAs : List ℕ → Option (Result Line LineFault) → Type 0
ReadsAs bytes None = is_ok (meaning_of bytes) ≡ false
ReadsAs bytes (Some meaning) = meaning_of bytes ≡ meaning

-- hidrun refuses a line: as none of its lines, unless a file is expected
abbrev RefusesAs : List ℕ → Bool → Type 0
RefusesAs bytes true = is_ok (meaning_of bytes) ≡ false
RefusesAs bytes false = meaning_of bytes ≡ Err fault.Syntax

abbrev Agrees : List ℕ → Result Said Refusal → Type 0
Agrees bytes (Ok said) = ReadsAs bytes (script_said said)
Agrees bytes (Err TooLong) = ⊥
Agrees bytes (Err (Wrong word expected)) = RefusesAs bytes (is_file expected)

-- an answer that isn't that a line is too long
abbrev IsAnswer : {A : Type 0} → Result A Refusal → Type 0
IsAnswer (Ok x) = Unit {0}
IsAnswer (Err TooLong) = ⊥
IsAnswer (Err (Wrong word expected)) = Unit {0}

-- one of the lines that the bench has besides, or a word that is wrong
abbrev IsNew : Result Said Refusal → Type 0
IsNew (Ok said) = script_said said ≡ None
IsNew (Err TooLong) = ⊥
IsNew (Err (Wrong word expected)) = Unit {0}

refused_as : (bytes : List ℕ) (file : Bool) → meaning_of bytes ≡ Err fault.Syntax → RefusesAs bytes file
refused_as bytes true h = ap is_ok h
refused_as bytes false h = h

new_agrees : (bytes : List ℕ) (r : Result Said Refusal) → IsNew r → meaning_of bytes ≡ Err fault.Syntax → Agrees bytes r
new_agrees bytes (Ok said) new h = subst (ReadsAs bytes) (sym new) (ap is_ok h)
new_agrees bytes (Err TooLong) new h = absurd new
new_agrees bytes (Err (Wrong word expected)) new h = refused_as bytes (is_file expected) h

-- ---- the new lines

place_words : {A : Type 0} (expected : Expected) (read : Word → Option A) (words : List Word) → IsAnswer (first_of expected words >>= (λ word. word_meaning expected word (read word)))
place_words expected read [] = tt
place_words {A} expected read (word ∷ more) = elim (read word) as (λ (o : Option A). IsAnswer (word_meaning expected word o)) [ None ↦ tt | Some x ↦ tt ]

place_answers : {A : Type 0} (expected : Expected) (read : Word → Option A) (text : List ℕ) → IsAnswer (at_place expected read text)
place_answers expected read text = place_words expected read (words_of text)

answer_then : {A B : Type 0} (m : Result A Refusal) (more : A → Result B Refusal) → IsAnswer m → ((x : A) → IsAnswer (more x)) → IsAnswer (m >>= more)
answer_then (Ok x) more h k = k x
answer_then (Err TooLong) more h k = absurd h
answer_then (Err (Wrong word expected)) more h k = tt

new_then : {A : Type 0} (m : Result A Refusal) (more : A → Result Said Refusal) → IsAnswer m → ((x : A) → IsNew (more x)) → IsNew (m >>= more)
new_then (Ok x) more h k = k x
new_then (Err TooLong) more h k = absurd h
new_then (Err (Wrong word expected)) more h k = tt

end_new : (said : Said) (words : List Word) → script_said said ≡ None → IsNew (said_at_end said words)
end_new said [] h = h
end_new said (word ∷ more) h = tt

click_new : (text : List ℕ) → IsNew (click_meaning text)
unfolding click_meaning
click_new text =
    new_then (device_at text) _ (place_answers place.Device device_of text)
    (λ dev. new_then (at_place place.Control control_name_of (after_word text)) _ (place_answers place.Control control_name_of (after_word text))
    (λ control. end_new (lab.Click dev control) (words_of (after_word (after_word text))) refl))

typing_end_new : (said : Said) (words : List Word) → script_said said ≡ None → IsNew (typing_end said words)
typing_end_new said [] h = h
typing_end_new said (word ∷ more) h = tt

typing_new : (dev : ℕ) (text : List ℕ) (o : Option (List ℕ × List ℕ)) → IsNew (typing dev text o)
typing_new dev text None = tt
typing_new dev text (Some parts) =
    elim (untyped_rest parts.0) as (λ o. IsNew (typing_of dev parts.0 (words_of parts.1) o)) [
      | None ↦ typing_end_new (lab.Typing dev parts.0) (words_of parts.1) refl
      | Some rest ↦ tt
    ]

type_new : (text : List ℕ) → IsNew (type_meaning text)
unfolding type_meaning
type_new text =
    new_then (device_at text) _ (place_answers place.Device device_of text)
    (λ dev. typing_new dev (trim (after_word text)) (text_in_quotes (trim (after_word text))))

lose_new : (text : List ℕ) → IsNew (lose_meaning text)
unfolding lose_meaning
lose_new text =
    new_then (device_at text) _ (place_answers place.Device device_of text)
    (λ dev. new_then (at_place place.Percent percent_of (after_word text)) _ (place_answers place.Percent percent_of (after_word text))
    (λ percent. new_then (at_place place.Seed short_number_of (after_word (after_word text))) _ (place_answers place.Seed short_number_of (after_word (after_word text)))
    (λ seed. end_new (lab.Lose dev percent seed) (words_of (after_word (after_word (after_word text)))) refl)))

count_new : (make : ℕ → Said) → ((n : ℕ) → script_said (make n) ≡ None) → (text : List ℕ) → IsNew (count_meaning make text)
unfolding count_meaning
count_new make none text =
    new_then (at_place place.Count count_of text) _ (place_answers place.Count count_of text)
    (λ count. end_new (make count) (words_of (after_word text)) (none count))

expect_new : (words : List Word) → IsNew (expect_meaning words)
unfolding expect_meaning
expect_new [] = tt
expect_new (word ∷ more) =
    elim (bytes_eq word (codes "none")) as (λ b. IsNew (cond b (said_at_end lab.ExpectNone more)
    (cond (bytes_eq word (codes "any")) (said_at_end lab.ExpectAny more) (Ok (lab.Expect (word ∷ more)))))) [
      | true ↦ end_new lab.ExpectNone more refl
      | false ↦ elim (bytes_eq word (codes "any")) as (λ b. IsNew (cond b (said_at_end lab.ExpectAny more) (Ok (lab.Expect (word ∷ more))))) [
        | true ↦ end_new lab.ExpectAny more refl
        | false ↦ refl
      ]
    ]

file_new : (name : List ℕ) → IsNew (file_name name)
file_new [] = tt
file_new (b ∷ name) = refl

change_new : (wanted : List ℕ → Result (ChangeKind × List ℕ) Refusal) → ((text : List ℕ) → IsAnswer (wanted text)) → (text : List ℕ)
    → IsNew (device_at text >>= (λ dev. at_place place.Control control_name_of (after_word text)
    >>= (λ control. wanted (after_word (after_word text)) >>= (λ w. said_at_end (lab.Change dev control w.0) (words_of w.1)))))
change_new wanted answers text =
    new_then (device_at text) _ (place_answers place.Device device_of text)
    (λ dev. new_then (at_place place.Control control_name_of (after_word text)) _ (place_answers place.Control control_name_of (after_word text))
    (λ control. new_then (wanted (after_word (after_word text))) _ (answers (after_word (after_word text)))
    (λ w. end_new (lab.Change dev control w.0) (words_of w.1) refl)))

-- ---- the first words of lines

-- a new first word, which is none of hidrun's
abbrev IsNewWord : Word → Type 0
IsNewWord word = ((bytes text : List ℕ) → IsNew (by_keyword bytes word text (lab_keyword_of word))) × (keyword_of word ≡ None)

no_file : (text : List ℕ) → IsNew (include_meaning text)
no_file text = file_new (trim text)

-- the first word of a line that changes a control: if hidrun has no such line, that is all that is wrong
abbrev IsChange : Word → Type 0
IsChange word = ((bytes text : List ℕ) → IsNew (old_meaning bytes word text (change_word_of word)))
    × ((words : List Word) → short_of (keyword_meaning (keyword_of word) words) ≡ None → keyword_meaning (keyword_of word) words ≡ Err fault.Syntax)

none_syntax : (o : Option ShortLine) → short_of (or_syntax line.Step o) ≡ None → or_syntax line.Step o ≡ Err fault.Syntax
none_syntax None none = refl
none_syntax (Some short) none = absurd (cc)

short_is : (meaning : Result Line LineFault) (short : ShortLine) → short_of meaning ≡ Some short → meaning ≡ Ok (line.Step short)
short_is (Ok (line.Step other)) short is = let same : other ≡ short = cc in ap (λ s. Ok (line.Step s)) same
short_is (Ok said) short is = absurd (cc)
short_is (Err why) short is = absurd (cc)

line_of_words : (bytes : List ℕ) → length bytes ≤ 1024 → meaning_of bytes ≡ line_meaning (words_of bytes)
unfolding meaning_of
line_of_words bytes room = cond-false (nat_lt 1024 (length bytes)) (Err fault.LineTooLong) (line_meaning (words_of bytes)) (le-ltb 1024 (length bytes) room)

-- what a line says by its first word
by_first : (bytes : List ℕ) (first : Word) (rest : List Word) → length bytes ≤ 1024 → words_of bytes ≡ first ∷ rest → nat_eq (slice_index first 0) 35 ≡ false
    → meaning_of bytes ≡ keyword_meaning (keyword_of first) rest
unfolding line_meaning
by_first bytes first rest room is other =
    line_of_words bytes room ∙ ap line_meaning is ∙ cond-false (nat_eq (slice_index first 0) 35) (Ok line.Nothing) (keyword_meaning (keyword_of first) rest) other

-- ---- devices

-- bytes in hex begin with no @
no_hex : (words more : List Word) (word : Word) → words ≡ (64 ∷ word) ∷ more → hex_of words ≡ None
unfolding hex_of
no_hex words more word is =
    ap hex_of is ∙ ap (λ b. cond b (Some (flat_map (λ w. result_unwrap_or (decode_of w) []) ((64 ∷ word) ∷ more))) None) (ap (λ b. b && list_all (λ w. is_ok (decode_of w)) more) (at_no_hex word))

named_or_missing : (bytes : List ℕ) (start : Start) (boot : Boot) (text : List ℕ) (none : Bool) → is_ok (meaning_of bytes) ≡ false
    → Agrees bytes (cond none (Err (Wrong [] place.File)) (Ok (lab.DeviceFile start boot text)))
named_or_missing bytes start boot text true h = h
named_or_missing bytes start boot text false h = h

-- a descriptor, in a file or in the line
descriptor_agrees : (bytes text : List ℕ) (start : Start) (boot : Boot) → length bytes ≤ 1024 → meaning_of bytes ≡ with_bytes (line.Device start boot) (hex_of (words_of text))
    → Agrees bytes (descriptor bytes start boot (trim text))
descriptor_agrees bytes text start boot room is = ⊎_elim
    (λ (file : nat_eq (slice_index (trim text) 0) 64 ≡ true).
    let word = at_word text (eqb-true _ 64 file) in
    let refused : is_ok (meaning_of bytes) ≡ false = ap is_ok (is ∙ ap (with_bytes (line.Device start boot)) (no_hex (words_of text) word.1 word.0 word.2)) in
    rw file (named_or_missing bytes start boot _ _ refused))
    (λ (hex : nat_eq (slice_index (trim text) 0) 64 ≡ false). rw hex (rw (le-ltb 1024 (length bytes) room) refl))
    (cases_Bool (nat_eq (slice_index (trim text) 0) 64))

-- what the bench reads of a device, by its words
abbrev device_read : List ℕ → List ℕ → List Word → List Word → Result Said Refusal
device_read bytes text first second =
    (first_of place.Start first >>= (λ word. word_meaning place.Start word (start_of word)))
    >>= (λ start. (first_of place.Kind second >>= (λ word. word_meaning place.Kind word (boot_of word)))
    >>= (λ boot. descriptor bytes start boot (trim text)))

started : (bytes text : List ℕ) (word : Word) (o : Option Start) → meaning_of bytes ≡ Err fault.Syntax
    → Agrees bytes (word_meaning place.Start word o >>= (λ start. (first_of place.Kind [] >>= (λ w. word_meaning place.Kind w (boot_of w))) >>= (λ boot. descriptor bytes start boot (trim text))))
started bytes text word None h = h
started bytes text word (Some start) h = h

begun : (bytes text : List ℕ) (first second : Word) (start : Option Start) (boot : Option Boot) → length bytes ≤ 1024
    → meaning_of bytes ≡ attachment (both start boot) (words_of text)
    → Agrees bytes (word_meaning place.Start first start >>= (λ s. word_meaning place.Kind second boot >>= (λ b. descriptor bytes s b (trim text))))
begun bytes text first second None boot room h = h
begun bytes text first second (Some start) None room h = h
begun bytes text first second (Some start) (Some boot) room h = descriptor_agrees bytes text start boot room h

device_words : (bytes text : List ℕ) (first second : List Word) → length bytes ≤ 1024 → meaning_of bytes ≡ device_meaning first
    → (first ≡ []) ⊎ ((word : Word) × (first ≡ word ∷ second))
    → (second ≡ []) ⊎ ((word : Word) × (second ≡ word ∷ words_of text)) → Agrees bytes (device_read bytes text first second)
unfolding device_meaning
device_words bytes text first second room h (inl none) next =
    subst (λ words. Agrees bytes (device_read bytes text words second)) (sym none) (h ∙ ap device_meaning none)
device_words bytes text first second room h (inr one) (inl none) =
    let words = one.1 ∙ ap (λ l. one.0 ∷ l) none in
    subst (λ words. Agrees bytes (device_read bytes text words second)) (sym one.1)
    (subst (λ words. Agrees bytes (device_read bytes text (one.0 ∷ second) words)) (sym none) (started bytes text one.0 (start_of one.0) (h ∙ ap device_meaning words)))
device_words bytes text first second room h (inr one) (inr two) =
    let words = one.1 ∙ ap (λ l. one.0 ∷ l) two.1 in
    subst (λ words. Agrees bytes (device_read bytes text words second)) (sym one.1)
    (subst (λ words. Agrees bytes (device_read bytes text (one.0 ∷ second) words)) (sym two.1) (begun bytes text one.0 two.0 (start_of one.0) (boot_of two.0) room (h ∙ ap device_meaning words)))

device_agrees : (bytes text : List ℕ) → length bytes ≤ 1024 → meaning_of bytes ≡ device_meaning (words_of text) → Agrees bytes (attachment_meaning bytes text)
unfolding attachment_meaning
device_agrees bytes text room h =
    device_words bytes (after_word (after_word text)) (words_of text) (words_of (after_word text)) room h (first_or_none text) (first_or_none (after_word text))

-- ---- all lines

other_line : (bytes : List ℕ) (first : Word) (text : List ℕ) (is : Bool) → length bytes ≤ 1024 → bytes_eq first (codes "device") ≡ is
    → meaning_of bytes ≡ keyword_meaning (keyword_of first) (words_of text)
    → Agrees bytes (cond is (attachment_meaning bytes text) (script_meaning bytes first text))
unfolding words_meaning
other_line bytes first text true room is h =
    device_agrees bytes text room (h ∙ ap (λ (w : Word). keyword_meaning (keyword_of w) (words_of text)) (same_word first (codes "device") is))
other_line bytes first text false room is h = rw (le-ltb 1024 (length bytes) room) refl

old_line : (bytes : List ℕ) (first : Word) (text : List ℕ) → length bytes ≤ 1024 → short_of (meaning_of bytes) ≡ None
    → meaning_of bytes ≡ keyword_meaning (keyword_of first) (words_of text) → Agrees bytes (old_meaning bytes first text (change_word_of first))
unfolding change_meaning words_meaning
old_line bytes first text room none h =
    elim (change_word_of first) as (λ o. change_word_of first ≡ o → Agrees bytes (old_meaning bytes first text o)) [
      | None ↦ λ is. other_line bytes first text (bytes_eq first (codes "device")) room refl h
      | Some wanted ↦ λ is.
          let word : IsChange first = each_found IsChange ((codes "press", _) ∷ (codes "release", _) ∷ (codes "null", _) ∷ (codes "set", _) ∷ (codes "move", _) ∷ []) first wanted is (
            (λ b t. change_new (λ l. Ok (Press, l)) (λ l. tt) t, λ words. none_syntax _),
            (
              (λ b t. change_new (λ l. Ok (Release, l)) (λ l. tt) t, λ words. none_syntax _),
              (
                (λ b t. change_new (λ l. Ok (Null, l)) (λ l. tt) t, λ words. none_syntax _),
                (
                  (λ b t. change_new (λ l. at_place place.Number signed_of_word l >>= (λ value. Ok (Set value, after_word l))) (λ l. answer_then (at_place place.Number signed_of_word l) _ (place_answers place.Number signed_of_word l) (λ value. tt)) t, λ words. none_syntax _),
                  (
                    (λ b t. change_new (λ l. at_place place.Amount amount_of l >>= (λ by. Ok (Move by, after_word l))) (λ l. answer_then (at_place place.Amount amount_of l) _ (place_answers place.Amount amount_of l) (λ by. tt)) t, λ words. none_syntax _),
                    tt,
                  ),
                ),
              ),
            ),
          ) in
          subst (λ o. Agrees bytes (old_meaning bytes first text o)) is (new_agrees bytes (old_meaning bytes first text (change_word_of first)) (word.0 bytes text) (h ∙ word.1 (words_of text) (sym (ap short_of h) ∙ none)))
    ] refl

keyword_line : (bytes : List ℕ) (first : Word) (text : List ℕ) → length bytes ≤ 1024 → short_of (meaning_of bytes) ≡ None
    → meaning_of bytes ≡ keyword_meaning (keyword_of first) (words_of text) → Agrees bytes (by_keyword bytes first text (lab_keyword_of first))
unfolding new_meaning
keyword_line bytes first text room none h =
    elim (lab_keyword_of first) as (λ o. lab_keyword_of first ≡ o → Agrees bytes (by_keyword bytes first text o)) [
      | None ↦ λ is. old_line bytes first text room none h
      | Some new ↦ λ is.
          let word : IsNewWord first = each_found IsNewWord ((codes "click", _) ∷ (codes "type", _) ∷ (codes "lose", _) ∷ (codes "repeat", _) ∷ (codes "end", _) ∷ (codes "expect", _) ∷ (codes "wait", _) ∷ (codes "include", _) ∷ []) first new is (
            (λ b t. click_new t, refl),
            (
              (λ b t. type_new t, refl),
              (
                (λ b t. lose_new t, refl),
                (
                  (λ b t. count_new lab.Repeat (λ n. refl) t, refl),
                  (
                    (λ b t. end_new lab.End (words_of t) refl, refl),
                    (
                      (λ b t. expect_new (words_of t), refl),
                      (
                        (λ b t. count_new lab.Wait (λ n. refl) t, refl),
                        ((λ b t. no_file t, refl), tt),
                      ),
                    ),
                  ),
                ),
              ),
            ),
          ) in
          subst (λ o. Agrees bytes (by_keyword bytes first text o)) is (new_agrees bytes (by_keyword bytes first text (lab_keyword_of first)) (word.0 bytes text) (rw word.1 at h))
    ] refl

words_line : (bytes : List ℕ) (words : List Word) → length bytes ≤ 1024 → short_of (meaning_of bytes) ≡ None → words_of bytes ≡ words
    → (words ≡ []) ⊎ ((first : Word) × (words ≡ first ∷ words_of (after_word bytes))) → Agrees bytes (other_meaning bytes words)
unfolding other_meaning line_meaning
words_line bytes words room none is (inl empty) =
    subst (λ w. Agrees bytes (other_meaning bytes w)) (sym empty) (line_of_words bytes room ∙ ap line_meaning (is ∙ empty))
words_line bytes words room none is (inr found) =
    let first = found.0 in
    let text = after_word bytes in
    let all = is ∙ found.1 in
    subst (λ w. Agrees bytes (other_meaning bytes w)) (sym found.1) (⊎_elim
    (λ (comment : nat_eq (slice_index first 0) 35 ≡ true).
    rw comment (line_of_words bytes room ∙ ap line_meaning all ∙ cond-true (nat_eq (slice_index first 0) 35) (Ok line.Nothing) (keyword_meaning (keyword_of first) (words_of text)) comment))
    (λ (other : nat_eq (slice_index first 0) 35 ≡ false).
    rw other (keyword_line bytes first text room none (by_first bytes first (words_of text) room all other)))
    (cases_Bool (nat_eq (slice_index first 0) 35)))

short_line : (bytes : List ℕ) (o : Option ShortLine) → length bytes ≤ 1024 → short_of (meaning_of bytes) ≡ o → Agrees bytes (short_or o (other_meaning bytes (words_of bytes)))
short_line bytes (Some short) room is = short_is (meaning_of bytes) short is
short_line bytes None room is = words_line bytes (words_of bytes) room is refl (first_or_none bytes)

line_agrees : (bytes : List ℕ) → length bytes ≤ 1024 → Agrees bytes (lab_meaning bytes)
unfolding lab_meaning
line_agrees bytes room =
    rw (le-ltb 16384 (length bytes) (omega (arith, room))) (short_line bytes (short_of (meaning_of bytes)) room refl)

-- ---- what follows of lines of hidrun

some_said : (bytes : List ℕ) (o : Option (Result Line LineFault)) → is_some o ≡ true → ReadsAs bytes o → o ≡ Some (meaning_of bytes)
some_said bytes None some h = absurd (cc)
some_said bytes (Some meaning) some h = ap (λ m. Some m) (sym h)

-- what the bench reads of such a line is what hidrun reads
pub script_read : (bytes : List ℕ) (said : Said) → IsScripts bytes → lab_meaning bytes ≡ Ok said → script_said said ≡ Some (meaning_of bytes)
script_read bytes said old is =
    some_said bytes (script_said said) (sym (ap is_line_of_hidrun is) ∙ old.read) (subst (Agrees bytes) is (line_agrees bytes old.room))

wrong_only : (bytes : List ℕ) (refusal : Refusal) → is_line_of_hidrun (Err refusal) ≡ true → Agrees bytes (Err refusal) → (meaning_of bytes ≡ Err fault.Syntax) × (cause_by refusal ≡ causes.Syntax)
wrong_only bytes TooLong some h = absurd h
wrong_only bytes (Wrong word expected) some h = (not_file (is_file expected) some h, refl)
  where
    not_file : (file : Bool) → not file ≡ true → RefusesAs bytes file → meaning_of bytes ≡ Err fault.Syntax
    not_file true none k = absurd (cc)
    not_file false none k = k

-- one that the bench can't read is none of hidrun's
pub script_unread : (bytes : List ℕ) (refusal : Refusal) → IsScripts bytes → lab_meaning bytes ≡ Err refusal → (meaning_of bytes ≡ Err fault.Syntax) × (cause_by refusal ≡ causes.Syntax)
script_unread bytes refusal old is =
    wrong_only bytes refusal (sym (ap is_line_of_hidrun is) ∙ old.read) (subst (Agrees bytes) is (line_agrees bytes old.room))

said_old : (bytes : List ℕ) (said : Line) (o : Option (Result Line LineFault)) → meaning_of bytes ≡ Ok said → ReadsAs bytes o → is_some o ≡ true
said_old bytes said None is h = let both : false ≡ true = sym h ∙ ap is_ok is in absurd (cc)
said_old bytes said (Some meaning) is h = refl

refused_old : (bytes : List ℕ) (said : Line) (file : Bool) → meaning_of bytes ≡ Ok said → RefusesAs bytes file → not file ≡ true
refused_old bytes said true is h = let both : false ≡ true = sym h ∙ ap is_ok is in absurd (cc)
refused_old bytes said false is h = refl

old_read : (bytes : List ℕ) (said : Line) (r : Result Said Refusal) → meaning_of bytes ≡ Ok said → Agrees bytes r → is_line_of_hidrun r ≡ true
old_read bytes said (Ok new) is h = said_old bytes said (script_said new) is h
old_read bytes said (Err TooLong) is h = absurd h
old_read bytes said (Err (Wrong word expected)) is h = refused_old bytes said (is_file expected) is h

-- a line that the bench refuses is refused by hidrun
pub refused_there : (bytes : List ℕ) (refusal : Refusal) → IsScripts bytes → lab_meaning bytes ≡ Err refusal → meaning_of bytes ≡ Err fault.Syntax
refused_there bytes refusal old is = (wrong_only bytes refusal (sym (ap is_line_of_hidrun is) ∙ old.read) (subst (Agrees bytes) is (line_agrees bytes old.room))).0

-- a line that hidrun reads is read so by the bench
pub script_old : (bytes : List ℕ) (said : Line) → meaning_of bytes ≡ Ok said → IsScripts bytes
unfolding meaning_of
script_old bytes said is = ⊎_elim
    (λ (long : 1024 < length bytes).
    let both : (let r : Result Line LineFault = Err fault.LineTooLong in r) ≡ Ok said = sym (cond-true (nat_lt 1024 (length bytes)) (Err fault.LineTooLong) (line_meaning (words_of bytes)) (lt-ltb 1024 (length bytes) long)) ∙ is in absurd (cc))
    (λ (room : length bytes ≤ 1024). record { room = room; read = old_read bytes said (lab_meaning bytes) is (line_agrees bytes room) })
    (cases_lt 1024 (length bytes))

-- ---- what is printed of such lines

-- a line that was read was carried out as in hidrun
pub as_script : (u v : Option (List ℕ)) (bytes : List ℕ) (said : Said) (session next : Session) (r : Result (Unit {0}) LabCause)
    → IsScripts bytes → lab_meaning bytes ≡ Ok said → PrintsSaid u v said session r next → PrintsAs u v (meaning_of bytes) session r next
as_script u v bytes said session next r old is h =
    subst (λ o. IfSome o (λ meaning. PrintsAs u v meaning session r next)) (script_read bytes said old is) h

refuses : (u : Option (List ℕ)) (session next : Session) (meaning : Result Line LineFault) (cause : Cause) → meaning ≡ Err fault.Syntax → cause ≡ causes.Syntax
    → PrintsAs u u meaning session (Err (Script cause)) next
unfolding ending_of
refuses u session next meaning cause is same =
    subst (λ m. PrintsAs u u m session (Err (Script cause)) next) (sym is)
    (subst (λ c. PrintsAs u u (Err fault.Syntax) session (Err (Script c)) next) (sym same) (Err causes.Syntax, refl, ([], Appends-nil u, refl)))

-- one that can't be read is refused as in hidrun
pub unread_refused : (u : Option (List ℕ)) (bytes : List ℕ) (refusal : Refusal) (cause : Cause) (session next : Session)
    → IsScripts bytes → lab_meaning bytes ≡ Err refusal → cause ≡ cause_by refusal → PrintsAs u u (meaning_of bytes) session (Err (Script cause)) next
unread_refused u bytes refusal cause session next old is why =
    let none = script_unread bytes refusal old is in refuses u session next (meaning_of bytes) cause none.0 (why ∙ none.1)

-- it asks for nothing
pub asks_nothing : (said : Said) (meaning : Result Line LineFault) → script_said said ≡ Some meaning → asked_by said ≡ None
asks_nothing lab.Nothing meaning is = refl
asks_nothing (lab.Script bytes) meaning is = refl
asks_nothing (lab.Short said) meaning is = refl
asks_nothing said meaning is = absurd (cc)

-- ---- short lines

-- a short line says to the bench what it says to hidrun
pub short_read : (line : List ℕ) (short : ShortLine) → short_of (meaning_of line) ≡ Some short → lab_meaning line ≡ Ok (lab.Short short)
unfolding lab_meaning meaning_of
short_read line short is = ⊎_elim
    (λ (long : 1024 < length line).
    let none : short_of (meaning_of line) ≡ None = ap short_of (cond-true (nat_lt 1024 (length line)) (Err fault.LineTooLong) (line_meaning (words_of line)) (lt-ltb 1024 (length line) long)) in
    absurd (cc))
    (λ (room : length line ≤ 1024). rw (le-ltb 16384 (length line) (omega (arith, room))) (ap (λ o. short_or o (other_meaning line (words_of line))) is))
    (cases_lt 1024 (length line))
