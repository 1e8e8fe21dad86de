-- Lines of events are reported by how they begin.
use Rattle.std.proofs.Common.{◌≡◌, ℕ, zero, suc, ◌+◌, ◌/◌, ◌%◌, ◌<◌, ◌≤◌, Bool, true, false, ◌&&◌, ◌||◌, nat_le, nat_lt, nat_eq, List, [], ◌∷◌, ◌++◌, refl, sym, ap, ◌∙◌, subst, inl, inr, arith, map, drop}
use Rattle.std.specs.List.{list_any}
use Rattle.std.specs.Fmt.{decimal, digits, digits_onto, digit_glyph}
use Rattle.std.proofs.lemmas.Fmt.{decimal_digit}
use Rattle.std.proofs.lemmas.Bool.{and_parts, and_from, and_left, and_right, le-leb, leb-true, ne_eqb, eq-eqb, cond_both, cond-true, cond-false, cases_lt, cases_eq, lt-ltb}
use Rattle.hid_snapshots.specs.declared.event.Event.{Event}
use Rattle.hid_snapshots.specs.declared.event.Event.TheVariants.{Down, Up, Value, Null, Motion, Dropped}
use Rattle.hid_text.specs.EventText.{event_text}
use Rattle.hid_text.specs.EventLines.{begins_with, words_of_events, is_event_line}

-- ---- digits

abbrev is_digit : ℕ → Bool
is_digit b = nat_le 48 b && nat_le b 57

abbrev are_digits : List ℕ → Bool
are_digits [] = true
are_digits (b ∷ bs) = is_digit b && are_digits bs

abbrev first_digit : List ℕ → Bool
first_digit [] = false
first_digit (b ∷ bs) = is_digit b

abbrev has_two : List ℕ → Bool
has_two [] = false
has_two (b ∷ []) = false
has_two (b ∷ c ∷ bs) = true

digit_shown : (n : ℕ) → is_digit (digit_glyph false (n % 10)) ≡ true
digit_shown n =
    let below : n % 10 < 10 = omega arith in
    let shown : digit_glyph false (n % 10) ≡ 48 + n % 10 = cond-true (nat_lt (n % 10) 10) _ _ (lt-ltb (n % 10) 10 below) in
    subst (λ b. is_digit b ≡ true) (sym shown) (and_from _ _ (le-leb 48 (48 + n % 10) (omega arith)) (le-leb (48 + n % 10) 57 (omega arith)))

digits_on : (k n : ℕ) (acc : List ℕ) → are_digits acc ≡ true → are_digits (digits_onto k 10 false n acc) ≡ true
digits_on zero n acc h = h
digits_on (suc k) n acc h =
    let more : are_digits (digit_glyph false (n % 10) ∷ acc) ≡ true = and_from _ _ (digit_shown n) h in
    cond_both (nat_eq (n / 10) 0) (digit_glyph false (n % 10) ∷ acc) (digits_onto k 10 false (n / 10) (digit_glyph false (n % 10) ∷ acc)) (λ l. are_digits l ≡ true)
    (λ _. more) (λ _. digits_on k (n / 10) (digit_glyph false (n % 10) ∷ acc) more)

first_on : (k n : ℕ) (acc : List ℕ) → first_digit acc ≡ true → first_digit (digits_onto k 10 false n acc) ≡ true
first_on zero n acc h = h
first_on (suc k) n acc h =
    cond_both (nat_eq (n / 10) 0) (digit_glyph false (n % 10) ∷ acc) (digits_onto k 10 false (n / 10) (digit_glyph false (n % 10) ∷ acc)) (λ l. first_digit l ≡ true)
    (λ _. digit_shown n) (λ _. first_on k (n / 10) (digit_glyph false (n % 10) ∷ acc) (digit_shown n))

two_on : (k n : ℕ) (acc : List ℕ) → has_two acc ≡ true → has_two (digits_onto k 10 false n acc) ≡ true
two_on zero n acc h = h
two_on (suc k) n [] h = absurd (cc)
two_on (suc k) n (b ∷ acc) h =
    cond_both (nat_eq (n / 10) 0) (digit_glyph false (n % 10) ∷ b ∷ acc) (digits_onto k 10 false (n / 10) (digit_glyph false (n % 10) ∷ b ∷ acc)) (λ l. has_two l ≡ true)
    (λ _. refl) (λ _. two_on k (n / 10) (digit_glyph false (n % 10) ∷ b ∷ acc) refl)

-- where a number has one digit, it is that; where it has more, they are more
first_begins : (k n : ℕ) → first_digit (digits_onto (suc k) 10 false n []) ≡ true
first_begins k n =
    cond_both (nat_eq (n / 10) 0) (digit_glyph false (n % 10) ∷ []) (digits_onto k 10 false (n / 10) (digit_glyph false (n % 10) ∷ [])) (λ l. first_digit l ≡ true)
    (λ _. digit_shown n) (λ _. first_on k (n / 10) (digit_glyph false (n % 10) ∷ []) (digit_shown n))

two_begin : (k n : ℕ) → 10 ≤ n → has_two (digits_onto (suc (suc k)) 10 false n []) ≡ true
two_begin k n large =
    let some : nat_eq (n / 10) 0 ≡ false = ne_eqb (n / 10) 0 (λ none. omega (arith, large, none)) in
    subst (λ l. has_two l ≡ true) (sym (cond-false (nat_eq (n / 10) 0) (digit_glyph false (n % 10) ∷ []) (digits_onto (suc k) 10 false (n / 10) (digit_glyph false (n % 10) ∷ [])) some))
    (cond_both (nat_eq (n / 10 / 10) 0) (digit_glyph false (n / 10 % 10) ∷ digit_glyph false (n % 10) ∷ []) (digits_onto k 10 false (n / 10 / 10) (digit_glyph false (n / 10 % 10) ∷ digit_glyph false (n % 10) ∷ [])) (λ l. has_two l ≡ true)
    (λ _. refl) (λ _. two_on k (n / 10 / 10) (digit_glyph false (n / 10 % 10) ∷ digit_glyph false (n % 10) ∷ []) refl))

decimal_digits : (n : ℕ) → are_digits (decimal n) ≡ true
unfolding digits
decimal_digits n = digits_on 64 n [] refl

decimal_first : (n : ℕ) → first_digit (decimal n) ≡ true
unfolding digits
decimal_first n = first_begins 63 n

decimal_two : (n : ℕ) → 10 ≤ n → has_two (decimal n) ≡ true
unfolding digits
decimal_two n large = two_begin 62 n large

-- ---- one number before a line, and another

abbrev same : List ℕ → List ℕ → Bool
same [] [] = true
same [] (c ∷ cs) = false
same (b ∷ bs) [] = false
same (b ∷ bs) (c ∷ cs) = nat_eq b c && same bs cs

no_space : (b : ℕ) → is_digit b ≡ true → (nat_eq 32 b ≡ false) × (nat_eq b 32 ≡ false)
no_space b h =
    let low = leb-true 48 b (and_parts _ _ h).0 in
    (ne_eqb 32 b (λ e. omega (arith, low, e)), ne_eqb b 32 (λ e. omega (arith, low, e)))

and_both : (x y z : Bool) → (x && (y && z)) ≡ ((x && y) && z)
and_both true y z = refl
and_both false y z = refl

apart : (ds es word tail : List ℕ) → are_digits ds ≡ true → are_digits es ≡ true → begins_with (ds ++ 32 ∷ word) (es ++ 32 ∷ tail) ≡ (same ds es && begins_with word tail)
apart [] [] word tail h k = refl
apart [] (c ∷ es) word tail h k = and_left _ _ (no_space c (and_parts _ _ k).0).0
apart (b ∷ ds) [] word tail h k = and_left _ _ (no_space b (and_parts _ _ h).0).1
apart (b ∷ ds) (c ∷ es) word tail h k =
    ap (λ t. nat_eq b c && t) (apart ds es word tail (and_parts _ _ h).1 (and_parts _ _ k).1) ∙ and_both (nat_eq b c) (same ds es) (begins_with word tail)

or_under : (s x y : Bool) → ((s && x) || (s && y)) ≡ (s && (x || y))
or_under true x y = refl
or_under false x y = refl

none_under : (s : Bool) → false ≡ (s && false)
none_under true = refl
none_under false = refl

any_apart : (words : List (List ℕ)) (ds es tail : List ℕ) → are_digits ds ≡ true → are_digits es ≡ true
    → list_any (λ word. begins_with (ds ++ 32 ∷ word) (es ++ 32 ∷ tail)) words ≡ (same ds es && list_any (λ word. begins_with word tail) words)
any_apart [] ds es tail h k = none_under (same ds es)
any_apart (word ∷ words) ds es tail h k =
    ap (λ t. t || list_any (λ word. begins_with (ds ++ 32 ∷ word) (es ++ 32 ∷ tail)) words) (apart ds es word tail h k)
    ∙ ap (λ t. (same ds es && begins_with word tail) || t) (any_apart words ds es tail h k)
    ∙ or_under (same ds es) (begins_with word tail) (list_any (λ word. begins_with word tail) words)

-- the words without the space before them
abbrev bare_words : List (List ℕ)
bare_words = map (drop 1) words_of_events

abbrev pub has_word : List ℕ → Bool
has_word tail = list_any (λ word. begins_with word tail) bare_words

numbered : (dev d : ℕ) (tail : List ℕ) → is_event_line dev (decimal d ++ 32 ∷ tail) ≡ (same (decimal dev) (decimal d) && has_word tail)
numbered dev d tail = any_apart bare_words (decimal dev) (decimal d) tail (decimal_digits dev) (decimal_digits d)

-- a line without one of the words is of no event
pub other_word : (dev d : ℕ) (tail : List ℕ) → has_word tail ≡ false → is_event_line dev (decimal d ++ 32 ∷ tail) ≡ false
other_word dev d tail none = numbered dev d tail ∙ and_right _ _ none

-- a line that doesn't begin with a digit is of no event
no_number : (c : ℕ) (ds word line : List ℕ) → 57 < c → first_digit ds ≡ true → begins_with (ds ++ word) (c ∷ line) ≡ false
no_number c [] word line above h = absurd (cc)
no_number c (b ∷ ds) word line above h =
    let below : b ≤ 57 = leb-true b 57 (and_parts (nat_le 48 b) (nat_le b 57) h).1 in and_left _ _ (ne_eqb b c (λ e. omega (arith, below, above, e)))

none_begins : (words : List (List ℕ)) (c : ℕ) (ds line : List ℕ) → 57 < c → first_digit ds ≡ true → list_any (λ word. begins_with (ds ++ word) (c ∷ line)) words ≡ false
none_begins [] c ds line above h = refl
none_begins (word ∷ words) c ds line above h = ap (λ t. t || list_any (λ word. begins_with (ds ++ word) (c ∷ line)) words) (no_number c ds word line above h) ∙ none_begins words c ds line above h

pub other_start : (dev c : ℕ) (line : List ℕ) → 57 < c → is_event_line dev (c ∷ line) ≡ false
other_start dev c line above = none_begins words_of_events c (decimal dev) line above (decimal_first dev)

-- ---- numbers of one digit

same_one : (x y : ℕ) → same (x ∷ []) (y ∷ []) ≡ nat_eq x y
same_one x y = by_test (nat_eq x y)
  where
    by_test : (b : Bool) → (b && true) ≡ b
    by_test true = refl
    by_test false = refl

shifted : (x y : ℕ) → nat_eq (48 + x) (48 + y) ≡ nat_eq x y
shifted x y = elim (cases_eq x y) [
  | inl e ↦ eq-eqb (48 + x) (48 + y) (omega (arith, e)) ∙ sym (eq-eqb x y e)
  | inr ne ↦ ne_eqb (48 + x) (48 + y) (λ e. ne (omega (arith, e))) ∙ sym (ne_eqb x y ne)
]

longer : (ds : List ℕ) (y : ℕ) → has_two ds ≡ true → same ds (y ∷ []) ≡ false
longer [] y h = refl
longer (b ∷ []) y h = absurd (cc)
longer (b ∷ c ∷ ds) y h = and_right _ _ refl

swapped : (x y : ℕ) → nat_eq x y ≡ nat_eq y x
swapped x y = elim (cases_eq x y) [
  | inl e ↦ eq-eqb x y e ∙ sym (eq-eqb y x (sym e))
  | inr ne ↦ ne_eqb x y ne ∙ sym (ne_eqb y x (λ e. ne (sym e)))
]

same_number : (dev d : ℕ) → d < 10 → same (decimal dev) (decimal d) ≡ nat_eq d dev
same_number dev d small = elim (cases_lt dev 10) [
  | inl few ↦ ap (λ l. same l (decimal d)) (decimal_digit dev few) ∙ ap (same ((48 + dev) ∷ [])) (decimal_digit d small) ∙ same_one (48 + dev) (48 + d) ∙ shifted dev d ∙ swapped dev d
  | inr many ↦ ap (same (decimal dev)) (decimal_digit d small) ∙ longer (decimal dev) (48 + d) (decimal_two dev many) ∙ sym (ne_eqb d dev (λ e. omega (arith, small, many, e)))
]

and_true : (b : Bool) → (b && true) ≡ b
and_true true = refl
and_true false = refl

with_word : (dev d : ℕ) (tail : List ℕ) → d < 10 → has_word tail ≡ true → is_event_line dev (decimal d ++ 32 ∷ tail) ≡ nat_eq d dev
with_word dev d tail small has = numbered dev d tail ∙ ap (λ t. same (decimal dev) (decimal d) && t) has ∙ and_true (same (decimal dev) (decimal d)) ∙ same_number dev d small

-- the text of an event is a line of its device alone
pub event_is_of : (dev d : ℕ) (event : Event) → d < 10 → is_event_line dev (event_text d event) ≡ nat_eq d dev
event_is_of dev d (Down control usage) small = with_word dev d _ small refl
event_is_of dev d (Up control usage) small = with_word dev d _ small refl
event_is_of dev d (Value control usage value) small = with_word dev d _ small refl
event_is_of dev d (Null control usage) small = with_word dev d _ small refl
event_is_of dev d (Motion control usage by) small = with_word dev d _ small refl
event_is_of dev d (Dropped control usage by) small = with_word dev d _ small refl
