-- What is printed within a line has no control characters.
use Rattle.std.proofs.Common.{◌≡◌, ℕ, zero, suc, ◌+◌, ◌/◌, ◌%◌, Bool, true, false, ◌&&◌, nat_le, nat_lt, nat_eq, cond, List, [], ◌∷◌, ◌++◌, ℤ, pos, negsuc, Option, None, Some, refl, arith}
use Rattle.std.specs.List.{flat_map}
use Rattle.std.specs.Fmt.{decimal, signed_decimal, digits, digits_onto, digit_glyph}
use Rattle.std.proofs.lemmas.Bool.{and_parts, and_from, le-leb, cond_both}
use Rattle.hid_report_descriptor.specs.declared.usage.Usage.{Usage}
use Rattle.hid_report_descriptor.specs.Usages.{Entry}
use Rattle.hid_snapshots.specs.declared.event.Event.{Event}
use Rattle.hid_snapshots.specs.declared.event.Event.TheVariants.{Down, Up, Value, Null, Motion, Dropped}
use Rattle.hid_notation.specs.Text.{hex_text, bytes_text, usage_text, usage_or_dash, range_text}
use Rattle.hid_text.specs.EventText.{event_words, event_text}

-- each byte is a space or above it
abbrev pub is_plain : List ℕ → Bool
is_plain [] = true
is_plain (b ∷ bs) = nat_le 32 b && is_plain bs

pub plain_both : (a b : List ℕ) → is_plain a ≡ true → is_plain b ≡ true → is_plain (a ++ b) ≡ true
plain_both [] b h k = k
plain_both (x ∷ a) b h k = let parts = and_parts _ _ h in and_from _ _ parts.0 (plain_both a b parts.1 k)

pub plain_flat : {A : Type 0} (f : A → List ℕ) (xs : List A) → ((x : A) → is_plain (f x) ≡ true) → is_plain (flat_map f xs) ≡ true
plain_flat f [] h = refl
plain_flat f (x ∷ xs) h = plain_both (f x) (flat_map f xs) (h x) (plain_flat f xs h)

-- ---- numbers

plain_glyph : (upper : Bool) (d : ℕ) → nat_le 32 (digit_glyph upper d) ≡ true
plain_glyph upper d =
    cond_both (nat_lt d 10) (48 + d) (cond upper (55 + d) (87 + d)) (λ n. nat_le 32 n ≡ true) (λ _. le-leb 32 (48 + d) (omega arith))
    (λ _. cond_both upper (55 + d) (87 + d) (λ n. nat_le 32 n ≡ true) (λ _. le-leb 32 (55 + d) (omega arith)) (λ _. le-leb 32 (87 + d) (omega arith)))

plain_onto : (k base : ℕ) (upper : Bool) (n : ℕ) (acc : List ℕ) → is_plain acc ≡ true → is_plain (digits_onto k base upper n acc) ≡ true
plain_onto zero base upper n acc h = h
plain_onto (suc k) base upper n acc h =
    let more : is_plain (digit_glyph upper (n % base) ∷ acc) ≡ true = and_from _ _ (plain_glyph upper (n % base)) h in
    cond_both (nat_eq (n / base) 0) (digit_glyph upper (n % base) ∷ acc) (digits_onto k base upper (n / base) (digit_glyph upper (n % base) ∷ acc)) (λ l. is_plain l ≡ true)
    (λ _. more) (λ _. plain_onto k base upper (n / base) (digit_glyph upper (n % base) ∷ acc) more)

pub plain_digits : (base : ℕ) (upper : Bool) (n : ℕ) → is_plain (digits base upper n) ≡ true
unfolding digits
plain_digits base upper n = plain_onto 64 base upper n [] refl

pub plain_decimal : (n : ℕ) → is_plain (decimal n) ≡ true
plain_decimal n = plain_digits 10 false n

pub plain_signed : (z : ℤ) → is_plain (signed_decimal z) ≡ true
plain_signed (pos n) = plain_decimal n
plain_signed (negsuc n) = plain_decimal (suc n)

pub plain_hex : (n : ℕ) → is_plain (hex_text n) ≡ true
unfolding hex_text
plain_hex n = cond_both (nat_lt n 16) (48 ∷ digits 16 true n) (digits 16 true n) (λ l. is_plain l ≡ true) (λ _. plain_digits 16 true n) (λ _. plain_digits 16 true n)

-- ---- bytes and usages

pub plain_bytes : (bytes : List ℕ) → is_plain (bytes_text bytes) ≡ true
plain_bytes bytes = plain_flat (λ b. 32 ∷ hex_text b) bytes (λ b. plain_hex b)

pub plain_usage : (usage : Usage) → is_plain (usage_text usage) ≡ true
plain_usage usage = plain_both (hex_text usage.page) (58 ∷ hex_text usage.id) (plain_hex usage.page) (plain_hex usage.id)

pub plain_usage_or_dash : (usage : Option Usage) → is_plain (usage_or_dash usage) ≡ true
plain_usage_or_dash None = refl
plain_usage_or_dash (Some usage) = plain_usage usage

pub plain_range : (range : Entry) → is_plain (range_text range) ≡ true
unfolding range_text
plain_range range =
    cond_both (nat_eq range.0.page range.1.page && nat_eq range.0.id range.1.id) (usage_text range.0) (usage_text range.0 ++ 45 ∷ usage_text range.1) (λ l. is_plain l ≡ true)
    (λ _. plain_usage range.0) (λ _. plain_both (usage_text range.0) (45 ∷ usage_text range.1) (plain_usage range.0) (plain_usage range.1))

-- ---- events

plain_words : (event : Event) → is_plain (event_words event) ≡ true
plain_words (Down control usage) = plain_usage usage
plain_words (Up control usage) = plain_usage usage
plain_words (Value control usage value) = plain_both (usage_text usage) (32 ∷ signed_decimal value) (plain_usage usage) (plain_signed value)
plain_words (Null control usage) = plain_usage usage
plain_words (Motion control usage by) = plain_both (usage_text usage) (32 ∷ signed_decimal by) (plain_usage usage) (plain_signed by)
plain_words (Dropped control usage by) = plain_both (usage_text usage) (32 ∷ signed_decimal by) (plain_usage usage) (plain_signed by)

pub plain_event : (dev : ℕ) (event : Event) → is_plain (event_text dev event) ≡ true
plain_event dev event = plain_both (decimal dev) (event_words event) (plain_decimal dev) (plain_words event)
