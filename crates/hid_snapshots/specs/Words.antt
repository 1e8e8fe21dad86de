-- Pressed places kept as words of 64 bits (our choice).
use Rattle.std.specs.Prelude.{◌≡◌, ℕ, zero, suc, ◌+◌, ◌-◌, ◌*◌, ◌/◌, ◌%◌, ◌^◌, ◌==◌, ◌<◌, ◌≤◌, ◌&&◌, not, min, Bool, true, false, List, [], ◌∷◌, ◌++◌, length, take, drop, slice_get, unwrap_or, Option, Some, None}
use Rattle.std.specs.Int.{bit_at, div_ceil}
use Rattle.std.specs.Bool.{beq}
use Rattle.std.specs.Simd.Lanes.{mask_l}

-- the word whose bit j is 1 exactly where place j is pressed
abbrev pub switch_word : List Bool → ℕ
switch_word ps = mask_l ps

-- this many words, of 64 places each
unfoldable pub words_in : ℕ → List Bool → List ℕ
words_in zero ps = []
words_in (suc n) ps = switch_word (take 64 ps) ∷ words_in n (drop 64 ps)

-- as many words as the places need, in which word k has bit b set exactly if place 64k + b is pressed. Example: 07:04 to
-- 07:0A pressed is 7F0 hex, then 0
abbrev pub switch_words : List Bool → List ℕ
switch_words ps = words_in (div_ceil (length ps) 64) ps

-- the lowest bits of a word, as pressed places
unfoldable pub bits_in : ℕ → ℕ → List Bool
bits_in zero w = []
bits_in (suc n) w = (w % 2 == 1) ∷ bits_in n (w / 2)

-- the pressed places that are kept in words
unfoldable pub places_in : List ℕ → ℕ → List Bool
places_in [] n = []
places_in (w ∷ ws) n = bits_in (min n 64) w ++ places_in ws (n - 64)

-- Words keep n places, and nothing beyond them.
pub record AreWords (ws : List ℕ) (n : ℕ) : Type 0 where
  pub words : ws ≡ switch_words (places_in ws n)
  pub places : length (places_in ws n) ≡ n
  pub small : n < 2 ^ 64

-- as many words as n places need, of those that come first
abbrev pub words_of : List ℕ → ℕ → List ℕ
words_of ws n = take (div_ceil n 64) ws

-- whether a place is pressed; none is past the last
abbrev pub is_on : List Bool → ℕ → Bool
is_on ps i = unwrap_or (slice_get ps i) false

-- the place is pressed in the first list and not in the second
abbrev pub is_alone : List Bool → List Bool → ℕ → Bool
is_alone ps qs i = is_on ps i && not (is_on qs i)

-- a place of a word is pressed where that bit of another one is 0, or isn't where that is 1
abbrev pub is_unlike : List Bool → ℕ → ℕ → ℕ → Bool
is_unlike ps index w b = not (beq (is_on ps (64 * index + b)) (bit_at w b == 1))

-- the word at an index; 0 past the last
abbrev pub word_at : List ℕ → ℕ → ℕ
word_at ws k = unwrap_or (slice_get ws k) 0

-- bit i mod 64 of word i div 64; 0 past the last word
abbrev pub is_bit : List ℕ → ℕ → Bool
is_bit ws i = bit_at (word_at ws (i / 64)) (i % 64) == 1

-- a bit of the first words is 1 where that of the second is 0
abbrev pub are_alone : List ℕ → List ℕ → ℕ → Bool
are_alone ws vs i = is_bit ws i && not (is_bit vs i)

-- The first place from one on, below an end, that passes.
pub record IsFirst (test : ℕ → Bool) (from end place : ℕ) : Type 0 where
  pub low : from ≤ place
  pub high : place < end
  pub before : (i : ℕ) → from ≤ i → i < place → test i ≡ false
  pub hit : test place ≡ true

-- the first place from one on, below an end, that passes, or that there is none
abbrev pub FindsFirst : (ℕ → Bool) → ℕ → ℕ → Option ℕ → Type 0
FindsFirst test from end None = (i : ℕ) → from ≤ i → i < end → test i ≡ false
FindsFirst test from end (Some place) = IsFirst test from end place

-- after a count of words there are notes, a bit for each
abbrev pub HasNotes : List ℕ → ℕ → Type 0
HasNotes ws count = length ws ≡ count + div_ceil count 64

-- the bit of a group of 64 words; the last bit is for all groups from there on
abbrev pub is_group : ℕ → ℕ → Bool
is_group top j = bit_at top (min j 63) == 1

-- a group whose bit is 0 has no note
abbrev pub AreGroups : List ℕ → ℕ → Type 0
AreGroups notes top = (j : ℕ) → is_group top j ≡ false → word_at notes j ≡ 0

-- A word without a note is 0, but for the first one; notes without a bit for their group are 0.
pub record AreNoted (ws notes : List ℕ) (top : ℕ) : Type 0 where
  pub filled : (k : ℕ) → 0 < k → is_bit notes k ≡ false → word_at ws k ≡ 0
  pub groups : AreGroups notes top

-- no group between one and the next has a bit; none after it, where there is no next
abbrev pub FindsGroup : ℕ → ℕ → Option ℕ → Type 0
FindsGroup top group None = (j : ℕ) → group < j → is_group top j ≡ false
FindsGroup top group (Some next) =
    (group < next) × (next ≤ group + 64) × ((j : ℕ) → group < j → j < next → is_group top j ≡ false)

-- The words keep n places, and after them are their notes.
pub record AreFlags (ws : List ℕ) (n top : ℕ) : Type 0 where
  pub words : AreWords (words_of ws n) n
  pub notes : HasNotes ws (div_ceil n 64)
  pub noted : AreNoted (words_of ws n) (drop (div_ceil n 64) ws) top
