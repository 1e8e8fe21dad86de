-- Bytes in hex, word by word.
use Rattle.std.proofs.Common.{◌≡◌, ℕ, Bool, true, false, ◌&&◌, ◌≢◌, ◌⊎◌, ⊎_elim, List, [], ◌∷◌, ◌++◌, Option, None, Some, Result, Ok, Err, cond, refl, sym, ap, ◌∙◌, append_assoc, append-nil}
use Rattle.std.specs.Prelude.{is_ok}
use Rattle.std.specs.List.{list_all, flat_map}
use Rattle.std.specs.Option.{option_map}
use Rattle.std.specs.Result.{result_unwrap_or}
use Rattle.hex.specs.declared.error.FromHexError.{FromHexError}
use Rattle.hex.specs.declared.error.FromHexError.TheVariants.{OutOfMemory}
use Rattle.hex.specs.Hex.{decode_of}
use Rattle.hid_text.specs.Words.{Word, hex_of}
use Rattle.hid_text.proofs.WordLemmas.{before}

one_word : (r : Result (List ℕ) FromHexError) (bytes : List ℕ) (all : Bool) (more : List ℕ) → r ≡ Ok bytes
    → cond (is_ok r && all) (Some (result_unwrap_or r [] ++ more)) None ≡ before bytes (cond all (Some more) None)
one_word r bytes true more is = rw is refl
one_word r bytes false more is = rw is refl

no_word : (r : Result (List ℕ) FromHexError) (all : Bool) (more : List ℕ) → is_ok r ≡ false
    → cond (is_ok r && all) (Some (result_unwrap_or r [] ++ more)) None ≡ None
no_word r all more is = rw is refl

hex_first : (word : Word) (words : List Word) (bytes : List ℕ) → decode_of word ≡ Ok bytes → hex_of (word ∷ words) ≡ before bytes (hex_of words)
unfolding hex_of
hex_first word words bytes is =
    one_word (decode_of word) bytes (list_all (λ w. is_ok (decode_of w)) words) (flat_map (λ w. result_unwrap_or (decode_of w) []) words) is

hex_bad : (word : Word) (words : List Word) → is_ok (decode_of word) ≡ false → hex_of (word ∷ words) ≡ None
unfolding hex_of
hex_bad word words is =
    no_word (decode_of word) (list_all (λ w. is_ok (decode_of w)) words) (flat_map (λ w. result_unwrap_or (decode_of w) []) words) is

hex_none : hex_of [] ≡ Some []
unfolding hex_of
hex_none = refl

twice : (bytes more : List ℕ) (o : Option (List ℕ)) → before bytes (before more o) ≡ before (bytes ++ more) o
twice bytes more None = refl
twice bytes more (Some rest) = ap Some (sym (append_assoc bytes more rest))

-- a word of hex is read
pub word_read : (all : Option (List ℕ)) (bytes next decoded : List ℕ) (words : List Word) (word : Word) (more : List Word) → all ≡ before bytes (hex_of words)
    → words ≡ word ∷ more → decode_of word ≡ Ok decoded → next ≡ bytes ++ decoded → all ≡ before next (hex_of more)
word_read all bytes next decoded words word more is parts found grows =
    is ∙ ap (λ w. before bytes (hex_of w)) parts ∙ ap (before bytes) (hex_first word more decoded found) ∙ twice bytes decoded (hex_of more) ∙ ap (λ b. before b (hex_of more)) (sym grows)

-- a word is none of hex
pub word_bad : (all : Option (List ℕ)) (bytes : List ℕ) (words : List Word) (word : Word) (more : List Word) → all ≡ before bytes (hex_of words)
    → words ≡ word ∷ more → is_ok (decode_of word) ≡ false → all ≡ None
word_bad all bytes words word more is parts bad = is ∙ ap (λ w. before bytes (hex_of w)) parts ∙ ap (before bytes) (hex_bad word more bad)

-- no word is left
pub words_end : (all : Option (List ℕ)) (bytes : List ℕ) (words : List Word) → all ≡ before bytes (hex_of words) → words ≡ [] → all ≡ Some bytes
words_end all bytes words is none = is ∙ ap (λ w. before bytes (hex_of w)) none ∙ ap (before bytes) hex_none ∙ ap Some (append-nil bytes)

-- a word that wasn't decoded, though there was memory
pub not_decoded : (r : Result (List ℕ) FromHexError) (error : FromHexError) → (error ≡ OutOfMemory) ⊎ (r ≡ Err error) → error ≢ OutOfMemory → is_ok r ≡ false
not_decoded r error cause other = ⊎_elim (λ (e : error ≡ OutOfMemory). absurd (other e)) (λ (e : r ≡ Err error). rw e refl) cause
