-- What a table has under a word, entry by entry.
use Rattle.std.proofs.Common.{◌≡◌, ℕ, suc, ◌+◌, ◌<◌, ◌≤◌, true, false, List, ◌∷◌, length, drop, map, get_or, None, Some, Option, add-one, sym, ap, ◌∙◌}
use Rattle.std.proofs.Math.ListN.{drop_of_length-le}
use Rattle.std.proofs.Math.Seq.{drop-cons}
use Rattle.std.proofs.lemmas.Bool.{cond-true, cond-false}
use Rattle.std.specs.Str.{bytes_eq}
use Rattle.hid_text.specs.Words.{Word, look_up}

-- an entry, and those after it
entry_first : {E X : Type 0} (read : E → Word × X) (table : List E) (i : ℕ) (entry : E) (word : Word) → i < length table → entry ≡ get_or table i entry
    → look_up (map read (drop i table)) word ≡ look_up (read entry ∷ map read (drop (i + 1) table)) word
entry_first read table i entry word below is =
    ap (λ rest. look_up (map read rest) word) (drop-cons table i entry below ∙ ap (λ e. e ∷ drop (suc i) table) (sym is) ∙ ap (λ k. entry ∷ drop k table) (sym (add-one i)))

-- an entry under another word is passed over
pub entry_passed : {E X : Type 0} (read : E → Word × X) (table : List E) (i : ℕ) (entry : E) (word : Word) (all : Option X) → look_up (map read (drop i table)) word ≡ all → i < length table → entry ≡ get_or table i entry
    → false ≡ bytes_eq word (read entry).0 → look_up (map read (drop (i + 1) table)) word ≡ all
entry_passed read table i entry word all is below at other = sym (cond-false (bytes_eq word (read entry).0) (Some (read entry).1) _ (sym other)) ∙ sym (entry_first read table i entry word below at) ∙ is

-- the first under the word is what the table has
pub entry_found : {E X : Type 0} (read : E → Word × X) (table : List E) (i : ℕ) (entry : E) (word : Word) (all : Option X) → look_up (map read (drop i table)) word ≡ all → i < length table → entry ≡ get_or table i entry
    → true ≡ bytes_eq word (read entry).0 → Some (read entry).1 ≡ all
entry_found read table i entry word all is below at same = sym (cond-true (bytes_eq word (read entry).0) (Some (read entry).1) _ (sym same)) ∙ sym (entry_first read table i entry word below at) ∙ is

-- a table without one has nothing
pub no_entry : {E X : Type 0} (read : E → Word × X) (table : List E) (i : ℕ) (word : Word) (all : Option X) → look_up (map read (drop i table)) word ≡ all → length table ≤ i → None ≡ all
no_entry read table i word all is ends = sym (ap (λ rest. look_up (map read rest) word) (drop_of_length-le table ends)) ∙ is
