-- Words of files that are opened by another path than their name (our choice: docs/RECORDINGS.md).
use Rattle.std.specs.Prelude.{ℕ, Bool, not, ◌&&◌, List, [], ◌∷◌, ◌==◌, ◌++◌, length, if◌then◌else◌, Option, None, Some}
use Rattle.std.specs.List.{find, slice_split, position_or_len, before_first, after_first}
use Rattle.std.specs.Option.{option_and_then, option_map}
use Rattle.std.specs.Str.{bytes_eq, is_utf8}
use Rattle.std.specs.Fmt.{decimal}
use Rattle.command_words.specs.Names.{name_text, shown_bytes}

-- the name in a word: what stands before a NUL, which no word of a command line has; without one the word is the name
abbrev pub shown_name : List ℕ → List ℕ
shown_name word = before_first (λ b. b == 0) word

-- a path, if it isn't empty
abbrev pub some_path : List ℕ → Option (List ℕ)
some_path [] = None
some_path (first ∷ path) = Some (first ∷ path)

-- the path by which the file is opened: what stands after the NUL, and none where nothing does; without a NUL the name
abbrev pub path_of : List ℕ → Option (List ℕ)
path_of word = if position_or_len (λ b. b == 0) word == length word then Some word else some_path (after_first (λ b. b == 0) word)

-- a blank, which parts what the launcher says of files
abbrev pub is_blank : ℕ → Bool
is_blank byte = byte == 32

-- a text has the sign =
abbrev pub has_sign : List ℕ → Bool
has_sign text = not (position_or_len (λ b. b == 61) text == length text)

-- what is said of a file is of the name at this place: the place stands in front of the sign
abbrev pub is_at : List ℕ → List ℕ → Bool
is_at place file = has_sign file && bytes_eq (before_first (λ b. b == 61) file) place

-- what stands after the sign
abbrev pub behind_sign : List ℕ → Option (List ℕ)
behind_sign file = if has_sign file then Some (after_first (λ b. b == 61) file) else None

-- the path of the first file that is said to be of a place
abbrev pub opened_path : List ℕ → List ℕ → Option (List ℕ)
opened_path files place = option_and_then behind_sign (find (is_at place) (slice_split is_blank files))

-- the path of the word at a place, where the launcher says something
abbrev pub path_at : Option (List ℕ) → ℕ → Option (List ℕ)
path_at None place = None
path_at (Some files) place = opened_path files (decimal place)

-- the word by which a file is opened whose name isn't UTF-8: the name as it is printed, a NUL, and the path
abbrev pub opened_word : List ℕ → List ℕ → List ℕ
opened_word bytes path = shown_bytes bytes ++ 0 ∷ path

-- A word as text: its bytes if they are UTF-8, else the word by which its file is opened. None where the launcher says nothing.
abbrev pub word_text : Option (List ℕ) → ℕ → List ℕ → Option (List ℕ)
word_text files place bytes = if is_utf8 bytes then Some bytes else option_map (opened_word bytes) (path_at files place)

-- a word as it is printed: the name in it
abbrev pub shown_word : List ℕ → List ℕ
shown_word word = name_text (shown_name word)
