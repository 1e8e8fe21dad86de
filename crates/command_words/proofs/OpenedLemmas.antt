-- Words that aren't UTF-8.
use Rattle.std.proofs.Common.{◌≡◌, ℕ, List, Option, None, false, ap, sym, ◌∙◌}
use Rattle.std.specs.Option.{option_map}
use Rattle.std.specs.Str.{is_utf8}
use Rattle.std.proofs.lemmas.Bool.{cond-false}
use Rattle.command_words.specs.Opened.{path_at, opened_word, word_text}

-- a word that isn't UTF-8 is that of its path
pub word_of_path : (files : Option (List ℕ)) (place : ℕ) (bytes : List ℕ) (path : Option (List ℕ)) → is_utf8 bytes ≡ false → path ≡ path_at files place
    → word_text files place bytes ≡ option_map (opened_word bytes) path
word_of_path files place bytes path other same = cond-false _ _ _ other ∙ ap (option_map (opened_word bytes)) (sym same)

-- a word that isn't UTF-8 and has no path is none
pub no_word : (files : Option (List ℕ)) (place : ℕ) (bytes : List ℕ) (path : Option (List ℕ)) → is_utf8 bytes ≡ false → path ≡ path_at files place → path ≡ None
    → word_text files place bytes ≡ None
no_word files place bytes path other same none = word_of_path files place bytes path other same ∙ ap (option_map (opened_word bytes)) none
