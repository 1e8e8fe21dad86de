use Rattle.std.proofs.Common.{ap, sym, ◌∙◌, rules, tests}
use Rattle.std.specs.Str.{is_utf8}
use Rattle.std.proofs.lemmas.Bool.{false_from_ne_true}
use Rattle.std.proofs.lemmas.Str.{IsUtf8-from_is_utf8, IsUtf8-string_bytes, is_utf8-from_IsUtf8}
use Rattle.command_words.proofs.words.word_of.Goals as goal

pub returns-in-Ok-clause-bytes : goal.returns-in-Ok-clause-bytes
returns-in-Ok-clause-bytes c =
    (ap (λ v. is_utf8 v.items) (sym c.in-Ok.ensures.ok) ∙ is_utf8-from_IsUtf8 _ (IsUtf8-string_bytes c.in-Ok.word), search rules)

pub returns-in-Err-clause-fault : goal.returns-in-Err-clause-fault
returns-in-Err-clause-fault c =
    (false_from_ne_true _ (λ is. let ok = c.in-Err.ensures.succeeds (IsUtf8-from_is_utf8 _ is) in search tests), search rules)
