use Rattle.std.proofs.Common.{◌++◌, chars, sym, ap, ◌∙◌, append_assoc, append-nil, rules}
use Rattle.std.specs.List.{flat_map}
use Rattle.std.proofs.lemmas.List.{nil_from_length}
use Rattle.std.proofs.lemmas.Str.{chars-nil, chars_past_char, IsUtf8-past_char}
use Rattle.std.proofs.Output.{has_written_append, has_written_of_eq}
use Rattle.command_words.specs.Names.{character_text}
use Rattle.command_words.proofs.names.FileNameDisplay.fmt.Goals as goal

pub loop-character-preserved : goal.loop-character-preserved
loop-character-preserved g c =
    let step = c.in-Some.ensures.steps.0 in
    let held = c.loop-character.invariant in (
      IsUtf8-past_char _ _ _ held.0 step,
      λ plain.
          let now = held.1 plain in
          let text = character_text c.in-Some.character in (
            now.0 ++ text,
            has_written_append _ _ _ _ _ _ now.1 (search rules),
            append_assoc now.0 text _ ∙ ap (λ l. now.0 ++ flat_map character_text l) (sym (chars_past_char _ _ _ held.0 step)) ∙ now.2,
          ),
    )

pub returns-clause-writes : goal.returns-clause-writes
returns-clause-writes g c =
    λ plain _.
    let now = c.loop-character.invariant.1 plain in
    let none = ap chars (nil_from_length _ c.in-None.ensures.steps.0.0) ∙ chars-nil in
    has_written_of_eq _ _ _ _ _ (sym (append-nil now.0) ∙ ap (λ l. now.0 ++ flat_map character_text l) (sym none) ∙ now.2) now.1
