use Rattle.std.proofs.Common.{ap, ◌∙◌, take, drop}
use Rattle.std.specs.Char.{is_ascii_whitespace}
use Rattle.hid_input.proofs.SplitLemmas.{part_end, rest_from}
use Rattle.hid_input.proofs.text.split_word.Goals as goal

pub returns-clause-word : goal.returns-clause-word
returns-clause-word c = ap (λ k. take k c.args.text.now) (part_end is_ascii_whitespace c.args.text.now _ (rw c.space_place.ensures.place at c.unwrap_or-end.ensures))

pub returns-clause-rest : goal.returns-clause-rest
returns-clause-rest c = rest_from c.args.text.now _ ∙ ap (λ k. drop k c.args.text.now) (part_end is_ascii_whitespace c.args.text.now _ (rw c.space_place.ensures.place at c.unwrap_or-end.ensures))
