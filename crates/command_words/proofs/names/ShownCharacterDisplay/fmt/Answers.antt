use Rattle.std.proofs.Common.{◌∙◌, sym}
use Rattle.std.proofs.lemmas.Bool.{cond-true}
use Rattle.std.proofs.Output.{has_written_of_eq}
use Rattle.command_words.proofs.NameLemmas.{escaped_digits}
use Rattle.command_words.proofs.names.ShownCharacterDisplay.fmt.Goals as goal

pub returns-then-is_escaped-clause-writes : goal.returns-then-is_escaped-clause-writes
returns-then-is_escaped-clause-writes g c =
    let is = sym c.is_escaped.ensures.escaped ∙ c.if-is_escaped.true in
    λ plain done.
    has_written_of_eq _ _ _ _ _ (sym (cond-true _ _ _ is))
    ((rw (c.laid_out.ensures, c.in_radix.ensures, c.from-code.ensures, escaped_digits c.args.self.now.0) at c.write.ensures.writes) plain done)
