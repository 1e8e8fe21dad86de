use Rattle.std.proofs.Common.{ℕ, List, length, ap, ◌∙◌}
use Rattle.std.proofs.lemmas.Str.Ascii.{trim_ascii_end_is}
use Rattle.hid_input.specs.Text.{line_at}
use Rattle.hid_input.proofs.strings.last_line.Goals as goal

pub returns : goal.returns
returns c = c.line_at.ensures ∙ ap (λ (t : List ℕ). line_at c.args.text.now (length t)) (trim_ascii_end_is _ _ c.trim_ascii_end.ensures.value)
