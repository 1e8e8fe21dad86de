use Rattle.std.proofs.Common.{ℕ, ap, ◌∙◌}
use Rattle.std.specs.Prelude.{◌==◌}
use Rattle.std.specs.List.{list_all}
use Rattle.hid_input.proofs.SplitLemmas.{rest_from}
use Rattle.hid_input.proofs.whole.are_zeros.Goals as goal

pub returns : goal.returns
returns c = c.all_zero.ensures ∙ ap (list_all (λ (b : ℕ). b == 0)) (rest_from c.args.bytes.now c.args.from)
