use Rattle.std.proofs.Common.{rules, tests, ℕ, List}
use Rattle.std.specs.Prelude.{not}
use Rattle.std.proofs.lemmas.Iterator.Search.{find_from_yields_List}
use Rattle.std.proofs.lemmas.Iterator.Splits.{YieldsList-from_slice_split}
use Rattle.hid_input.specs.Text.{is_newline}
use Rattle.hid_input.specs.Recorded.{is_passed}
use Rattle.hid_input.proofs.recorded.first_said.Goals as goal

pub returns : goal.returns
returns c =
    find_from_yields_List (λ (line : List ℕ). not (is_passed line)) _ _ _ c.find.ensures.ran
    (YieldsList-from_slice_split _ is_newline c.args.text.now c.split.ensures.rest c.split.ensures.done c.split.ensures.closure (λ x r q k. search (rules, tests)))
    (λ x b q k. search (rules, tests))
