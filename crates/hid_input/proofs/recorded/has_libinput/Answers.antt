use Rattle.std.proofs.Common.{rules, tests}
use Rattle.std.proofs.lemmas.Iterator.Search.{any_from_yields_List}
use Rattle.std.proofs.lemmas.Iterator.Splits.{YieldsList-from_slice_split}
use Rattle.hid_input.specs.Text.{is_newline}
use Rattle.hid_input.specs.Recorded.{is_libinput_line}
use Rattle.hid_input.proofs.recorded.has_libinput.Goals as goal

pub returns : goal.returns
returns c =
    any_from_yields_List is_libinput_line _ _ _ c.any.ensures.ran
    (YieldsList-from_slice_split _ is_newline c.args.text.now c.split.ensures.rest c.split.ensures.done c.split.ensures.closure (λ x r q k. search (rules, tests)))
    (λ x b q k. search (rules, tests))
