use Rattle.std.proofs.Common.{rules, tests}
use Rattle.std.proofs.lemmas.Iterator.Search.{any_from_yields_List}
use Rattle.std.proofs.lemmas.Iterator.Splits.{YieldsList-from_slice_split}
use Rattle.std.specs.Char.{is_ascii_whitespace}
use Rattle.hid_input.specs.Items.{is_long_hex}
use Rattle.hid_input.proofs.items.has_long_hex.Goals as goal

pub returns : goal.returns
returns c =
    any_from_yields_List is_long_hex _ _ _ c.any.ensures.ran
    (YieldsList-from_slice_split _ is_ascii_whitespace c.args.line.now c.split.ensures.rest c.split.ensures.done c.split.ensures.closure (λ x r q k. search (rules, tests)))
    (λ x b q k. search (rules, tests))
