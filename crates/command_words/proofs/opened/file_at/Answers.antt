use Rattle.std.proofs.Common.{rules, tests, arith}
use Rattle.std.proofs.lemmas.Iterator.Search.{find_from_yields_List}
use Rattle.std.proofs.lemmas.Iterator.Splits.{YieldsList-from_str_split}
use Rattle.command_words.specs.Opened.{is_at}
use Rattle.command_words.proofs.opened.file_at.Goals as goal

pub returns : goal.returns
returns c =
    find_from_yields_List (is_at c.args.place.now) _ _ _ c.find.ensures.ran
    (YieldsList-from_str_split 32 c.args.files.now (omega arith) c.split.ensures.text c.split.ensures.has_more c.split.ensures.pattern)
    (λ x b q k. search (rules, tests))
