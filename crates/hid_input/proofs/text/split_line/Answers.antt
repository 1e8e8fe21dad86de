use Rattle.std.proofs.Common.{sym}
use Rattle.hid_input.specs.Text.{is_newline}
use Rattle.hid_input.proofs.SplitLemmas.{split_first, split_none, rest_from}
use Rattle.hid_input.proofs.text.split_line.Goals as goal

pub returns-in-Some-clause-lines : goal.returns-in-Some-clause-lines
returns-in-Some-clause-lines c =
    rw rest_from (split_first is_newline c.args.text.now c.in-Some.end (sym c.in-Some.ensures.place))

pub returns-in-None-clause-lines : goal.returns-in-None-clause-lines
returns-in-None-clause-lines c = split_none is_newline c.args.text.now (sym c.in-None.ensures.place)
