use Rattle.std.proofs.Common.{◌≡◌, drop}
use Rattle.hid_drawing.specs.Words.{choice_from}
use Rattle.hid_drawing.proofs.captions.print_choice_from.Given as goal

-- what lies up to the end of the rest is what lies up to the end of all
abbrev pub invariant-loop-entry : goal.invariant-loop-entry
invariant-loop-entry l = choice_from l.first l.end (drop l.entry-index l.more) ≡ choice_from l.first l.fn.last l.more
