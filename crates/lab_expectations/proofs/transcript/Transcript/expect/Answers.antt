use Rattle.std.proofs.Common.{sym, ap, ◌∙◌, arith}
use Rattle.lab_expectations.specs.Expectations.{Met, parts_of}
use Rattle.lab_expectations.proofs.LookingLemmas.{end_behind}
use Rattle.lab_expectations.proofs.transcript.Transcript.expect.Goals as goal

pub returns-clause-left : goal.returns-clause-left
returns-clause-left c = λ _.
    sym (rw c.waiting.ensures at c.in-Met.ensures.found)
    ∙ ap (λ text. Met (parts_of text)) (sym (c.forget_expected.ensures.waits ∙ end_behind c.args.self.now.text.items c.in-Met.rest.now c.args.self.now.from _ (rw c.waiting.ensures at c.in-Met.ensures.end.0) (rw c.waiting.ensures at c.in-Met.ensures.end.1) (omega arith)))
