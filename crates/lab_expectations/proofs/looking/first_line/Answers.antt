use Rattle.lab_expectations.proofs.LookingLemmas.{first_found, first_none}
use Rattle.lab_expectations.proofs.looking.first_line.Goals as goal

pub returns-in-Some : goal.returns-in-Some
returns-in-Some c =
    rw c.plain_line.ensures (first_found c.args.waiting.now c.in-Some.line.now c.in-Some.field-0-1.now c.in-Some.ensures.0 c.in-Some.ensures.1)

pub returns-in-None : goal.returns-in-None
returns-in-None c = first_none c.args.waiting.now c.in-None.ensures
