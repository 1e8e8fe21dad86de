use Rattle.lab_expectations.proofs.LookingLemmas.{required_end, required_found, required_passed}
use Rattle.lab_expectations.proofs.looking.first_required.Goals as goal

pub returns-in-None : goal.returns-in-None
returns-in-None c = required_end c.loop-line.rest.now _ c.loop-line.invariant c.in-None.ensures

pub returns-then-not-is_optional : goal.returns-then-not-is_optional
returns-then-not-is_optional c =
    required_found c.loop-line.rest.now c.in-Some.line.now c.in-Some.more.now _ _ c.loop-line.invariant c.in-Some.ensures.0 c.in-Some.ensures.1 c.is_optional.ensures c.if-not-is_optional.true

pub loop-line-preserved : goal.loop-line-preserved
loop-line-preserved c =
    required_passed c.loop-line.rest.now c.in-Some.line.now c.in-Some.more.now _ _ c.loop-line.invariant c.in-Some.ensures.0 c.in-Some.ensures.1 c.is_optional.ensures c.if-not-is_optional.false
