use Rattle.lab_expectations.proofs.LookingLemmas.{lines_end, line_met, line_other, line_passed, end_after}
use Rattle.lab_expectations.proofs.looking.look.Goals as goal

pub returns-in-None-clause-found : goal.returns-in-None-clause-found
returns-in-None-clause-found c = lines_end c.args.expected.now c.loop-line.rest.now _ c.loop-line.invariant.0 c.in-None.ensures

pub returns-then-is_expected_line-clause-found : goal.returns-then-is_expected_line-clause-found
returns-then-is_expected_line-clause-found c =
    line_met c.args.expected.now c.loop-line.rest.now c.in-Some.line.now c.in-Some.more.now _ _ c.loop-line.invariant.0 c.in-Some.ensures.0 c.in-Some.ensures.1 (rw c.plain_line.ensures at c.is_expected_line.ensures) c.if-is_expected_line.true

pub returns-then-is_expected_line-clause-end : goal.returns-then-is_expected_line-clause-end
returns-then-is_expected_line-clause-end c =
    end_after c.args.waiting.now c.loop-line.rest.now c.in-Some.line.now c.in-Some.more.now c.loop-line.invariant.1 c.loop-line.invariant.2 c.in-Some.ensures.1

pub returns-then-not-is_optional-clause-found : goal.returns-then-not-is_optional-clause-found
returns-then-not-is_optional-clause-found c =
    line_other c.args.expected.now c.loop-line.rest.now c.in-Some.line.now c.in-Some.more.now _ _ _ c.loop-line.invariant.0 c.in-Some.ensures.0 c.in-Some.ensures.1 (rw c.plain_line.ensures at c.is_expected_line.ensures) c.if-is_expected_line.false
    c.is_optional.ensures c.if-not-is_optional.true

pub loop-line-preserved : goal.loop-line-preserved
loop-line-preserved c =
    let after = end_after c.args.waiting.now c.loop-line.rest.now c.in-Some.line.now c.in-Some.more.now c.loop-line.invariant.1 c.loop-line.invariant.2 c.in-Some.ensures.1 in (
      line_passed c.args.expected.now c.loop-line.rest.now c.in-Some.line.now c.in-Some.more.now _ _ _ c.loop-line.invariant.0 c.in-Some.ensures.0 c.in-Some.ensures.1 (rw c.plain_line.ensures at c.is_expected_line.ensures) c.if-is_expected_line.false
          c.is_optional.ensures c.if-not-is_optional.false,
      after.0,
      after.1,
    )
