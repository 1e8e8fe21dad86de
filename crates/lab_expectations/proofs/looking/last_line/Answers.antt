use Rattle.std.specs.Option.{option_map}
use Rattle.lab_expectations.proofs.LookingLemmas.{last_end, last_passed}
use Rattle.lab_expectations.proofs.looking.last_line.Goals as goal

pub loop-line-preserved : goal.loop-line-preserved
loop-line-preserved c =
    rw c.plain_line.ensures
    (last_passed (option_map (λ line. line.now) c.loop-line.last) c.loop-line.rest.now c.in-Some.line.now c.in-Some.more.now _ c.loop-line.invariant c.in-Some.ensures.0 c.in-Some.ensures.1)

pub returns : goal.returns
returns c = last_end (option_map (λ line. line.now) c.loop-line.last) c.loop-line.rest.now _ c.loop-line.invariant c.in_default.ensures
