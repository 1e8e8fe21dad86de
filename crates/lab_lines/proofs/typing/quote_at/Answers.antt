use Rattle.std.proofs.Common.{arith}
use Rattle.std.proofs.lemmas.Bool.{eq-eqb, ne_eqb}
use Rattle.lab_lines.proofs.TypingLemmas.{quote_end, quote_further, quote_here, typed_shorter}
use Rattle.lab_lines.proofs.typing.quote_at.Goals as goal

pub returns-in-None-clause-value : goal.returns-in-None-clause-value
returns-in-None-clause-value c =
    let none = quote_end c.loop-more.rest.now c.in-None.ensures in omega (arith, c.loop-more.invariant.0, none.0, none.1)

pub returns-then-rest-eq34-clause-value : goal.returns-then-rest-eq34-clause-value
returns-then-rest-eq34-clause-value c =
    omega (arith, c.loop-more.invariant.0, c.loop-more.invariant.1, quote_here c.loop-more.rest.now (eq-eqb _ 34 c.if-rest-eq34.true))

pub loop-more-preserved : goal.loop-more-preserved
loop-more-preserved c =
    let further = quote_further c.loop-more.rest.now _ c.in-Some.more.now c.in-Some.ensures (ne_eqb _ 34 c.if-rest-eq34.false) in
    (omega (arith, c.loop-more.invariant.0, further), omega (arith, c.loop-more.invariant.1, typed_shorter c.loop-more.rest.now _ c.in-Some.more.now c.in-Some.ensures))
