use Rattle.std.proofs.Common.{arith}
use Rattle.std.proofs.lemmas.Grind.{common_steps}
use Rattle.lab_lines.proofs.NameLemmas.{place_found, place_passed, place_end}
use Rattle.lab_lines.proofs.names.place_of.Goals as goal

pub returns-then-starts_with-clause-place : goal.returns-then-starts_with-clause-place
returns-then-starts_with-clause-place c =
    place_found c.args.text.now c.args.name.now c.loop-at.at _ c.loop-at.invariant (omega arith) (grind (arith, common_steps, c.starts_with.ensures.value, c.if-starts_with.true))

pub loop-at-preserved : goal.loop-at-preserved
loop-at-preserved c =
    place_passed c.args.text.now c.args.name.now c.loop-at.at _ c.loop-at.invariant (omega arith) (grind (arith, common_steps, c.starts_with.ensures.value, c.if-starts_with.false))

pub returns-clause-place : goal.returns-clause-place
returns-clause-place c = place_end c.args.text.now c.args.name.now c.loop-at.at _ c.loop-at.invariant (omega arith)
