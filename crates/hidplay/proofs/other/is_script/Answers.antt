use Rattle.std.proofs.Common.{rules, sym, ◌∙◌}
use Rattle.hidplay.proofs.OtherLemmas.{passed_over, said_there, last_line}
use Rattle.hidplay.proofs.other.is_script.Goals as goal

pub returns-in-Some-begins_script : goal.returns-in-Some-begins_script
returns-in-Some-begins_script c =
    let is_one = c.in-Some-begins_script.is_one in
    said_there c.loop-line.rest.now c.in-Some.line.now c.in-Some.behind.now c.begins_script.result is_one c.in-Some.ensures.0 c.in-Some.ensures.1
    c.begins_script.ensures (search rules) ∙ sym c.loop-line.invariant

pub loop-line-preserved : goal.loop-line-preserved
loop-line-preserved c =
    c.loop-line.invariant
    ∙ passed_over c.loop-line.rest.now c.in-Some.line.now c.in-Some.behind.now c.begins_script.result c.in-Some.ensures.0 c.in-Some.ensures.1
    c.begins_script.ensures (search rules)

pub returns : goal.returns
returns c =
    c.unwrap_or.ensures ∙ last_line c.loop-line.rest.now c.begins_script-2.result c.in_default.ensures c.begins_script-2.ensures
    ∙ sym c.loop-line.invariant
