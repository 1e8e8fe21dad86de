use Rattle.std.proofs.Common.{◌+◌, ◌-◌, ◌/◌, ◌%◌, min, refl, rules}
use Rattle.hid_usages.proofs.RangeLemmas.{holds_span}
use Rattle.hid_usages.proofs.take_plan.elements_of_size.Goals as goal

pub returns : goal.returns
returns c =
    let at = c.args.at in
    let size = c.args.size in
    let span = c.args.span in
    holds_span at size c.args.count span _ ((span.first - at) / size) ((span.end - at) / size + min 1 ((span.end - at) % size)) c.requires.size refl refl (search rules) (search rules)
