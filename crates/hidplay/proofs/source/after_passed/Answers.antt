use Rattle.std.proofs.Common.{◌∷◌, [], ◌++◌, rules}
use Rattle.std.proofs.lemmas.List.Elements.{All-push}
use Rattle.hidplay.specs.Source.{IsSilent}
use Rattle.hidplay.proofs.SourceLemmas.{one_more}
use Rattle.hidplay.proofs.source.after_passed.Goals as goal

pub loop-line-preserved : goal.loop-line-preserved
loop-line-preserved c =
    let held = c.loop-line.invariant in
    let line = c.in-Some.line.now in
    (held.0 ++ line ∷ [], All-push IsSilent held.0 line held.1 (c.in-Some.ensures.0, search rules), one_more c.args.text.now held.0 c.loop-line.rest.now line c.in-Some.behind.now held.2 c.in-Some.ensures.1)
