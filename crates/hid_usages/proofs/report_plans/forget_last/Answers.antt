use Rattle.std.proofs.Common.{◌∙◌, get_or, map, arith}
use Rattle.std.proofs.lemmas.Option.{slice_get-get_or}
use Rattle.hid_snapshots.proofs.FillLemmas.{map_next, filled}
use Rattle.hid_usages.specs.PlannedReports.{without_last}
use Rattle.hid_usages.proofs.LastLemmas.{forgotten_length}
use Rattle.hid_usages.proofs.report_plans.forget_last.Goals as goal

pub loop-k-preserved : goal.loop-k-preserved
loop-k-preserved c =
    map_next without_last c.args.reports.now c.loop-k.reports c.loop-k.k (get_or c.loop-k.reports c.loop-k.k c.index-reports-k.result) c.forget.new.self c.loop-k.invariant
    (slice_get-get_or c.loop-k.reports c.loop-k.k c.index-reports-k.result (omega arith)) (omega (arith, c.loop-k.auto.reports)) c.forget.ensures

pub returns : goal.returns
returns c =
    let many = forgotten_length c.args.reports.now in
    c.loop-k.invariant ∙ filled (map without_last c.args.reports.now) c.args.reports.now c.loop-k.k (omega (arith, many, c.loop-k.auto.reports)) (omega (arith, many))
