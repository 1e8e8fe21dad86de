use Rattle.std.proofs.Common.{◌∙◌, map, refl, ap, arith}
use Rattle.hid_snapshots.proofs.SnapshotLemmas.{written_back}
use Rattle.hid_usages.specs.PlannedReports.{without_last}
use Rattle.hid_usages.proofs.LastLemmas.{plans_forgotten}
use Rattle.hid_usages.proofs.reader.Reader.release.Goals as goal

pub invariant_of-self : goal.invariant_of-self
invariant_of-self c =
    let plans = c.self.inside.plans in
    let back = written_back c.forget_last.new.reports plans.reports.items plans.reports.len (omega arith) ∙ c.forget_last.ensures ∙ ap (map without_last) c.deref_mut.ensures.value in
    record {
      laid = c.self.invariant.laid;
      fits = c.reset.ensures.fits;
      most_events = c.self.invariant.most_events;
      planned = plans_forgotten c.self.inside.layout c.self.inside.view c.reset.new.self plans _ c.self.invariant.planned refl back;
    }
