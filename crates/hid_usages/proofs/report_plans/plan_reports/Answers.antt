use Rattle.hid_usages.proofs.LastLemmas.{all_anew}
use Rattle.hid_usages.proofs.report_plans.plan_reports.Goals as goal

pub returns : goal.returns
returns c = λ view. all_anew c.args.layout.now view (record { index = c.in_ok-index.index; reports = c.in_ok-reports.reports }) c.in_ok-index.ensures c.in_ok-reports.ensures
