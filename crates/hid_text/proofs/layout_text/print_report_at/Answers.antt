use Rattle.hid_text.proofs.LayoutLemmas.{report_printed}
use Rattle.hid_text.proofs.layout_text.print_report_at.Goals as goal

pub returns : goal.returns
returns c = report_printed c.args.layout.now c.args.r c.report_bytes.result c.reports.result.now _ _ _ _ c.reports.ensures c.requires c.report_bytes.ensures c.print_report.ensures
