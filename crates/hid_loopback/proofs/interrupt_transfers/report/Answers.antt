use Rattle.std.proofs.Common.{rules, ◌≡◌, ap, sym, Ok, Err}
use Rattle.hid_gadget.specs.WholeReports.{report_result}
use Rattle.hid_loopback.specs.InterruptTransfers.{poll_result}
use Rattle.hid_loopback.proofs.InterruptLemmas.{reports}
use Rattle.hid_loopback.proofs.interrupt_transfers.report.Goals as goal

pub returns-in-Ok-clause-reports : goal.returns-in-Ok-clause-reports
returns-in-Ok-clause-reports c =
    let ended : c.report-end.result ≡ report_result c.args.gadget.now 64 = search rules in
    reports c.args.gadget.now 64 c.report-end.result _ _ c.args.driver.now c.take.new.driver c.take.result c.args.out.now.items c.take.new.out.items
    (Ok c.report-end.result) ended c.report-end.ensures.bytes c.take.ensures.takes (sym (ap (poll_result c.report-end.result) c.in-Ok.is))

pub returns-in-Err-clause-reports : goal.returns-in-Err-clause-reports
returns-in-Err-clause-reports c =
    let ended : c.report-end.result ≡ report_result c.args.gadget.now 64 = search rules in
    reports c.args.gadget.now 64 c.report-end.result _ _ c.args.driver.now c.take.new.driver c.take.result c.args.out.now.items c.take.new.out.items
    (Err c.in-Err.fault) ended c.report-end.ensures.bytes c.take.ensures.takes (sym (ap (poll_result c.report-end.result) c.in-Err.is))
