use Rattle.hid_report_descriptor.proofs.OrderLemmas.{report_place-found, report_place-absent}
use Rattle.hid_layout.proofs.layout.place_of.Goals as goal

pub returns-in-Ok : goal.returns-in-Ok
returns-in-Ok c = report_place-found c.args.kind c.args.id c.args.reports.now c.in-Ok.i c.in-Ok.ensures.found

pub returns-in-Err : goal.returns-in-Err
returns-in-Err c = report_place-absent c.args.kind c.args.id c.args.reports.now c.in-Err.ensures.absent.none
