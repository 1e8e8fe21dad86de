use Rattle.std.proofs.Common.{refl, rules}
use Rattle.hid_report_descriptor.specs.declared.report.ReportKind.TheVariants.{Output}
use Rattle.hid_driver.specs.declared.ask.Ask.TheVariants.{SetReport}
use Rattle.usbip_session.proofs.session.Session.request_at.Goals as goal

pub returns : goal.returns
returns c = record {
  ask = SetReport Output c.output_id_at.result c.args.bytes;
  output = (refl, search rules, refl);
  answer = search rules;
  left = search rules;
}
