use Rattle.std.proofs.Common.{arith}
use Rattle.hid_report_descriptor.proofs.listing.into_fields.Goals as goal

pub returns : goal.returns
returns c before s = record {
  heads = s.fields_there.heads;
  reports = s.fields_there.reports;
  ordered = c.args.parser.fields.reports.ordered;
  entries = s.fields_there.entries;
  paths = s.fields_there.paths;
  numbered = s.numbered_there;
  few = omega (arith, c.args.parser.fields.bounded);
}
