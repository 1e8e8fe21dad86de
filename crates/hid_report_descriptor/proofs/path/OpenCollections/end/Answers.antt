use Rattle.std.proofs.Common.{sym, ◌∙◌}
use Rattle.hid_report_descriptor.proofs.Paths.{path_ended}
use Rattle.hid_report_descriptor.proofs.path.OpenCollections.end.Goals as goal

pub returns-in-Some-clause-matched : goal.returns-in-Some-clause-matched
returns-in-Some-clause-matched c before item h is_old = sym (path_ended before item _ _ h (sym is_old ∙ c.in-Some.ensures.items))
