use Rattle.hid_report_descriptor.specs.declared.limits.Limits.TheVariants.{Bus}
use Rattle.hid_script.proofs.LineOutputLemmas.{one_outcome}
use Rattle.hid_script.proofs.laws.one_outcome.Goals as goal

pub returns : goal.returns
returns c =
    one_outcome (c.one_reading.ensures Bus) (c.accepted_or_refused.ensures Bus) (c.one_refusal.ensures.cause Bus) (c.one_refusal.ensures.place Bus)
    (record { tells = c.one_telling.ensures; finds = c.one_finding.ensures; attaches = c.one_attaching.ensures })
