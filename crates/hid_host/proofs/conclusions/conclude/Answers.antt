use Rattle.std.proofs.Common.{Ok, Err, subst, sym}
use Rattle.std.specs.Prelude.{IfErr, OnOk}
use Rattle.hid_requests.specs.declared.request.Request.{Request}
use Rattle.hid_host.specs.Conclusions.{Concludes}
use Rattle.hid_host.proofs.conclusions.conclude.Goals as goal

pub returns-in-Config-clause-makes : goal.returns-in-Config-clause-makes
returns-in-Config-clause-makes c =
    subst (λ (request : Request). OnOk c.conclude_config.result
    (Concludes c.args.addr request c.args.phase.now c.args.bytes.now (Ok c.conclude_config.new.phase)))
    (sym c.in-Config.is)
    (c.conclude_config.ensures.makes c.args.addr)

pub returns-in-Config-clause-refused : goal.returns-in-Config-clause-refused
returns-in-Config-clause-refused c =
    subst (λ (request : Request). IfErr c.conclude_config.result
    (λ fault. Concludes c.args.addr request c.args.phase.now c.args.bytes.now (Err fault))) (sym c.in-Config.is)
    (c.conclude_config.ensures.refused c.args.addr)

pub returns-in-Report-clause-makes : goal.returns-in-Report-clause-makes
returns-in-Report-clause-makes c =
    subst (λ (request : Request). OnOk c.conclude_report.result
    (Concludes c.args.addr request c.args.phase.now c.args.bytes.now (Ok c.conclude_report.new.phase)))
    (sym c.in-Report.is)
    (c.conclude_report.ensures.makes c.args.addr)

pub returns-in-Report-clause-refused : goal.returns-in-Report-clause-refused
returns-in-Report-clause-refused c =
    subst (λ (request : Request). IfErr c.conclude_report.result
    (λ fault. Concludes c.args.addr request c.args.phase.now c.args.bytes.now (Err fault))) (sym c.in-Report.is)
    (c.conclude_report.ensures.refused c.args.addr)
