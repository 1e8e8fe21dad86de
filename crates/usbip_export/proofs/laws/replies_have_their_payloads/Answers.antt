use Rattle.usbip_export.proofs.PayloadLemmas.{report_has_payload, submit_has_payload}
use Rattle.usbip_export.proofs.laws.replies_have_their_payloads.Goals as goal

pub returns-clause-submit : goal.returns-clause-submit
returns-clause-submit c = submit_has_payload

pub returns-clause-report : goal.returns-clause-report
returns-clause-report c = report_has_payload
