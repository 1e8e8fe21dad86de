use Rattle.std.proofs.Common.{◌∙◌, refl, sym}
use Rattle.hid_usages.proofs.LastLemmas.{named_whole}
use Rattle.hid_usages.proofs.TakeLemmas.{named_input}
use Rattle.hid_usages.proofs.view.View.take_report.Goals as goal

pub take_named-requires-clause-received : goal.take_named-requires-clause-received
take_named-requires-clause-received g c = record {
  input = named_input c.args.layout.now c.args.bytes.now c.in-Ok.report (sym c.input_report.ensures ∙ c.in-Ok.is);
  whole = named_whole c.args.layout.now c.args.bytes.now c.in-Ok.report (sym c.input_report.ensures ∙ c.in-Ok.is);
}

pub returns-in-Ok-clause-taken : goal.returns-in-Ok-clause-taken
returns-in-Ok-clause-taken g c = (c.in-Ok.report, sym c.input_report.ensures ∙ c.in-Ok.is, c.take_named.ensures.view, c.take_named.ensures.appends.items)

pub returns-in-Err-clause-taken : goal.returns-in-Err-clause-taken
returns-in-Err-clause-taken g c = (sym c.input_report.ensures ∙ c.in-Err.is, refl, refl)
