use Rattle.std.proofs.lemmas.Result.{on_ok_weaker}
use Rattle.hid_report_descriptor.proofs.LocalSteps.{locals_added, adds_item}
use Rattle.hid_report_descriptor.proofs.locals.Locals.take.Goals as goal

pub returns : goal.returns
returns c = on_ok_weaker c.add.result (λ adds before h is_old. locals_added before _ _ _ h is_old (adds_item _ _ _ _ c.requires.prefix adds)) c.add.ensures
