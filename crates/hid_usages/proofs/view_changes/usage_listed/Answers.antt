use Rattle.std.proofs.Common.{◌∙◌}
use Rattle.hid_usages.proofs.UsageLemmas.{usage_of-is}
use Rattle.hid_usages.proofs.view_changes.usage_listed.Goals as goal

pub returns-else-entries-le-FEW_RANGES : goal.returns-else-entries-le-FEW_RANGES
returns-else-entries-le-FEW_RANGES c = c.usage.ensures ∙ usage_of-is c.args.layout.now c.args.item c.args.entries.now c.args.place c.requires.entries
