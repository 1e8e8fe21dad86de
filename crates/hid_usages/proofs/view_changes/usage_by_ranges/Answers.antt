use Rattle.std.proofs.Common.{◌∙◌, sym}
use Rattle.hid_usages.proofs.UsageLemmas.{usage_here, usages_within, usage_of-is}
use Rattle.hid_usages.proofs.view_changes.usage_by_ranges.Goals as goal

pub entries-requires : goal.entries-requires
entries-requires c = usages_within c.args.layout.now c.args.item c.args.index c.requires

pub usage_listed-requires-clause-listed : goal.usage_listed-requires-clause-listed
usage_listed-requires-clause-listed c = usages_within c.args.layout.now c.args.item c.args.index c.requires

pub returns-in-Some : goal.returns-in-Some
returns-in-Some c = usage_here c.args.layout.now c.args.item c.args.index c.in-Some.usage c.requires (usage_of-is c.args.layout.now c.args.item c.entries.result.now c.args.index c.entries.ensures ∙ sym c.usage_listed.ensures ∙ c.in-Some.is)
