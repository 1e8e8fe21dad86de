use Rattle.std.proofs.Common.{◌∙◌, Some, ap, sym}
use Rattle.hid_report_descriptor.specs.declared.usage.Usage.{Usage}
use Rattle.hid_usages.proofs.UsageLemmas.{usages_within}
use Rattle.hid_usages.proofs.view_changes.usage_at_place.Goals as goal

pub entries-requires : goal.entries-requires
entries-requires c = usages_within c.args.layout.now c.args.item c.args.index c.requires

pub item_usages-usages-requires : goal.item_usages-usages-requires
item_usages-usages-requires c = usages_within c.args.layout.now c.args.item c.args.index c.requires

pub usage_in_range-requires : goal.usage_in_range-requires
usage_in_range-requires c = c.item_usages-usages.ensures.fits

pub returns-then-index-usages : goal.returns-then-index-usages
returns-then-index-usages c = c.item_usages-usages.ensures.each c.args.index c.if-index-usages.true c.requires ∙ ap (λ (u : Usage). Some u) (sym c.usage_in_range.ensures)
