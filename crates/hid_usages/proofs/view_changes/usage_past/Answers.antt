use Rattle.std.proofs.Common.{◌≡◌, ◌∙◌, Some, None, sym, ap, length, arith}
use Rattle.hid_report_descriptor.specs.Usages.{usage_list}
use Rattle.hid_snapshots.proofs.ItemLemmas.{got}
use Rattle.hid_usages.proofs.UsageLemmas.{usage_there, usage_found, usages_within, same_entries, usage_of-is}
use Rattle.hid_usages.proofs.view_changes.usage_past.Goals as goal

pub item_at-requires : goal.item_at-requires
item_at-requires c = usages_within c.args.layout.now c.args.item c.args.index c.requires

pub entries-requires : goal.entries-requires
entries-requires c = usages_within c.args.layout.now c.args.item c.args.index c.requires

pub usage_place-place-requires-clause-some : goal.usage_place-place-requires-clause-some
usage_place-place-requires-clause-some c =
    let has = usage_there c.args.layout.now c.args.item c.args.index c.item_at.ensures.layout c.requires in
    let same = same_entries c.args.layout.now c.args.item has.entries c.entries.result.now has.entries_there c.entries.ensures in
    omega (arith, has.some, ap (λ es. length (usage_list es)) same)

pub usage-requires : goal.usage-requires
usage-requires c = usages_within c.args.layout.now c.args.item c.args.index c.requires

pub unreachable-requires : goal.unreachable-requires
unreachable-requires c =
    let has = usage_there c.args.layout.now c.args.item c.args.index c.item_at.ensures.layout c.requires in
    let found = usage_found c.args.layout.now c.args.item c.args.index c.item_at.result.now c.entries.result.now c.usage_place-place.result has c.item_at.ensures.item c.entries.ensures c.usage_place-place.ensures in
    let usage = got (usage_list c.entries.result.now) c.usage_place-place.result found.1 in
    let none : None ≡ Some usage.0 = sym c.in-None.is ∙ c.usage.ensures ∙ usage_of-is c.args.layout.now c.args.item c.entries.result.now c.usage_place-place.result c.entries.ensures ∙ usage.1 in
    absurd (cc)

pub returns : goal.returns
returns c =
    let has = usage_there c.args.layout.now c.args.item c.args.index c.item_at.ensures.layout c.requires in
    let found = usage_found c.args.layout.now c.args.item c.args.index c.item_at.result.now c.entries.result.now c.usage_place-place.result has c.item_at.ensures.item c.entries.ensures c.usage_place-place.ensures in
    found.0 ∙ sym c.usage.ensures ∙ c.in-Some.is
