use Rattle.std.proofs.Common.{length, ap, arith}
use Rattle.hid_text.proofs.LayoutLemmas.{report_of_item}
use Rattle.hid_text.proofs.NamedLemmas.{named_item_printed}
use Rattle.hid_text.proofs.named_text.print_named_item_at.Goals as goal

pub offset_bounds-items-i : goal.offset_bounds-items-i
offset_bounds-items-i c = record { fits = omega (arith, c.requires, ap length c.items.ensures.items, c.items.type_inv.1) }

pub bounds-items-i : goal.bounds-items-i
bounds-items-i c = omega (arith, c.requires, ap length c.items.ensures.items)

pub bounds-reports-item : goal.bounds-reports-item
bounds-reports-item c =
    rw (ap length c.reports.ensures) (report_of_item c.args.layout.now c.args.i c.items.result.now _ c.items.ensures.layout c.items.ensures.items c.requires)

pub offset_bounds-reports-item : goal.offset_bounds-reports-item
offset_bounds-reports-item c = record { fits = omega (arith, bounds-reports-item c, c.reports.type_inv.1) }

pub returns : goal.returns
returns c =
    named_item_printed c.args.layout.now c.args.i c.items.result.now _ c.reports.result.now _ c.entries.result.now c.path.result.now _ _ _ c.items.ensures.layout c.items.ensures.items c.reports.ensures c.requires c.entries.ensures c.path.ensures
    c.print_named_item.ensures
