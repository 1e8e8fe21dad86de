use Rattle.std.proofs.Common.{append-nil, length, sym, ap, arith}
use Rattle.hid_text.proofs.ValueLemmas.{item_whole}
use Rattle.hid_text.proofs.NamedLemmas.{named_values_found, named_values_elsewhere}
use Rattle.hid_text.proofs.named_text.print_named_values_at.Goals as goal

pub offset_bounds-items-i : goal.offset_bounds-items-i
offset_bounds-items-i c = record { fits = omega (arith, c.requires.item, ap length c.items.ensures.items, c.items.type_inv.1) }

pub bounds-items-i : goal.bounds-items-i
bounds-items-i c = omega (arith, c.requires.item, ap length c.items.ensures.items)

pub print_named_elements-requires-clause-whole : goal.print_named_elements-requires-clause-whole
print_named_elements-requires-clause-whole c = item_whole c.args.layout.now c.args.bytes.now c.args.r c.args.i c.items.result.now _ c.items.ensures.items c.requires.item c.if-item-r.true c.requires.whole

pub returns-then-item-r : goal.returns-then-item-r
returns-then-item-r c = rw (named_values_found c.args.layout.now c.args.bytes.now c.args.r c.args.i c.items.result.now _ c.items.ensures.items c.requires.item c.if-item-r.true) c.print_named_elements.ensures

pub returns-else-item-r : goal.returns-else-item-r
returns-else-item-r c = rw (named_values_elsewhere c.args.layout.now c.args.bytes.now c.args.r c.args.i c.items.result.now _ c.items.ensures.items c.requires.item c.if-item-r.false) (sym (append-nil _))
