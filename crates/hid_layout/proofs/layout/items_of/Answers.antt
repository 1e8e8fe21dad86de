use Rattle.std.proofs.Common.{map, ap, ◌∙◌, arith}
use Rattle.std.proofs.lemmas.List.{length-drop, take_all}
use Rattle.hid_layout.specs.Layout.{item_of}
use Rattle.hid_layout.proofs.layout.items_of.Goals as goal

pub loop-field-init : goal.loop-field-init
loop-field-init c = (c.in_ok-items.ensures.items, omega (arith, c.in_ok-items.ensures.len, c.in_ok-items.ensures.capacity))

pub push_reserved-requires : goal.push_reserved-requires
push_reserved-requires c = omega (arith, length-drop c.loop-field.field-index c.args.fields.now)

pub returns : goal.returns
returns c = c.loop-field.invariant.0 ∙ ap (map (item_of c.args.reports.now)) (take_all c.loop-field.field-index c.args.fields.now (omega arith))
