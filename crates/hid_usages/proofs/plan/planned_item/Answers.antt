use Rattle.std.proofs.Common.{arith}
use Rattle.hid_usages.proofs.plan.planned_item.Goals as goal

pub overflow_add-first : goal.overflow_add-first
overflow_add-first c =
    let laid = c.item_at-item.ensures.layout in
    let item = c.item_at-item.result.now in
    omega (arith, c.first_bit.ensures.value, laid.inside c.args.place item c.item_at-item.ensures.item, laid.short item.report)

pub planned_kind-requires : goal.planned_kind-requires
planned_kind-requires c = λ no_padding.
    c.item_at-item.ensures.layout.elements c.args.place c.item_at-item.result.now c.item_at-item.ensures.item no_padding
