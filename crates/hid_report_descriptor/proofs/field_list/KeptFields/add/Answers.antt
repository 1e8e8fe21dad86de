use Rattle.std.proofs.Common.{arith, ap, ◌+◌, map}
use Rattle.hid_report_descriptor.specs.Locals.{entry_on_page}
use Rattle.hid_report_descriptor.proofs.KeptLemmas.{kept_more, id_there, few_elements}
use Rattle.hid_report_descriptor.proofs.field_list.KeptFields.add.Goals as goal

pub overflow_add-self : goal.overflow_add-self
overflow_add-self c =
    record { fits = omega (arith, c.args.self.now.bounded, c.args.self.now.counted, few_elements c.args.field.now c.requires.some c.requires.short, c.elements.ensures) }

pub returns-in_ok-add-2 : goal.returns-in_ok-add-2
returns-in_ok-add-2 c fs k =
    kept_more fs c.args.field.now (map (entry_on_page c.args.page) c.args.entries.now) c.args.path.now c.args.self.now _ k c.requires.some (omega arith) c.requires.short
    c.in_ok-push.ensures.items c.in_ok-push-2.ensures c.in_ok-add.ensures (ap (λ n. c.args.self.now.elements + n) c.elements.ensures) c.in_ok-add-2.ensures

pub returns-else-field-eq0 : goal.returns-else-field-eq0
returns-else-field-eq0 c fs k =
    kept_more fs c.args.field.now (map (entry_on_page c.args.page) c.args.entries.now) c.args.path.now c.args.self.now _ k c.requires.some (omega arith) c.requires.short
    c.in_ok-push.ensures.items c.in_ok-push-2.ensures c.in_ok-add.ensures (ap (λ n. c.args.self.now.elements + n) c.elements.ensures)
    (id_there fs c.args.field.now.kind c.args.field.now.id c.args.self.now k (omega arith) (omega (arith, c.requires.place, c.if-field-eq0.false)))

pub push-requires-2 : goal.push-requires-2
push-requires-2 c = c.requires.few

pub overflow_mul-field : goal.overflow_mul-field
overflow_mul-field c = record { fits = omega (arith, c.requires.short) }

pub add-requires : goal.add-requires
add-requires c = omega (arith, c.requires.place, c.requires.short)

pub invariant_of-self : goal.invariant_of-self
invariant_of-self c = record {
  bounded = omega (arith, c.push.ensures.len, c.requires.room);
  counted = omega (arith, c.push.ensures.len, c.args.self.now.counted);
}

pub invariant_of-self-then-field-eq0 : goal.invariant_of-self-then-field-eq0
invariant_of-self-then-field-eq0 c = record {
  bounded = omega (arith, c.in_ok-push.ensures.len, c.requires.room);
  counted = omega (arith, c.in_ok-push.ensures.len, c.args.self.now.counted, few_elements c.args.field.now c.requires.some c.requires.short, c.elements.ensures);
}

pub invariant_of-self-else-field-eq0 : goal.invariant_of-self-else-field-eq0
invariant_of-self-else-field-eq0 c = record {
  bounded = omega (arith, c.in_ok-push.ensures.len, c.requires.room);
  counted = omega (arith, c.in_ok-push.ensures.len, c.args.self.now.counted, few_elements c.args.field.now c.requires.some c.requires.short, c.elements.ensures);
}
