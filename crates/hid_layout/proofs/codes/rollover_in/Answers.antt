use Rattle.std.proofs.Common.{rules, sym, None}
use Rattle.hid_layout.specs.EmptyCodes.{RollsOverAt}
use Rattle.hid_layout.proofs.EmptyCodeLemmas.{none_rolls, some_rolls, not_carried}
use Rattle.hid_layout.proofs.codes.rollover_in.Goals as goal

pub returns-in_default-clause-place : goal.returns-in_default-clause-place
returns-in_default-clause-place c us =
    let none : RollsOverAt c.args.entry.now c.args.start None = search rules in
    none_rolls c.args.item.now c.args.entry.now c.args.start none us

pub returns-then-is_encodable-clause-place : goal.returns-then-is_encodable-clause-place
returns-then-is_encodable-clause-place c us =
    some_rolls c.args.item.now c.args.entry.now c.args.start c.in-Some.place c.in-Some.ensures (sym c.if-is_encodable.ensures) us

pub returns-else-is_encodable-clause-place : goal.returns-else-is_encodable-clause-place
returns-else-is_encodable-clause-place c us =
    not_carried c.args.item.now c.args.entry.now c.args.start c.in-Some.place c.in-Some.ensures (sym c.if-is_encodable.ensures) us
