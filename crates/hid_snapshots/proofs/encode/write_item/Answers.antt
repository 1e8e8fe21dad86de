use Rattle.std.proofs.Common.{◌+◌, ◌*◌, ℕ, ap, ◌∙◌, length, sym, subst, arith}
use Rattle.hid_fields.specs.Field.{IsOutside}
use Rattle.hid_fields.specs.Value.{is_negative}
use Rattle.hid_snapshots.specs.Numbers.{numbers_in}
use Rattle.hid_snapshots.specs.Encoding.{numbers_at}
use Rattle.hid_snapshots.proofs.EncodingLemmas.{each_fits}
use Rattle.hid_snapshots.proofs.encode.write_item.Goals as goal

pub put_all-requires-clause-fits : goal.put_all-requires-clause-fits
put_all-requires-clause-fits g c =
    rw c.send_item-numbers.ensures
    (each_fits c.args.item.now
    (numbers_at c.args.layout.now c.args.i c.args.state.now) c.requires.elements c.requires.can)

pub returns-clause-written : goal.returns-clause-written
returns-clause-written g c =
    ap (λ (b : ℕ). numbers_in c.put_all.new.bytes (b + c.args.item.now.offset) c.args.item.now.size (is_negative c.args.item.now.min) c.args.item.now.count) (sym c.first_bit.ensures.value)
    ∙ c.put_all.ensures.numbers (is_negative c.args.item.now.min) (rw c.send_item-numbers.ensures c.requires.can.fit)
    ∙ c.send_item-numbers.ensures

pub put_all-requires-clause-one_each : goal.put_all-requires-clause-one_each
put_all-requires-clause-one_each g c = ap length c.send_item-numbers.ensures ∙ c.requires.can.one_each

pub put_all-requires-clause-inside : goal.put_all-requires-clause-inside
put_all-requires-clause-inside g c = omega (arith, c.requires.room, c.first_bit.ensures.value)

pub returns-clause-others : goal.returns-clause-others
returns-clause-others g c = λ n outside.
    c.put_all.ensures.others n (subst (λ (b : ℕ). IsOutside (b + c.args.item.now.offset) (c.args.item.now.size * c.args.item.now.count) n) (sym c.first_bit.ensures.value) outside)
