use Rattle.std.proofs.Common.{◌∙◌, sym, ap, arith}
use Rattle.hid_layout.specs.Controls.{Item, items_of, controls_of_form}
use Rattle.hid_snapshots.specs.Parts.{has_zero}
use Rattle.hid_snapshots.proofs.FillLemmas.{all_from_pass, all_from_fail, all_past}
use Rattle.hid_snapshots.proofs.ItemLemmas.{got, form_at-is}
use Rattle.hid_snapshots.proofs.parts.has_zeros.Goals as goal

pub returns-then-not-has_zero : goal.returns-then-not-has_zero
returns-then-not-has_zero c =
    let item = got (items_of c.args.layout.now) c.loop-i.i (omega arith) in
    let heads =
    c.controls.ensures ∙ ap controls_of_form (form_at-is (items_of c.args.layout.now) c.loop-i.i item.0 item.1) in
    sym (c.loop-i.invariant
    ∙ all_from_fail (λ (it : Item). has_zero (controls_of_form it.form))
    (items_of c.args.layout.now) c.loop-i.i item.0 item.1
    (ap has_zero (sym heads) ∙ sym c.has_zero.ensures ∙ c.if-not-has_zero.true))

pub loop-i-preserved : goal.loop-i-preserved
loop-i-preserved c =
    let item = got (items_of c.args.layout.now) c.loop-i.i (omega arith) in
    let heads =
    c.controls.ensures ∙ ap controls_of_form (form_at-is (items_of c.args.layout.now) c.loop-i.i item.0 item.1) in
    c.loop-i.invariant
    ∙ all_from_pass (λ (it : Item). has_zero (controls_of_form it.form))
    (items_of c.args.layout.now) c.loop-i.i item.0 item.1
    (ap has_zero (sym heads) ∙ sym c.has_zero.ensures ∙ c.if-not-has_zero.false)

pub returns : goal.returns
returns c =
    sym (c.loop-i.invariant
    ∙ all_past (λ (it : Item). has_zero (controls_of_form it.form)) (items_of c.args.layout.now) c.loop-i.i
    (omega arith))
