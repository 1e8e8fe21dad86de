use Rattle.std.proofs.Common.{◌≡◌, ◌∙◌, sym, ap, true, false, Bool, List, length, take, arith}
use Rattle.std.specs.List.{slice_set}
use Rattle.std.proofs.Math.Seq.{take-set-lt}
use Rattle.std.proofs.lemmas.List.{length-set}
use Rattle.hid_layout.specs.Controls.{is_key}
use Rattle.hid_usages.specs.KeyArrays.{keys_of_array, usages_of_array}
use Rattle.hid_usages.proofs.PressLemmas.{key_is, key_place, pressed, not_pressed}
use Rattle.hid_snapshots.specs.Words.{is_on}
use Rattle.hid_usages.proofs.RoomLemmas.{on_elsewhere}
use Rattle.hid_usages.proofs.key_array.set_key.Goals as goal

pub set-requires : goal.set-requires
set-requires c =
    let on : is_key c.args.array.now.item.now c.args.place c.args.usage.now ≡ true = key_is c.args.array.now.item.now c.args.number.now c.args.place c.args.usage.now c.requires.can.fits c.requires.number c.requires.most ∙ sym c.is_pressable.ensures ∙ c.if-is_pressable.true in
    omega (arith, key_place c.args.array.now.item.now (usages_of_array c.args.array.now) c.args.place c.args.usage.now c.requires.usage on, c.requires.can.room)

pub returns-then-is_pressable-clause-keys : goal.returns-then-is_pressable-clause-keys
returns-then-is_pressable-clause-keys c = λ numbers is.
    let on : is_key c.args.array.now.item.now c.args.place c.args.usage.now ≡ true = key_is c.args.array.now.item.now c.args.number.now c.args.place c.args.usage.now c.requires.can.fits c.requires.number c.requires.most ∙ sym c.is_pressable.ensures ∙ c.if-is_pressable.true in
    let within = key_place c.args.array.now.item.now (usages_of_array c.args.array.now) c.args.place c.args.usage.now c.requires.usage on in
    let n = length (keys_of_array c.args.array.now) in
    ap (λ (xs : List Bool). take n xs) c.set.ensures ∙ take-set-lt n c.args.named.now c.args.place true within ∙ ap (λ (xs : List Bool). slice_set xs c.args.place true) is
    ∙ pressed c.args.array.now.item.now (usages_of_array c.args.array.now) numbers c.args.number.now c.args.place c.args.usage.now c.requires.usage c.requires.number on

pub returns-then-is_pressable-clause-others : goal.returns-then-is_pressable-clause-others
returns-then-is_pressable-clause-others c =
    let on : is_key c.args.array.now.item.now c.args.place c.args.usage.now ≡ true = key_is c.args.array.now.item.now c.args.number.now c.args.place c.args.usage.now c.requires.can.fits c.requires.number c.requires.most ∙ sym c.is_pressable.ensures ∙ c.if-is_pressable.true in
    let within = key_place c.args.array.now.item.now (usages_of_array c.args.array.now) c.args.place c.args.usage.now c.requires.usage on in
    record {
      others = λ i h. ap (λ (xs : List Bool). is_on xs i) c.set.ensures ∙ on_elsewhere c.args.named.now c.args.place i true (omega (arith, within));
      len = ap (λ (xs : List Bool). length xs) c.set.ensures ∙ length-set c.args.named.now c.args.place true;
    }

pub returns-else-is_pressable-clause-keys : goal.returns-else-is_pressable-clause-keys
returns-else-is_pressable-clause-keys c = λ numbers is.
    let off : is_key c.args.array.now.item.now c.args.place c.args.usage.now ≡ false = key_is c.args.array.now.item.now c.args.number.now c.args.place c.args.usage.now c.requires.can.fits c.requires.number c.requires.most ∙ sym c.is_pressable.ensures ∙ c.if-is_pressable.false in
    is ∙ not_pressed c.args.array.now.item.now (usages_of_array c.args.array.now) numbers c.args.number.now c.args.place c.args.usage.now c.requires.usage c.requires.number off
