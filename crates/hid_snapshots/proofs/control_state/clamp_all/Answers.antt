use Rattle.std.proofs.Common.{◌≡◌, ◌<◌, ◌∙◌, to_z, of_z, w64, length, map, ap, arith, rules}
use Rattle.std.proofs.lemmas.List.{length-map}
use Rattle.std.proofs.lemmas.Int.{to_z-of_z}
use Rattle.hid_snapshots.specs.Parts.{clamp}
use Rattle.hid_snapshots.proofs.FillLemmas.{map_next, filled}
use Rattle.hid_snapshots.proofs.control_state.clamp_all.Goals as goal

pub loop-index-preserved : goal.loop-index-preserved
loop-index-preserved c =
    let within : c.loop-index.index < length c.args.amounts.now = omega arith in
    let kept : to_z w64 (of_z w64 c.clamp_amount-carried.result) ≡ c.clamp_amount-carried.result =
    search (rules, to_z-of_z) in
    let number : to_z w64 (of_z w64 c.amount_at-amount.result) ≡ c.amount_at-amount.result = search (rules, to_z-of_z) in
    map_next (clamp c.args.least.now c.args.greatest.now) c.args.amounts.now c.loop-index.amounts c.loop-index.index c.amount_at-amount.result _ c.loop-index.invariant c.amount_at-amount.ensures within
    (kept ∙ c.clamp_amount-carried.ensures ∙ ap (clamp c.args.least.now c.args.greatest.now) number)

pub returns : goal.returns
returns c =
    let target = map (clamp c.args.least.now c.args.greatest.now) c.args.amounts.now in
    let len : length target ≡ length c.args.amounts.now = length-map c.args.amounts.now _ in
    c.loop-index.invariant ∙ filled target c.args.amounts.now c.loop-index.index (omega arith) (omega arith)
