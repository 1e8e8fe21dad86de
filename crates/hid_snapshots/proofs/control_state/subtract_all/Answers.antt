use Rattle.std.proofs.Common.{◌≡◌, ◌<◌, ◌∙◌, ◌-ℤ◌, to_z, of_z, w64, length, pos, negsuc, sym, ap, arith, rules, ℤ}
use Rattle.std.proofs.lemmas.Int.{to_z-of_z}
use Rattle.hid_snapshots.specs.ControlStates.{is_i32}
use Rattle.hid_snapshots.specs.Parts.{differences}
use Rattle.hid_snapshots.proofs.FillLemmas.{zip_next, zip_there, filled, length_map_zip}
use Rattle.hid_snapshots.proofs.PartLemmas.{motion_at}
use Rattle.hid_snapshots.proofs.control_state.subtract_all.Goals as goal

pub difference-rest-requires-clause-amount : goal.difference-rest-requires-clause-amount
difference-rest-requires-clause-amount c =
    let number : to_z w64 (of_z w64 c.amount_at-amount.result) ≡ c.amount_at-amount.result = search (rules, to_z-of_z) in
    let there = zip_there (λ p. p.0 -ℤ p.1) c.args.amounts.now c.loop-index.amounts c.args.others.now c.loop-index.index c.amount_at-amount.result c.requires.len c.loop-index.invariant c.amount_at-amount.ensures in
    ap is_i32 number ∙ motion_at (negsuc 0x7FFF_FFFF) (pos 0x7FFF_FFFF) c.args.amounts.now c.loop-index.index c.amount_at-amount.result c.requires.amounts there

pub difference-rest-requires-clause-other : goal.difference-rest-requires-clause-other
difference-rest-requires-clause-other c =
    let number : to_z w64 (of_z w64 c.amount_at-other.result) ≡ c.amount_at-other.result = search (rules, to_z-of_z) in
    ap is_i32 number ∙ motion_at (negsuc 0x7FFF_FFFF) (pos 0x7FFF_FFFF) c.args.others.now c.loop-index.index c.amount_at-other.result c.requires.others c.amount_at-other.ensures

pub loop-index-preserved : goal.loop-index-preserved
loop-index-preserved c =
    let within : c.loop-index.index < length c.args.amounts.now = omega arith in
    let kept : to_z w64 (of_z w64 c.difference-rest.result) ≡ c.difference-rest.result = search (rules, to_z-of_z) in
    let amount : to_z w64 (of_z w64 c.amount_at-amount.result) ≡ c.amount_at-amount.result = search (rules, to_z-of_z) in
    let other : to_z w64 (of_z w64 c.amount_at-other.result) ≡ c.amount_at-other.result = search (rules, to_z-of_z) in
    zip_next (λ p. p.0 -ℤ p.1) c.args.amounts.now c.loop-index.amounts c.args.others.now c.loop-index.index c.amount_at-amount.result c.amount_at-other.result _ c.requires.len c.loop-index.invariant c.amount_at-amount.ensures c.amount_at-other.ensures within
    (kept ∙ c.difference-rest.ensures ∙ ap (λ (x : ℤ). x -ℤ to_z w64 (of_z w64 c.amount_at-other.result)) amount ∙ ap (λ (x : ℤ). c.amount_at-amount.result -ℤ x) other)

pub returns : goal.returns
returns c =
    let target = differences c.args.amounts.now c.args.others.now in
    let len : length target ≡ length c.args.amounts.now = length_map_zip (λ (p : ℤ × ℤ). p.0 -ℤ p.1) c.args.amounts.now c.args.others.now (sym c.requires.len) in
    c.loop-index.invariant ∙ filled target c.args.amounts.now c.loop-index.index (omega arith) (omega arith)
