use Rattle.std.proofs.Common.{◌≡◌, ℤ, ◌∙◌, to_z, of_z, w64, ap, arith, rules}
use Rattle.std.specs.Int.{int_max, int_min}
use Rattle.std.proofs.lemmas.Int.{to_z-of_z, ints, int_max_is, int_min_is}
use Rattle.hid_snapshots.proofs.control_state.clamp_amount.Goals as goal

max_either_way : (x y : ℤ) → int_max x y ≡ int_max y x
max_either_way x y = omega (arith, ints, int_max_is x y, int_max_is y x)

min_either_way : (x y : ℤ) → int_min x y ≡ int_min y x
min_either_way x y = omega (arith, ints, int_min_is x y, int_min_is y x)

pub returns : goal.returns
returns c =
    let whole : to_z w64 (of_z w64 c.max.result) ≡ c.max.result = search (rules, to_z-of_z) in
    let less : to_z w64 (of_z w64 c.min.result) ≡ c.min.result = search (rules, to_z-of_z) in
    let amount : to_z w64 (of_z w64 c.args.amount.now) ≡ c.args.amount.now = search (rules, to_z-of_z) in
    let least : to_z w64 (of_z w64 c.args.least.now) ≡ c.args.least.now = search (rules, to_z-of_z) in
    let greatest : to_z w64 (of_z w64 c.args.greatest.now) ≡ c.args.greatest.now = search (rules, to_z-of_z) in
    whole ∙ c.max.ensures.value ∙ ap (λ (x : ℤ). int_max x (to_z w64 (of_z w64 c.args.least.now))) (less ∙ c.min.ensures.value) ∙ rw (amount, least, greatest) (max_either_way (int_min c.args.amount.now c.args.greatest.now) c.args.least.now ∙ ap (int_max c.args.least.now) (min_either_way c.args.amount.now c.args.greatest.now))
