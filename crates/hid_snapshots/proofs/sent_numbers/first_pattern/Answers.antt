use Rattle.std.proofs.Common.{◌≡◌, ◌≤◌, ◌^◌, length, rules, refl, lit<, arith}
use Rattle.std.specs.Simd.Lanes.{mask_l}
use Rattle.std.proofs.lemmas.Simd.{mask_l-lt}
use Rattle.std.proofs.Math.Nat.{pow-le-pow_right}
use Rattle.hid_snapshots.proofs.SwitchLemmas.{first_word}
use Rattle.hid_snapshots.proofs.sent_numbers.first_pattern.Goals as goal

pub overflow_cast-result : goal.overflow_cast-result
overflow_cast-result c =
    let ps = c.args.flags.now in
    let few : length ps ≤ 32 = omega arith in
    let is : c.unwrap_or.result ≡ mask_l ps = search (rules, first_word) in
    let small : 2 ^ length ps ≤ 2 ^ 32 = pow-le-pow_right {n = 2} (lit< tt) {i = length ps} {j = 32} few in
    rw is (omega (arith, mask_l-lt ps))

pub returns : goal.returns
returns c =
    let ps = c.args.flags.now in
    let few : length ps ≤ 32 = omega arith in
    let is : c.unwrap_or.result ≡ mask_l ps = search (rules, first_word) in
    record { places = ps; numbers_are = refl; some = omega arith; few = few; is = is }
