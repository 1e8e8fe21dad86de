use Rattle.std.proofs.Common.{◌≡◌, ◌<◌, ◌^◌, arith, subst, sym, to_z, of_z, w64}
use Rattle.std.specs.Prelude.{ℤ, ◌<ℤ◌}
use lib.Signed.{mag}
use Rattle.std.proofs.lemmas.Int.{ints}
use Rattle.hid_report_descriptor.specs.Usages.{usage_list}
use Rattle.hid_layout.specs.EmptyCodes.{IsLeastNothing}
use Rattle.hid_layout.proofs.codes.least_nothing.Goals as goal

same_number : (r : ℤ) → mag r < 2 ^ 63 → to_z w64 (of_z w64 r) ≡ r
same_number r m = omega (arith, ints, m)

pub returns-then-number-numbers-clause-some : goal.returns-then-number-numbers-clause-some
returns-then-number-numbers-clause-some c =
    let r : ℤ = c.unnamed_number-number.result in
    let found = c.unnamed_number-number.ensures in
    let same = same_number r c.unnamed_number-number.type_inv in
    let end : r <ℤ c.args.numbers.now.end = grind (arith, ints, same, c.if-number-numbers.true) in
    subst (λ (v : ℤ). IsLeastNothing c.args.item.now (usage_list c.args.entries.now) c.args.numbers.now.first c.args.numbers.now.end v) (sym same)
    (record { low = found.low; high = end; nothing = found.nothing end; below = λ v a b. found.named v a (omega (arith, ints, b, end)) b })
