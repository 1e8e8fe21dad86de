use Rattle.std.proofs.Common.{◌≡◌, ℕ, ◌<◌, ◌≤◌, ◌^◌, ◌∙◌, true, ap, arith, subst, sym, to_z, of_z, w64}
use Rattle.std.specs.Prelude.{ℤ, pos, neg_ℤ, ◌+ℤ◌, ◌≤ℤ◌, ◌<ℤ◌}
use Rattle.std.specs.Int.{int_min}
use lib.Signed.{mag}
use Rattle.std.proofs.lemmas.Int.{ints}
use Rattle.hid_report_descriptor.specs.Usages.{usage_list}
use Rattle.hid_layout.specs.declared.main_item.MainItem.{MainItem}
use Rattle.hid_layout.specs.Controls.{greatest_of}
use Rattle.hid_layout.specs.Codes.{names_nothing}
use Rattle.hid_layout.proofs.CodeLemmas.{IsPlaced, first_small, unnamed_low, unnamed_nothing, unnamed_named}
use Rattle.hid_layout.proofs.codes.unnamed_number.Goals as goal

as_it_is : (r : ℤ) → mag r < 2 ^ 63 → to_z w64 (of_z w64 r) ≡ r
as_it_is r m = omega (arith, ints, m)

-- the number that is given back
given : (item : MainItem) (r n : ℤ) (place : ℕ) → r ≡ int_min (to_z w64 (of_z w64 n)) (greatest_of item +ℤ pos 1) → n ≡ (item.min +ℤ pos place) → mag r < 2 ^ 63 → mag n < 2 ^ 63
    → to_z w64 (of_z w64 r) ≡ int_min (item.min +ℤ pos place) (greatest_of item +ℤ pos 1)
given item r n place e f m k = as_it_is r m ∙ e ∙ ap (λ (v : ℤ). int_min v (greatest_of item +ℤ pos 1)) (as_it_is n k ∙ f)

within_of : (min max first : ℤ) (place : ℕ) → (min +ℤ pos place) ≡ first → place ≤ 2 ^ 34 → neg_ℤ (pos (2 ^ 32)) ≤ℤ min → min ≤ℤ pos (2 ^ 32) → to_z w64 (of_z w64 first) ≤ℤ max → first ≤ℤ max
within_of min max first place e p a b h = omega (arith, ints, e, p, a, b, h)

pub place_of-requires-clause-small : goal.place_of-requires-clause-small
place_of-requires-clause-small c = first_small c.args.item.now _ _ c.requires.elements.narrow c.requires.high c.requires.some

pub returns-clause-low : goal.returns-clause-low
returns-clause-low c =
    let item = c.args.item.now in
    let us = usage_list c.args.entries.now in
    let within = within_of item.min item.max c.args.numbers.now.first c.place_of.result c.place_of.ensures.place c.place_of.ensures.small c.requires.elements.not_low c.requires.elements.not_high c.if-not-has_in_range.ensures.inside.1 in
    let p : IsPlaced item us c.args.numbers.now.first c.args.numbers.now.end c.place_of.result c.first_nothing-place.result =
    record { low = c.requires.low; high = c.requires.high; some = c.requires.some; within = within; from_is = c.place_of.ensures.place; is = c.first_nothing-place.ensures.first } in
    let same = given item c.up_to_over.result c.number_at.result c.first_nothing-place.result c.up_to_over.ensures c.number_at.ensures c.up_to_over.type_inv c.number_at.type_inv in
    subst (λ (v : ℤ). c.args.numbers.now.first ≤ℤ v) (sym same) (unnamed_low item us _ _ _ _ p)

pub returns-clause-nothing : goal.returns-clause-nothing
returns-clause-nothing c below =
    let item = c.args.item.now in
    let us = usage_list c.args.entries.now in
    let within = within_of item.min item.max c.args.numbers.now.first c.place_of.result c.place_of.ensures.place c.place_of.ensures.small c.requires.elements.not_low c.requires.elements.not_high c.if-not-has_in_range.ensures.inside.1 in
    let p : IsPlaced item us c.args.numbers.now.first c.args.numbers.now.end c.place_of.result c.first_nothing-place.result =
    record { low = c.requires.low; high = c.requires.high; some = c.requires.some; within = within; from_is = c.place_of.ensures.place; is = c.first_nothing-place.ensures.first } in
    let same = given item c.up_to_over.result c.number_at.result c.first_nothing-place.result c.up_to_over.ensures c.number_at.ensures c.up_to_over.type_inv c.number_at.type_inv in
    subst (λ (v : ℤ). names_nothing item us v ≡ true) (sym same) (unnamed_nothing item us _ _ _ _ p (subst (λ (v : ℤ). v <ℤ c.args.numbers.now.end) same below))

pub returns-clause-named : goal.returns-clause-named
returns-clause-named c v low high less =
    let item = c.args.item.now in
    let us = usage_list c.args.entries.now in
    let within = within_of item.min item.max c.args.numbers.now.first c.place_of.result c.place_of.ensures.place c.place_of.ensures.small c.requires.elements.not_low c.requires.elements.not_high c.if-not-has_in_range.ensures.inside.1 in
    let p : IsPlaced item us c.args.numbers.now.first c.args.numbers.now.end c.place_of.result c.first_nothing-place.result =
    record { low = c.requires.low; high = c.requires.high; some = c.requires.some; within = within; from_is = c.place_of.ensures.place; is = c.first_nothing-place.ensures.first } in
    let same = given item c.up_to_over.result c.number_at.result c.first_nothing-place.result c.up_to_over.ensures c.number_at.ensures c.up_to_over.type_inv c.number_at.type_inv in
    unnamed_named item us _ _ _ _ p v low (subst (λ (n : ℤ). v <ℤ n) same less)
