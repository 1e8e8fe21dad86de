use Rattle.std.proofs.Common.{◌≡◌, ◌∙◌, Bool, false, not, Option, Some, IfSome, ℤ, to_z, of_z, w64, sym, ap, subst, rules}
use Rattle.std.proofs.lemmas.Int.{to_z-of_z}
use Rattle.hid_usages.specs.Keeping.{NamesNoNewKey}
use Rattle.hid_usages.specs.Reading.{names_rollover}
use Rattle.hid_usages.specs.KeyArrays.{keys_of_array, usages_of_array}
use Rattle.hid_usages.proofs.ElementLemmas.{same_option}
use Rattle.hid_usages.proofs.key_array.add_next_key.Goals as goal

pub returns-then-eq-clause-rolls : goal.returns-then-eq-clause-rolls
returns-then-eq-clause-rolls c =
    let us = usages_of_array c.args.array.now in
    let n = to_z w64 (of_z w64 c.args.number.now) in
    let there : n ≡ c.args.number.now = search (rules, to_z-of_z) in
    let is : c.args.before ≡ Some c.args.number.now = same_option c.args.before (Some n) (ap (λ (b : Bool). not b) (sym c.eq.ensures ∙ c.if-eq.true)) ∙ ap (λ (v : ℤ). Some v) there in
    let off : names_rollover c.args.array.now.item.now us c.args.number.now ≡ false = subst (λ (o : Option ℤ). IfSome o (λ v. names_rollover c.args.array.now.item.now us v ≡ false)) is c.requires.before in
    sym (ap (λ (b : Bool). not b) off)

pub returns-then-eq-clause-keys : goal.returns-then-eq-clause-keys
returns-then-eq-clause-keys c = λ on numbers none so_far.
    let us = usages_of_array c.args.array.now in
    let n = to_z w64 (of_z w64 c.args.number.now) in
    let there : n ≡ c.args.number.now = search (rules, to_z-of_z) in
    let is : c.args.before ≡ Some c.args.number.now = same_option c.args.before (Some n) (ap (λ (b : Bool). not b) (sym c.eq.ensures ∙ c.if-eq.true)) ∙ ap (λ (v : ℤ). Some v) there in
    so_far ∙ subst
    (λ (o : Option ℤ). NamesNoNewKey c.args.array.now.item.now numbers (keys_of_array c.args.array.now) o) is none

pub returns-else-eq-clause-keys : goal.returns-else-eq-clause-keys
returns-else-eq-clause-keys c = λ on numbers none so_far. c.add_key.ensures.keys on numbers so_far
