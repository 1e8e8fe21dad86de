use Rattle.std.proofs.Common.{◌≡◌, true, false, ◌||◌, nat_lt, length, arith, sym, ap, ◌∙◌}
use Rattle.std.proofs.lemmas.Bool.Decides.{nat_tests}
use Rattle.hid_report_descriptor.specs.Limits.{most_elements}
use Rattle.hid_report_descriptor.proofs.KeptLemmas.{too_many_kept}
use Rattle.hid_report_descriptor.proofs.field_list.KeptFields.are_too_many.Goals as goal

pub returns-then-self-elements : goal.returns-then-self-elements
returns-then-self-elements c fs k =
    let a : nat_lt c.elements.result c.args.self.now.elements ≡ true = grind (arith, nat_tests) in
    let b : nat_lt (most_elements c.args.limits) c.args.self.now.elements ≡ true = ap (λ n. nat_lt n c.args.self.now.elements) (sym c.elements.ensures) ∙ a in
    a ∙ ap (λ x. x || nat_lt 64 (length c.args.self.now.ids.list.items)) (sym b) ∙ sym (too_many_kept c.args.limits fs c.args.self.now k (omega (arith, c.args.self.now.bounded)))

pub returns-else-self-elements : goal.returns-else-self-elements
returns-else-self-elements c fs k =
    let a : nat_lt c.elements.result c.args.self.now.elements ≡ false = grind (arith, nat_tests) in
    let b : nat_lt (most_elements c.args.limits) c.args.self.now.elements ≡ false = ap (λ n. nat_lt n c.args.self.now.elements) (sym c.elements.ensures) ∙ a in
    let n : nat_lt 64 c.len.result ≡ nat_lt 64 (length c.args.self.now.ids.list.items) = ap (nat_lt 64) (omega (arith, c.len.ensures)) in
    n ∙ ap (λ x. x || nat_lt 64 (length c.args.self.now.ids.list.items)) (sym b) ∙ sym (too_many_kept c.args.limits fs c.args.self.now k (omega (arith, c.args.self.now.bounded)))
