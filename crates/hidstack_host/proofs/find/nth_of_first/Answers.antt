use Rattle.std.proofs.Common.{◌≡◌, ℕ, ◌+◌, ◌≤◌, Bool, List, Option, filter, length, refl, subst, arith}
use Rattle.hidstack_session.specs.declared.element.HidElement.{HidElement}
use Rattle.hidstack_session.specs.Elements.{element_at}
use Rattle.hidstack_session.specs.Tables.{elements_below, one_or_none}
use Rattle.hidstack_host.specs.declared.find.Sought.TheVariants.{Found, Left}
use Rattle.hidstack_host.specs.Finding.{IsNth, is_sought}
use Rattle.hidstack_host.proofs.FindLemmas.{found_stays, nth_next}
use Rattle.hidstack_host.proofs.find.nth_of_first.Goals as goal

pub loop-index-preserved : goal.loop-index-preserved
loop-index-preserved c =
    let p : HidElement → Bool = is_sought c.args.kind c.args.usage in
    let lists : ℕ → List HidElement = elements_below c.args.layout.now c.args.item in
    let more : ℕ → List HidElement = λ n. one_or_none (element_at c.args.layout.now c.args.item n) in
    nth_next p lists more (λ n. refl) c.loop-index.index c.args.nth c.loop-index.left c.next_of.result (Left c.in-Left.rest) c.loop-index.invariant
    (subst (λ (o : Option HidElement). IsNth p (one_or_none o) c.loop-index.left c.next_of.result) c.element_at.ensures c.next_of.ensures) c.in-Left.is

pub returns-in-Found : goal.returns-in-Found
returns-in-Found c =
    let p : HidElement → Bool = is_sought c.args.kind c.args.usage in
    let lists : ℕ → List HidElement = elements_below c.args.layout.now c.args.item in
    let more : ℕ → List HidElement = λ n. one_or_none (element_at c.args.layout.now c.args.item n) in
    let within : c.loop-index.index + 1 ≤ c.args.count = omega arith in
    found_stays p lists more (λ n. refl) (c.loop-index.index + 1) c.args.count c.args.nth c.in-Found.element within
    (nth_next p lists more (λ n. refl) c.loop-index.index c.args.nth c.loop-index.left c.next_of.result (Found c.in-Found.element) c.loop-index.invariant
    (subst (λ (o : Option HidElement). IsNth p (one_or_none o) c.loop-index.left c.next_of.result) c.element_at.ensures c.next_of.ensures) c.in-Found.is)

pub returns : goal.returns
returns c =
    let end : c.loop-index.index ≡ c.args.count = omega arith in
    subst (λ (n : ℕ). length (filter (is_sought c.args.kind c.args.usage) (elements_below c.args.layout.now c.args.item n)) + c.loop-index.left ≡ c.args.nth) end c.loop-index.invariant
