use Rattle.std.proofs.Common.{◌≡◌, ℕ, ◌+◌, ◌≤◌, Bool, List, filter, length, refl, subst, sym, arith}
use Rattle.hidstack_session.specs.declared.element.HidElement.{HidElement}
use Rattle.hidstack_session.specs.Tables.{elements_of, elements_of_item}
use Rattle.hidstack_host.specs.declared.find.Sought.TheVariants.{Found, Left}
use Rattle.hidstack_host.specs.Finding.{is_sought}
use Rattle.hidstack_host.proofs.FindLemmas.{found_stays, none_left, nth_next}
use Rattle.hidstack_host.proofs.find.nth_element.Goals as goal

pub loop-item-preserved : goal.loop-item-preserved
loop-item-preserved c =
    let p : HidElement → Bool = is_sought c.args.kind c.args.usage in
    record {
      count = nth_next p (elements_of c.args.layout.now) (elements_of_item c.args.layout.now) (λ n. refl) c.loop-item.item c.args.nth c.loop-item.left c.nth_of_item.result
          (Left c.in-Left.rest) c.loop-item.invariant.count c.nth_of_item.ensures c.in-Left.is;
      end = c.loop-item.invariant.end;
    }

pub returns-in-Found : goal.returns-in-Found
returns-in-Found c =
    let p : HidElement → Bool = is_sought c.args.kind c.args.usage in
    let end = c.loop-item.invariant.end in
    let within : c.loop-item.item + 1 ≤ length c.args.layout.now.items = omega (arith, end) in
    sym (found_stays p (elements_of c.args.layout.now) (elements_of_item c.args.layout.now) (λ n. refl) (c.loop-item.item + 1) (length c.args.layout.now.items) c.args.nth
    c.in-Found.element within
    (nth_next p (elements_of c.args.layout.now) (elements_of_item c.args.layout.now) (λ n. refl) c.loop-item.item c.args.nth c.loop-item.left c.nth_of_item.result
    (Found c.in-Found.element) c.loop-item.invariant.count c.nth_of_item.ensures c.in-Found.is))

pub returns : goal.returns
returns c =
    let p : HidElement → Bool = is_sought c.args.kind c.args.usage in
    let end = c.loop-item.invariant.end in
    let here : c.loop-item.item ≡ length c.args.layout.now.items = omega (arith, end) in
    sym (none_left p (elements_of c.args.layout.now (length c.args.layout.now.items)) c.args.nth c.loop-item.left
    (subst (λ (n : ℕ). length (filter p (elements_of c.args.layout.now n)) + c.loop-item.left ≡ c.args.nth) here c.loop-item.invariant.count))
