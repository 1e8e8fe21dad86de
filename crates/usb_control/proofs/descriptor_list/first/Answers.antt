use Rattle.std.proofs.Common.{◌≡◌, ◌∙◌, true, false, List, ℕ, subst, take}
use Rattle.usb_control.specs.Search.{is_wanted}
use Rattle.usb_control.proofs.SearchLemmas.{Passed, cut_behind, found, none_found, passed_more}
use Rattle.usb_control.proofs.descriptor_list.first.Goals as goal

pub returns-then-is-clause-walks : goal.returns-then-is-clause-walks
returns-then-is-clause-walks c = λ descriptors walk.
    let test = is_wanted c.args.wanted in
    let front = take c.loop-found.at c.args.bytes.now in
    let passes : is_wanted c.args.wanted c.in-Some.found.now ≡ true = cc in
    let here = subst (λ (xs : List ℕ). Passed test descriptors front xs) c.in-Some.ensures.found.1 (c.loop-found.invariant.passed descriptors walk) in
    let h = found test descriptors front c.in-Some.found.now c.in-Some.behind.now c.in-Some.ensures.found.0 passes here in
    (h.first, h.before, h.after)

pub loop-found-preserved : goal.loop-found-preserved
loop-found-preserved c =
    let bytes = c.args.bytes.now in
    let d = c.in-Some.found.now in
    let fails : is_wanted c.args.wanted c.in-Some.found.now ≡ false = cc in
    let cut = cut_behind bytes d c.in-Some.behind.now c.loop-found.at c.loop-found.invariant.within (c.loop-found.invariant.rest ∙ c.in-Some.ensures.found.1) in
    record {
      within = cut.within;
      rest = cut.back;
      passed = λ descriptors walk. passed_more (is_wanted c.args.wanted) descriptors bytes c.loop-found.rest.now d c.in-Some.behind.now c.loop-found.at cut.front c.in-Some.ensures.found.1 c.in-Some.ensures.found.0 fails (c.loop-found.invariant.passed descriptors walk);
    }

pub returns-clause-walks : goal.returns-clause-walks
returns-clause-walks c = λ descriptors walk.
    none_found (is_wanted c.args.wanted) descriptors (take c.loop-found.at c.args.bytes.now) c.loop-found.rest.now c.in_default.ensures.none (c.loop-found.invariant.passed descriptors walk)
