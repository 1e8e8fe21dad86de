use Rattle.std.proofs.Common.{◌≡◌, inl, inr, Some, sym, ap, ◌∙◌, arith}
use Rattle.std.specs.List.{slice_get}
use Rattle.std.proofs.lemmas.Bool.{cases_lt}
use Rattle.std.proofs.lemmas.Option.{slice_get_within}
use Rattle.hid_usages.specs.declared.plan.PlannedItem.{PlannedItem}
use Rattle.hid_usages.proofs.plan.motions_in.Goals as goal

pub loop-k-preserved : goal.loop-k-preserved
loop-k-preserved c = record {
  each = λ j item low there motions. elim (cases_lt j c.loop-k.k) [
    | inl before ↦
        let was = c.loop-k.invariant.each j item before there motions in
        c.motions_with-motions.ensures.before j was.0 was.1
    | inr from ↦
        let at : j ≡ c.loop-k.k = omega arith in
        let same : Some item ≡ Some c.planned_at.result.now = sym there ∙ ap (slice_get c.args.items.now) at ∙ c.planned_at.ensures in
        let is : item ≡ c.planned_at.result.now = cc in
        let here = c.motions_with-motions.ensures.here (ap (λ (x : PlannedItem). x.kind) (sym is) ∙ motions) in
        (omega (arith, here.0, at), omega (arith, here.1, at))
  ];
  order = c.motions_with-motions.ensures.order;
  end = c.motions_with-motions.ensures.end;
}

pub returns : goal.returns
returns c = record {
  each = λ k item there motions. c.loop-k.invariant.each k item (omega (arith, slice_get_within c.args.items.now k item there, c.loop-k-test.false)) there motions;
  order = c.loop-k.invariant.order;
  within = omega (arith, c.loop-k.invariant.end);
}
