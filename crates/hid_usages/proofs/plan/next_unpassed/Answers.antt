use Rattle.std.proofs.Common.{◌≡◌, ◌∙◌, Some, inl, inr, sym, ap, subst, arith}
use Rattle.std.specs.List.{slice_get}
use Rattle.std.proofs.lemmas.Bool.{cases_lt}
use Rattle.hid_usages.specs.declared.plan.PlannedItem.{PlannedItem}
use Rattle.hid_usages.specs.Plans.{IsPassed}
use Rattle.hid_usages.proofs.plan.next_unpassed.Goals as goal

pub loop-k-preserved : goal.loop-k-preserved
loop-k-preserved c = λ j item there low high.
    elim (cases_lt j c.loop-k.k) [
      | inl before ↦ c.loop-k.invariant j item there low before
      | inr behind ↦
          let at : j ≡ c.loop-k.k = omega (arith, high, behind) in
          let same : Some item ≡ Some c.planned_at.result.now = sym there ∙ ap (slice_get c.args.items.now) at ∙ c.planned_at.ensures in
          let is : item ≡ c.planned_at.result.now = cc in
          subst (λ (x : PlannedItem). IsPassed x c.args.span) (sym is) c.if-not-is_passed.ensures
    ]
