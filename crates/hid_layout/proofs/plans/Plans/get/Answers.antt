use Rattle.std.proofs.Common.{ℕ, ◌+◌, ◌<◌, length, take, drop, get_or, sym, ap, ◌∙◌, arith, Some}
use Rattle.std.specs.List.{slice_get, slice_range}
use Rattle.hid_layout.proofs.PlanLemmas.{report_there, plan_there, bound_in}
use Rattle.hid_layout.proofs.plans.Plans.get.Goals as goal

pub bounds-bounds-r : goal.bounds-bounds-r
bounds-bounds-r c = omega (arith, report_there c.self.inside.reports c.self.inside.bounds_and_places.items _ c.args.r c.self.view_is c.requires, c.split_at.ensures.front_len)

pub offset_bounds-bounds-r : goal.offset_bounds-bounds-r
offset_bounds-bounds-r c =
    record { fits = omega (arith, report_there c.self.inside.reports c.self.inside.bounds_and_places.items _ c.args.r c.self.view_is c.requires, c.split_at.ensures.back_len, c.deref.type_inv.1) }

pub overflow_add-r : goal.overflow_add-r
overflow_add-r c = record { fits = omega (arith, report_there c.self.inside.reports c.self.inside.bounds_and_places.items _ c.args.r c.self.view_is c.requires) }

pub bounds-bounds-r-2 : goal.bounds-bounds-r-2
bounds-bounds-r-2 c = omega (arith, report_there c.self.inside.reports c.self.inside.bounds_and_places.items _ c.args.r c.self.view_is c.requires, c.split_at.ensures.front_len)

pub offset_bounds-bounds-r-2 : goal.offset_bounds-bounds-r-2
offset_bounds-bounds-r-2 c =
    record { fits = omega (arith, report_there c.self.inside.reports c.self.inside.bounds_and_places.items _ c.args.r c.self.view_is c.requires, c.split_at.ensures.back_len, c.deref.type_inv.1) }

pub part-requires-clause-ordered : goal.part-requires-clause-ordered
part-requires-clause-ordered c =
    let n : ℕ = c.self.inside.reports in
    let kept = c.self.inside.bounds_and_places.items in
    let there : c.args.r < n = report_there n kept _ c.args.r c.self.view_is c.requires in
    let bounds = c.split_at.ensures.front ∙ ap (take (n + 1)) c.deref.ensures.value in
    omega (arith, c.self.invariant.ordered c.args.r there, bound_in n kept _ c.args.r bounds (omega (arith, there)), bound_in n kept _ (c.args.r + 1) bounds (omega (arith, there)))

pub part-requires-clause-within : goal.part-requires-clause-within
part-requires-clause-within c =
    let n : ℕ = c.self.inside.reports in
    let kept = c.self.inside.bounds_and_places.items in
    let there : c.args.r < n = report_there n kept _ c.args.r c.self.view_is c.requires in
    let bounds = c.split_at.ensures.front ∙ ap (take (n + 1)) c.deref.ensures.value in
    omega (arith, c.self.invariant.within c.args.r there, bound_in n kept _ (c.args.r + 1) bounds (omega (arith, there)), c.split_at.ensures.back_len, ap length c.deref.ensures.value)

pub returns : goal.returns
returns c =
    let n : ℕ = c.self.inside.reports in
    let kept = c.self.inside.bounds_and_places.items in
    let there : c.args.r < n = report_there n kept _ c.args.r c.self.view_is c.requires in
    let bounds = c.split_at.ensures.front ∙ ap (take (n + 1)) c.deref.ensures.value in
    let places = c.split_at.ensures.back ∙ ap (drop (n + 1)) c.deref.ensures.value in
    let start : ℕ = get_or c.split_at.result.0.now c.args.r 0 in
    let end : ℕ = get_or c.split_at.result.0.now (c.args.r + 1) 0 in
    ap (λ p. slice_get p c.args.r) (sym c.self.view_is) ∙ plan_there n kept c.args.r there
    ∙ ap Some (sym (c.part.ensures ∙ ap (λ l. slice_range l start end) places
    ∙ ap (λ a. slice_range (drop (n + 1) kept) a end) (bound_in n kept _ c.args.r bounds (omega (arith, there)))
    ∙ ap (slice_range (drop (n + 1) kept) (get_or kept c.args.r 0)) (bound_in n kept _ (c.args.r + 1) bounds (omega (arith, there)))))
