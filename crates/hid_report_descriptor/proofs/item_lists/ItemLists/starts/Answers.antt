use Rattle.std.proofs.Common.{◌+◌, ◌-◌, length, map, unwrap_or, sym, ap, ◌∙◌, arith}
use Rattle.std.specs.List.{slice_get, slice_range}
use Rattle.hid_report_descriptor.specs.Usages.{starts_of}
use Rattle.hid_report_descriptor.specs.ItemLists.{Listed}
use Rattle.hid_report_descriptor.proofs.ItemListLemmas.{has_places, starts_listed}
use Rattle.hid_report_descriptor.proofs.item_lists.ItemLists.starts.Goals as goal

pub overflow_sub-count : goal.overflow_sub-count
overflow_sub-count c = (has_places c.self.inside.entries.items c.self.inside.starts.items c.self.inside.paths.items c.self.inside.spans.items c.args.item c.spans_of-spans.result c.self.invariant (ap (λ l. slice_get l c.args.item) (sym c.deref.ensures.value) ∙ c.spans_of-spans.ensures)).ordered

pub overflow_add-start : goal.overflow_add-start
overflow_add-start c =
    let place = has_places c.self.inside.entries.items c.self.inside.starts.items c.self.inside.paths.items c.self.inside.spans.items c.args.item c.spans_of-spans.result c.self.invariant (ap (λ l. slice_get l c.args.item) (sym c.deref.ensures.value) ∙ c.spans_of-spans.ensures) in
    record { fits = omega (arith, place.stand c.in-Some.start c.in-Some.is, c.self.inside.starts.ok, c.self.inside.starts.small) }

pub part-requires-clause-within : goal.part-requires-clause-within
part-requires-clause-within c =
    let place = has_places c.self.inside.entries.items c.self.inside.starts.items c.self.inside.paths.items c.self.inside.spans.items c.args.item c.spans_of-spans.result c.self.invariant (ap (λ l. slice_get l c.args.item) (sym c.deref.ensures.value) ∙ c.spans_of-spans.ensures) in
    omega (arith, place.stand c.in-Some.start c.in-Some.is, ap length c.deref-in-Some.ensures.value)

pub first_numbers-requires : goal.first_numbers-requires
first_numbers-requires c =
    let place = has_places c.self.inside.entries.items c.self.inside.starts.items c.self.inside.paths.items c.self.inside.spans.items c.args.item c.spans_of-spans.result c.self.invariant (ap (λ l. slice_get l c.args.item) (sym c.deref.ensures.value) ∙ c.spans_of-spans.ensures) in
    place.first c.in-None.is

pub returns-in-Some : goal.returns-in-Some
returns-in-Some c =
    ap (λ (l : Listed). slice_get (map starts_of l.entries) c.args.item) (sym c.self.view_is)
    ∙ starts_listed c.self.inside.entries.items c.self.inside.starts.items c.self.inside.paths.items c.self.inside.spans.items c.args.item c.spans_of-spans.result c.part.result.now c.self.invariant (ap (λ l. slice_get l c.args.item) (sym c.deref.ensures.value) ∙ c.spans_of-spans.ensures)
    (λ at e. c.part.ensures ∙ ap (λ l. slice_range l c.in-Some.start (c.in-Some.start + (c.spans_of-spans.result.entries.end - c.spans_of-spans.result.entries.start))) c.deref-in-Some.ensures.value
    ∙ ap (λ k. slice_range c.self.inside.starts.items k (k + (c.spans_of-spans.result.entries.end - c.spans_of-spans.result.entries.start))) (ap (λ o. unwrap_or o at) (sym c.in-Some.is ∙ e))) (λ e. absurd (cc))

pub returns-in-None : goal.returns-in-None
returns-in-None c =
    ap (λ (l : Listed). slice_get (map starts_of l.entries) c.args.item) (sym c.self.view_is)
    ∙ starts_listed c.self.inside.entries.items c.self.inside.starts.items c.self.inside.paths.items c.self.inside.spans.items c.args.item c.spans_of-spans.result c.first_numbers.result.now c.self.invariant (ap (λ l. slice_get l c.args.item) (sym c.deref.ensures.value) ∙ c.spans_of-spans.ensures)
    (λ at e. absurd (cc)) (λ e. c.first_numbers.ensures)
