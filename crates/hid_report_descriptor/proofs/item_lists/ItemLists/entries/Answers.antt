use Rattle.std.proofs.Common.{◌≡◌, Some, length, sym, ap, ◌∙◌, arith}
use Rattle.std.specs.List.{slice_get, slice_range}
use Rattle.std.specs.Option.{option_map}
use Rattle.std.proofs.lemmas.Option.{slice_get-map}
use Rattle.hid_report_descriptor.specs.declared.item_lists.ItemSpans.{ItemSpans}
use Rattle.hid_report_descriptor.specs.ItemLists.{Listed, entry_spans}
use Rattle.hid_report_descriptor.proofs.ListsLemmas.{list_there}
use Rattle.hid_report_descriptor.proofs.ItemListLemmas.{has_places}
use Rattle.hid_report_descriptor.proofs.item_lists.ItemLists.entries.Goals as goal

pub part-requires-clause-ordered : goal.part-requires-clause-ordered
part-requires-clause-ordered c = (has_places c.self.inside.entries.items c.self.inside.starts.items c.self.inside.paths.items c.self.inside.spans.items c.args.item c.spans_of.result c.self.invariant (ap (λ l. slice_get l c.args.item) (sym c.deref-2.ensures.value) ∙ c.spans_of.ensures)).ordered

pub part-requires-clause-within : goal.part-requires-clause-within
part-requires-clause-within c =
    let place = has_places c.self.inside.entries.items c.self.inside.starts.items c.self.inside.paths.items c.self.inside.spans.items c.args.item c.spans_of.result c.self.invariant (ap (λ l. slice_get l c.args.item) (sym c.deref-2.ensures.value) ∙ c.spans_of.ensures) in
    omega (arith, place.within, ap length c.deref.ensures.value)

pub returns : goal.returns
returns c =
    let here : slice_get c.self.inside.spans.items c.args.item ≡ Some c.spans_of.result = ap (λ l. slice_get l c.args.item) (sym c.deref-2.ensures.value) ∙ c.spans_of.ensures in
    let at : slice_get (entry_spans c.self.inside.spans.items) c.args.item ≡ Some c.spans_of.result.entries = slice_get-map (λ (x : ItemSpans). x.entries) c.self.inside.spans.items c.args.item ∙ ap (option_map (λ (x : ItemSpans). x.entries)) here in
    ap (λ (l : Listed). slice_get l.entries c.args.item) (sym c.self.view_is) ∙ list_there c.self.inside.entries.items _ c.args.item c.spans_of.result.entries at
    ∙ ap Some (sym (c.part.ensures ∙ ap (λ l. slice_range l c.spans_of.result.entries.start c.spans_of.result.entries.end) c.deref.ensures.value))
