use Rattle.std.proofs.Common.{◌≡◌, ◌∙◌, ℕ, List, get_or, Ok, ap, sym, subst, arith, append-nil, ◌++◌}
use Rattle.hid_snapshots.specs.declared.event.Event.{Event}
use Rattle.hid_usages.specs.Reader.{ReaderState}
use Rattle.hid_usages.specs.Taking.{TakesReport}
use Rattle.hid_usages.proofs.LastLemmas.{begun_input, begun_named, planned_there, same_bits}
use Rattle.hid_usages.proofs.PassingLemmas.{holds_on}
use Rattle.hid_usages.proofs.reader.Reader.take_report.Goals as goal

pub index-requires : goal.index-requires
index-requires g c =
    let begun = c.place_by_index-place.ensures c.if-place-lt-NO_REPORT.true in
    let input = begun_input c.self.inside.layout c.args.bytes.now c.place_by_index-place.result begun in
    omega (arith, c.self.invariant.planned.there c.place_by_index-place.result input, c.from.ensures, c.self.inside.plans.reports.ok.0)

pub is_still-requires : goal.is_still-requires
is_still-requires g c =
    let place = c.place_by_index-place.result in
    let plans = c.self.inside.plans in
    let begun = c.place_by_index-place.ensures c.if-place-lt-NO_REPORT.true in
    let input = begun_input c.self.inside.layout c.args.bytes.now place begun in
    let at : c.index.result.now ≡ get_or plans.reports.items place c.index.result.now = c.index.ensures ∙ ap (λ (n : ℕ). get_or plans.reports.items n c.index.result.now) c.from.ensures in
    let here = planned_there c.self.inside.layout c.self.inside.view plans place c.index.result.now c.self.invariant.planned input at in
    (c.self.invariant.planned.each place c.index.result.now here).plan.kept

pub returns-then-is_still-clause-taken : goal.returns-then-is_still-clause-taken
returns-then-is_still-clause-taken g c =
    let layout = c.self.inside.layout in
    let view = c.self.inside.view in
    let place = c.place_by_index-place.result in
    let plans = c.self.inside.plans in
    let bytes = c.args.bytes.now in
    let out = c.args.out.now.items in
    let begun = c.place_by_index-place.ensures c.if-place-lt-NO_REPORT.true in
    let input = begun_input layout bytes place begun in
    let at : c.index.result.now ≡ get_or plans.reports.items place c.index.result.now = c.index.ensures ∙ ap (λ (n : ℕ). get_or plans.reports.items n c.index.result.now) c.from.ensures in
    let here = planned_there layout view plans place c.index.result.now c.self.invariant.planned input at in
    let is = c.self.invariant.planned.each place c.index.result.now here in
    let still = holds_on c.is_still.result c.is_still.ensures c.if-is_still.true in
    let named = begun_named layout bytes place begun (omega (arith, is.plan.room, still.whole)) in
    let same = same_bits layout place view c.index.result.now bytes c.self.invariant.laid is still.known still.whole still.bits in
    let taken : TakesReport layout bytes view out (Ok tt) view out = (place, named, sym same.0, sym (append-nil out) ∙ ap (λ (es : List Event). out ++ es) (sym (same.1 still.silent))) in
    subst (λ (seen : ReaderState). TakesReport seen.layout bytes seen.view out (Ok tt) seen.view out) c.self.view_is taken
