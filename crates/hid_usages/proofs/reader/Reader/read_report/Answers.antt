use Rattle.std.proofs.Common.{Ok, Err, refl, subst, arith}
use Rattle.hid_snapshots.specs.declared.fault.ReportFault.TheVariants.{Short}
use Rattle.hid_snapshots.proofs.ItemLemmas.{set_same}
use Rattle.hid_usages.specs.Reader.{ReaderState}
use Rattle.hid_usages.specs.Taking.{TakesReport}
use Rattle.hid_usages.proofs.LastLemmas.{begun_input, begun_named, begun_short, planned_there, plans_same, plans_read, holds_off}
use Rattle.hid_usages.proofs.PassingLemmas.{holds_on}
use Rattle.hid_usages.proofs.reader.Reader.read_report.Goals as goal

pub index_mut-planned-requires : goal.index_mut-planned-requires
index_mut-planned-requires g c =
    let input = begun_input c.self.inside.layout c.args.bytes.now c.in-Ok.report c.in-Ok.ensures.found in
    omega (arith, c.self.invariant.planned.there c.in-Ok.report input, c.self.inside.plans.reports.ok.0)

pub invariant_of-self : goal.invariant_of-self
invariant_of-self g c =
    let plans = c.self.inside.plans in
    let r = c.in-Ok.report in
    let input = begun_input c.self.inside.layout c.args.bytes.now r c.in-Ok.ensures.found in
    let here = planned_there c.self.inside.layout c.self.inside.view plans r c.index_mut-planned.result.now c.self.invariant.planned input c.index_mut-planned.ensures.value in
    record {
      laid = c.self.invariant.laid;
      fits = c.self.invariant.fits;
      most_events = c.self.invariant.most_events;
      planned = plans_same c.self.inside.layout c.self.inside.view plans _ c.self.invariant.planned refl (set_same plans.reports.items r c.index_mut-planned.result.now here);
    }

pub returns-then-is_short-clause-taken : goal.returns-then-is_short-clause-taken
returns-then-is_short-clause-taken g c =
    let layout = c.self.inside.layout in
    let plans = c.self.inside.plans in
    let r = c.in-Ok.report in
    let bytes = c.args.bytes.now in
    let input = begun_input layout bytes r c.in-Ok.ensures.found in
    let here = planned_there layout c.self.inside.view plans r c.index_mut-planned.result.now c.self.invariant.planned input c.index_mut-planned.ensures.value in
    let room = (c.self.invariant.planned.each r c.index_mut-planned.result.now here).plan.room in
    let named = begun_short layout bytes r c.in-Ok.ensures.found (omega (arith, room, holds_on c.is_short.result c.is_short.ensures.short c.if-is_short.true)) in
    subst (λ (seen : ReaderState). TakesReport seen.layout bytes seen.view c.args.out.now.items (Err Short) c.self.inside.view c.args.out.now.items) c.self.view_is
    (named, refl, refl)

pub take_one-requires-clause-received : goal.take_one-requires-clause-received
take_one-requires-clause-received g c =
    let layout = c.self.inside.layout in
    let r = c.in-Ok.report in
    let bytes = c.args.bytes.now in
    let input = begun_input layout bytes r c.in-Ok.ensures.found in
    let here = planned_there layout c.self.inside.view c.self.inside.plans r c.index_mut-planned.result.now c.self.invariant.planned input c.index_mut-planned.ensures.value in
    let room = (c.self.invariant.planned.each r c.index_mut-planned.result.now here).plan.room in
    record { input = input; whole = omega (arith, room, holds_off c.is_short.result c.is_short.ensures.whole c.if-is_short.false) }

pub take_one-requires-clause-planned : goal.take_one-requires-clause-planned
take_one-requires-clause-planned g c =
    let layout = c.self.inside.layout in
    let r = c.in-Ok.report in
    let input = begun_input layout c.args.bytes.now r c.in-Ok.ensures.found in
    let here = planned_there layout c.self.inside.view c.self.inside.plans r c.index_mut-planned.result.now c.self.invariant.planned input c.index_mut-planned.ensures.value in
    c.self.invariant.planned.each r c.index_mut-planned.result.now here

pub invariant_of-self-2 : goal.invariant_of-self-2
invariant_of-self-2 g c =
    let layout = c.self.inside.layout in
    let plans = c.self.inside.plans in
    let r = c.in-Ok.report in
    let input = begun_input layout c.args.bytes.now r c.in-Ok.ensures.found in
    record {
      laid = c.self.invariant.laid;
      fits = c.take_one.ensures.fits;
      most_events = c.self.invariant.most_events;
      planned = plans_read layout c.self.inside.view c.take_one.new.view plans _ r c.args.bytes.now c.take_one.new.planned c.self.invariant.planned (c.self.invariant.planned.there r input) c.take_one.ensures.view c.take_one.ensures.planned refl refl;
    }

pub returns-clause-taken : goal.returns-clause-taken
returns-clause-taken g c =
    let layout = c.self.inside.layout in
    let r = c.in-Ok.report in
    let bytes = c.args.bytes.now in
    let input = begun_input layout bytes r c.in-Ok.ensures.found in
    let here = planned_there layout c.self.inside.view c.self.inside.plans r c.index_mut-planned.result.now c.self.invariant.planned input c.index_mut-planned.ensures.value in
    let room = (c.self.invariant.planned.each r c.index_mut-planned.result.now here).plan.room in
    let named = begun_named layout bytes r c.in-Ok.ensures.found (omega (arith, room, holds_off c.is_short.result c.is_short.ensures.whole c.if-is_short.false)) in
    let taken : TakesReport layout bytes c.self.inside.view c.args.out.now.items (Ok tt) c.take_one.new.view c.take_one.new.out.items =
    (r, named, c.take_one.ensures.view, c.take_one.ensures.appends.items) in
    subst (λ (seen : ReaderState). TakesReport seen.layout bytes seen.view c.args.out.now.items (Ok tt) c.take_one.new.view c.take_one.new.out.items) c.self.view_is taken
