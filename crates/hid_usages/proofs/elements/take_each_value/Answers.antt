use Rattle.std.proofs.Common.{◌≡◌, ◌∙◌, ℤ, to_z, of_z, w64, Some, sym, refl, ap, arith, rules}
use Rattle.std.specs.List.{slice_get}
use Rattle.std.proofs.lemmas.Int.{to_z-of_z}
use Rattle.hid_snapshots.specs.Events.{control_at, usages_at, value_event}
use Rattle.hid_usages.specs.Elements.{value_by_number}
use Rattle.hid_usages.proofs.ElementLemmas.{values_readable, kept_set, found_here, reading_begun, room_found, reading_found, reading_done}
use Rattle.hid_usages.proofs.elements.take_each_value.Goals as goal

pub loop-index-init : goal.loop-index-init
loop-index-init g c = record {
  reading =
      let us = usages_at c.args.source.now.layout.now c.args.source.now.item in
      let can = values_readable c.args.carriable.now c.args.source.now.item us c.args.held.now c.args.numbers.now c.requires.numbers c.requires.held in
      reading_begun (value_by_number c.args.carriable.now) (λ j u p. value_event (control_at c.args.source.now.item j) u p.0 p.1) us c.args.held.now c.args.numbers.now can c.args.out.now _ c.args.range.first c.requires.others.first c.requires.others.before (record {
        taken = record { so_far = refl; same_length = refl; events = refl; fits = c.requires.room };
        within = omega arith;
        same_room = refl;
      });
  after = c.requires.others.after;
}

pub take_number-requires-clause-held : goal.take_number-requires-clause-held
take_number-requires-clause-held g c = c.loop-index.invariant.reading.taken.same_length ∙ c.requires.held

pub take_number-requires-clause-room : goal.take_number-requires-clause-room
take_number-requires-clause-room g c = λ usage before here there.
    let us = usages_at c.args.source.now.layout.now c.args.source.now.item in
    let v = to_z w64 (of_z w64 c.number_at-number.result) in
    let is : v ≡ c.number_at-number.result = search (rules, to_z-of_z) in
    let number : slice_get c.args.numbers.now c.loop-index.index ≡ Some v = c.number_at-number.ensures ∙ ap (λ (n : ℤ). Some n) (sym is) in
    let can = values_readable c.args.carriable.now c.args.source.now.item us c.args.held.now c.args.numbers.now c.requires.numbers c.requires.held in
    let found = found_here (value_by_number c.args.carriable.now) c.loop-index.held c.args.numbers.now c.loop-index.index (omega (arith, c.loop-index-test.true, c.requires.others.end, c.loop-index.invariant.reading.taken.same_length)) in
    room_found (value_by_number c.args.carriable.now) (λ j u p. value_event (control_at c.args.source.now.item j) u p.0 p.1) us c.args.held.now c.args.numbers.now can _ _ c.loop-index.held c.loop-index.out c.loop-index.index c.loop-index.index usage before v found c.loop-index.invariant.reading here there number

pub loop-index-preserved : goal.loop-index-preserved
loop-index-preserved g c =
    let us = usages_at c.args.source.now.layout.now c.args.source.now.item in
    let v = to_z w64 (of_z w64 c.number_at-number.result) in
    let is : v ≡ c.number_at-number.result = search (rules, to_z-of_z) in
    let number : slice_get c.args.numbers.now c.loop-index.index ≡ Some v = c.number_at-number.ensures ∙ ap (λ (n : ℤ). Some n) (sym is) in
    let can = values_readable c.args.carriable.now c.args.source.now.item us c.args.held.now c.args.numbers.now c.requires.numbers c.requires.held in
    let found = found_here (value_by_number c.args.carriable.now) c.loop-index.held c.args.numbers.now c.loop-index.index (omega (arith, c.loop-index-test.true, c.requires.others.end, c.loop-index.invariant.reading.taken.same_length)) in
    record {
      reading = reading_found (value_by_number c.args.carriable.now) (λ j u p. value_event (control_at c.args.source.now.item j) u p.0 p.1) us c.args.held.now c.args.numbers.now can _ _ c.loop-index.held c.take_number.new.held c.loop-index.out c.take_number.new.out c.loop-index.index c.loop-index.index v found c.loop-index.invariant.reading number c.take_number.ensures.held c.take_number.ensures.appends;
      after = kept_set (value_by_number c.args.carriable.now) c.loop-index.held c.take_number.new.held c.args.numbers.now c.loop-index.index c.args.range.end v found.1 number c.take_number.ensures.held c.loop-index.invariant.after;
    }

pub returns-clause-held : goal.returns-clause-held
returns-clause-held g c =
    let us = usages_at c.args.source.now.layout.now c.args.source.now.item in
    let can = values_readable c.args.carriable.now c.args.source.now.item us c.args.held.now c.args.numbers.now c.requires.numbers c.requires.held in
    (reading_done (value_by_number c.args.carriable.now) (λ j u p. value_event (control_at c.args.source.now.item j) u p.0 p.1) us c.args.held.now c.args.numbers.now can _ _ c.loop-index.held c.loop-index.out c.loop-index.index
    (λ j x v low high. c.loop-index.invariant.after j x v (omega (arith, c.loop-index-test.false, low)) high) c.loop-index.invariant.reading).0

pub returns-clause-len : goal.returns-clause-len
returns-clause-len g c = c.loop-index.invariant.reading.taken.same_length

pub returns-clause-appends : goal.returns-clause-appends
returns-clause-appends g c =
    let us = usages_at c.args.source.now.layout.now c.args.source.now.item in
    let can = values_readable c.args.carriable.now c.args.source.now.item us c.args.held.now c.args.numbers.now c.requires.numbers c.requires.held in
    (reading_done (value_by_number c.args.carriable.now) (λ j u p. value_event (control_at c.args.source.now.item j) u p.0 p.1) us c.args.held.now c.args.numbers.now can _ _ c.loop-index.held c.loop-index.out c.loop-index.index
    (λ j x v low high. c.loop-index.invariant.after j x v (omega (arith, c.loop-index-test.false, low)) high) c.loop-index.invariant.reading).1
