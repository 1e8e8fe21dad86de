use Rattle.std.proofs.Common.{◌≡◌, Some, None}
use Rattle.std.specs.List.{slice_get}
use Rattle.lab_serving.proofs.OtherLemmas.{other_end, other_found, other_passed, read_past, read_there}
use Rattle.lab_serving.proofs.expectations.Expectations.after_others.Goals as goal

pub returns-then-not-is_of_other : goal.returns-then-not-is_of_other
returns-then-not-is_of_other c =
    let found : slice_get c.args.self.now.all.items c.loop-expecting.at ≡ Some c.in-Some.expecting.now =
    read_there c.deref.result.now c.args.self.now.all.items c.loop-expecting.at c.in-Some.expecting.now c.deref.ensures.value
    c.in-Some.ensures.lookup.3.0 c.in-Some.ensures.lookup.1 in
    other_found c.args.place c.args.self.now.all.items c.loop-expecting.at _ c.in-Some.expecting.now _ c.loop-expecting.invariant found
    c.is_of_other.ensures c.if-not-is_of_other.true

pub loop-expecting-preserved : goal.loop-expecting-preserved
loop-expecting-preserved c =
    let found : slice_get c.args.self.now.all.items c.loop-expecting.at ≡ Some c.in-Some.expecting.now =
    read_there c.deref.result.now c.args.self.now.all.items c.loop-expecting.at c.in-Some.expecting.now c.deref.ensures.value
    c.in-Some.ensures.lookup.3.0 c.in-Some.ensures.lookup.1 in
    other_passed c.args.place c.args.self.now.all.items c.loop-expecting.at _ c.in-Some.expecting.now _ c.loop-expecting.invariant found
    c.is_of_other.ensures c.if-not-is_of_other.false

pub returns : goal.returns
returns c =
    let none : slice_get c.args.self.now.all.items c.loop-expecting.at ≡ None =
    read_past c.deref.result.now c.args.self.now.all.items c.loop-expecting.at c.deref.ensures.value c.in_default.ensures.lookup.3 in
    other_end c.args.place c.args.self.now.all.items c.loop-expecting.at _ c.loop-expecting.invariant none
