use Rattle.std.proofs.Common.{[], ◌∙◌, refl, subst, Some, rules}
use Rattle.hid_items.specs.Reading.{GivesNext}
use Rattle.hid_report_descriptor.proofs.Taking.{explains_same, next_taken, item_explains, cut_explains, all_taken}
use Rattle.hid_report_descriptor.proofs.parse.take_items.Goals as goal

pub returns-then-is_err-clause-err : goal.returns-then-is_err-clause-err
returns-then-is_err-clause-err c = explains_same c.args.limits _ _ _ _ _ c.fault.ensures.cause c.fault.ensures.at (c.requires.short, refl)

pub loop-next-init : goal.loop-next-init
loop-next-init c = (
  [],
  record {
    joined = search;
    place = search;
    encoded = search rules;
    accepted = search;
    stands = c.make_room.ensures [] c.requires.fresh;
  },
)

pub take-requires-clause-encoded : goal.take-requires-clause-encoded
take-requires-clause-encoded c = (subst (λ r. GivesNext c.loop-next.next-iterator (Some r) c.next.new.self) c.in-Ok.is c.in-Some.ensures.steps).encoded

pub take-requires-clause-kind : goal.take-requires-clause-kind
take-requires-clause-kind c = (subst (λ r. GivesNext c.loop-next.next-iterator (Some r) c.next.new.self) c.in-Ok.is c.in-Some.ensures.steps).kind

pub loop-next-preserved : goal.loop-next-preserved
loop-next-preserved c =
    let steps = subst (λ r. GivesNext c.loop-next.next-iterator (Some r) c.next.new.self) c.in-Ok.is c.in-Some.ensures.steps in
    let taken = c.loop-next.invariant.1 in
    let took = c.in-Ok-take.ensures c.loop-next.invariant.0 taken.stands in
    (_, next_taken c.args.limits _ _ _ _ _ _ _ taken steps took.0 took.1)

pub returns-in-Err-take-clause-err : goal.returns-in-Err-take-clause-err
returns-in-Err-take-clause-err c =
    let steps = subst (λ r. GivesNext c.loop-next.next-iterator (Some r) c.next.new.self) c.in-Ok.is c.in-Some.ensures.steps in
    let taken = c.loop-next.invariant.1 in
    let took = c.in-Err-take.ensures c.loop-next.invariant.0 taken.stands in
    explains_same c.args.limits _ _ _ _ _ c.fault-in-Err-take.ensures.cause c.fault-in-Err-take.ensures.at (item_explains c.args.limits _ _ _ _ _ _ _ _ c.requires.short taken steps took)

pub returns-in-Err-clause-err : goal.returns-in-Err-clause-err
returns-in-Err-clause-err c =
    let steps = subst (λ r. GivesNext c.loop-next.next-iterator (Some r) c.next.new.self) c.in-Err.is c.in-Some.ensures.steps in
    explains_same c.args.limits _ _ _ _ _ c.fault-in-Err.ensures.cause (c.fault-in-Err.ensures.at ∙ c.truncated_at.ensures) (cut_explains c.args.limits _ _ _ _ _ _ c.requires.short c.loop-next.invariant.1 steps)

pub returns-clause-ok : goal.returns-clause-ok
returns-clause-ok c = (c.loop-next.invariant.0, all_taken c.args.limits _ _ _ _ c.requires.short c.loop-next.invariant.1 c.in-None.ensures.steps.0, c.loop-next.invariant.1.stands)
