use Rattle.std.proofs.Common.{◌≡◌, ◌++◌, ◌+◌, ◌≤◌, ◌∙◌, [], ◌∷◌, List, None, ap, arith, refl, sym, take, subst, Err, vec_len, vec_capacity}
use Rattle.std.proofs.lemmas.List.{take_all}
use Rattle.std.proofs.lemmas.List.Elements.{All-more}
use Rattle.hid_bus.specs.declared.step.Step.{Step}
use Rattle.std.specs.List.{All}
use Rattle.hid_stack.specs.Rig.{FitsStep, HasRoomFor, IsRefusal, NoneIsRefused, bus_after, bus_after_all, bus_after_refusal, deliveries_of_step, deliveries_of_steps, max_events_of_step, refusal}
use Rattle.hid_stack.specs.ExpectedToggles.{AllHoldToggles}
use Rattle.hid_stack.specs.Sums.{AllHaveMotions, ConfiguresBetweenRounds}
use Rattle.hid_stack.proofs.Isolation.{ran_more, told_more, devices_live, headline, isolated, keeps_to_rounds}
use Rattle.hid_stack.proofs.RoomLemmas.{fits_of, goes_on_more, most_more, not_refused, room_at, room_here, stopped, stops_at}
use Rattle.hid_stack.proofs.ToggleLemmas.{hosts_expect}
use Rattle.hid_stack.proofs.SumLemmas.{between_more, sums_stop, sums_up}
use Rattle.hid_stack.proofs.AgreementLemmas.{agree_at_nak, come_to_rest}
use Rattle.hid_stack.proofs.rig.Rig.run.Goals as goal

pub loop-at-preserved : goal.loop-at-preserved
loop-at-preserved c =
    let is = c.index-steps-at.is in
    record {
      now = ran_more _ _ _ _ _ _ c.loop-at-test.true c.loop-at.invariant.now (c.in-Ok.ensures.after ∙ ap (bus_after c.loop-at.self) is);
      told = told_more _ _ _ _ _ _ _ _ c.loop-at-test.true c.loop-at.invariant.now c.loop-at.invariant.told
          (c.in-Ok.ensures.events ∙ ap (λ (x : Step). c.loop-at.out.items ++ deliveries_of_step c.loop-at.self x) is);
      few = most_more _ _ _ _ _ _ _ _ c.loop-at-test.true c.loop-at.invariant.now c.loop-at.invariant.few
          (subst (λ
          (x : Step). vec_len c.step.new.out ≤ vec_len c.loop-at.out + max_events_of_step c.loop-at.self x) is c.step.ensures.few);
      goes_on = goes_on_more _ _ _ _ _ c.loop-at-test.true c.loop-at.invariant.now c.loop-at.invariant.goes_on
          (subst (λ (x : Step). refusal c.loop-at.self x ≡ None) is (not_refused _ c.step.result c.in-Ok.field-0 c.in-Ok.is c.step.ensures.refused));
      between = between_more _ _ _ _ _ c.loop-at-test.true c.loop-at.invariant.now c.loop-at.invariant.between
          (subst (λ (x : Step). ConfiguresBetweenRounds c.loop-at.self (x ∷ [])) is c.step.ensures.between);
      fits = All-more FitsStep _ _ _ c.loop-at-test.true c.loop-at.invariant.fits
          (subst FitsStep is (fits_of c.step.result c.in-Ok.field-0 c.in-Ok.is c.step.ensures.fits));
      capacity = omega (arith, c.loop-at.invariant.capacity, c.step.ensures.capacity);
    }

pub returns-clause-after : goal.returns-clause-after
returns-clause-after c =
    let whole : take c.loop-at.at c.args.steps.now ≡ c.args.steps.now = take_all c.loop-at.at c.args.steps.now c.loop-at-test.false in
    c.loop-at.invariant.now ∙ ap (bus_after_all c.args.self.now) whole

pub returns-clause-events : goal.returns-clause-events
returns-clause-events c =
    let whole : take c.loop-at.at c.args.steps.now ≡ c.args.steps.now = take_all c.loop-at.at c.args.steps.now c.loop-at-test.false in
    c.loop-at.invariant.told
    ∙ ap (λ (xs : List Step). c.args.out.now.items ++ deliveries_of_steps c.args.self.now xs) whole

pub returns-clause-headline : goal.returns-clause-headline
returns-clause-headline c =
    let whole : take c.loop-at.at c.args.steps.now ≡ c.args.steps.now = take_all c.loop-at.at c.args.steps.now c.loop-at-test.false in
    let told =
    c.loop-at.invariant.told
    ∙ ap (λ (xs : List Step). c.args.out.now.items ++ deliveries_of_steps c.args.self.now xs) whole in
    headline c.args.self.now c.args.steps.now c.args.out.now.items c.loop-at.out.items told

pub returns-clause-rounds : goal.returns-clause-rounds
returns-clause-rounds c =
    keeps_to_rounds c.args.self.now (bus_after_all c.args.self.now c.args.steps.now) c.args.steps.now refl

pub returns-clause-history : goal.returns-clause-history
returns-clause-history c =
    let whole : take c.loop-at.at c.args.steps.now ≡ c.args.steps.now = take_all c.loop-at.at c.args.steps.now c.loop-at-test.false in
    let told =
    c.loop-at.invariant.told
    ∙ ap (λ (xs : List Step). c.args.out.now.items ++ deliveries_of_steps c.args.self.now xs) whole in
    devices_live c.args.self.now (bus_after_all c.args.self.now c.args.steps.now) c.args.steps.now c.args.out.now.items c.loop-at.out.items refl told

pub returns-clause-toggles : goal.returns-clause-toggles
returns-clause-toggles c =
    hosts_expect c.args.self.now (bus_after_all c.args.self.now c.args.steps.now) c.args.steps.now (subst AllHoldToggles c.self.view_is c.self.invariant.3) refl

pub returns-clause-isolated : goal.returns-clause-isolated
returns-clause-isolated c =
    let whole : take c.loop-at.at c.args.steps.now ≡ c.args.steps.now = take_all c.loop-at.at c.args.steps.now c.loop-at-test.false in
    let told =
    c.loop-at.invariant.told
    ∙ ap (λ (xs : List Step). c.args.out.now.items ++ deliveries_of_steps c.args.self.now xs) whole in
    isolated c.args.self.now (bus_after_all c.args.self.now c.args.steps.now) c.args.steps.now c.args.out.now.items c.loop-at.out.items refl told

pub returns-clause-conserves : goal.returns-clause-conserves
returns-clause-conserves c =
    let whole : take c.loop-at.at c.args.steps.now ≡ c.args.steps.now = take_all c.loop-at.at c.args.steps.now c.loop-at-test.false in
    let stands = c.loop-at.invariant.now ∙ ap (bus_after_all c.args.self.now) whole in
    let told =
    c.loop-at.invariant.told
    ∙ ap (λ (xs : List Step). c.args.out.now.items ++ deliveries_of_steps c.args.self.now xs) whole in
    sums_up c.args.self.now c.loop-at.self c.args.steps.now c.args.out.now.items c.loop-at.out.items (subst AllHaveMotions c.self.view_is c.self.invariant.2)
    (subst (ConfiguresBetweenRounds c.args.self.now) whole c.loop-at.invariant.between) stands told

pub returns-clause-goes_on : goal.returns-clause-goes_on
returns-clause-goes_on c =
    let whole : take c.loop-at.at c.args.steps.now ≡ c.args.steps.now = take_all c.loop-at.at c.args.steps.now c.loop-at-test.false in
    subst (NoneIsRefused c.args.self.now) whole c.loop-at.invariant.goes_on

pub returns-clause-fits : goal.returns-clause-fits
returns-clause-fits c =
    let whole : take c.loop-at.at c.args.steps.now ≡ c.args.steps.now = take_all c.loop-at.at c.args.steps.now c.loop-at-test.false in
    subst (All FitsStep) whole c.loop-at.invariant.fits

-- where a step is refused, the steps before it stand

pub returns-in-Err-clause-stops : goal.returns-in-Err-clause-stops
returns-in-Err-clause-stops c = stops_at _ _ _ _ _ _ c.loop-at-test.true c.loop-at.invariant.goes_on c.loop-at.invariant.now
    (subst (λ (x : Step). IsRefusal c.loop-at.self x c.in-Err.fault) c.index-steps-at.is c.in-Err.ensures.only)

pub returns-in-Err-clause-err_after : goal.returns-in-Err-clause-err_after
returns-in-Err-clause-err_after c =
    stopped _ _ _ _ _ _ _ c.loop-at-test.true c.loop-at.invariant.now
    (c.in-Err.ensures.err ∙ ap (λ (x : Step). bus_after_refusal c.loop-at.self x c.in-Err.fault) c.index-steps-at.is)

pub returns-in-Err-clause-headline : goal.returns-in-Err-clause-headline
returns-in-Err-clause-headline c =
    headline c.args.self.now (take c.loop-at.at c.args.steps.now) c.args.out.now.items c.step.new.out.items (c.in-Err.ensures.err_events ∙ c.loop-at.invariant.told)

pub returns-in-Err-clause-rounds : goal.returns-in-Err-clause-rounds
returns-in-Err-clause-rounds c =
    keeps_to_rounds c.args.self.now (bus_after_all c.args.self.now (take c.loop-at.at c.args.steps.now)) (take c.loop-at.at c.args.steps.now) refl

pub returns-in-Err-clause-history : goal.returns-in-Err-clause-history
returns-in-Err-clause-history c =
    devices_live c.args.self.now (bus_after_all c.args.self.now (take c.loop-at.at c.args.steps.now)) (take c.loop-at.at c.args.steps.now) c.args.out.now.items c.step.new.out.items refl
    (c.in-Err.ensures.err_events ∙ c.loop-at.invariant.told)

pub returns-in-Err-clause-toggles : goal.returns-in-Err-clause-toggles
returns-in-Err-clause-toggles c =
    hosts_expect c.args.self.now (bus_after_all c.args.self.now (take c.loop-at.at c.args.steps.now)) (take c.loop-at.at c.args.steps.now)
    (subst AllHoldToggles c.self.view_is c.self.invariant.3) refl

pub returns-in-Err-clause-isolated : goal.returns-in-Err-clause-isolated
returns-in-Err-clause-isolated c =
    isolated c.args.self.now (bus_after_all c.args.self.now (take c.loop-at.at c.args.steps.now)) (take c.loop-at.at c.args.steps.now) c.args.out.now.items c.step.new.out.items refl
    (c.in-Err.ensures.err_events ∙ c.loop-at.invariant.told)

pub returns-in-Err-clause-conserves : goal.returns-in-Err-clause-conserves
returns-in-Err-clause-conserves c =
    sums_stop c.args.self.now c.loop-at.self c.step.new.self (take c.loop-at.at c.args.steps.now) _ _ c.args.out.now.items c.step.new.out.items
    (subst AllHaveMotions c.self.view_is c.self.invariant.2) c.loop-at.invariant.between c.step.ensures.between c.step.ensures.aborts c.loop-at.invariant.now (c.in-Err.ensures.err_events ∙ c.loop-at.invariant.told) c.in-Err.ensures.err

pub returns-in-Err-clause-room : goal.returns-in-Err-clause-room
returns-in-Err-clause-room c has memory =
    c.step.ensures.room
    (subst (λ (x : Step). HasRoomFor c.loop-at.self x (vec_len c.loop-at.out) (vec_capacity c.loop-at.out)) (sym c.index-steps-at.is)
    (room_here _ _ _ _ _ _ _ _ _ c.loop-at-test.true c.loop-at.invariant.now c.loop-at.invariant.few c.loop-at.invariant.capacity has)) (c.in-Err.is ∙ ap Err memory)

pub returns-in-Err-clause-room_for_all : goal.returns-in-Err-clause-room_for_all
returns-in-Err-clause-room_for_all c scheduled room memory =
    c.step.ensures.room
    (subst (λ (x : Step). HasRoomFor c.loop-at.self x (vec_len c.loop-at.out) (vec_capacity c.loop-at.out)) (sym c.index-steps-at.is)
    (room_at _ _ _ _ _ _ _ _ _ c.loop-at-test.true c.loop-at.invariant.now c.loop-at.invariant.few c.loop-at.invariant.capacity scheduled room)) (c.in-Err.is ∙ ap Err memory)

pub returns-clause-agrees : goal.returns-clause-agrees
returns-clause-agrees c =
    let whole : take c.loop-at.at c.args.steps.now ≡ c.args.steps.now = take_all c.loop-at.at c.args.steps.now c.loop-at-test.false in
    agree_at_nak c.args.self.now c.loop-at.self c.args.steps.now
    (c.loop-at.invariant.now ∙ ap (bus_after_all c.args.self.now) whole)

pub returns-clause-rests : goal.returns-clause-rests
returns-clause-rests c = λ most_lost earlier later is.
    let whole : take c.loop-at.at c.args.steps.now ≡ c.args.steps.now = take_all c.loop-at.at c.args.steps.now c.loop-at-test.false in
    come_to_rest most_lost c.args.self.now earlier later c.loop-at.self
    (c.loop-at.invariant.now ∙ ap (bus_after_all c.args.self.now) (whole ∙ is))
