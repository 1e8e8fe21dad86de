use Rattle.std.proofs.Common.{◌≡◌, ◌<◌, ◌≤◌, ◌∙◌, ℕ, List, length, map, ap, refl, sym, subst, arith, rules, Some, None, Err, vec_len, vec_capacity}
use Rattle.std.specs.Prelude.{slice_set}
use Rattle.std.proofs.lemmas.List.{length-set}
use Rattle.hid_host.specs.declared.fault.StackFault.TheVariants.{NoDevice}
use Rattle.hid_bus.specs.Rounds.{Frame}
use Rattle.hid_stack.specs.declared.rig.TheConstants.{MAX_DEVICES}
use Rattle.hid_stack.specs.ExpectedToggles.{AllHoldToggles}
use Rattle.hid_stack.specs.Members.{Member, Scheduled, member_after}
use Rattle.hid_stack.proofs.HoldLemmas.{stepped_hold}
use Rattle.hid_stack.proofs.NamedLemmas.{named}
use Rattle.hid_stack.proofs.RigLemmas.{framed, framed_hold, stepped_have}
use Rattle.hid_stack.proofs.ServeLemmas.{frame_steps, none_steps, placed_steps}
use Rattle.hid_stack.proofs.UnreadyLemmas.{tells_nothing}
use Rattle.hid_stack.proofs.rig.Rig.step.Goals as goal

pub invariant_of-self : goal.invariant_of-self
invariant_of-self c =
    framed_hold c.self.inside.slots.items c.frame_all.new.slots c.self.inside.slots.len c.self.inside.slots.cap MAX_DEVICES c.self.invariant
    (c.frame_all.ensures ∙ ap (map (λ (m : Member). member_after m (Scheduled Frame))) c.deref_mut.ensures.value)
    (omega (arith, c.frame_all.auto.slots, c.deref_mut.ensures.len))

pub invariant_of-self-in-Some : goal.invariant_of-self-in-Some
invariant_of-self-in-Some c = (
  subst (λ (n : ℕ). n ≤ MAX_DEVICES) (sym (length-set c.self.inside.slots.items c.in_ok-i-in-Some.i c.step.new.self)) c.self.invariant.0,
  c.self.invariant.1,
  stepped_have c.self.inside.slots.items c.in_ok-i-in-Some.i c.index_mut.result.now c.step.new.self c.self.invariant.2 (subst (λ (ms : List Member). c.in_ok-i-in-Some.i < length ms) (sym c.self.view_is) c.in_ok-i-in-Some.ensures.place.1) c.index_mut.ensures.value c.step.ensures.motions,
  let s = placed_steps c.self.inside.slots.items c.args.self.now c.args.step.now c.in-Some.dev c.in_ok-i-in-Some.i c.index_mut.result.now c.step.new.self c.step.result c.args.out.now.items c.step.new.out.items (vec_len c.args.out.now) (vec_len c.step.new.out) (vec_capacity c.args.out.now) (vec_capacity c.step.new.out) c.self.view_is (sym c.device_of.ensures ∙ c.in-Some.is) c.in_ok-i-in-Some.ensures.place.0 c.in_ok-i-in-Some.ensures.place.1 c.index_mut.ensures.value c.step.ensures.steps in
      stepped_hold c.args.self.now (slice_set c.self.inside.slots.items c.in_ok-i-in-Some.i c.step.new.self) c.args.step.now c.step.result s.after s.err (subst AllHoldToggles c.self.view_is c.self.invariant.3),
)

-- a frame

pub returns-in-None : goal.returns-in-None
returns-in-None c =
    let whole = framed c.self.inside.slots.items c.frame_all.new.slots c.self.inside.slots.len (omega (arith, c.frame_all.auto.slots, c.deref_mut.ensures.len)) in
    let all = c.frame_all.ensures ∙ ap (map (λ (m : Member). member_after m (Scheduled Frame))) (c.deref_mut.ensures.value ∙ c.self.view_is) in
    let s = frame_steps c.args.self.now _ c.args.step.now c.args.out.now.items (vec_len c.args.out.now) (vec_capacity c.args.out.now) (sym c.device_of.ensures ∙ c.in-None.is) (whole ∙ all) in
    record {
      told = s.told;
      after = s.after;
      events = s.events;
      unready = λ dev m names. let wrong : None ≡ Some dev = sym (sym c.device_of.ensures ∙ c.in-None.is) ∙ names in absurd (cc);
      fits = s.fits;
      refused = s.refused;
      only = s.only;
      err = s.err;
      err_events = s.err_events;
      between = s.between;
      aborts = s.aborts;
      room = s.room;
      few = s.few;
      capacity = s.capacity;
      keeps = λ _. refl;
    }

-- no device of the number

pub returns-in_err-i-in-Some : goal.returns-in_err-i-in-Some
returns-in_err-i-in-Some c =
    let is : c.from_residual.result ≡ Err NoDevice = search rules in
    let s = none_steps c.args.self.now c.args.step.now c.in-Some.dev c.from_residual.result c.args.out.now.items (vec_len c.args.out.now) (vec_capacity c.args.out.now) (sym c.device_of.ensures ∙ c.in-Some.is) is c.in_err-i-in-Some.ensures.none.1 in
    record {
      told = s.told;
      after = s.after;
      events = s.events;
      unready = λ dev m names here unready. refl;
      fits = s.fits;
      refused = s.refused;
      only = s.only;
      err = s.err;
      err_events = s.err_events;
      between = s.between;
      aborts = s.aborts;
      room = s.room;
      few = s.few;
      capacity = s.capacity;
      keeps = λ _. refl;
    }

-- a step of a device

pub returns-in_ok-i-in-Some : goal.returns-in_ok-i-in-Some
returns-in_ok-i-in-Some c =
    let s = placed_steps c.self.inside.slots.items c.args.self.now c.args.step.now c.in-Some.dev c.in_ok-i-in-Some.i c.index_mut.result.now c.step.new.self c.step.result c.args.out.now.items c.step.new.out.items (vec_len c.args.out.now) (vec_len c.step.new.out) (vec_capacity c.args.out.now) (vec_capacity c.step.new.out) c.self.view_is (sym c.device_of.ensures ∙ c.in-Some.is) c.in_ok-i-in-Some.ensures.place.0 c.in_ok-i-in-Some.ensures.place.1 c.index_mut.ensures.value c.step.ensures.steps in
    record {
      told = s.told;
      after = s.after;
      events = s.events;
      unready = tells_nothing c.args.self.now c.args.step.now c.in-Some.dev c.index.result.now c.step.result c.args.out.now.items c.step.new.out.items (sym c.device_of.ensures ∙ c.in-Some.is)
          (named c.self.inside.slots.items c.args.self.now c.in-Some.dev c.in_ok-i-in-Some.i c.index.result.now c.self.view_is c.in_ok-i-in-Some.ensures.place.0 c.in_ok-i-in-Some.ensures.place.1 c.index.ensures).here
          c.host.ensures.unready s.events s.err_events;
      fits = s.fits;
      refused = s.refused;
      only = s.only;
      err = s.err;
      err_events = s.err_events;
      between = s.between;
      aborts = s.aborts;
      room = s.room;
      few = s.few;
      capacity = s.capacity;
      keeps = c.step.ensures.keeps;
    }
