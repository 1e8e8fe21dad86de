use Rattle.std.proofs.Common.{◌≡◌, ◌+◌, ℕ, [], length, drop, inl, inr, refl, sym, ap, ◌∙◌, subst, Some, arith}
use Rattle.std.specs.Prelude.{◌==◌}
use Rattle.std.specs.List.{list_all}
use Rattle.std.specs.Result.{result_ok}
use Rattle.std.proofs.lemmas.Bool.{cond-true, cond-false, lt-ltb, le-ltb}
use Rattle.hid_items.specs.Reading.{GivesNext}
use Rattle.hid_input.specs.declared.whole.DescriptorCause.TheVariants.{Unclosed, Other}
use Rattle.hid_input.specs.Descriptor.{after_item}
use Rattle.hid_input.proofs.DescriptorLemmas.{IsOpen, read_more, read_within, read_whole, read_wrong, read_cut, rest_is}
use Rattle.hid_input.proofs.whole.descriptor_fault.Goals as goal
use Rattle.hid_input.proofs.whole.descriptor_fault.Goals.{else-progress-via-then-progress+else-are_zeros, else-progress-via-else-progress}

pub loop-next-preserved : goal.loop-next-preserved
loop-next-preserved c =
    let steps = subst (λ r. GivesNext c.loop-next.next-iterator (Some r) c.next.new.self) c.in-Ok.is c.in-Some.ensures.steps in
    let took : after_item c.loop-next.progress c.in-Ok.item.bytes.now ≡ Some c.in-Ok-after.progress = sym c.after.ensures.next ∙ ap result_ok c.in-Ok-after.is in
    let more = read_more _ _ _ _ _ _ _ c.loop-next.invariant.1.0 steps took in
    let place : c.in-Ok.item.at + length c.in-Ok.item.bytes.now ≡ c.next.new.self.at = omega (arith, steps.at, steps.after) in
    let rest : drop (c.in-Ok.item.at + length c.in-Ok.item.bytes.now) c.args.bytes.now ≡ c.next.new.self.rest.now =
    ap (λ (k : ℕ). drop k c.args.bytes.now) place ∙ rest_is c.args.bytes.now _ c.next.new.self c.in-Ok-after.progress more in
    let unended : IsOpen c.next.new.self c.in-Ok-after.progress = elim c.else-progress.branch [
      | else-progress-via-then-progress+else-are_zeros w ↦
          rw w.if-progress.true (ap (list_all (λ (byte : ℕ). byte == 0)) (sym rest) ∙ (sym w.are_zeros.ensures ∙ w.if-are_zeros.false))
      | else-progress-via-else-progress w ↦ rw w.if-progress.false refl
    ] in
    (_, (more, unended))

pub returns-then-are_zeros : goal.returns-then-are_zeros
returns-then-are_zeros c =
    let steps = subst (λ r. GivesNext c.loop-next.next-iterator (Some r) c.next.new.self) c.in-Ok.is c.in-Some.ensures.steps in
    let took : after_item c.loop-next.progress c.in-Ok.item.bytes.now ≡ Some c.in-Ok-after.progress = sym c.after.ensures.next ∙ ap result_ok c.in-Ok-after.is in
    let place : c.in-Ok.item.at + length c.in-Ok.item.bytes.now ≡ c.next.new.self.at = omega (arith, steps.at, steps.after) in
    read_whole c.args.bytes.now (drop (c.in-Ok.item.at + length c.in-Ok.item.bytes.now) c.args.bytes.now) _ c.next.new.self c.in-Ok-after.progress
    (read_more _ _ _ _ _ _ _ c.loop-next.invariant.1.0 steps took)
    c.if-progress.true (ap (λ (k : ℕ). drop k c.args.bytes.now) place) (sym c.are_zeros.ensures ∙ c.if-are_zeros.true)

pub returns-in-Err : goal.returns-in-Err
returns-in-Err c =
    let cut = read_cut c.loop-next.next-iterator c.next.new.self c.in-Err.cut (subst (λ r. GivesNext c.loop-next.next-iterator (Some r) c.next.new.self) c.in-Err.is c.in-Some.ensures.steps) in
    rw c.fault.ensures (read_wrong c.args.bytes.now c.loop-next.invariant.0 c.loop-next.next-iterator c.loop-next.progress _ c.loop-next.invariant.1.0 c.loop-next.invariant.1.1
    (c.cut_place.ensures ∙ cut.0) (inl (cut.1, refl)))

pub returns-in-Err-after : goal.returns-in-Err-after
returns-in-Err-after c =
    let steps = subst (λ r. GivesNext c.loop-next.next-iterator (Some r) c.next.new.self) c.in-Ok.is c.in-Some.ensures.steps in
    rw c.fault-in-Err-after.ensures (read_wrong c.args.bytes.now c.loop-next.invariant.0 c.loop-next.next-iterator c.loop-next.progress _ c.loop-next.invariant.1.0 c.loop-next.invariant.1.1
    steps.at (inr (inl (record {
      item = c.in-Ok.item.bytes.now;
      more = c.next.new.self.rest.now;
      first = steps.rest;
      encoded = steps.encoded;
      refused = sym c.in-Err-after.ensures.next;
      why = c.in-Err-after.ensures.cause;
    }))))

pub returns-then-progress-gt0 : goal.returns-then-progress-gt0
returns-then-progress-gt0 c =
    let none : c.loop-next.next-iterator.rest.now ≡ [] = c.in-None.ensures.steps.0 in
    let within = read_within c.args.bytes.now c.loop-next.invariant.0 c.loop-next.next-iterator c.loop-next.progress c.loop-next.invariant.1.0 in
    rw c.fault-then-progress-gt0.ensures (read_wrong c.args.bytes.now c.loop-next.invariant.0 c.loop-next.next-iterator c.loop-next.progress _ c.loop-next.invariant.1.0 c.loop-next.invariant.1.1
    (omega (arith, within, ap length none)) (inr (inr (none, sym (cond-true _ Unclosed Other (lt-ltb 0 c.loop-next.progress.depth c.if-progress-gt0.true))))))

pub returns : goal.returns
returns c =
    let none : c.loop-next.next-iterator.rest.now ≡ [] = c.in-None.ensures.steps.0 in
    let within = read_within c.args.bytes.now c.loop-next.invariant.0 c.loop-next.next-iterator c.loop-next.progress c.loop-next.invariant.1.0 in
    rw c.fault-2.ensures (read_wrong c.args.bytes.now c.loop-next.invariant.0 c.loop-next.next-iterator c.loop-next.progress _ c.loop-next.invariant.1.0 c.loop-next.invariant.1.1
    (omega (arith, within, ap length none)) (inr (inr (none, sym (cond-false _ Unclosed Other (le-ltb 0 c.loop-next.progress.depth c.if-progress-gt0.false))))))
