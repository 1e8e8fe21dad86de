use Rattle.std.proofs.Common.{◌∙◌, sym}
use Rattle.usb_control.proofs.WalkLemmas.{over, is_ended}
use Rattle.hid_interfaces.proofs.descriptors.is_walk.Goals as goal

pub loop-behind-preserved : goal.loop-behind-preserved
loop-behind-preserved c =
    let h = over c.loop-behind.rest.now c.in-Some.field-0-0.now c.in-Some.behind.now c.in-Some.ensures.found.0 c.in-Some.ensures.found.1 in
    (λ walk. h.0 (c.loop-behind.invariant.0 walk), λ walk. c.loop-behind.invariant.1 (h.1 walk))

pub returns : goal.returns
returns c =
    let h = is_ended c.loop-behind.rest.now c.in_default.ensures.none in
    (λ e. c.loop-behind.invariant.1 (h.1 (sym c.is_empty.ensures ∙ e)), λ walk. c.is_empty.ensures ∙ h.0 (c.loop-behind.invariant.0 walk))
