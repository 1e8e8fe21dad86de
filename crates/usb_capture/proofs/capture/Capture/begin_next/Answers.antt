use Rattle.usb_capture.proofs.CaptureLemmas.{kept_sound}
use Rattle.usb_capture.proofs.capture.Capture.begin_next.Goals as goal

pub invariant_of-self : goal.invariant_of-self
invariant_of-self c = record { sound = kept_sound _ _ c.clear.ensures.items }
