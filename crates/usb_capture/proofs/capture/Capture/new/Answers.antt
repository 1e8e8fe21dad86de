use Rattle.usb_capture.specs.declared.format.Format.TheVariants.{Unknown}
use Rattle.usb_capture.proofs.CaptureLemmas.{kept_sound}
use Rattle.usb_capture.proofs.capture.Capture.new.Goals as goal

pub invariant_of-result : goal.invariant_of-result
invariant_of-result c = record { sound = kept_sound Unknown _ c.new-2.ensures.items }
