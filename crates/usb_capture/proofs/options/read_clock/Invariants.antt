use Rattle.std.proofs.Common.{length}
use Rattle.usb_capture.specs.Options.{clock_after}
use Rattle.usb_capture.proofs.OptionLemmas.{Tells}
use Rattle.usb_capture.proofs.options.read_clock.Given as goal

-- what is left tells the clock that all options tell
abbrev pub invariant-options : goal.invariant-options
invariant-options l = Tells l.order l.latest l.rest (clock_after (length l.options) l.order l.fn.clock l.options)

abbrev pub decreases-options : goal.decreases-options
decreases-options l = length l.rest
