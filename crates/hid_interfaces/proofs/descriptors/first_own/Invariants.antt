use Rattle.std.proofs.Common.{List, ℕ, length}
use Rattle.usb_control.specs.Descriptors.{IsWalk}
use Rattle.hid_interfaces.specs.Interfaces.{is_wanted}
use Rattle.hid_interfaces.proofs.ListLemmas.{SearchGoesOn}
use Rattle.hid_interfaces.proofs.descriptors.first_own.Given as goal

abbrev pub invariant-loop-found : goal.invariant-loop-found
invariant-loop-found l = (descriptors : List (List ℕ)) → IsWalk l.behind descriptors → SearchGoesOn (is_wanted l.wanted) descriptors l.rest

abbrev pub decreases-loop-found : goal.decreases-loop-found
decreases-loop-found l = length l.rest
