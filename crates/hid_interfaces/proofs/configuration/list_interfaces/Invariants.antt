use Rattle.std.proofs.Common.{List, ℕ, length}
use Rattle.usb_control.specs.Descriptors.{IsWalk}
use Rattle.hid_interfaces.proofs.ListLemmas.{ListGoesOn}
use Rattle.hid_interfaces.proofs.configuration.list_interfaces.Given as goal

abbrev pub invariant-loop-found : goal.invariant-loop-found
invariant-loop-found l = (descriptors : List (List ℕ)) → IsWalk l.bytes descriptors → ListGoesOn descriptors l.listed.items l.rest

abbrev pub decreases-loop-found : goal.decreases-loop-found
decreases-loop-found l = length l.rest
