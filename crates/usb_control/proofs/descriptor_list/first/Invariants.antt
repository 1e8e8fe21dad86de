use Rattle.std.proofs.Common.{◌≡◌, ◌≤◌, List, ℕ, length, take, drop}
use Rattle.usb_control.specs.Descriptors.{IsWalk}
use Rattle.usb_control.specs.Search.{is_wanted}
use Rattle.usb_control.proofs.SearchLemmas.{Passed}
use Rattle.usb_control.proofs.descriptor_list.first.Given as goal

abbrev pub invariant-loop-found : goal.invariant-loop-found
invariant-loop-found l = record {
  within : l.at ≤ length l.bytes;
  rest : drop l.at l.bytes ≡ l.rest;
  passed : (descriptors : List (List ℕ)) → IsWalk l.bytes descriptors → Passed (is_wanted l.wanted) descriptors (take l.at l.bytes) l.rest;
}

abbrev pub decreases-loop-found : goal.decreases-loop-found
decreases-loop-found l = length l.rest
