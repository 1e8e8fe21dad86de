use Rattle.std.proofs.Common.{◌≡◌, true, false, sym}
use Rattle.usb_control.specs.Descriptors.{is_interface}
use Rattle.hid_interfaces.specs.Interfaces.{is_wanted}
use Rattle.hid_interfaces.proofs.ListLemmas.{search_ends, search_finds, search_passes, search_stops}
use Rattle.hid_interfaces.proofs.descriptors.first_own.Goals as goal

pub returns-then-is_interface-clause-finds : goal.returns-then-is_interface-clause-finds
returns-then-is_interface-clause-finds c = λ descriptors walk.
    let ends : is_interface c.in-Some.found.now ≡ true = cc in
    sym (search_stops (is_wanted c.args.wanted) descriptors c.loop-found.rest.now c.in-Some.found.now c.in-Some.more.now c.in-Some.ensures.found.0 c.in-Some.ensures.found.1 ends (c.loop-found.invariant descriptors walk))

pub returns-then-is-clause-finds : goal.returns-then-is-clause-finds
returns-then-is-clause-finds c = λ descriptors walk.
    let own : is_interface c.in-Some.found.now ≡ false = cc in
    let wanted : is_wanted c.args.wanted c.in-Some.found.now ≡ true = cc in
    sym (search_finds (is_wanted c.args.wanted) descriptors c.loop-found.rest.now c.in-Some.found.now c.in-Some.more.now c.in-Some.ensures.found.0 c.in-Some.ensures.found.1 own wanted (c.loop-found.invariant descriptors walk))

pub loop-found-preserved : goal.loop-found-preserved
loop-found-preserved c = λ descriptors walk.
    let own : is_interface c.in-Some.found.now ≡ false = cc in
    let other : is_wanted c.args.wanted c.in-Some.found.now ≡ false = cc in
    search_passes (is_wanted c.args.wanted) descriptors c.loop-found.rest.now c.in-Some.found.now c.in-Some.more.now c.in-Some.ensures.found.0 c.in-Some.ensures.found.1 own other (c.loop-found.invariant descriptors walk)

pub returns-clause-finds : goal.returns-clause-finds
returns-clause-finds c = λ descriptors walk.
    sym (search_ends (is_wanted c.args.wanted) descriptors c.loop-found.rest.now c.in_default.ensures.none (c.loop-found.invariant descriptors walk))
