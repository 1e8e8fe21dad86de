use Rattle.hid_usages.proofs.RoomLemmas.{AreWithin}
use Rattle.hid_usages.proofs.view.most_places.Given as goal

abbrev pub invariant-loop-i : goal.invariant-loop-i
invariant-loop-i l = AreWithin l.states l.i l.most
