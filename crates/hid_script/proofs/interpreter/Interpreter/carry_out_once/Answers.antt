use Rattle.std.proofs.Common.{◌≡◌, to_z, of_z, w32, w64, rules}
use Rattle.std.proofs.lemmas.Int.{to_z-of_z}
use Rattle.hid_script.specs.LineOutput.{ShortLinePrints}
use Rattle.hid_script.proofs.interpreter.Interpreter.carry_out_once.Goals as goal

pub returns-in-Press-clause-prints : goal.returns-in-Press-clause-prints
unfolding ShortLinePrints
returns-in-Press-clause-prints g c = rw c.in-Press.is c.change.ensures.prints

pub returns-in-Release-clause-prints : goal.returns-in-Release-clause-prints
unfolding ShortLinePrints
returns-in-Release-clause-prints g c = rw c.in-Release.is c.change-in-Release.ensures.prints

pub returns-in-Null-clause-prints : goal.returns-in-Null-clause-prints
unfolding ShortLinePrints
returns-in-Null-clause-prints g c = rw c.in-Null.is c.change-in-Null.ensures.prints

pub returns-in-Set-clause-prints : goal.returns-in-Set-clause-prints
unfolding ShortLinePrints
returns-in-Set-clause-prints g c =
    let kept : to_z w64 (of_z w64 c.in-Set.value) ≡ c.in-Set.value = search (rules, to_z-of_z) in
    rw c.in-Set.is (rw kept at c.change-in-Set.ensures.prints)

pub returns-in-Move-clause-prints : goal.returns-in-Move-clause-prints
unfolding ShortLinePrints
returns-in-Move-clause-prints g c =
    let kept : to_z w32 (of_z w32 c.in-Move.by) ≡ c.in-Move.by = search (rules, to_z-of_z) in
    rw c.in-Move.is (rw kept at c.change-in-Move.ensures.prints)

pub returns-in-Poll-clause-prints : goal.returns-in-Poll-clause-prints
unfolding ShortLinePrints
returns-in-Poll-clause-prints g c = rw c.in-Poll.is c.poll.ensures.prints

pub returns-in-Control-clause-prints : goal.returns-in-Control-clause-prints
unfolding ShortLinePrints
returns-in-Control-clause-prints g c = rw c.in-Control.is c.control.ensures.prints

pub returns-in-Frame-clause-prints : goal.returns-in-Frame-clause-prints
unfolding ShortLinePrints
returns-in-Frame-clause-prints g c = rw c.in-Frame.is c.frame.ensures.prints

pub returns-in-Reset-clause-prints : goal.returns-in-Reset-clause-prints
unfolding ShortLinePrints
returns-in-Reset-clause-prints g c = rw c.in-Reset.is c.reset.ensures.prints

pub returns-in-Halt-clause-prints : goal.returns-in-Halt-clause-prints
unfolding ShortLinePrints
returns-in-Halt-clause-prints g c = rw c.in-Halt.is c.halt.ensures.prints
