-- What comes of a line that expects something, by what it says.
use Rattle.std.proofs.Common.{ℕ, List, Result, refl}
use Rattle.lab_expectations.specs.declared.transcript.Transcript.{Transcript}
use Rattle.lab_lines.specs.LabLines.{said_of}
use Rattle.lab_lines.specs.declared.lab_line.LabLine.{LabLine}
use Rattle.lab_lines.specs.declared.lab_line.LabLine.TheVariants as said
use Rattle.lab_session.specs.declared.fault.LabCause.{LabCause}
use Rattle.lab_session.specs.Expecting.{LineExpects, SaidExpects}

pub expects_said : (l : LabLine) (old new : Transcript) (came : List ℕ) (r : Result (Unit {0}) LabCause) → LineExpects l old new came r
    → SaidExpects (said_of l) old new came r
expects_said (said.Expect expected) old new came r h = (expected.now, refl, h)
expects_said said.ExpectNone old new came r h = h
expects_said said.ExpectAny old new came r h = h
expects_said said.Nothing old new came r h = tt
expects_said (said.Script line) old new came r h = tt
expects_said (said.Short short) old new came r h = tt
expects_said (said.Layout hex) old new came r h = tt
expects_said (said.Values hex) old new came r h = tt
expects_said (said.Device start boot hex) old new came r h = tt
expects_said (said.DeviceFile start boot name) old new came r h = tt
expects_said (said.Change dev control wanted) old new came r h = tt
expects_said (said.Click dev control) old new came r h = tt
expects_said (said.Type dev text) old new came r h = tt
expects_said (said.Lose dev percent seed) old new came r h = tt
expects_said (said.Repeat count) old new came r h = tt
expects_said said.End old new came r h = tt
expects_said (said.Wait count) old new came r h = tt
expects_said (said.Include name) old new came r h = tt
