use Rattle.std.proofs.Common.{length}
use Rattle.usbip_script.specs.declared.fault.LineCause.{LineCause}
use Rattle.lab_lines.specs.Typing.{characters_of}
use Rattle.lab_serving.specs.Parts.{typed_lines}
use Rattle.lab_serving.specs.Reading.{AllGive, IsRefused, LabRead, lab_read_of}
use Rattle.lab_serving.proofs.lab_script.LabScript.take_text.Given as goal

abbrev pub invariant-loop-character : goal.invariant-loop-character
invariant-loop-character l = record {
  goes_on : (after : LabRead) → AllGive (lab_read_of l.self) l.number (typed_lines l.dev (characters_of l.text.rest.now)) after
      → AllGive (lab_read_of l.fn.self) l.number (typed_lines l.dev (characters_of l.fn.text.rest.now)) after;
  ends : (cause : LineCause) → IsRefused (lab_read_of l.self) l.number (typed_lines l.dev (characters_of l.text.rest.now)) cause
      → IsRefused (lab_read_of l.fn.self) l.number (typed_lines l.dev (characters_of l.fn.text.rest.now)) cause;
}

abbrev pub decreases-loop-character : goal.decreases-loop-character
decreases-loop-character l = length l.text.rest.now
