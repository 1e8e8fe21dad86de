-- Worked values of the line of a fault and of last lines, each by hand.
use Rattle.std.proofs.Common.{◌≡◌, [], ◌∷◌, ◌++◌, refl}
use Rattle.std.specs.Prelude.{codes}
use Rattle.std.specs.Fmt.{digits}
use Rattle.hid_report_descriptor.specs.declared.fault.Cause.TheVariants as layouts
use Rattle.hid_snapshots.specs.declared.fault.ReportFault.TheVariants.{Short}
use Rattle.usb_transact.specs.declared.transaction.Fate.TheVariants.{Clean, AckLost}
use Rattle.hid_text.specs.declared.line.Line.TheVariants as line
use Rattle.hid_text.specs.declared.short.ShortLine.TheVariants as short
use Rattle.hid_script.specs.declared.fault.Cause.TheVariants as causes
use Rattle.hid_script.specs.declared.fault.StepFault.TheVariants as faults
use Rattle.hid_script.specs.FaultText.{fault_text}
use Rattle.hid_script.specs.Laws.{clean_polls}

-- the codes of a fault, from the outermost to the innermost
a_short_report : fault_text (record { line = 2; cause = causes.Step (faults.Report Short) }) ≡ codes "line 2: X4 U8" ++ 10 ∷ []
unfolding digits
a_short_report = refl

a_pop_too_many : fault_text (record { line = 1; cause = causes.Step (faults.Layout (record { cause = layouts.PopEmpty; at = 0 })) }) ≡ codes "line 1: X4 L3 at 0" ++ 10 ∷ []
unfolding digits
a_pop_too_many = refl

-- what last lines count for device 1: `poll 1 clean 2`, `poll 1 ack 3`, `poll 2 clean 3` and `frame 4`
two_polls : clean_polls 1 (line.Step (short.Poll 1 Clean 2)) ≡ 2
two_polls = refl

lost_polls : clean_polls 1 (line.Step (short.Poll 1 AckLost 3)) ≡ 0
lost_polls = refl

polls_of_another : clean_polls 1 (line.Step (short.Poll 2 Clean 3)) ≡ 0
polls_of_another = refl

frames_pass : clean_polls 1 (line.Step (short.Frame 4)) ≡ 0
frames_pass = refl
