-- The line that names a fault, and its codes (our choice: docs/SCRIPT.md).
use Rattle.std.specs.Prelude.{ℕ, List, [], ◌∷◌, ◌++◌, codes}
use Rattle.std.specs.Fmt.{decimal}
use Rattle.hid_report_descriptor.specs.Codes.{layout_fault_text}
use Rattle.hid_snapshots.specs.Faults.{report_code}
use Rattle.hid_host.specs.Faults.{stack_text}
use Rattle.hid_script.specs.declared.fault.StepFault.{StepFault}
use Rattle.hid_script.specs.declared.fault.StepFault.TheVariants.{Layout, Report, Stack}
use Rattle.hid_script.specs.declared.fault.Cause.{Cause}
use Rattle.hid_script.specs.declared.fault.Cause.TheVariants.{Syntax, LineTooLong, BadHex, Step, Read, Write, Memory, TooManyReads, NoLayout}
use Rattle.hid_script.specs.declared.fault.ScriptFault.{ScriptFault}

-- the text of a step's fault: a descriptor's cause is printed with its place
abbrev pub step_fault_text : StepFault → List ℕ
step_fault_text (Layout fault) = layout_fault_text fault
step_fault_text (Report fault) = report_code fault
step_fault_text (Stack fault) = stack_text fault

-- the text of a cause: the codes from the outermost to the innermost
abbrev pub cause_text : Cause → List ℕ
cause_text Syntax = codes "X1"
cause_text LineTooLong = codes "X2"
cause_text BadHex = codes "X3"
cause_text (Step fault) = codes "X4 " ++ step_fault_text fault
cause_text Read = codes "X5"
cause_text Write = codes "X6"
cause_text Memory = codes "X7"
cause_text TooManyReads = codes "X8"
cause_text NoLayout = codes "X9"

-- the line of a fault: its number and the codes. Example: line 1: X4 L3 at 0
abbrev pub fault_text : ScriptFault → List ℕ
fault_text fault = codes "line " ++ decimal fault.line ++ codes ": " ++ cause_text fault.cause ++ 10 ∷ []
