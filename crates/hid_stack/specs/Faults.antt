-- What the refusal of a run is printed as (our choice).
use Rattle.std.specs.Prelude.{ℕ, List, ◌++◌, codes}
use Rattle.std.specs.Fmt.{decimal}
use Rattle.hid_host.specs.Faults.{stack_text}
use Rattle.hid_host.specs.declared.fault.StackFault.{StackFault}

-- where a run stopped, and why
abbrev pub run_text : ℕ → StackFault → List ℕ
run_text at fault = codes "step " ++ decimal at ++ codes ": " ++ stack_text fault
