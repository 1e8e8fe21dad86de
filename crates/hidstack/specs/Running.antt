-- What a run of a script answers (our choice; the outcome of a script: hid_script).
use Rattle.std.specs.Prelude.{◌≡◌, ℕ, ◌/◌, ◌%◌, ◌==◌, ◌<◌, ◌⊎◌, List, [], length, Result, Ok, Err, IsOk, IsErr}
use Rattle.std.specs.Str.Lines.{lines}
use Rattle.hid_script.specs.declared.options.Options.{Options}
use Rattle.hid_script.specs.declared.fault.ScriptFault.{ScriptFault}
use Rattle.hid_script.specs.declared.summary.Summary.{Summary}
use Rattle.hid_script.specs.FaultText.{fault_text}
use Rattle.hid_script.specs.Runs.{RunsTo}
use Rattle.hid_script.specs.Session.{at_first}
use Rattle.hidstack.specs.declared.run.HidRan.{HidRan}
use Rattle.hidstack.specs.declared.run.TheConstants.{LAYOUTS, POLLS}
use Rattle.hidstack.specs.declared.status.TheConstants.{OK, REFUSED, NO_ROOM, MEMORY}
use Rattle.hidstack.specs.Texts.{Written}

-- each option has a bit of its own
abbrev pub options_of : ℕ → Options
options_of options = record { layout = options / LAYOUTS % 2 == 1; trace = options / POLLS % 2 == 1 }

-- a run from the start wrote this text and ended so
abbrev pub RunsScript : Options → List ℕ → List ℕ → Result Summary ScriptFault → Type 0
RunsScript options script written answer = RunsTo (at_first options) (lines script) 0 written answer

-- a run answers OK, REFUSED, NO_ROOM or MEMORY, and nothing else
abbrev pub AnswersRun : ℕ → Type 0
AnswersRun status = (status ≡ OK) ⊎ ((status ≡ REFUSED) ⊎ ((status ≡ NO_ROOM) ⊎ (status ≡ MEMORY)))

-- how the run ended
abbrev pub ran_as : Result Summary ScriptFault → List ℕ → HidRan
ran_as (Ok summary) written = record { line = 0; length = length written; fault = 0 }
ran_as (Err fault) written = record { line = fault.line; length = length written; fault = length (fault_text fault) }

-- the line that names a fault, and nothing where there is none
abbrev pub fault_line : Result Summary ScriptFault → List ℕ
fault_line (Ok summary) = []
fault_line (Err fault) = fault_text fault

-- one of the two texts has too little room
abbrev pub HasTooLittleRoom : List ℕ → List ℕ → List ℕ → List ℕ → Type 0
HasTooLittleRoom told out text fault = (length out < length told) ⊎ (length fault < length text)

-- all lines were run, and the text that they wrote is written
abbrev pub PutsWhole : Result Summary ScriptFault → List ℕ → List ℕ → List ℕ → List ℕ → List ℕ → HidRan → Type 0
PutsWhole answer written out out' fault fault' ran =
    IsOk answer × Written written out out' × (fault' ≡ fault) × (ran ≡ ran_as answer written)

-- the run ended early; its text and the line that names its fault are written
abbrev pub PutsRefused : Result Summary ScriptFault → List ℕ → List ℕ → List ℕ → List ℕ → List ℕ → HidRan → Type 0
PutsRefused answer written out out' fault fault' ran =
    IsErr answer × Written written out out' × Written (fault_line answer) fault fault'
    × (ran ≡ ran_as answer written)

-- one of the texts has too little room, and nothing is written
abbrev pub PutsNone : Result Summary ScriptFault → List ℕ → List ℕ → List ℕ → List ℕ → List ℕ → HidRan → Type 0
PutsNone answer written out out' fault fault' ran =
    (out' ≡ out) × (fault' ≡ fault) × (ran ≡ ran_as answer written)
    × HasTooLittleRoom written out (fault_line answer) fault

-- the run ended early, memory ran out for the line that names its fault, and nothing is written
abbrev pub PutsMemory : Result Summary ScriptFault → List ℕ → List ℕ → List ℕ → List ℕ → HidRan → Type 0
PutsMemory answer out out' fault fault' ran =
    IsErr answer × (out' ≡ out) × (fault' ≡ fault) × (ran ≡ record { line = 0; length = 0; fault = 0 })

-- all lines of the script were run, and their text is written
abbrev pub RunsWhole : Options → List ℕ → List ℕ → List ℕ → List ℕ → List ℕ → HidRan → Type 0
RunsWhole options script out out' fault fault' ran =
    (written : List ℕ) × (answer : Result Summary ScriptFault) × RunsScript options script written answer
    × PutsWhole answer written out out' fault fault' ran

-- the script's run ended early; its text and the line that names its fault are written
abbrev pub RunsRefused : Options → List ℕ → List ℕ → List ℕ → List ℕ → List ℕ → HidRan → Type 0
RunsRefused options script out out' fault fault' ran =
    (written : List ℕ) × (answer : Result Summary ScriptFault) × RunsScript options script written answer
    × PutsRefused answer written out out' fault fault' ran

-- the script was run; one of the texts has too little room, and nothing is written
abbrev pub Misses : Options → List ℕ → List ℕ → List ℕ → List ℕ → List ℕ → HidRan → Type 0
Misses options script out out' fault fault' ran =
    (written : List ℕ) × (answer : Result Summary ScriptFault) × RunsScript options script written answer
    × PutsNone answer written out out' fault fault' ran

-- the script's run ended early, memory ran out for the line that names its fault, and nothing is written
abbrev pub RunsOutOfMemory : Options → List ℕ → List ℕ → List ℕ → List ℕ → List ℕ → HidRan → Type 0
RunsOutOfMemory options script out out' fault fault' ran =
    (written : List ℕ) × (answer : Result Summary ScriptFault) × RunsScript options script written answer
    × PutsMemory answer out out' fault fault' ran
