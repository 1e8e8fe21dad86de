-- Laws of the outcomes of a script's lines, which hold whatever runs it (our choice: docs/SCRIPT.md).
use Rattle.std.specs.Prelude.{◌≡◌, ◌≢◌, ◌≤◌, ◌+◌, ◌==◌, ◌&&◌, ℕ, true, false, if◌then◌else◌, List, [], ◌∷◌, Some, Result, Ok}
use Rattle.hid_layout.specs.Controls.{items_of}
use Rattle.hid_bus.specs.ReportState.{no_idle}
use Rattle.hid_bus.specs.Rounds.{is_clean}
use Rattle.hid_bus.specs.Convergence.{IsAtRest, polls_needed}
use Rattle.hid_stack.specs.Members.{Member, polls_it}
use Rattle.hid_stack.specs.Rig.{member_at}
use Rattle.hid_stack.specs.Agreement.{AgreesIfSilent}
use Rattle.hid_text.specs.declared.line.Line.{Line}
use Rattle.hid_text.specs.declared.line.Line.TheVariants as line
use Rattle.hid_text.specs.declared.short.ShortLine.TheVariants as short
use Rattle.hid_text.specs.Line.{meaning_of}
use Rattle.hid_text.specs.Output.{IsPrefix}
use Rattle.hid_script.specs.declared.options.Options.{Options}
use Rattle.hid_script.specs.declared.fault.ScriptFault.{ScriptFault}
use Rattle.hid_script.specs.declared.summary.Summary.{Summary}
use Rattle.hid_script.specs.Session.{Session, Outcome, at_first}
use Rattle.hid_script.specs.LineOutput.{LinePrints, LineBegins}
use Rattle.hid_script.specs.Runs.{AllPrint, RunsTo}
use Rattle.hid_script.specs.Printing.{AllDo, PrintsHistories, RunPrintsHistories}

-- a line has one outcome at most
abbrev pub LineHasOneOutcome : Type 0
LineHasOneOutcome = (session : Session) (line : List ℕ) (o other : Outcome)
    → LinePrints session line o → LinePrints session line other → o ≡ other

-- lines that are all accepted print one text at most, and leave one session
abbrev pub LinesPrintOneText : Type 0
LinesPrintOneText = (session : Session) (script : List (List ℕ)) (text other : List ℕ) (last end : Session)
    → AllPrint session script text last → AllPrint session script other end → (text ≡ other) × (last ≡ end)

-- what the first times of a line print is a prefix of what the line prints
abbrev pub BeginsWithPrefixes : Type 0
BeginsWithPrefixes = (session : Session) (line text : List ℕ) (o : Outcome)
    → LineBegins session line text → LinePrints session line o → IsPrefix text o.text

-- lines that are all accepted, from the first of a script on, print the histories of its devices
abbrev pub LinesPrintLives : Type 0
LinesPrintLives = (options : Options) (script : List (List ℕ)) (text : List ℕ) (last : Session)
    → AllPrint (at_first options) script text last → PrintsHistories (AllDo [] script) text last.members

-- What a run of a script wrote prints the histories of its devices.
abbrev pub RunsPrintLives : Type 0
RunsPrintLives = (options : Options) (script : List (List ℕ)) (written : List ℕ) (result : Result Summary ScriptFault)
    → RunsTo (at_first options) script 0 written result → RunPrintsHistories script written result

-- No key is left stuck: after lines that are all accepted, each device that has nothing to send and its host agree.
abbrev pub LinesAgree : Type 0
LinesAgree = (options : Options) (script : List (List ℕ)) (text : List ℕ) (last : Session)
    → AllPrint (at_first options) script text last
    → (dev : ℕ) (n : Member) → member_at last.members dev ≡ Some n → AgreesIfSilent n

-- A line leaves a device with these idle times alone, except that it may poll it: it steps another device, attaches one, or
-- does nothing to the bus. Frames pass only if the device has no idle time.
abbrev pub LeavesAlone : ℕ → List ℕ → Line → Type 0
LeavesAlone dev idle line.Nothing = Unit {0}
LeavesAlone dev idle (line.Layout bytes) = Unit {0}
LeavesAlone dev idle (line.Values bytes) = Unit {0}
LeavesAlone dev idle (line.Device start boot bytes) = Unit {0}
LeavesAlone dev idle (line.Begin other request) = other ≢ dev
LeavesAlone dev idle (line.Step (short.Press other usage)) = other ≢ dev
LeavesAlone dev idle (line.Step (short.Release other usage)) = other ≢ dev
LeavesAlone dev idle (line.Step (short.Null other usage)) = other ≢ dev
LeavesAlone dev idle (line.Step (short.Set other usage value)) = other ≢ dev
LeavesAlone dev idle (line.Step (short.Move other usage by)) = other ≢ dev
LeavesAlone dev idle (line.Step (short.Frame count)) = idle ≡ no_idle idle
LeavesAlone dev idle (line.Step (short.Poll other fate count)) = Unit {0}
LeavesAlone dev idle (line.Step (short.Control other fate count)) = other ≢ dev
LeavesAlone dev idle (line.Step (short.Reset other)) = other ≢ dev
LeavesAlone dev idle (line.Step (short.Halt other)) = other ≢ dev

-- how many polls of a device a line makes of which nothing is lost
abbrev pub clean_polls : ℕ → Line → ℕ
clean_polls dev (line.Step (short.Poll other fate count)) = if (other == dev) && is_clean fate then count else 0
clean_polls dev _ = 0

-- lines that leave a device alone but for polls, of which this many lose nothing
abbrev pub AreLastLines : ℕ → List ℕ → List (List ℕ) → ℕ → Type 0
AreLastLines dev idle [] polls = polls ≡ 0
AreLastLines dev idle (bytes ∷ more) polls =
    (said : Line) × (rest : ℕ) × (meaning_of bytes ≡ Ok said) × LeavesAlone dev idle said
    × AreLastLines dev idle more rest × (polls ≡ clean_polls dev said + rest)

-- Last lines that poll a device often enough bring it to rest: after lines that are all accepted, more lines leave it alone but
-- for polls, and at least as many of these lose nothing as the device needs. Then it has nothing to send, and agrees with its
-- host. The host polls the device, and its endpoint isn't halted.
abbrev pub PollsBringToRest : Type 0
PollsBringToRest = (options : Options) (script later : List (List ℕ)) (text more : List ℕ) (mid last : Session)
    (dev polls : ℕ) (n : Member)
    → AllPrint (at_first options) script text mid → AllPrint mid later more last
    → member_at mid.members dev ≡ Some n → polls_it n ≡ true → n.link.halted ≡ false
    → AreLastLines dev n.link.reports.idle later polls → polls_needed (items_of n.layout) n.link ≤ polls
    → (o : Member) × (member_at last.members dev ≡ Some o) × IsAtRest (items_of o.layout) o.link
