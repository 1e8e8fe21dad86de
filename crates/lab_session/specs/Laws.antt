-- Laws of what the lines of the bench are, which hold whatever runs them (our choice: docs/LAB.md).
use Rattle.std.specs.Prelude.{◌≡◌, ℕ, List, [], ◌++◌, map, All, Option, Some, Result, Ok, Err}
use Rattle.hid_layout.specs.declared.control.ControlId.{ControlId}
use Rattle.usb_transact.specs.declared.transaction.Fate.{Fate}
use Rattle.usb_transact.specs.declared.transaction.Fate.TheVariants.{Clean}
use Rattle.hid_text.specs.declared.line.Line.{Line}
use Rattle.hid_text.specs.declared.line.Line.TheVariants as line
use Rattle.hid_text.specs.declared.short.ShortLine.TheVariants as short
use Rattle.hid_text.specs.declared.short.ShortLine.{ShortLine}
use Rattle.hid_text.specs.Line.{meaning_of}
use Rattle.hid_script.specs.declared.fault.ScriptFault.{ScriptFault}
use Rattle.hid_script.specs.declared.options.Options.{Options}
use Rattle.hid_script.specs.declared.summary.Summary.{Summary}
use Rattle.hid_script.specs.Runs.{RefusedLine, RunsTo, ending_of}
use Rattle.hid_script.specs.Session.{Session, at_first}
use Rattle.hid_script.specs.Printing.{PrintsHistories}
use Rattle.lab_lines.specs.declared.keys.Key.{Key}
use Rattle.lab_lines.specs.LabLines.{Said}
use Rattle.lab_session.specs.Acts.{AllAct}
use Rattle.lab_lines.specs.Losses.{fates}
use Rattle.lab_session.specs.Chances.{Chance}
use Rattle.lab_session.specs.Lines.{Moment, Often, Polls, Clicks, ClicksKeys, ShortLineDoes, LineDoes}
use Rattle.lab_session.specs.Parts.{Part, Says, AllCarry}
use Rattle.lab_session.specs.Scripts.{IsScripts}

-- what is done is what its parts do, one after the other
abbrev pub IsItsParts : (Moment → List Part → List ℕ → Moment → Type 0) → Type 0
IsItsParts Doing = (before after : Moment) (parts : List Part) (text : List ℕ)
    → Doing before parts text after → AllCarry before.session parts text after.session

-- two lists of parts that are carried out, one after the other, are one list: so lines in turn are their parts
abbrev pub PartsJoin : Type 0
PartsJoin = (a b c : Session) (first more : List Part) (text rest : List ℕ)
    → AllCarry a first text b → AllCarry b more rest c → AllCarry a (first ++ more) (text ++ rest) c

-- `poll D` once, with this fate
abbrev pub poll_with : ℕ → Fate → Part
poll_with dev fate = Says (line.Step (short.Poll dev fate 1))

-- Polls of which nothing is said are those with the fates that follow from the percentage and the generator.
abbrev pub PollsHaveFates : Type 0
PollsHaveFates = (dev n : ℕ) (chance : Chance) (before after : Moment) (parts : List Part) (text : List ℕ)
    → before.chance dev ≡ Some chance → Often n (Polls dev Clean) before parts text after
    → parts ≡ map (poll_with dev) (fates chance.percent n chance.generator)

-- a click is its parts: a change, polls, a change, and polls
abbrev pub ClicksAreParts : Type 0
ClicksAreParts = (dev : ℕ) (control : ControlId) → IsItsParts (Clicks dev control)

-- keys that are clicked, one after the other, are their parts
abbrev pub KeysAreParts : Type 0
KeysAreParts = (dev : ℕ) (keys : List Key) → IsItsParts (ClicksKeys dev keys)

-- a short line of a script, with what is drawn of its polls and tries, is its parts
abbrev pub ShortLinesAreParts : Type 0
ShortLinesAreParts = (said : ShortLine) → IsItsParts (ShortLineDoes said)

-- any line is its parts, whatever it says
abbrev pub LinesAreParts : Type 0
LinesAreParts = (given : Option ℕ) (said : Said) → IsItsParts (LineDoes given said)

-- parts that are all carried out, from the first of a run on, print the histories of their devices
abbrev pub PartsPrintLives : Type 0
PartsPrintLives = (options : Options) (parts : List Part) (text : List ℕ) (last : Session)
    → AllCarry (at_first options) parts text last → PrintsHistories (AllAct [] parts) text last.members

-- ---- runs of scripts

-- a run ended by itself: all its lines were carried out, or one is refused
abbrev pub EndsByItself : Result Summary ScriptFault → Type 0
EndsByItself (Ok summary) = Unit {0}
EndsByItself (Err fault) = ending_of fault.cause ≡ RefusedLine

-- Runs of the same lines that ended by themselves wrote the same and answered the same.
abbrev pub RunsAreOne : Type 0
RunsAreOne = (session : Session) (script : List (List ℕ)) (before : ℕ) (written other : List ℕ) (result end : Result Summary ScriptFault)
    → RunsTo session script before written result → RunsTo session script before other end → EndsByItself result → EndsByItself end
    → (written ≡ other) × (result ≡ end)

-- a line that hidrun reads is no new one
abbrev pub LinesOfScripts : Type 0
LinesOfScripts = (line : List ℕ) (said : Line) → meaning_of line ≡ Ok said → IsScripts line

-- no line is new of a script that hidrun carries out to its end
abbrev pub ScriptsThatEndWell : Type 0
ScriptsThatEndWell = (session : Session) (script : List (List ℕ)) (before : ℕ) (written : List ℕ) (summary : Summary)
    → RunsTo session script before written (Ok summary) → All IsScripts script
