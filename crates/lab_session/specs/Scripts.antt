-- Lines of hidrun, as the bench carries them out (our choice: docs/LAB.md).
use Rattle.std.specs.Prelude.{◌≡◌, ◌+◌, ◌≤◌, ℕ, Bool, true, false, not, List, ◌++◌, length, All, Option, None, Some, is_some, IfSome, Result, Ok, Err}
use Rattle.std.specs.Io.KnownBytes.{Appends}
use Rattle.hid_text.specs.declared.fault.LineFault.{LineFault}
use Rattle.hid_text.specs.declared.line.Line.{Line}
use Rattle.hid_text.specs.declared.line.Line.TheVariants as line
use Rattle.hid_text.specs.Line.{meaning_of}
use Rattle.hid_script.specs.declared.fault.Cause.{Cause}
use Rattle.hid_script.specs.declared.fault.ScriptFault.{ScriptFault}
use Rattle.hid_script.specs.declared.summary.Summary.{Summary}
use Rattle.hid_script.specs.Interpreter.{session_of}
use Rattle.hid_script.specs.LineOutput.{BeginsMeant, LineBegins, LinePrints, MeaningPrints}
use Rattle.hid_script.specs.Place.{AppendsOutput}
use Rattle.hid_script.specs.Runs.{Ends, RunsTo}
use Rattle.hid_script.specs.Session.{Session, success}
use Rattle.lab_lines.specs.declared.expected.Expected.{Expected}
use Rattle.lab_lines.specs.declared.expected.Expected.TheVariants as place
use Rattle.lab_lines.specs.LabLines.{Said, Refusal, TooLong, Wrong, lab_meaning}
use Rattle.lab_lines.specs.LabLines as lab
use Rattle.lab_session.specs.declared.asked.Asked.{Asked}
use Rattle.lab_session.specs.declared.bench.Bench.{Bench}
use Rattle.lab_session.specs.declared.fault.LabCause.{LabCause}
use Rattle.lab_session.specs.declared.fault.LabCause.TheVariants.{Script}
use Rattle.lab_session.specs.declared.runs.LabFault.{LabFault}
use Rattle.lab_session.specs.declared.runs.Ran.{Ran}
use Rattle.lab_session.specs.declared.runs.Ran.TheVariants as ran
use Rattle.lab_session.specs.declared.runs.Done.{Done}
use Rattle.lab_session.specs.declared.runs.Done.TheVariants as done
use Rattle.lab_session.specs.declared.runs.RunEnd.{RunEnd}
use Rattle.lab_session.specs.declared.runs.RunEnd.TheVariants as ended
use Rattle.lab_session.specs.declared.need.Need.{Need}
use Rattle.lab_session.specs.declared.ahead.Ahead.{Ahead}
use Rattle.lab_session.specs.Ahead.{unread}
use Rattle.lab_session.specs.Printed.{IsPlain}
use Rattle.hid_text.specs.Lines.{IsUnbroken}
use Rattle.std.specs.Str.Lines.{lines}
use Rattle.lab_session.specs.Bench.{moment_of}
use Rattle.lab_session.specs.Lines.{Moment}

-- what a line says to hidrun, where the bench reads one of hidrun's lines in it
abbrev pub script_said : Said → Option (Result Line LineFault)
script_said lab.Nothing = Some (Ok line.Nothing)
script_said (lab.Script bytes) = Some (meaning_of bytes)
script_said (lab.Short short) = Some (Ok (line.Step short))
script_said _ = None

-- the name of a file is expected, which no line of hidrun has
abbrev pub is_file : Expected → Bool
is_file place.File = true
is_file _ = false

-- what the bench reads is a line of hidrun; or it is none of the bench's lines, and not because the name of a file is missing
abbrev pub is_line_of_hidrun : Result Said Refusal → Bool
is_line_of_hidrun (Ok said) = is_some (script_said said)
is_line_of_hidrun (Err TooLong) = false
is_line_of_hidrun (Err (Wrong word expected)) = not (is_file expected)

-- A line that isn't new: it has up to 1,024 bytes, and the bench reads one of hidrun's lines in it, or none at all. Example:
-- press 1 07:04 and press 8 are such lines, press 1 Keyboard_A and click 1 7.0 aren't
pub record IsScripts (line : List ℕ) : Type 0 where
  pub room : length line ≤ 1024
  pub read : is_line_of_hidrun (lab_meaning line) ≡ true

-- no fates are drawn
abbrev pub IsUndrawn : Moment → Type 0
IsUndrawn moment = (dev : ℕ) → moment.chance dev ≡ None

-- ---- a line

-- how the bench ends a line that hidrun ends so
abbrev pub lab_end : Result (Unit {0}) Cause → Result (Unit {0}) LabCause
lab_end (Ok _) = Ok tt
lab_end (Err cause) = Err (Script cause)

-- the end of a line, without what it asks for
abbrev pub end_of : {A : Type 0} → Result A LabCause → Result (Unit {0}) LabCause
end_of (Ok _) = Ok tt
end_of (Err cause) = Err cause

-- Known bytes grew by what hidrun writes of a line with this meaning: whole, or what its end leaves. The bench ends it for the
-- same cause.
abbrev pub PrintsAs : Option (List ℕ) → Option (List ℕ) → Result Line LineFault → Session → Result (Unit {0}) LabCause
    → Session → Type 0
PrintsAs old new meaning session result next =
    (end : Result (Unit {0}) Cause) × (result ≡ lab_end end)
    × AppendsOutput old new (MeaningPrints session meaning) (BeginsMeant session meaning) end next

-- a line of hidrun was carried out as there
abbrev pub PrintsSaid : Option (List ℕ) → Option (List ℕ) → Said → Session → Result (Unit {0}) LabCause → Session → Type 0
PrintsSaid old new said session result next =
    IfSome (script_said said) (λ meaning. PrintsAs old new meaning session result next)

-- ---- a run

-- What a line came to, with so many lines before it. It was carried out, and asks for nothing; what hidrun prints of it was
-- written, and still no fates are drawn. Or it ended the run as there.
abbrev pub LineRan : Bench → Bench → Option (List ℕ) → Option (List ℕ) → List ℕ → ℕ → Result (Option Asked) LabFault → Type 0
LineRan old new before after line count (Ok asked) =
    (asked ≡ None) × (written : List ℕ) × Appends before after written
    × LinePrints (session_of old.interpreter) line (success written (session_of new.interpreter))
    × IsUndrawn (moment_of new) × (new.options ≡ old.options)
LineRan old new before after line count (Err fault) =
    (fault.line ≡ count + 1) × (cause : Cause) × (fault.cause ≡ Script cause)
    × (written : List ℕ) × Appends before after written
    × Ends (LinePrints (session_of old.interpreter) line) (LineBegins (session_of old.interpreter) line) written cause

-- Known bytes grew by what hidrun writes of these lines, with so many lines before them, and hidrun answers so.
abbrev pub RunsAs : Option (List ℕ) → Option (List ℕ) → Session → List (List ℕ) → ℕ → Result Summary ScriptFault → Type 0
RunsAs old new session script before end = (written : List ℕ) × Appends old new written × RunsTo session script before written end

-- a line ended the run, for the cause for which hidrun ends it there
abbrev pub Fails : Option (List ℕ) → Option (List ℕ) → Session → List (List ℕ) → ℕ → LabFault → Type 0
Fails old new session script before fault =
    (end : ScriptFault) × (fault ≡ record { line = end.line; cause = Script end.cause })
    × RunsAs old new session script before (Err end)

-- Known bytes grew by what hidrun writes of these lines, with so many lines before them, and the run ended as hidrun ends it: all
-- lines were carried out, or one wasn't, for the same cause.
abbrev pub RunsAsScript : Option (List ℕ) → Option (List ℕ) → Session → List (List ℕ) → ℕ → Result Ran LabFault → Type 0
RunsAsScript old new session script before (Ok (ran.All summary)) = RunsAs old new session script before (Ok summary)
RunsAsScript old new session script before (Ok (ran.Asks asked line rest)) = ⊥
RunsAsScript old new session script before (Err fault) = Fails old new session script before fault

-- ---- pieces

-- The lines so far were carried out as in hidrun: who goes on so has done so from the start.
abbrev pub GoesOn : Bench → Option (List ℕ) → List ℕ → ℕ → Bench → Option (List ℕ) → List ℕ → ℕ → Type 0
GoesOn first u text before now v rest count =
    IsPlain now.options × IsUndrawn (moment_of now) × All IsScripts (lines rest)
    × ((w : Option (List ℕ)) (end : Result Summary ScriptFault)
    → RunsAs v w (session_of now.interpreter) (lines rest) count end
    → RunsAs u w (session_of first.interpreter) (lines text) before end)

-- the lines that end in a text were carried out, whatever comes after it
abbrev pub LinesRan : Bench → Bench → Option (List ℕ) → Option (List ℕ) → List ℕ → ℕ → List ℕ → Result Done LabFault → Type 0
LinesRan old new u v text before more (Ok (done.Lines count rest)) = GoesOn old u (text ++ more) before new v (rest.now ++ more) count
LinesRan old new u v text before more (Ok (done.Asks asked count rest)) = ⊥
LinesRan old new u v text before more (Err fault) = Fails u v (session_of old.interpreter) (lines (text ++ more)) before fault

-- what is left of a text stands at its end, and so many lines end before it at most
abbrev pub Leaves : List ℕ → ℕ → Done → Type 0
Leaves text before (done.Lines count rest) =
    ((front : List ℕ) × (text ≡ front ++ rest.now)) × (count ≤ before + length text) × IsUnbroken rest.now
Leaves text before (done.Asks asked count rest) = ((front : List ℕ) × (text ≡ front ++ rest.now)) × (count ≤ before + length text)

-- the lines that had come whole were carried out, whatever comes after them
abbrev pub AheadRan : Bench → Bench → Option (List ℕ) → Option (List ℕ) → Ahead → Ahead → List ℕ → Result (Option Need) LabFault → Type 0
AheadRan old new u v before after more (Ok None) =
    GoesOn old u (unread before ++ more) before.lines new v (unread after ++ more) after.lines
AheadRan old new u v before after more (Ok (Some need)) = ⊥
AheadRan old new u v before after more (Err fault) =
    Fails u v (session_of old.interpreter) (lines (unread before ++ more)) before.lines fault

-- A run ended before the line that comes next, and before anything of it was written, whatever comes then; or that line is too
-- long to be one of hidrun's.
abbrev pub StopsHere : Option (List ℕ) → Option (List ℕ) → List ℕ → ℕ → LabFault → Type 0
StopsHere u v rest count fault =
    (session : Session) (more : List ℕ) → IsUnbroken rest → All IsScripts (lines (rest ++ more))
    → Fails u v session (lines (rest ++ more)) count fault

-- as `RunsAsScript`, of a run whose lines come in pieces
abbrev pub RunsFed : Option (List ℕ) → Option (List ℕ) → Session → List (List ℕ) → ℕ → Result RunEnd LabFault → Type 0
RunsFed old new session script before (Ok (ended.All summary)) = RunsAs old new session script before (Ok summary)
RunsFed old new session script before (Ok (ended.Asks need)) = ⊥
RunsFed old new session script before (Err fault) = Fails old new session script before fault
