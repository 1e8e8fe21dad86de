-- Runs of any lines: each is carried out, one after the other, up to one that asks for something or ends the run (our choice:
-- docs/LAB.md).
use Rattle.std.specs.Prelude.{◌≡◌, ◌⊎◌, ◌+◌, ℕ, List, [], ◌∷◌, ◌++◌, length, Option, None, Some, Result, Ok, Err}
use Rattle.std.specs.Io.KnownBytes.{Keeps}
use Rattle.std.specs.Str.Lines.{lines}
use Rattle.hid_script.specs.declared.fault.Cause.{Cause}
use Rattle.hid_script.specs.Interpreter.{session_of}
use Rattle.hid_text.specs.Line.{meaning_of}
use Rattle.lab_lines.specs.LabLines.{Said, lab_meaning}
use Rattle.lab_session.specs.declared.ahead.Ahead.{Ahead}
use Rattle.lab_session.specs.declared.bench.Bench.{Bench}
use Rattle.lab_session.specs.declared.fault.LabCause.{LabCause}
use Rattle.lab_session.specs.declared.fault.LabCause.TheVariants.{Script, Unsettled}
use Rattle.lab_session.specs.declared.need.Need.{Need}
use Rattle.lab_session.specs.declared.runs.Done.{Done}
use Rattle.lab_session.specs.declared.runs.Done.TheVariants as done
use Rattle.lab_session.specs.declared.runs.LabFault.{LabFault}
use Rattle.lab_session.specs.declared.runs.Ran.{Ran}
use Rattle.lab_session.specs.declared.runs.Ran.TheVariants as ran
use Rattle.lab_session.specs.declared.runs.RunEnd.{RunEnd}
use Rattle.lab_session.specs.declared.runs.RunEnd.TheVariants as ended
use Rattle.lab_session.specs.Ahead.{unread}
use Rattle.lab_session.specs.Asking.{asked_said}
use Rattle.lab_session.specs.Bench.{DoesLine, moment_of}
use Rattle.lab_session.specs.Expecting.{ReadExpects}
use Rattle.lab_session.specs.Feeds.{IsOutside, need_said}
use Rattle.lab_session.specs.Lines.{StaysUnsettled}
use Rattle.lab_session.specs.Printed.{IsPlain}
use Rattle.lab_session.specs.Scripts.{IsScripts, IsUndrawn, PrintsAs}

-- ---- a line

-- A line was carried out: what it says was done, what it expects came, and this is what it asks for.
pub record CarriesLine (bytes : List ℕ) (asked : Option Said) (old new : Bench) (before after : Option (List ℕ)) : Type 0 where
  pub does : DoesLine bytes asked old new before after
  pub expects : ReadExpects (lab_meaning bytes) old.printer.transcript new.printer.transcript new.came.items (Ok tt)

-- A line is refused for this cause: what it expects isn't the line that came, a device was polled a hundred times and had
-- something to send each time, or for another one. A line of hidrun is refused as hidrun refuses it, with the same text before
-- it, if no fates are drawn; lines before it may be new.
pub record RefusesLine (bytes : List ℕ) (cause : LabCause) (old new : Bench) (before after : Option (List ℕ)) : Type 0 where
  pub expects : ReadExpects (lab_meaning bytes) old.printer.transcript new.printer.transcript new.came.items (Err cause)
  pub unsettled : cause ≡ Unsettled → (dev : ℕ) × StaysUnsettled dev (moment_of new)
  pub prints : IsPlain old.options → IsUndrawn (moment_of old) → IsScripts bytes
      → PrintsAs before after (meaning_of bytes) (session_of old.interpreter) (Err cause) (session_of new.interpreter)

-- ---- lines in turn

-- Lines were carried out, one after the other, and none of them asks for anything: each begins with what those before it left.
abbrev pub CarriesLines : Bench → Option (List ℕ) → List (List ℕ) → Bench → Option (List ℕ) → Type 0
CarriesLines old before [] new after = (new ≡ old) × Keeps before after
CarriesLines old before (line ∷ more) new after =
    (middle : Bench) × (between : Option (List ℕ))
    × CarriesLine line None old middle before between × CarriesLines middle between more new after

-- Of all these lines, with so many before them, the first ones were carried out, and those are left: so many came so far.
pub record CarriedUpTo (all : List (List ℕ)) (before : ℕ) (left : List (List ℕ)) (count : ℕ) (old new : Bench)
    (u v : Option (List ℕ)) : Type 0 where
  pub done : List (List ℕ)
  pub split : all ≡ done ++ left
  pub carried : CarriesLines old u done new v
  pub lines : count ≡ before + length done

-- the line after those that were carried out was carried out, and asks for this: those are left
pub record AsksAfter (all : List (List ℕ)) (before : ℕ) (said : Said) (left : List (List ℕ)) (count : ℕ) (old new : Bench)
    (u v : Option (List ℕ)) : Type 0 where
  pub line : List ℕ
  pub at : ℕ
  pub middle : Bench
  pub between : Option (List ℕ)
  pub carried : CarriedUpTo all before (line ∷ left) at old middle u between
  pub asks : CarriesLine line (Some said) middle new between v
  pub lines : count ≡ at + 1

-- the line that comes next is refused; or memory, the reader or the writer ended the run before it or at it
abbrev pub EndsAt : List (List ℕ) → LabCause → Bench → Bench → Option (List ℕ) → Option (List ℕ) → Type 0
EndsAt left cause old new before after =
    ((line : List ℕ) × (more : List (List ℕ)) × (left ≡ line ∷ more) × RefusesLine line cause old new before after)
    ⊎ ((outside : Cause) × (cause ≡ Script outside) × IsOutside outside)

-- the line after those that were carried out ended the run
pub record StopsAfter (all : List (List ℕ)) (before : ℕ) (fault : LabFault) (old new : Bench) (u v : Option (List ℕ)) : Type 0 where
  pub left : List (List ℕ)
  pub at : ℕ
  pub middle : Bench
  pub between : Option (List ℕ)
  pub carried : CarriedUpTo all before left at old middle u between
  pub line : fault.line ≡ at + 1
  pub ends : EndsAt left fault.cause middle new between v

-- ---- a run

-- What a run of a text did with all its lines, with so many before them: each was carried out; or those up to one that asks for
-- something, or that ended the run, were.
abbrev pub RanLines : List (List ℕ) → ℕ → Bench → Bench → Option (List ℕ) → Option (List ℕ) → Result Ran LabFault → Type 0
RanLines all before old new u v (Ok (ran.All summary)) =
    CarriedUpTo all before [] summary.lines old new u v × (summary.events ≡ (session_of new.interpreter).events)
RanLines all before old new u v (Ok (ran.Asks asked line rest)) = AsksAfter all before (asked_said asked) (lines rest.now) line old new u v
RanLines all before old new u v (Err fault) = StopsAfter all before fault old new u v

-- the line that asks for something is the one after so many, and nothing stands after it
abbrev pub AsksLast : ℕ → Result Ran LabFault → Type 0
AsksLast before (Ok (ran.Asks asked line rest)) = (line ≡ before + 1) × (rest.now ≡ [])
AsksLast before (Ok (ran.All summary)) = Unit {0}
AsksLast before (Err fault) = Unit {0}

-- as `RanLines`, of the lines that end in a text, whatever comes after it
abbrev pub CameLines : List ℕ → ℕ → List ℕ → Bench → Bench → Option (List ℕ) → Option (List ℕ) → Result Done LabFault → Type 0
CameLines text before more old new u v (Ok (done.Lines count rest)) =
    CarriedUpTo (lines (text ++ more)) before (lines (rest.now ++ more)) count old new u v
CameLines text before more old new u v (Ok (done.Asks asked count rest)) =
    AsksAfter (lines (text ++ more)) before (asked_said asked) (lines (rest.now ++ more)) count old new u v
CameLines text before more old new u v (Err fault) = StopsAfter (lines (text ++ more)) before fault old new u v

-- as `CameLines`, of the bytes that were read
abbrev pub AheadLines : Ahead → Ahead → List ℕ → Bench → Bench → Option (List ℕ) → Option (List ℕ) → Result (Option Need) LabFault → Type 0
AheadLines before after more old new u v (Ok None) =
    CarriedUpTo (lines (unread before ++ more)) before.lines (lines (unread after ++ more)) after.lines old new u v
AheadLines before after more old new u v (Ok (Some need)) =
    AsksAfter (lines (unread before ++ more)) before.lines (need_said need) (lines (unread after ++ more)) after.lines old new u v
AheadLines before after more old new u v (Err fault) = StopsAfter (lines (unread before ++ more)) before.lines fault old new u v

-- As `RanLines`, of a run whose lines come in pieces. Where a line asks for something, those are left that were read and not taken,
-- and those that are still to come.
abbrev pub FedLines : List (List ℕ) → ℕ → Ahead → Option (List ℕ) → Bench → Bench → Option (List ℕ) → Option (List ℕ) → Result RunEnd LabFault → Type 0
FedLines all before after left old new u v (Ok (ended.All summary)) =
    CarriedUpTo all before [] summary.lines old new u v × (summary.events ≡ (session_of new.interpreter).events)
FedLines all before after left old new u v (Ok (ended.Asks need)) =
    (more : List ℕ) × (left ≡ Some more)
    × AsksAfter all before (need_said need) (lines (unread after ++ more)) after.lines old new u v
FedLines all before after left old new u v (Err fault) = StopsAfter all before fault old new u v
