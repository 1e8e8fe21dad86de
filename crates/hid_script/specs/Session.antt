-- What stands between two lines of a script, and the outcome of a part of a script: the text that it prints, and where
-- it leaves the session (our choice: docs/SCRIPT.md).
use Rattle.std.specs.Prelude.{◌≡◌, ◌⊎◌, ℕ, zero, suc, List, [], ◌++◌, Option, None, Result, Ok, Err}
use Rattle.hid_layout.specs.Layout.{Contents}
use Rattle.hid_stack.specs.Members.{Member}
use Rattle.hid_script.specs.declared.options.Options.{Options}
use Rattle.hid_script.specs.declared.fault.Cause.{Cause}

-- the options, the last layout that was accepted, the devices with their hosts, and how many events they delivered
pub record Session : Type 0 where
  pub options : Options
  pub layout : Option Contents
  pub members : List Member
  pub events : ℕ

-- no line came yet
abbrev pub at_first : Options → Session
at_first options = record { options = options; layout = None; members = []; events = 0 }

-- what a part prints, and where it leaves the session, or why it is refused
pub record Outcome : Type 0 where
  pub text : List ℕ
  pub end : Result Session Cause

-- a part that prints this, and leaves this session
abbrev pub success : List ℕ → Session → Outcome
success text session = record { text = text; end = Ok session }

-- the outcome of a part of a script that is refused: nothing is printed
abbrev pub failure : Cause → Outcome
failure cause = record { text = []; end = Err cause }

-- a text before what is printed
abbrev pub after_text : List ℕ → Outcome → Outcome
after_text text o = record o { text = text ++ o.text }

-- One part, and then another where the first was not refused. What the first printed stands in either case.
abbrev pub Joins : (Outcome → Type 0) → (Session → Outcome → Type 0) → Outcome → Type 0
Joins First Next o =
    ((text : List ℕ) × (next : Session) × (rest : Outcome)
    × First (success text next) × Next next rest × (o ≡ after_text text rest))
    ⊎ ((text : List ℕ) × (cause : Cause)
    × First (record { text = text; end = Err cause }) × (o ≡ record { text = text; end = Err cause }))

-- A part n times over, up to the first time that it is refused.
unfoldable pub Repeats : ℕ → (Session → Outcome → Type 0) → Session → Outcome → Type 0
Repeats zero Once session o = o ≡ success [] session
Repeats (suc n) Once session o = Joins (Once session) (Repeats n Once) o
