-- When the expectations of a script let it go on (our choice: docs/LAB.md).
use Rattle.std.specs.Prelude.{◌≡◌, ℕ, suc, codes, ◌+◌, ◌-◌, ◌^◌, ◌||◌, nat_le, Bool, true, false, List, [], ◌∷◌, ◌++◌, slice_get, drop, if◌then◌else◌, Option, Some, None}
use Rattle.std.specs.List.{find}
use Rattle.lab_expectations.specs.declared.transcript.Transcript.{Transcript}
use Rattle.lab_expectations.specs.Expectations.{Answer, Came, Instead, Met, NoLine, TooMuch, answer_at, answer_none, first_required, is_expected_at, is_none_at, last_line, outcome, parts_of, waits}
use Rattle.lab_serving.specs.declared.expecting.Expecting.{Expecting}
use Rattle.lab_serving.specs.declared.expecting.ExpectedKind.{ExpectedKind}
use Rattle.lab_serving.specs.declared.expecting.ExpectedKind.TheVariants.{Report, Nothing, Anything}
use Rattle.lab_serving.specs.declared.expectations.Advance.{Advance}
use Rattle.lab_serving.specs.declared.expectations.Advance.TheVariants.{Goes, Waits, Fails}
use Rattle.lab_serving.specs.declared.expectations.Expectations.{Expectations}
use Rattle.lab_serving.specs.Expecting.{is_of_other}

-- the next expectation, if there is one
abbrev pub next_of : Expectations → Option Expecting
next_of e = slice_get e.all.items e.next

-- how many of the actions may come before an expectation: those that stand before it
abbrev pub allowed_by : Option Expecting → ℕ
allowed_by None = 2 ^ 64 - 1
allowed_by (Some x) = x.at

-- ---- what the host set

-- A line of a report that the host set was taken: one that has to be expected, or with a + before it one that may be.
abbrev pub Takes : Expectations → Expectations → List ℕ → Bool → Type 0
Takes old new line is_required =
    (new ≡ record old { transcript = new.transcript })
    × (new.transcript.is_cut ≡ false
    → waits new.transcript ≡ waits old.transcript ++ (if is_required then line else 43 ∷ line))

-- An expectation is met by what the host set: the first line that isn't passed over is the expected one; or none has to be expected;
-- or whatever it was.
abbrev pub met_by : ExpectedKind → Transcript → List ℕ → Bool
met_by Report transcript line = is_expected_at transcript line
met_by Nothing transcript line = is_none_at transcript
met_by Anything transcript line = true

-- an expectation is met by what the host set
abbrev pub is_met : Transcript → Expecting → Bool
is_met transcript x = met_by x.kind transcript x.line.items

-- the next expectation is met, if there is one
abbrev pub is_next_met : Transcript → Option Expecting → Bool
is_next_met transcript None = false
is_next_met transcript (Some x) = is_met transcript x

-- what an expectation leaves that is met, or isn't
abbrev pub MeetsBy : Bool → ExpectedKind → List ℕ → Transcript → Transcript → Type 0
MeetsBy false kind line old new = new ≡ old
MeetsBy true Report line old new = outcome line (parts_of (waits old)) ≡ Met (parts_of (waits new))
MeetsBy true Nothing line old new = waits new ≡ []
MeetsBy true Anything line old new = (waits new ≡ []) × (new.is_cut ≡ false)

-- what an expectation leaves of what the host set: where it is met what it expects goes
abbrev pub Meets : Option Expecting → Transcript → Transcript → Type 0
Meets None old new = new ≡ old
Meets (Some x) old new = MeetsBy (is_met old x) x.kind x.line.items old new

-- ---- time

-- since when an expectation is waited for, which is now at the first time
abbrev pub since_by : Option ℕ → ℕ → ℕ
since_by None now = now
since_by (Some since) now = since

-- nothing is expected
abbrev pub is_of_none : ExpectedKind → Bool
is_of_none Report = false
is_of_none Nothing = true
is_of_none Anything = false

-- An expectation fails: ten seconds are over since it is waited for, or what may not be set was.
abbrev pub fails : Option ℕ → ℕ → Expecting → Bool
fails since now x = is_of_none x.kind || nat_le 10000 (now - since_by since now)

-- ---- the next expectation

-- what comes of an expectation of the device that the host has
abbrev pub advance_waiting : Bool → Option ℕ → ℕ → Expecting → Advance
advance_waiting true since now x = Goes
advance_waiting false since now x = if fails since now x then Fails else Waits

-- What comes of the next expectation: the script goes on where it is met, or is of another device than the host has; it fails where
-- it wasn't met in time.
abbrev pub advance_at : Transcript → Option ℕ → Option ℕ → ℕ → Option Expecting → Advance
advance_at transcript since place now None = Waits
advance_at transcript since place now (Some x) = advance_waiting (is_of_other place x || is_met transcript x) since now x

-- What comes of the next expectation at this time, of a host that has the device at this place. Example: 1 output 0 02 is met once the
-- host has set this report of device 1, and fails ten seconds after it was first waited for
abbrev pub advance_of : Expectations → Option ℕ → ℕ → Advance
advance_of e place now = advance_at e.transcript e.since place now (next_of e)

-- since when the next expectation is waited for, after what came of this one
abbrev pub since_after : Advance → Option ℕ → ℕ → Option ℕ
since_after Goes since now = None
since_after Waits since now = Some (since_by since now)
since_after Fails since now = Some (since_by since now)

-- which expectation is the next one, after what came of this one
abbrev pub next_after : Advance → ℕ → ℕ
next_after Goes next = next + 1
next_after Waits next = next
next_after Fails next = next

-- what is left of what the host set: that of another device takes nothing
abbrev pub LeavesBy : Bool → Option Expecting → Transcript → Transcript → Type 0
LeavesBy true x old new = new ≡ old
LeavesBy false x old new = Meets x old new

-- what the next expectation leaves
abbrev pub AdvancesAt : Expectations → Expectations → Option ℕ → ℕ → Option Expecting → Type 0
AdvancesAt old new place now None = new ≡ old
AdvancesAt old new place now (Some x) =
    (new.next ≡ next_after (advance_of old place now) old.next)
    × (new.since ≡ since_after (advance_of old place now) old.since now)
    × (new.all ≡ old.all)
    × LeavesBy (is_of_other place x) (Some x) old.transcript new.transcript

-- ---- the end of the connection

-- how many of the first expectations are of other devices than that at a place
unfoldable pub others : Option ℕ → List Expecting → ℕ
others place [] = 0
others place (x ∷ more) = if is_of_other place x then suc (others place more) else 0

-- a report is expected
abbrev pub expects_report : ExpectedKind → Bool
expects_report Report = true
expects_report Nothing = false
expects_report Anything = false

-- the next expectation of a report, if there is one
abbrev pub awaited_from : Expectations → Option Expecting
awaited_from e = find (λ x. expects_report x.kind) (drop e.next e.all.items)

-- ---- what came in place of what is expected

-- what comes of an expectation
abbrev pub answer_by : ExpectedKind → Transcript → List ℕ → Answer
answer_by Report transcript line = answer_at transcript line
answer_by Nothing transcript line =
    if transcript.is_cut then TooMuch else answer_none (first_required (parts_of (waits transcript)))
answer_by Anything transcript line = Came

-- what comes of the next expectation
abbrev pub answer_next : Transcript → Option Expecting → Answer
answer_next transcript None = NoLine
answer_next transcript (Some x) = answer_by x.kind transcript x.line.items

-- what is expected, as its line says it
abbrev pub words_by : ExpectedKind → List ℕ → List ℕ
words_by Report line = line
words_by Nothing line = codes "none"
words_by Anything line = codes "any"

-- what the next expectation expects, as its line says it
abbrev pub expected_words : Option Expecting → List ℕ
expected_words None = []
expected_words (Some x) = words_by x.kind x.line.items

-- the last report that the host set since those that were expected
abbrev pub last_set : Transcript → Option (List ℕ)
last_set transcript = last_line None (parts_of (waits transcript))

-- a line, or the word for none
abbrev pub line_or_nothing : Option (List ℕ) → List ℕ
line_or_nothing None = codes "nothing"
line_or_nothing (Some line) = line

-- What came in place of what is expected: a line that has to be expected, or else the last one. Example: 1 output 0 01, where
-- 1 output 0 02 is expected
abbrev pub came_of : Answer → Option (List ℕ) → List ℕ
came_of Came last = []
came_of (Instead line) last = line
came_of NoLine last = line_or_nothing last
came_of TooMuch last = codes "over 1 MiB since the last expect"
