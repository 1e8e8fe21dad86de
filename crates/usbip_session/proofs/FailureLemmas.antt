-- Failures that go on end a session: what the row says bounds how long they have gone on.
use Rattle.std.proofs.Common.{subst, ◌≡◌, ◌≤◌, ◌<◌, refl, ℕ, zero, suc, ◌+◌, ◌*◌, ◌-◌, Bool, true, false, List, [], ◌∷◌, length, Option, None, Some, arith, nat_lt}
use Rattle.std.proofs.Math.Nat.{mul-le-mul_right}
use Rattle.std.proofs.lemmas.Bool.{or_parts}
use Rattle.std.proofs.lemmas.Bool.Decides.{nat_tests}
use Rattle.std.specs.Prelude.{⊤, min, nat_le, if◌then◌else◌}
use Rattle.usbip_session.specs.declared.timer.FailedRow.{FailedRow}
use Rattle.usbip_session.specs.declared.timer.Answer.{Answer}
use Rattle.usbip_session.specs.declared.timer.Answer.TheVariants.{Failed, Nothing, Report}
use Rattle.usbip_session.specs.Failures.{AreApart, BringNoReport, GoesOn, failing_time, failure_times}
use Rattle.usbip_session.specs.Timers.{is_endless, row_from, row_with}

-- failures at these times, one after another: after none of them the row is endless
abbrev Fail : ℕ → Option FailedRow → List ℕ → Type 0
Fail limit row [] = ⊤
Fail limit row (now ∷ times) =
    (is_endless (Some (row_with now row)) limit ≡ false) × Fail limit (Some (row_with now row)) times

-- answers without a report leave the failures among them
failures_alone : (limit : ℕ) (answers : List (Answer × ℕ)) (row : Option FailedRow) → BringNoReport answers
    → GoesOn limit row answers → Fail limit row (failure_times answers)
failures_alone limit [] row none on = tt
failures_alone limit ((Failed, now) ∷ rest) row none on =
    (on.0, failures_alone limit rest (Some (row_with now row)) none on.1)
failures_alone limit ((Nothing, now) ∷ rest) row none on = failures_alone limit rest row none on.1
failures_alone limit ((Report, now) ∷ rest) row none on = absurd none

-- what a row that isn't endless says: a burst no longer than the limit, the 15th at most
record Goes (limit bursts : ℕ) (row : FailedRow) : Type 0 where
  first : row.first ≤ row.last
  counts : row.bursts ≡ suc bursts
  short : row.last - row.first ≤ limit
  few : suc bursts ≤ 15

-- the row of a first failure
begins : (limit first : ℕ) → Goes limit zero (row_from first)
begins limit first = record { first = omega arith; counts = refl; short = omega arith; few = omega arith }

-- the row with a failure, where it begins a burst or not
abbrev row_if : Bool → ℕ → FailedRow → FailedRow
row_if b now row =
    if b then record { first = now; last = now; bursts = min (row.bursts + 1) 16 } else record row { last = now }

-- a failure in the same burst
in_burst : (limit bursts now : ℕ) (row : FailedRow) → Goes limit bursts row → row.last + 0 ≤ now
    → is_endless (Some (row_if false now row)) limit ≡ false → Goes limit bursts (row_if false now row)
in_burst limit bursts now row goes later on =
    let parts = or_parts (nat_lt limit (now - row.first)) (nat_le 16 row.bursts) on in
    record {
      first = omega (arith, goes.first, later);
      counts = goes.counts;
      short = grind (arith, nat_tests, parts.0);
      few = goes.few;
    }

-- a failure that begins a burst
new_burst : (limit bursts now : ℕ) (row : FailedRow) → Goes limit bursts row
    → is_endless (Some (row_if true now row)) limit ≡ false → Goes limit (suc bursts) (row_if true now row)
new_burst limit bursts now row goes on =
    let parts = or_parts (nat_lt limit (now - now)) (nat_le 16 (min (row.bursts + 1) 16)) on in
    let few : min (row.bursts + 1) 16 < 16 = grind (arith, nat_tests, parts.1) in
    record {
      first = omega arith;
      counts = omega (arith, few, goes.counts);
      short = omega arith;
      few = omega (arith, few, goes.counts);
    }

-- how long a row has gone on at most, and how long the failures behind it
abbrev Fits : (limit bursts : ℕ) (row : FailedRow) (times : List ℕ) → Type 0
Fits limit bursts row times =
    failing_time row.last times + (bursts * (limit + 1001) + (row.last - row.first)) ≤ 14 * (limit + 1001) + limit

-- one failure more, where the burst goes on or another begins
one_more : (limit bursts now : ℕ) (row : FailedRow) (times : List ℕ) (b : Bool) → nat_lt 1000 (now - row.last) ≡ b
    → ((next : ℕ) (later : FailedRow) → Goes limit next later → AreApart 0 later.last times → Fail limit (Some later) times
    → Fits limit next later times)
    → Goes limit bursts row → (row.last + 0 ≤ now) × AreApart 0 now times
    → (is_endless (Some (row_if b now row)) limit ≡ false) × Fail limit (Some (row_if b now row)) times
    → Fits limit bursts row (now ∷ times)
one_more limit bursts now row times true gap rest goes order on =
    let fits = rest (suc bursts) (row_if true now row) (new_burst limit bursts now row goes on.0) order.1 on.1 in
    let long : 1000 < now - row.last = grind (arith, nat_tests, gap) in
    omega (arith, fits, long, goes.short)
one_more limit bursts now row times false gap rest goes order on =
    let fits = rest bursts (row_if false now row) (in_burst limit bursts now row goes order.0 on.0) order.1 on.1 in
    let short : now - row.last ≤ 1000 = grind (arith, nat_tests, gap) in
    omega (arith, fits, short, order.0, goes.first)

fits_all : (limit : ℕ) (times : List ℕ) (bursts : ℕ) (row : FailedRow) → Goes limit bursts row → AreApart 0 row.last times
    → Fail limit (Some row) times → Fits limit bursts row times
fits_all limit [] bursts row goes order on =
    let few : bursts ≤ 14 = omega (arith, goes.few) in
    omega (arith, goes.short, mul-le-mul_right (limit + 1001) few)
fits_all limit (now ∷ times) bursts row goes order on =
    one_more limit bursts now row times (nat_lt 1000 (now - row.last)) refl (fits_all limit times) goes order on

-- the failures of these answers, the first one of which is this
fail_from : (limit first : ℕ) (times : List ℕ) (answers : List (Answer × ℕ)) → BringNoReport answers
    → failure_times answers ≡ first ∷ times → GoesOn limit None answers → Fail limit None (first ∷ times)
fail_from limit first times answers none are on =
    subst (Fail limit None) are (failures_alone limit answers None none on)

pub failures_end : (limit first : ℕ) (times : List ℕ) (answers : List (Answer × ℕ)) → BringNoReport answers
    → failure_times answers ≡ first ∷ times → AreApart 0 first times → GoesOn limit None answers
    → failing_time first times ≤ 15 * limit + 14 * 1001
failures_end limit first times answers none are order on =
    let fails = fail_from limit first times answers none are on in
    omega (arith, fits_all limit times zero (row_from first) (begins limit first) order fails.1)

-- ---- failures over a second apart

-- one failure more begins a burst, whatever the test says
one_far : (limit bursts now : ℕ) (row : FailedRow) (times : List ℕ) (b : Bool) → nat_lt 1000 (now - row.last) ≡ b
    → ((next : ℕ) (later : FailedRow) → Goes limit next later → AreApart 1001 later.last times → Fail limit (Some later) times
    → length times + next ≤ 14)
    → Goes limit bursts row → (row.last + 1001 ≤ now) × AreApart 1001 now times
    → (is_endless (Some (row_if b now row)) limit ≡ false) × Fail limit (Some (row_if b now row)) times
    → length (now ∷ times) + bursts ≤ 14
one_far limit bursts now row times true gap rest goes order on =
    omega (arith, rest (suc bursts) (row_if true now row) (new_burst limit bursts now row goes on.0) order.1 on.1)
one_far limit bursts now row times false gap rest goes order on =
    let short : now - row.last ≤ 1000 = grind (arith, nat_tests, gap) in
    omega (arith, short, order.0)

few_far : (limit : ℕ) (times : List ℕ) (bursts : ℕ) (row : FailedRow) → Goes limit bursts row → AreApart 1001 row.last times
    → Fail limit (Some row) times → length times + bursts ≤ 14
few_far limit [] bursts row goes order on = omega (arith, goes.few)
few_far limit (now ∷ times) bursts row goes order on =
    one_far limit bursts now row times (nat_lt 1000 (now - row.last)) refl (few_far limit times) goes order on

pub sixteen_end : (limit first : ℕ) (times : List ℕ) (answers : List (Answer × ℕ)) → BringNoReport answers
    → failure_times answers ≡ first ∷ times → AreApart 1001 first times → GoesOn limit None answers → length times ≤ 14
sixteen_end limit first times answers none are order on =
    let fails = fail_from limit first times answers none are on in
    omega (arith, few_far limit times zero (row_from first) (begins limit first) order fails.1)
