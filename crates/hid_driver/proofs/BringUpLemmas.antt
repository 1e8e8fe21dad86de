-- A device comes up by so many transfers.
use Rattle.std.proofs.Common.{◌≡◌, ℕ, zero, suc, ◌+◌, ◌*◌, ◌<◌, ◌≤◌, refl, sym, ◌∙◌, ap, subst, inl, inr, Bool, true, false, cond, List, [], ◌∷◌, length, get_or, Option, Some, None, Result, Ok, Err, arith}
use Rattle.std.specs.Prelude.{not, position, slice_get, slice_set}
use Rattle.std.specs.List.{position_or_len}
use Rattle.std.proofs.lemmas.Bool.{cases_lt, le-ltb, lt-ltb}
use Rattle.std.proofs.lemmas.List.Quantifiers.{position-Some}
use Rattle.std.proofs.lemmas.Option.{slice_get-get_or}
use Rattle.hid_interfaces.specs.declared.fault.InterfaceFault.{InterfaceFault}
use Rattle.hid_interfaces.specs.declared.interface.InterfaceInfo.{InterfaceInfo}
use Rattle.hid_interfaces.specs.Readable.{interface_fault, readable_with}
use Rattle.usb_control.specs.declared.descriptors.DeviceInfo.{DeviceInfo}
use Rattle.hid_driver.specs.declared.answers.NoPipe.{NoPipe}
use Rattle.hid_driver.specs.declared.answers.NoPipe.TheVariants as pipes
use Rattle.hid_driver.specs.declared.fault.DriverFault.{DriverFault}
use Rattle.hid_driver.specs.declared.interface.Interface.{Interface}
use Rattle.hid_driver.specs.declared.interface.Reading.{Reading}
use Rattle.hid_driver.specs.declared.interface.Reading.TheVariants.{Waiting, Open, Refused}
use Rattle.hid_driver.specs.declared.outcome.Outcome.{Outcome}
use Rattle.hid_driver.specs.declared.outcome.Outcome.TheVariants.{Done, Stalled, Failed}
use Rattle.hid_driver.specs.declared.pipe.Flow.TheVariants as flows
use Rattle.hid_driver.specs.declared.state.DriverState.{DriverState}
use Rattle.hid_driver.specs.declared.state.DriverState.TheVariants as states
use Rattle.hid_driver.specs.declared.state.Moved.{Moved}
use Rattle.hid_driver.specs.Answers.{ReportCame, device_answer, length_answer, status_answer}
use Rattle.hid_driver.specs.BringUp.{MovesOn, waiting_count}
use Rattle.hid_driver.specs.Driver.{DriverValue, driver_at_start}
use Rattle.hid_driver.specs.Interfaces.{has_halt, interfaces_after, is_halted, is_halted_flow, is_waiting, reading_by_fault, waits}
use Rattle.hid_driver.specs.Moves.{ConfigurationMoves, Goes, IdleMoves, Moves, MovesAt, ReportMovesOf, Settles, driver_settled, driver_with_configuration, driver_with_next, settled_at}
use Rattle.hid_driver.specs.Pipe.{PipeState}
use Rattle.hid_driver.specs.Requests.{next_state, state_by_halt, state_by_waiting}

-- ---- interfaces, one by one

-- no endpoint of these interfaces is halted
abbrev AreQuiet : List Interface → Type 0
AreQuiet [] = Unit {0}
AreQuiet (interface ∷ rest) = (has_halt interface ≡ false) × AreQuiet rest

quiet_set : (xs : List Interface) (place : ℕ) (new : Interface) → has_halt new ≡ false → AreQuiet xs → AreQuiet (slice_set xs place new)
quiet_set [] place new quiet all = tt
quiet_set (x ∷ xs) zero new quiet all = (quiet, all.1)
quiet_set (x ∷ xs) (suc place) new quiet all = (all.0, quiet_set xs place new quiet all.1)

waiting_if : (b : Bool) (count : ℕ) → b ≡ true → cond b (count + 1) count ≡ count + 1
waiting_if b count is = ap (λ (t : Bool). cond t (count + 1) count) is

waiting_unless : (b : Bool) (count : ℕ) → b ≡ false → cond b (count + 1) count ≡ count
waiting_unless b count is = ap (λ (t : Bool). cond t (count + 1) count) is

-- one interface waits no more
waiting_set : (xs : List Interface) (place : ℕ) (old new : Interface) → slice_get xs place ≡ Some old → is_waiting old ≡ true → is_waiting new ≡ false
    → waiting_count (slice_set xs place new) + 1 ≡ waiting_count xs
waiting_set [] place old new is waits ends = let wrong : None ≡ Some old = is in cc
waiting_set (x ∷ xs) zero old new is waits ends =
    let same : x ≡ old = (let found : Some x ≡ Some old = is in cc) in
    let before : waiting_count (x ∷ xs) ≡ waiting_count xs + 1 = waiting_if (is_waiting x) (waiting_count xs) (ap is_waiting same ∙ waits) in
    let after : waiting_count (new ∷ xs) ≡ waiting_count xs = waiting_unless (is_waiting new) (waiting_count xs) ends in
    ap (λ (n : ℕ). n + 1) after ∙ sym before
waiting_set (x ∷ xs) (suc place) old new is waits ends = by_first (is_waiting x) (waiting_set xs place old new is waits ends)
  where
    by_first : (b : Bool) → waiting_count (slice_set xs place new) + 1 ≡ waiting_count xs
        → cond b (waiting_count (slice_set xs place new) + 1) (waiting_count (slice_set xs place new)) + 1 ≡ cond b (waiting_count xs + 1) (waiting_count xs)
    by_first true e = ap (λ (n : ℕ). n + 1) e
    by_first false e = e

-- where an interface is found, some wait
waiting_at : (xs : List Interface) (place : ℕ) (old : Interface) → slice_get xs place ≡ Some old → is_waiting old ≡ true → 0 < waiting_count xs
waiting_at [] place old is waits = let wrong : None ≡ Some old = is in cc
waiting_at (x ∷ xs) zero old is waits =
    let same : x ≡ old = (let found : Some x ≡ Some old = is in cc) in
    let one : waiting_count (x ∷ xs) ≡ waiting_count xs + 1 = waiting_if (is_waiting x) (waiting_count xs) (ap is_waiting same ∙ waits) in
    omega (arith, one)
waiting_at (x ∷ xs) (suc place) old is waits = by_first (is_waiting x) (waiting_at xs place old is waits)
  where
    by_first : (b : Bool) → 0 < waiting_count xs → 0 < cond b (waiting_count xs + 1) (waiting_count xs)
    by_first true some = omega arith
    by_first false some = some

-- where none is found, none waits
none_by : (b : Bool) (xs : List Interface) (x : Interface) → (length xs ≤ position_or_len is_waiting xs → waiting_count xs ≡ 0)
    → length (x ∷ xs) ≤ cond (not b) (1 + position_or_len is_waiting xs) 0 → cond b (waiting_count xs + 1) (waiting_count xs) ≡ 0
none_by true xs x rest h = absurd (omega arith)
none_by false xs x rest h = rest (omega arith)

none_left : (xs : List Interface) → length xs ≤ position_or_len is_waiting xs → waiting_count xs ≡ 0
none_left [] past = refl
none_left (x ∷ xs) past = none_by (is_waiting x) xs x (λ h. none_left xs h) past

none_found : (xs : List Interface) → position is_waiting xs ≡ None → waiting_count xs ≡ 0
none_found xs none =
    elim (cases_lt (position_or_len is_waiting xs) (length xs)) [
      | inl before ↦
          let test = lt-ltb (position_or_len is_waiting xs) (length xs) before in
          let found : position is_waiting xs ≡ Some (position_or_len is_waiting xs) =
          ap (λ (b : Bool). cond b (Some (position_or_len is_waiting xs)) None) test in
          let wrong : ◌≡◌ {A = Option ℕ} (Some (position_or_len is_waiting xs)) None = sym found ∙ none in
          cc
      | inr past ↦ none_left xs past
    ]

-- where all endpoints go, none is found that is halted
quiet_past : (xs : List Interface) → AreQuiet xs → length xs ≤ position_or_len has_halt xs
quiet_past [] all = omega arith
quiet_past (x ∷ xs) all =
    let rest = quiet_past xs all.1 in
    let one : position_or_len has_halt (x ∷ xs) ≡ 1 + position_or_len has_halt xs =
    ap (λ (b : Bool). cond (not b) (1 + position_or_len has_halt xs) 0) all.0 in
    omega (arith, one, rest)

none_halted : (xs : List Interface) → AreQuiet xs → position has_halt xs ≡ None
none_halted xs all =
    ap (λ (b : Bool). cond b (Some (position_or_len has_halt xs)) None)
    (le-ltb (position_or_len has_halt xs) (length xs) (quiet_past xs all))

-- ---- the moves

-- a move that goes on
goes_ok : {A : Type 0} (before : DriverValue) (next : A → DriverValue) (answer : Result A DriverFault) (moved : Moved) (after : DriverValue)
    → Goes before next answer (Ok moved) after → (read : A) × (after ≡ next read)
goes_ok before next (Ok read) moved after goes = (read, goes.1)
goes_ok before next (Err fault) moved after goes = let wrong : ◌≡◌ {A = Result Moved DriverFault} (Ok moved) (Err fault) = goes.0 in cc

-- an interface that is read, or refused
record IsSettled (place : ℕ) (before after : DriverValue) : Type 0 where
  reading : Reading
  is : after ≡ driver_settled place reading before
  ended : waits reading ≡ false
  quiet : is_halted reading ≡ false

live_at_start : (info : InterfaceInfo) (outcome : Outcome) (pipe : PipeState) → ReportCame info outcome (Ok pipe) → pipe.flow ≡ flows.Live
live_at_start info (Done bytes) pipe came = ap (λ (p : PipeState). p.flow) came.1.2
live_at_start info Stalled pipe came = cc
live_at_start info Failed pipe came = cc

settles_ok : (place : ℕ) (info : InterfaceInfo) (outcome : Outcome) (before : DriverValue) (read : Result PipeState NoPipe) (moved : Moved) (after : DriverValue)
    → ReportCame info outcome read → Settles place before read (Ok moved) after → IsSettled place before after
settles_ok place info outcome before (Ok pipe) moved after came (inl settled) = record {
  reading = Open pipe;
  is = settled.1;
  ended = refl;
  quiet = ap is_halted_flow (live_at_start info outcome pipe came);
}
settles_ok place info outcome before (Ok pipe) moved after came (inr stays) = cc
settles_ok place info outcome before (Err (pipes.Refused cause)) moved after came settled =
    record { reading = Refused cause; is = settled.1; ended = refl; quiet = refl }
settles_ok place info outcome before (Err pipes.Memory) moved after came stays = cc

report_ok : (place : ℕ) (outcome : Outcome) (before : DriverValue) (moved : Moved) (after : DriverValue) (o : Option Interface)
    → ReportMovesOf place before outcome (Ok moved) after o → IsSettled place before after
report_ok place outcome before moved after None none = cc
report_ok place outcome before moved after (Some interface) moves = settles_ok place interface.info outcome before moves.0 moved after moves.1 moves.2

-- the two moves of one interface
two_moves : (driver next after : DriverValue) (place : ℕ) (o1 o2 : Outcome) (m1 m2 : Moved) → driver.state ≡ states.Idle place
    → Moves driver o1 (Ok m1) next → Moves next o2 (Ok m2) after → IsSettled place (record driver { state = states.Report place }) after
two_moves driver next after place o1 o2 m1 m2 idle first second =
    let at_idle : IdleMoves place driver (Ok m1) next = subst (λ (s : DriverState). MovesAt s driver o1 (Ok m1) next) idle first in
    let at_report = subst (λ (d : DriverValue). Moves d o2 (Ok m2) after) at_idle.1 second in
    report_ok place o2 (record driver { state = states.Report place }) m2 after (slice_get driver.interfaces place) at_report

-- a driver that goes on by its interfaces
record GoesOn (driver : DriverValue) (count : ℕ) : Type 0 where
  state : driver.state ≡ next_state driver.interfaces
  quiet : AreQuiet driver.interfaces
  waits : waiting_count driver.interfaces ≡ count

settled_goes : (place count : ℕ) (interface : Interface) (driver after : DriverValue) → slice_get driver.interfaces place ≡ Some interface
    → is_waiting interface ≡ true → GoesOn driver (suc count) → IsSettled place (record driver { state = states.Report place }) after → GoesOn after count
settled_goes place count interface driver after is waits on settled =
    let new : Interface = record interface { reading = settled.reading } in
    let xs : List Interface = slice_set driver.interfaces place new in
    let next : DriverValue = driver_with_next (record driver { state = states.Report place }) xs in
    let same : after ≡ next = settled.is ∙ ap (settled_at place settled.reading (record driver { state = states.Report place })) is in
    let fewer = waiting_set driver.interfaces place interface new is waits settled.ended in
    let all = on.waits in
    subst (λ (d : DriverValue). GoesOn d count) (sym same) (record {
      state = refl;
      quiet = quiet_set driver.interfaces place new settled.quiet on.quiet;
      waits = omega (arith, fewer, all);
    })

some_interface : Interface
some_interface = record {
  info = record { number = 0; subclass = 0; protocol = 0; report_length = None; endpoint = None };
  reading = Waiting;
}

-- where no interface waits, the driver is ready
ready_by : (driver after : DriverValue) (o : Option ℕ) → position is_waiting driver.interfaces ≡ o → GoesOn driver 0 → after ≡ driver → after.state ≡ states.Ready
ready_by driver after None none on moves =
    ap (λ (d : DriverValue). d.state) moves ∙ on.state
    ∙ ap (λ (w : Option ℕ). state_by_waiting w (position has_halt driver.interfaces)) none
    ∙ ap state_by_halt (none_halted driver.interfaces on.quiet)
ready_by driver after (Some place) found on moves =
    let at = position-Some is_waiting driver.interfaces place some_interface found in
    let some = waiting_at driver.interfaces place (get_or driver.interfaces place some_interface) (slice_get-get_or driver.interfaces place some_interface at.0) at.1 in
    let none = on.waits in
    absurd (omega (arith, some, none))

-- the two moves of the first interface that waits
goes_by : (count : ℕ) (driver after : DriverValue) (o : Option ℕ) → position is_waiting driver.interfaces ≡ o → GoesOn driver (suc count)
    → MovesOn (2 * suc count) driver after
    → ((next : DriverValue) → GoesOn next count → MovesOn (2 * count) next after → after.state ≡ states.Ready) → after.state ≡ states.Ready
goes_by count driver after None none on moves rest =
    let zero_left = none_found driver.interfaces none in
    let some = on.waits in
    absurd (omega (arith, zero_left, some))
goes_by count driver after (Some place) found on moves rest =
    let at = position-Some is_waiting driver.interfaces place some_interface found in
    let interface : Interface = get_or driver.interfaces place some_interface in
    let is = slice_get-get_or driver.interfaces place some_interface at.0 in
    let idle : driver.state ≡ states.Idle place =
    on.state ∙ ap (λ (w : Option ℕ). state_by_waiting w (position has_halt driver.interfaces)) found in
    let more : 2 * suc count ≡ suc (suc (2 * count)) = omega arith in
    let both = subst (λ (n : ℕ). MovesOn n driver after) more moves in
    let second = both.4 in
    let settled = two_moves driver both.2 second.2 place both.0 second.0 both.1 second.1 idle both.3 second.3 in
    rest second.2 (settled_goes place count interface driver second.2 is at.1 on settled) second.4

comes_up : (count : ℕ) (driver after : DriverValue) → GoesOn driver count → MovesOn (2 * count) driver after → after.state ≡ states.Ready
comes_up zero driver after on moves = ready_by driver after (position is_waiting driver.interfaces) refl on moves
comes_up (suc count) driver after on moves =
    goes_by count driver after (position is_waiting driver.interfaces) refl on moves (λ next goes more. comes_up count next after goes more)

-- ---- the first moves

by_fault_quiet : (fault : Option InterfaceFault) → is_halted (reading_by_fault fault) ≡ false
by_fault_quiet None = refl
by_fault_quiet (Some fault) = refl

listed_quiet : (earlier infos : List InterfaceInfo) → AreQuiet (interfaces_after earlier infos)
listed_quiet earlier [] = tt
listed_quiet earlier (info ∷ infos) = (by_fault_quiet (interface_fault earlier info), listed_quiet (readable_with earlier info) infos)

-- a driver that knows its configuration
record IsConfigured (driver : DriverValue) : Type 0 where
  number : ℕ
  state : driver.state ≡ states.Configure number
  quiet : AreQuiet driver.interfaces

configuration_ok : (before : DriverValue) (outcome : Outcome) (moved : Moved) (after : DriverValue)
    → ConfigurationMoves before outcome (Ok moved) after → IsConfigured after
configuration_ok before outcome moved after (inl moves) =
    let goes = goes_ok before (driver_with_configuration before) moves.0 moved after moves.2 in
    subst IsConfigured (sym goes.1) (record { number = goes.0.number; state = refl; quiet = listed_quiet [] goes.0.interfaces.items })
configuration_ok before outcome moved after (inr stays) = cc

three_moves : (configured : DriverValue) → MovesOn 3 driver_at_start configured → IsConfigured configured
three_moves configured moves =
    let one = goes_ok driver_at_start (λ (info : DeviceInfo). record driver_at_start { state = states.Length; device = Some info })
    (device_answer moves.0) moves.1 moves.2 moves.3 in
    let at_length : DriverValue = record driver_at_start { state = states.Length; device = Some one.0 } in
    let second = moves.4 in
    let two = goes_ok at_length (λ (len : ℕ). record at_length { state = states.Configuration len }) (length_answer second.0) second.1 second.2
    (subst (λ (d : DriverValue). Moves d second.0 (Ok second.1) second.2) one.1 second.3) in
    let at_configuration : DriverValue = record at_length { state = states.Configuration two.0 } in
    let third = second.4 in
    let known = configuration_ok at_configuration third.0 third.1 third.2
    (subst (λ (d : DriverValue). Moves d third.0 (Ok third.1) third.2) two.1 third.3) in
    subst IsConfigured (sym third.4) known

-- Four transfers, and two for each interface that waits.
pub brings_up : (configured after : DriverValue) → MovesOn 3 driver_at_start configured → MovesOn (1 + 2 * waiting_count configured.interfaces) configured after
    → after.state ≡ states.Ready
brings_up configured after first rest =
    let known = three_moves configured first in
    let more : 1 + 2 * waiting_count configured.interfaces ≡ suc (2 * waiting_count configured.interfaces) = omega arith in
    let moves = subst (λ (n : ℕ). MovesOn n configured after) more rest in
    let goes = goes_ok configured (λ (done : Unit {0}). record configured { state = next_state configured.interfaces }) (status_answer moves.0) moves.1 moves.2
    (subst (λ (s : DriverState). MovesAt s configured moves.0 (Ok moves.1) moves.2) known.state moves.3) in
    comes_up (waiting_count configured.interfaces) moves.2 after
    (subst (λ (d : DriverValue). GoesOn d (waiting_count configured.interfaces)) (sym goes.1) (record { state = refl; quiet = known.quiet; waits = refl })) moves.4
