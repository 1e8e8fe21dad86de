-- What is held of a device's controls over the calls of a driver.
use Rattle.std.proofs.Common.{◌≡◌, ◌≢◌, ℕ, zero, suc, refl, sym, ◌∙◌, ap, subst, inl, inr, Bool, true, List, [], ◌∷◌, get_or, Option, Some, None, Result, Ok, Err}
use Rattle.std.specs.Prelude.{option_and_then, option_map, position, slice_get, slice_set}
use Rattle.std.proofs.lemmas.Bool.{cases_eq}
use Rattle.std.proofs.lemmas.List.Elements.{All-get_or, All-nil, All-set}
use Rattle.std.proofs.lemmas.List.Quantifiers.{position-Some}
use Rattle.std.proofs.lemmas.Option.{get_or_from_slice_get, slice_get-get_or, slice_get_within}
use Rattle.hid_driver.specs.declared.answers.NoPipe.{NoPipe}
use Rattle.hid_driver.specs.declared.answers.NoPipe.TheVariants as pipes
use Rattle.hid_driver.specs.declared.ask.Ask.{Ask}
use Rattle.usb_control.specs.declared.setup.Setup.{Setup}
use Rattle.hid_driver.specs.declared.fault.DriverFault.{DriverFault}
use Rattle.hid_driver.specs.declared.fault.DriverFault.TheVariants.{Memory}
use Rattle.hid_driver.specs.declared.interface.Interface.{Interface}
use Rattle.hid_driver.specs.declared.interface.Reading.{Reading}
use Rattle.hid_driver.specs.declared.interface.Reading.TheVariants.{Waiting, Open, Boot, Refused}
use Rattle.hid_driver.specs.declared.outcome.Outcome.{Outcome}
use Rattle.hid_driver.specs.declared.outcome.Outcome.TheVariants.{Done, Stalled, Failed}
use Rattle.hid_driver.specs.declared.pipe.Flow.{Flow}
use Rattle.hid_driver.specs.declared.state.DriverState.{DriverState}
use Rattle.hid_driver.specs.declared.state.DriverState.TheVariants as states
use Rattle.hid_driver.specs.declared.state.Moved.{Moved}
use Rattle.hid_driver.specs.Driver.{DriverValue, ask_answer, driver_after_ask, driver_after_outcome, driver_after_protocol, driver_after_protocol_of, driver_after_report, driver_by_answer, driver_by_protocol, protocol_answer, protocol_of_interface, protocol_outcome, interface_after_outcome, state_after_outcome, state_after_stall}
use Rattle.hid_driver.specs.Holding.{ChangesOne, HoldsOn, IsDue, IsDueIn, KeepsAll, ReleasesOne, pipe_at}
use Rattle.hid_driver.specs.Interfaces.{AreUnread, has_halt, is_waiting, pipe_of, reading_after_outcome, reading_with_flow, waits}
use Rattle.hid_driver.specs.Moves.{ClearMovesOf, Goes, MovesAt, Moves, ProtocolMovesOf, ReportMovesOf, Settles, driver_refused, driver_with_configuration, flow_after_clear, interface_after_clear, reading_after_protocol, settled_at}
use Rattle.hid_driver.specs.Answers.{device_answer, length_answer, status_answer}
use Rattle.hid_driver.specs.Pipe.{PipeState, pipe_after_outcome, pipe_with_flow}
use Rattle.hid_driver.specs.Requests.{next_state, state_by_halt, state_by_waiting}

-- a list with one element changed, by place
get_set_other : (xs : List Interface) (i j : ℕ) (v : Interface) → j ≢ i → slice_get (slice_set xs i v) j ≡ slice_get xs j
get_set_other [] i j v apart = refl
get_set_other (x ∷ xs) zero zero v apart = absurd (apart refl)
get_set_other (x ∷ xs) zero (suc j) v apart = refl
get_set_other (x ∷ xs) (suc i) zero v apart = refl
get_set_other (x ∷ xs) (suc i) (suc j) v apart = get_set_other xs i j v (λ e. apart (ap (λ (n : ℕ). suc n) e))

get_set_same : (xs : List Interface) (i : ℕ) (old v : Interface) → slice_get xs i ≡ Some old → slice_get (slice_set xs i v) i ≡ Some v
get_set_same [] i old v is = let wrong : None ≡ Some old = is in cc
get_set_same (x ∷ xs) zero old v is = refl
get_set_same (x ∷ xs) (suc i) old v is = get_set_same xs i old v is

-- what is held of a changed list, by place

pipe_set_other : (xs : List Interface) (i j : ℕ) (v : Interface) → j ≢ i → pipe_at (slice_set xs i v) j ≡ pipe_at xs j
pipe_set_other xs i j v apart = ap (λ (o : Option Interface). option_and_then (λ (x : Interface). pipe_of x.reading) o) (get_set_other xs i j v apart)

pipe_set_same : (xs : List Interface) (i : ℕ) (old v : Interface) → slice_get xs i ≡ Some old → pipe_at (slice_set xs i v) i ≡ pipe_of v.reading
pipe_set_same xs i old v is = ap (λ (o : Option Interface). option_and_then (λ (x : Interface). pipe_of x.reading) o) (get_set_same xs i old v is)

pipe_here : (xs : List Interface) (i : ℕ) (old : Interface) → slice_get xs i ≡ Some old → pipe_at xs i ≡ pipe_of old.reading
pipe_here xs i old is = ap (λ (o : Option Interface). option_and_then (λ (x : Interface). pipe_of x.reading) o) is

holds_same : (xs : List Interface) → HoldsOn xs xs
holds_same xs place pipe is = (pipe, is, refl, refl)

-- what is held stays where an interface without reports is changed
holds_set : (xs : List Interface) (i : ℕ) (v : Interface) → pipe_at xs i ≡ None → HoldsOn xs (slice_set xs i v)
holds_set xs i v none place pipe is =
    elim (cases_eq place i) [
      | inl same ↦ (let wrong : None ≡ Some pipe = sym none ∙ ap (pipe_at xs) (sym same) ∙ is in absurd (cc))
      | inr apart ↦ (pipe, pipe_set_other xs i place v apart ∙ is, refl, refl)
    ]

-- so it does where the halt of an endpoint is cleared, or isn't
flow_pipe : (flow : Flow) (reading : Reading) → pipe_of (reading_with_flow flow reading) ≡ option_map (pipe_with_flow flow) (pipe_of reading)
flow_pipe flow Waiting = refl
flow_pipe flow (Open pipe) = refl
flow_pipe flow Boot = refl
flow_pipe flow (Refused cause) = refl

holds_flow : (xs : List Interface) (i : ℕ) (old : Interface) (outcome : Outcome) → slice_get xs i ≡ Some old
    → HoldsOn xs (slice_set xs i (interface_after_clear outcome old))
holds_flow xs i old outcome is place pipe here =
    let flow : Flow = flow_after_clear outcome in
    elim (cases_eq place i) [
      | inl same ↦ (
          let before : pipe_of old.reading ≡ Some pipe = sym (pipe_here xs i old is) ∙ ap (pipe_at xs) (sym same) ∙ here in
          let after : pipe_at (slice_set xs i (interface_after_clear outcome old)) i ≡ Some (pipe_with_flow flow pipe) =
          pipe_set_same xs i old (interface_after_clear outcome old) is ∙ flow_pipe flow old.reading
          ∙ ap (option_map (pipe_with_flow flow)) before in
          (pipe_with_flow flow pipe, ap (pipe_at (slice_set xs i (interface_after_clear outcome old))) same ∙ after, refl, refl)
          )
      | inr apart ↦ (pipe, pipe_set_other xs i place (interface_after_clear outcome old) apart ∙ here, refl, refl)
    ]

-- interfaces of which no report descriptor was read hold nothing
unread_at : (xs : List Interface) (place : ℕ) (o : Option Interface) → slice_get xs place ≡ o → AreUnread xs → pipe_at xs place ≡ None
unread_at xs place None is unread = ap (λ (o : Option Interface). option_and_then (λ (x : Interface). pipe_of x.reading) o) is
unread_at xs place (Some interface) is unread =
    let within = slice_get_within xs place interface is in
    let same : get_or xs place interface ≡ interface = get_or_from_slice_get xs place interface interface is in
    pipe_here xs place interface is
    ∙ subst (λ (i : Interface). pipe_of i.reading ≡ None) same (All-get_or (λ (i : Interface). pipe_of i.reading ≡ None) xs place interface within unread)

holds_unread : (xs ys : List Interface) → AreUnread xs → HoldsOn xs ys
holds_unread xs ys unread place pipe is =
    let wrong : None ≡ Some pipe = sym (unread_at xs place (slice_get xs place) refl unread) ∙ is in absurd (cc)

-- what is asked for next is due
waiting_unread : (reading : Reading) → waits reading ≡ true → pipe_of reading ≡ None
waiting_unread Waiting is = refl
waiting_unread (Open pipe) is = cc
waiting_unread Boot is = refl
waiting_unread (Refused cause) is = refl

abbrev some_interface : Interface
some_interface = record {
  info = record { number = 0; subclass = 0; protocol = 0; report_length = None; endpoint = None };
  reading = Waiting;
}

by_halt : (xs : List Interface) (halted : Option ℕ) → IsDueIn (state_by_halt halted) xs
by_halt xs None = tt
by_halt xs (Some place) = tt

by_waiting : (xs : List Interface) (waiting halted : Option ℕ) → position is_waiting xs ≡ waiting → IsDueIn (state_by_waiting waiting halted) xs
by_waiting xs None halted is = by_halt xs halted
by_waiting xs (Some place) halted is =
    let found = position-Some is_waiting xs place some_interface is in
    pipe_here xs place (get_or xs place some_interface) (slice_get-get_or xs place some_interface found.0)
    ∙ waiting_unread (get_or xs place some_interface).reading found.1

next_due : (xs : List Interface) → IsDueIn (next_state xs) xs
next_due xs = by_waiting xs (position is_waiting xs) (position has_halt xs) refl

-- a driver that is refused, or that stays
stays : (before after : DriverValue) → IsDue before → after ≡ before → KeepsAll before after
stays before after due is =
    subst (λ (d : DriverValue). KeepsAll before d) (sym is) (record { due = due; held = holds_same before.interfaces })

refuses : (before after : DriverValue) (fault : DriverFault) → IsDue before → after ≡ driver_refused fault before → KeepsAll before after
refuses before after Memory due is = stays before after due is
refuses before after fault due is =
    subst (λ (d : DriverValue). KeepsAll before d) (sym is) (record { due = tt; held = holds_same before.interfaces })

goes : {A : Type 0} (before : DriverValue) (next : A → DriverValue) (answer : Result A DriverFault) (result : Result Moved DriverFault) (after : DriverValue)
    → IsDue before → ((read : A) → KeepsAll before (next read)) → Goes before next answer result after → KeepsAll before after
goes before next (Ok read) result after due keeps moved =
    subst (λ (d : DriverValue). KeepsAll before d) (sym moved.1) (keeps read)
goes before next (Err fault) result after due keeps moved = refuses before after fault due moved.1

-- an interface is settled
settles_at : (place : ℕ) (reading : Reading) (before : DriverValue) (o : Option Interface) → IsDue before → pipe_at before.interfaces place ≡ None
    → KeepsAll before (settled_at place reading before o)
settles_at place reading before None due none = record { due = due; held = holds_same before.interfaces }
settles_at place reading before (Some interface) due none = record {
  due = next_due (slice_set before.interfaces place (record interface { reading = reading }));
  held = holds_set before.interfaces place (record interface { reading = reading }) none;
}

settles : (place : ℕ) (before : DriverValue) (read : Result PipeState NoPipe) (result : Result Moved DriverFault) (after : DriverValue)
    → IsDue before → pipe_at before.interfaces place ≡ None → Settles place before read result after → KeepsAll before after
settles place before (Ok pipe) result after due none (inl settled) =
    subst (λ (d : DriverValue). KeepsAll before d) (sym settled.1) (settles_at place (Open pipe) before (slice_get before.interfaces place) due none)
settles place before (Ok pipe) result after due none (inr stayed) = stays before after due stayed.1
settles place before (Err (pipes.Refused cause)) result after due none settled =
    subst (λ (d : DriverValue). KeepsAll before d) (sym settled.1) (settles_at place (Refused cause) before (slice_get before.interfaces place) due none)
settles place before (Err pipes.Memory) result after due none stayed = stays before after due stayed.1

reports : (place : ℕ) (before : DriverValue) (outcome : Outcome) (result : Result Moved DriverFault) (after : DriverValue) (o : Option Interface)
    → IsDue before → pipe_at before.interfaces place ≡ None → ReportMovesOf place before outcome result after o → KeepsAll before after
reports place before outcome result after None due none moved = stays before after due moved.1
reports place before outcome result after (Some interface) due none moved = settles place before moved.0 result after due none moved.2

clears : (place : ℕ) (before : DriverValue) (outcome : Outcome) (result : Result Moved DriverFault) (after : DriverValue) (o : Option Interface)
    → slice_get before.interfaces place ≡ o → IsDue before → ClearMovesOf place before outcome result after o → KeepsAll before after
clears place before outcome result after None is due moved = stays before after due moved.1
clears place before outcome result after (Some interface) is due moved =
    subst (λ (d : DriverValue). KeepsAll before d) (sym moved.1) (record {
      due = next_due (slice_set before.interfaces place (interface_after_clear outcome interface));
      held = holds_flow before.interfaces place interface outcome is;
    })

protocols : (place : ℕ) (boot was_boot : Bool) (before : DriverValue) (outcome : Outcome) (result : Result Moved DriverFault) (after : DriverValue) (o : Option Interface)
    → IsDue before → pipe_at before.interfaces place ≡ None → ProtocolMovesOf place boot was_boot before outcome result after o → KeepsAll before after
protocols place boot was_boot before outcome result after None due none moved = stays before after due moved.1
protocols place boot was_boot before outcome result after (Some interface) due none moved =
    subst (λ (d : DriverValue). KeepsAll before d) (sym moved.1)
    (settles_at place (reading_after_protocol boot was_boot outcome) before (slice_get before.interfaces place) due none)

-- each move keeps what is held
moves_keep : (state : DriverState) (before : DriverValue) (outcome : Outcome) (result : Result Moved DriverFault) (after : DriverValue)
    → IsDue before → IsDueIn state before.interfaces → MovesAt state before outcome result after → KeepsAll before after
moves_keep states.Device before outcome result after due here moved =
    goes before (λ info. record before { state = states.Length; device = Some info }) (device_answer outcome) result after due
    (λ info. record { due = here; held = holds_same before.interfaces }) moved
moves_keep states.Length before outcome result after due here moved =
    goes before (λ len. record before { state = states.Configuration len }) (length_answer outcome) result after due
    (λ len. record { due = here; held = holds_same before.interfaces }) moved
moves_keep (states.Configuration len) before outcome result after due here (inl moved) =
    goes before (driver_with_configuration before) moved.0 result after due
    (λ configuration. record { due = tt; held = holds_unread before.interfaces _ here }) moved.2
moves_keep (states.Configuration len) before outcome result after due here (inr stayed) = stays before after due stayed.1
moves_keep (states.Configure number) before outcome result after due here moved =
    goes before (λ done. record before { state = next_state before.interfaces }) (status_answer outcome) result after due
    (λ done. record { due = next_due before.interfaces; held = holds_same before.interfaces }) moved
moves_keep (states.Idle place) before outcome result after due here moved =
    subst (λ (d : DriverValue). KeepsAll before d) (sym moved.1) (record { due = here; held = holds_same before.interfaces })
moves_keep (states.Report place) before outcome result after due here moved =
    reports place before outcome result after (slice_get before.interfaces place) due here moved
moves_keep (states.Clear place) before outcome result after due here moved =
    clears place before outcome result after (slice_get before.interfaces place) refl due moved
moves_keep (states.Protocol place boot was_boot) before outcome result after due here moved =
    protocols place boot was_boot before outcome result after (slice_get before.interfaces place) due here moved
moves_keep (states.Asked setup) before outcome result after due here moved =
    subst (λ (d : DriverValue). KeepsAll before d) (sym moved.1) (record { due = next_due before.interfaces; held = holds_same before.interfaces })
moves_keep states.Ready before outcome result after due here moved = stays before after due moved.1
moves_keep states.Refused before outcome result after due here moved = stays before after due moved.1

pub moves_hold : (before : DriverValue) (outcome : Outcome) (result : Result Moved DriverFault) (after : DriverValue)
    → IsDue before → Moves before outcome result after → KeepsAll before after
moves_hold before outcome result after due moved = moves_keep before.state before outcome result after due due moved

-- what is asked changes nothing that is held
asked_holds : (before : DriverValue) (ask : Ask) (answer : Result Setup DriverFault) → IsDue before → KeepsAll before (driver_by_answer before ask answer)
asked_holds before ask (Ok setup) due = record { due = tt; held = holds_same before.interfaces }
asked_holds before ask (Err fault) due = record { due = due; held = holds_same before.interfaces }

pub ask_holds : (before : DriverValue) (place : ℕ) (ask : Ask) → IsDue before → KeepsAll before (driver_after_ask before place ask)
ask_holds before place ask due = asked_holds before ask (ask_answer before place ask) due

-- an interrupt transfer changes its own interface alone
heard_pipe_of : (reading : Reading) (outcome : Outcome) → pipe_of (reading_after_outcome reading outcome) ≡ option_map (λ pipe. pipe_after_outcome pipe outcome) (pipe_of reading)
heard_pipe_of Waiting outcome = refl
heard_pipe_of (Open pipe) outcome = refl
heard_pipe_of Boot outcome = refl
heard_pipe_of (Refused cause) outcome = refl

-- what wasn't read before isn't read after
none_kept : (xs : List Interface) (i j : ℕ) (old : Interface) (outcome : Outcome) → slice_get xs i ≡ Some old → pipe_at xs j ≡ None
    → pipe_at (slice_set xs i (interface_after_outcome old outcome)) j ≡ None
none_kept xs i j old outcome is none =
    elim (cases_eq j i) [
      | inl same ↦ (
          let before : pipe_of old.reading ≡ None = sym (pipe_here xs i old is) ∙ ap (pipe_at xs) (sym same) ∙ none in
          ap (pipe_at (slice_set xs i (interface_after_outcome old outcome))) same
          ∙ pipe_set_same xs i old (interface_after_outcome old outcome) is
          ∙ heard_pipe_of old.reading outcome
          ∙ ap (option_map (λ (pipe : PipeState). pipe_after_outcome pipe outcome)) before
          )
      | inr apart ↦ pipe_set_other xs i j (interface_after_outcome old outcome) apart ∙ none
    ]

unread_set : (xs : List Interface) (i : ℕ) (old : Interface) (outcome : Outcome) → slice_get xs i ≡ Some old → AreUnread xs
    → AreUnread (slice_set xs i (interface_after_outcome old outcome))
unread_set xs i old outcome is unread =
    let within = slice_get_within xs i old is in
    let same : get_or xs i old ≡ old = get_or_from_slice_get xs i old old is in
    let one : pipe_of old.reading ≡ None =
    subst (λ (x : Interface). pipe_of x.reading ≡ None) same (All-get_or (λ (x : Interface). pipe_of x.reading ≡ None) xs i old within unread) in
    All-set (λ (x : Interface). pipe_of x.reading ≡ None) xs i (interface_after_outcome old outcome)
    (heard_pipe_of old.reading outcome ∙ ap (option_map (λ (pipe : PipeState). pipe_after_outcome pipe outcome)) one) unread

keep_due : (state : DriverState) (xs : List Interface) (i : ℕ) (old : Interface) (outcome : Outcome) → slice_get xs i ≡ Some old → IsDueIn state xs
    → IsDueIn state (slice_set xs i (interface_after_outcome old outcome))
keep_due states.Device xs i old outcome is due = unread_set xs i old outcome is due
keep_due states.Length xs i old outcome is due = unread_set xs i old outcome is due
keep_due (states.Configuration len) xs i old outcome is due = unread_set xs i old outcome is due
keep_due (states.Configure number) xs i old outcome is due = tt
keep_due (states.Idle place) xs i old outcome is due = none_kept xs i place old outcome is due
keep_due (states.Report place) xs i old outcome is due = none_kept xs i place old outcome is due
keep_due (states.Clear place) xs i old outcome is due = tt
keep_due (states.Protocol place boot was_boot) xs i old outcome is due = none_kept xs i place old outcome is due
keep_due (states.Asked setup) xs i old outcome is due = tt
keep_due states.Ready xs i old outcome is due = tt
keep_due states.Refused xs i old outcome is due = tt

stall_due : (state : DriverState) (ys : List Interface) → IsDueIn state ys → IsDueIn (state_after_stall state ys) ys
stall_due states.Device ys due = due
stall_due states.Length ys due = due
stall_due (states.Configuration len) ys due = due
stall_due (states.Configure number) ys due = tt
stall_due (states.Idle place) ys due = due
stall_due (states.Report place) ys due = due
stall_due (states.Clear place) ys due = tt
stall_due (states.Protocol place boot was_boot) ys due = due
stall_due (states.Asked setup) ys due = tt
stall_due states.Ready ys due = next_due ys
stall_due states.Refused ys due = tt

outcome_due : (state : DriverState) (outcome : Outcome) (ys : List Interface) → IsDueIn state ys → IsDueIn (state_after_outcome state outcome ys) ys
outcome_due state (Done bytes) ys due = due
outcome_due state Stalled ys due = stall_due state ys due
outcome_due state Failed ys due = due

own_pipe : (xs : List Interface) (i : ℕ) (old : Interface) (outcome : Outcome) → slice_get xs i ≡ Some old
    → pipe_at (slice_set xs i (interface_after_outcome old outcome)) i ≡ option_map (λ pipe. pipe_after_outcome pipe outcome) (pipe_at xs i)
own_pipe xs i old outcome is =
    pipe_set_same xs i old (interface_after_outcome old outcome) is ∙ heard_pipe_of old.reading outcome
    ∙ ap (option_map (λ (pipe : PipeState). pipe_after_outcome pipe outcome)) (sym (pipe_here xs i old is))

no_interface : (xs : List Interface) (i : ℕ) (outcome : Outcome) → slice_get xs i ≡ None → pipe_at xs i ≡ option_map (λ pipe. pipe_after_outcome pipe outcome) (pipe_at xs i)
no_interface xs i outcome is =
    let none : pipe_at xs i ≡ None = ap (λ (o : Option Interface). option_and_then (λ (x : Interface). pipe_of x.reading) o) is in
    none ∙ ap (option_map (λ (pipe : PipeState). pipe_after_outcome pipe outcome)) (sym none)

changes : (before : DriverValue) (place : ℕ) (outcome : Outcome) (o : Option Interface) → slice_get before.interfaces place ≡ o → IsDue before
    → ChangesOne before place outcome (driver_after_outcome before place outcome o)
changes before place outcome None is due = record {
  due = due;
  own = no_interface before.interfaces place outcome is;
  others = λ other apart. refl;
}
changes before place outcome (Some interface) is due = record {
  due = outcome_due before.state outcome (slice_set before.interfaces place (interface_after_outcome interface outcome))
      (keep_due before.state before.interfaces place interface outcome is due);
  own = own_pipe before.interfaces place interface outcome is;
  others = λ other apart. pipe_set_other before.interfaces place other (interface_after_outcome interface outcome) apart;
}

pub report_changes : (before : DriverValue) (place : ℕ) (outcome : Outcome) → IsDue before → ChangesOne before place outcome (driver_after_report before place outcome)
report_changes before place outcome due = changes before place outcome (slice_get before.interfaces place) refl due

pub start_due : AreUnread []
start_due = All-nil (λ (x : Interface). pipe_of x.reading ≡ None)

-- asking for a protocol releases its own interface alone
released_by : (before : DriverValue) (place : ℕ) (boot : Bool) (interface : Interface) (answer : Result (Unit {0}) DriverFault)
    → slice_get before.interfaces place ≡ Some interface → answer ≡ Ok tt → ReleasesOne before place (driver_by_protocol before place boot interface answer)
released_by before place boot interface (Ok asks) is ok =
    let own : pipe_at (slice_set before.interfaces place (record interface { reading = Boot })) place ≡ None =
    pipe_set_same before.interfaces place interface (record interface { reading = Boot }) is in
    record {
      due = own;
      own = own;
      others = λ other apart. pipe_set_other before.interfaces place other (record interface { reading = Boot }) apart;
    }
released_by before place boot interface (Err fault) is ok = cc

released_of : (before : DriverValue) (place : ℕ) (boot : Bool) (o : Option Interface) → slice_get before.interfaces place ≡ o
    → protocol_of_interface before.state o ≡ Ok tt → ReleasesOne before place (driver_after_protocol_of before place boot o)
released_of before place boot None is ok = cc
released_of before place boot (Some interface) is ok =
    released_by before place boot interface (protocol_answer before.state interface) is ok

pub protocol_releases : (before : DriverValue) (place : ℕ) (boot : Bool) → protocol_outcome before place ≡ Ok tt
    → ReleasesOne before place (driver_after_protocol before place boot)
protocol_releases before place boot ok = released_of before place boot (slice_get before.interfaces place) refl ok

-- one that is refused changes nothing
refused_by : (before : DriverValue) (place : ℕ) (boot : Bool) (interface : Interface) (fault : DriverFault) (answer : Result (Unit {0}) DriverFault)
    → answer ≡ Err fault → driver_by_protocol before place boot interface answer ≡ before
refused_by before place boot interface fault (Ok asks) is = cc
refused_by before place boot interface fault (Err other) is = refl

refused_of : (before : DriverValue) (place : ℕ) (boot : Bool) (fault : DriverFault) (o : Option Interface)
    → protocol_of_interface before.state o ≡ Err fault → driver_after_protocol_of before place boot o ≡ before
refused_of before place boot fault None is = refl
refused_of before place boot fault (Some interface) is = refused_by before place boot interface fault (protocol_answer before.state interface) is

pub protocol_refused : (before : DriverValue) (place : ℕ) (boot : Bool) (fault : DriverFault) → protocol_outcome before place ≡ Err fault
    → driver_after_protocol before place boot ≡ before
protocol_refused before place boot fault is = refused_of before place boot fault (slice_get before.interfaces place) is
