-- A step of a device alone is a whole step of the bus that it stands on.
use Rattle.std.proofs.Common.{◌≡◌, ◌≢◌, ◌≤◌, ◌<◌, ◌+◌, ◌-◌, ◌++◌, ◌∙◌, ℕ, Bool, true, false, List, [], ◌∷◌, length, map, cond, eqb, get_or, Some, None, Result, Ok, Err, refl, ap, sym, subst, inl, arith, append-nil}
use Rattle.std.specs.Prelude.{slice_get, slice_set, IfOk, IfErr, IfSome, OnOk, OnErr}
use Rattle.std.proofs.lemmas.Result.{on_ok_weaker}
use Rattle.hid_layout.specs.Controls.{items_of, max_events}
use Rattle.hid_snapshots.specs.declared.change.Change.{Change}
use Rattle.hid_snapshots.specs.declared.fault.ChangeFault.{ChangeFault}
use Rattle.hid_snapshots.specs.Snapshots as snapshots
use Rattle.usb_transact.specs.declared.transaction.Fate.{Fate}
use Rattle.usb_control.specs.declared.host.Progress.{Progress}
use Rattle.hid_requests.specs.declared.request.Request.{Request}
use Rattle.hid_requests.specs.RequestSetup.{FitsRequest}
use Rattle.hid_bus.specs.Rounds.{Changes, Polls, Frame as Frames}
use Rattle.hid_host.specs.declared.fault.StackFault.{StackFault}
use Rattle.hid_host.specs.declared.fault.StackFault.TheVariants.{NoDevice, Memory}
use Rattle.hid_host.specs.Host.{may_abort_round, running}
use Rattle.hid_bus.specs.declared.step.Delivered.{Delivered}
use Rattle.hid_bus.specs.declared.step.Step.{Step}
use Rattle.hid_bus.specs.declared.step.Step.TheVariants.{Change as ChangeStep, Frame, Poll, Begin, Control, Halt, Reset}
use Rattle.hid_bus.specs.declared.step.Told.{Told}
use Rattle.hid_bus.specs.declared.step.Told.TheVariants.{Quiet}
use Rattle.hid_stack.specs.Members.{Member, MemberStep, Scheduled, Begins, Controls, Halts, Resets, begin_refusal_at, bus_event_of_step, events_of_event_if, member_after, polls_it}
use Rattle.hid_stack.specs.Rig.{FitsStep, HasRoomFor, HasRoomToTry, IsRefusal, TakesMemory, bus_after, bus_after_refusal, deliveries_of_step, max_events_of_step, max_events_of_try, member_at, member_deliveries, bus_after_member_step, poll_refusal, refusal, with_device_number, with_member}
use Rattle.hid_stack.specs.Slot.{TriesTransfer}
use Rattle.hid_stack.specs.Steps.{StepsTo, device_of_step}
use Rattle.hid_stack.specs.Sums.{AbortsByRequest, ConfiguresBetweenRounds, IsBetween, OnlyHaltsAbort}
use Rattle.hid_stack.specs.StepResult.{PollReturns, StepReturns}
use Rattle.hid_stack.proofs.NamedLemmas.{IsNamed, RefusedBy, begin_err, begin_only, begin_refused, begin_told, change_err, change_only, change_refused, change_told, control_between, control_cuts, control_done, control_few, control_room, control_told, control_undone, enough_room, few_of_it, leaves, memory_only, named, never_refused, never_stands, one_delivered, poll_only, poll_refused, poll_tells, stays_refused, tries_named}
use Rattle.hid_stack.proofs.SumLemmas.{others_between, try_between}

-- what a step of a device makes of any bus on which it stands under the number that the step names
abbrev pub Serves : Member → Member → Step → Result Told StackFault → List Delivered → List Delivered → ℕ → ℕ → ℕ → ℕ → Type 0
Serves m n x r old new len len_then cap cap_then =
    (members : List Member) (dev : ℕ) → device_of_step x ≡ Some dev → member_at members dev ≡ Some m
    → StepsTo members (with_member members dev n) x r old new len len_then cap cap_then

-- a device under its number
named_at : (members : List Member) (dev : ℕ) (m : Member) → member_at members dev ≡ Some m → IsNamed members dev (dev - 1) m
named_at members dev m here = record { place = refl; read = by_number (eqb dev 0) here; here = here }
  where
    by_number : (b : Bool) → cond b None (slice_get members (dev - 1)) ≡ Some m → slice_get members (dev - 1) ≡ Some m
    by_number true k = absurd (cc)
    by_number false k = k

serves : (m n : Member) (d : ℕ) (x y : Step) (r : Result Told StackFault) (old new : List Delivered)
    (len len_then cap cap_then : ℕ) → y ≡ x → device_of_step x ≡ Some d
    → ((members : List Member) → IsNamed members d (d - 1) m → StepsTo members (with_member members d n) x r old new len len_then cap cap_then) → Serves m n y r old new len len_then cap cap_then
serves m n d x y r old new len len_then cap cap_then is names steps members dev names_it here =
    let both : (let o = Some d in o) ≡ Some dev = sym names ∙ ap device_of_step (sym is) ∙ names_it in
    let same : d ≡ dev = cc in
    subst (λ (z : Step). StepsTo members (with_member members dev n) z r old new len len_then cap cap_then) (sym is)
    (subst (λ (k : ℕ). StepsTo members (with_member members k n) x r old new len len_then cap cap_then) same
    (steps members (named_at members d m (subst (λ (k : ℕ). member_at members k ≡ Some m) (sym same) here))))

-- a change
change_here : (members : List Member) (d : ℕ) (m n : Member) (change : Change) (done : Result (Unit {0}) ChangeFault) (es : List Delivered) (len cap : ℕ) → IsNamed members d (d - 1) m
    → snapshots.Changes (items_of m.layout) m.link.reports.snapshot change done n.link.reports.snapshot
    → n ≡ member_after m (Scheduled (Changes change))
    → StepsTo members (with_member members d n) (ChangeStep d change) (change_told done) es es len len cap cap
change_here members d m n change (Ok u) es len cap at_place changes after = record {
  told = refl;
  after = leaves members members d (d - 1) m n (Scheduled (Changes change)) refl at_place after;
  events = sym (append-nil es);
  fits = tt;
  refused =
      change_refused members d (d - 1) m change (Ok u) n.link.reports.snapshot
      (change_told (Ok u)) at_place changes refl;
  only = tt;
  err = tt;
  err_events = tt;
  between = others_between members (ChangeStep d change) tt;
  aborts = tt;
  room = λ room wrong. absurd (cc);
  few = omega arith;
  capacity = omega arith;
}
change_here members d m n change (Err fault) es len cap at_place changes after = record {
  told = tt;
  after = tt;
  events = tt;
  fits = tt;
  refused =
      change_refused members d (d - 1) m change (Err fault) n.link.reports.snapshot
      (change_told (Err fault)) at_place changes refl;
  only = change_only members d (d - 1) m change (Err fault) n.link.reports.snapshot
      (change_told (Err fault)) at_place changes refl;
  err = change_err members members d (d - 1) m n change (Err fault) (change_told (Err fault)) refl at_place refl changes after;
  err_events = refl;
  between = others_between members (ChangeStep d change) tt;
  aborts = tt;
  room = λ room wrong. absurd (cc);
  few = omega arith;
  capacity = omega arith;
}

pub change_serves : (m n : Member) (d : ℕ) (change : Change) (y : Step) (done : Result (Unit {0}) ChangeFault) (r : Result Told StackFault) (es : List Delivered) (len cap : ℕ) → y ≡ ChangeStep d change
    → snapshots.Changes (items_of m.layout) m.link.reports.snapshot change done n.link.reports.snapshot
    → n ≡ member_after m (Scheduled (Changes change)) → change_told done ≡ r
    → Serves m n y r es es len len cap cap
change_serves m n d change y done r es len cap is changes after told =
    subst (λ (o : Result Told StackFault). Serves m n y o es es len len cap cap) told
    (serves m n d (ChangeStep d change) y (change_told done) es es len len cap cap is refl (λ members at_place. change_here members d m n change done es len cap at_place changes after))

-- a step that moves one member on, delivers what that tells, and is refused without a trace
record IsOneStep (members : List Member) (d : ℕ) (x : Step) (k : MemberStep) : Type 0 where
  after : bus_after members x ≡ bus_after_member_step members d k
  events : deliveries_of_step members x ≡ member_deliveries members d k
  most : max_events_of_step members x
      ≡ (elim (member_at members d) as (λ _. ℕ) [ None ↦ 0 | Some m ↦ max_events (items_of m.layout) ])
  room : (len cap : ℕ) → HasRoomFor members x len cap → IfSome (member_at members d) (λ (m : Member). len + max_events (items_of m.layout) ≤ cap)
  stays : (e : StackFault) → members ≡ bus_after_refusal members x e
  fits : FitsStep x
  between : ConfiguresBetweenRounds members (x ∷ [])
  aborts : OnlyHaltsAbort members x

-- what it tells, and why it is refused
record IsAnswered (members : List Member) (x : Step) (r : Result Told StackFault) : Type 0 where
  told : IfOk r (λ told. StepReturns members x told)
  refused : (e : StackFault) → refusal members x ≡ Some e → r ≡ Err e
  only : IfErr r (λ e. IsRefusal members x e)

fits_anyway : (r : Result Told StackFault) (P : Type 0) → P → IfOk r (λ _. P)
fits_anyway (Ok told) P holds = holds
fits_anyway (Err fault) P holds = tt

stays_anyway : (r : Result Told StackFault) (ms : List Member) (behind : StackFault → List Member) (members : List Member) → IfErr r (λ _. ms ≡ members) → ((e : StackFault) → members ≡ behind e) → IfErr r (λ e. ms ≡ behind e)
stays_anyway (Ok told) ms behind members same stays = tt
stays_anyway (Err fault) ms behind members same stays = same ∙ stays fault

second : (r : Result Told StackFault) (P Q : Type 0) → OnErr r (P × Q) → OnErr r Q
second (Ok told) P Q both = tt
second (Err fault) P Q both = both.1

one_serves : (m n : Member) (d : ℕ) (x y : Step) (k : MemberStep) (r : Result Told StackFault)
    (old new : List Delivered) (len len_then cap cap_then : ℕ) → y ≡ x → device_of_step x ≡ Some d
    → ((members : List Member) → IsOneStep members d x k) → ((members : List Member) → IsNamed members d (d - 1) m → IsAnswered members x r)
    → OnOk r (n ≡ member_after m k)
    → OnOk r (new ≡ old
    ++ map (with_device_number d) (events_of_event_if (items_of m.layout) m.link (bus_event_of_step m k)))
    → OnErr r ((n ≡ m) × (new ≡ old)) → (len + max_events (items_of m.layout) ≤ cap → r ≢ Err Memory) → len_then ≤ len + max_events (items_of m.layout) → cap ≤ cap_then
    → Serves m n y r old new len len_then cap cap_then
one_serves m n d x y k r old new len len_then cap cap_then is names steps answers after events err room few more =
    serves m n d x y r old new len len_then cap cap_then is names (λ members at_place.
    let one = steps members in
    let answer = answers members at_place in
    record {
      told = answer.told;
      after = on_ok_weaker r (λ moved. leaves members members d (d - 1) m n k refl at_place moved ∙ sym one.after) after;
      events = on_ok_weaker r (λ told. told ∙ ap (λ (es : List Delivered). old ++ es) (sym one.events)) (one_delivered members d (d - 1) m k r old new at_place events);
      fits = fits_anyway r (FitsStep x) one.fits;
      refused = answer.refused;
      only = answer.only;
      err = stays_anyway r (with_member members d n) (bus_after_refusal members x) members
          (stays_refused members members d (d - 1) m n r (new ≡ old) refl at_place err) one.stays;
      err_events = second r (n ≡ m) (new ≡ old) err;
      between = one.between;
      aborts = one.aborts;
      room = λ has. enough_room members d (d - 1) m r len cap at_place room (one.room len cap has);
      few = subst (λ (most : ℕ). len_then ≤ len + most) (sym one.most) (few_of_it members d (d - 1) m len len_then at_place few);
      capacity = more;
    })

-- a poll
pub poll_serves : (m n : Member) (d : ℕ) (fate : Fate) (y : Step) (r : Result Told StackFault) (old new : List Delivered) (len len_then cap cap_then : ℕ) → y ≡ Poll d fate
    → IfOk r (λ told. PollReturns m.layout m.link fate told) → OnOk r (n ≡ member_after m (Scheduled (Polls fate)))
    → OnOk r (new ≡ old
    ++ map (with_device_number d)
    (events_of_event_if (items_of m.layout) m.link (bus_event_of_step m (Scheduled (Polls fate)))))
    → ((e : StackFault) → poll_refusal (polls_it m) ≡ Some e → r ≡ Err e) → RefusedBy (poll_refusal (polls_it m)) r
    → OnErr r ((n ≡ m) × (new ≡ old)) → (len + max_events (items_of m.layout) ≤ cap → r ≢ Err Memory) → len_then ≤ len + max_events (items_of m.layout) → cap ≤ cap_then
    → Serves m n y r old new len len_then cap cap_then
poll_serves m n d fate y r old new len len_then cap cap_then is told after events refused only err room few more =
    one_serves m n d (Poll d fate) y (Scheduled (Polls fate)) r old new len len_then cap cap_then is refl
    (λ members. record { after = refl; events = refl; most = refl; room = λ len cap has. has; stays = λ e. refl; fits = tt; between = others_between members (Poll d fate) tt; aborts = tt })
    (λ members at_place. record {
      told = poll_tells members d (d - 1) m fate r at_place told;
      refused = poll_refused members d (d - 1) m fate r at_place refused;
      only = poll_only members d (d - 1) m fate r at_place only;
    }) after events err room few more

-- a halt and a reset: nothing but out of memory refuses these
never : (members : List Member) (x : Step) (r : Result Told StackFault) → refusal members x ≡ None
    → TakesMemory members x → IfOk r (λ told. StepReturns members x told) → IfErr r (λ fault. fault ≡ Memory)
    → IsAnswered members x r
never members x r none takes told only = record { told = told; refused = never_refused members x r none; only = memory_only members x r none takes only }

pub halt_serves : (m n : Member) (d : ℕ) (y : Step) (r : Result Told StackFault) (old new : List Delivered) (len len_then cap cap_then : ℕ) → y ≡ Halt d
    → IfOk r (λ told. told ≡ Quiet) → IfErr r (λ fault. fault ≡ Memory) → OnOk r (n ≡ member_after m Halts)
    → OnOk r (new ≡ old
    ++ map (with_device_number d) (events_of_event_if (items_of m.layout) m.link (bus_event_of_step m Halts)))
    → OnErr r ((n ≡ m) × (new ≡ old)) → (len + max_events (items_of m.layout) ≤ cap → r ≢ Err Memory) → len_then ≤ len + max_events (items_of m.layout) → cap ≤ cap_then
    → Serves m n y r old new len len_then cap cap_then
halt_serves m n d y r old new len len_then cap cap_then is told only =
    one_serves m n d (Halt d) y Halts r old new len len_then cap cap_then is refl
    (λ members. record { after = refl; events = refl; most = refl; room = λ len cap has. has; stays = λ e. refl; fits = tt; between = others_between members (Halt d) tt; aborts = tt })
    (λ members at_place. never members (Halt d) r (never_stands members d (d - 1) m at_place) tt told only)

pub reset_serves : (m n : Member) (d : ℕ) (y : Step) (r : Result Told StackFault) (old new : List Delivered) (len len_then cap cap_then : ℕ) → y ≡ Reset d
    → IfOk r (λ told. told ≡ Quiet) → IfErr r (λ fault. fault ≡ Memory) → OnOk r (n ≡ member_after m Resets)
    → OnOk r (new ≡ old
    ++ map (with_device_number d) (events_of_event_if (items_of m.layout) m.link (bus_event_of_step m Resets)))
    → OnErr r ((n ≡ m) × (new ≡ old)) → (len + max_events (items_of m.layout) ≤ cap → r ≢ Err Memory) → len_then ≤ len + max_events (items_of m.layout) → cap ≤ cap_then
    → Serves m n y r old new len len_then cap cap_then
reset_serves m n d y r old new len len_then cap cap_then is told only =
    one_serves m n d (Reset d) y Resets r old new len len_then cap cap_then is refl
    (λ members. record { after = refl; events = refl; most = refl; room = λ len cap has. has; stays = λ e. refl; fits = tt; between = others_between members (Reset d) tt; aborts = tt })
    (λ members at_place. never members (Reset d) r (never_stands members d (d - 1) m at_place) tt told only)

-- a request that begins
begin_here : (members : List Member) (d : ℕ) (m n : Member) (request : Request) (done : Result (Unit {0}) StackFault) (es : List Delivered) (len cap : ℕ) → IsNamed members d (d - 1) m
    → OnOk done (n ≡ member_after m (Begins request)) → ((e : StackFault) → begin_refusal_at m request ≡ Some e → done ≡ Err e) → RefusedBy (begin_refusal_at m request) done
    → OnErr done (n ≡ m) → IfOk done (λ _. FitsRequest request)
    → StepsTo members (with_member members d n) (Begin d request) (begin_told done) es es len len cap cap
begin_here members d m n request (Ok u) es len cap at_place after refused only err fits = record {
  told = refl;
  after = leaves members members d (d - 1) m n (Begins request) refl at_place after;
  events = sym (append-nil es);
  fits = fits;
  refused = begin_refused members d (d - 1) m request (Ok u) (begin_told (Ok u)) at_place refl refused;
  only = tt;
  err = tt;
  err_events = tt;
  between = others_between members (Begin d request) tt;
  aborts = tt;
  room = λ room. absurd room;
  few = omega arith;
  capacity = omega arith;
}
begin_here members d m n request (Err fault) es len cap at_place after refused only err fits = record {
  told = tt;
  after = tt;
  events = tt;
  fits = tt;
  refused = begin_refused members d (d - 1) m request (Err fault) (begin_told (Err fault)) at_place refl refused;
  only = begin_only members d (d - 1) m request (Err fault) (begin_told (Err fault)) at_place refl only;
  err = begin_err members members d (d - 1) m n request (Err fault) (begin_told (Err fault)) refl at_place refl err;
  err_events = refl;
  between = others_between members (Begin d request) tt;
  aborts = tt;
  room = λ room. absurd room;
  few = omega arith;
  capacity = omega arith;
}

pub begin_serves : (m n : Member) (d : ℕ) (request : Request) (y : Step) (done : Result (Unit {0}) StackFault) (r : Result Told StackFault) (es : List Delivered) (len cap : ℕ) → y ≡ Begin d request
    → OnOk done (n ≡ member_after m (Begins request)) → ((e : StackFault) → begin_refusal_at m request ≡ Some e → done ≡ Err e) → RefusedBy (begin_refusal_at m request) done
    → OnErr done (n ≡ m) → IfOk done (λ _. FitsRequest request) → begin_told done ≡ r
    → Serves m n y r es es len len cap cap
begin_serves m n d request y done r es len cap is after refused only err fits told =
    subst (λ (o : Result Told StackFault). Serves m n y o es es len len cap cap) told
    (serves m n d (Begin d request) y (begin_told done) es es len len cap cap is refl (λ members at_place. begin_here members d m n request done es len cap at_place after refused only err fits))

-- a try
pub control_serves : (m n : Member) (d : ℕ) (fate : Fate) (y : Step) (done : Result Progress StackFault) (r : Result Told StackFault) (old new : List Delivered) (len len_then cap cap_then : ℕ) → y ≡ Control d fate
    → TriesTransfer fate m (running m.transfer) done n → IsBetween m.link (bus_event_of_step m (Controls fate))
    → AbortsByRequest fate m (running m.transfer)
    → OnOk done
    (new ≡ old
    ++ map (with_device_number d)
    (events_of_event_if (items_of m.layout) m.link (bus_event_of_step m (Controls fate)))) → OnErr done (new ≡ old)
    → (HasRoomToTry fate m (running m.transfer) len cap → done ≢ Err Memory)
    → len_then ≤ len + max_events_of_try m.layout (may_abort_round (running m.transfer)) → cap ≤ cap_then
    → r ≡ control_told done
    → Serves m n y r old new len len_then cap cap_then
control_serves m n d fate y done r old new len len_then cap cap_then is tries between aborts events err_events room few more told =
    serves m n d (Control d fate) y r old new len len_then cap cap_then is refl (λ members at_place.
    let t = tries_named members members d (d - 1) m n fate done r refl at_place tries told in
    record {
      told = t.told;
      after = t.after;
      events = control_done done r _ told (one_delivered members d (d - 1) m (Controls fate) done old new at_place events);
      fits = fits_anyway r (Unit {0}) tt;
      refused = t.refused;
      only = t.only;
      err = t.err;
      err_events = control_undone done r _ told err_events;
      between = control_between members d (d - 1) m fate at_place between;
      aborts = control_cuts members d (d - 1) m fate at_place aborts;
      room = control_room members d (d - 1) m fate done r len cap at_place told room;
      few = control_few members d (d - 1) m fate len len_then at_place few;
      capacity = more;
    })

-- a frame names no device
pub frame_serves : (m n : Member) (y : Step) (r : Result Told StackFault) (old new : List Delivered) (len len_then cap cap_then : ℕ) → y ≡ Frame → Serves m n y r old new len len_then cap cap_then
frame_serves m n y r old new len len_then cap cap_then is members dev names here =
    let none : None ≡ Some dev = ap device_of_step (sym is) ∙ names in absurd (cc)

-- every device goes on by a frame
pub frame_steps : (members behind : List Member) (x : Step) (es : List Delivered) (len cap : ℕ)
    → device_of_step x ≡ None → behind ≡ map (λ (m : Member). member_after m (Scheduled Frames)) members
    → StepsTo members behind x (Ok Quiet) es es len len cap cap
frame_steps members behind (ChangeStep dev change) es len cap none is = absurd (cc)
frame_steps members behind (Poll dev fate) es len cap none is = absurd (cc)
frame_steps members behind (Begin dev request) es len cap none is = absurd (cc)
frame_steps members behind (Control dev fate) es len cap none is = absurd (cc)
frame_steps members behind (Halt dev) es len cap none is = absurd (cc)
frame_steps members behind (Reset dev) es len cap none is = absurd (cc)
frame_steps members behind Frame es len cap none is = record {
  told = refl;
  after = is;
  events = sym (append-nil es);
  fits = tt;
  refused = λ e wrong. absurd (cc);
  only = tt;
  err = tt;
  err_events = tt;
  between = others_between members Frame tt;
  aborts = tt;
  room = λ room wrong. absurd (cc);
  few = omega arith;
  capacity = omega arith;
}

-- where no device has the number
none_cuts : (members : List Member) (dev : ℕ) (fate : Fate) → member_at members dev ≡ None
    → OnlyHaltsAbort members (Control dev fate)
none_cuts members dev fate none m here = let wrong : None ≡ Some m = sym none ∙ here in absurd (cc)

record StandsAlone (members : List Member) (x : Step) : Type 0 where
  stands : refusal members x ≡ Some NoDevice
  err : members ≡ bus_after_refusal members x NoDevice
  between : ConfiguresBetweenRounds members (x ∷ [])
  aborts : OnlyHaltsAbort members x

alone : (members : List Member) (x : Step) (dev : ℕ) → device_of_step x ≡ Some dev → member_at members dev ≡ None
    → StandsAlone members x
alone members (ChangeStep d change) dev names none =
    let is : member_at members d ≡ None = cc in
    record { stands = rw (is, refusal) refl; err = refl; between = others_between members (ChangeStep d change) tt; aborts = tt }
alone members Frame dev names none = absurd (cc)
alone members (Poll d fate) dev names none =
    let is : member_at members d ≡ None = cc in
    record { stands = rw (is, refusal) refl; err = refl; between = others_between members (Poll d fate) tt; aborts = tt }
alone members (Begin d request) dev names none =
    let is : member_at members d ≡ None = cc in
    record { stands = rw (is, refusal) refl; err = refl; between = others_between members (Begin d request) tt; aborts = tt }
alone members (Control d fate) dev names none =
    let is : member_at members d ≡ None = cc in
    record { stands = rw (is, refusal) refl; err = refl; between = try_between members d fate None is tt; aborts = none_cuts members d fate is }
alone members (Halt d) dev names none =
    let is : member_at members d ≡ None = cc in
    record { stands = rw (is, refusal) refl; err = refl; between = others_between members (Halt d) tt; aborts = tt }
alone members (Reset d) dev names none =
    let is : member_at members d ≡ None = cc in
    record { stands = rw (is, refusal) refl; err = refl; between = others_between members (Reset d) tt; aborts = tt }

pub none_steps : (members : List Member) (x : Step) (dev : ℕ) (r : Result Told StackFault) (es : List Delivered)
    (len cap : ℕ) → device_of_step x ≡ Some dev → r ≡ Err NoDevice → member_at members dev ≡ None
    → StepsTo members members x r es es len len cap cap
none_steps members x dev r es len cap names is none =
    let a = alone members x dev names none in
    subst (λ (o : Result Told StackFault). StepsTo members members x o es es len len cap cap) (sym is) (record {
      told = tt;
      after = tt;
      events = tt;
      fits = tt;
      refused = λ e refused. let same : Some NoDevice ≡ Some e = sym a.stands ∙ refused in cc;
      only = inl a.stands;
      err = a.err;
      err_events = refl;
      between = a.between;
      aborts = a.aborts;
      room = λ room wrong. absurd (cc);
      few = omega arith;
      capacity = omega arith;
    })

-- the device at its place
pub placed_steps : (slots members : List Member) (x : Step) (dev i : ℕ) (m n : Member) (r : Result Told StackFault) (old new : List Delivered) (len len_then cap cap_then : ℕ)
    → slots ≡ members → device_of_step x ≡ Some dev → dev ≡ i + 1 → i < length members → m ≡ get_or slots i m
    → Serves m n x r old new len len_then cap cap_then → StepsTo members (slice_set slots i n) x r old new len len_then cap cap_then
placed_steps slots members x dev i m n r old new len len_then cap cap_then same names number within is steps =
    let at_place = named slots members dev i m same number within is in
    let place = at_place.place in
    let there : with_member members dev n ≡ slice_set slots i n = cc in
    subst (λ (ms : List Member). StepsTo members ms x r old new len len_then cap cap_then) there (steps members dev names at_place.here)
