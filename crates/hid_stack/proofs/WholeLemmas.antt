-- Both ends of a request stand where its tries lead, whatever happens to the device between them.
use Rattle.std.proofs.Common.{◌≡◌, ◌++◌, ◌∙◌, ◌+◌, ◌<◌, ◌^◌, ℕ, arith, Bool, true, false, List, [], ◌∷◌, Option, Some, None, refl, ap, sym, subst}
use Rattle.std.specs.Prelude.{if◌then◌else◌}
use Rattle.usb_transact.specs.declared.transaction.Fate.{Fate}
use Rattle.usb_control.specs.declared.device.LastPacket.TheVariants as last_packets
use Rattle.usb_control.specs.Interleaving.{BothEnds, EndsAreAt, LeaveAnswers, Meanwhile, Tries, Turn, decision_now, ends_after_turn, ends_after_turns, ends_tried, is_running, tries_in}
use Rattle.usb_control.specs.declared.setup.Setup.{Setup}
use Rattle.usb_control.specs.Runs.{acts, effects, place_after_tries}
use Rattle.usb_control.specs.Positions.{TransferIsAt}
use Rattle.usb_control.specs.Transfer.{Decision, answered_bytes, start, transfer_shape}
use Rattle.usb_control.proofs.LawLemmas.{begins, done_is, read_is}
use Rattle.usb_control.proofs.InterleavingLemmas.{places_are_run, setup_stays}
use Rattle.usb_control.proofs.RunLemmas.{is_once}
use Rattle.hid_requests.specs.declared.request.Asking.{Asking}
use Rattle.hid_layout.specs.Parsing.{ParsesTo}
use Rattle.hid_host.specs.declared.fault.StackFault.{StackFault}
use Rattle.hid_requests.specs.RequestSetup.{FitsRequest, sends_of}
use Rattle.hid_requests.proofs.RequestKindLemmas.{sends_so, encoded_so}
use Rattle.hid_stack.proofs.LawLemmas.{short_so}
use Rattle.hid_requests.specs.declared.request.Request.{Request}
use Rattle.hid_device.specs.Core.{CoreState}
use Rattle.hid_device.specs.RequestTable.{core_table}
use Rattle.hid_host.specs.declared.host.Transfer.{Transfer}
use Rattle.hid_stack.specs.ControlSteps.{is_configure, with_answer_of}
use Rattle.usb_control.specs.declared.host.HostStage.{HostStage}
use Rattle.usb_control.specs.declared.host.HostStage.TheVariants as stages
use Rattle.hid_requests.specs.declared.request.Request.TheVariants.{Configure}
use Rattle.hid_host.specs.Host.{may_abort_round, request_aborts_round, running, running_at, transfer_of}
use Rattle.hid_stack.specs.HostInvariant.{asking_of}
use Rattle.hid_stack.specs.Trails.{trail_from}
use Rattle.hid_stack.specs.Members.{Member, MemberStep, Scheduled, Begins, Controls, Halts, Resets, begin_refusal_at, member_after_begin, control_of_member, core_of_member, member_transfer_after, member_after_halt, member_after, member_after_all, member_after_try, member_after_try_in, member_out_of_memory}
use Rattle.hid_stack.specs.Transfers.{BeginsNone, IsEndedByReset, IsUnconcludedOnce, IsWhole, IsWholeFrom, effects_in, ends_at, count_if, takes_effect_at, setup_at, tries_of, try_at}
use Rattle.hid_stack.proofs.CountLemmas.{Stood, counted, halted_transfer, runs_as}
use Rattle.hid_stack.proofs.EffectLemmas.{has_effects}

-- ---- the steps of a member as turns of a transfer

-- what answers requests stands as in this member, but for its answer and what it is to carry out
abbrev standing_as : Member → Turn CoreState
standing_as n = Meanwhile (λ core. with_answer_of (core_of_member n) core) (λ last_packet. last_packets.Nothing)

abbrev turns_by : Member → List MemberStep → List (Turn CoreState)
turns_by m [] = []
turns_by m (Controls fate ∷ steps) = Tries fate ∷ standing_as (member_after m (Controls fate)) ∷ turns_by (member_after m (Controls fate)) steps
turns_by m (Scheduled x ∷ steps) = standing_as (member_after m (Scheduled x)) ∷ turns_by (member_after m (Scheduled x)) steps
turns_by m (Begins request ∷ steps) = turns_by m steps
turns_by m (Halts ∷ steps) = standing_as (member_after m Halts) ∷ turns_by (member_after m Halts) steps
turns_by m (Resets ∷ steps) = turns_by m steps

leave_answers : (steps : List MemberStep) (m : Member) → LeaveAnswers core_table (turns_by m steps)
leave_answers [] m = tt
leave_answers (Controls fate ∷ steps) m = (λ core. refl, leave_answers steps (member_after m (Controls fate)))
leave_answers (Scheduled x ∷ steps) m = (λ core. refl, leave_answers steps (member_after m (Scheduled x)))
leave_answers (Begins request ∷ steps) m = leave_answers steps m
leave_answers (Halts ∷ steps) m = (λ core. refl, leave_answers steps (member_after m Halts))
leave_answers (Resets ∷ steps) m = leave_answers steps m

-- the two ends after turns
pub record Behind (n : Member) (t : Transfer) (ends : BothEnds CoreState) : Type 0 where
  pub transfer : Transfer
  pub is : n.transfer ≡ Some transfer
  pub of : transfer.request ≡ t.request
  pub ends_are : ends ≡ ends_at n transfer

-- a try, of a transfer that runs or not
abbrev tried_if : Fate → Member → Transfer → Member → Bool → BothEnds CoreState
tried_if fate m t n b =
    ends_after_turn core_table (if b then ends_tried core_table fate (ends_at m t) else ends_at m t) (standing_as n)

try_behind : (fate : Fate) (m : Member) (t : Transfer) (b : Bool) → is_running t.ends.stage ≡ b → m.transfer ≡ Some t → running m.transfer ≡ (if b then Some t else None)
    → Behind (member_after m (Controls fate)) t (tried_if fate m t (member_after m (Controls fate)) (is_running t.ends.stage))
try_behind fate m t true is has runs =
    subst (λ (k : Member). Behind k t (tried_if fate m t k (is_running t.ends.stage)))
    (sym (ap (member_after_try fate m) runs)) (record {
      transfer = record t { ends = member_transfer_after fate m t };
      is = refl;
      of = refl;
      ends_are = ap (tried_if fate m t (member_after_try fate m (Some t))) is;
    })
try_behind fate m t false is has runs =
    subst (λ (k : Member). Behind k t (tried_if fate m t k (is_running t.ends.stage)))
    (sym (ap (member_after_try fate m) runs)) (record {
      transfer = t;
      is = has;
      of = refl;
      ends_are = ap (tried_if fate m t m) is;
    })

-- a halt of the device leaves them
halt_behind : (b : Bool) (m : Member) (t : Transfer) → m.transfer ≡ Some t
    → Behind (member_after_halt b m) t
    (ends_after_turn core_table (ends_at m t) (standing_as (member_after_halt b m)))
halt_behind true m t has = record { transfer = t; is = has; of = refl; ends_are = refl }
halt_behind false m t has = record { transfer = t; is = has; of = refl; ends_are = refl }

-- both ends, and the tries, after a list of steps
record Follows (m : Member) (t : Transfer) (steps : List MemberStep) : Type 0 where
  behind : Behind (member_after_all m steps) t (ends_after_turns core_table (ends_at m t) (turns_by m steps))
  tries : tries_in core_table (ends_at m t) (turns_by m steps) ≡ tries_of m steps

follows : (steps : List MemberStep) (m : Member) (t : Transfer) → m.transfer ≡ Some t → BeginsNone steps → Follows m t steps
follows [] m t has none = record { behind = record { transfer = t; is = has; of = refl; ends_are = refl }; tries = refl }
follows (Scheduled x ∷ steps) m t has none =
    let later = follows steps (member_after m (Scheduled x)) t has none in
    record { behind = later.behind; tries = later.tries }
follows (Begins request ∷ steps) m t has none = absurd none
follows (Halts ∷ steps) m t has none =
    let n = member_after m Halts in
    let here = halt_behind m.endpoint.is_configured m t has in
    let later = follows steps n here.transfer here.is none in
    let b = later.behind in
    record {
      behind = record {
        transfer = b.transfer;
        is = b.is;
        of = b.of ∙ here.of;
        ends_are =
            ap (λ (e : BothEnds CoreState). ends_after_turns core_table e (turns_by n steps)) here.ends_are
            ∙ b.ends_are;
      };
      tries = ap (λ (e : BothEnds CoreState). tries_in core_table e (turns_by n steps)) here.ends_are ∙ later.tries;
    }
follows (Resets ∷ steps) m t has none = absurd none
follows (Controls fate ∷ steps) m t has none =
    let n = member_after m (Controls fate) in
    let here = try_behind fate m t (is_running t.ends.stage) refl has (runs_as m t has) in
    let later = follows steps n here.transfer here.is none in
    let back = sym here.ends_are in
    let b = later.behind in
    record {
      behind = record {
        transfer = b.transfer;
        is = b.is;
        of = b.of ∙ here.of;
        ends_are =
            ap (λ (e : BothEnds CoreState). ends_after_turns core_table e (turns_by n steps)) here.ends_are
            ∙ b.ends_are;
      };
      tries = ap (λ (xs : List (Fate × Decision)). (fate, decision_now core_table (ends_at m t)) ∷ xs)
          (ap (λ (e : BothEnds CoreState). tries_in core_table e (turns_by n steps)) here.ends_are ∙ later.tries)
          ∙ sym (ap (λ (o : Option Transfer). try_at fate m o ++ tries_of n steps) has);
    }

-- ---- a request from its begin on

abbrev first_of : Member → Request → Transfer
first_of m request = transfer_of m.addr (asking_of (core_of_member m)) request

pub whole : (m : Member) (request : Request) (steps : List MemberStep) → ParsesTo m.descriptor m.layout
    → FitsRequest request → begin_refusal_at m request ≡ None → BeginsNone steps
    → IsWhole m request steps
whole m request steps lays fits allowed none =
    let asking : Asking = asking_of (core_of_member m) in
    let of_one : asking.endpoint < 2 ^ 8 = omega arith in
    let t = first_of m request in
    let begun : Member = member_after_begin None m request in
    let is_begun : member_after m (Begins request) ≡ begun =
    ap (λ (o : Option StackFault). member_after_begin o m request) allowed in
    let f = follows steps begun t refl none in
    let b = f.behind in
    let shape = transfer_shape (setup_at m request) in
    let turns = turns_by begun steps in
    let first : EndsAreAt core_table (sends_of request) start (ends_at begun t) =
    begins core_table.answer_of m.addr (setup_at m request) (sends_of request) (control_of_member begun)
    (sends_so request asking) in
    let stands = places_are_run core_table (sends_of request) start (ends_at begun t) turns (encoded_so request asking fits (short_so m.descriptor m.layout lays) of_one) (leave_answers steps begun) first in
    let asked : b.transfer.ends.setup ≡ setup_at m request =
    sym (ap (λ (e : BothEnds CoreState). e.host.setup) b.ends_are)
    ∙ setup_stays core_table (ends_at begun t) turns in
    let there : EndsAreAt core_table (sends_of request) (place_after_tries shape (tries_of begun steps) start)
    (ends_at (member_after_all begun steps) b.transfer)
    = subst (λ (xs : List (Fate × Decision)). EndsAreAt core_table (sends_of request)
    (place_after_tries shape xs start)
    (ends_at (member_after_all begun steps) b.transfer)) f.tries
    (subst (λ (e : BothEnds CoreState). EndsAreAt core_table (sends_of request)
    (place_after_tries shape (tries_in core_table (ends_at begun t) turns) start) e) b.ends_are stands) in
    let once = is_once shape (tries_of begun steps) in
    let none_yet : Stood begun t (trail_from (core_of_member m)) =
    record {
      asked = refl;
      encoded =
          encoded_so request asking fits (short_so m.descriptor m.layout lays) of_one;
      fits = fits;
      stands =
          first;
      decided = λ behind. absurd behind;
    } in
    let count = counted steps begun t (trail_from (core_of_member m)) 0 refl none none_yet in
    let all = acts shape (tries_of begun steps) start in
    let took : effects_in begun steps ≡ effects 0 all
    = let zero : effects_in begun steps + 0 ≡ effects_in begun steps = omega arith in sym zero ∙ sym count.took in
    let stands_there =
    subst (λ (s : Setup). TransferIsAt core_table.answer_of (transfer_shape s) (sends_of request)
    (place_after_tries shape (tries_of begun steps) start) b.transfer.ends
    (control_of_member (member_after_all begun steps))) asked there in
    let is_done =
    (done_is core_table.answer_of shape (sends_of request)
    (place_after_tries shape (tries_of begun steps) start) b.transfer.ends
    (control_of_member (member_after_all begun steps)) stands_there).0 in
    subst (λ (k : Member). IsWholeFrom m request steps k) (sym is_begun) (record {
      transfer = b.transfer;
      current = b.is;
      of_request = b.of;
      setup = asked;
      tries_once = once;
      ends = there;
      read = λ done is_read.
          read_is core_table.answer_of shape (sends_of request)
          (place_after_tries shape (tries_of begun steps) start) b.transfer.ends
          (control_of_member (member_after_all begun steps)) stands_there (is_done done) is_read
          ∙ ap (answered_bytes shape) once.decided;
      effect_count = took;
      effect = has_effects steps begun t (trail_from (core_of_member m)) refl none none_yet;
      written = λ done writes. took ∙ once.once (is_done done) writes;
      configures = count.configures;
      configured = λ is_configured done.
          let writes : shape.reads ≡ false =
          ap (λ (q : Request). (transfer_shape (setup_at m q)).reads) is_configured in
          count.configures ∙ ap (λ (q : Request). if is_configure q then effects_in begun steps else 0) is_configured
          ∙ took ∙ once.once (is_done done) writes;
    })

-- ---- a Configure that finds no memory

behind_one : (steps : List MemberStep) (m : Member) (x : MemberStep) → member_after_all m (steps ++ x ∷ []) ≡ member_after (member_after_all m steps) x
behind_one [] m x = refl
behind_one (y ∷ steps) m x = behind_one steps (member_after m y) x

begins_none : (fate : Fate) (steps : List MemberStep) → BeginsNone steps → BeginsNone (steps ++ Controls fate ∷ [])
begins_none fate [] none = tt
begins_none fate (Scheduled x ∷ steps) none = begins_none fate steps none
begins_none fate (Begins request ∷ steps) none = absurd none
begins_none fate (Halts ∷ steps) none = begins_none fate steps none
begins_none fate (Resets ∷ steps) none = absurd none
begins_none fate (Controls other ∷ steps) none = begins_none fate steps none

-- the transfer ends all the same, but for a request that may cut a round
same_transfer : (fate : Fate) (n : Member) (runs : Option Transfer) → may_abort_round runs ≡ false
    → (member_after_try fate n runs).transfer ≡ (member_out_of_memory fate n runs).transfer
same_transfer fate n None apart = refl
same_transfer fate n (Some t) apart =
    sym (ap (λ (b : Bool). (if b then n else member_after_try_in fate n t n.host).transfer) apart)

-- the device stands after a try as it does if memory runs out
same_core : (fate : Fate) (n : Member) (runs : Option Transfer) → may_abort_round runs ≡ false
    → core_of_member (member_out_of_memory fate n runs) ≡ core_of_member (member_after_try fate n runs)
same_core fate n None apart = refl
same_core fate n (Some t) apart =
    ap (λ (b : Bool). core_of_member (if b then n else member_after_try_in fate n t n.host)) apart

one_transfer : (a b : Transfer) → Some a ≡ Some b → a ≡ b
one_transfer a b e = cc

no_cut : (o : Option Transfer) (t : Transfer) → o ≡ Some t → t.request ≡ Configure
    → may_abort_round (running o) ≡ false
no_cut o t is asks = ap (λ (x : Option Transfer). may_abort_round (running x)) is ∙ by_stage t.ends.stage
  where
    none : request_aborts_round t.request ≡ false
    none = ap request_aborts_round asks

    by_stage : (stage : HostStage) → may_abort_round (running_at t stage) ≡ false
    by_stage stages.Done = refl
    by_stage (stages.Failed fault) = refl
    by_stage stages.Setup = none
    by_stage (stages.DataIn one) = none
    by_stage (stages.DataOut sent one) = none
    by_stage stages.StatusIn = none
    by_stage stages.StatusOut = none

pub unconcluded_once : (m : Member) (request : Request) (steps : List MemberStep) → ParsesTo m.descriptor m.layout
    → FitsRequest request → begin_refusal_at m request ≡ None → BeginsNone steps
    → IsUnconcludedOnce m request steps
unconcluded_once m request steps lays fits allowed none fate ended is_configure is done =
    let begun = member_after m (Begins request) in
    let n = member_after_all begun steps in
    let w = whole m request (steps ++ Controls fate ∷ []) lays fits allowed (begins_none fate steps none) in
    let before = whole m request steps lays fits allowed none in
    let apart = no_cut n.transfer before.transfer before.current (before.of_request ∙ is_configure) in
    let there : Some w.transfer ≡ Some ended
    = sym w.current ∙ ap (λ (k : Member). k.transfer) (behind_one steps begun (Controls fate)) ∙ same_transfer fate n (running n.transfer) apart ∙ is in
    (w.configured is_configure (ap (λ (t : Transfer). t.ends.stage) (one_transfer w.transfer ended there) ∙ done), same_core fate n (running n.transfer) apart)

-- ---- a reset ends a transfer

more_of_both : (b : Bool) (all first later : ℕ) → all ≡ first + later → count_if b all ≡ count_if b first + later
more_of_both true all first later same = omega (arith, same)
more_of_both false all first later same = same

effects_append : (xs ys : List MemberStep) (m : Member) → effects_in m (xs ++ ys) ≡ effects_in m xs + effects_in (member_after_all m xs) ys
effects_append [] ys m = omega arith
effects_append (Scheduled x ∷ xs) ys m = effects_append xs ys (member_after m (Scheduled x))
effects_append (Begins request ∷ xs) ys m = effects_append xs ys (member_after m (Begins request))
effects_append (Halts ∷ xs) ys m = effects_append xs ys (member_after m Halts)
effects_append (Resets ∷ xs) ys m = effects_append xs ys (member_after m Resets)
effects_append (Controls fate ∷ xs) ys m =
    let n = member_after m (Controls fate) in
    more_of_both (takes_effect_at fate m (running m.transfer)) (effects_in n (xs ++ ys)) (effects_in n xs) (effects_in (member_after_all n xs) ys) (effects_append xs ys n)

-- where no transfer runs, none takes effect
idle_try : (fate : Fate) (m : Member) → m.transfer ≡ None → (member_after m (Controls fate) ≡ m) × (takes_effect_at fate m (running m.transfer) ≡ false)
idle_try fate m none = (
  ap (λ (o : Option Transfer). member_after_try fate m (running o)) none,
  ap (λ (o : Option Transfer). takes_effect_at fate m (running o)) none,
)

none_take : (xs : List MemberStep) (m : Member) → m.transfer ≡ None → BeginsNone xs → effects_in m xs ≡ 0
none_take [] m none begins = refl
none_take (Scheduled x ∷ xs) m none begins = none_take xs (member_after m (Scheduled x)) none begins
none_take (Begins request ∷ xs) m none begins = absurd begins
none_take (Halts ∷ xs) m none begins = none_take xs (member_after m Halts) (halted_transfer m.endpoint.is_configured m ∙ none) begins
none_take (Resets ∷ xs) m none begins = absurd begins
none_take (Controls fate ∷ xs) m none begins =
    let idle = idle_try fate m none in
    ap (λ (b : Bool). count_if b (effects_in (member_after m (Controls fate)) xs)) idle.1
    ∙ ap (λ (n : Member). effects_in n xs) idle.0
    ∙ none_take xs m none begins

pub ended_by_reset : (m : Member) (request : Request) (steps later : List MemberStep) → ParsesTo m.descriptor m.layout
    → FitsRequest request → begin_refusal_at m request ≡ None → BeginsNone steps → BeginsNone later
    → IsEndedByReset m request steps later
ended_by_reset m request steps later lays fits allowed none none_later =
    let begun = member_after m (Begins request) in
    let n = member_after_all begun steps in
    let w = whole m request steps lays fits allowed none in
    let rest : effects_in n (Resets ∷ later) ≡ 0 = none_take later (member_after n Resets) refl none_later in
    let all : effects_in begun (steps ++ Resets ∷ later) ≡ effects_in begun steps + effects_in n (Resets ∷ later) = effects_append steps (Resets ∷ later) begun in
    let most = w.tries_once.at_most_once in
    record {
      at_most_once = omega (arith, w.effect_count, most);
      none_after = omega (arith, rest, all);
    }
