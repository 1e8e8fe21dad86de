-- A request of a device's host, with anything between its tries: what both ends make of it (USB 2.0, 8.5.3 and 9.2.6).
use Rattle.std.specs.Prelude.{◌≡◌, ◌≢◌, ◌≤◌, ℕ, suc, Bool, true, false, if◌then◌else◌, List, [], ◌∷◌, ◌++◌, Option, Some, None, IfSome}
use Rattle.usb_transact.specs.declared.transaction.Fate.{Fate}
use Rattle.usb_control.specs.declared.host.HostStage.TheVariants.{Done}
use Rattle.usb_control.specs.declared.setup.Setup.{Setup}
use Rattle.usb_control.specs.TryFunctions.{takes_effect}
use Rattle.usb_control.specs.Interleaving.{BothEnds, EndsAreAt, decision_now}
use Rattle.usb_control.specs.Runs.{IsOnce, acts, effects, last_decision, place_after_tries}
use Rattle.usb_control.specs.Transfer.{Decision, Refused, answered_bytes, start, transfer_shape}
use Rattle.hid_requests.specs.declared.request.Request.{Request}
use Rattle.hid_requests.specs.declared.request.Request.TheVariants.{Configure, Clear}
use Rattle.hid_requests.specs.RequestSetup.{row_of, sends_of, setup_for}
use Rattle.hid_bus.specs.DeviceHistory.{BusEvent, Own, Idles, Configures}
use Rattle.hid_bus.specs.DeviceHistory as bus
use Rattle.hid_device.specs.Core.{CoreState}
use Rattle.hid_device.specs.declared.decisions.PendingWrite.{PendingWrite}
use Rattle.hid_device.specs.RequestTable.{core_after_write, core_table, row_decision}
use Rattle.hid_device.specs.RequestDecisions.{Writes}
use Rattle.hid_host.specs.declared.host.Transfer.{Transfer}
use Rattle.hid_stack.specs.ControlSteps.{is_configure}
use Rattle.hid_host.specs.Host.{running}
use Rattle.hid_stack.specs.HostInvariant.{asking_of}
use Rattle.hid_stack.specs.Trails.{Trail, trail_after, trail_from}
use Rattle.hid_stack.specs.Members.{Member, MemberStep, Scheduled, Begins, Controls, Halts, Resets, control_of_member, core_of_member, bus_events_of_steps, expected_toggle_of, member_after, member_after_all, polls_it, member_out_of_memory}

-- the setup of a request of a member
abbrev pub setup_at : Member → Request → Setup
setup_at m request = setup_for request (asking_of (core_of_member m))

-- both ends of a transfer of a member
abbrev pub ends_at : Member → Transfer → BothEnds CoreState
ends_at m t = record { host = t.ends; control = control_of_member m }

-- a try, with what a SETUP that arrives in it is decided
abbrev pub try_at : Fate → Member → Option Transfer → List (Fate × Decision)
try_at fate m None = []
try_at fate m (Some t) = (fate, decision_now core_table (ends_at m t)) ∷ []

-- The tries among the steps of a member.
abbrev pub tries_of : Member → List MemberStep → List (Fate × Decision)
tries_of m [] = []
tries_of m (Controls fate ∷ steps) = try_at fate m m.transfer ++ tries_of (member_after m (Controls fate)) steps
tries_of m (Scheduled x ∷ steps) = tries_of (member_after m (Scheduled x)) steps
tries_of m (Begins request ∷ steps) = tries_of (member_after m (Begins request)) steps
tries_of m (Halts ∷ steps) = tries_of (member_after m Halts) steps
tries_of m (Resets ∷ steps) = tries_of (member_after m Resets) steps

-- no request begins in a list of steps, and no reset ends one
abbrev pub BeginsNone : List MemberStep → Type 0
BeginsNone [] = Unit {0}
BeginsNone (Begins request ∷ steps) = ⊥
BeginsNone (Scheduled x ∷ steps) = BeginsNone steps
BeginsNone (Controls fate ∷ steps) = BeginsNone steps
BeginsNone (Halts ∷ steps) = BeginsNone steps
BeginsNone (Resets ∷ steps) = ⊥

-- how often a configuration takes effect in a list of bus events
abbrev pub configurations : List BusEvent → ℕ
configurations [] = 0
configurations (Own x ∷ bus_events) = configurations bus_events
configurations (Idles idle ∷ bus_events) = configurations bus_events
configurations (Configures ∷ bus_events) = suc (configurations bus_events)
configurations (bus.Halts ∷ bus_events) = configurations bus_events
configurations (bus.Clears ∷ bus_events) = configurations bus_events
configurations (bus.Resets ∷ bus_events) = configurations bus_events

-- the next number where a condition holds, else the number
abbrev pub count_if : Bool → ℕ → ℕ
count_if true n = suc n
count_if false n = n

-- whether a write takes effect in a try
abbrev pub takes_effect_at : Fate → Member → Option Transfer → Bool
takes_effect_at fate m None = false
takes_effect_at fate m (Some t) = takes_effect core_table fate t.ends (control_of_member m)

-- how often a write takes effect at the device in the tries among a member's steps
abbrev pub effects_in : Member → List MemberStep → ℕ
effects_in m [] = 0
effects_in m (Controls fate ∷ steps) =
    count_if (takes_effect_at fate m (running m.transfer)) (effects_in (member_after m (Controls fate)) steps)
effects_in m (Scheduled x ∷ steps) = effects_in (member_after m (Scheduled x)) steps
effects_in m (Begins request ∷ steps) = effects_in (member_after m (Begins request)) steps
effects_in m (Halts ∷ steps) = effects_in (member_after m Halts) steps
effects_in m (Resets ∷ steps) = effects_in (member_after m Resets) steps

-- A write took effect: it did what the row of its request says, of the device as it stood at the last SETUP that arrived,
-- with the bytes that its host sends, and nothing else.
pub record TookEffect (request : Request) (decider old new : CoreState) : Type 0 where
  pub effect : PendingWrite
  pub says : row_decision decider (row_of request) ≡ Writes effect
  pub does : new ≡ core_after_write old (sends_of request) effect

-- Each try among the steps of a member in which a write takes effect has the effect of this request, where the transfer
-- came by this trail.
abbrev pub HasEffects : Request → Trail → Member → List MemberStep → Type 0
HasEffects request trail m [] = Unit {0}
HasEffects request trail m (Controls fate ∷ steps) =
    (takes_effect_at fate m (running m.transfer) ≡ true
    → TookEffect request trail.decider (core_of_member m) (core_of_member (member_after m (Controls fate))))
    × HasEffects request (trail_after fate (running m.transfer) (control_of_member m) trail)
    (member_after m (Controls fate)) steps
HasEffects request trail m (Scheduled x ∷ steps) = HasEffects request trail (member_after m (Scheduled x)) steps
HasEffects request trail m (Begins other ∷ steps) = HasEffects request trail (member_after m (Begins other)) steps
HasEffects request trail m (Halts ∷ steps) = HasEffects request trail (member_after m Halts) steps
HasEffects request trail m (Resets ∷ steps) = HasEffects request trail (member_after m Resets) steps

-- What holds of a request that began at this member, whatever came between its tries.
pub record IsWholeFrom (m : Member) (request : Request) (steps : List MemberStep) (begun : Member) : Type 0 where
  pub transfer : Transfer
  pub current : (member_after_all begun steps).transfer ≡ Some transfer
  pub of_request : transfer.request ≡ request
  pub setup : transfer.ends.setup ≡ setup_at m request
  -- the tries give one effect where the transfer is done, else one at most, and none where it was refused
  pub tries_once : IsOnce (transfer_shape (setup_at m request)) (tries_of begun steps)
  -- both ends are where the tries lead
  pub ends : EndsAreAt core_table (sends_of request)
      (place_after_tries (transfer_shape (setup_at m request)) (tries_of begun steps) start)
      (ends_at (member_after_all begun steps) transfer)
  -- a read that is done gave the device's answer as it was fixed at the last SETUP that arrived, no longer than what was
  -- asked for
  pub read : transfer.ends.stage ≡ Done → (transfer_shape (setup_at m request)).reads ≡ true
      → transfer.ends.bytes ≡ answered_bytes (transfer_shape (setup_at m request))
      (last_decision Refused (acts (transfer_shape (setup_at m request)) (tries_of begun steps) start))
  -- a write took effect at the device as often as the places of its tries say
  pub effect_count : effects_in begun steps
      ≡ effects 0 (acts (transfer_shape (setup_at m request)) (tries_of begun steps) start)
  -- the try in which it took effect did what the row of the request says, with the bytes that were sent
  pub effect : HasEffects request (trail_from (core_of_member m)) begun steps
  -- a write that is done took effect once
  pub written : transfer.ends.stage ≡ Done → (transfer_shape (setup_at m request)).reads ≡ false
      → effects_in begun steps ≡ 1
  -- a configuration took effect as often as a request for it did, and never by another request
  pub configures : configurations (bus_events_of_steps begun steps)
      ≡ (if is_configure request then effects_in begun steps else 0)
  -- a device is configured once by a Configure that is done
  pub configured : request ≡ Configure → transfer.ends.stage ≡ Done
      → configurations (bus_events_of_steps begun steps) ≡ 1

-- A Configure that is done at a try after which the host finds no memory for its view configured the device once too:
-- the device stands after it as where there is memory.
abbrev pub IsUnconcludedOnce : Member → Request → List MemberStep → Type 0
IsUnconcludedOnce m request steps =
    (fate : Fate) (ended : Transfer) → let begun = member_after m (Begins request) in
    let n = member_after_all begun steps in
    request ≡ Configure → (member_out_of_memory fate n (running n.transfer)).transfer ≡ Some ended
    → ended.ends.stage ≡ Done
    → (configurations (bus_events_of_steps begun (steps ++ Controls fate ∷ [])) ≡ 1)
    × (core_of_member (member_out_of_memory fate n (running n.transfer))
    ≡ core_of_member (member_after n (Controls fate)))

-- A request from its begin on, with anything between its tries: both ends stand where the tries lead, a write took
-- effect as often as these say, and then did what its row says.
abbrev pub IsWhole : Member → Request → List MemberStep → Type 0
IsWhole m request steps = IsWholeFrom m request steps (member_after m (Begins request))

-- A reset ends the transfer: its write took effect at most once before it, and doesn't after it, until another request
-- begins.
pub record IsEndedByReset (m : Member) (request : Request) (steps later : List MemberStep) : Type 0 where
  pub at_most_once : effects_in (member_after m (Begins request)) steps ≤ 1
  pub none_after : effects_in (member_after m (Begins request)) (steps ++ Resets ∷ later)
      ≡ effects_in (member_after m (Begins request)) steps

-- a transfer that isn't done: it runs, or it failed
abbrev pub IsUndone : Option Transfer → Type 0
IsUndone o = IfSome o (λ t. t.ends.stage ≢ Done)

-- a transfer that is done
abbrev pub IsOver : Option Transfer → Type 0
IsOver None = ⊥
IsOver (Some t) = t.ends.stage ≡ Done

-- No round is open, both ends begin with DATA0 (8.6), and nothing holds polls back.
pub record IsCleared (m : Member) : Type 0 where
  pub quiet : m.link.current ≡ None
  pub sends : m.link.toggle ≡ false
  pub expects : expected_toggle_of m ≡ false
  pub clearing : m.clearing ≡ false

-- A clear, from its begin on, whatever is lost of it and happens to the device meanwhile: no poll is sent while it
-- isn't done, also if it failed, and when a try ends it both ends start again (9.4.5). Example: begin 1 clear, then
-- poll 1 is S2
abbrev pub IsClearing : Member → List MemberStep → Type 0
IsClearing m steps =
    let n = member_after_all (member_after m (Begins Clear)) steps in IsUndone n.transfer
    → (polls_it n ≡ false)
    × ((fate : Fate) → IsOver (member_after n (Controls fate)).transfer → IsCleared (member_after n (Controls fate)))
