-- When a device and its host on a bus agree, and how soon (USB 2.0, 5.7.4, 8.4.6 and 8.5.4; our choice).
use Rattle.std.specs.Prelude.{◌≡◌, ◌≤◌, ◌+◌, ◌*◌, ℕ, true, false, List, [], ◌∷◌, length, replicate, Some}
use Rattle.hid_layout.specs.Controls.{items_of}
use Rattle.hid_layout.specs.Parsing.{ParsesTo}
use Rattle.hid_snapshots.specs.declared.control_state.ControlState.{ControlState}
use Rattle.hid_snapshots.specs.ControlStates.{FitsSnapshot, blank}
use Rattle.hid_snapshots.specs.Parts.{has_zeros}
use Rattle.usb_transact.specs.declared.host.Took.TheVariants.{Nak}
use Rattle.usb_transact.specs.declared.transaction.Fate.{Fate}
use Rattle.hid_bus.specs.declared.step.Step.{Step}
use Rattle.hid_bus.specs.declared.step.Step.TheVariants.{Poll}
use Rattle.hid_bus.specs.declared.step.Told.{Told}
use Rattle.hid_bus.specs.declared.step.Told.TheVariants.{Polled}
use Rattle.hid_bus.specs.LinkState.{initial_link}
use Rattle.hid_bus.specs.Agreement.{HasNothingToSend, Agrees}
use Rattle.hid_bus.specs.Convergence.{AreSendable, AreStill, IsAtRest, fates_of, polls_needed}
use Rattle.hid_bus.specs.Fairness.{IsFair}
use Rattle.hid_device.specs.Inputs.{input_count}
use Rattle.hid_stack.specs.Members.{Member, polls_it}
use Rattle.hid_stack.specs.Rig.{HasOnlySchedule, bus_after, bus_after_all, device_steps, member_at}
use Rattle.hid_stack.specs.StepResult.{StepReturns}
use Rattle.hid_stack.specs.BusHistory.{Action, Attached, Taken, Unconcluded, bus_after_actions}

-- No step came since a device was attached, configured or reset. It has this snapshot, and an idle time for each Input
-- report.
pub record IsUnpolled (m : Member) (snapshot : List ControlState) (idle : List ℕ) : Type 0 where
  pub link : m.link ≡ initial_link (items_of m.layout) snapshot idle
  pub lays : ParsesTo m.descriptor m.layout
  pub fits : FitsSnapshot (items_of m.layout) snapshot
  pub each : length idle ≡ input_count m.layout.reports

-- If the device has nothing to send, its host has what is pressed and each value, and no motion is left to report.
abbrev pub AgreesIfSilent : Member → Type 0
AgreesIfSilent n = HasNothingToSend (items_of n.layout) n.link → Agrees (items_of n.layout) n.link

-- No key is left stuck: after any steps of the bus, whatever is lost, asked, halted and reset, a device and its host agree
-- if the device has nothing to send. (Before these steps it was unpolled.)
abbrev pub AgreeAtNak : List Member → List Step → List Member → Type 0
AgreeAtNak before steps after =
    (device : ℕ) (m : Member) (snapshot : List ControlState) (idle : List ℕ)
    → member_at before device ≡ Some m → IsUnpolled m snapshot idle
    → (n : Member) × (member_at after device ≡ Some n) × AgreesIfSilent n

-- the host received NAK at a poll
abbrev pub ReceivesNak : Told → Type 0
ReceivesNak (Polled packet took) = took ≡ Nak
ReceivesNak _ = ⊥

-- What a caller sees: if a poll returns NAK, the device and its host agree, before this poll and after it.
abbrev pub AgreeIfNakIsReceived : List Member → List Step → List Member → Type 0
AgreeIfNakIsReceived before steps after =
    (device : ℕ) (m : Member) (snapshot : List ControlState) (idle : List ℕ) (fate : Fate) (told : Told)
    → member_at before device ≡ Some m → IsUnpolled m snapshot idle
    → StepReturns after (Poll device fate) told → ReceivesNak told
    → (n : Member) × (member_at after device ≡ Some n)
    × (member_at (bus_after after (Poll device fate)) device ≡ Some n) × Agrees (items_of n.layout) n.link

-- Over these steps nothing happens to a device but polls and frames. Its host polls it, its endpoint isn't halted, and
-- frames pass only if it has no idle time.
pub record IsLeftAlone (device : ℕ) (n : Member) (steps : List Step) : Type 0 where
  pub polled : polls_it n ≡ true
  pub going : n.link.halted ≡ false
  pub only : HasOnlySchedule device steps
  pub still : AreStill n.link.reports.idle (device_steps device steps)

-- (k + 1) times as many polls as the device needs, of which at most k in a row lose something
abbrev pub AreEnoughPolls : ℕ → ℕ → Member → List Step → Type 0
AreEnoughPolls k device n steps =
    IsFair k (fates_of (device_steps device steps))
    × ((k + 1) * polls_needed (items_of n.layout) n.link ≤ length (fates_of (device_steps device steps)))

-- from a bus on, over steps at which a device is left alone, it is at rest after enough polls
abbrev pub RestsIn : ℕ → ℕ → Member → List Step → List Member → Type 0
RestsIn k device n steps after =
    IsLeftAlone device n steps → AreEnoughPolls k device n steps
    → (o : Member) × (member_at after device ≡ Some o) × IsAtRest (items_of o.layout) o.link

-- Devices come to rest: a device that is left alone after any steps of the bus has nothing more to send after enough
-- polls, and agrees with its host. Each of its relative controls can report 0. (Before all steps it was unpolled.)
abbrev pub ComeToRest : ℕ → List Member → List Step → List Step → List Member → Type 0
ComeToRest k before earlier later after =
    (device : ℕ) (m : Member) (snapshot : List ControlState) (idle : List ℕ)
    → member_at before device ≡ Some m → IsUnpolled m snapshot idle
    → has_zeros (items_of m.layout) ≡ true → AreSendable (items_of m.layout) snapshot
    → (n : Member) × (member_at (bus_after_all before earlier) device ≡ Some n) × RestsIn k device n later after

-- ---- of a device that is attached

-- A device that is attached, ready or cold, is unpolled: its snapshot is blank, and it has no idle times. Each of its relative
-- controls can report 0.
pub record StartsUnpolled (m : Member) : Type 0 where
  pub unpolled : IsUnpolled m (blank (items_of m.layout)) (replicate (input_count m.layout.reports) 0)
  pub zeros : has_zeros (items_of m.layout) ≡ true
  pub sendable : AreSendable (items_of m.layout) (blank (items_of m.layout))

-- each device that is attached starts unpolled
abbrev pub AllStartUnpolled : List Action → Type 0
AllStartUnpolled [] = Unit {0}
AllStartUnpolled (Attached m ∷ acts) = StartsUnpolled m × AllStartUnpolled acts
AllStartUnpolled (Taken step ∷ acts) = AllStartUnpolled acts
AllStartUnpolled (Unconcluded dev fate ∷ acts) = AllStartUnpolled acts

-- No key is left stuck on a bus from its first device on, also if memory runs out meanwhile.
abbrev pub AgreeFromAttach : List Action → Type 0
AgreeFromAttach acts =
    AllStartUnpolled acts
    → (dev : ℕ) (n : Member) → member_at (bus_after_actions [] acts) dev ≡ Some n → AgreesIfSilent n

-- Each device of such a bus comes to rest, over steps at which it is left alone.
abbrev pub RestFromAttach : ℕ → List Action → List Step → Type 0
RestFromAttach k acts later =
    let bus : List Member = bus_after_actions [] acts in
    AllStartUnpolled acts
    → (dev : ℕ) (n : Member) → member_at bus dev ≡ Some n → RestsIn k dev n later (bus_after_all bus later)
