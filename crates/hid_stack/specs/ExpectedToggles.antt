-- The toggle that a ready host expects, after any list of steps: the parity of the pieces that crossed (USB 2.0, 8.6
-- and 9.4.5).
use Rattle.std.specs.Prelude.{◌≡◌, ◌≢◌, ◌||◌, ℕ, Bool, true, false, List, Some, None, IfSome}
use Rattle.std.specs.List.{All}
use Rattle.hid_layout.specs.Controls.{items_of}
use Rattle.hid_requests.specs.declared.request.Request.TheVariants as requests
use Rattle.hid_bus.specs.Rounds.{pieces_crossed}
use Rattle.hid_bus.specs.DeviceHistory.{outcomes_of_events, toggle_after_outcomes}
use Rattle.hid_bus.specs.HistoryState.{history_from}
use Rattle.hid_bus.specs.declared.step.Step.{Step}
use Rattle.hid_host.specs.declared.phase.HostState.TheVariants.{Ready}
use Rattle.hid_host.specs.Host.{running}
use Rattle.hid_host.specs.Phase.{may_begin}
use Rattle.hid_stack.specs.Members.{Member, MemberStep, bus_events_of_steps, expected_toggle_of, member_after_all, member_held_toggle, polls_it}
use Rattle.hid_stack.specs.Rig.{member_at, member_steps}

-- How the host of a member of a bus holds its toggle: while it is ready and its endpoint is halted, or a Clear is
-- pending, and at no other time. Before it is ready no piece closed; the transfer that runs is one that its state
-- allows, and a Clear that runs is pending.
pub record HoldsToggle (m : Member) : Type 0 where
  pub held : m.held ≡ member_held_toggle m.host (m.link.halted || m.clearing) (expected_toggle_of m)
  pub even : m.host ≢ Ready → m.link.toggle ≡ false
  pub needs : IfSome (running m.transfer) (λ t. may_begin t.request m.host ≡ true)
  pub pends : IfSome (running m.transfer) (λ t. t.request ≡ requests.Clear → m.clearing ≡ true)

-- every host of a bus holds its toggle
abbrev pub AllHoldToggles : List Member → Type 0
AllHoldToggles members = All HoldsToggle members

-- the expected toggle after these steps, by the pieces that crossed: it changed with each of them, and started again at
-- DATA0 with a configuration, a clear and a reset
abbrev pub parity_after : Member → List MemberStep → Bool
parity_after m steps =
    toggle_after_outcomes pieces_crossed (expected_toggle_of m)
    (outcomes_of_events (items_of m.layout) (bus_events_of_steps m steps) (history_from m.link))

-- While a host may poll, so is ready with no Clear pending, also while the endpoint is halted, it expects the parity of
-- the pieces that crossed since the configuration or the last clear. Example: DATA1 after a press, a lost ACK and a halt
abbrev pub ExpectsParity : Member → List MemberStep → Type 0
ExpectsParity m steps =
    m.link.current ≡ None → m.clearing ≡ false → polls_it (member_after_all m steps) ≡ true
    → expected_toggle_of (member_after_all m steps) ≡ parity_after m steps

-- Each host of a bus expects the parity of the pieces that crossed, while it may poll.
abbrev pub HostsExpectParity : List Member → List Step → List Member → Type 0
HostsExpectParity before steps after =
    (device : ℕ) (m n : Member) → member_at before device ≡ Some m → member_at after device ≡ Some n
    → m.link.current ≡ None → m.clearing ≡ false → polls_it n ≡ true
    → expected_toggle_of n ≡ parity_after m (member_steps device steps)
