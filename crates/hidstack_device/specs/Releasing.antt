-- A device of which all that is pressed is let go of at once (our choice).
use Rattle.std.specs.Prelude.{ℕ, Bool, false, List, map, slice_set}
use Rattle.hid_snapshots.specs.declared.control_state.ControlState.{ControlState}
use Rattle.hid_snapshots.specs.declared.control_state.ControlState.TheVariants.{Switches}
use Rattle.hid_snapshots.specs.Snapshots.{state_at, with_pressed}
use Rattle.hid_device.specs.Core.{CoreState}

-- the control state of an item of which nothing is pressed; values and motions stay
abbrev pub let_go : ControlState → ControlState
let_go (Switches ps) = Switches (map (λ p. false) ps)
let_go state = state

-- the device with these control states
abbrev pub core_with_states : CoreState → List ControlState → CoreState
core_with_states core states = record core { reports = record core.reports { snapshot = states } }

-- The device of which no switch and no key is pressed. Values stay, and so does motion that isn't reported yet. Example: Shift and
-- A of a keyboard go up, and its next report is all 0
abbrev pub released_core : CoreState → CoreState
released_core core = core_with_states core (map let_go core.reports.snapshot)

-- the device of which one place of an item isn't pressed
abbrev pub core_with_release : CoreState → ℕ → ℕ → CoreState
core_with_release core i j =
    core_with_states core (slice_set core.reports.snapshot i (with_pressed (state_at core.reports.snapshot i) j false))

-- the device of which nothing of one item is pressed
abbrev pub core_with_item_let_go : CoreState → ℕ → CoreState
core_with_item_let_go core i = core_with_states core (slice_set core.reports.snapshot i (let_go (state_at core.reports.snapshot i)))
