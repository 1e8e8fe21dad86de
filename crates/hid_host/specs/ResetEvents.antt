-- The events of a host at a reset of the bus, and where a halt or its end aborts a round (USB 2.0, 7.1.7.5, 8.6,
-- 9.1.1.3 and 9.4.5; our choice).
use Rattle.std.specs.Prelude.{ℕ, Bool, not, ◌||◌, if◌then◌else◌, List, [], Option, Some, None, IfSome, unwrap_or}
use Rattle.std.specs.Bool.{beq}
use Rattle.hid_layout.specs.Layout.{Contents}
use Rattle.hid_layout.specs.Controls.{Item, items_of}
use Rattle.hid_snapshots.specs.declared.control_state.ControlState.{ControlState}
use Rattle.hid_snapshots.specs.declared.event.Event.{Event}
use Rattle.hid_snapshots.specs.ControlStates.{blank, FitsShown}
use Rattle.hid_snapshots.specs.Parts.{IsInput}
use Rattle.hid_snapshots.specs.Views.{changes_between, drops_between}
use Rattle.hid_snapshots.specs.Pieces.{is_last_piece}
use Rattle.hid_host.specs.declared.phase.HostPhase.{HostPhase}
use Rattle.hid_host.specs.declared.phase.HostPhase.TheVariants.{Ready}
use Rattle.hid_host.specs.Ready.{ReadyHostState}

-- The report of an open round of which the host hasn't got all pieces: the current one goes out under the toggle that
-- the host expects (USB 2.0, 8.6), or others are after it.
abbrev pub awaited_report : List Item → Bool → Option (ℕ × Bool) → Option ℕ → Option ℕ
awaited_report items expects None piece = None
awaited_report items expects (Some round) piece =
    if beq round.1 expects || not (is_last_piece items round.0 (unwrap_or piece 0)) then Some round.0 else None

-- The report of an open round of which a host awaits pieces, by the host's phase: one that isn't ready has polled
-- nothing, and awaits none.
abbrev pub awaited_at : HostPhase → Option (ℕ × Bool) → Option ℕ → Option ℕ
awaited_at (Ready known) round piece = awaited_report (items_of known.layout) known.pipe.expects round piece
awaited_at _ round piece = None

-- The events until a view is the initial one again: what changes, and the motions of a report that is awaited, which
-- are dropped.
abbrev pub release_events : List Item → List ControlState → List ControlState → Option ℕ → List Event
release_events items view parts None = changes_between items view (blank items)
release_events items view parts (Some r) = drops_between items r view (blank items) parts

-- The events of a reset by a ready host: what changes until its view is the initial one again, and the motions of a
-- report that it awaits, which are dropped.
abbrev pub known_release_events : ReadyHostState → Option (ℕ × Bool) → Option ℕ → List ControlState
    → List Event
known_release_events known round piece parts =
    release_events (items_of known.layout) known.view parts
    (awaited_report (items_of known.layout) known.pipe.expects round piece)

-- The events of a reset by a host, with the round that is open at its device, the piece of it that goes out, and the
-- parts that were fixed last. A host that isn't ready reports none.
abbrev pub host_reset_events : HostPhase → Option (ℕ × Bool) → Option ℕ → List ControlState → List Event
host_reset_events (Ready known) round piece parts = known_release_events known round piece parts
host_reset_events _ round piece parts = []

-- The events of a round that is aborted: the motions of a report that is awaited, which are dropped. The view stays.
abbrev pub part_abort_events : List Item → List ControlState → List ControlState → Option ℕ → List Event
part_abort_events items view parts None = []
part_abort_events items view parts (Some r) = drops_between items r view view parts

-- The events of a round that is aborted by a ready host: the motions of a report that it awaits, which are dropped.
abbrev pub known_abort_events : ReadyHostState → Option (ℕ × Bool) → Option ℕ → List ControlState → List Event
known_abort_events known round piece parts =
    part_abort_events (items_of known.layout) known.view parts
    (awaited_report (items_of known.layout) known.pipe.expects round piece)

-- The events of a round that is aborted by a host, with that round as it was open at its device, the piece of it that
-- went out, and the parts that were fixed last. A host that isn't ready reports none.
abbrev pub host_abort_events : HostPhase → Option (ℕ × Bool) → Option ℕ → List ControlState → List Event
host_abort_events (Ready known) round piece parts = known_abort_events known round piece parts
host_abort_events _ round piece parts = []

-- The events of an aborted round whose report a host awaited, with the parts that were fixed last: their motions, which
-- are dropped. A host that isn't ready reports none.
abbrev pub reported_drops : HostPhase → ℕ → List ControlState → List Event
reported_drops (Ready known) report parts =
    drops_between (items_of known.layout) report known.view known.view parts
reported_drops _ report parts = []

-- the round is of an Input report of this layout, and the parts are of its controls
pub record SuitsRound (layout : Contents) (round : Option (ℕ × Bool))
    (parts : List ControlState) : Type 0 where
  pub input : IfSome round (λ it. IsInput layout it.0)
  pub fits : FitsShown (items_of layout) parts
