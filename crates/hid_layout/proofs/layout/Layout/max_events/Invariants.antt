use Rattle.std.proofs.Common.{◌≡◌, ◌≤◌, ◌*◌, ◌^◌, take}
use Rattle.hid_layout.specs.Controls.{items_of, max_events}
use Rattle.hid_layout.proofs.layout.Layout.max_events.Given as goal

-- the events of the items so far
abbrev pub invariant-loop-i : goal.invariant-loop-i
invariant-loop-i l = record { so_far : l.events ≡ max_events (take l.i (items_of l.fn.self)); small : l.events ≤ 2 ^ 33 * l.i }
