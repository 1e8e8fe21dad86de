-- What a host has read of a device, and what reading one report makes of it (HID 1.11, 5.6 and 8).
use Rattle.std.specs.Prelude.{◌≡◌, ℕ, List, length, Result, Ok, Err}
use Rattle.hid_layout.specs.Layout.{Contents}
use Rattle.hid_snapshots.specs.declared.control_state.ControlState.{ControlState}
use Rattle.hid_usages.specs.Reading.{report_named}
use Rattle.hid_usages.specs.Taking.{read_view, read_events}
use Rattle.hid_bench.specs.declared.fault.BenchFault.{BenchFault}

-- a device's layout, and what a host has read of it
pub record Seen : Type 0 where
  pub layout : Contents
  pub view : List ControlState

-- A report is read and n events are reported, or it is refused and nothing changes.
abbrev pub Reads : Seen → List ℕ → Result ℕ BenchFault → Seen → Type 0
Reads seen bytes (Ok told) seen' =
    (r : ℕ) × (report_named seen.layout bytes ≡ Ok r) × (seen'.layout ≡ seen.layout)
    × (seen'.view ≡ read_view seen.layout r bytes seen.view)
    × (told ≡ length (read_events seen.layout r bytes seen.view))
Reads seen bytes (Err fault) seen' = seen' ≡ seen
