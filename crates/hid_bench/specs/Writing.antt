-- What is written of a device: the parts that one of its reports shows (HID 1.11, 5.6 and 8).
use Rattle.std.specs.Prelude.{ℕ, List}
use Rattle.hid_layout.specs.Layout.{Contents}
use Rattle.hid_snapshots.specs.declared.control_state.ControlState.{ControlState}

-- a device's layout, one of its Input reports, and the parts that its reports show
pub record Part : Type 0 where
  pub layout : Contents
  pub report : ℕ
  pub shown : List ControlState
