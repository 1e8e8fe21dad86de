-- What is seen of a session (our choice).
use Rattle.std.specs.Prelude.{List}
use Rattle.hid_layout.specs.Layout.{Contents}
use Rattle.hid_snapshots.specs.declared.control_state.ControlState.{ControlState}

-- a device's layout, and what a host has read of it
pub record SessionState : Type 0 where
  pub layout : Contents
  pub view : List ControlState
