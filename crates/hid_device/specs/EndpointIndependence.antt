-- Endpoint 0 and polls of a device leave each other's state unchanged (USB 2.0, 8.5.3, 8.5.4, 9.1.1.5 and 9.4.5; HID
-- 1.11, 7.2).
use Rattle.std.specs.Prelude.{◌≡◌, Bool, true, false}
use Rattle.usb_control.specs.Device.{Effect, Applies}
use Rattle.hid_device.specs.declared.decisions.PendingWrite.{PendingWrite}
use Rattle.hid_device.specs.declared.decisions.PendingWrite.TheVariants.{Configure, Halt, Clear}
use Rattle.hid_bus.specs.ReportState.{with_idle}
use Rattle.hid_device.specs.Core.{CoreState, cleared_core, halted_core}
use Rattle.hid_device.specs.Device.{DeviceState, core_of, with_core}

-- whether what is carried out configures the device
abbrev pub effect_sets_configuration : Effect → PendingWrite → Bool
effect_sets_configuration (Applies bytes) Configure = true
effect_sets_configuration _ _ = false

-- whether what is carried out ends an open round: a halt, or the end of one
abbrev pub effect_aborts_round : Effect → PendingWrite → Bool
effect_aborts_round (Applies bytes) Halt = true
effect_aborts_round (Applies bytes) Clear = true
effect_aborts_round _ _ = false

-- the core of a device after a halt, or the end of one, is carried out
abbrev pub core_after_abort : CoreState → PendingWrite → CoreState
core_after_abort core Halt = halted_core core
core_after_abort core Clear = cleared_core core
core_after_abort core _ = core

-- What polls go by stays: the snapshot, the parts last fixed, the frames that were counted, which rounds were
-- aborted, the open round and its piece, the toggle, and whether the device is configured and its endpoint halted.
-- What requests set, and the request itself, may be others.
abbrev pub LeavesRounds : CoreState → CoreState → Type 0
LeavesRounds old new =
    new ≡ record old {
      reports = with_idle new.reports.idle old.reports;
      protocol = new.protocol;
      outputs = new.outputs;
      answer = new.answer;
      pending = new.pending;
    }

-- What requests go by stays: the idle times, the protocol, the Output and Feature reports, whether the device is
-- configured and its endpoint halted, the answer that was fixed, and what is to be carried out.
abbrev pub LeavesRequests : CoreState → CoreState → Type 0
LeavesRequests old new =
    new ≡ record old {
      reports = with_idle old.reports.idle new.reports;
      current = new.current;
      piece = new.piece;
      toggle = new.toggle;
    }

-- what requests go by stays, and so do the device's address and the stage of endpoint 0
pub record LeavesEndpoint (old new : DeviceState) : Type 0 where
  pub address : new.addr ≡ old.addr
  pub stage : new.control.stage ≡ old.control.stage
  pub requests : LeavesRequests (core_of old) (core_of new)

-- the device with its endpoint halted or not, and all else as it is
abbrev pub with_halt : DeviceState → Bool → DeviceState
with_halt d halted = with_core d (record (core_of d) { halted = halted })

-- what requests go by stays, the stage of endpoint 0, and what is waited for: the data of a token to endpoint 0, or the
-- host's ACK
pub record LeavesWaits (old new : DeviceState) : Type 0 where
  pub endpoint : LeavesEndpoint old new
  pub last_packet : new.control.last_packet ≡ old.control.last_packet
  pub awaits_ack : new.awaits_ack ≡ old.awaits_ack
