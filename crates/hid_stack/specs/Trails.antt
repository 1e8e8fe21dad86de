-- The trail of a transfer with a virtual device: where its tries led, and on what the device decided (USB 2.0, 8.5.3).
use Rattle.usb_transact.specs.declared.transaction.Fate.{Fate}
use Rattle.usb_control.specs.Device.{DevControlState}
use Rattle.usb_control.specs.Interleaving.{BothEnds, act_now, decision_now}
use Rattle.usb_control.specs.Transfer.{Act, Decides, Place, place_after_try, start, transfer_shape}
use Rattle.std.specs.Prelude.{Option, Some, None}
use Rattle.hid_device.specs.Core.{CoreState}
use Rattle.hid_device.specs.RequestTable.{core_table}
use Rattle.hid_host.specs.declared.host.Transfer.{Transfer}

-- the place to which the tries of a transfer led, and the device as it stood when the last SETUP arrived
pub record Trail : Type 0 where
  pub place : Place
  pub decider : CoreState

-- The trail before the first try: no SETUP has arrived, so whatever stands for that device counts for nothing.
abbrev pub trail_from : CoreState → Trail
trail_from core = record { place = start; decider = core }

-- the device as it stood when it decided last, after one more act of a try
abbrev pub deciding_state_after : Act → CoreState → CoreState → CoreState
deciding_state_after (Decides decision) core decider = core
deciding_state_after _ core decider = decider

-- both ends of a transfer
abbrev pub ends_of : Transfer → DevControlState CoreState → BothEnds CoreState
ends_of t control = record { host = t.ends; control = control }

-- A try leads on by its fate and by how the device stands, which decides where a SETUP arrives.
abbrev pub trail_after_try : Fate → Transfer → DevControlState CoreState → Trail → Trail
trail_after_try fate t control trail = record {
  place = place_after_try (transfer_shape t.ends.setup) fate
      (decision_now core_table (ends_of t control)) trail.place;
  decider =
      deciding_state_after
      (act_now core_table trail.place fate (ends_of t control)) control.requests trail.decider;
}

-- a control step leads the trail of the transfer that runs on, if one runs
abbrev pub trail_after : Fate → Option Transfer → DevControlState CoreState → Trail → Trail
trail_after fate None control trail = trail
trail_after fate (Some t) control trail = trail_after_try fate t control trail
