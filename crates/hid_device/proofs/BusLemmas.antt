-- A device's layout is one of the bus.
use Rattle.std.proofs.Common.{ℕ, List, ◌≤◌, sym, subst}
use Rattle.hid_report_descriptor.specs.declared.limits.Limits.TheVariants.{Bus}
use Rattle.hid_layout.specs.Layout.{Contents}
use Rattle.hid_layout.specs.Parsing.{ParsesTo}
use Rattle.hid_layout.specs.Reports.{IsOfBus, report_bytes}
use Rattle.hid_layout.proofs.WellFormed.{accepted_keeps}
use Rattle.hid_device.specs.Core.{CoreState, IsSound}

pub of_bus : (descriptor : List ℕ) (layout : Contents) → ParsesTo descriptor layout → IsOfBus layout
of_bus descriptor layout lays = subst IsOfBus (sym lays.laid) (accepted_keeps Bus descriptor lays.items lays.accepted)

-- its reports have room in the buffers
pub short_report : (core : CoreState) (r : ℕ) → IsSound core → report_bytes core.layout r ≤ 256
short_report core r sound = of_bus core.descriptor core.layout sound.lays r
