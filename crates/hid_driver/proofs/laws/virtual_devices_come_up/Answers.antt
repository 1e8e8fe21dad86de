use Rattle.hid_report_descriptor.specs.declared.limits.Limits.TheVariants.{Real}
use Rattle.hid_driver.proofs.VirtualDeviceLemmas.{six_moves}
use Rattle.hid_driver.proofs.laws.virtual_devices_come_up.Goals as goal

pub returns : goal.returns
returns c device layout after fits_info fits some any len parses moves =
    six_moves device layout parses.items after (c.one_reading.ensures Real) (c.accepted_or_refused.ensures Real)
    (c.real_accepts_bus.ensures device.descriptor parses.items parses.accepted) parses.laid fits_info fits some any len moves
