-- What endpoint 0 ends as, where what answers its requests is borrowed (our choice).
use Rattle.std.specs.Borrow.{Lends, Fml, RattleType, MutBor}
use Rattle.usb_control.specs.contracts.device.DevControl.{the_row}
use Rattle.usb_control.specs.Device.{DevControlState}

module _ (R : RattleType) (c : MutBor (DevControlState R.Denot)) where
  -- once the borrow r ends, what answers requests is the last value written through r
  abbrev pub lends_requests : MutBor R.Denot → Fml
  lends_requests r = Lends (the_row R) R c r (λ w. record c.now { requests = w })
