-- What came of a control transfer as a record of numbers (our choice).
use Rattle.std.specs.Prelude.{ℕ}
use Rattle.hid_driver.specs.declared.fault.DriverFault.{DriverFault}
use Rattle.hid_driver.specs.declared.state.Moved.{Moved}
use Rattle.hid_driver.specs.declared.state.Moved.TheVariants.{Onward, Live, Refused, Cleared, Stopped, Answered}
use Rattle.hidstack_host.specs.declared.moved.HidMoved.{HidMoved}
use Rattle.hidstack_host.specs.declared.moved.TheConstants.{MOVE_ONWARD, MOVE_LIVE, MOVE_REFUSED, MOVE_CLEARED, MOVE_STOPPED, MOVE_ANSWERED}
use Rattle.hidstack_host.specs.Causes.{detail_number, fault_number}

-- the record of a step of the interface at a place
abbrev pub move_record : ℕ → ℕ → HidMoved
move_record step place = record { interface = place; step = step; cause = 0; detail = 0; spare = 0 }

-- the record of what a request led to: the step as a number, and the place of the interface that it is of
abbrev pub moved_record : Moved → HidMoved
moved_record Onward = move_record MOVE_ONWARD 0
moved_record (Live place) = move_record MOVE_LIVE place
moved_record (Refused place) = move_record MOVE_REFUSED place
moved_record (Cleared place) = move_record MOVE_CLEARED place
moved_record (Stopped place) = move_record MOVE_STOPPED place
moved_record Answered = move_record MOVE_ANSWERED 0

-- the record of a refusal: the numbers of its codes
abbrev pub refused_record : DriverFault → HidMoved
refused_record fault = record {
  interface = 0;
  step = 0;
  cause = fault_number fault;
  detail = detail_number fault;
  spare = 0;
}
