-- The codes of the refusals, as they are printed (our choice).
use Rattle.std.specs.Prelude.{ℕ, List, codes}
use Rattle.usb_control.specs.declared.fault.ControlFault.{ControlFault}
use Rattle.usb_control.specs.declared.fault.ControlFault.TheVariants.{Stalled, BusFault, Overrun, NoTransfer, Busy, Memory}
use Rattle.usb_control.specs.declared.fault.InfoFault.{InfoFault}
use Rattle.usb_control.specs.declared.fault.InfoFault.TheVariants.{TooShort, WrongType, NoHidInterface, NoReportDescriptor, NoEndpoint}

-- The code of a transfer that fails or is refused: C1 to C6. Example: BusFault is C2
abbrev pub control_code_of : ControlFault → List ℕ
control_code_of Stalled = codes "C1"
control_code_of BusFault = codes "C2"
control_code_of Overrun = codes "C3"
control_code_of NoTransfer = codes "C4"
control_code_of Busy = codes "C5"
control_code_of Memory = codes "C6"

-- The code of descriptors that are refused: B1 to B5.
abbrev pub info_code_of : InfoFault → List ℕ
info_code_of TooShort = codes "B1"
info_code_of WrongType = codes "B2"
info_code_of NoHidInterface = codes "B3"
info_code_of NoReportDescriptor = codes "B4"
info_code_of NoEndpoint = codes "B5"
