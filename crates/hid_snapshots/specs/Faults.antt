-- What refusals are printed as (our choice).
use Rattle.std.specs.Prelude.{ℕ, List, codes}
use Rattle.hid_snapshots.specs.declared.fault.ChangeFault.{ChangeFault}
use Rattle.hid_snapshots.specs.declared.fault.ChangeFault.TheVariants.{NoSuchControl, WrongKind, OutOfRange, NoNull, NoDirection, MotionFull, ArrayFull}
use Rattle.hid_snapshots.specs.declared.fault.ReportFault.{ReportFault}
use Rattle.hid_snapshots.specs.declared.fault.ReportFault.TheVariants.{Short, UnknownReport}

-- the code of a change that is refused
abbrev pub change_code : ChangeFault → List ℕ
change_code NoSuchControl = codes "U1"
change_code WrongKind = codes "U2"
change_code OutOfRange = codes "U3"
change_code NoNull = codes "U4"
change_code NoDirection = codes "U5"
change_code MotionFull = codes "U6"
change_code ArrayFull = codes "U7"

-- the code of a report that is refused
abbrev pub report_code : ReportFault → List ℕ
report_code Short = codes "U8"
report_code UnknownReport = codes "U9"

-- the code of being out of memory
abbrev pub memory_code : List ℕ
memory_code = codes "U10"
