-- The codes of the refusals, as they are printed (our choice).
use Rattle.std.specs.Prelude.{ℕ, List, codes}
use Rattle.hid_interfaces.specs.declared.fault.ConfigurationFault.{ConfigurationFault}
use Rattle.hid_interfaces.specs.declared.fault.ConfigurationFault.TheVariants.{TooShort, WrongType, TotalLength, NoDescriptors, NoNumber, NoHidInterface, Memory}
use Rattle.hid_interfaces.specs.declared.fault.InterfaceFault.{InterfaceFault}
use Rattle.hid_interfaces.specs.declared.fault.InterfaceFault.TheVariants.{SharedNumber, NoReportDescriptor, NoEndpoint, PacketSize, SharedEndpoint}

-- the code of a configuration that is refused
abbrev pub configuration_code_of : ConfigurationFault → List ℕ
configuration_code_of TooShort = codes "B1"
configuration_code_of WrongType = codes "B2"
configuration_code_of TotalLength = codes "B7"
configuration_code_of NoDescriptors = codes "B11"
configuration_code_of NoNumber = codes "B12"
configuration_code_of NoHidInterface = codes "B3"
configuration_code_of Memory = codes "B10"

-- the code of an interface that is refused
abbrev pub interface_code_of : InterfaceFault → List ℕ
interface_code_of SharedNumber = codes "B13"
interface_code_of NoReportDescriptor = codes "B4"
interface_code_of NoEndpoint = codes "B5"
interface_code_of PacketSize = codes "B8"
interface_code_of SharedEndpoint = codes "B9"
