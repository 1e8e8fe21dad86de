-- Why an interface can't be read (USB 2.0, 5.7.3 and 9.6.6; HID 1.11, 6.2.1).
use Rattle.std.specs.Prelude.{ℕ, nat_lt, ◌==◌, ◌||◌, if◌then◌else◌, List, [], ◌∷◌, ◌++◌, Option, Some, None, is_some}
use Rattle.hid_interfaces.specs.declared.fault.InterfaceFault.{InterfaceFault}
use Rattle.hid_interfaces.specs.declared.fault.InterfaceFault.TheVariants.{SharedNumber, NoReportDescriptor, NoEndpoint, PacketSize, SharedEndpoint}
use Rattle.hid_interfaces.specs.declared.interface.TheConstants.{MAX_PACKET_SIZE}
use Rattle.hid_interfaces.specs.declared.interface.EndpointInfo.{EndpointInfo}
use Rattle.hid_interfaces.specs.declared.interface.InterfaceInfo.{InterfaceInfo}
use Rattle.hid_interfaces.specs.Interfaces.{is_shared, is_taken}

-- Why an endpoint can't be read: wMaxPacketSize is 0 or over 1,024; or an earlier interface that can be read has the
-- endpoint.
abbrev pub endpoint_fault : List InterfaceInfo → EndpointInfo → Option InterfaceFault
endpoint_fault earlier endpoint =
    if (endpoint.packet_size == 0) || nat_lt MAX_PACKET_SIZE endpoint.packet_size then Some PacketSize
    else (if is_shared earlier endpoint.number then Some SharedEndpoint else None)

-- why an interface can't be read, by its endpoint
abbrev pub fault_by_endpoint : List InterfaceInfo → Option EndpointInfo → Option InterfaceFault
fault_by_endpoint earlier None = Some NoEndpoint
fault_by_endpoint earlier (Some endpoint) = endpoint_fault earlier endpoint

-- why an interface can't be read, by the length of its report descriptor and its endpoint
abbrev pub fault_by_length : List InterfaceInfo → Option ℕ → Option EndpointInfo → Option InterfaceFault
fault_by_length earlier None endpoint = Some NoReportDescriptor
fault_by_length earlier (Some len) endpoint =
    if len == 0 then Some NoReportDescriptor else fault_by_endpoint earlier endpoint

-- Why an interface can't be read, beside the earlier ones that can be: one of them has its number; no report descriptor, or
-- an empty one; no endpoint; a packet size that no endpoint has; or an endpoint that one of them has.
abbrev pub interface_fault : List InterfaceInfo → InterfaceInfo → Option InterfaceFault
interface_fault earlier info =
    if is_taken earlier info.number then Some SharedNumber else fault_by_length earlier info.report_length info.endpoint

-- The interfaces that can be read, with the next one where that can: one that can't takes no number and no endpoint.
abbrev pub readable_with : List InterfaceInfo → InterfaceInfo → List InterfaceInfo
readable_with earlier info = if is_some (interface_fault earlier info) then earlier else earlier ++ info ∷ []
