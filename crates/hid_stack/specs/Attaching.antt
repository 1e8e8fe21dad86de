-- Which devices can be attached, and what is found of those that are (our choice).
use Rattle.std.specs.Prelude.{◌≡◌, ◌⊎◌, ℕ, ◌<◌, ◌≤◌, ◌+◌, Bool, true, false, if◌then◌else◌, List, [], ◌∷◌, ◌++◌, length, Some, None, Result, Ok, Err}
use Rattle.hid_layout.specs.declared.control.ControlId.{ControlId}
use Rattle.hid_report_descriptor.specs.declared.limits.TheConstants.{MAX_DESCRIPTOR}
use Rattle.hid_report_descriptor.specs.declared.usage.Usage.{Usage}
use Rattle.hid_report_descriptor.specs.Faults.{is_memory}
use Rattle.hid_layout.specs.Controls.{items_of}
use Rattle.hid_layout.specs.Finding.{control_usage}
use Rattle.hid_layout.specs.Layout.{Contents}
use Rattle.hid_snapshots.specs.declared.fault.ChangeFault.TheVariants.{NoSuchControl}
use Rattle.hid_device.specs.declared.config.Config.{Config}
use Rattle.hid_requests.specs.declared.fault.DeviceCause.{DeviceCause}
use Rattle.hid_requests.specs.declared.fault.DeviceCause.TheVariants as causes
use Rattle.hid_requests.specs.declared.fault.DeviceFault.{DeviceFault}
use Rattle.hid_device.specs.Config.{is_config}
use Rattle.hid_device.specs.Creation.{CanServe}
use Rattle.hid_device.specs.Creation as making
use Rattle.hid_host.specs.declared.fault.StackFault.{StackFault}
use Rattle.hid_host.specs.declared.fault.StackFault.TheVariants.{NoDevice, Refused, BadDescriptor, TooManyDevices, Memory}
use Rattle.hid_host.specs.declared.fault.DescriptorFault.TheVariants.{Device}
use Rattle.hid_bus.specs.declared.start.Start.{Start}
use Rattle.hid_bus.specs.declared.start.Start.TheVariants as starts
use Rattle.hid_stack.specs.Members.{Member, cold_member, fresh_member}
use Rattle.hid_stack.specs.Rig.{member_at}

-- a device of this configuration can have this address and this layout
pub record CanAttach (addr : ℕ) (config : Config) (descriptor : List ℕ) (layout : Contents) : Type 0 where
  pub config_fits : is_config addr config descriptor ≡ true
  pub serves : CanServe descriptor layout

-- running out of memory is not the descriptor's fault
abbrev pub is_out_of_memory : DeviceCause → Bool
is_out_of_memory causes.BadConfig = false
is_out_of_memory (causes.Layout cause) = is_memory cause
is_out_of_memory causes.NoEmptyCode = false
is_out_of_memory causes.RelativeWithoutZero = false
is_out_of_memory causes.Memory = true

-- How a bus reports a device's fault: running out of memory is the bus's, and each other cause the descriptor's.
abbrev pub device_refusal : DeviceFault → StackFault
device_refusal fault = if is_out_of_memory fault.cause then Memory else BadDescriptor (Device fault)

-- why there is no device, and no host for it: the device is refused, or its address and configuration fit, its
-- descriptor isn't too long, and memory ran out
abbrev pub IsAttachFault : ℕ → Config → List ℕ → StackFault → Type 0
IsAttachFault addr config descriptor (BadDescriptor (Device fault)) =
    making.Refuses addr config descriptor fault.cause fault.at × (is_out_of_memory fault.cause ≡ false)
IsAttachFault addr config descriptor Memory =
    (is_config addr config descriptor ≡ true) × (length descriptor ≤ MAX_DESCRIPTOR)
IsAttachFault addr config descriptor _ = ⊥

-- how a device and its host begin: freshly configured, or cold
abbrev pub member_at_start : Start → ℕ → Config → List ℕ → Contents → Member
member_at_start starts.Ready addr config descriptor layout = fresh_member addr config descriptor layout
member_at_start starts.Cold addr config descriptor layout = cold_member addr config descriptor layout

-- Attaching where this many devices have room: the next number is the new device's address.
abbrev pub Attaches : ℕ → Config → List ℕ → Start → List Member → Result ℕ StackFault → List Member → Type 0
Attaches room config descriptor start old (Ok dev) new =
    (length old < room) × (dev ≡ length old + 1)
    × ((layout : Contents) × CanAttach dev config descriptor layout
    × (new ≡ old ++ member_at_start start dev config descriptor layout ∷ []))
Attaches room config descriptor start old (Err TooManyDevices) new = (room ≤ length old) × (new ≡ old)
Attaches room config descriptor start old (Err fault) new =
    (length old < room) × IsAttachFault (length old + 1) config descriptor fault × (new ≡ old)

-- A device that was attached has the next number, begins under it with a layout that suits it, and the others stand as
-- they did. Example: the first is number 1
pub record IsAttached (config : Config) (descriptor : List ℕ) (start : Start) (old : List Member) (dev : ℕ)
    (new : List Member) : Type 0 where
  pub number : dev ≡ length old + 1
  pub layout : Contents
  pub suits : CanAttach dev config descriptor layout
  pub begins : member_at new dev ≡ Some (member_at_start start dev config descriptor layout)
  pub others : (d : ℕ) (m : Member) → member_at old d ≡ Some m → member_at new d ≡ Some m

-- the first of two places
abbrev pub IsBefore : ControlId → ControlId → Type 0
IsBefore d c = (d.item < c.item) ⊎ ((d.item ≡ c.item) × (d.index < c.index))

-- the least control of a device with a usage
pub record IsLeast (layout : Contents) (usage : Usage) (c : ControlId) : Type 0 where
  pub has_usage : control_usage (items_of layout) c ≡ Some usage
  pub none_before : (d : ControlId) → IsBefore d c → control_usage (items_of layout) d ≡ Some usage → ⊥

-- Finding a control of a device by its usage.
abbrev pub Finds : List Member → ℕ → Usage → Result ControlId StackFault → Type 0
Finds members dev usage (Ok c) = (m : Member) × (member_at members dev ≡ Some m) × IsLeast m.layout usage c
Finds members dev usage (Err NoDevice) = member_at members dev ≡ None
Finds members dev usage (Err (Refused NoSuchControl)) =
    (m : Member) × (member_at members dev ≡ Some m)
    × ((d : ControlId) → control_usage (items_of m.layout) d ≡ Some usage → ⊥)
Finds members dev usage (Err fault) = ⊥
