-- What the lines of a script are read into: devices, and what is done at them (our choice: docs/USBIP.md).
use Rattle.std.specs.Prelude.{◌≡◌, ◌⊎◌, ℕ, ◌+◌, ◌-◌, ◌<◌, ◌≤◌, ◌==◌, ◌||◌, nat_lt, if◌then◌else◌, false, List, [], ◌∷◌, ◌++◌, length, slice_get, Option, Some, None, Result, Ok, Err}
use Rattle.hid_layout.specs.declared.control.ControlId.{ControlId}
use Rattle.hid_report_descriptor.specs.declared.usage.Usage.{Usage}
use Rattle.hid_snapshots.specs.declared.change.Change.{Change as OneChange}
use Rattle.hid_snapshots.specs.declared.change.Change.TheVariants as changes
use Rattle.hid_snapshots.specs.declared.fault.ChangeFault.TheVariants.{NoSuchControl}
use Rattle.hid_requests.specs.declared.boot.Boot.{Boot}
use Rattle.hid_requests.specs.declared.fault.DeviceFault.{DeviceFault}
use Rattle.hid_device.specs.declared.config.Config.{Config}
use Rattle.hid_gadget.specs.Gadgets.{FindsControl, MakesGadget}
use Rattle.hid_text.specs.declared.fault.LineFault.{LineFault}
use Rattle.hid_text.specs.declared.line.Line.{Line as TheLine}
use Rattle.hid_text.specs.declared.line.Line.TheVariants as lines_of
use Rattle.hid_text.specs.declared.short.ShortLine.{ShortLine}
use Rattle.hid_text.specs.declared.short.ShortLine.TheVariants as short
use Rattle.hid_text.specs.Line.{meaning_of}
use Rattle.usbip_export.specs.declared.description.TheConstants.{MAX_DEVICES}
use Rattle.usbip_export.specs.declared.exported_device.ExportedDevice.{ExportedDevice}
use Rattle.usbip_serving.specs.declared.action.Action.{Action}
use Rattle.usbip_serving.specs.declared.action.Action.TheVariants as actions
use Rattle.usbip_script.specs.declared.fault.LineCause.{LineCause}
use Rattle.usbip_script.specs.declared.fault.LineCause.TheVariants.{Text, NoDevice, Change, Device, TooManyDevices, NotServed}
use Rattle.usbip_script.specs.declared.script.Script.{Script}

-- What was read of a script: its devices, what is done at them, and of each action the line that it stands on.
pub record Read : Type 0 where
  pub devices : List ExportedDevice
  pub actions : List Action
  pub lines : List ℕ

-- what was read of a script, of its lists
abbrev pub read_of : Script → Read
read_of script = record { devices = script.devices.items; actions = script.actions.items; lines = script.lines.items }

-- nothing was read yet
abbrev pub nothing_read : Read
nothing_read = record { devices = []; actions = []; lines = [] }

-- ---- devices and controls that are named

-- the place of a device of so many, by its number
abbrev pub place_of : ℕ → ℕ → Result ℕ LineCause
place_of count dev = if (dev == 0) || nat_lt count dev then Err NoDevice else Ok (dev - 1)

-- the least control of this device with a usage, or that there is none
abbrev pub FindsIn : ℕ → Usage → Option ExportedDevice → Result (ℕ × ControlId) LineCause → Type 0
FindsIn place usage None result = ⊥
FindsIn place usage (Some d) (Ok found) =
    (found.0 ≡ place) × FindsControl d.gadget.layout usage (Some found.1)
FindsIn place usage (Some d) (Err cause) =
    (cause ≡ Change NoSuchControl) × FindsControl d.gadget.layout usage None

-- the least control with a usage of the device at a place, if there is such a place
abbrev pub FindsAt : List ExportedDevice → Usage → Result ℕ LineCause → Result (ℕ × ControlId) LineCause → Type 0
FindsAt ds usage (Ok place) result = FindsIn place usage (slice_get ds place) result
FindsAt ds usage (Err cause) result = result ≡ Err cause

-- the least control with a usage of the device of a number
abbrev pub Finds : List ExportedDevice → ℕ → Usage → Result (ℕ × ControlId) LineCause → Type 0
Finds ds dev usage result = FindsAt ds usage (place_of (length ds) dev) result

-- ---- what a line does

-- what is done to a control that was found
abbrev pub change_found : (ControlId → OneChange) → Result (ℕ × ControlId) LineCause → Result Action LineCause
change_found change (Ok found) = Ok (actions.Change found.0 (change found.1))
change_found change (Err cause) = Err cause

-- the control of a device that is named changes, or there is none
abbrev pub Changes : List ExportedDevice → ℕ → Usage → (ControlId → OneChange) → Result Action LineCause → Type 0
Changes ds dev usage change result =
    (found : Result (ℕ × ControlId) LineCause) × Finds ds dev usage found × (result ≡ change_found change found)

-- what is done at a device that is named
abbrev pub done_at : (ℕ → Action) → Result ℕ LineCause → Result Action LineCause
done_at action (Ok place) = Ok (action place)
done_at action (Err cause) = Err cause

-- What a line does at devices that are served. A poll and a try of a transfer are done by their host, so they are refused.
abbrev pub Does : List ExportedDevice → ShortLine → Result Action LineCause → Type 0
Does ds (short.Press dev usage) result = Changes ds dev usage changes.Press result
Does ds (short.Release dev usage) result = Changes ds dev usage changes.Release result
Does ds (short.Null dev usage) result = Changes ds dev usage changes.Null result
Does ds (short.Set dev usage value) result = Changes ds dev usage (λ control. changes.Set control value) result
Does ds (short.Move dev usage by) result = Changes ds dev usage (λ control. changes.Move control by) result
Does ds (short.Frame count) result = result ≡ Ok (actions.Frames count)
Does ds (short.Halt dev) result = result ≡ done_at actions.Halt (place_of (length ds) dev)
Does ds (short.Reset dev) result = result ≡ done_at actions.Reset (place_of (length ds) dev)
Does ds (short.Poll dev fate count) result = result ≡ Err NotServed
Does ds (short.Control dev fate count) result = result ≡ Err NotServed

-- ---- devices

-- what the standard descriptors of a script's devices say (our choice)
abbrev pub config_of : Boot → Config
config_of boot = record { vendor = 0xFFFF; product = 0x0001; interval = 10; boot = boot }

-- A device of a script: it has this report descriptor, nobody has it yet, and nothing is asked of it.
pub record IsDevice (boot : Boot) (descriptor : List ℕ) (d : ExportedDevice) : Type 0 where
  pub config : d.config ≡ config_of boot
  pub gadget : MakesGadget (config_of boot) descriptor (Ok d.gadget)
  pub free : d.imported ≡ false
  pub quiet : d.pending ≡ []

-- why there is no device more: there are seven, or it can't be served
abbrev pub IsNoDevice : Read → Boot → List ℕ → LineCause → Type 0
IsNoDevice r boot descriptor cause =
    ((MAX_DEVICES ≤ length r.devices) × (cause ≡ TooManyDevices))
    ⊎ ((fault : DeviceFault) × (length r.devices < MAX_DEVICES) × (cause ≡ Device fault)
    × MakesGadget (config_of boot) descriptor (Err fault))

-- what a device line gives
abbrev pub Attaches : Read → Boot → List ℕ → Result Read LineCause → Type 0
Attaches r boot descriptor (Ok after) =
    (length r.devices < MAX_DEVICES) × ((d : ExportedDevice) × IsDevice boot descriptor d
    × (after ≡ record r { devices = r.devices ++ d ∷ [] }))
Attaches r boot descriptor (Err cause) = IsNoDevice r boot descriptor cause

-- ---- lines

-- an action is added, or its line is refused
abbrev pub with_action : Read → ℕ → Result Action LineCause → Result Read LineCause
with_action r number (Ok action) = Ok (record r { actions = r.actions ++ action ∷ []; lines = r.lines ++ number ∷ [] })
with_action r number (Err cause) = Err cause

-- What a line of this number gives, after what was read before it. Layouts and values are printed, and requests are begun by the
-- host, so they are refused.
abbrev pub Gives : Read → ℕ → TheLine → Result Read LineCause → Type 0
Gives r number lines_of.Nothing result = result ≡ Ok r
Gives r number (lines_of.Layout bytes) result = result ≡ Err NotServed
Gives r number (lines_of.Values bytes) result = result ≡ Err NotServed
Gives r number (lines_of.Device start boot bytes) result = Attaches r boot bytes.items result
Gives r number (lines_of.Begin dev request) result = result ≡ Err NotServed
Gives r number (lines_of.Step line) result =
    (said : Result Action LineCause) × Does r.devices line said × (result ≡ with_action r number said)

-- what comes of what a line says, or that it says nothing
abbrev pub MeaningGives : Read → ℕ → Result TheLine LineFault → Result Read LineCause → Type 0
MeaningGives r number (Ok line) result = Gives r number line result
MeaningGives r number (Err fault) result = result ≡ Err (Text fault)

-- What a line of these bytes gives, by its number, after what was read before it. Example: press 1 07:04 gives an action, if
-- device 1 has that key
abbrev pub LineGives : Read → ℕ → List ℕ → Result Read LineCause → Type 0
LineGives r number line result = MeaningGives r number (meaning_of line) result

-- All lines are read, the first of them with this number.
abbrev pub AllGive : Read → ℕ → List (List ℕ) → Read → Type 0
AllGive r number [] after = after ≡ r
AllGive r number (line ∷ more) after =
    (next : Read) × LineGives r number line (Ok next) × AllGive next (number + 1) more after

-- A line is refused, and all lines before it are read.
abbrev pub IsRefusedAt : Read → ℕ → List (List ℕ) → ℕ → LineCause → Type 0
IsRefusedAt r number [] at cause = ⊥
IsRefusedAt r number (line ∷ more) at cause =
    ((at ≡ number) × LineGives r number line (Err cause))
    ⊎ ((next : Read) × LineGives r number line (Ok next) × IsRefusedAt next (number + 1) more at cause)
