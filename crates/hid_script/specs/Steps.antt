-- The outcomes of the parts of a script: layouts, values, devices, and steps of the bus (our choice: docs/SCRIPT.md).
use Rattle.std.specs.Prelude.{◌≡◌, ◌≢◌, ◌⊎◌, ◌∷◌, ◌++◌, ℕ, ◌+◌, ◌-◌, ◌^◌, min, List, [], length, if◌then◌else◌, Option, None, Some, Result, Ok, Err}
use Rattle.hid_report_descriptor.specs.Items.{EncodedItem}
use Rattle.hid_layout.specs.Layout.{Contents, layout_of}
use Rattle.hid_report_descriptor.specs.Bus.{Accepts, Refuses}
use Rattle.hid_report_descriptor.specs.declared.fault.LayoutFault.{LayoutFault}
use Rattle.hid_report_descriptor.specs.declared.usage.Usage.{Usage}
use Rattle.hid_layout.specs.declared.control.ControlId.{ControlId}
use Rattle.hid_snapshots.specs.declared.fault.ReportFault.{ReportFault}
use Rattle.hid_snapshots.specs.declared.change.Change.{Change as OneChange}
use Rattle.hid_snapshots.specs.declared.change.Change.TheVariants as changes
use Rattle.hid_usages.specs.Reading.{report_named}
use Rattle.hid_requests.specs.declared.boot.Boot.{Boot}
use Rattle.hid_bus.specs.declared.start.Start.{Start}
use Rattle.hid_device.specs.declared.config.Config.{Config}
use Rattle.hid_host.specs.declared.fault.StackFault.{StackFault}
use Rattle.hid_bus.specs.declared.step.Step.{Step}
use Rattle.hid_bus.specs.declared.step.Step.TheVariants.{Change, Control}
use Rattle.hid_bus.specs.declared.step.Told.{Told}
use Rattle.hid_stack.specs.Members.{Member}
use Rattle.hid_stack.specs.Rig.{member_at, refusal, bus_after, deliveries_of_step}
use Rattle.hid_stack.specs.StepResult.{StepReturns}
use Rattle.hid_stack.specs.declared.rig.TheConstants.{MAX_DEVICES}
use Rattle.hid_host.specs.declared.fault.StackFault.TheVariants as stack
use Rattle.hid_stack.specs.Attaching.{Attaches, Finds, member_at_start}
use Rattle.usb_control.specs.declared.host.HostStage.{HostStage}
use Rattle.usb_control.specs.declared.host.HostStage.TheVariants.{Done}
use Rattle.hid_host.specs.declared.host.Transfer.{Transfer}
use Rattle.hid_host.specs.Host.{read_bytes_of}
use Rattle.hid_script.specs.declared.fault.Cause.TheVariants as causes
use Rattle.hid_script.specs.declared.fault.StepFault.TheVariants as faults
use Rattle.hid_text.specs.declared.change_kind.ChangeKind.{ChangeKind}
use Rattle.hid_text.specs.declared.change_kind.ChangeKind.TheVariants.{Press, Release, Null, Set, Move}
use Rattle.hid_text.specs.LayoutText.{layout_text}
use Rattle.hid_text.specs.ValuesText.{values_text}
use Rattle.hid_text.specs.StepText.{step_text}
use Rattle.hid_script.specs.Session.{Session, Outcome, success, failure}

-- ---- layout and values

-- a layout that is accepted is printed, and stands from then on
abbrev pub lays_out : Session → Contents → Outcome
lays_out session layout = success (layout_text layout) (record session { layout = Some layout })

-- the outcome of a descriptor that is refused
abbrev pub refuses_layout : LayoutFault → Outcome
refuses_layout fault = failure (causes.Step (faults.Layout fault))

-- a layout line prints the layout of its descriptor, if this is accepted, or fails with the cause of its refusal
abbrev pub LayoutPrints : List ℕ → Session → Outcome → Type 0
LayoutPrints bytes session o =
    ((items : List EncodedItem) × (Accepts bytes items × (o ≡ lays_out session (layout_of items))))
    ⊎ ((fault : LayoutFault) × (Refuses bytes fault.cause fault.at × (o ≡ refuses_layout fault)))

-- the values of a report, or why the bytes are none
abbrev pub read_report : Session → Contents → List ℕ → Result ℕ ReportFault → Outcome
read_report session layout bytes (Ok r) = success (values_text layout r bytes) session
read_report session layout bytes (Err fault) = failure (causes.Step (faults.Report fault))

-- the values of an Input report of the layout that stands
abbrev pub values_outcome : Session → List ℕ → Option Contents → Outcome
values_outcome session bytes None = failure causes.NoLayout
values_outcome session bytes (Some layout) = read_report session layout bytes (report_named layout bytes)

-- the outcome of a line of values, by the layout that stands
abbrev pub ValuesPrint : List ℕ → Session → Outcome → Type 0
ValuesPrint bytes session o = o ≡ values_outcome session bytes session.layout

-- ---- devices

-- what the standard descriptors of a script's devices say (our choice)
abbrev pub config_of : Boot → Config
config_of boot = record { vendor = 0xFFFF; product = 0x0001; interval = 10; boot = boot }

-- what the stack refuses
abbrev pub refuses_step : StackFault → Outcome
refuses_step fault = failure (causes.Step (faults.Stack fault))

-- a device is attached, and its layout is printed where layouts are asked for
abbrev pub attaches : Session → Contents → List Member → Outcome
attaches session layout members =
    success (if session.options.layout then layout_text layout else []) (record session { members = members })

-- The next number is the device's, and its descriptor suits; or there is no such device, and running out of memory is
-- no reason.
abbrev pub DevicePrints : Start → Boot → List ℕ → Session → Outcome → Type 0
DevicePrints start boot bytes session o =
    ((dev : ℕ) × (layout : Contents) × (after : List Member)
    × Attaches MAX_DEVICES (config_of boot) bytes start session.members (Ok dev) after
    × (after ≡ session.members ++ member_at_start start dev (config_of boot) bytes layout ∷ [])
    × (o ≡ attaches session layout after))
    ⊎ ((fault : StackFault) × (after : List Member)
    × Attaches MAX_DEVICES (config_of boot) bytes start session.members (Err fault) after
    × (fault ≢ stack.Memory) × (o ≡ refuses_step fault))

-- ---- steps of the bus

-- a count stops at the greatest number of 64 bits
abbrev pub saturating_sum : ℕ → ℕ → ℕ
saturating_sum events more = min (events + more) (2 ^ 64 - 1)

-- the bytes of a transfer that is done, where it reads
abbrev pub done_bytes : HostStage → List ℕ → List ℕ
done_bytes Done bytes = bytes
done_bytes stage bytes = []

-- the bytes of the read that a host began last, if it is done
abbrev pub last_bytes : Option Transfer → List ℕ
last_bytes None = []
last_bytes (Some transfer) = done_bytes transfer.ends.stage (read_bytes_of transfer.ends)

-- the bytes of a read that a step ended, by the bus after it; none where it ended no read
unfoldable pub finished_read : List Member → Step → List ℕ
finished_read members (Control dev fate) =
    elim (member_at members dev) [ None ↦ [] | Some m ↦ last_bytes m.transfer ]
finished_read members step = []

-- what a step prints, and the session after it
abbrev pub step_outcome : Session → Step → Told → Outcome
step_outcome session step shown = success
    (step_text session.options.trace step shown (finished_read (bus_after session.members step) step)
    (deliveries_of_step session.members step))
    (record session {
      members = bus_after session.members step;
      events = saturating_sum session.events (length (deliveries_of_step session.members step));
    })

-- a step is taken, or it is refused
abbrev pub StepPrints : Step → Session → Outcome → Type 0
StepPrints step session o =
    ((shown : Told) × (refusal session.members step ≡ None) × StepReturns session.members step shown
    × (o ≡ step_outcome session step shown))
    ⊎ ((fault : StackFault) × (refusal session.members step ≡ Some fault) × (o ≡ refuses_step fault))

-- the change that is wanted of a control
abbrev pub change_of : ChangeKind → ControlId → OneChange
change_of Press control = changes.Press control
change_of Release control = changes.Release control
change_of Null control = changes.Null control
change_of (Set value) control = changes.Set control value
change_of (Move by) control = changes.Move control by

-- a control that was found changes; where there is none, that is reported
abbrev pub FoundPrints : ℕ → ChangeKind → Result ControlId StackFault → Session → Outcome → Type 0
FoundPrints dev wanted (Ok control) session o = StepPrints (Change dev (change_of wanted control)) session o
FoundPrints dev wanted (Err fault) session o = o ≡ refuses_step fault

-- the least control with the usage changes, if there is one
abbrev pub ChangePrints : ℕ → Usage → ChangeKind → Session → Outcome → Type 0
ChangePrints dev usage wanted session o =
    (found : Result ControlId StackFault)
    × Finds session.members dev usage found × FoundPrints dev wanted found session o
