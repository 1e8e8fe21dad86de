-- How a gadget is made, halted, and searched for a usage (our choice; USB 2.0, 9.4.5).
use Rattle.std.specs.Prelude.{◌≡◌, ◌⊎◌, ℕ, ◌<◌, true, if◌then◌else◌, List, Option, Some, None, Result, Ok, Err}
use Rattle.hid_layout.specs.declared.control.ControlId.{ControlId}
use Rattle.hid_report_descriptor.specs.declared.usage.Usage.{Usage}
use Rattle.hid_layout.specs.Layout.{Contents}
use Rattle.hid_layout.specs.Controls.{items_of}
use Rattle.hid_layout.specs.Finding.{control_usage}
use Rattle.hid_device.specs.declared.config.Config.{Config}
use Rattle.hid_requests.specs.declared.fault.DeviceFault.{DeviceFault}
use Rattle.hid_device.specs.Config.{is_config}
use Rattle.hid_device.specs.Core.{CoreState, halted_core}
use Rattle.hid_device.specs.Creation.{CanServe, Refuses, new_core}
use Rattle.hid_gadget.specs.declared.gadget.TheConstants.{ADDRESS}

-- A gadget is made if a device of its configuration can be and can serve its descriptor, else it is refused for the
-- first cause. Example: B4 is V3 at 0
abbrev pub MakesGadget : Config → List ℕ → Result CoreState DeviceFault → Type 0
MakesGadget config descriptor (Ok core) =
    (is_config ADDRESS config descriptor ≡ true) × ((layout : Contents) × CanServe descriptor layout
    × (core ≡ new_core config descriptor layout))
MakesGadget config descriptor (Err fault) = Refuses ADDRESS config descriptor fault.cause fault.at

-- The core of a gadget after a halt of its endpoint. A gadget that isn't configured has no endpoint to halt.
abbrev pub halted_gadget : CoreState → CoreState
halted_gadget core = if core.is_configured then halted_core core else core

-- a control comes before another: its item is less, or in the same item its index is
abbrev pub ComesBefore : ControlId → ControlId → Type 0
ComesBefore d c = (d.item < c.item) ⊎ ((d.item ≡ c.item) × (d.index < c.index))

-- The least control of a layout that has a usage, if one has it.
abbrev pub FindsControl : Contents → Usage → Option ControlId → Type 0
FindsControl layout usage (Some c) =
    (control_usage (items_of layout) c ≡ Some usage)
    × ((d : ControlId) → ComesBefore d c → control_usage (items_of layout) d ≡ Some usage → ⊥)
FindsControl layout usage None = (d : ControlId) → control_usage (items_of layout) d ≡ Some usage → ⊥
