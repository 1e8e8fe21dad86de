-- The usages of controls, by which they are found (HID 1.11, 6.2.2.8).
use Rattle.std.specs.Prelude.{ℕ, Bool, ◌==◌, ◌&&◌, nat_le, List, Option}
use Rattle.std.specs.Option.{option_map}
use Rattle.hid_report_descriptor.specs.declared.usage.Usage.{Usage}
use Rattle.hid_layout.specs.declared.control.ControlId.{ControlId}
use Rattle.hid_report_descriptor.specs.Usages.{Entry}
use Rattle.hid_layout.specs.Controls.{Item, Form, control_in, control_of}

-- the usage of an item's control at a place
abbrev pub usage_in_form : Form → ℕ → Option Usage
usage_in_form form j = option_map (λ c. c.usage) (control_in form j)

-- the usage of a layout's control
abbrev pub control_usage : List Item → ControlId → Option Usage
control_usage items c = option_map (λ c. c.usage) (control_of items c)

-- a usage is one of a range
abbrev pub holds : Entry → Usage → Bool
holds e u = (e.0.page == u.page) && (nat_le e.0.id u.id && nat_le u.id e.1.id)
