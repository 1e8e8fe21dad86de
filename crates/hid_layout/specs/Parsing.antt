-- A report descriptor and its layout (HID 1.11, 6.2.2).
use Rattle.std.specs.Prelude.{◌≡◌, ℕ, List}
use Rattle.hid_report_descriptor.specs.Items.{EncodedItem}
use Rattle.hid_report_descriptor.specs.Bus.{Accepts}
use Rattle.hid_layout.specs.Layout.{Contents, layout_of}

-- a virtual device's descriptor is accepted with this layout
pub record ParsesTo (descriptor : List ℕ) (layout : Contents) : Type 0 where
  pub items : List EncodedItem
  pub accepted : Accepts descriptor items
  pub laid : layout ≡ layout_of items
