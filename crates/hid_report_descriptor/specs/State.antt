-- What the parser keeps of the globals (HID 1.11, 6.2.2.7). The values are those that looking back gives.
use Rattle.std.specs.Prelude.{◌≡◌, List, map, if◌then◌else◌, ℤ, pos, int_le}
use Rattle.hid_items.specs.ItemEncoding.{unsigned_of, signed_of}
use Rattle.hid_report_descriptor.specs.declared.globals.Globals.{Globals}
use Rattle.hid_report_descriptor.specs.declared.globals.SavedGlobals.{SavedGlobals}
use Rattle.hid_report_descriptor.specs.Items.{EncodedItem, LOGICAL_MAXIMUM}
use Rattle.hid_report_descriptor.specs.Globals.{open_pushes, in_force, usage_page, logical_minimum, report_size, report_count, report_id_in_force}

-- the globals in force after these items
abbrev pub globals_at : List EncodedItem → Globals
globals_at before = record {
  page = usage_page before;
  minimum = logical_minimum before;
  maximum_signed = signed_of (in_force LOGICAL_MAXIMUM before);
  maximum_unsigned = unsigned_of (in_force LOGICAL_MAXIMUM before);
  size = report_size before;
  count = report_count before;
  id = report_id_in_force before;
}

-- the Logical Maximum, read without sign where the minimum isn't negative
abbrev pub maximum_of : Globals → ℤ
maximum_of globals = if int_le (pos 0) globals.minimum then pos globals.maximum_unsigned else globals.maximum_signed

-- the parser's globals are those in force after these items, and at each open Push
pub record AreGlobals (before : List EncodedItem) (globals : SavedGlobals) : Type 0 where
  pub in_force_now : globals.now ≡ globals_at before
  pub at_pushes : globals.saved.items ≡ map (λ push. globals_at (push.0)) (open_pushes before)
