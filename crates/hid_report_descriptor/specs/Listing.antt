-- The fields that a report descriptor lists, as the crate above gets them (HID 1.11, 6.2.2).
use Rattle.std.specs.Prelude.{◌≡◌, ◌≤◌, true, List, length, map}
use Rattle.std.specs.List.{list_any}
use Rattle.hid_report_descriptor.specs.declared.limits.TheConstants.{MAX_ITEMS}
use Rattle.hid_report_descriptor.specs.declared.listing.ListedFields.{ListedFields}
use Rattle.hid_report_descriptor.specs.Items.{EncodedItem, is, REPORT_ID}
use Rattle.hid_report_descriptor.specs.Fields.{fields}
use Rattle.hid_report_descriptor.specs.KeptFields.{kept_field_of}
use Rattle.hid_report_descriptor.specs.Reporting.{reports_of}
use Rattle.hid_report_descriptor.specs.Totals.{are_in_order}

-- What the parser keeps of accepted items (the last one first): the listed fields with their reports, usages and paths, and
-- whether an item sets a Report ID.
pub record ListsFields (before : List EncodedItem) (listed : ListedFields) : Type 0 where
  pub heads : listed.fields.items ≡ map kept_field_of (fields before)
  pub reports : listed.reports.items ≡ reports_of (fields before)
  pub ordered : are_in_order listed.reports.items ≡ true
  pub entries : listed.lists.entries ≡ map (λ field. field.entries) (fields before)
  pub paths : listed.lists.paths ≡ map (λ field. field.path) (fields before)
  pub numbered : listed.numbered ≡ list_any (is REPORT_ID) before
  pub few : length listed.fields.items ≤ MAX_ITEMS
