-- The layout that a list of items gives (HID 1.11, 5.6 and 8).
use Rattle.std.specs.Prelude.{ℕ, ◌+◌, ◌/◌, Bool, if◌then◌else◌, List, map, slice_get, Some, None}
use Rattle.std.specs.List.{list_any}
use Rattle.hid_report_descriptor.specs.declared.collection.Collection.{Collection}
use Rattle.hid_report_descriptor.specs.declared.report.Report.{Report}
use Rattle.hid_layout.specs.declared.main_item.MainItem.{MainItem}
use Rattle.hid_report_descriptor.specs.Items.{EncodedItem, is, REPORT_ID}
use Rattle.hid_report_descriptor.specs.Usages.{Entry}
use Rattle.hid_report_descriptor.specs.declared.field.KeptField.{KeptField}
use Rattle.hid_report_descriptor.specs.Fields.{Field, fields}
use Rattle.hid_report_descriptor.specs.Reporting.{reports_of}
pub use Rattle.hid_report_descriptor.specs.Totals.{report_place}

-- What callers see of a layout: the reports that have bits, by kind and then by ID, and the listed items with their
-- usages and paths.
pub record Contents : Type 0 where
  pub reports : List Report
  pub numbered : Bool
  pub items : List MainItem
  pub entries : List (List Entry)
  pub paths : List (List Collection)

-- the bits of the report at a place, 0 where there is none
abbrev pub bits_of : List Report → ℕ → ℕ
bits_of reports r = elim (slice_get reports r) [ None ↦ 0 | Some report ↦ report.bits ]

-- the bytes of a report: its bits filled up to whole bytes, and one ID byte if there is any Report ID item. Example: the
-- mouse's report has 3
abbrev pub report_bytes : Contents → ℕ → ℕ
report_bytes layout r = (bits_of layout.reports r + 7) / 8 + (if layout.numbered then 1 else 0)

-- an item of a layout with these reports
abbrev pub main_item : List Report → Field → MainItem
main_item reports field = record {
  report = report_place field.kind field.id reports;
  offset = field.offset;
  size = field.size;
  count = field.count;
  flags = record { 0 = field.flags };
  min = field.min;
  max = field.max;
  shape = field.shape;
}

-- an item of a layout with these reports, by what is kept
abbrev pub item_of : List Report → KeptField → MainItem
item_of reports head = record {
  report = report_place head.kind head.id reports;
  offset = head.offset;
  size = head.size;
  count = head.count;
  flags = head.flags;
  min = head.min;
  max = head.max;
  shape = head.shape;
}

-- the layout of these fields
abbrev pub contents_of : List Field → Bool → Contents
contents_of fs numbered = record {
  reports = reports_of fs;
  numbered = numbered;
  items = map (main_item (reports_of fs)) fs;
  entries = map (λ field. field.entries) fs;
  paths = map (λ field. field.path) fs;
}

-- the layout of these items, the last one first
abbrev pub layout_of : List EncodedItem → Contents
layout_of before = contents_of (fields before) (list_any (is REPORT_ID) before)
