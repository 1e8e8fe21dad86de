-- Reports, collections and usages as records of numbers alone: what the layout has at a place (HID 1.11, 5.6, 6.2.2.6
-- and 6.2.2.8; the records: our choice).
use Rattle.std.specs.Prelude.{ℕ, List, slice_get, Option, Some, None}
use Rattle.std.specs.Option.{option_map}
use Rattle.hid_report_descriptor.specs.Kinds.{rank}
use Rattle.hid_report_descriptor.specs.declared.collection.Collection.{Collection}
use Rattle.hid_report_descriptor.specs.declared.report.Report.{Report}
use Rattle.hid_report_descriptor.specs.declared.usage.Usage.{Usage}
use Rattle.hid_layout.specs.Layout.{Contents}
use Rattle.hid_layout.specs.declared.main_item.MainItem.{MainItem}
use Rattle.hid_layout.specs.Reports.{report_bytes, usage_of}
use Rattle.hidstack_session.specs.declared.records.HidReport.{HidReport}
use Rattle.hidstack_session.specs.declared.records.HidCollection.{HidCollection}
use Rattle.hidstack_session.specs.declared.records.HidUsage.{HidUsage}

-- the record of the report at a place
abbrev pub report_record : Contents → ℕ → Report → HidReport
report_record layout r report =
    record { bytes = report_bytes layout r; bits = report.bits; kind = rank report.kind; id = report.id; spare = 0 }

-- the record of the report at a place, if there is one
abbrev pub report_at : Contents → ℕ → Option HidReport
report_at layout r = option_map (report_record layout r) (slice_get layout.reports r)

-- the record of a collection with this kind and usage
abbrev pub collection_with : ℕ → Option Usage → HidCollection
collection_with kind None = record { kind = kind; has_usage = 0; page = 0; id = 0 }
collection_with kind (Some usage) = record { kind = kind; has_usage = 1; page = usage.page; id = usage.id }

-- the record of a collection
abbrev pub collection_record : Collection → HidCollection
collection_record collection = collection_with collection.kind collection.usage

-- the record of a collection at a place of those that are open round an item that may be there
abbrev pub collection_in : Option MainItem → Option (List Collection) → ℕ → Option HidCollection
collection_in (Some item) (Some path) level = option_map collection_record (slice_get path level)
collection_in _ _ level = None

-- the record of a collection that is open round the listed item at a place, from 0 for the outermost one
abbrev pub collection_at : Contents → ℕ → ℕ → Option HidCollection
collection_at layout i level = collection_in (slice_get layout.items i) (slice_get layout.paths i) level

-- the record of a usage
abbrev pub usage_record : Usage → HidUsage
usage_record usage = record { page = usage.page; id = usage.id }

-- the record of the usage at a place of the listed item's usage list
abbrev pub usage_record_at : Contents → ℕ → ℕ → Option HidUsage
usage_record_at layout i index = option_map usage_record (usage_of layout i index)
