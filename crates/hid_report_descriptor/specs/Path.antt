-- The collections round an item (HID 1.11, 6.2.2.6).
use Rattle.std.specs.Prelude.{◌%◌, ◌^◌, List, map, slice_get}
use Rattle.hid_items.specs.ItemEncoding.{data_of, unsigned_of}
use Rattle.hid_report_descriptor.specs.declared.collection.Collection.{Collection}
use Rattle.hid_report_descriptor.specs.Matching.{Placed, open_items}
use Rattle.hid_report_descriptor.specs.Items.{EncodedItem, COLLECTION, END_COLLECTION}
use Rattle.hid_report_descriptor.specs.Usages.{entries, usage_list}

-- the collection that an item opens, with the first of its usages
abbrev pub collection_of : Placed → Collection
collection_of (before, item) = record {
  kind = unsigned_of (data_of item) % 2 ^ 8;
  usage = slice_get (usage_list (entries before)) 0;
}

-- The collections that are open after these items, the outermost first, each with the first of its own usages. Example:
-- 1/01:02 0/01:01 in the mouse
abbrev pub path : List EncodedItem → List Collection
path before = map collection_of (open_items COLLECTION END_COLLECTION 0 before)
