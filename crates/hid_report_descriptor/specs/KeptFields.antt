-- Fields as the parser keeps them (our choice): without their usages and collections.
use Rattle.std.specs.Prelude.{◌≡◌, ℕ, ◌+◌, ◌*◌, ◌≤◌, List, slice_get, Some}
use Rattle.hid_report_descriptor.specs.declared.limits.TheConstants.{MAX_REAL_REPORT_BYTES}
use Rattle.hid_report_descriptor.specs.declared.collection.Collection.{Collection}
use Rattle.hid_report_descriptor.specs.declared.field.KeptField.{KeptField}
use Rattle.hid_report_descriptor.specs.Usages.{Entry}
use Rattle.hid_report_descriptor.specs.Fields.{Field}

-- a field without its usages and its collections
abbrev pub kept_field_of : Field → KeptField
kept_field_of field = record {
  kind = field.kind;
  id = field.id;
  offset = field.offset;
  size = field.size;
  count = field.count;
  flags = record { 0 = field.flags };
  min = field.min;
  max = field.max;
  shape = field.shape;
}

-- a field with its usages and its collections
abbrev pub whole_field : KeptField → List Entry → List Collection → Field
whole_field head es path = record {
  kind = head.kind;
  id = head.id;
  offset = head.offset;
  size = head.size;
  count = head.count;
  flags = head.flags.0;
  min = head.min;
  max = head.max;
  shape = head.shape;
  entries = es;
  path = path;
}

-- no field reaches past the bits of the longest report that any limits allow
abbrev pub AreFieldsPlaced : List KeptField → Type 0
AreFieldsPlaced heads = (i : ℕ) (head : KeptField) → slice_get heads i ≡ Some head
    → head.offset + head.size * head.count ≤ 8 * MAX_REAL_REPORT_BYTES
