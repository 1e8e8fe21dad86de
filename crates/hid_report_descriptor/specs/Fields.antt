-- What the Input, Output and Feature items put into the reports: fields of one kind and ID lie one after the other in
-- descriptor order, and the bits of a report are their sum (HID 1.11, 6.2.2.4, 6.2.2.5, 6.2.2.7, 6.2.2.9 and 8).
use Rattle.std.specs.Prelude.{ℕ, ◌*◌, ◌%◌, Bool, true, false, List, [], ◌∷◌, ◌++◌, filter, sum_by, ◌==◌, nat_lt, ◌&&◌, ◌||◌, if◌then◌else◌, ℤ}
use Rattle.hid_items.specs.ItemEncoding.{data_of, unsigned_of}
use Rattle.hid_report_descriptor.specs.declared.collection.Collection.{Collection}
use Rattle.hid_report_descriptor.specs.declared.limits.TheConstants.{MAX_WIDTH}
use Rattle.hid_report_descriptor.specs.declared.report.ReportKind.{ReportKind}
use Rattle.hid_report_descriptor.specs.declared.report.ReportKind.TheVariants.{Input, Output, Feature}
use Rattle.hid_report_descriptor.specs.declared.shape.Shape.{Shape}
use Rattle.hid_report_descriptor.specs.declared.shape.Shape.TheVariants.{Padding, Variable, Array}
pub use Rattle.hid_report_descriptor.specs.Kinds.{same_kind}
pub use Rattle.hid_report_descriptor.specs.Flags.{has_flag, CONSTANT, VARIABLE, FLAGS}
use Rattle.hid_report_descriptor.specs.Items.{EncodedItem, is, is_field, INPUT, OUTPUT}
use Rattle.hid_report_descriptor.specs.Globals.{report_id_in_force, report_size, report_count, logical_minimum, logical_maximum}
use Rattle.hid_report_descriptor.specs.Usages.{Entry, entries}
use Rattle.hid_report_descriptor.specs.Path.{path}

-- an Input, Output or Feature item with all that is in force at it
pub record Field : Type 0 where
  pub kind : ReportKind
  pub id : ℕ
  pub offset : ℕ
  pub size : ℕ
  pub count : ℕ
  pub flags : ℕ
  pub min : ℤ
  pub max : ℤ
  pub shape : Shape
  pub entries : List Entry
  pub path : List Collection

-- the kind of the report that an item puts fields into (6.2.2.5)
abbrev pub kind_of : EncodedItem → ReportKind
kind_of item = if is INPUT item then Input else (if is OUTPUT item then Output else Feature)

-- a field takes its size as often as its count says (6.2.2.7)
abbrev pub bits_of : Field → ℕ
bits_of field = field.size * field.count

-- the bits of a report's fields
abbrev pub report_bits : ReportKind → ℕ → List Field → ℕ
report_bits kind id fields = sum_by bits_of (filter (λ field. same_kind field.kind kind && (field.id == id)) fields)

-- padding: Constant, or no elements, or no usage, or wider than a number
abbrev pub shape_of : ℕ → ℕ → ℕ → List Entry → Shape
shape_of flags size count [] = Padding
shape_of flags size count (e ∷ es) =
    if (has_flag CONSTANT flags || (count == 0)) || nat_lt MAX_WIDTH size then Padding
    else (if has_flag VARIABLE flags then Variable else Array)

-- whether a field is padding (6.2.2.9)
abbrev pub is_padding : Shape → Bool
is_padding Padding = true
is_padding Variable = false
is_padding Array = false

-- padding shows no usages
abbrev pub shown_entries : Shape → List Entry → List Entry
shown_entries Padding es = []
shown_entries Variable es = es
shown_entries Array es = es

-- the field that an item describes, after the earlier fields
abbrev pub field_of : List Field → List EncodedItem → EncodedItem → Field
field_of earlier before item =
    let flags = unsigned_of (data_of item) % FLAGS in
    let shape = shape_of flags (report_size before) (report_count before) (entries before) in
    record {
      kind = kind_of item;
      id = report_id_in_force before;
      offset = report_bits (kind_of item) (report_id_in_force before) earlier;
      size = report_size before;
      count = report_count before;
      flags = flags;
      min = logical_minimum before;
      max = logical_maximum before;
      shape = shape;
      entries = shown_entries shape (entries before);
      path = path before;
    }

-- a field is listed where it has bits
abbrev pub list_field : List Field → Field → List Field
list_field earlier field = if bits_of field == 0 then earlier else earlier ++ field ∷ []

-- the listed fields, once one more item has come
unfoldable pub add_field : List Field → List EncodedItem → EncodedItem → List Field
add_field earlier before item = if is_field item then list_field earlier (field_of earlier before item) else earlier

-- the listed fields of these items (the last one first), in order
abbrev pub fields : List EncodedItem → List Field
fields [] = []
fields (item ∷ before) = add_field (fields before) before item
