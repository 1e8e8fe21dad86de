-- What the parser's state says of the items after it, and what one step of it does (HID 1.11, 6.2.2).
use Rattle.std.specs.Prelude.{◌≡◌, ◌≢◌, ℕ, List, ◌∷◌, ◌++◌, ◌%◌, length, reverse, All, Some, None, Result, Ok, Err}
use Rattle.std.specs.List.{list_any, flat_map}
use Rattle.hid_items.specs.ItemEncoding.{IsItemEncoding, data_of, unsigned_of}
use Rattle.hid_items.specs.declared.Items.{Items}
use Rattle.hid_items.specs.declared.ItemFault.{ItemFault}
use Rattle.hid_items.specs.declared.ItemFault.TheVariants.{Truncated}
use Rattle.hid_report_descriptor.specs.declared.fault.Cause.{Cause}
use Rattle.hid_report_descriptor.specs.declared.fault.Cause.TheVariants.{Memory}
use Rattle.hid_report_descriptor.specs.declared.limits.Limits.{Limits}
use Rattle.hid_report_descriptor.specs.declared.parser.Parser.{Parser}
use Rattle.hid_report_descriptor.specs.Items.{EncodedItem, is, INPUT, OUTPUT, FEATURE, COLLECTION, END_COLLECTION, PUSH, POP, REPORT_ID, DELIMITER}
use Rattle.hid_report_descriptor.specs.Path.{path}
use Rattle.hid_report_descriptor.specs.Fields.{Field, fields, list_field, shape_of, FLAGS}
use Rattle.hid_report_descriptor.specs.Totals.{bits_in_report}
use Rattle.hid_report_descriptor.specs.Usages.{Entry}
use Rattle.hid_report_descriptor.specs.declared.globals.Globals.{Globals}
use Rattle.hid_report_descriptor.specs.declared.report.Report.{Report}
use Rattle.hid_report_descriptor.specs.declared.report.ReportKind.{ReportKind}
use Rattle.hid_report_descriptor.specs.declared.field.KeptField.{KeptField}
use Rattle.hid_report_descriptor.specs.Faults.{fault_of, AreAccepted, first_met, limit_tests}
use Rattle.hid_report_descriptor.specs.State.{AreGlobals, maximum_of}
use Rattle.hid_report_descriptor.specs.Locals.{AreLocals}
use Rattle.hid_report_descriptor.specs.FieldList.{AreKept}
use Rattle.hid_report_descriptor.specs.declared.field_list.KeptFields.{KeptFields}

-- the state of the parser after these items: what is in force, open and listed by looking back over them
pub record HasStateAfter (before : List EncodedItem) (parser : Parser) : Type 0 where
  pub globals_there : AreGlobals before parser.globals
  pub locals_there : AreLocals before parser.locals
  pub path_there : parser.collections.open.items ≡ path before
  pub fields_there : AreKept (fields before) parser.fields
  pub numbered_there : parser.numbered ≡ list_any (is REPORT_ID) before

-- One step: the item is accepted, and the state moves after it, or it is refused for this cause. Memory may run out
-- at any item.
abbrev pub StepGives : Limits → List EncodedItem → EncodedItem → Result Unit Cause → Parser → Type 0
StepGives limits before item (Ok done) parser = (fault_of limits before item ≡ None) × HasStateAfter (item ∷ before) parser
StepGives limits before item (Err Memory) parser = Unit {0}
StepGives limits before item (Err cause) parser = fault_of limits before item ≡ Some cause

-- an item with this prefix is no main item, no Push, Pop, Report ID or Delimiter
pub record IsOtherPrefix (prefix : ℕ) : Type 0 where
  pub no_input : prefix ≢ INPUT
  pub no_output : prefix ≢ OUTPUT
  pub no_feature : prefix ≢ FEATURE
  pub no_collection : prefix ≢ COLLECTION
  pub no_end : prefix ≢ END_COLLECTION
  pub no_push : prefix ≢ PUSH
  pub no_pop : prefix ≢ POP
  pub no_id : prefix ≢ REPORT_ID
  pub no_delimiter : prefix ≢ DELIMITER

-- the place that is reported with a cause
abbrev pub fault_place : Cause → ℕ → ℕ
fault_place Memory at = 0
fault_place cause at = at

-- the parser has taken these items, and the rest is to come
pub record HasTaken (limits : Limits) (bytes : List ℕ) (before : List EncodedItem) (rest : Items) (parser : Parser) : Type 0 where
  pub joined : flat_map (λ item. item) (reverse before) ++ rest.rest.now ≡ bytes
  pub place : rest.at ≡ length (flat_map (λ item. item) (reverse before))
  pub encoded : All IsItemEncoding (reverse before)
  pub accepted : AreAccepted limits before
  pub stands : HasStateAfter before parser

-- the place of the item that is cut off
abbrev pub cut_item_place : ItemFault → ℕ
cut_item_place (Truncated at) = at

-- the field that an item describes, by the globals in force, the reports so far and its usages
pub record IsDescribed (kind : ReportKind) (item : EncodedItem) (globals : Globals)
    (reports : List Report) (es : List Entry) (field : KeptField) : Type 0 where
  pub same_kind : field.kind ≡ kind
  pub id : field.id ≡ globals.id
  pub offset : field.offset ≡ bits_in_report kind globals.id reports
  pub size : field.size ≡ globals.size
  pub count : field.count ≡ globals.count
  pub flags : field.flags.0 ≡ unsigned_of (data_of item) % FLAGS
  pub min : field.min ≡ globals.minimum
  pub max : field.max ≡ maximum_of globals
  pub shape : field.shape ≡ shape_of field.flags.0 field.size field.count es

-- The field is listed where it has bits, and no limit is passed, or the tests of the limits say which.
-- Memory may run out.
abbrev pub AddsField : Limits → List Field → Field → Result Unit Cause → KeptFields → Type 0
AddsField limits fs field (Ok done) new =
    AreKept (list_field fs field) new × (first_met (limit_tests limits (list_field fs field) field) ≡ None)
AddsField limits fs field (Err Memory) new = Unit {0}
AddsField limits fs field (Err cause) new = first_met (limit_tests limits (list_field fs field) field) ≡ Some cause
