-- What the parser does at an Input, Output or Feature item.
use Rattle.std.proofs.Common.{◌≡◌, ◌%◌, ◌^◌, ◌<◌, Bool, true, List, ◌∷◌, length, refl, sym, ◌∙◌, ap, subst, nat_eq, Option, Some, None, Result, Ok, Err}
use Rattle.std.proofs.lemmas.List.{length-map}
use Rattle.hid_items.specs.ItemEncoding.{data_of, unsigned_of}
use Rattle.hid_report_descriptor.specs.declared.limits.Limits.{Limits}
use Rattle.hid_report_descriptor.specs.declared.fault.Cause.{Cause}
use Rattle.hid_report_descriptor.specs.declared.fault.Cause.TheVariants.{Memory}
use Rattle.hid_report_descriptor.specs.declared.field.KeptField.{KeptField}
use Rattle.hid_report_descriptor.specs.declared.field_list.KeptFields.{KeptFields}
use Rattle.hid_report_descriptor.specs.declared.parser.Parser.{Parser}
use Rattle.hid_report_descriptor.specs.Items.{EncodedItem, is_field}
use Rattle.hid_report_descriptor.specs.Globals.{logical_minimum, logical_maximum, report_id_in_force, report_size, report_count}
use Rattle.hid_report_descriptor.specs.Usages.{Entry, entries, are_paired, minima, maxima, locals}
use Rattle.hid_report_descriptor.specs.Path.{path}
use Rattle.hid_report_descriptor.specs.Fields.{Field, fields, add_field, field_of, kind_of, list_field, report_bits, shape_of, shown_entries}
use Rattle.hid_report_descriptor.specs.Faults.{fault_of, field_fault, first_met, checked_values, limit_tests, field_tests}
use Rattle.hid_report_descriptor.specs.State.{globals_at, maximum_of, AreGlobals}
use Rattle.hid_report_descriptor.specs.Locals.{named_usage, AreLocals}
use Rattle.hid_report_descriptor.specs.Totals.{bits_in_report}
use Rattle.hid_report_descriptor.specs.KeptFields.{whole_field}
use Rattle.hid_report_descriptor.specs.declared.report.ReportKind.{ReportKind}
use Rattle.hid_report_descriptor.specs.FieldList.{AreKept}
use Rattle.hid_report_descriptor.specs.Parser.{HasStateAfter, StepGives, IsDescribed, AddsField}
use Rattle.hid_report_descriptor.proofs.FieldTests.{met_behind, met_before}
use Rattle.hid_report_descriptor.proofs.ReportsLemmas.{bits_in_report-reports_of}
use Rattle.hid_report_descriptor.proofs.Frames.{globals_main, field_is_main, field_path_kept, field_no_id}

-- the bits so far of its report
pub offset_there : (before : List EncodedItem) (p : Parser) (head : KeptField) → HasStateAfter before p
    → head.id < 256
    → bits_in_report head.kind head.id p.fields.reports.list.items ≡ report_bits head.kind head.id (fields before)
offset_there before p head s small =
    ap (bits_in_report head.kind head.id) s.fields_there.reports
    ∙ bits_in_report-reports_of head.kind head.id (fields before) small

-- the field that the parser describes is the one that looking back gives
pub field_there : (before : List EncodedItem) (item : EncodedItem) (p : Parser) (head : KeptField) (es : List Entry)
    → HasStateAfter before p → (kind : ReportKind) → kind ≡ kind_of item → head.id < 256 → es ≡ entries before
    → IsDescribed kind item p.globals.now p.fields.reports.list.items es head
    → whole_field head (shown_entries head.shape es) p.collections.open.items ≡ field_of (fields before) before item
field_there before item p head es s kind k small e d =
    let g : p.globals.now ≡ globals_at before = s.globals_there.in_force_now in
    let at : p.collections.open.items ≡ path before = s.path_there in
    let same : head.kind ≡ kind_of item = d.same_kind ∙ k in
    let id : head.id ≡ report_id_in_force before = d.id ∙ ap (λ g. g.id) g in
    let size : head.size ≡ report_size before = d.size ∙ ap (λ g. g.size) g in
    let count : head.count ≡ report_count before = d.count ∙ ap (λ g. g.count) g in
    let min : head.min ≡ logical_minimum before = d.min ∙ ap (λ g. g.minimum) g in
    let max : head.max ≡ logical_maximum before = d.max ∙ ap maximum_of g in
    let flags : head.flags.0 ≡ unsigned_of (data_of item) % 2 ^ 9 = d.flags in
    let shape : head.shape ≡ shape_of head.flags.0 head.size head.count es = d.shape in
    let offset : head.offset ≡ report_bits head.kind head.id (fields before) =
    d.offset ∙ ap (λ x. bits_in_report x p.globals.now.id p.fields.reports.list.items) (sym d.same_kind)
    ∙ ap (λ n. bits_in_report head.kind n p.fields.reports.list.items) (sym d.id)
    ∙ offset_there before p head s small in
    cc

pub paired_there : (before : List EncodedItem) (old : Parser) → HasStateAfter before old
    → nat_eq (length old.locals.minima) (length old.locals.maxima) ≡ are_paired before
paired_there before old s =
    let a : length old.locals.minima ≡ length (minima (locals before)) =
    ap length s.locals_there.all_minima ∙ length-map (minima (locals before)) named_usage in
    let b : length old.locals.maxima ≡ length (maxima (locals before)) =
    ap length s.locals_there.all_maxima ∙ length-map (maxima (locals before)) named_usage in
    cc

-- the fault of a field item by what stands at it
fault_by : (l : Limits) (before : List EncodedItem) (item : EncodedItem) (field : Field) (told : Option Cause) → is_field item ≡ true → field ≡ field_of (fields before) before item → first_met (checked_values l field (are_paired before) (entries before)) ≡ None → first_met (limit_tests l (list_field (fields before) field) field) ≡ told → fault_of l before item ≡ told
unfolding field_fault
fault_by l before item field told i d n k =
    rw i (ap (λ (f : Field). first_met (field_tests l (fields before) before f)) (sym d) ∙ met_behind (checked_values l field (are_paired before) (entries before)) (limit_tests l (list_field (fields before) field) field) n ∙ k)

refused_by_values : (l : Limits) (before : List EncodedItem) (item : EncodedItem) (field : Field) (cause : Cause) → is_field item ≡ true → field ≡ field_of (fields before) before item → first_met (checked_values l field (are_paired before) (entries before)) ≡ Some cause → fault_of l before item ≡ Some cause
unfolding field_fault
refused_by_values l before item field cause i d n = rw i (ap (λ (f : Field). first_met (field_tests l (fields before) before f)) (sym d) ∙ met_before (checked_values l field (are_paired before) (entries before)) (limit_tests l (list_field (fields before) field) field) cause n)

took_refused : (l : Limits) (before : List EncodedItem) (item : EncodedItem) (cause : Cause) (parser : Parser) → fault_of l before item ≡ Some cause → StepGives l before item (Err cause) parser
took_refused l before item Memory parser f = tt
took_refused l before item cause parser f = f

fields_more : (before : List EncodedItem) (item : EncodedItem) → is_field item ≡ true → fields (item ∷ before) ≡ list_field (fields before) (field_of (fields before) before item)
unfolding add_field
fields_more before item i = rw i refl

checked_there : (l : Limits) (before : List EncodedItem) (field : Field) (es : List Entry) (paired : Bool) (told : Option Cause) → es ≡ entries before → paired ≡ are_paired before → first_met (checked_values l field paired es) ≡ told → first_met (checked_values l field (are_paired before) (entries before)) ≡ told
checked_there l before field es paired told e q n = ap (λ u. first_met (checked_values l field (are_paired before) u)) (sym e) ∙ ap (λ b. first_met (checked_values l field b es)) (sym q) ∙ n

-- a field item whose values are wrong
pub field_refused : (l : Limits) (before : List EncodedItem) (item : EncodedItem) (field : Field) (es : List Entry) (paired : Bool) (cause : Cause) (new : Parser) → is_field item ≡ true → field ≡ field_of (fields before) before item → es ≡ entries before → paired ≡ are_paired before → first_met (checked_values l field paired es) ≡ Some cause → StepGives l before item (Err cause) new
field_refused l before item field es paired cause new i d e q n = took_refused l before item cause new (refused_by_values l before item field cause i d (checked_there l before field es paired (Some cause) e q n))

-- a field item that a limit refuses
pub field_limited : (l : Limits) (before : List EncodedItem) (item : EncodedItem) (field : Field) (es : List Entry) (paired : Bool) (cause : Cause) (kept : KeptFields) (new : Parser) → is_field item ≡ true → field ≡ field_of (fields before) before item → es ≡ entries before → paired ≡ are_paired before → first_met (checked_values l field paired es) ≡ None
    → AddsField l (fields before) field (Err cause) kept → StepGives l before item (Err cause) new
field_limited l before item field es paired Memory kept new i d e q n k = tt
field_limited l before item field es paired cause kept new i d e q n k = fault_by l before item field (Some cause) i d (checked_there l before field es paired None e q n) k

-- a field item that is taken
pub field_taken : (l : Limits) (before : List EncodedItem) (item : EncodedItem) (field : Field) (es : List Entry) (paired : Bool) (old new : Parser) → is_field item ≡ true → HasStateAfter before old → field ≡ field_of (fields before) before item → es ≡ entries before → paired ≡ are_paired before → first_met (checked_values l field paired es) ≡ None
    → AreKept (list_field (fields before) field) new.fields × (first_met (limit_tests l (list_field (fields before) field) field) ≡ None) → new.globals ≡ old.globals → new.collections ≡ old.collections → new.numbered ≡ old.numbered → AreLocals (item ∷ before) new.locals
    → (fault_of l before item ≡ None) × HasStateAfter (item ∷ before) new
field_taken l before item field es paired old new i s d e q n k g p m locals = (
  fault_by l before item field None i d (checked_there l before field es paired None e q n) k.1,
  record {
    globals_there = subst (AreGlobals (item ∷ before)) (sym g) (globals_main before item old.globals (field_is_main item i) s.globals_there);
    locals_there = locals;
    path_there = ap (λ x. x.open.items) p ∙ s.path_there ∙ sym (field_path_kept before item i);
    fields_there = subst (λ fs. AreKept fs new.fields) (ap (list_field (fields before)) d ∙ sym (fields_more before item i)) k.0;
    numbered_there = m ∙ s.numbered_there ∙ sym (field_no_id before item i);
  },
)

-- a field item whose values are right, as listing it tells
pub field_told : (l : Limits) (before : List EncodedItem) (item : EncodedItem) (field : Field) (es : List Entry) (paired : Bool) (old mid new : Parser) (r : Result Unit Cause) → is_field item ≡ true → HasStateAfter before old → field ≡ field_of (fields before) before item → es ≡ entries before → paired ≡ are_paired before → first_met (checked_values l field paired es) ≡ None
    → AddsField l (fields before) field r new.fields → new ≡ record mid { fields = new.fields } → mid.globals ≡ old.globals → mid.collections ≡ old.collections → mid.numbered ≡ old.numbered → AreLocals (item ∷ before) mid.locals → StepGives l before item r new
field_told l before item field es paired old mid new (Ok done) i s d e q n k o g p m locals =
    field_taken l before item field es paired old new i s d e q n k (ap (λ (x : Parser). x.globals) o ∙ g) (ap (λ (x : Parser). x.collections) o ∙ p) (ap (λ (x : Parser). x.numbered) o ∙ m) (subst (AreLocals (item ∷ before)) (sym (ap (λ (x : Parser). x.locals) o)) locals)
field_told l before item field es paired old mid new (Err Memory) i s d e q n k o g p m locals = tt
field_told l before item field es paired old mid new (Err cause) i s d e q n k o g p m locals = field_limited l before item field es paired cause new.fields new i d e q n k
