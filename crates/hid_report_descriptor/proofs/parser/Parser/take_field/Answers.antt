use Rattle.std.proofs.Common.{◌≡◌, ℕ, Bool, List, map, ap, arith, nat_eq, length}
use Rattle.hid_report_descriptor.specs.Usages.{Entry, entries}
use Rattle.hid_report_descriptor.specs.Fields.{fields}
use Rattle.hid_report_descriptor.specs.Locals.{entry_on_page}
use Rattle.hid_report_descriptor.specs.declared.parser.Parser.{Parser}
use Rattle.hid_report_descriptor.proofs.Frames.{usages_there, field_is_main}
use Rattle.hid_report_descriptor.proofs.TakingFields.{field_there, field_refused, field_limited, field_taken, paired_there}
use Rattle.hid_report_descriptor.proofs.parser.Parser.take_field.Goals as goal

pub returns-in-Err : goal.returns-in-Err
returns-in-Err c before i k s =
    let page : ℕ = c.args.self.now.globals.now.page in
    let es : List Entry = map (entry_on_page page) c.args.self.now.locals.entries.items in
    let paired : Bool = nat_eq (length c.args.self.now.locals.minima) (length c.args.self.now.locals.maxima) in
    let e : es ≡ entries before = usages_there before _ s in
    field_refused c.args.limits before c.args.item.now.bytes.now _ es paired c.in-Err.cause _ i
    (field_there before c.args.item.now.bytes.now c.args.self.now c.field_of-field.result es s c.args.kind k
    (omega arith) e (c.field_of-field.ensures page)) e (paired_there before _ s) c.in-Err.ensures

pub returns-in-Err-list_field : goal.returns-in-Err-list_field
returns-in-Err-list_field c before i k s =
    let page : ℕ = c.args.self.now.globals.now.page in
    let es : List Entry = map (entry_on_page page) c.args.self.now.locals.entries.items in
    let paired : Bool = nat_eq (length c.args.self.now.locals.minima) (length c.args.self.now.locals.maxima) in
    let e : es ≡ entries before = usages_there before _ s in
    field_limited c.args.limits before c.args.item.now.bytes.now _ es paired c.in-Err-list_field.cause c.list_field.new.self.fields _ i
    (field_there before c.args.item.now.bytes.now c.args.self.now c.field_of-field.result es s c.args.kind k
    (omega arith) e (c.field_of-field.ensures page)) e (paired_there before _ s) c.in-Ok.ensures
    (c.in-Err-list_field.ensures.fields (fields before) s.fields_there)

pub returns : goal.returns
returns c before i k s =
    let page : ℕ = c.args.self.now.globals.now.page in
    let es : List Entry = map (entry_on_page page) c.args.self.now.locals.entries.items in
    let paired : Bool = nat_eq (length c.args.self.now.locals.minima) (length c.args.self.now.locals.maxima) in
    let e : es ≡ entries before = usages_there before _ s in
    let o = c.in-Ok-list_field.ensures.others in
    field_taken c.args.limits before c.args.item.now.bytes.now _ es paired c.args.self.now _ i s
    (field_there before c.args.item.now.bytes.now c.args.self.now c.field_of-field.result es s c.args.kind k
    (omega arith) e (c.field_of-field.ensures page)) e (paired_there before _ s) c.in-Ok.ensures
    (c.in-Ok-list_field.ensures.fields (fields before) s.fields_there) (ap (λ (x : Parser). x.globals) o) (ap (λ (x : Parser). x.collections) o) (ap (λ (x : Parser). x.numbered) o) (c.clear.ensures before _ (field_is_main c.args.item.now.bytes.now i))
