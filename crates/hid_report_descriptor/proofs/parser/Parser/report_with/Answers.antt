use Rattle.std.proofs.Common.{◌≡◌, ◌∙◌, ℕ, ◌+◌, ◌*◌, List, map, ap, arith}
use Rattle.hid_report_descriptor.specs.Usages.{Entry, entries}
use Rattle.hid_report_descriptor.specs.Fields.{Field, bits_of}
use Rattle.hid_report_descriptor.specs.Locals.{entry_on_page}
use Rattle.hid_report_descriptor.specs.declared.field.KeptField.{KeptField}
use Rattle.hid_report_descriptor.specs.declared.long_reports.LongReport.{LongReport}
use Rattle.hid_report_descriptor.proofs.Frames.{usages_there}
use Rattle.hid_report_descriptor.proofs.TakingFields.{field_there}
use Rattle.hid_report_descriptor.proofs.parser.Parser.report_with.Goals as goal

pub returns : goal.returns
returns c before k s =
    let f : KeptField = c.field_of-field.result in
    let page : ℕ = c.args.self.now.globals.now.page in
    let es : List Entry = map (entry_on_page page) c.args.self.now.locals.entries.items in
    let e : es ≡ entries before = usages_there before _ s in
    let bits : c.from.result + c.from-2.result * c.from-3.result ≡ f.offset + f.size * f.count
    = ap (λ n. n + c.from-2.result * c.from-3.result) c.from.ensures ∙ ap (λ n. f.offset + n * c.from-3.result) c.from-2.ensures ∙ ap (λ n. f.offset + f.size * n) c.from-3.ensures in
    ap (λ n. (let report : LongReport = record { kind = f.kind; id = f.id; bits = n; limits = c.args.limits } in report)) bits
    ∙ ap (λ (x : Field). (let report : LongReport = record { kind = x.kind; id = x.id; bits = x.offset + bits_of x; limits = c.args.limits } in report))
    (field_there before c.args.item.now.bytes.now c.args.self.now f es s c.args.kind k
    (omega arith) e (c.field_of-field.ensures page))
