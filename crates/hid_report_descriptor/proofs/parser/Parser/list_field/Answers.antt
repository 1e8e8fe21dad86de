use Rattle.std.proofs.Common.{◌≡◌, ◌*◌, map, true, false, nat_lt, length, arith, sym, ap, subst, ◌∙◌}
use Rattle.std.proofs.lemmas.Bool.Decides.{nat_tests}
use Rattle.std.proofs.lemmas.List.{length-map}
use Rattle.hid_report_descriptor.specs.Locals.{entry_on_page}
use Rattle.hid_report_descriptor.proofs.Paths.{OnPage}
use Rattle.hid_report_descriptor.specs.Fields.{Field, shown_entries}
use Rattle.hid_report_descriptor.specs.Totals.{bits_in_report}
use Rattle.hid_report_descriptor.specs.KeptFields.{whole_field}
use Rattle.hid_report_descriptor.specs.FieldList.{AreKept, Keeps}
use Rattle.hid_report_descriptor.proofs.ReportsLemmas.{bits_in_report-reports_of}
use Rattle.hid_report_descriptor.proofs.FieldTests.{told_too_long, told_entries, told_unlisted, told_kept, unlisted}
use Rattle.hid_report_descriptor.proofs.parser.Parser.list_field.Goals as goal

pub returns-then-is_too_long-clause-fields : goal.returns-then-is_too_long-clause-fields
returns-then-is_too_long-clause-fields c fs k =
    let f = c.args.field.now in
    told_too_long c.args.limits fs _ c.args.self.now.fields (c.requires ∙ ap (bits_in_report f.kind f.id) k.reports ∙ bits_in_report-reports_of f.kind f.id fs (omega arith)) (sym c.if-is_too_long.ensures.value)

pub returns-then-entries-gt-MAX_ENTRIES-clause-fields : goal.returns-then-entries-gt-MAX_ENTRIES-clause-fields
returns-then-entries-gt-MAX_ENTRIES-clause-fields c fs k =
    let f = c.args.field.now in
    let on : OnPage = entry_on_page c.args.self.now.globals.now.page in
    let shown : map on c.shown_entries-entries.result.now ≡ shown_entries f.shape (map on c.args.self.now.locals.entries.items) = c.shown_entries-entries.ensures c.args.self.now.globals.now.page ∙ ap (λ l. shown_entries f.shape (map on l)) c.deref.ensures.value in
    let few : length (shown_entries f.shape (map on c.args.self.now.locals.entries.items)) ≡ length c.shown_entries-entries.result.now = ap length (sym shown) ∙ length-map c.shown_entries-entries.result.now on in
    let b : nat_lt 64 (length c.shown_entries-entries.result.now) ≡ true = grind (arith, nat_tests) in
    told_entries c.args.limits fs _ c.args.self.now.fields (c.requires ∙ ap (bits_in_report f.kind f.id) k.reports ∙ bits_in_report-reports_of f.kind f.id fs (omega arith)) (sym c.if-is_too_long.ensures.value) (ap (nat_lt 64) few ∙ b)

pub returns-then-field-ne0-clause-fields : goal.returns-then-field-ne0-clause-fields
returns-then-field-ne0-clause-fields c fs k =
    let f = c.args.field.now in
    let on : OnPage = entry_on_page c.args.self.now.globals.now.page in
    let shown : map on c.shown_entries-entries.result.now ≡ shown_entries f.shape (map on c.args.self.now.locals.entries.items) = c.shown_entries-entries.ensures c.args.self.now.globals.now.page ∙ ap (λ l. shown_entries f.shape (map on l)) c.deref.ensures.value in
    let few : length (shown_entries f.shape (map on c.args.self.now.locals.entries.items)) ≡ length c.shown_entries-entries.result.now = ap length (sym shown) ∙ length-map c.shown_entries-entries.result.now on in
    let b : nat_lt 64 (length c.shown_entries-entries.result.now) ≡ false = grind (arith, nat_tests) in
    told_kept c.args.limits fs _ _ _ (c.requires ∙ ap (bits_in_report f.kind f.id) k.reports ∙ bits_in_report-reports_of f.kind f.id fs (omega arith)) (sym c.if-is_too_long.ensures.value)
    (ap (nat_lt 64) few ∙ b) c.if-field-ne0.true
    (subst (λ p. Keeps c.args.limits fs (whole_field f (shown_entries f.shape (map on c.args.self.now.locals.entries.items)) p) c.keep.result c.keep.new.self) c.deref-then-field-ne0.ensures.0
    (subst (λ es. Keeps c.args.limits fs (whole_field f es c.deref-then-field-ne0.result.now) c.keep.result c.keep.new.self) shown (c.keep.ensures fs k)))

pub returns-then-are_too_many-clause-fields : goal.returns-then-are_too_many-clause-fields
returns-then-are_too_many-clause-fields c fs k =
    let f = c.args.field.now in
    let on : OnPage = entry_on_page c.args.self.now.globals.now.page in
    let shown : map on c.shown_entries-entries.result.now ≡ shown_entries f.shape (map on c.args.self.now.locals.entries.items) = c.shown_entries-entries.ensures c.args.self.now.globals.now.page ∙ ap (λ l. shown_entries f.shape (map on l)) c.deref.ensures.value in
    let few : length (shown_entries f.shape (map on c.args.self.now.locals.entries.items)) ≡ length c.shown_entries-entries.result.now = ap length (sym shown) ∙ length-map c.shown_entries-entries.result.now on in
    let b : nat_lt 64 (length c.shown_entries-entries.result.now) ≡ false = grind (arith, nat_tests) in
    told_unlisted c.args.limits fs _ true (c.requires ∙ ap (bits_in_report f.kind f.id) k.reports ∙ bits_in_report-reports_of f.kind f.id fs (omega arith)) (sym c.if-is_too_long.ensures.value) (ap (nat_lt 64) few ∙ b) (omega arith) (c.if-are_too_many.ensures fs k)

pub returns-clause-fields : goal.returns-clause-fields
returns-clause-fields c fs k =
    let f = c.args.field.now in
    let on : OnPage = entry_on_page c.args.self.now.globals.now.page in
    let shown : map on c.shown_entries-entries.result.now ≡ shown_entries f.shape (map on c.args.self.now.locals.entries.items) = c.shown_entries-entries.ensures c.args.self.now.globals.now.page ∙ ap (λ l. shown_entries f.shape (map on l)) c.deref.ensures.value in
    let few : length (shown_entries f.shape (map on c.args.self.now.locals.entries.items)) ≡ length c.shown_entries-entries.result.now = ap length (sym shown) ∙ length-map c.shown_entries-entries.result.now on in
    let w : Field = whole_field f (shown_entries f.shape (map on c.args.self.now.locals.entries.items)) c.args.self.now.collections.open.items in
    let z : f.size * f.count ≡ 0 = omega arith in
    let b : nat_lt 64 (length c.shown_entries-entries.result.now) ≡ false = grind (arith, nat_tests) in (
      subst (λ xs. AreKept xs c.args.self.now.fields) (sym (unlisted fs w z)) k,
      told_unlisted c.args.limits fs w false (c.requires ∙ ap (bits_in_report f.kind f.id) k.reports ∙ bits_in_report-reports_of f.kind f.id fs (omega arith)) (sym c.if-is_too_long.ensures.value) (ap (nat_lt 64) few ∙ b) z (c.if-are_too_many.ensures fs k),
    )
