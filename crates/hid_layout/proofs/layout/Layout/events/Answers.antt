use Rattle.std.proofs.Common.{◌≡◌, ◌<◌, true, false, length, List, get_or, [], Some, refl, sym, ap, ◌∙◌, arith}
use Rattle.std.specs.List.{slice_get}
use Rattle.std.proofs.lemmas.Option.{slice_get_read, slice_get-get_or}
use Rattle.hid_report_descriptor.specs.declared.shape.Shape.TheVariants.{Padding, Variable, Array}
use Rattle.hid_report_descriptor.specs.Usages.{Entry, usage_list}
use Rattle.hid_report_descriptor.specs.Fields.{is_padding}
use Rattle.hid_layout.specs.Layout.{Contents}
use Rattle.hid_layout.specs.Controls.{is_input, items_of, form_at, form_of, events_in}
use Rattle.hid_layout.proofs.FormLemmas.{form-input, form-other, spread_usages-length}
use Rattle.hid_layout.proofs.layout.Layout.events.Goals as goal

pub returns-then-not-is_input-clause-value : goal.returns-then-not-is_input-clause-value
returns-then-not-is_input-clause-value c =
    let layout : Contents = record { reports = c.self.inside.reports.items; numbered = c.self.inside.numbered; items = c.self.inside.items.items; entries = c.self.inside.lists.entries; paths = c.self.inside.lists.paths } in
    let at : slice_get c.self.inside.items.items c.args.item ≡ Some c.index-main.result.now = slice_get_read c.self.inside.items.items (length c.self.inside.items.items) c.args.item c.index-main.result.now refl (omega (arith, c.requires, ap (λ (l : Contents). length l.items) c.self.view_is)) c.index-main.ensures in
    let within : c.args.item < length c.self.inside.lists.entries = omega (arith, c.requires, c.self.invariant.1.entries_there, ap (λ (l : Contents). length l.items) c.self.view_is) in
    let es : List Entry = get_or c.self.inside.lists.entries c.args.item [] in
    let there : slice_get c.self.inside.lists.entries c.args.item ≡ Some es = slice_get-get_or c.self.inside.lists.entries c.args.item [] within in
    let input : is_input layout.reports c.index-main.result.now.report ≡ false = ap (λ (l : Contents). is_input l.reports c.index-main.result.now.report) c.self.view_is ∙ sym c.if-not-is_input.ensures in
    sym (ap events_in (form-other layout c.args.item c.index-main.result.now es at there input)) ∙ ap (λ l. events_in (form_at (items_of l) c.args.item)) c.self.view_is

pub returns-in-Padding-clause-value : goal.returns-in-Padding-clause-value
returns-in-Padding-clause-value c =
    let layout : Contents = record { reports = c.self.inside.reports.items; numbered = c.self.inside.numbered; items = c.self.inside.items.items; entries = c.self.inside.lists.entries; paths = c.self.inside.lists.paths } in
    let at : slice_get c.self.inside.items.items c.args.item ≡ Some c.index-main.result.now = slice_get_read c.self.inside.items.items (length c.self.inside.items.items) c.args.item c.index-main.result.now refl (omega (arith, c.requires, ap (λ (l : Contents). length l.items) c.self.view_is)) c.index-main.ensures in
    let within : c.args.item < length c.self.inside.lists.entries = omega (arith, c.requires, c.self.invariant.1.entries_there, ap (λ (l : Contents). length l.items) c.self.view_is) in
    let es : List Entry = get_or c.self.inside.lists.entries c.args.item [] in
    let there : slice_get c.self.inside.lists.entries c.args.item ≡ Some es = slice_get-get_or c.self.inside.lists.entries c.args.item [] within in
    let input : is_input layout.reports c.index-main.result.now.report ≡ true = ap (λ (l : Contents). is_input l.reports c.index-main.result.now.report) c.self.view_is ∙ sym c.if-not-is_input.ensures in
    let form : events_in (form_at (items_of layout) c.args.item) ≡ events_in (form_of c.index-main.result.now (usage_list es) Padding) = ap events_in (form-input layout c.args.item c.index-main.result.now es at there input) ∙ ap (λ s. events_in (form_of c.index-main.result.now (usage_list es) s)) c.in-Padding.is in
    sym form ∙ ap (λ l. events_in (form_at (items_of l) c.args.item)) c.self.view_is

pub returns-in-Variable-clause-value : goal.returns-in-Variable-clause-value
returns-in-Variable-clause-value c =
    let layout : Contents = record { reports = c.self.inside.reports.items; numbered = c.self.inside.numbered; items = c.self.inside.items.items; entries = c.self.inside.lists.entries; paths = c.self.inside.lists.paths } in
    let at : slice_get c.self.inside.items.items c.args.item ≡ Some c.index-main.result.now = slice_get_read c.self.inside.items.items (length c.self.inside.items.items) c.args.item c.index-main.result.now refl (omega (arith, c.requires, ap (λ (l : Contents). length l.items) c.self.view_is)) c.index-main.ensures in
    let within : c.args.item < length c.self.inside.lists.entries = omega (arith, c.requires, c.self.invariant.1.entries_there, ap (λ (l : Contents). length l.items) c.self.view_is) in
    let es : List Entry = get_or c.self.inside.lists.entries c.args.item [] in
    let there : slice_get c.self.inside.lists.entries c.args.item ≡ Some es = slice_get-get_or c.self.inside.lists.entries c.args.item [] within in
    let input : is_input layout.reports c.index-main.result.now.report ≡ true = ap (λ (l : Contents). is_input l.reports c.index-main.result.now.report) c.self.view_is ∙ sym c.if-not-is_input.ensures in
    let form : events_in (form_at (items_of layout) c.args.item) ≡ events_in (form_of c.index-main.result.now (usage_list es) Variable) = ap events_in (form-input layout c.args.item c.index-main.result.now es at there input) ∙ ap (λ s. events_in (form_of c.index-main.result.now (usage_list es) s)) c.in-Variable.is in
    sym (spread_usages-length c.index-main.result.now.count (usage_list es)
    (c.self.invariant.1.some_usage c.args.item c.index-main.result.now es at there
    (ap is_padding c.in-Variable.is))) ∙ sym form
    ∙ ap (λ l. events_in (form_at (items_of l) c.args.item)) c.self.view_is

pub returns-in-Array-clause-value : goal.returns-in-Array-clause-value
returns-in-Array-clause-value c =
    let layout : Contents = record { reports = c.self.inside.reports.items; numbered = c.self.inside.numbered; items = c.self.inside.items.items; entries = c.self.inside.lists.entries; paths = c.self.inside.lists.paths } in
    let at : slice_get c.self.inside.items.items c.args.item ≡ Some c.index-main.result.now = slice_get_read c.self.inside.items.items (length c.self.inside.items.items) c.args.item c.index-main.result.now refl (omega (arith, c.requires, ap (λ (l : Contents). length l.items) c.self.view_is)) c.index-main.ensures in
    let within : c.args.item < length c.self.inside.lists.entries = omega (arith, c.requires, c.self.invariant.1.entries_there, ap (λ (l : Contents). length l.items) c.self.view_is) in
    let es : List Entry = get_or c.self.inside.lists.entries c.args.item [] in
    let there : slice_get c.self.inside.lists.entries c.args.item ≡ Some es = slice_get-get_or c.self.inside.lists.entries c.args.item [] within in
    let input : is_input layout.reports c.index-main.result.now.report ≡ true = ap (λ (l : Contents). is_input l.reports c.index-main.result.now.report) c.self.view_is ∙ sym c.if-not-is_input.ensures in
    let form : events_in (form_at (items_of layout) c.args.item) ≡ events_in (form_of c.index-main.result.now (usage_list es) Array) = ap events_in (form-input layout c.args.item c.index-main.result.now es at there input) ∙ ap (λ s. events_in (form_of c.index-main.result.now (usage_list es) s)) c.in-Array.is in
    sym form ∙ ap (λ l. events_in (form_at (items_of l) c.args.item)) c.self.view_is
