use Rattle.std.proofs.Common.{◌≡◌, ◌<◌, true, false, length, get_or, [], Some, refl, sym, ap, ◌∙◌, arith}
use Rattle.std.specs.List.{slice_get}
use Rattle.std.proofs.lemmas.Option.{slice_get_read, slice_get-get_or}
use Rattle.hid_layout.specs.Layout.{Contents}
use Rattle.hid_layout.specs.Controls.{is_input, items_of, control_in, control_of_item, control_of}
use Rattle.hid_layout.proofs.FormLemmas.{form-input, form-other, control-form, items_from-past}
use Rattle.hid_layout.proofs.layout.Layout.control.Goals as goal

pub returns-then-id-len : goal.returns-then-id-len
returns-then-id-len c =
    let layout : Contents = record { reports = c.self.inside.reports.items; numbered = c.self.inside.numbered; items = c.self.inside.items.items; entries = c.self.inside.lists.entries; paths = c.self.inside.lists.paths } in
    sym (ap (control_of_item c.args.id.index) (items_from-past layout layout.items layout.entries c.args.id.item (omega (arith, c.len.ensures, c.if-id-len.true)))) ∙ ap (λ l. control_of (items_of l) c.args.id) c.self.view_is

pub control-requires-clause-elements : goal.control-requires-clause-elements
control-requires-clause-elements c p =
    let at : slice_get c.self.inside.items.items c.args.id.item ≡ Some c.index-main.result.now = slice_get_read c.self.inside.items.items (length c.self.inside.items.items) c.args.id.item c.index-main.result.now refl (omega (arith, c.len.ensures, c.if-id-len.false)) c.index-main.ensures in
    c.self.invariant.1.elements c.args.id.item c.index-main.result.now at p

pub control-requires-clause-some : goal.control-requires-clause-some
control-requires-clause-some c p =
    let at : slice_get c.self.inside.items.items c.args.id.item ≡ Some c.index-main.result.now = slice_get_read c.self.inside.items.items (length c.self.inside.items.items) c.args.id.item c.index-main.result.now refl (omega (arith, c.len.ensures, c.if-id-len.false)) c.index-main.ensures in
    c.self.invariant.1.some_usage c.args.id.item c.index-main.result.now c.entries-entries.result.now at c.entries-entries.ensures p

pub returns-then-is_input : goal.returns-then-is_input
returns-then-is_input c =
    let layout : Contents = record { reports = c.self.inside.reports.items; numbered = c.self.inside.numbered; items = c.self.inside.items.items; entries = c.self.inside.lists.entries; paths = c.self.inside.lists.paths } in
    let at : slice_get c.self.inside.items.items c.args.id.item ≡ Some c.index-main.result.now = slice_get_read c.self.inside.items.items (length c.self.inside.items.items) c.args.id.item c.index-main.result.now refl (omega (arith, c.len.ensures, c.if-id-len.false)) c.index-main.ensures in
    let input : is_input layout.reports c.index-main.result.now.report ≡ true = ap (λ (l : Contents). is_input l.reports c.index-main.result.now.report) c.self.view_is ∙ sym c.if-is_input.ensures in
    c.control.ensures ∙ ap (λ f. control_in f c.args.id.index) (sym (form-input layout c.args.id.item c.index-main.result.now c.entries-entries.result.now at c.entries-entries.ensures input)) ∙ sym (control-form (items_of layout) c.args.id) ∙ ap (λ l. control_of (items_of l) c.args.id) c.self.view_is

pub returns-else-is_input : goal.returns-else-is_input
returns-else-is_input c =
    let layout : Contents = record { reports = c.self.inside.reports.items; numbered = c.self.inside.numbered; items = c.self.inside.items.items; entries = c.self.inside.lists.entries; paths = c.self.inside.lists.paths } in
    let at : slice_get c.self.inside.items.items c.args.id.item ≡ Some c.index-main.result.now = slice_get_read c.self.inside.items.items (length c.self.inside.items.items) c.args.id.item c.index-main.result.now refl (omega (arith, c.len.ensures, c.if-id-len.false)) c.index-main.ensures in
    let within : c.args.id.item < length c.self.inside.lists.entries = omega (arith, c.len.ensures, c.if-id-len.false, c.self.invariant.1.entries_there) in
    let other : is_input layout.reports c.index-main.result.now.report ≡ false = ap (λ (l : Contents). is_input l.reports c.index-main.result.now.report) c.self.view_is ∙ sym c.if-is_input.ensures in
    ap (λ f. control_in f c.args.id.index) (sym (form-other layout c.args.id.item c.index-main.result.now (get_or c.self.inside.lists.entries c.args.id.item []) at (slice_get-get_or c.self.inside.lists.entries c.args.id.item [] within) other)) ∙ sym (control-form (items_of layout) c.args.id) ∙ ap (λ l. control_of (items_of l) c.args.id) c.self.view_is
