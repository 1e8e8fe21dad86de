use Rattle.std.proofs.Common.{◌≡◌, ◌<◌, true, false, length, get_or, [], Some, refl, sym, ap, ◌∙◌, arith}
use Rattle.std.specs.List.{slice_get}
use Rattle.std.proofs.lemmas.Option.{slice_get_read, slice_get-get_or}
use Rattle.hid_layout.specs.Layout.{Contents}
use Rattle.hid_layout.specs.Controls.{is_input, items_of, form_at, controls_of_form}
use Rattle.hid_layout.proofs.FormLemmas.{form-input, form-other}
use Rattle.hid_layout.proofs.layout.Layout.controls.Goals as goal

pub controls-requires-clause-elements : goal.controls-requires-clause-elements
controls-requires-clause-elements c p =
    let at : slice_get c.self.inside.items.items c.args.item ≡ Some c.index-main.result.now = slice_get_read c.self.inside.items.items (length c.self.inside.items.items) c.args.item c.index-main.result.now refl (omega (arith, c.requires, ap (λ (l : Contents). length l.items) c.self.view_is)) c.index-main.ensures in
    c.self.invariant.1.elements c.args.item c.index-main.result.now at p

pub controls-requires-clause-some : goal.controls-requires-clause-some
controls-requires-clause-some c p =
    let at : slice_get c.self.inside.items.items c.args.item ≡ Some c.index-main.result.now = slice_get_read c.self.inside.items.items (length c.self.inside.items.items) c.args.item c.index-main.result.now refl (omega (arith, c.requires, ap (λ (l : Contents). length l.items) c.self.view_is)) c.index-main.ensures in
    c.self.invariant.1.some_usage c.args.item c.index-main.result.now c.entries.result.now at c.entries.ensures p

pub controls-requires-clause-kept : goal.controls-requires-clause-kept
controls-requires-clause-kept c array =
    let at : slice_get c.self.inside.items.items c.args.item ≡ Some c.index-main.result.now = slice_get_read c.self.inside.items.items (length c.self.inside.items.items) c.args.item c.index-main.result.now refl (omega (arith, c.requires, ap (λ (l : Contents). length l.items) c.self.view_is)) c.index-main.ensures in
    omega (arith, c.self.invariant.2.codes_there.there c.args.item c.index-main.result.now at array, ap length c.deref.ensures.value)

pub controls-requires-clause-codes : goal.controls-requires-clause-codes
controls-requires-clause-codes c kept there array =
    let at : slice_get c.self.inside.items.items c.args.item ≡ Some c.index-main.result.now = slice_get_read c.self.inside.items.items (length c.self.inside.items.items) c.args.item c.index-main.result.now refl (omega (arith, c.requires, ap (λ (l : Contents). length l.items) c.self.view_is)) c.index-main.ensures in
    c.self.invariant.2.codes_there.theirs c.args.item c.index-main.result.now c.entries.result.now kept at c.entries.ensures (ap (λ l. slice_get l c.args.item) (sym c.deref.ensures.value) ∙ there) array

pub returns-then-is_input : goal.returns-then-is_input
returns-then-is_input c =
    let layout : Contents = record { reports = c.self.inside.reports.items; numbered = c.self.inside.numbered; items = c.self.inside.items.items; entries = c.self.inside.lists.entries; paths = c.self.inside.lists.paths } in
    let at : slice_get c.self.inside.items.items c.args.item ≡ Some c.index-main.result.now = slice_get_read c.self.inside.items.items (length c.self.inside.items.items) c.args.item c.index-main.result.now refl (omega (arith, c.requires, ap (λ (l : Contents). length l.items) c.self.view_is)) c.index-main.ensures in
    let input : is_input layout.reports c.index-main.result.now.report ≡ true = ap (λ (l : Contents). is_input l.reports c.index-main.result.now.report) c.self.view_is ∙ sym c.if-is_input.ensures in
    c.controls.ensures
    ∙ ap controls_of_form
    (sym (form-input layout c.args.item c.index-main.result.now c.entries.result.now at c.entries.ensures input))
    ∙ ap (λ l. controls_of_form (form_at (items_of l) c.args.item)) c.self.view_is

pub returns-else-is_input : goal.returns-else-is_input
returns-else-is_input c =
    let layout : Contents = record { reports = c.self.inside.reports.items; numbered = c.self.inside.numbered; items = c.self.inside.items.items; entries = c.self.inside.lists.entries; paths = c.self.inside.lists.paths } in
    let at : slice_get c.self.inside.items.items c.args.item ≡ Some c.index-main.result.now = slice_get_read c.self.inside.items.items (length c.self.inside.items.items) c.args.item c.index-main.result.now refl (omega (arith, c.requires, ap (λ (l : Contents). length l.items) c.self.view_is)) c.index-main.ensures in
    let within : c.args.item < length c.self.inside.lists.entries = omega (arith, c.requires, c.self.invariant.1.entries_there, ap (λ (l : Contents). length l.items) c.self.view_is) in
    let other : is_input layout.reports c.index-main.result.now.report ≡ false = ap (λ (l : Contents). is_input l.reports c.index-main.result.now.report) c.self.view_is ∙ sym c.if-is_input.ensures in
    ap controls_of_form
    (sym (form-other layout c.args.item c.index-main.result.now
    (get_or c.self.inside.lists.entries c.args.item []) at
    (slice_get-get_or c.self.inside.lists.entries c.args.item [] within) other))
    ∙ ap (λ l. controls_of_form (form_at (items_of l) c.args.item)) c.self.view_is
