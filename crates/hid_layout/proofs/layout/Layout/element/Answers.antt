use Rattle.std.proofs.Common.{◌≡◌, length, Some, refl, sym, ap, ◌∙◌, arith}
use Rattle.std.specs.List.{slice_get}
use Rattle.std.specs.Option.{option_and_then}
use Rattle.std.proofs.lemmas.Option.{slice_get_read}
use Rattle.hid_layout.specs.Layout.{Contents}
use Rattle.hid_layout.specs.declared.main_item.MainItem.{MainItem}
use Rattle.hid_layout.specs.Reports.{element_in, element_of}
use Rattle.hid_layout.proofs.layout.Layout.element.Goals as goal

pub element-requires : goal.element-requires
element-requires c =
    let at : slice_get c.self.inside.items.items c.args.item ≡ Some c.index.result.now = slice_get_read c.self.inside.items.items (length c.self.inside.items.items) c.args.item c.index.result.now refl (omega (arith, c.requires, ap (λ (l : Contents). length l.items) c.self.view_is)) c.index.ensures in
    omega (arith, c.self.invariant.1.inside c.args.item c.index.result.now at, c.self.invariant.1.short c.index.result.now.report)

pub returns : goal.returns
returns c =
    let at : slice_get c.self.inside.items.items c.args.item ≡ Some c.index.result.now = slice_get_read c.self.inside.items.items (length c.self.inside.items.items) c.args.item c.index.result.now refl (omega (arith, c.requires, ap (λ (l : Contents). length l.items) c.self.view_is)) c.index.ensures in
    c.element.ensures ∙ ap (option_and_then (λ (found : MainItem). element_in found c.args.j)) (sym at) ∙ ap (λ l. element_of l c.args.item c.args.j) c.self.view_is
