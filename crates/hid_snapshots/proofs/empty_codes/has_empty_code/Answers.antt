use Rattle.std.proofs.Common.{◌≡◌, ◌∙◌, sym, ap, subst}
use Rattle.std.specs.Option.{is_some}
use Rattle.hid_layout.specs.declared.main_item.MainItem.{MainItem}
use Rattle.hid_report_descriptor.specs.Fields.{is_padding}
use Rattle.hid_snapshots.specs.Codes.{has_empty_code}
use Rattle.hid_snapshots.proofs.ItemLemmas.{same_item}
use Rattle.hid_snapshots.proofs.EmptyLemmas.{empty_code_there}
use Rattle.hid_snapshots.proofs.empty_codes.has_empty_code.Goals as goal

pub returns-else-not-is_input : goal.returns-else-not-is_input
returns-else-not-is_input c = λ m es h k.
    let codes = c.codes.ensures c.item_at-item.result.now es c.item_at-item.ensures.item k (ap is_padding c.in-Array.is) in
    let P : MainItem → Type 0 = λ item. c.is_some.result ≡ has_empty_code c.args.layout.now.reports item es in
    subst P (same_item c.args.layout.now c.args.i c.item_at-item.result.now m c.item_at-item.ensures.item h)
    (empty_code_there c.args.layout.now.reports c.item_at-item.result.now es c.is_some.result (sym c.is_input.ensures ∙ c.if-not-is_input.false) c.in-Array.is (c.is_some.ensures ∙ ap is_some codes.for_empty))
