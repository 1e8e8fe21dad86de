use Rattle.std.proofs.Common.{◌∙◌, sym, arith}
use Rattle.hid_snapshots.specs.Encoding.{IsData, part_numbers}
use Rattle.hid_snapshots.proofs.EncodingLemmas.{data_if, no_data_if, place_inside, shows_passed, shows_next, state_numbers}
use Rattle.hid_snapshots.proofs.ReportLemmas.{are_bytes}
use Rattle.hid_snapshots.proofs.encode.show_item.Goals as goal

pub write_item-requires-clause-elements : goal.write_item-requires-clause-elements
write_item-requires-clause-elements g c =
    let d : IsData c.args.layout.now c.args.report c.args.i c.item_at-item.result.now = data_if c.args.layout.now c.args.report c.args.i c.item_at-item.result.now c.item_at-item.ensures.item (sym c.is_data.ensures ∙ c.if-is_data.true) in
    c.requires.layout.elements c.args.i c.item_at-item.result.now d.listed d.no_padding

pub write_item-requires-clause-can : goal.write_item-requires-clause-can
write_item-requires-clause-can g c =
    let d : IsData c.args.layout.now c.args.report c.args.i c.item_at-item.result.now = data_if c.args.layout.now c.args.report c.args.i c.item_at-item.result.now c.item_at-item.ensures.item (sym c.is_data.ensures ∙ c.if-is_data.true) in
    rw (← state_numbers c.args.layout.now c.args.shown.now c.args.i c.state_at.result.now c.state_at.ensures) (c.requires.part.each_item c.args.i c.item_at-item.result.now d)

pub write_item-requires-clause-room : goal.write_item-requires-clause-room
write_item-requires-clause-room g c =
    let d : IsData c.args.layout.now c.args.report c.args.i c.item_at-item.result.now = data_if c.args.layout.now c.args.report c.args.i c.item_at-item.result.now c.item_at-item.ensures.item (sym c.is_data.ensures ∙ c.if-is_data.true) in
    rw c.requires.whole (place_inside c.args.layout.now c.args.report c.args.i c.item_at-item.result.now c.requires.layout d)

pub returns-then-is_data-clause-shows : goal.returns-then-is_data-clause-shows
returns-then-is_data-clause-shows g c = λ before s.
    let d : IsData c.args.layout.now c.args.report c.args.i c.item_at-item.result.now = data_if c.args.layout.now c.args.report c.args.i c.item_at-item.result.now c.item_at-item.ensures.item (sym c.is_data.ensures ∙ c.if-is_data.true) in
    shows_next c.args.layout.now c.args.report (part_numbers c.args.layout.now c.args.shown.now) c.args.i c.item_at-item.result.now before c.args.bytes.now c.write_item.new.bytes c.requires.layout d
    (c.write_item.ensures.written ∙ sym (state_numbers c.args.layout.now c.args.shown.now c.args.i c.state_at.result.now c.state_at.ensures))
    c.write_item.ensures.others s

pub returns-else-is_data-clause-shows : goal.returns-else-is_data-clause-shows
returns-else-is_data-clause-shows g c = λ before s.
    shows_passed c.args.layout.now c.args.report (part_numbers c.args.layout.now c.args.shown.now) c.args.i before c.args.bytes.now
    (no_data_if c.args.layout.now c.args.report c.args.i c.item_at-item.result.now c.item_at-item.ensures.item (sym c.is_data.ensures ∙ c.if-is_data.false)) s

pub state_at-requires : goal.state_at-requires
state_at-requires g c = omega (arith, c.requires.part.all_there, c.requires.listed)

pub write_item-requires-clause-listed : goal.write_item-requires-clause-listed
write_item-requires-clause-listed g c = c.item_at-item.ensures.item

pub write_item-requires-clause-places : goal.write_item-requires-clause-places
write_item-requires-clause-places g c = c.requires.part.few_places c.args.i c.state_at.result.now c.state_at.ensures

pub item_at-item-requires : goal.item_at-item-requires
item_at-item-requires g c = c.requires.listed

pub write_item-requires-clause-layout : goal.write_item-requires-clause-layout
write_item-requires-clause-layout g c = c.requires.layout

pub write_item-requires-clause-short : goal.write_item-requires-clause-short
write_item-requires-clause-short g c = omega (arith, c.requires.whole, c.requires.layout.short c.args.report)

pub returns-then-is_data-clause-bytes : goal.returns-then-is_data-clause-bytes
returns-then-is_data-clause-bytes g c = are_bytes c.write_item.new.bytes (λ i. omega (arith, c.type_inv.bytes i))

pub returns-else-is_data-clause-bytes : goal.returns-else-is_data-clause-bytes
returns-else-is_data-clause-bytes g c = are_bytes c.args.bytes.now (λ i. omega (arith, c.type_inv.bytes i))
