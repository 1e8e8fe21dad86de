use Rattle.hid_recording.proofs.PieceLemmas.{flow_same, carries_same, carried_none}
use Rattle.hid_recording.proofs.ValueLemmas.{item_shown, item_hidden}
use Rattle.hid_recording.proofs.values.print_values_at.Goals as goal

pub returns-then-item-r : goal.returns-then-item-r
returns-then-item-r g c =
    flow_same _ _ _ _ _ _ _ (item_shown c.args.names c.args.layout.now c.items.result.now c.args.r c.args.bytes.now c.args.i _ c.items.ensures.items c.requires.item c.if-item-r.true) c.print_values.ensures

pub returns-else-item-r : goal.returns-else-item-r
returns-else-item-r g c =
    carries_same _ _ _ _ _ _ (item_hidden c.args.names c.args.layout.now c.items.result.now c.args.r c.args.bytes.now c.args.i _ c.items.ensures.items c.requires.item c.if-item-r.false)
    (carried_none _ _)
