use Rattle.hid_drawing.proofs.ItemLemmas.{HaveRead}
use Rattle.hid_drawing.proofs.items.read_items.Given as goal

-- the items so far, and what is left
abbrev pub invariant-loop-item : goal.invariant-loop-item
invariant-loop-item l = HaveRead l.descriptor l.items.items l.item-iterator
