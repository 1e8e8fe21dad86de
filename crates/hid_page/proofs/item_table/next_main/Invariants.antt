use Rattle.std.proofs.Common.{◌≡◌, ◌+◌, drop}
use Rattle.hid_page.specs.ItemTable.{next_main}
use Rattle.hid_page.proofs.item_table.next_main.Given as goal

-- what the rest of the items answer is what all answer
abbrev pub invariant-loop-item : goal.invariant-loop-item
invariant-loop-item l =
    record { same : next_main l.at (drop l.item-index l.rest) ≡ next_main l.place l.rest; place : l.at ≡ l.place + l.item-index }
