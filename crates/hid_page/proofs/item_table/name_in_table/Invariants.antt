use Rattle.std.proofs.Common.{◌≡◌, drop}
use Rattle.hid_page.specs.ItemTable.{name_in_table, names_of}
use Rattle.hid_page.proofs.item_table.name_in_table.Given as goal

-- what the rest of the rows has is what the rows have
abbrev pub invariant-loop-row : goal.invariant-loop-row
invariant-loop-row l =
    name_in_table (names_of (drop l.row-index l.rows)) l.prefix ≡ name_in_table (names_of l.rows) l.prefix
