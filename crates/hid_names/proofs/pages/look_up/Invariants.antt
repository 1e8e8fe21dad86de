use Rattle.std.proofs.Common.{◌≡◌, drop}
use Rattle.hid_names.specs.Pages.{name_under, table_rows}
use Rattle.hid_names.proofs.pages.look_up.Given as goal

-- what the rest of the rows have is what the rows have
abbrev pub invariant-loop-row : goal.invariant-loop-row
invariant-loop-row l = name_under (table_rows (drop l.row-index l.rows)) l.id ≡ name_under (table_rows l.rows) l.id
