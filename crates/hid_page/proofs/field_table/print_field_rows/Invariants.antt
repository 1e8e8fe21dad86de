use Rattle.std.proofs.Common.{◌≡◌, ◌++◌}
use Rattle.std.specs.Prelude.{string_bytes}
use Rattle.hid_notation.specs.Text.{concat_below}
use Rattle.hid_page.specs.Page.{field_row_of}
use Rattle.hid_page.proofs.field_table.print_field_rows.Given as goal

-- the fields so far
abbrev pub invariant-loop-i : goal.invariant-loop-i
invariant-loop-i l =
    string_bytes l.text
    ≡ string_bytes l.fn.text ++ concat_below l.i (field_row_of l.layout l.items l.mains l.r)
