use Rattle.std.proofs.Common.{◌≡◌, ◌++◌}
use Rattle.std.specs.Prelude.{string_bytes}
use Rattle.hid_notation.specs.Text.{concat_below}
use Rattle.hid_page.specs.Page.{mark_at}
use Rattle.hid_page.proofs.field_table.print_marks.Given as goal

-- the items so far
abbrev pub invariant-loop-k : goal.invariant-loop-k
invariant-loop-k l =
    string_bytes l.text ≡ string_bytes l.fn.text ++ concat_below l.k (mark_at l.items l.m)
