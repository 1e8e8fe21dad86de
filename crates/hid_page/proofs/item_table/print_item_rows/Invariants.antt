use Rattle.std.proofs.Common.{◌≡◌, ◌++◌}
use Rattle.std.specs.Prelude.{string_bytes, slice_get}
use Rattle.hid_notation.specs.Text.{concat_below}
use Rattle.hid_page.specs.ItemTable.{row_at}
use Rattle.hid_page.proofs.item_table.print_item_rows.Given as goal

-- the items so far
abbrev pub invariant-loop-k : goal.invariant-loop-k
invariant-loop-k l =
    string_bytes l.text
    ≡ string_bytes l.fn.text ++ concat_below l.k (λ k. row_at l.items k (slice_get l.items k))
