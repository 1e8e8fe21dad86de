use Rattle.std.proofs.Common.{◌≡◌, ◌++◌}
use Rattle.std.specs.Prelude.{string_bytes}
use Rattle.hid_notation.specs.Text.{concat_below}
use Rattle.hid_page.specs.Windows.{window}
use Rattle.hid_page.proofs.windows.print_windows_by.Given as goal

-- the windows so far
abbrev pub invariant-loop-k : goal.invariant-loop-k
invariant-loop-k l =
    string_bytes l.text ≡ string_bytes l.fn.text ++ concat_below l.k (window l.r l.depth l.rows l.bytes)
