use Rattle.std.proofs.Common.{◌≡◌, ◌++◌, take}
use Rattle.std.specs.Prelude.{string_bytes, codes}
use Rattle.std.specs.List.{flat_map}
use Rattle.hid_drawing.specs.Escape.{escaped_words}
use Rattle.hid_drawing.specs.Words.{entry_text}
use Rattle.hid_page.proofs.field_table.print_usages_cell.Given as goal

-- the usages so far
abbrev pub invariant-loop-entry : goal.invariant-loop-entry
invariant-loop-entry l =
    string_bytes l.text
    ≡ string_bytes l.fn.text
    ++ flat_map (λ entry. escaped_words (entry_text entry) ++ codes "<br>") (take l.entry-index l.entries)
