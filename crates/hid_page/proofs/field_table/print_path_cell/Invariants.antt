use Rattle.std.proofs.Common.{◌≡◌, ◌++◌, take}
use Rattle.std.specs.Prelude.{string_bytes, codes}
use Rattle.std.specs.List.{flat_map}
use Rattle.hid_drawing.specs.Escape.{escaped_words}
use Rattle.hid_drawing.specs.Words.{collection_words}
use Rattle.hid_page.proofs.field_table.print_path_cell.Given as goal

-- the collections so far
abbrev pub invariant-loop-collection : goal.invariant-loop-collection
invariant-loop-collection l =
    string_bytes l.text
    ≡ string_bytes l.fn.text
    ++ flat_map (λ collection. escaped_words (collection_words collection) ++ codes "<br>")
    (take l.collection-index l.path)
