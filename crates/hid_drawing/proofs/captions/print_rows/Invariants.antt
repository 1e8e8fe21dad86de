use Rattle.std.proofs.Common.{◌≡◌, ◌++◌, take}
use Rattle.std.specs.Prelude.{string_bytes}
use Rattle.std.specs.List.{flat_map}
use Rattle.hid_drawing.specs.Words.{flag_words}
use Rattle.hid_drawing.proofs.captions.print_rows.Given as goal

-- the flags so far
abbrev pub invariant-loop-row : goal.invariant-loop-row
invariant-loop-row l =
    string_bytes l.text
    ≡ string_bytes l.fn.text ++ flat_map (λ row. flag_words l.flags row.0 row.1.now row.2.now) (take l.row-index l.rows)
