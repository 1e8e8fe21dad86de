use Rattle.std.proofs.Common.{◌≡◌, ◌++◌, take}
use Rattle.std.specs.Prelude.{string_bytes}
use Rattle.std.specs.List.{flat_map}
use Rattle.hid_drawing.specs.Terminal.{bracket_line}
use Rattle.hid_drawing.proofs.terminal.print_bracket_lines.Given as goal

-- the brackets so far
abbrev pub invariant-loop-bracket : goal.invariant-loop-bracket
invariant-loop-bracket l =
    string_bytes l.text
    ≡ string_bytes l.fn.text ++ flat_map (λ bracket. bracket_line l.width l.layout bracket) (take l.bracket-index l.brackets)
