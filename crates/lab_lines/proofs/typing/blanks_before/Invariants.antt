use Rattle.std.proofs.Common.{◌≡◌, ◌+◌, drop}
use Rattle.std.specs.List.{prefix_len}
use Rattle.hid_text.specs.Words.{is_blank}
use Rattle.lab_lines.proofs.typing.blanks_before.Given as goal

-- the bytes so far are blanks
abbrev pub invariant-loop-at : goal.invariant-loop-at
invariant-loop-at l = prefix_len is_blank l.text ≡ l.at + prefix_len is_blank (drop l.at l.text)
