use Rattle.std.proofs.Common.{◌≡◌, ◌+◌, drop, reverse}
use Rattle.std.specs.List.{prefix_len, suffix_len}
use Rattle.hid_text.specs.Words.{is_blank}
use Rattle.lab_lines.proofs.typing.blanks_behind.Given as goal

-- the last bytes so far are blanks
abbrev pub invariant-loop-at : goal.invariant-loop-at
invariant-loop-at l = suffix_len is_blank l.text ≡ l.at + prefix_len is_blank (drop l.at (reverse l.text))
