use Rattle.std.proofs.Common.{◌≡◌, drop}
use Rattle.hid_input.specs.Head.{are_few, names_from, is_declaration}
use Rattle.hid_input.proofs.head.is_declaration.Given as goal

-- what is left decides
abbrev pub invariant-loop-byte : goal.invariant-loop-byte
invariant-loop-byte l = are_few (names_from l.least l.part l.count (drop l.byte-index l.text)) ≡ is_declaration l.least l.text
