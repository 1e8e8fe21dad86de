use Rattle.std.proofs.Common.{◌≡◌, drop}
use Rattle.hid_input.specs.Plain.{is_open_from, has_open_line}
use Rattle.hid_input.proofs.plain.has_open_line.Given as goal

-- what is left decides
abbrev pub invariant-loop-byte : goal.invariant-loop-byte
invariant-loop-byte l = is_open_from l.last l.is_below (drop l.byte-index l.text) ≡ has_open_line l.text
