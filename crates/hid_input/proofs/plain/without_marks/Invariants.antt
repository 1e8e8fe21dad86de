use Rattle.std.proofs.Common.{◌≡◌, ◌++◌, drop, true}
use Rattle.hid_input.specs.Plain.{unmarked_from}
use Rattle.hid_input.proofs.plain.without_marks.Given as goal

-- what is written, and what the rest is written as
abbrev pub invariant-loop-byte : goal.invariant-loop-byte
invariant-loop-byte l = l.unmarked.items ++ unmarked_from l.is_first (drop l.byte-index l.text) ≡ unmarked_from true l.text
