use Rattle.std.proofs.Common.{◌≡◌, drop}
use Rattle.hid_input.specs.Plain.{comment_sign}
use Rattle.hid_input.proofs.plain.comment_sign.Given as goal

-- what is left decides
abbrev pub invariant-loop-byte : goal.invariant-loop-byte
invariant-loop-byte l = comment_sign (drop l.byte-index l.text) ≡ comment_sign l.text
