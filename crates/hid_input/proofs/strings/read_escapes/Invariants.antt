use Rattle.std.proofs.Common.{◌≡◌, drop, Some}
use Rattle.hid_input.specs.declared.strings.Spot.TheVariants.{Inside}
use Rattle.hid_input.specs.Words.{both}
use Rattle.hid_input.specs.Strings.{escapes_from}
use Rattle.hid_input.proofs.strings.read_escapes.Given as goal

-- the bytes so far, and those of the rest, are those of the text
abbrev pub invariant-loop-at : goal.invariant-loop-at
invariant-loop-at l = both (Some l.bytes.items) (escapes_from l.spot (drop l.at l.text)) ≡ escapes_from (Inside l.fn.quote) l.text
