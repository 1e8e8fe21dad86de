use Rattle.std.proofs.Common.{◌≡◌, drop, false}
use Rattle.hid_input.specs.Spelled.{is_loose_from}
use Rattle.hid_input.proofs.spelled.comma_place.Given as goal

-- no comma so far is loose
abbrev pub invariant-loop-at : goal.invariant-loop-at
invariant-loop-at l = is_loose_from l.is_word l.has_word (drop l.at l.text) ≡ is_loose_from false false l.text
