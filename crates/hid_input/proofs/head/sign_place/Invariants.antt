use Rattle.std.proofs.Common.{◌≡◌, ◌<◌, drop, length}
use Rattle.std.specs.Prelude.{IfSome}
use Rattle.hid_input.specs.Head.{is_sign, last_from, last_place}
use Rattle.hid_input.proofs.head.sign_place.Given as goal

-- what is left decides, and what is found is in the text
abbrev pub invariant-loop-at : goal.invariant-loop-at
invariant-loop-at l = record {
  left : last_from is_sign l.found l.at (drop l.at l.text) ≡ last_place is_sign l.text;
  within : IfSome l.found (λ place. place < length l.text);
}
