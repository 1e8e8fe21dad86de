use Rattle.std.proofs.Common.{◌≡◌, ◌++◌, drop}
use Rattle.hid_input.specs.declared.plain.Scene.TheVariants.{Blank}
use Rattle.hid_input.specs.Plain.{shown_from, end_from}
use Rattle.hid_input.proofs.plain.without_comments.Given as goal

-- what is written, and what the rest is written as; where the end stands
abbrev pub invariant-loop-at : goal.invariant-loop-at
invariant-loop-at l = record {
  written : l.shown.items ++ shown_from l.scene l.sign (drop l.at l.text) ≡ shown_from Blank l.sign l.text;
  end : end_from l.scene l.sign (drop l.at l.text) ≡ end_from Blank l.sign l.text;
}
