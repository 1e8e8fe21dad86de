use Rattle.std.proofs.Common.{◌≡◌, ◌+◌, ◌<◌, drop}
use Rattle.std.specs.Prelude.{IfSome}
use Rattle.std.specs.Option.{option_map}
use Rattle.lab_lines.specs.ControlNames.{either, last_mark}
use Rattle.lab_lines.proofs.control_name.last_mark.Given as goal

-- the last mark of the bytes so far
abbrev pub invariant-loop-at : goal.invariant-loop-at
invariant-loop-at l =
    (either (option_map (λ k. l.at + k) (last_mark (drop l.at l.word))) l.mark ≡ last_mark l.word) × IfSome l.mark (λ m. m < l.at)
