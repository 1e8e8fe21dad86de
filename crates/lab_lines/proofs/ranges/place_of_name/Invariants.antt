use Rattle.std.proofs.Common.{◌≡◌}
use Rattle.hid_report_descriptor.specs.Usages.{entry_count}
use Rattle.lab_lines.specs.Names.{names}
use Rattle.lab_lines.specs.ControlNames.{AreOthers}
use Rattle.lab_lines.proofs.ranges.place_of_name.Given as goal

-- no usage so far has the name
abbrev pub invariant-loop-place : goal.invariant-loop-place
invariant-loop-place l = (l.place-end ≡ entry_count l.entry) × AreOthers (λ u. names u l.name) l.entry l.from l.place
