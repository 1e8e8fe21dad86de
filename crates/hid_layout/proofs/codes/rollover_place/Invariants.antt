use Rattle.std.proofs.Common.{◌≡◌, ◌≤◌, ◌*◌, drop}
use Rattle.hid_report_descriptor.specs.Usages.{usage_list}
use Rattle.hid_layout.specs.Controls.{rollover_from}
use Rattle.hid_layout.proofs.codes.rollover_place.Given as goal

-- the entries before this one take the places below its start, and name no rollover
abbrev pub invariant-loop-entry : goal.invariant-loop-entry
invariant-loop-entry l =
    (l.start ≤ 65536 * l.entry-index) × (rollover_from l.item 0 (usage_list l.entries) ≡ rollover_from l.item l.start (usage_list (drop l.entry-index l.entries)))
