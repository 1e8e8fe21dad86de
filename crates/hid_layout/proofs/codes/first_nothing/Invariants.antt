use Rattle.std.proofs.Common.{◌≤◌, ◌+◌, ◌*◌, ◌^◌}
use Rattle.hid_layout.proofs.EmptyCodeLemmas.{Continues, AllNamed}
use Rattle.hid_layout.proofs.codes.first_nothing.Given as goal

-- the entries before this one take the places below its start, and no place up to the next one names nothing
abbrev pub invariant-loop-entry : goal.invariant-loop-entry
invariant-loop-entry l =
    (l.start ≤ l.next) × (l.from ≤ l.next) × (l.start ≤ 65536 * l.entry-index) × (l.next ≤ 2 ^ 34 + 65536 * l.entry-index)
    × Continues l.entries l.start l.entry-index × AllNamed l.entries l.from l.next
