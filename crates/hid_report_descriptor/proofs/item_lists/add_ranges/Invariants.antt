use Rattle.std.proofs.Common.{◌≡◌, ◌++◌, ◌+◌, ◌≤◌, take, drop, length, map}
use Rattle.std.specs.Vec.{vec_len, vec_capacity}
use Rattle.hid_report_descriptor.specs.Locals.{entry_on_page}
use Rattle.hid_report_descriptor.proofs.item_lists.add_ranges.Given as goal

-- what was added, and the room for the rest
abbrev pub invariant-loop-entry : goal.invariant-loop-entry
invariant-loop-entry l = record {
  entries_added : l.entries.items ≡ l.fn.entries.items ++ map (entry_on_page l.page) (take l.entry-index l.named);
  room : vec_len l.entries + length (drop l.entry-index l.named) ≤ vec_capacity l.entries;
}
