use Rattle.std.proofs.Common.{◌≡◌, ◌++◌, ◌+◌, ◌*◌, ◌≤◌, drop, length, map}
use Rattle.std.specs.Vec.{vec_len, vec_capacity}
use Rattle.hid_report_descriptor.specs.Locals.{entry_on_page}
use Rattle.hid_report_descriptor.specs.Usages.{starts_from}
use Rattle.hid_report_descriptor.proofs.item_lists.add_starts.Given as goal

-- what was added, with what comes from here on, is all
abbrev pub invariant-loop-entry : goal.invariant-loop-entry
invariant-loop-entry l = record {
  small : l.before ≤ 65536 * l.entry-index;
  added : l.starts.items ++ starts_from l.before (map (entry_on_page l.page) (drop l.entry-index l.named)) ≡ l.fn.starts.items ++ starts_from 0 (map (entry_on_page l.page) l.named);
  room : vec_len l.starts + length (drop l.entry-index l.named) ≤ vec_capacity l.starts;
}
