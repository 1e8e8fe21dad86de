use Rattle.std.proofs.Common.{◌≡◌, ◌++◌, ◌+◌, ◌≤◌, take, drop, length}
use Rattle.std.specs.Vec.{vec_len, vec_capacity}
use Rattle.hid_report_descriptor.proofs.item_lists.add_path.Given as goal

-- what was added, and the room for the rest
abbrev pub invariant-loop-collection : goal.invariant-loop-collection
invariant-loop-collection l =
    (l.paths.items ≡ l.fn.paths.items ++ take l.collection-index l.path)
    × (vec_len l.paths + length (drop l.collection-index l.path) ≤ vec_capacity l.paths)
