use Rattle.std.proofs.Common.{◌≡◌, ◌+◌, ◌≤◌, map, take, drop, length}
use Rattle.std.specs.Vec.{vec_len, vec_capacity}
use Rattle.hid_layout.specs.Layout.{item_of}
use Rattle.hid_layout.proofs.layout.items_of.Given as goal

-- the items so far are those of the fields so far, and there is room for the others
abbrev pub invariant-loop-field : goal.invariant-loop-field
invariant-loop-field l =
    (l.items.items ≡ map (item_of l.reports) (take l.field-index l.fields))
    × (vec_len l.items + length (drop l.field-index l.fields) ≤ vec_capacity l.items)
