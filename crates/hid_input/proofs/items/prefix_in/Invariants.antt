use Rattle.std.proofs.Common.{◌≡◌, map}
use Rattle.hid_input.proofs.ItemsLemmas.{prefix_from}
use Rattle.hid_input.proofs.items.prefix_in.Given as goal

-- no row so far has this name
abbrev pub invariant-loop-name : goal.invariant-loop-name
invariant-loop-name l = prefix_from (map (λ row. (row.0.now, row.1)) l.table) l.wanted l.name-index ≡ prefix_from (map (λ row. (row.0.now, row.1)) l.table) l.wanted 0
