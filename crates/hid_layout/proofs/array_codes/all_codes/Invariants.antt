use Rattle.std.proofs.Common.{◌≡◌, ◌≤◌, length}
use Rattle.std.specs.Vec.{vec_capacity}
use Rattle.hid_layout.specs.ArrayCodes.{FitArrays}
use Rattle.hid_layout.proofs.array_codes.all_codes.Given as goal

-- the items so far have a place each, and the arrays among them their codes; there is room for the others
abbrev pub invariant-loop-i : goal.invariant-loop-i
invariant-loop-i l = record {
  one_each : length l.codes.items ≡ l.i;
  arrays : FitArrays l.items l.lists.entries l.codes.items;
  room : l.count ≤ vec_capacity l.codes;
}
