use Rattle.std.proofs.Common.{◌≡◌, ◌+◌, ◌++◌, replicate}
use Rattle.arrayvec.specs.ArrayVec.{array_vec_len}
use Rattle.hid_snapshots.proofs.encode.push_zeros.Given as goal

abbrev pub invariant-loop-k : goal.invariant-loop-k
invariant-loop-k l = record {
  so_far : l.bytes.items ≡ l.fn.bytes.items ++ replicate l.k 0;
  len : array_vec_len l.bytes ≡ array_vec_len l.fn.bytes + l.k;
}
