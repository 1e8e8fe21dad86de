use Rattle.std.proofs.Common.{◌≡◌, ◌*◌, ℕ, Bool, take, drop, All}
use Rattle.hid_fields.specs.Field.{bit_of, IsOutside}
use Rattle.hid_fields.specs.Value.{FitsField}
use Rattle.hid_snapshots.specs.Numbers.{numbers_in}
use Rattle.hid_snapshots.proofs.numbers.put_all.Given as goal

abbrev pub invariant-loop-k : goal.invariant-loop-k
invariant-loop-k g l = record {
  so_far : (signed : Bool) → All (λ v. FitsField v l.width signed) l.fn.numbers → numbers_in l.bytes l.at l.width signed l.k ≡ take l.k l.fn.numbers;
  left : l.numbers ≡ drop l.k l.fn.numbers;
  others : (n : ℕ) → IsOutside l.at (l.width * l.k) n → bit_of l.bytes n ≡ bit_of l.fn.bytes n;
}
