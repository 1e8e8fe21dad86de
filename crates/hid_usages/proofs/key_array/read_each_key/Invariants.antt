use Rattle.std.proofs.Common.{◌≡◌, ◌≤◌, ℕ, false, take, drop, length, IfSome}
use Rattle.std.specs.List.{list_any}
use Rattle.hid_snapshots.specs.Words.{is_on}
use Rattle.hid_usages.specs.Keeping.{NamesNoNewKey}
use Rattle.hid_usages.specs.KeyArrays.{keys_of_array, is_rollover_number, AreKeysNamed}
use Rattle.hid_usages.proofs.key_array.read_each_key.Given as goal

abbrev pub invariant-loop-k : goal.invariant-loop-k
invariant-loop-k g l = record {
  so_far : AreKeysNamed l.array (take l.k l.numbers) l.named;
  others : (i : ℕ) → length (keys_of_array l.array) ≤ i → is_on l.named i ≡ false;
  len : length l.named ≡ length l.fn.named;
  none : list_any (is_rollover_number l.array) (drop l.k l.numbers) ≡ list_any (is_rollover_number l.array) l.numbers;
  rolls : IfSome l.last (λ v. is_rollover_number l.array v ≡ false);
  again : NamesNoNewKey l.array.item.now (take l.k l.numbers) (keys_of_array l.array) l.last;
}
