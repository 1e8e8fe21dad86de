use Rattle.std.proofs.Common.{◌≡◌, ◌++◌, ◌≤◌, [], length, drop, vec_len, vec_capacity}
use Rattle.hid_driver.specs.Interfaces.{interfaces_after}
use Rattle.hid_driver.proofs.answers.interfaces_listed.Given as goal

abbrev pub invariant-loop-info : goal.invariant-loop-info
invariant-loop-info l = record {
  listed : l.listed.items ++ interfaces_after l.readable.items (drop l.info-index l.infos) ≡ interfaces_after [] l.infos;
  len : vec_len l.listed ≡ l.info-index;
  room : length l.infos ≤ vec_capacity l.listed;
  few : vec_len l.readable ≤ l.info-index;
  place : length l.infos ≤ vec_capacity l.readable;
}
