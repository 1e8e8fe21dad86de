use Rattle.std.proofs.Common.{◌≡◌, ◌++◌, ◌+◌, ◌≤◌, drop, take, vec_len, vec_capacity}
use Rattle.hid_driver.specs.Interfaces.{all_back_events, total_room}
use Rattle.hid_driver.proofs.driver.release_all.Given as goal

abbrev pub invariant-loop-place : goal.invariant-loop-place
invariant-loop-place l = record {
  stays : l.interfaces.items ≡ l.fn.interfaces.items;
  len : vec_len l.interfaces ≡ vec_len l.fn.interfaces;
  events : l.out.items ++ all_back_events l.place (drop l.place l.fn.interfaces.items)
      ≡ l.fn.out.items ++ all_back_events 0 l.fn.interfaces.items;
  few : vec_len l.out ≤ vec_len l.fn.out + total_room (take l.place l.fn.interfaces.items);
  room : vec_capacity l.out ≡ vec_capacity l.fn.out;
}
