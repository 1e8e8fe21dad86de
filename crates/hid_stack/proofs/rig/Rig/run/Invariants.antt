use Rattle.std.proofs.Common.{◌≡◌, ◌++◌, ◌+◌, ◌≤◌, take, vec_len, vec_capacity}
use Rattle.std.specs.List.{All}
use Rattle.hid_stack.specs.Rig.{FitsStep, NoneIsRefused, bus_after_all, deliveries_of_steps, max_events_of_steps}
use Rattle.hid_stack.specs.Sums.{ConfiguresBetweenRounds}
use Rattle.hid_stack.proofs.rig.Rig.run.Given as goal

-- the steps so far
abbrev pub invariant-loop-at : goal.invariant-loop-at
invariant-loop-at l = record {
  now : l.self ≡ bus_after_all l.fn.self (take l.at l.steps);
  told : l.out.items ≡ l.fn.out.items ++ deliveries_of_steps l.fn.self (take l.at l.steps);
  few : vec_len l.out ≤ vec_len l.fn.out + max_events_of_steps l.fn.self (take l.at l.steps);
  goes_on : NoneIsRefused l.fn.self (take l.at l.steps);
  between : ConfiguresBetweenRounds l.fn.self (take l.at l.steps);
  fits : All FitsStep (take l.at l.steps);
  capacity : vec_capacity l.fn.out ≤ vec_capacity l.out;
}
