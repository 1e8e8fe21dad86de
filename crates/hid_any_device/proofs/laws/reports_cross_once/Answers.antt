use Rattle.hid_any_device.proofs.OnceLemmas.{drained, once_each}
use Rattle.hid_any_device.proofs.ProgressLemmas.{waiting_cross, waiting_cross_in_time}
use Rattle.hid_any_device.proofs.laws.reports_cross_once.Goals as goal

pub returns-clause-once : goal.returns-clause-once
returns-clause-once c = once_each

pub returns-clause-none_waits : goal.returns-clause-none_waits
returns-clause-none_waits c = drained

pub returns-clause-waiting : goal.returns-clause-waiting
returns-clause-waiting c = waiting_cross

pub returns-clause-in_time : goal.returns-clause-in_time
returns-clause-in_time c = waiting_cross_in_time
