use Rattle.hid_any_device.proofs.QueueLemmas.{headline, poll_returns, step_delivers}
use Rattle.hid_any_device.proofs.laws.any_device_is_read.Goals as goal

pub returns-clause-reports : goal.returns-clause-reports
returns-clause-reports c = headline

pub returns-clause-step : goal.returns-clause-step
returns-clause-step c = step_delivers

pub returns-clause-outcome : goal.returns-clause-outcome
returns-clause-outcome c = poll_returns
