use Rattle.hid_device.proofs.EndpointLemmas.{changes_leave, configuration_is, aborted_is, frames_leave, halts_leave, polls_leave, rounds_stay, snapshot_stays}
use Rattle.hid_device.proofs.laws.ends_are_apart.Goals as goal

pub returns-clause-snapshot : goal.returns-clause-snapshot
returns-clause-snapshot c = snapshot_stays

pub returns-clause-rounds : goal.returns-clause-rounds
returns-clause-rounds c = rounds_stay

pub returns-clause-configures : goal.returns-clause-configures
returns-clause-configures c = configuration_is

pub returns-clause-polls : goal.returns-clause-polls
returns-clause-polls c = polls_leave

pub returns-clause-changes : goal.returns-clause-changes
returns-clause-changes c = changes_leave

pub returns-clause-frames : goal.returns-clause-frames
returns-clause-frames c = frames_leave

pub returns-clause-aborts : goal.returns-clause-aborts
returns-clause-aborts c = aborted_is

pub returns-clause-halts : goal.returns-clause-halts
returns-clause-halts c = halts_leave
