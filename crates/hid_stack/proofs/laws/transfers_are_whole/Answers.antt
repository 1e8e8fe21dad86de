use Rattle.hid_stack.proofs.ClearLemmas.{clears_so}
use Rattle.hid_stack.proofs.PendingLemmas.{pending_until_done}
use Rattle.hid_stack.proofs.WholeLemmas.{ended_by_reset, unconcluded_once, whole}
use Rattle.hid_stack.proofs.laws.transfers_are_whole.Goals as goal

pub returns-clause-whole : goal.returns-clause-whole
returns-clause-whole c = whole

pub returns-clause-unconcluded : goal.returns-clause-unconcluded
returns-clause-unconcluded c = unconcluded_once

pub returns-clause-reset : goal.returns-clause-reset
returns-clause-reset c = λ m request steps lays fits none begins later others.
    ended_by_reset m request steps later lays fits none begins others

pub returns-clause-clears : goal.returns-clause-clears
returns-clause-clears c = clears_so

pub returns-clause-pending : goal.returns-clause-pending
returns-clause-pending c = pending_until_done
