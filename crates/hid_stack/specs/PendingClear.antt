-- A Clear that is pending, whatever else its host asks meanwhile (USB 2.0, 8.5.3.3, 8.6 and 9.4.5).
use Rattle.std.specs.Prelude.{◌≡◌, false, List, [], ◌∷◌, Option, Some, None}
use Rattle.usb_transact.specs.declared.transaction.Fate.{Fate}
use Rattle.usb_control.specs.declared.host.HostStage.TheVariants.{Done}
use Rattle.hid_requests.specs.declared.request.Request.TheVariants.{Clear}
use Rattle.hid_host.specs.declared.host.Transfer.{Transfer}
use Rattle.hid_stack.specs.Members.{Member, MemberStep, Begins, Controls, Resets, member_after, member_after_all, polls_it}
use Rattle.hid_stack.specs.Transfers.{IsCleared}

-- the transfer that was begun last is a Clear, and it is done
abbrev pub IsClearDone : Option Transfer → Type 0
IsClearDone None = ⊥
IsClearDone (Some t) = (t.request ≡ Clear) × (t.ends.stage ≡ Done)

-- a step that leaves a Clear pending: no reset, and none by which a Clear is done
abbrev pub StepLeavesPending : MemberStep → Member → Type 0
StepLeavesPending Resets n = ⊥
StepLeavesPending x n = IsClearDone n.transfer → ⊥

-- each of these steps leaves a Clear pending: other requests may begin and end among them, and a Clear that failed may
-- begin again
abbrev pub StepsLeavePending : Member → List MemberStep → Type 0
StepsLeavePending m [] = Unit {0}
StepsLeavePending m (x ∷ steps) = StepLeavesPending x (member_after m x) × StepsLeavePending (member_after m x) steps

-- From the begin of a Clear until one is done or the bus is reset the host polls nothing: also while the Clear has failed,
-- and other requests begin and end. Where a try ends one, both ends start again.
abbrev pub IsPendingUntilDone : Member → List MemberStep → Type 0
IsPendingUntilDone m steps =
    let begun = member_after m (Begins Clear) in let n = member_after_all begun steps in StepsLeavePending begun steps
    → (polls_it n ≡ false)
    × ((fate : Fate) → IsClearDone (member_after n (Controls fate)).transfer
    → IsCleared (member_after n (Controls fate)))
