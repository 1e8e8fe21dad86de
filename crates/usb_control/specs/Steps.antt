-- A whole transfer by its steps, and what answers requests after them (USB 2.0, 8.5.3).
use Rattle.std.specs.Prelude.{◌≡◌, ◌⊎◌, ℕ, Bool, true, false, List, [], ◌∷◌}
use Rattle.usb_transact.specs.declared.transaction.Fate.{Fate}
use Rattle.usb_control.specs.declared.setup.Setup.{Setup as Request}
use Rattle.usb_control.specs.SetupBytes.{reads}
use Rattle.usb_control.specs.Requests.{PrepareGives, ApplyGives, AnswerOf}
use Rattle.usb_control.specs.Device.{DevControlState}
use Rattle.usb_control.specs.Host.{HostTransferState, IsRunning}
use Rattle.usb_control.specs.Transaction.{Transacts}

-- one step of a transfer that runs, as `HostTransfer::step` says it
pub record IsStep {R : Type 0} (prepare_gives : PrepareGives R) (apply_gives : ApplyGives R)
    (answer_of : AnswerOf R) (fate : Fate) (host : HostTransferState) (old : DevControlState R)
    (host_then : HostTransferState) (new : DevControlState R) : Type 0 where
  pub running : IsRunning host.stage
  pub transacts : Transacts prepare_gives apply_gives answer_of fate host old host_then new
  pub same : host_then.setup ≡ host.setup

-- steps one after another, with these fates
abbrev pub Steps :
    {R : Type 0} → PrepareGives R → ApplyGives R → AnswerOf R → List Fate → HostTransferState
    → DevControlState R → HostTransferState → DevControlState R → Type 0
Steps prepare_gives apply_gives answer_of [] host old host_then new =
    (host_then ≡ host) × (new ≡ old)
Steps {R} prepare_gives apply_gives answer_of (fate ∷ fates) host old host_then new =
    (host_mid : HostTransferState) × (mid : DevControlState R)
    × IsStep prepare_gives apply_gives answer_of fate host old host_mid mid
    × Steps prepare_gives apply_gives answer_of fates host_mid mid host_then new

-- the write took effect once, with these bytes: its request was accepted, and then it was carried out
abbrev pub IsAppliedOnce :
    {R : Type 0} → PrepareGives R → ApplyGives R → Request → List ℕ → R → R → Type 0
IsAppliedOnce {R} prepare_gives apply_gives request bytes old now =
    (accepted : R) × prepare_gives old request true accepted × apply_gives accepted bytes now

-- all that a transfer may have done: nothing, or its request was decided on once, or as a write it took effect once
abbrev pub IsOnceAtMost :
    {R : Type 0} → PrepareGives R → ApplyGives R → Request → List ℕ → R → R → Type 0
IsOnceAtMost prepare_gives apply_gives request bytes old now =
    (now ≡ old)
    ⊎ (((said : Bool) × prepare_gives old request said now)
    ⊎ ((reads request ≡ false) × IsAppliedOnce prepare_gives apply_gives request bytes old now))
