-- A transfer with other things between its tries: where both ends stand after a whole list (USB 2.0, 8.5.3).
use Rattle.std.specs.Prelude.{◌≡◌, ℕ, Bool, true, false, if◌then◌else◌, List, [], ◌∷◌}
use Rattle.usb_transact.specs.declared.transaction.Fate.{Fate}
use Rattle.usb_control.specs.declared.device.LastPacket.{LastPacket}
use Rattle.usb_control.specs.declared.host.HostStage.{HostStage}
use Rattle.usb_control.specs.declared.host.HostStage.TheVariants.{Done, Failed}
use Rattle.usb_control.specs.TryFunctions.{AppliesBy, PreparesBy, Table, control_tried, host_tried, takes_effect}
use Rattle.usb_control.specs.Device.{DevControlState}
use Rattle.usb_control.specs.Host.{HostTransferState}
use Rattle.usb_control.specs.Positions.{TransferIsAt}
use Rattle.usb_control.specs.Transfer.{Act, Acts, Decision, Place, TakesEffect, act_of, decision_of, place_after_try, transfer_shape}

-- the transfer at the host, and endpoint 0 of the device
pub record BothEnds (R : Type 0) : Type 0 where
  pub host : HostTransferState
  pub control : DevControlState R

-- a try of the transfer, or something else: what answers requests changes, and what endpoint 0 received last
pub data Turn (R : Type 0) : Type 0 where
  Tries : Fate → Turn R
  Meanwhile : (change : R → R) (hears : LastPacket → LastPacket) → Turn R

-- a transfer at this stage has another try to make
abbrev pub is_running : HostStage → Bool
is_running Done = false
is_running (Failed fault) = false
is_running _ = true

-- both ends after a try
abbrev pub ends_tried : {R : Type 0} → Table R → Fate → BothEnds R → BothEnds R
ends_tried table fate ends = record {
  host = host_tried table fate ends.host ends.control;
  control = control_tried table fate ends.host ends.control;
}

-- both ends after a turn: a transfer that is over is tried no more
abbrev pub ends_after_turn : {R : Type 0} → Table R → BothEnds R → Turn R → BothEnds R
ends_after_turn table ends (Tries fate) =
    if is_running ends.host.stage then ends_tried table fate ends else ends
ends_after_turn table ends (Meanwhile change hears) = record {
  host = ends.host;
  control = record {
    requests = change ends.control.requests;
    stage = ends.control.stage;
    last_packet = hears ends.control.last_packet;
  };
}

-- both ends after a list of turns
abbrev pub ends_after_turns : {R : Type 0} → Table R → BothEnds R → List (Turn R) → BothEnds R
ends_after_turns table ends [] = ends
ends_after_turns table ends (turn ∷ turns) = ends_after_turns table (ends_after_turn table ends turn) turns

-- what a SETUP that arrives now is decided
abbrev pub decision_now : {R : Type 0} → Table R → BothEnds R → Decision
decision_now table ends =
    decision_of (table.accepts ends.control.requests ends.host.setup)
    (table.answer_of (table.prepared ends.control.requests ends.host.setup))

-- the tries of a list of turns, each with what a SETUP that arrives in it is decided
abbrev pub tries_in : {R : Type 0} → Table R → BothEnds R → List (Turn R) → List (Fate × Decision)
tries_in table ends [] = []
tries_in table ends (Tries fate ∷ turns) =
    (fate, decision_now table ends) ∷ tries_in table (ends_after_turn table ends (Tries fate)) turns
tries_in table ends (Meanwhile change hears ∷ turns) =
    tries_in table (ends_after_turn table ends (Meanwhile change hears)) turns

-- what comes between the tries of a list of turns keeps the answer that is fixed
abbrev pub LeaveAnswers : {R : Type 0} → Table R → List (Turn R) → Type 0
LeaveAnswers table [] = Unit {0}
LeaveAnswers table (Tries fate ∷ turns) = LeaveAnswers table turns
LeaveAnswers {R} table (Meanwhile change hears ∷ turns) =
    ((requests : R) → table.answer_of (change requests) ≡ table.answer_of requests) × LeaveAnswers table turns

-- both ends stand at a place of the transfer
abbrev pub EndsAreAt : {R : Type 0} → Table R → List ℕ → Place → BothEnds R → Type 0
EndsAreAt table sends place ends =
    TransferIsAt table.answer_of (transfer_shape ends.host.setup) sends place ends.host ends.control

-- a write takes effect by an act
abbrev pub is_effect : Act → Bool
is_effect TakesEffect = true
is_effect _ = false

-- what a try at a place does at the device
abbrev pub act_now : {R : Type 0} → Table R → Place → Fate → BothEnds R → Act
act_now table place fate ends = act_of (transfer_shape ends.host.setup) fate (decision_now table ends) place

-- A try does at the device what its place says, and leads both ends to the next place.
pub record GoesBy {R : Type 0} (table : Table R) (sends : List ℕ) (place : Place) (fate : Fate)
    (ends : BothEnds R) : Type 0 where
  pub acts : Acts (PreparesBy table) (AppliesBy table) table.answer_of ends.host.setup sends
      (act_now table place fate ends) ends.control.requests (control_tried table fate ends.host ends.control).requests
  pub takes : takes_effect table fate ends.host ends.control ≡ is_effect (act_now table place fate ends)
  pub asked : (host_tried table fate ends.host ends.control).setup ≡ ends.host.setup
  pub stands : EndsAreAt table sends
      (place_after_try (transfer_shape ends.host.setup) fate (decision_now table ends) place)
      (ends_tried table fate ends)
