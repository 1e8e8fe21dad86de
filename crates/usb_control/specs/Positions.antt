-- The stages of both ends of a transfer, by their positions (USB 2.0, 8.5.3 and 8.6).
use Rattle.std.specs.Prelude.{◌≡◌, ℕ, zero, suc, ◌*◌, ◌<◌, ◌⊎◌, Bool, true, false, not, ◌==◌, if◌then◌else◌, List, [], length, take, Option, Some, None}
use Rattle.usb_transact.specs.declared.transaction.Fate.{Fate}
use Rattle.usb_control.specs.declared.setup.Setup.{Setup as Request}
use Rattle.usb_control.specs.declared.device.Stage.{Stage}
use Rattle.usb_control.specs.declared.device.Stage.TheVariants as stages
use Rattle.usb_control.specs.declared.fault.ControlFault.{ControlFault}
use Rattle.usb_control.specs.declared.host.HostStage.{HostStage}
use Rattle.usb_control.specs.declared.host.HostStage.TheVariants as tries
use Rattle.usb_control.specs.Requests.{PrepareGives, ApplyGives, AnswerOf}
use Rattle.usb_control.specs.Device.{DevControlState}
use Rattle.usb_control.specs.Host.{HostTransferState}
use Rattle.usb_control.specs.Transfer.{Shape, transfer_shape, Decision, Refused, Accepted, Position, Setup, Piece, Status, Past, Place, answered_bytes, comes_from_device, data_pieces, first_position, next_position, Tries}

-- whether a data piece goes out as DATA1: the first one does
abbrev pub piece_toggle : ℕ → Bool
piece_toggle zero = true
piece_toggle (suc k) = not (piece_toggle k)

-- the host's stage, in a read or a write
abbrev pub host_stage : Shape → Position → HostStage
host_stage shape Setup = tries.Setup
host_stage shape (Piece k) =
    if shape.reads then tries.DataIn (piece_toggle k) else tries.DataOut (8 * k) (piece_toggle k)
host_stage shape Status = if comes_from_device shape Status then tries.StatusIn else tries.StatusOut
host_stage shape Past = tries.Done

-- the first pieces of these bytes, joined
abbrev pub bytes_before : List ℕ → Position → List ℕ
bytes_before bytes Setup = []
bytes_before bytes (Piece k) = take (8 * k) bytes
bytes_before bytes Status = bytes
bytes_before bytes Past = bytes

-- the bytes that the host holds: those that it sends, or those that it has got
abbrev pub host_bytes : Shape → List ℕ → Decision → Position → List ℕ
host_bytes shape bytes decision position =
    if shape.reads then bytes_before (answered_bytes shape decision) position else bytes

-- the device's stage in an accepted read, once it has the SETUP
abbrev pub read_stage : ℕ → Position → Stage
read_stage len (Piece k) = stages.ReadData len (8 * k) (piece_toggle k)
read_stage len _ = stages.StatusOut

-- the device's stage in a write: its bytes so far, then the status, before and after the write took effect
abbrev pub write_stage : ℕ → List ℕ → ℕ → Bool → Position → Stage
write_stage len bytes count applied (Piece k) =
    stages.WriteData len (piece_toggle k) (record { items = take (8 * k) bytes }) true
write_stage len bytes count true Status = stages.StatusIn
write_stage len bytes count false Status =
    stages.WriteData len (piece_toggle count) (record { items = bytes }) false
write_stage len bytes count applied _ = stages.Idle

-- the device's stage in a read of no bytes, which has a status alone
abbrev pub empty_read_stage : Position → Stage
empty_read_stage Status = stages.StatusIn
empty_read_stage _ = stages.Idle

-- the stage of the device in an accepted request
abbrev pub accepted_stage : Shape → List ℕ → ℕ → Bool → Position → Stage
accepted_stage shape bytes count applied position =
    if shape.reads
    then (if shape.length == 0 then empty_read_stage position else read_stage shape.length position)
    else write_stage shape.length bytes count applied position

-- the device stands at its position, once it has the SETUP
abbrev pub DeviceIsAtAfterSetup :
    {R : Type 0} → AnswerOf R → Shape → List ℕ → Decision → Bool → Position → DevControlState R
    → Type 0
DeviceIsAtAfterSetup answer_of shape bytes Refused applied position control = control.stage ≡ stages.Idle
DeviceIsAtAfterSetup answer_of shape bytes (Accepted answer) applied position control =
    (control.stage
    ≡ accepted_stage shape bytes (data_pieces shape (Accepted answer)) applied position)
    × (shape.reads ≡ true → answer_of control.requests ≡ answer)

-- the device stands at its position: before it has the SETUP, anywhere
abbrev pub DeviceIsAt :
    {R : Type 0} → AnswerOf R → Shape → List ℕ → Decision → Bool → Position → DevControlState R
    → Type 0
DeviceIsAt answer_of shape bytes decision applied Setup control = Unit {0}
DeviceIsAt answer_of shape bytes decision applied position control =
    DeviceIsAtAfterSetup answer_of shape bytes decision applied position control

-- the device is at the piece before the k-th one
abbrev pub IsPieceBefore : ℕ → Position → Type 0
IsPieceBefore k device = (j : ℕ) × (suc j ≡ k) × (device ≡ Piece j)

-- the two ends near a piece: its receiver may have it before the sender knows
abbrev pub NearPiece : Bool → ℕ → ℕ → Bool → Position → Type 0
NearPiece true count k applied device = (k < count) × ((device ≡ Piece k) ⊎ IsPieceBefore k device)
NearPiece false count k applied device =
    (k < count) × (applied ≡ false) × ((device ≡ Piece k) ⊎ (device ≡ next_position count (Piece k)))

-- the two ends near the status: where the device sends it, both are at it; where the host sends it, the device may be
-- past it, or at the last piece
abbrev pub NearStatus : Bool → ℕ → Position → Type 0
NearStatus true count device = device ≡ Status
NearStatus false count device = (device ≡ Status) ⊎ (device ≡ Past) ⊎ IsPieceBefore count device

-- the positions that the device may have at a position of the host: the same, or one piece before or after; after a refusal
-- the first; any once the host has the status
abbrev pub AreWithinAPiece : Shape → Decision → Bool → Position → Position → Type 0
AreWithinAPiece shape decision applied Setup device =
    (device ≡ Setup) ⊎ (device ≡ first_position (data_pieces shape decision))
AreWithinAPiece shape Refused applied host device = device ≡ first_position (data_pieces shape Refused)
AreWithinAPiece shape (Accepted answer) applied (Piece k) device =
    NearPiece (shape.reads) (data_pieces shape (Accepted answer)) k applied device
AreWithinAPiece shape (Accepted answer) applied Status device =
    NearStatus (comes_from_device shape Status) (data_pieces shape (Accepted answer)) device
AreWithinAPiece shape (Accepted answer) applied Past device = Unit {0}

-- the host stands at its position
pub record HostIsAt (shape : Shape) (sends : List ℕ) (place : Place)
    (host : HostTransferState) : Type 0 where
  pub asked : transfer_shape host.setup ≡ shape
  pub stage : host.stage ≡ host_stage shape place.host
  pub bytes : host.bytes ≡ host_bytes shape sends place.decision place.host
  pub tries : host.tries ≡ place.tries

-- both ends of a transfer that hasn't failed stand at their positions
pub record BothAreAt {R : Type 0} (answer_of : AnswerOf R) (shape : Shape) (sends : List ℕ)
    (place : Place) (host : HostTransferState) (control : DevControlState R) : Type 0 where
  pub whole : shape.reads ≡ false → length sends ≡ shape.length
  pub sender : HostIsAt shape sends place host
  pub near : AreWithinAPiece shape place.decision place.applied place.host place.device
  pub device : DeviceIsAt answer_of shape sends place.decision place.applied place.device control

-- both ends stand at a place with or without a fault: a transfer that failed is at its host alone
abbrev pub TransferIsAtWithFault :
    {R : Type 0} → AnswerOf R → Shape → List ℕ → Place → Option ControlFault → HostTransferState
    → DevControlState R → Type 0
TransferIsAtWithFault answer_of shape sends place None host control =
    BothAreAt answer_of shape sends place host control
TransferIsAtWithFault answer_of shape sends place (Some fault) host control = host.stage ≡ tries.Failed fault

-- a transfer of this shape, which sends these bytes if it is a write, and the device's endpoint 0 stand at the
-- place
abbrev pub TransferIsAt :
    {R : Type 0} → AnswerOf R → Shape → List ℕ → Place → HostTransferState → DevControlState R
    → Type 0
TransferIsAt answer_of shape sends place host control =
    TransferIsAtWithFault answer_of shape sends place place.fault host control

-- a try with this fate leads from a place to one at which both ends then stand
abbrev pub TryLeadsOn :
    {R : Type 0} → PrepareGives R → ApplyGives R → AnswerOf R → Request → List ℕ → Fate → Place → R
    → HostTransferState → DevControlState R → Type 0
TryLeadsOn prepare_gives apply_gives answer_of request sends fate place before host control =
    (after : Place)
    × Tries prepare_gives apply_gives answer_of request sends fate place before after control.requests
    × TransferIsAt answer_of (transfer_shape request) sends after host control
