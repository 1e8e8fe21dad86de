-- A control transfer over a bus that may lose packets: two positions in one list of pieces (USB 2.0, 5.5.3, 8.5.3 and
-- 8.6.4).
use Rattle.std.specs.Prelude.{◌≡◌, ℕ, suc, ◌+◌, ◌/◌, Bool, true, false, not, nat_lt, ◌==◌, ◌||◌, if◌then◌else◌, List, [], length, take, Option, Some, None, unwrap_or}
use Rattle.usb_transact.specs.declared.transaction.Fate.{Fate}
use Rattle.usb_transact.specs.declared.transaction.Fate.TheVariants.{Clean, TokenLost, ReplyLost, AckLost}
use Rattle.usb_control.specs.declared.setup.Setup.{Setup as Request}
use Rattle.usb_control.specs.declared.fault.ControlFault.{ControlFault}
use Rattle.usb_control.specs.declared.fault.ControlFault.TheVariants.{Stalled, BusFault}
use Rattle.usb_control.specs.SetupBytes.{reads}
use Rattle.usb_control.specs.Requests.{PrepareGives, ApplyGives, AnswerOf}

-- which way the data of a request go, and how many bytes it asks for
pub record Shape : Type 0 where
  pub reads : Bool
  pub length : ℕ

-- the shape of a request
abbrev pub transfer_shape : Request → Shape
transfer_shape request = record { reads = reads request; length = request.length }

-- what the device decided, with the answer that it fixed
pub data Decision : Type 0 where
  Refused : Decision
  Accepted : (answer : Option (List ℕ)) → Decision

-- the decision of a device, by whether it accepted, and by its answer
abbrev pub decision_of : Bool → Option (List ℕ) → Decision
decision_of false answer = Refused
decision_of true answer = Accepted answer

-- The places of the list of pieces: SETUP, the data from piece 0 on, the status, and the end. Example: the data of a
-- read of 18 bytes that gets 16 are three pieces, the last one empty
pub data Position : Type 0 where
  Setup : Position
  Piece : (k : ℕ) → Position
  Status : Position
  Past : Position

-- the answer of a read, no longer than what was asked for
abbrev pub answered_bytes : Shape → Decision → List ℕ
answered_bytes shape Refused = []
answered_bytes shape (Accepted answer) = take shape.length (unwrap_or answer [])

-- how many pieces of eight bytes n bytes are
abbrev pub piece_count : ℕ → ℕ
piece_count n = (n + 7) / 8

-- how many pieces the data of a read are: one empty piece more, where it is shorter than what was asked for
-- and a multiple of eight
abbrev pub read_pieces : ℕ → ℕ → ℕ
read_pieces asked n = if nat_lt n asked then n / 8 + 1 else piece_count n

-- how many data pieces a transfer has
abbrev pub data_pieces : Shape → Decision → ℕ
data_pieces shape decision =
    if shape.reads
    then read_pieces shape.length (length (answered_bytes shape decision))
    else piece_count shape.length

-- the first position after SETUP, and that after a data piece, where there are n
abbrev pub first_position : ℕ → Position
first_position count = if count == 0 then Status else Piece 0

-- the position after a position, where there are n data pieces
abbrev pub next_position : ℕ → Position → Position
next_position count Setup = first_position count
next_position count (Piece k) = if nat_lt (suc k) count then Piece (suc k) else Status
next_position count Status = Past
next_position count Past = Past

-- whether the piece at a position comes from the device: the status goes the other way than the data, and
-- comes where there are none
abbrev pub comes_from_device : Shape → Position → Bool
comes_from_device shape Setup = false
comes_from_device shape (Piece k) = shape.reads
comes_from_device shape Status = not shape.reads || (shape.length == 0)
comes_from_device shape Past = false

-- whether two positions are the same
abbrev pub is_same : Position → Position → Bool
is_same Setup Setup = true
is_same (Piece j) (Piece k) = j == k
is_same Status Status = true
is_same Past Past = true
is_same _ _ = false

-- The place of a transfer: how far its two ends have come, and what happened on the way.
pub record Place : Type 0 where
  -- the position of the host
  pub host : Position
  -- the position of the device
  pub device : Position
  -- what the device decided at the last SETUP that arrived
  pub decision : Decision
  -- whether a write took effect since then
  pub applied : Bool
  -- the number of tries in a row that had no answer
  pub tries : ℕ
  -- why the transfer failed, if it did
  pub fault : Option ControlFault

-- the place of a transfer before its first try
abbrev pub start : Place
start = record {
  host = Setup;
  device = Setup;
  decision = Refused;
  applied = false;
  tries = 0;
  fault = None;
}

-- the place after a try without an answer, of which the third in a row is the last
abbrev pub place_after_silence : Place → Place
place_after_silence place =
    if nat_lt place.tries 2
    then record place { tries = place.tries + 1 }
    else record place { fault = Some BusFault }

-- the place of a transfer once the host received STALL
abbrev pub place_after_stall : Place → Place
place_after_stall place = record place { fault = Some Stalled }

-- the place of a transfer once a SETUP arrived: the device has it, and decides
abbrev pub place_after_decision : ℕ → Decision → Place → Place
place_after_decision count decision place =
    record place { device = first_position count; decision = decision; applied = false }

-- the place after a try of SETUP, for each fate
abbrev pub place_after_setup : Fate → ℕ → Decision → Place → Place
place_after_setup TokenLost count decision place = place_after_silence place
place_after_setup ReplyLost count decision place =
    place_after_silence (place_after_decision count decision place)
place_after_setup AckLost count decision place =
    place_after_silence (place_after_decision count decision place)
place_after_setup Clean count decision place =
    record (place_after_decision count decision place) { host = first_position count; tries = 0 }

-- the place after a try of a piece that goes out: the device has it from the first try that arrives; the host goes on
-- after the first clean one
abbrev pub place_after_out : Fate → ℕ → Place → Place
place_after_out TokenLost count place = place_after_silence place
place_after_out ReplyLost count place =
    place_after_silence (record place { device = next_position count place.host })
place_after_out AckLost count place =
    place_after_silence (record place { device = next_position count place.host })
place_after_out Clean count place =
    record place { host = next_position count place.host; device = next_position count place.host; tries = 0 }

-- the host's position after a piece that came: it throws away the piece that it has already
abbrev pub host_position_after : ℕ → Position → Position → Position
host_position_after count host device = if is_same host device then next_position count host else host

-- the place after a try of a piece that comes: the host has it from the first try whose answer isn't lost; the device
-- goes on after the first clean one
abbrev pub place_after_in : Fate → ℕ → Place → Place
place_after_in TokenLost count place = place_after_silence place
place_after_in ReplyLost count place = place_after_silence place
place_after_in AckLost count place =
    record place { host = host_position_after count place.host place.device; tries = 0 }
place_after_in Clean count place =
    record place {
      host = host_position_after count place.host place.device;
      device =
          next_position count place.device;
      tries = 0;
    }

-- the place after a try of a refused request: a piece gets STALL, whose loss is that of an answer, or that of a
-- handshake
abbrev pub place_after_refusal : Fate → Bool → Place → Place
place_after_refusal Clean comes_in place = place_after_stall place
place_after_refusal AckLost true place = place_after_stall place
place_after_refusal _ comes_in place = place_after_silence place

-- a write takes effect at the first try of its status that arrives
abbrev pub applies : Shape → Fate → Position → Bool
applies shape TokenLost host = false
applies shape fate Status = not shape.reads
applies shape fate host = false

-- the place after a try of a piece after SETUP: of a refused request, or of an accepted one
abbrev pub place_after_piece : Shape → Fate → Decision → Place → Place
place_after_piece shape fate Refused place =
    place_after_refusal fate (comes_from_device shape place.host) place
place_after_piece shape fate (Accepted answer) place =
    let count = data_pieces shape (Accepted answer) in
    let reached : Place = record place { applied = applies shape fate place.host || place.applied } in
    if comes_from_device shape place.host then place_after_in fate count reached else place_after_out fate count reached

-- the place after one try, by the place of the host
abbrev pub place_after_try_at : Position → Shape → Fate → Decision → Place → Place
place_after_try_at Setup shape fate decision place =
    place_after_setup fate (data_pieces shape decision) decision place
place_after_try_at _ shape fate decision place = place_after_piece shape fate place.decision place

-- The place after one try with this fate, if a SETUP that arrives in it is decided like this. Example: after a read's
-- last ACK was lost the host is at the status and the device at the piece before it
abbrev pub place_after_try : Shape → Fate → Decision → Place → Place
place_after_try shape fate decision place = place_after_try_at place.host shape fate decision place

-- what a try does at the device
pub data Act : Type 0 where
  Nothing : Act
  Decides : (decision : Decision) → Act
  TakesEffect : Act

-- a SETUP that arrives is decided on, and the first status of an accepted write that arrives takes effect
abbrev pub act_at : Position → Shape → Fate → Decision → Decision → Bool → Act
act_at host shape TokenLost decision held applied = Nothing
act_at Setup shape fate decision held applied = Decides decision
act_at Status shape fate decision (Accepted answer) false =
    if shape.reads then Nothing else TakesEffect
act_at _ shape fate decision held applied = Nothing

-- what one try at a place does at the device
abbrev pub act_of : Shape → Fate → Decision → Place → Act
act_of shape fate decision place =
    act_at place.host shape fate decision place.decision place.applied

-- what an act may make of what answers requests, for a write of these bytes
abbrev pub Acts :
    {R : Type 0} → PrepareGives R → ApplyGives R → AnswerOf R → Request → List ℕ → Act → R → R
    → Type 0
Acts prepare_gives apply_gives answer_of request bytes Nothing old new = new ≡ old
Acts prepare_gives apply_gives answer_of request bytes (Decides decision) old new =
    (said : Bool) × prepare_gives old request said new
    × (decision ≡ decision_of said (answer_of new))
Acts prepare_gives apply_gives answer_of request bytes TakesEffect old new =
    apply_gives old bytes new

-- one try may go from a place to another, and do this to what answers requests
abbrev pub Tries :
    {R : Type 0} → PrepareGives R → ApplyGives R → AnswerOf R → Request → List ℕ → Fate → Place → R
    → Place → R → Type 0
Tries prepare_gives apply_gives answer_of request sends fate place old after new =
    (decision : Decision)
    × Acts prepare_gives apply_gives answer_of request sends
    (act_of (transfer_shape request) fate decision place) old new
    × (after ≡ place_after_try (transfer_shape request) fate decision place)
