-- A URB with its bytes as lists, and the numbers that usbmon and USBPcap share.
use Rattle.std.specs.Prelude.{◌≡◌, ℕ, ◌%◌, ◌==◌, nat_lt, if◌then◌else◌, Bool, true, false, List, Option, Some, None, Result, Ok, Err}
use Rattle.usb_capture.specs.declared.urb.Direction.{Direction}
use Rattle.usb_capture.specs.declared.urb.Direction.TheVariants.{Out, In}
use Rattle.usb_capture.specs.declared.urb.Transfer.{Transfer}
use Rattle.usb_capture.specs.declared.urb.Transfer.TheVariants.{Isochronous, Interrupt, Control, Bulk}
use Rattle.usb_capture.specs.declared.urb.Urb.{Urb}
use Rattle.usb_capture.specs.declared.urb.UrbEvent.{UrbEvent}
use Rattle.usb_capture.specs.declared.urb.UrbEvent.TheVariants.{Completed, Stalled, Failed}
use Rattle.usb_capture.specs.declared.urb_fault.UrbFault.{UrbFault}

-- id, bus, device's address, endpoint's number, direction, transfer, event, SETUP packet, the data that were captured, and whether
-- some of the frame is missing
pub record UrbRecord : Type 0 where
  pub id : ℕ
  pub bus : ℕ
  pub device : ℕ
  pub endpoint : ℕ
  pub direction : Direction
  pub transfer : Transfer
  pub event : UrbEvent
  pub setup : Option (List ℕ)
  pub payload : List ℕ
  pub is_truncated : Bool

-- a URB that a frame gives, with its bytes as lists
abbrev pub urb_record : Urb → UrbRecord
urb_record urb = record {
  id = urb.id;
  bus = urb.bus;
  device = urb.device;
  endpoint = urb.endpoint;
  direction = urb.direction;
  transfer = urb.transfer;
  event = urb.event;
  setup = urb.setup;
  payload = urb.payload.now;
  is_truncated = urb.is_truncated;
}

-- what was read is what the definition reads
abbrev pub GivesUrb : Result Urb UrbFault → Result UrbRecord UrbFault → Type 0
GivesUrb (Ok urb) given = given ≡ Ok (urb_record urb)
GivesUrb (Err fault) given = given ≡ Err fault

-- the type of a transfer, by its number
unfoldable pub transfer_of : ℕ → Option Transfer
transfer_of number =
    if number == 0 then Some Isochronous
    else if number == 1 then Some Interrupt
    else if number == 2 then Some Control
    else if number == 3 then Some Bulk
    else None

-- a control transfer
abbrev pub is_control : Transfer → Bool
is_control Isochronous = false
is_control Interrupt = false
is_control Control = true
is_control Bulk = false

-- an isochronous transfer
abbrev pub is_isochronous : Transfer → Bool
is_isochronous Isochronous = true
is_isochronous Interrupt = false
is_isochronous Control = false
is_isochronous Bulk = false

-- the number of an endpoint, by its address
abbrev pub endpoint_of : ℕ → ℕ
endpoint_of address = address % 128

-- the direction of an endpoint, by its address: bit 7 is set where data go to the host
abbrev pub direction_of : ℕ → Direction
direction_of address = if nat_lt address 128 then Out else In

-- what came of a URB that ended with a status, where one status means STALL
abbrev pub event_of : ℕ → ℕ → UrbEvent
event_of status stall =
    if status == 0 then Completed else if status == stall then Stalled else Failed status
