-- What the frames of a capture say: which acts, in which order (our choice: docs/RECORDINGS.md).
use Rattle.std.specs.Prelude.{◌≡◌, ℕ, zero, suc, nat_lt, ◌==◌, ◌&&◌, Bool, true, false, List, [], ◌∷◌, ◌++◌, Option, None, Some, Result, Ok, Err, if◌then◌else◌, slice_get}
use Rattle.std.specs.Io.KnownBytes.{Appends}
use Rattle.usb_capture.specs.FrameRecord.{FrameRecord}
use Rattle.usb_capture.specs.UrbRecord.{UrbRecord}
use Rattle.usb_capture.specs.Urbs.{urb_of}
use Rattle.usb_capture.specs.declared.urb_fault.UrbFault.{UrbFault}
use Rattle.hid_capture.specs.Tracking.{Tracking, Outcome as Tracked, is_at, outcome, outcome_of_given}
use Rattle.hid_capture.specs.declared.tables.TrackedInterface.{TrackedInterface}
use Rattle.hid_capture.specs.declared.tracker.Content.{Content}
use Rattle.hid_capture.specs.declared.tracker.Content.TheVariants as contents
use Rattle.hid_recording.specs.declared.act.Act as declared
use Rattle.hid_recording.specs.declared.capture_player.Handling.{Handling}
use Rattle.hid_recording.specs.declared.capture_player.Handling.TheVariants.{Alone, Stray, Departure}
use Rattle.hid_recording.specs.declared.fault.Cause.{Cause}
use Rattle.hid_recording.specs.declared.fault.Refusal.TheVariants as refusals
use Rattle.hid_recording.specs.declared.given.EndpointAddress.{EndpointAddress}
use Rattle.hid_recording.specs.declared.given.GivenDescriptor.{GivenDescriptor}
use Rattle.hid_recording.specs.Acts.{Act, Descriptor, Report, RefusedFrame, Disconnection, act_of, ActsGive, ActsEnd}
use Rattle.hid_recording.specs.LineOutput.{with_line_counted}
use Rattle.hid_recording.specs.Moments.{time_text, frame_time}
use Rattle.hid_recording.specs.Session.{Session}

-- a report descriptor that isn't in the capture, and the endpoint whose interface it is of, if one is named
pub record Given : Type 0 where
  pub bytes : List ℕ
  pub endpoint : Option EndpointAddress

-- a descriptor that is given to the program, with its bytes as a list
abbrev pub given_record : GivenDescriptor → Given
given_record given = record { bytes = given.bytes.now; endpoint = given.endpoint }

-- the descriptor that is given to the program, if one is
abbrev pub given_of : Option GivenDescriptor → Option Given
given_of None = None
given_of (Some given) = Some (given_record given)

-- acts, and what is known of devices after them
pub record Said : Type 0 where
  pub acts : List Act
  pub after : Tracking

-- ---- one act

-- an act of a device, if it is one of sixteen
abbrev pub act_of_number : ℕ → Act → List Act
act_of_number n act = if nat_lt n 16 then act ∷ [] else []

-- what the content of a URB with these data says by itself
abbrev pub acts_of_content : List ℕ → Content → List Act
acts_of_content payload contents.Nothing = []
acts_of_content payload (contents.Descriptor n) = act_of_number n (Descriptor n payload)
acts_of_content payload contents.TruncatedDescriptor = RefusedFrame refusals.Truncated ∷ []
acts_of_content payload contents.TooManyInterfaces = RefusedFrame refusals.TooManyDevices ∷ []
acts_of_content payload (contents.Report n) = act_of_number n (Report n payload)
acts_of_content payload (contents.TruncatedReport n) = RefusedFrame refusals.Truncated ∷ []
acts_of_content payload contents.Undescribed = []
acts_of_content payload contents.Unknown = []
acts_of_content payload contents.BootReport = []
acts_of_content payload (contents.InterfaceDisconnected n) = act_of_number n (Disconnection n)
acts_of_content payload (contents.DeviceDisconnected bus device) = []

-- an act of the program, if there is one
abbrev pub acts_in : Option declared.Act → List Act
acts_in None = []
acts_in (Some act) = act_of act ∷ []

-- ---- a device that is gone

-- an interface is gone, if it is of this device
abbrev pub disconnection_at : ℕ → ℕ → ℕ → TrackedInterface → List Act
disconnection_at bus device n tracked =
    if is_at tracked.bus tracked.device bus device then acts_of_content [] (contents.InterfaceDisconnected n) else []

-- the interface with a number is gone, if there is one, and it is of this device
abbrev pub disconnection_in : ℕ → ℕ → ℕ → Option TrackedInterface → List Act
disconnection_in bus device n None = []
disconnection_in bus device n (Some tracked) = disconnection_at bus device n tracked

-- the interfaces of a device with the first n numbers are gone, in their order
abbrev pub first_disconnections : ℕ → ℕ → List TrackedInterface → ℕ → List Act
first_disconnections bus device interfaces zero = []
first_disconnections bus device interfaces (suc n) =
    first_disconnections bus device interfaces n ++ disconnection_in bus device n (slice_get interfaces n)

-- the interfaces of a device are gone, in the order of their numbers, of which there are sixteen
abbrev pub disconnections : ℕ → ℕ → List TrackedInterface → List Act
disconnections bus device interfaces = first_disconnections bus device interfaces 16

-- ---- a descriptor that is given

-- the descriptor is of this endpoint's interface: the endpoint that is named, or that of any HID interface
abbrev pub is_meant_by : Option EndpointAddress → Bool → UrbRecord → Bool
is_meant_by None is_hid urb = is_hid
is_meant_by (Some named) is_hid urb =
    is_at named.bus named.device urb.bus urb.device && (named.endpoint == urb.endpoint)

-- the data of a URB, once their interface has a number
abbrev pub content_of_data : Bool → ℕ → Content
content_of_data truncated n = if truncated then contents.TruncatedReport n else contents.Report n

-- the number of an interface that has a descriptor now
abbrev pub described_number : Content → Option ℕ
described_number (contents.Descriptor n) = Some n
described_number content = None

-- what data say whose interface may have the given descriptor from now on, by its number then
abbrev pub acts_of_given_by : List ℕ → UrbRecord → Content → Option ℕ → List Act
acts_of_given_by bytes urb content None = acts_of_content urb.payload content
acts_of_given_by bytes urb content (Some n) =
    acts_of_content bytes (contents.Descriptor n)
    ++ acts_of_content urb.payload (content_of_data urb.is_truncated n)

-- what data say whose interface has the given descriptor from now on: that descriptor, and then what they are
abbrev pub acts_of_given : List ℕ → UrbRecord → Content → List Act
acts_of_given bytes urb content = acts_of_given_by bytes urb content (described_number content)

-- what they say, and what is known then
abbrev pub said_of_given : Given → UrbRecord → Tracked → Said
said_of_given given urb tracked = record { acts = acts_of_given given.bytes urb tracked.content; after = tracked.after }

-- what data of an interface without a descriptor say
abbrev pub said_of_stray : Option Given → Bool → UrbRecord → Tracking → Said
said_of_stray None is_hid urb t = record { acts = []; after = t }
said_of_stray (Some given) is_hid urb t =
    if is_meant_by given.endpoint is_hid urb
    then said_of_given given urb (outcome_of_given t urb.bus urb.device urb.endpoint)
    else record { acts = []; after = t }

-- ---- frames

-- how a content is played: data of an interface without a descriptor may have the given one, a device that is gone has several
-- interfaces, and any other content says something by itself
abbrev pub handling_of : Content → Handling
handling_of contents.Undescribed = Stray true
handling_of contents.Unknown = Stray false
handling_of (contents.DeviceDisconnected bus device) = Departure bus device
handling_of content = Alone

-- what a URB says, by how its content is played
abbrev pub said_by : Option Given → UrbRecord → Tracking → Content → Handling → Said
said_by given urb t content (Stray is_hid) = said_of_stray given is_hid urb t
said_by given urb t content (Departure bus device) =
    record { acts = disconnections bus device t.interfaces; after = t }
said_by given urb t content Alone = record { acts = acts_of_content urb.payload content; after = t }

-- what a URB says, by its content
abbrev pub said_of_content : Option Given → UrbRecord → Tracking → Content → Said
said_of_content given urb t content = said_by given urb t content (handling_of content)

-- what a URB says, and what is known then
abbrev pub said_of_tracked : Option Given → UrbRecord → Tracked → Said
said_of_tracked given urb tracked = said_of_content given urb tracked.after tracked.content

-- what a frame says that may be no URB
abbrev pub said_of_urb : Option Given → Tracking → Result UrbRecord UrbFault → Said
said_of_urb given t (Err fault) = record { acts = []; after = t }
said_of_urb given t (Ok urb) = said_of_tracked given urb (outcome t urb)

-- What a frame says of devices, and what is known of them then.
unfoldable pub said_of_frame : Option Given → Tracking → FrameRecord → Said
said_of_frame given t frame = said_of_urb given t (urb_of frame)

-- what frames print, one after the other: their texts, joined, are this text
abbrev pub FramesGive : Option Given → Tracking → Session → List FrameRecord → List ℕ → Tracking → Session → Type 0
FramesGive given t session [] text after last = (text ≡ []) × (after ≡ t) × (last ≡ session)
FramesGive given t session (frame ∷ more) text after last =
    (first : List ℕ) × (next : Session) × (rest : List ℕ)
    × ActsGive (time_text (frame_time frame.time)) (with_line_counted session) (said_of_frame given t frame).acts first next
    × FramesGive given (said_of_frame given t frame).after next more rest after last
    × (text ≡ first ++ rest)

-- what was written of what is said: all of its text, or what its end leaves of it
abbrev pub WritesSaid : List ℕ → Session → Said → List ℕ → Result (Unit {0}) Cause → Tracking → Session → Type 0
WritesSaid time session said written (Ok _) after next =
    ActsGive time session said.acts written next × (after ≡ said.after)
WritesSaid time session said written (Err cause) after next = ActsEnd time session said.acts written cause

-- known bytes grew by what was written of what is said
abbrev pub AppendsSaid : Option (List ℕ) → Option (List ℕ) → List ℕ → Session → Said → Result (Unit {0}) Cause → Tracking
    → Session → Type 0
AppendsSaid old new time session said result after next =
    (written : List ℕ) × Appends old new written × WritesSaid time session said written result after next

-- known bytes grew by what was written of a frame
abbrev pub AppendsFrame : Option (List ℕ) → Option (List ℕ) → Option Given → Tracking → Session → FrameRecord
    → Result (Unit {0}) Cause → Tracking → Session → Type 0
AppendsFrame old new given t session frame result after next =
    AppendsSaid old new (time_text (frame_time frame.time)) (with_line_counted session) (said_of_frame given t frame) result after next
