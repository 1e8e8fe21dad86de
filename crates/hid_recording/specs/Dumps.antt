-- What came of a dump, and the numbers of devices that dumps are of (our choice: docs/RECORDINGS.md).
use Rattle.std.specs.Prelude.{ℕ, ◌==◌, Bool, false, true, ◌&&◌, nat_lt, List, [], ◌∷◌, ◌++◌, length, position, if◌then◌else◌, Option, None, Some}
use Rattle.hid_recording.specs.declared.dump.Address.{Address}
use Rattle.hid_recording.specs.declared.dump.Content.{Content}
use Rattle.hid_recording.specs.declared.dump.Content.TheVariants.{Descriptor, Stream}

-- what came of a dump: of what it is, if one is open, or whether one was dropped, whose bytes are passed over; of which
-- device it is, when it came, and its bytes so far
pub record DumpState : Type 0 where
  pub content : Option Content
  pub is_dropped : Bool
  pub device : ℕ
  pub time : List ℕ
  pub bytes : List ℕ

-- no dump is open
abbrev pub no_dump : DumpState
no_dump = record { content = None; is_dropped = false; device = 0; time = []; bytes = [] }

-- no dump is open, and bytes that come are of one that was dropped
abbrev pub dropped_dump : DumpState
dropped_dump = record { content = None; is_dropped = true; device = 0; time = []; bytes = [] }

-- a dump of which no byte came yet
abbrev pub empty_dump : Content → ℕ → List ℕ → DumpState
empty_dump content device time =
    record { content = Some content; is_dropped = false; device = device; time = time; bytes = [] }

-- the device that a dump describes, if the dump is a descriptor
abbrev pub described_device : Option Content → ℕ → Option ℕ
described_device None device = None
described_device (Some Descriptor) device = Some device
described_device (Some Stream) device = None

-- two addresses are one interface of one device
abbrev pub is_same_address : Address → Address → Bool
is_same_address a b = (a.bus == b.bus) && ((a.device == b.device) && (a.interface == b.interface))

-- the place at which an interface came first, or the next one of sixteen
abbrev pub number_or_next : Option ℕ → ℕ → Option ℕ
number_or_next (Some place) count = Some place
number_or_next None count = if nat_lt count 16 then Some count else None

-- the number of the device of an interface: how many interfaces came before it first came, of sixteen
abbrev pub number_of_address : List Address → Address → Option ℕ
number_of_address known address = number_or_next (position (is_same_address address) known) (length known)

-- the interfaces that came, with one that may be new and is added if there is a place for it
abbrev pub addresses_with_number : Option ℕ → List Address → Address → List Address
addresses_with_number (Some place) known address = known
addresses_with_number None known address = if nat_lt (length known) 16 then known ++ address ∷ [] else known

-- the interfaces that came, with this one
abbrev pub with_address : List Address → Address → List Address
with_address known address = addresses_with_number (position (is_same_address address) known) known address
