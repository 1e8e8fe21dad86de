-- The messages that go between a host and the server of an imported device (USB/IP, as Linux speaks it): headers of 48 bytes,
-- whose words have their highest byte first.
use Rattle.std.specs.Prelude.{◌≡◌, ℕ, ◌+◌, ◌-◌, ◌^◌, ◌≤◌, ◌==◌, if◌then◌else◌, List, [], ◌∷◌, ◌++◌, length, slice_index, take, drop, replicate, Option, Some, None}
use Rattle.std.specs.List.{flat_map}
use Rattle.std.specs.Int.{w32, to_be_bytes, from_be_bytes}
use Rattle.usbip.specs.declared.message.TheConstants.{MAX_DATA}
use Rattle.usbip.specs.declared.message.Direction.{Direction}
use Rattle.usbip.specs.declared.message.Direction.TheVariants.{Out, In}
use Rattle.usbip.specs.declared.message.Status.{Status}
use Rattle.usbip.specs.declared.message.Status.TheVariants.{Success, Stalled, Unlinked, Overflow, NoMemory, BadRequest, Shutdown, Other}
use Rattle.usbip.specs.declared.message.Submit.{Submit}
use Rattle.usbip.specs.declared.message.Unlink.{Unlink}
use Rattle.usbip.specs.declared.message.Command.{Command}
use Rattle.usbip.specs.declared.message.Command.TheVariants as commands
use Rattle.usbip.specs.declared.message.SubmitReply.{SubmitReply}
use Rattle.usbip.specs.declared.message.UnlinkReply.{UnlinkReply}
use Rattle.usbip.specs.declared.message.Reply.{Reply}
use Rattle.usbip.specs.declared.message.Reply.TheVariants as replies

-- ---- words

-- the word at an offset, its highest byte first
abbrev pub word_at : List ℕ → ℕ → ℕ
word_at bytes at =
    from_be_bytes w32 (slice_index bytes at ∷ slice_index bytes (at + 1) ∷ slice_index bytes (at + 2)
    ∷ slice_index bytes (at + 3) ∷ [])

-- the eight bytes at an offset
abbrev pub eight_at : List ℕ → ℕ → List ℕ
eight_at bytes at = take 8 (drop at bytes)

-- ten words, and eight bytes after them
abbrev pub header_bytes : List ℕ → List ℕ → List ℕ
header_bytes words last = flat_map (to_be_bytes w32) words ++ last

-- ---- directions and statuses

-- 0 to the device, 1 to the host
abbrev pub direction_word : Direction → ℕ
direction_word Out = 0
direction_word In = 1

-- the direction of a word, if it is one
abbrev pub direction_of : ℕ → Option Direction
direction_of word = if word == 0 then Some Out else if word == 1 then Some In else None

-- the word of a number below 0, by its value without the sign, in two's complement
abbrev pub negative : ℕ → ℕ
negative n = 2 ^ 32 - n

-- the word of a status: Linux's number of the error. Example: EPIPE is FF FF FF E0
abbrev pub status_word : Status → ℕ
status_word Success = 0
status_word Stalled = negative 32
status_word Unlinked = negative 104
status_word Overflow = negative 75
status_word NoMemory = negative 12
status_word BadRequest = negative 53
status_word Shutdown = negative 108
status_word (Other word) = word

-- the status of a word
abbrev pub status_of : ℕ → Status
status_of word =
    if word == 0 then Success
    else if word == negative 32 then Stalled
    else if word == negative 104 then Unlinked
    else if word == negative 75 then Overflow
    else if word == negative 12 then NoMemory
    else if word == negative 53 then BadRequest
    else if word == negative 108 then Shutdown
    else Other word

-- ---- commands

-- The words of a submit: start_frame and number_of_packets are 0, as Linux sends them.
abbrev pub submit_words : Submit → List ℕ
submit_words s =
    1 ∷ s.seqnum ∷ s.device ∷ direction_word s.direction ∷ s.endpoint ∷ s.flags ∷ s.length ∷ 0 ∷ 0 ∷ s.interval ∷ []

-- the words of an unlink
abbrev pub unlink_words : Unlink → List ℕ
unlink_words u = 2 ∷ u.seqnum ∷ u.device ∷ 0 ∷ 0 ∷ u.submit ∷ 0 ∷ 0 ∷ 0 ∷ 0 ∷ []

-- eight zeros
abbrev pub no_setup : List ℕ
no_setup = replicate 8 0

-- The header of a command. Example: CMD_UNLINK 13 of submit 12 begins 00 00 00 02 00 00 00 0D
abbrev pub command_bytes : Command → List ℕ
command_bytes (commands.Submit s) = header_bytes (submit_words s) s.setup
command_bytes (commands.Unlink u) = header_bytes (unlink_words u) no_setup

-- in bytes, the data that follow the header of a submit
abbrev pub data_length : Direction → ℕ → ℕ
data_length Out length = length
data_length In length = 0

-- What stands at which offset of a CMD_SUBMIT. No other byte is looked at: start_frame at 28 and number_of_packets at 32 may be
-- anything.
pub record IsSubmit (header : List ℕ) (s : Submit) : Type 0 where
  pub command : word_at header 0 ≡ 1
  pub seqnum : word_at header 4 ≡ s.seqnum
  pub device : word_at header 8 ≡ s.device
  pub direction : word_at header 12 ≡ direction_word s.direction
  pub endpoint : word_at header 16 ≡ s.endpoint
  pub flags : word_at header 20 ≡ s.flags
  pub room : word_at header 24 ≡ s.length
  pub interval : word_at header 36 ≡ s.interval
  pub setup : eight_at header 40 ≡ s.setup
  pub short : data_length s.direction s.length ≤ MAX_DATA

-- What stands at which offset of a CMD_UNLINK. No other byte is looked at.
pub record IsUnlink (header : List ℕ) (u : Unlink) : Type 0 where
  pub command : word_at header 0 ≡ 2
  pub seqnum : word_at header 4 ≡ u.seqnum
  pub device : word_at header 8 ≡ u.device
  pub submit : word_at header 20 ≡ u.submit

-- the header is one of this command
abbrev pub IsCommand : List ℕ → Command → Type 0
IsCommand header (commands.Submit s) = IsSubmit header s
IsCommand header (commands.Unlink u) = IsUnlink header u

-- the data of a command are no longer than they may be
abbrev pub IsShort : Command → Type 0
IsShort (commands.Submit s) = data_length s.direction s.length ≤ MAX_DATA
IsShort (commands.Unlink u) = Unit {0}

-- ---- replies

-- the words of a reply to a submit
abbrev pub submit_reply_words : SubmitReply → List ℕ
submit_reply_words r = 3 ∷ r.seqnum ∷ 0 ∷ 0 ∷ 0 ∷ status_word r.status ∷ r.length ∷ 0 ∷ 0 ∷ 0 ∷ []

-- the words of a reply to an unlink
abbrev pub unlink_reply_words : UnlinkReply → List ℕ
unlink_reply_words r = 4 ∷ r.seqnum ∷ 0 ∷ 0 ∷ 0 ∷ status_word r.status ∷ 0 ∷ 0 ∷ 0 ∷ 0 ∷ []

-- The header of a reply. Example: RET_SUBMIT 3 with STALL is 00 00 00 03, 00 00 00 03, twelve zeros, FF FF FF E0 and 24 zeros
abbrev pub reply_bytes : Reply → List ℕ
reply_bytes (replies.Submit r) = header_bytes (submit_reply_words r) no_setup
reply_bytes (replies.Unlink r) = header_bytes (unlink_reply_words r) no_setup

-- What stands at which offset of a RET_SUBMIT. No other byte is looked at.
pub record IsSubmitReply (header : List ℕ) (r : SubmitReply) : Type 0 where
  pub command : word_at header 0 ≡ 3
  pub seqnum : word_at header 4 ≡ r.seqnum
  pub status : status_of (word_at header 20) ≡ r.status
  pub length : word_at header 24 ≡ r.length

-- What stands at which offset of a RET_UNLINK. No other byte is looked at.
pub record IsUnlinkReply (header : List ℕ) (r : UnlinkReply) : Type 0 where
  pub command : word_at header 0 ≡ 4
  pub seqnum : word_at header 4 ≡ r.seqnum
  pub status : status_of (word_at header 20) ≡ r.status

-- the header is one of this reply
abbrev pub IsReply : List ℕ → Reply → Type 0
IsReply header (replies.Submit r) = IsSubmitReply header r
IsReply header (replies.Unlink r) = IsUnlinkReply header r

-- a status that its word gives back: each but a number that has a name
abbrev pub IsNamed : Status → Type 0
IsNamed status = status_of (status_word status) ≡ status

-- the status of a reply is one that its word gives back
abbrev pub HasNamedStatus : Reply → Type 0
HasNamedStatus (replies.Submit r) = IsNamed r.status
HasNamedStatus (replies.Unlink r) = IsNamed r.status
