-- What is read of the bytes of a message is the message.
use Rattle.std.proofs.Common.{◌≡◌, ◌<◌, ◌≤◌, ◌^◌, refl, ap, ◌∙◌, arith, length}
use Rattle.std.specs.Int.{w32, to_be_bytes, from_be_bytes}
use Rattle.std.proofs.lemmas.List.{take_all}
use Rattle.std.proofs.lemmas.Nat.{from_be_bytes-to_be_bytes_4}
use Rattle.usbip.specs.declared.message.TheConstants.{MAX_DATA}
use Rattle.usbip.specs.declared.message.Direction.{Direction}
use Rattle.usbip.specs.declared.message.Direction.TheVariants.{Out, In}
use Rattle.usbip.specs.declared.message.Submit.{Submit}
use Rattle.usbip.specs.declared.message.Unlink.{Unlink}
use Rattle.usbip.specs.declared.message.SubmitReply.{SubmitReply}
use Rattle.usbip.specs.declared.message.UnlinkReply.{UnlinkReply}
use Rattle.usbip.specs.Messages.{IsSubmit, IsUnlink, IsSubmitReply, IsUnlinkReply, IsNamed, data_length, direction_word, header_bytes, no_setup, status_of, status_word, submit_reply_words, submit_words, unlink_reply_words, unlink_words}

-- the fields of a submit fit their words
pub record FitsWords (s : Submit) : Type 0 where
  pub seqnum : s.seqnum < 2 ^ 32
  pub device : s.device < 2 ^ 32
  pub endpoint : s.endpoint < 2 ^ 32
  pub flags : s.flags < 2 ^ 32
  pub room : s.length < 2 ^ 32
  pub interval : s.interval < 2 ^ 32
  pub setup : length s.setup ≡ 8

direction_again : (d : Direction) → from_be_bytes w32 (to_be_bytes w32 (direction_word d)) ≡ direction_word d
direction_again Out = refl
direction_again In = refl

pub submit_is_read : (s : Submit) → FitsWords s → data_length s.direction s.length ≤ MAX_DATA → IsSubmit (header_bytes (submit_words s) s.setup) s
submit_is_read s fits short = record {
  command = refl;
  seqnum = from_be_bytes-to_be_bytes_4 s.seqnum fits.seqnum;
  device = from_be_bytes-to_be_bytes_4 s.device fits.device;
  direction = direction_again s.direction;
  endpoint = from_be_bytes-to_be_bytes_4 s.endpoint fits.endpoint;
  flags = from_be_bytes-to_be_bytes_4 s.flags fits.flags;
  room = from_be_bytes-to_be_bytes_4 s.length fits.room;
  interval = from_be_bytes-to_be_bytes_4 s.interval fits.interval;
  setup = take_all 8 s.setup (omega (arith, fits.setup));
  short = short;
}

pub unlink_is_read : (u : Unlink) → u.seqnum < 2 ^ 32 → u.device < 2 ^ 32 → u.submit < 2 ^ 32 → IsUnlink (header_bytes (unlink_words u) no_setup) u
unlink_is_read u a b c = record {
  command = refl;
  seqnum = from_be_bytes-to_be_bytes_4 u.seqnum a;
  device = from_be_bytes-to_be_bytes_4 u.device b;
  submit = from_be_bytes-to_be_bytes_4 u.submit c;
}

pub submit_reply_is_read : (r : SubmitReply) → r.seqnum < 2 ^ 32 → status_word r.status < 2 ^ 32 → r.length < 2 ^ 32 → IsNamed r.status → IsSubmitReply (header_bytes (submit_reply_words r) no_setup) r
submit_reply_is_read r a b c named = record {
  command = refl;
  seqnum = from_be_bytes-to_be_bytes_4 r.seqnum a;
  status = ap status_of (from_be_bytes-to_be_bytes_4 (status_word r.status) b) ∙ named;
  length = from_be_bytes-to_be_bytes_4 r.length c;
}

pub unlink_reply_is_read : (r : UnlinkReply) → r.seqnum < 2 ^ 32 → status_word r.status < 2 ^ 32 → IsNamed r.status → IsUnlinkReply (header_bytes (unlink_reply_words r) no_setup) r
unlink_reply_is_read r a b named = record {
  command = refl;
  seqnum = from_be_bytes-to_be_bytes_4 r.seqnum a;
  status = ap status_of (from_be_bytes-to_be_bytes_4 (status_word r.status) b) ∙ named;
}
