-- The player, seen as the session that it is in: for proofs (our choice).
use Rattle.std.specs.Prelude.{ℕ, string_bytes}
use Rattle.hid_recording.specs.declared.player.Player.{Player}
use Rattle.hid_recording.specs.declared.dump.Dump.{Dump}
use Rattle.hid_recording.specs.Dumps.{DumpState}
use Rattle.hid_recording.specs.declared.summary.Summary.{Summary}
use Rattle.hid_recording.specs.Session.{Session}

-- what came of a dump
abbrev pub gathering_of : Dump → DumpState
gathering_of dump =
    record {
      content = dump.content;
      is_dropped = dump.is_dropped;
      device = dump.device;
      time = dump.time.items;
      bytes = dump.bytes.items;
    }

-- the session of a player
abbrev pub session_of : Player → Session
session_of p = record {
  options = p.options;
  counted = p.counted;
  current = p.devices.current;
  devices = p.devices.slots.items;
  addresses = p.addresses.known.items;
  gathered = gathering_of p.dump;
  time = string_bytes p.time;
  lines = p.lines;
  descriptors = p.descriptors;
  reports = p.reports;
  events = p.events;
  refused = p.refused;
}

-- what is counted of a session, in n lines
abbrev pub summary_of : Session → ℕ → Summary
summary_of session lines = record {
  lines = lines;
  descriptors = session.descriptors;
  reports = session.reports;
  events = session.events;
  refused = session.refused;
}
