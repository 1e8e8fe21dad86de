use Rattle.std.proofs.Common.{◌≡◌, ◌*◌, length, take}
use Rattle.hid_gadget.specs.Rooms.{with_front}
use Rattle.hid_gadget.specs.WholeReports.{bytes_left, core_after_polls, fitting_pieces}
use Rattle.hid_gadget.proofs.gadget.Gadget.take_pieces.Given as goal

-- the pieces so far stand at the front of the room, and are acknowledged
abbrev pub invariant-loop-piece : goal.invariant-loop-piece
invariant-loop-piece l = record {
  core : l.self ≡ core_after_polls l.piece l.fn.self;
  room : l.report ≡ with_front (take (64 * l.piece) (bytes_left l.fn.self l.fn.number)) l.fn.report;
  count : l.taken ≡ length (take (64 * l.piece) (bytes_left l.fn.self l.fn.number));
  all : l.count ≡ fitting_pieces (length l.fn.report) (bytes_left l.fn.self l.fn.number);
}
