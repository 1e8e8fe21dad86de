use Rattle.std.proofs.Common.{◌≡◌, ◌++◌, take, drop}
use Rattle.usbip.specs.Pending.{is_pending, without}
use Rattle.usbip.proofs.pending.place_of.Given as goal

abbrev pub invariant-loop-place : goal.invariant-loop-place
invariant-loop-place l =
    record {
      later : is_pending l.seqnum (drop l.place l.submits) ≡ is_pending l.seqnum l.submits;
      kept : take l.place l.submits ++ without l.seqnum (drop l.place l.submits) ≡ without l.seqnum l.submits;
    }
