use Rattle.std.proofs.Common.{◌≡◌, ◌++◌, take, drop}
use Rattle.usbip_import.specs.Flights.{flight_of, without}
use Rattle.usbip_import.proofs.flight.place_of.Given as goal

abbrev pub invariant-loop-place : goal.invariant-loop-place
invariant-loop-place l =
    record {
      later : flight_of l.seqnum (drop l.place l.flights) ≡ flight_of l.seqnum l.flights;
      kept : take l.place l.flights ++ without l.seqnum (drop l.place l.flights) ≡ without l.seqnum l.flights;
    }
