use Rattle.std.proofs.Common.{◌∙◌, sym}
use Rattle.usbip_import.specs.declared.flight.Flight.{Flight}
use Rattle.usbip_import.specs.declared.flight.Purpose.TheVariants.{Control}
use Rattle.usbip_import.proofs.FlightLemmas.{found}
use Rattle.usbip_import.proofs.flight.place_of.Goals as goal

abbrev no_flight : Flight
no_flight = record { seqnum = 0; purpose = Control; room = 0 }

pub returns-then-flight-seqnum : goal.returns-then-flight-seqnum
returns-then-flight-seqnum c =
    let here = found c.args.seqnum c.loop-place.place c.args.flights.now no_flight c.loop-place-test.true c.if-flight-seqnum.true in
    let before = c.loop-place.invariant in
    (c.loop-place-test.true, sym before.later ∙ here.0, sym before.kept ∙ here.1)
