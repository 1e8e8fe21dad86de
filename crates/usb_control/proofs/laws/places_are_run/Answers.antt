use Rattle.usb_control.proofs.InterleavingLemmas.{goes_by, places_are_run, runs_so, setup_stays}
use Rattle.usb_control.proofs.laws.places_are_run.Goals as goal

pub returns : goal.returns
returns g c = record { stands = places_are_run; same = setup_stays; runs = runs_so; goes_by = goes_by }
