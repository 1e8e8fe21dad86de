use Rattle.std.proofs.Common.{◌≡◌, drop}
use Rattle.usbip_session.specs.Requests.{first_from}
use Rattle.usbip_session.proofs.session.first_with_output.Given as goal

abbrev pub invariant-loop-place : goal.invariant-loop-place
invariant-loop-place l = first_from l.place l.bytes (drop l.place l.interfaces) ≡ first_from 0 l.bytes l.interfaces
